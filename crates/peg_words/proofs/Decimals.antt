-- A number's word is what is printed of it.
use Rattle.std.proofs.Common.{◌≡◌, ◌≤◌, ◌<◌, ◌^◌, ◌∙◌, ◌&&◌, ℕ, Bool, true, false, List, Result, Ok}
use Rattle.std.proofs.Common.{Some, None, refl, sym, ap, subst, arith, decimal, nat_le}
use Rattle.std.specs.Prelude.{is_ok}
use Rattle.std.specs.Result.{result_ok}
use Rattle.std.specs.Str.{bytes_eq}
use Rattle.std.specs.Str.Parse.{ParsesUnsigned, digits_value}
use Rattle.std.proofs.lemmas.Bool.Decides.{nat_tests}
use Rattle.std.proofs.lemmas.Fmt.{parse-decimal, decimal_is_IsNumeral}
use Rattle.std.proofs.lemmas.Slice.Eq.{bytes_eq-Decides}
use Rattle.peg_name.specs.Limits.{is_between}
use Rattle.peg_meaning.specs.Commands.{number_within}

pub and_true : (a b : Bool) → (a && b) ≡ true → (a ≡ true) × (b ≡ true)
and_true true b both = (refl, both)
and_true false b both = absurd (cc)

module _ (low high : ℕ) (word : List ℕ) (top : high < 2 ^ 64) where
  pub found :
      (v : ℕ) → low ≤ v → v ≤ high → decimal v ≡ word → Some v ≡ number_within low high word
  found v above below is =
      let value : digits_value 10 word ≡ v =
      ap (digits_value 10) (sym is) ∙ (decimal_is_IsNumeral v (omega arith)).1 in
      let fits : is_between low high v ≡ true = grind (arith, nat_tests) in
      let same : bytes_eq (decimal v) word ≡ true = (bytes_eq-Decides (decimal v) word).1 is in
      rw (value, fits, same) refl

  pub none :
      {E : Type 0} (r : Result ℕ E) → ParsesUnsigned 64 10 word r
      → ((v : ℕ) → r ≡ Ok v → low ≤ v → v ≤ high → decimal v ≡ word → ⊥)
      → None ≡ number_within low high word
  none r parses other = by (is_between low high n && bytes_eq (decimal n) word) refl
    where
      n : ℕ
      n = digits_value 10 word

      by : (b : Bool) → (is_between low high n && bytes_eq (decimal n) word) ≡ b
          → None ≡ number_within low high word
      by false e = rw e refl
      by true e =
          let tests = and_true (is_between low high n) (bytes_eq (decimal n) word) e in
          let ends = and_true (nat_le low n) (nat_le n high) tests.0 in
          let above : low ≤ n = grind (arith, nat_tests, ends.0) in
          let below : n ≤ high = grind (arith, nat_tests, ends.1) in
          let is : decimal n ≡ word = (bytes_eq-Decides (decimal n) word).0 tests.1 in
          absurd (other n (parse-decimal 64 n word r (omega arith) (omega arith) (sym is) parses)
          above below is)

  pub none_parsed :
      {E : Type 0} (r : Result ℕ E) → ParsesUnsigned 64 10 word r → false ≡ is_ok r
      → None ≡ number_within low high word
  none_parsed r parses e =
      none r parses
      (λ v is above below text. let bad : false ≡ true = e ∙ ap is_ok is in absurd (cc))

  pub other :
      {E : Type 0} (r : Result ℕ E) (n : ℕ) → ParsesUnsigned 64 10 word r → Some n ≡ result_ok r
      → (low ≤ n → n ≤ high → decimal n ≡ word → ⊥) → None ≡ number_within low high word
  other r n parses e never =
      none r parses
      (λ v is above below text.
      let both : Some n ≡ Some v = e ∙ ap result_ok is in
      let same : v ≡ n = cc in
      never (subst (λ k. low ≤ k) same above) (subst (λ k. k ≤ high) same below)
      (subst (λ k. decimal k ≡ word) same text))
