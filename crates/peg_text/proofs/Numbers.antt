-- A word is a number just where it is the number's digits.
use Rattle.std.proofs.Common.{◌≡◌, ◌<◌, ◌≤◌, ◌+◌, ◌-◌, ◌*◌, ◌^◌, ℕ, zero, suc, true, false, ◌&&◌}
use Rattle.std.proofs.Common.{Some, List, [], ◌∷◌, length, get_or, refl, arith, rules, ap, sym}
use Rattle.std.proofs.Common.{◌∙◌}
use Rattle.std.proofs.Common.{nat_lt}
use Rattle.std.specs.Prelude.{decimal}
use Rattle.std.specs.Str.{all_ascii_digits}
use Rattle.std.proofs.lemmas.Str.Parse.{IsNumeralModel, numerals_by_fold, tells_all_ascii_digits}
use Rattle.std.proofs.lemmas.Fmt.{digits_decimal, digits_value-decimal, decimal-digits_value}
use Rattle.std.proofs.lemmas.Fmt.{decimal_digit, decimal_nonempty, first_decimal}
use Rattle.std.proofs.lemmas.Option.{same_Some}
use Rattle.std.proofs.lemmas.Bool.Decides.{nat_tests, Decides-ltb}
use Rattle.peg_name.specs.Limits.{is_between}
use Rattle.peg_text.specs.Reading.{number_on, is_ill_begun, number_of}
use Rattle.peg_text.proofs.Readers.{both_true, if_passed, if_failed, WordLaw}

abbrev read_on : ℕ → List ℕ → ℕ
read_on n [] = n
read_on n (c ∷ cs) = read_on (n * 10 + (c - 48)) cs

own : IsNumeralModel (λ ds. all_ascii_digits ds ≡ true) (read_on 0)
own = numerals_by_fold _ tells_all_ascii_digits read_on (search rules)

grows : (w : List ℕ) (n : ℕ) → n ≤ read_on n w
grows [] n = omega arith
grows (c ∷ cs) n =
    let more : n * 10 + (c - 48) ≤ read_on (n * 10 + (c - 48)) cs = grows cs (n * 10 + (c - 48)) in
    omega arith

number_on_sound :
    (w : List ℕ) (n m : ℕ) → number_on n w ≡ Some m
    → (all_ascii_digits w ≡ true) × (read_on n w ≡ m) × (n < 2 ^ 64 → m < 2 ^ 64)
number_on_sound [] n m e = let same : n ≡ m = same_Some n m e in (refl, same, λ small. omega arith)
number_on_sound (b ∷ bs) n m e =
    let passed =
    if_passed (is_between 48 57 b && nat_lt (n * 10 + (b - 48)) (2 ^ 64))
    (number_on (n * 10 + (b - 48)) bs) m e in
    let parts = both_true (is_between 48 57 b) (nat_lt (n * 10 + (b - 48)) (2 ^ 64)) passed.0 in
    let rest = number_on_sound bs (n * 10 + (b - 48)) m passed.1 in
    (rw parts.0 rest.0, rest.1, λ small. rest.2 ((Decides-ltb _ _).0 parts.1))

number_on_complete :
    (w : List ℕ) (n : ℕ) → all_ascii_digits w ≡ true → read_on n w < 2 ^ 64
    → number_on n w ≡ Some (read_on n w)
number_on_complete [] n digits small = refl
number_on_complete (b ∷ bs) n digits small =
    let parts = both_true (is_between 48 57 b) (all_ascii_digits bs) digits in
    let more : n * 10 + (b - 48) ≤ read_on (n * 10 + (b - 48)) bs = grows bs (n * 10 + (b - 48)) in
    let fits : nat_lt (n * 10 + (b - 48)) (2 ^ 64) ≡ true = (Decides-ltb _ _).1 (omega arith) in
    rw (parts.0, fits) (number_on_complete bs (n * 10 + (b - 48)) parts.1 small)

well_begun :
    (w : List ℕ) → 0 < length w → (get_or w 0 0 ≡ 48 → length w ≡ 1) → is_ill_begun w ≡ false
well_begun w some one = grind (arith, nat_tests)

begun_well :
    (w : List ℕ) → is_ill_begun w ≡ false → (0 < length w) × (get_or w 0 0 ≡ 48 → length w ≡ 1)
begun_well w e = grind (arith, nat_tests)

decimal_begun : (n : ℕ) → n < 2 ^ 64 → is_ill_begun (decimal n) ≡ false
decimal_begun zero small = rw (decimal_digit 0 (omega arith)) refl
decimal_begun (suc n) small =
    let first : 48 < get_or (decimal (suc n)) 0 0 = first_decimal (suc n) (omega arith) small in
    well_begun (decimal (suc n)) (decimal_nonempty (suc n) small) (λ e. absurd (omega arith))

pub decimal_digits : (n : ℕ) → n < 2 ^ 64 → all_ascii_digits (decimal n) ≡ true
decimal_digits n small = digits_decimal own n small

pub number_law : WordLaw number_of decimal (λ n. n < 2 ^ 64)
number_law = record {
  sound = λ w n e.
      let passed = if_failed (is_ill_begun w) (number_on 0 w) n e in
      let read = number_on_sound w 0 n passed.1 in
      let begun = begun_well w passed.0 in
      let small : n < 2 ^ 64 = read.2 (omega arith) in (
        sym (decimal-digits_value own w read.0 begun.0 begun.1 (omega (arith, read.1))) ∙ ap
            decimal
            read.1,
        small,
      );
  complete = λ n small.
      let digits : all_ascii_digits (decimal n) ≡ true = digits_decimal own n small in
      let value : read_on 0 (decimal n) ≡ n = digits_value-decimal own n small in
      rw (decimal_begun n small)
      (number_on_complete (decimal n) 0 digits (omega (arith, value)) ∙ ap Some value);
}
