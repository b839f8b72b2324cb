-- Numbers between colons, read one after the other.
use Rattle.std.proofs.Common.{◌≡◌, ◌≢◌, ◌<◌, ◌≤◌, ◌∙◌, ℕ, List, [], ◌∷◌, ◌++◌, length, refl, sym}
use Rattle.std.proofs.Common.{ap, ap₂, subst, arith, ◌==◌, ◌&&◌, Bool, true, false, decimal, nat_le}
use Rattle.std.proofs.Common.{Option, Some, None, take, get_or, slice_index_or, zero, suc}
use Rattle.std.specs.List.{AllByRecursion}
use Rattle.std.specs.Str.{bytes_eq}
use Rattle.std.specs.Str.Parse.{digits_value}
use Rattle.std.proofs.lemmas.Bool.Decides.{nat_tests}
use Rattle.peg_name.specs.Name.{Rack}
use Rattle.peg_name.specs.Limits.{is_between}
use Rattle.peg_meaning.specs.Commands.{number_within, numbers_within, rack_of_numbers}
use Rattle.peg_meaning.specs.Commands.{rack_of, between_colons, weights_of}
use Rattle.peg_words.specs.Jobs.{IsWeight}
use Rattle.peg_words.proofs.Decimals.{and_true}

module _ (low high : ℕ) where
  abbrev read : List (List ℕ) → Option (List ℕ)
  read ws = numbers_within low high ws

  -- one more
  pub more : (ws : List (List ℕ)) (ns : List ℕ) (w : List ℕ) (n : ℕ) → read ws ≡ Some ns
      → number_within low high w ≡ Some n → read (ws ++ w ∷ []) ≡ Some (ns ++ n ∷ [])
  more [] ns w n before one =
      let none : ns ≡ [] = cc in
      rw (none, one) refl
  more (v ∷ ws) ns w n before one =
      by (number_within low high v) (read ws) refl refl (λ ms f. more ws ms w n f one)
    where
      by : (o : Option ℕ) (p : Option (List ℕ)) → number_within low high v ≡ o → read ws ≡ p
          → ((ms : List ℕ) → read ws ≡ Some ms → read (ws ++ w ∷ []) ≡ Some (ms ++ n ∷ []))
          → read (v ∷ ws ++ w ∷ []) ≡ Some (ns ++ n ∷ [])
      by None p e f rest =
          let bad : None ≡ Some ns = rw e at before in
          absurd (cc)
      by (Some m) None e f rest =
          let bad : None ≡ Some ns = rw (e, f) at before in
          absurd (cc)
      by (Some m) (Some ms) e f rest =
          let all : Some (m ∷ ms) ≡ Some ns = rw (e, f) at before in
          let is : ns ≡ m ∷ ms = cc in
          rw (is, e, rest ms f) refl

  -- a part that is no number, and there are none
  stops : (ws : List (List ℕ)) (w : List ℕ) (rest : List (List ℕ)) → number_within low high w ≡ None
      → read (ws ++ w ∷ rest) ≡ None
  stops [] w rest none = rw none refl
  stops (v ∷ ws) w rest none = by (number_within low high v) refl (stops ws w rest none)
    where
      by : (o : Option ℕ) → number_within low high v ≡ o → read (ws ++ w ∷ rest) ≡ None
          → read (v ∷ ws ++ w ∷ rest) ≡ None
      by None e more = rw e refl
      by (Some n) e more = rw (e, more) refl

  as_many : (ws : List (List ℕ)) (ns : List ℕ) → read ws ≡ Some ns → length ns ≡ length ws
  as_many [] ns is =
      let none : ns ≡ [] = cc in
      rw none refl
  as_many (v ∷ ws) ns is = by (number_within low high v) (read ws) refl refl (λ ms. as_many ws ms)
    where
      by : (o : Option ℕ) (p : Option (List ℕ)) → number_within low high v ≡ o → read ws ≡ p
          → ((ms : List ℕ) → read ws ≡ Some ms → length ms ≡ length ws)
          → length ns ≡ length (v ∷ ws)
      by None p e f rest =
          let bad : None ≡ Some ns = rw e at is in
          absurd (cc)
      by (Some m) None e f rest =
          let bad : None ≡ Some ns = rw (e, f) at is in
          absurd (cc)
      by (Some m) (Some ms) e f rest =
          let all : Some (m ∷ ms) ≡ Some ns = rw (e, f) at is in
          let same : ns ≡ m ∷ ms = cc in
          rw same (omega (arith, rest ms f))

many : (ns : List ℕ) → 7 < length ns → rack_of_numbers ns ≡ None
many [] few = absurd (omega (arith, few))
many (a ∷ []) few = absurd (omega (arith, few))
many (a ∷ b ∷ []) few = absurd (omega (arith, few))
many (a ∷ b ∷ c ∷ []) few = absurd (omega (arith, few))
many (a ∷ b ∷ c ∷ d ∷ []) few = absurd (omega (arith, few))
many (a ∷ b ∷ c ∷ d ∷ e ∷ []) few = absurd (omega (arith, few))
many (a ∷ b ∷ c ∷ d ∷ e ∷ f ∷ []) few = absurd (omega (arith, few))
many (a ∷ b ∷ c ∷ d ∷ e ∷ f ∷ g ∷ []) few = absurd (omega (arith, few))
many (a ∷ b ∷ c ∷ d ∷ e ∷ f ∷ g ∷ h ∷ ns) few = refl

-- what was read, this part, and the rest are all of them
split_at : (all : List (List ℕ)) (before : List (List ℕ)) (w : List ℕ)
    → before ≡ take (length before) all → length before < length all
    → w ≡ get_or all (length before) w → (rest : List (List ℕ)) × (all ≡ before ++ w ∷ rest)
split_at [] before w same within here = absurd (omega (arith, within))
split_at (v ∷ all) [] w same within here = (all, ap (λ x. x ∷ all) (sym here))
split_at (v ∷ all) (u ∷ before) w same within here =
    let first : u ≡ v = cc in
    let rest = split_at all before w (cc) (omega (arith, within)) here in
    (rest.0, ap₂ (λ x xs. x ∷ xs) (sym first) rest.1)

module _ (low high : ℕ) (word : List ℕ) (before : List (List ℕ)) (part : List ℕ)
    (same : before ≡ take (length before) (between_colons word))
    (within : length before < length (between_colons word))
    (here : part ≡ get_or (between_colons word) (length before) part) where
  abbrev Whole : List ℕ → Type 0
  Whole numbers = numbers_within low high (between_colons word) ≡ Some numbers

  -- a part that is no number
  pub none_with : number_within low high part ≡ None → (numbers : List ℕ) → Whole numbers → ⊥
  none_with none numbers whole =
      let found = split_at (between_colons word) before part same within here in
      let bad : None ≡ Some numbers =
      sym (stops low high before part found.0 none)
      ∙ ap (numbers_within low high) (sym found.1) ∙ whole in
      cc

  -- so many numbers stand before
  pub more_than : (ns : List ℕ) → numbers_within low high before ≡ Some ns → (numbers : List ℕ)
      → Whole numbers → length ns < length numbers
  more_than ns read numbers whole =
      omega (
        arith,
        within,
        as_many low high before ns read,
        as_many low high (between_colons word) numbers whole,
      )

-- too many numbers for a rack, or none
pub no_rack : (word : List ℕ)
    → ((numbers : List ℕ)
    → numbers_within 0 18446744073709551615 (between_colons word) ≡ Some numbers
    → 7 < length numbers)
    → rack_of word ≡ None
no_rack word over = by _ refl
  where
    by : (o : Option (List ℕ))
        → numbers_within 0 18446744073709551615 (between_colons word) ≡ o → rack_of word ≡ None
    by None e = rw e refl
    by (Some numbers) e = rw e (many numbers (over numbers e))

-- ---- weights

unlike : (m n : ℕ) → (m ≡ n → ⊥) → (m == n) ≡ false
unlike m n other = by (m == n) refl
  where
    by : (b : Bool) → (m == n) ≡ b → (m == n) ≡ false
    by true e = absurd (other (grind (arith, nat_tests)))
    by false e = e

-- there is not one for each server
pub no_weights : (rack : Rack) (word : List ℕ)
    → ((numbers : List ℕ) → numbers_within 1 1000 (between_colons word) ≡ Some numbers
    → length numbers ≢ rack.servers)
    → weights_of rack word ≡ None
no_weights rack word other = by _ refl
  where
    by : (o : Option (List ℕ)) → numbers_within 1 1000 (between_colons word) ≡ o
        → weights_of rack word ≡ None
    by None e = rw e refl
    by (Some numbers) e =
        rw (e, unlike (length numbers) rack.servers (other numbers e)) refl

pub weights_are : (rack : Rack) (word numbers : List ℕ)
    → numbers_within 1 1000 (between_colons word) ≡ Some numbers → length numbers ≡ rack.servers
    → weights_of rack word ≡ Some numbers
weights_are rack word numbers e count = rw (e, alike (length numbers) rack.servers count) refl
  where
    alike : (m n : ℕ) → m ≡ n → (m == n) ≡ true
    alike m n same = grind (arith, nat_tests)

within_of : (n : ℕ) (w : List ℕ) → number_within 1 1000 w ≡ Some n → IsWeight n
within_of n w is = by (is_between 1 1000 (digits_value 10 w) && bytes_eq (decimal (digits_value 10 w)) w) refl
  where
    by : (b : Bool)
        → (is_between 1 1000 (digits_value 10 w) && bytes_eq (decimal (digits_value 10 w)) w) ≡ b
        → IsWeight n
    by true e =
        let m = digits_value 10 w in
        let found : Some m ≡ Some n = rw e at is in
        let same : m ≡ n = cc in
        let tests = and_true (is_between 1 1000 m) (bytes_eq (decimal m) w) e in
        let ends = and_true (nat_le 1 m) (nat_le m 1000) tests.0 in
        let low : 1 ≤ m = grind (arith, nat_tests, ends.0) in
        let high : m ≤ 1000 = grind (arith, nat_tests, ends.1) in
        subst (λ k. IsWeight k) same (low, high)
    by false e =
        let none : None ≡ Some n = rw e at is in
        absurd (cc)

pub are_weights : (ws : List (List ℕ)) (ns : List ℕ) → numbers_within 1 1000 ws ≡ Some ns
    → AllByRecursion IsWeight ns
are_weights [] ns is =
    let none : ns ≡ [] = cc in
    subst (λ (xs : List ℕ). AllByRecursion IsWeight xs) (sym none) tt
are_weights (w ∷ ws) ns is = by (number_within 1 1000 w) (numbers_within 1 1000 ws) refl refl
    (λ ms. are_weights ws ms)
  where
    by : (o : Option ℕ) (p : Option (List ℕ)) → number_within 1 1000 w ≡ o
        → numbers_within 1 1000 ws ≡ p
        → ((ms : List ℕ) → numbers_within 1 1000 ws ≡ Some ms → AllByRecursion IsWeight ms)
        → AllByRecursion IsWeight ns
    by None p e f rest =
        let bad : None ≡ Some ns = rw e at is in
        absurd (cc)
    by (Some m) None e f rest =
        let bad : None ≡ Some ns = rw (e, f) at is in
        absurd (cc)
    by (Some m) (Some ms) e f rest =
        let all : Some (m ∷ ms) ≡ Some ns = rw (e, f) at is in
        let same : ns ≡ m ∷ ms = cc in
        subst (λ (xs : List ℕ). AllByRecursion IsWeight xs) (sym same) (within_of m w e, rest ms f)

pub weight_at : (ns : List ℕ) (i d : ℕ) → AllByRecursion IsWeight ns → i < length ns
    → IsWeight (slice_index_or ns i d)
weight_at [] i d all inside = absurd (omega (arith, inside))
weight_at (n ∷ ns) zero d all inside = all.0
weight_at (n ∷ ns) (suc i) d all inside = weight_at ns i d all.1 (omega (arith, inside))
