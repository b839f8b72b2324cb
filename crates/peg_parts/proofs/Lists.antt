-- A list up to a place, and what stands there.
use Rattle.std.proofs.Common.{◌≡◌, ℕ, zero, suc, ◌+◌, ◌<◌, Bool, true, false, not, ◌&&◌, List, [], ◌∷◌}
use Rattle.std.proofs.Common.{◌++◌, length, take, get_or, refl, ap, sym, ◌∙◌, arith, add-one}
use Rattle.std.proofs.Common.{append_assoc, append-nil}
use Rattle.std.specs.List.{flat_map, list_all}
use Rattle.std.proofs.lemmas.Bool.{and_parts}
use Rattle.std.specs.Cmp.Derive.{both_true}

pub and_none : (b : Bool) → (b && false) ≡ false
and_none true = refl
and_none false = refl

module _ {A : Type 0} where
  flat_suc :
      (f : A → List ℕ) (xs : List A) (i : ℕ) (d : A) → i < length xs
      → flat_map f (take (suc i) xs) ≡ flat_map f (take i xs) ++ f (get_or xs i d)
  flat_suc f [] i d within = absurd (omega (arith, within))
  flat_suc f (x ∷ xs) zero d within = append-nil (f x)
  flat_suc f (x ∷ xs) (suc i) d within =
      ap (λ t. f x ++ t) (flat_suc f xs i d (omega (arith, within)))
      ∙ sym (append_assoc (f x) (flat_map f (take i xs)) (f (get_or xs i d)))

  pub flat_next :
      (f : A → List ℕ) (xs : List A) (i : ℕ) (d : A) → i < length xs
      → flat_map f (take (i + 1) xs) ≡ flat_map f (take i xs) ++ f (get_or xs i d)
  flat_next f xs i d within =
      ap (λ n. flat_map f (take n xs)) (add-one i) ∙ flat_suc f xs i d within

  all_suc :
      (p : A → Bool) (xs : List A) (i : ℕ) (d : A) → i < length xs
      → list_all p (take i xs) ≡ true → p (get_or xs i d) ≡ true
      → list_all p (take (suc i) xs) ≡ true
  all_suc p [] i d within before here = absurd (omega (arith, within))
  all_suc p (x ∷ xs) zero d within before here = both_true here refl
  all_suc p (x ∷ xs) (suc i) d within before here =
      let both = and_parts (p x) (list_all p (take i xs)) before in
      both_true both.0 (all_suc p xs i d (omega (arith, within)) both.1 here)

  pub all_next :
      (p : A → Bool) (xs : List A) (i : ℕ) (d : A) → i < length xs
      → list_all p (take i xs) ≡ true → p (get_or xs i d) ≡ true
      → list_all p (take (i + 1) xs) ≡ true
  all_next p xs i d within before here =
      ap (λ n. list_all p (take n xs)) (add-one i) ∙ all_suc p xs i d within before here

  pub all_fails :
      (p : A → Bool) (xs : List A) (i : ℕ) (d : A) → i < length xs → p (get_or xs i d) ≡ false
      → list_all p xs ≡ false
  all_fails p [] i d within not = absurd (omega (arith, within))
  all_fails p (x ∷ xs) zero d within not = λ j. not j && list_all p xs
  all_fails p (x ∷ xs) (suc i) d within not =
      ap (λ b. p x && b) (all_fails p xs i d (omega (arith, within)) not) ∙ and_none (p x)

  pub all_push :
      (p : A → Bool) (xs : List A) (x : A) → list_all p xs ≡ true → p x ≡ true
      → list_all p (xs ++ x ∷ []) ≡ true
  all_push p [] x before last = both_true last refl
  all_push p (y ∷ xs) x before last =
      let both = and_parts (p y) (list_all p xs) before in
      both_true both.0 (all_push p xs x both.1 last)

  pub all_fails_behind :
      (p : A → Bool) (xs : List A) (x : A) (ys : List A) → p x ≡ false
      → list_all p (xs ++ x ∷ ys) ≡ false
  all_fails_behind p [] x ys not = λ j. not j && list_all p ys
  all_fails_behind p (y ∷ xs) x ys not =
      ap (λ b. p y && b) (all_fails_behind p xs x ys not) ∙ and_none (p y)

pub not_back : (b c : Bool) → not b ≡ not c → b ≡ c
not_back true true e = refl
not_back true false e = sym e
not_back false true e = sym e
not_back false false e = refl
