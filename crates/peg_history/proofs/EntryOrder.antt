-- Entries are in a total order, and what a sort leaves of them is their insertion sort.
use Rattle.std.proofs.Common.{◌≡◌, ◌==◌, ◌||◌, ℕ, Bool, true, false, not, cond, List, [], ◌∷◌, map}
use Rattle.std.proofs.Common.{filter, nat_lt, refl, ap, ◌∙◌, arith}
use Rattle.std.proofs.lemmas.Bool.Decides.{nat_tests}
use Rattle.std.specs.Ordering.{nat_cmp, bool_cmp, ordering_then, ordering_reverse, is_lt}
use Rattle.std.specs.declared.cmp.Ordering.{Ordering}
use Rattle.std.specs.declared.cmp.Ordering.TheVariants.{Less, Equal, Greater}
use Rattle.std.specs.Cmp.{IsTotalOrder, IsStrictWeakOrder}
use Rattle.std.specs.List.Sorted.{IsPermutation, IsSorted}
use Rattle.std.proofs.lemmas.List.Sorted.{ranks_by}
use Rattle.peg_model.specs.Words.{sorted}
use Rattle.peg_history.specs.declared.Entry.{Entry}
use Rattle.peg_history.specs.Entries.{entry_cmp, is_before, is_seen, has_read, printed}
use Rattle.std.specs.List.{list_any}
use Rattle.peg_history.specs.contracts.EntryOrd.TheImpl.Laws.{total-law}
use Rattle.peg_history.proofs.Sorting.{sorted_is}

total : IsTotalOrder entry_cmp
total = total-law

ranks : IsStrictWeakOrder is_before
ranks = ranks_by total (λ e. e)

neither : (r s : Ordering) → r ≡ ordering_reverse s → is_lt r ≡ false → is_lt s ≡ false → r ≡ Equal
neither Less s e h k = cc
neither Equal s e h k = refl
neither Greater Less e h k = cc
neither Greater Equal e h k = cc
neither Greater Greater e h k = cc

then_equal : (r s : Ordering) → ordering_then r s ≡ Equal → (r ≡ Equal) × (s ≡ Equal)
then_equal Less s e = cc
then_equal Equal s e = (refl, e)
then_equal Greater s e = cc

number_if : (l e : Bool) → cond l Less (cond e Equal Greater) ≡ Equal → e ≡ true
number_if true e h = cc
number_if false true h = refl
number_if false false h = cc

number : (a b : ℕ) → nat_cmp a b ≡ Equal → a ≡ b
number a b h =
    let e : (a == b) ≡ true = number_if (nat_lt a b) (a == b) h in grind (arith, nat_tests)

flag : (a b : Bool) → bool_cmp a b ≡ Equal → a ≡ b
flag true true h = refl
flag true false h = cc
flag false true h = cc
flag false false h = refl

level : (x y : Entry) → entry_cmp x y ≡ Equal → x ≡ y
level x y e =
    let a = then_equal (nat_cmp x.tag y.tag) _ e in
    let b = then_equal (bool_cmp x.is_read y.is_read) _ a.1 in
    let c = then_equal (bool_cmp x.is_open y.is_open) _ b.1 in
    let d = then_equal (nat_cmp x.at y.at) _ c.1 in
    let tag = number x.tag y.tag a.0 in
    let is_read = flag x.is_read y.is_read b.0 in
    let is_open = flag x.is_open y.is_open c.0 in
    let at = number x.at y.at d.0 in
    let place = number x.place y.place d.1 in
    λ i. record {
      tag = tag i;
      is_read = is_read i;
      is_open = is_open i;
      at = at i;
      place = place i;
    }

only : (x y : Entry) → is_before x y ≡ false → is_before y x ≡ false → x ≡ y
only x y h k = level x y (neither (entry_cmp x y) (entry_cmp y x) (total.antisymm x y) h k)

pub sorted_entries :
    (xs ys : List Entry) → IsPermutation xs ys → IsSorted entry_cmp ys → ys ≡ sorted is_before xs
sorted_entries xs ys moved up = sorted_is is_before ranks only xs ys moved up

-- the entries that are seen, sorted
pub printed_of :
    (es kept new : List Entry) (tags ops : List ℕ)
    → kept ≡ filter (λ e. not e.is_open || list_any (λ t. t == e.tag) tags) es
    → ((tag : ℕ) → list_any (λ t. t == tag) tags ≡ has_read es tag) → IsPermutation kept new
    → IsSorted entry_cmp new → ops ≡ map (λ e. e.place) new → ops ≡ printed es
printed_of es kept new tags ops is read moved up places =
    places ∙ ap (λ xs. map (λ e. e.place) xs)
    (sorted_entries kept new moved up
    ∙ ap (λ xs. sorted is_before xs)
    (is ∙ filter_same (λ e. not e.is_open
    || list_any (λ t. t == e.tag) tags) (is_seen es) (λ e. ap (λ b. not e.is_open || b)
    (read e.tag)) es))
  where
    filter_same :
        (p q : Entry → Bool) → ((e : Entry) → p e ≡ q e) → (xs : List Entry)
        → filter p xs ≡ filter q xs
    filter_same p q same [] = refl
    filter_same p q same (x ∷ xs) =
        ap (λ b. cond b (x ∷ filter p xs) (filter p xs)) (same x) ∙ ap
        (λ ys. cond (q x) (x ∷ ys) ys) (filter_same p q same xs)
