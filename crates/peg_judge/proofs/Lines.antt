-- What a line says behind the line history.
use Rattle.std.proofs.Common.{◌≡◌, ◌≤◌, ◌<◌, ◌^◌, ◌++◌, ℕ, zero, suc, Bool, true, false, ◌&&◌}
use Rattle.std.proofs.Common.{Option, Some, None, List, [], ◌∷◌, length, get_or, codes, decimal, refl, sym}
use Rattle.std.proofs.Common.{ap, ◌∙◌, subst, arith, nat_lt, ◌⊎◌, inl, inr}
use Rattle.std.specs.Prelude.{nat_eq, not, drop, ◌||◌}
use Rattle.std.specs.Bool.{OnFalse}
use Rattle.std.specs.List.{AllByRecursion, list_any}
use Rattle.std.proofs.lemmas.Bool.Decides.{nat_tests}
use Rattle.peg_event.specs.declared.history.Op.{Op}
use Rattle.peg_model.specs.Trace.{order_text}
use Rattle.peg_model.specs.Judge.{IsOpLine, IsSkipped}
use Rattle.peg_meaning.specs.CheckWord.{CheckEntry, Skipped, History, Operation, Order, At, Done}
use Rattle.peg_meaning.specs.CheckWord.{Checked, last_issued, next_key, IsOperation, IsOrderLine}
use Rattle.peg_meaning.specs.CheckWord.{IsPlaceLine, IsCheckedLine, IsStageLine, Skipping}
use Rattle.peg_judge.specs.Judging.{SaysOnly, FrontSays}

-- ---- operations

op_at :
    (u : ℕ) (c : Checked) (line : List ℕ) (number : ℕ) (op : Op) → 0 < u
    → IsOperation c line number op → IsCheckedLine u c line (Operation number op)
op_at zero c line number op some is = absurd (omega arith)
op_at (suc u) c line number op some is = is

-- each entry of the line is an operation that is read from it
op_only :
    (u : ℕ) (c : Checked) (line : List ℕ) (e : CheckEntry) → 0 < u → IsCheckedLine u c line e
    → (number : ℕ) × ((op : Op) × ((e ≡ Operation number op) × IsOperation c line number op))
op_only zero c line e some is = absurd (omega arith)
op_only (suc u) c line (Operation number op) some is = (number, (op, (refl, is)))
op_only (suc u) c line (Skipped other) some is = absurd is
op_only (suc u) c line (History count) some is = absurd is
op_only (suc u) c line (Order key count) some is = absurd is
op_only (suc u) c line (At place) some is = absurd is
op_only (suc u) c line Done some is = absurd is

pub says_no_op :
    (c : Checked) (line : List ℕ) (r : Option (ℕ × Op)) → 0 < c.unread → r ≡ None
    → ((number : ℕ) (op : Op) → IsOpLine line number op → r ≡ Some (number, op))
    → (e : CheckEntry) → IsCheckedLine c.unread c line e → ⊥
says_no_op c line r some none complete e is =
    let o = op_only c.unread c line e some is in
    let read : r ≡ Some (o.0, o.1.0) = complete o.0 o.1.0 o.1.1.1.0 in
    cc (none, read)

is_next_of :
    (n m a b : ℕ) (t : Bool) → t ≡ (nat_eq n m && nat_lt a b) → t ≡ true → (n ≡ m) × (a < b)
is_next_of n m a b t is holds =
    let both : (nat_eq n m && nat_lt a b) ≡ true = sym is ∙ holds in
    let e : n ≡ m = grind (arith, nat_tests) in
    let l : a < b = grind (arith, nat_tests) in (e, l)

next_is_of : (n m a b : ℕ) → n ≡ m → a < b → (nat_eq n m && nat_lt a b) ≡ true
next_is_of n m a b e l = grind (arith, nat_tests)

pub says_op :
    (c : Checked) (line : List ℕ) (r : Option (ℕ × Op)) (number : ℕ) (op : Op) (latest : ℕ)
    (t : Bool) → 0 < c.unread → r ≡ Some (number, op) → IsOpLine line number op
    → ((n : ℕ) (o : Op) → IsOpLine line n o → r ≡ Some (n, o)) → latest ≡ last_issued c.ops
    → t ≡ (nat_eq number (length c.ops) && nat_lt latest op.issued) → t ≡ true
    → SaysOnly c line (Operation number op)
says_op c line r number op latest t some is sound complete last test holds =
    let next = is_next_of number (length c.ops) latest op.issued t test holds in
    record {
      is =
          op_at c.unread c line number op some
          (sound, next.0, subst (λ n. n < op.issued) last next.1);
      only = λ e here.
          let o = op_only c.unread c line e some here in
          let read : r ≡ Some (o.0, o.1.0) = complete o.0 o.1.0 o.1.1.1.0 in
          let pair : Some (o.0, o.1.0) ≡ Some (number, op) = sym read ∙ is in
          let same : (o.0, o.1.0) ≡ (number, op) = cc pair in
          o.1.1.0 ∙ ap (λ (p : ℕ × Op). Operation p.0 p.1) same;
    }

pub says_other_op :
    (c : Checked) (line : List ℕ) (r : Option (ℕ × Op)) (number : ℕ) (op : Op) (latest : ℕ)
    (t : Bool) → 0 < c.unread → r ≡ Some (number, op)
    → ((n : ℕ) (o : Op) → IsOpLine line n o → r ≡ Some (n, o)) → latest ≡ last_issued c.ops
    → t ≡ (nat_eq number (length c.ops) && nat_lt latest op.issued) → t ≡ false
    → (e : CheckEntry) → IsCheckedLine c.unread c line e → ⊥
says_other_op c line r number op latest t some is complete last test fails e here =
    let o = op_only c.unread c line e some here in
    let read : r ≡ Some (o.0, o.1.0) = complete o.0 o.1.0 o.1.1.1.0 in
    let pair : Some (o.0, o.1.0) ≡ Some (number, op) = sym read ∙ is in
    let same : (o.0, o.1.0) ≡ (number, op) = cc pair in
    let n : o.0 ≡ number = ap (λ (p : ℕ × Op). p.0) same in
    let issued : o.1.0.issued ≡ op.issued = ap (λ (p : ℕ × Op). p.1.issued) same in
    let later : latest < op.issued = omega (arith, last, o.1.1.1.2, issued) in
    let holds = next_is_of number (length c.ops) latest op.issued (sym n ∙ o.1.1.1.1) later in
    cc (test, fails, holds)

-- ---- behind the operations

behind_ops :
    (c : Checked) (line : List ℕ) (e : CheckEntry) → c.unread ≡ 0
    → IsCheckedLine c.unread c line e → IsPlaceLine c.unplaced c line e
behind_ops c line e none is = subst (λ u. IsCheckedLine u c line e) none is

to_ops :
    (c : Checked) (line : List ℕ) (e : CheckEntry) → c.unread ≡ 0
    → IsPlaceLine c.unplaced c line e → IsCheckedLine c.unread c line e
to_ops c line e none is = subst (λ u. IsCheckedLine u c line e) (sym none) is

-- ---- places

place_at :
    (p : ℕ) (c : Checked) (line : List ℕ) (place : ℕ) → 0 < p → place < 2 ^ 32
    → line ≡ codes "at " ++ decimal place → IsPlaceLine p c line (At place)
place_at zero c line place some small is = absurd (omega arith)
place_at (suc p) c line place some small is = (small, is)

place_only :
    (p : ℕ) (c : Checked) (line : List ℕ) (e : CheckEntry) → 0 < p → IsPlaceLine p c line e
    → (place : ℕ) × ((e ≡ At place) × (place < 2 ^ 32) × (line ≡ codes "at " ++ decimal place))
place_only zero c line e some is = absurd (omega arith)
place_only (suc p) c line (At place) some is = (place, (refl, is.0, is.1))
place_only (suc p) c line (Skipped other) some is = absurd is
place_only (suc p) c line (History count) some is = absurd is
place_only (suc p) c line (Operation number op) some is = absurd is
place_only (suc p) c line (Order key count) some is = absurd is
place_only (suc p) c line Done some is = absurd is

pub says_no_place :
    (c : Checked) (line : List ℕ) (r : Option ℕ) → c.unread ≡ 0 → 0 < c.unplaced → r ≡ None
    → ((n : ℕ) → n < 2 ^ 64 → line ≡ codes "at " ++ decimal n → r ≡ Some n)
    → (e : CheckEntry) → IsCheckedLine c.unread c line e → ⊥
says_no_place c line r read some none complete e is =
    let o = place_only c.unplaced c line e some (behind_ops c line e read is) in
    let got : r ≡ Some o.0 = complete o.0 (omega (arith, o.1.1)) o.1.2 in
    cc (none, got)

pub says_place :
    (c : Checked) (line : List ℕ) (r : Option ℕ) (place : ℕ) → c.unread ≡ 0 → 0 < c.unplaced
    → r ≡ Some place → line ≡ codes "at " ++ decimal place → place < 2 ^ 32
    → ((n : ℕ) → n < 2 ^ 64 → line ≡ codes "at " ++ decimal n → r ≡ Some n)
    → SaysOnly c line (At place)
says_place c line r place read some is spelled small complete =
    record {
      is = to_ops c line (At place) read (place_at c.unplaced c line place some small spelled);
      only = λ e here.
          let o = place_only c.unplaced c line e some (behind_ops c line e read here) in
          let got : r ≡ Some o.0 = complete o.0 (omega (arith, o.1.1)) o.1.2 in
          let pair : Some o.0 ≡ Some place = sym got ∙ is in
          let same : o.0 ≡ place = cc pair in
          o.1.0 ∙ ap At same;
    }

pub says_far_place :
    (c : Checked) (line : List ℕ) (r : Option ℕ) (place : ℕ) → c.unread ≡ 0 → 0 < c.unplaced
    → r ≡ Some place → 2 ^ 32 ≤ place
    → ((n : ℕ) → n < 2 ^ 64 → line ≡ codes "at " ++ decimal n → r ≡ Some n)
    → (e : CheckEntry) → IsCheckedLine c.unread c line e → ⊥
says_far_place c line r place read some is far complete e here =
    let o = place_only c.unplaced c line e some (behind_ops c line e read here) in
    let got : r ≡ Some o.0 = complete o.0 (omega (arith, o.1.1)) o.1.2 in
    let pair : Some o.0 ≡ Some place = sym got ∙ is in
    let same : o.0 ≡ place = cc pair in
    omega (arith, far, o.1.1, same)

-- ---- orders

behind_places :
    (c : Checked) (line : List ℕ) (e : CheckEntry) → c.unread ≡ 0 → c.unplaced ≡ 0
    → IsCheckedLine c.unread c line e → IsOrderLine (next_key c) line e
behind_places c line e read placed is =
    subst (λ p. IsPlaceLine p c line e) placed (behind_ops c line e read is)

to_places :
    (c : Checked) (line : List ℕ) (e : CheckEntry) → c.unread ≡ 0 → c.unplaced ≡ 0
    → IsOrderLine (next_key c) line e → IsCheckedLine c.unread c line e
to_places c line e read placed is =
    to_ops c line e read (subst (λ p. IsPlaceLine p c line e) (sym placed) is)

order_only :
    (key : List ℕ) (line : List ℕ) (e : CheckEntry) → IsOrderLine (Some key) line e
    → (count : ℕ) × ((e ≡ Order key count) × (count < 2 ^ 64) × (line ≡ order_text key count))
order_only key line (Order other count) is = (
  count,
  (
    ap (λ k. Order k count) is.0,
    is.1,
    is.2 ∙ ap (λ (k : List ℕ). order_text k count) is.0,
  ),
)
order_only key line (Skipped other) is = absurd is
order_only key line (History count) is = absurd is
order_only key line (Operation number op) is = absurd is
order_only key line (At place) is = absurd is
order_only key line Done is = absurd is

pub says_no_order :
    (c : Checked) (line : List ℕ) (r : Option ℕ) (key : List ℕ) → c.unread ≡ 0
    → c.unplaced ≡ 0 → next_key c ≡ Some key → r ≡ None
    → ((n : ℕ) → n < 2 ^ 64 → line ≡ order_text key n → r ≡ Some n)
    → (e : CheckEntry) → IsCheckedLine c.unread c line e → ⊥
says_no_order c line r key read placed next none complete e is =
    let here = subst (λ (k : Option (List ℕ)). IsOrderLine k line e) next (behind_places c line e read placed is) in
    let o = order_only key line e here in
    let got : r ≡ Some o.0 = complete o.0 o.1.1 o.1.2 in
    cc (none, got)

pub says_order :
    (c : Checked) (line : List ℕ) (r : Option ℕ) (key : List ℕ) (count : ℕ) → c.unread ≡ 0
    → c.unplaced ≡ 0 → next_key c ≡ Some key → r ≡ Some count → count < 2 ^ 64
    → line ≡ order_text key count
    → ((n : ℕ) → n < 2 ^ 64 → line ≡ order_text key n → r ≡ Some n)
    → SaysOnly c line (Order key count)
says_order c line r key count read placed next is small spelled complete =
    let L : CheckEntry → Option (List ℕ) → Type 0 = λ e k. IsOrderLine k line e in
    record {
      is =
          to_places c line (Order key count) read placed
          (subst (L (Order key count)) (sym next) (refl, small, spelled));
      only = λ e here.
          let o = order_only key line e (subst (L e) next (behind_places c line e read placed here)) in
          let got : r ≡ Some o.0 = complete o.0 o.1.1 o.1.2 in
          let pair : Some o.0 ≡ Some count = sym got ∙ is in
          let same : o.0 ≡ count = cc pair in
          o.1.0 ∙ ap (λ n. Order key n) same;
    }

done_only :
    (line : List ℕ) (e : CheckEntry) → IsOrderLine None line e
    → (e ≡ Done) × (line ≡ codes "done")
done_only line Done is = (refl, is)
done_only line (Skipped other) is = absurd is
done_only line (History count) is = absurd is
done_only line (Operation number op) is = absurd is
done_only line (Order key count) is = absurd is
done_only line (At place) is = absurd is

pub says_done :
    (c : Checked) (line : List ℕ) → c.unread ≡ 0 → c.unplaced ≡ 0 → next_key c ≡ None
    → line ≡ codes "done" → SaysOnly c line Done
says_done c line read placed next is =
    let L : CheckEntry → Option (List ℕ) → Type 0 = λ e k. IsOrderLine k line e in
    record {
      is = to_places c line Done read placed (subst (L Done) (sym next) is);
      only = λ e here.
          (done_only line e (subst (L e) next (behind_places c line e read placed here))).0;
    }

pub says_not_done :
    (c : Checked) (line : List ℕ) → c.unread ≡ 0 → c.unplaced ≡ 0 → next_key c ≡ None
    → (line ≡ codes "done" → ⊥) → (e : CheckEntry) → IsCheckedLine c.unread c line e → ⊥
says_not_done c line read placed next other e here =
    other
    (done_only line e
    (subst (λ (k : Option (List ℕ)). IsOrderLine k line e) next (behind_places c line e read placed here))).1

-- ---- before the operations

front_only :
    (line : List ℕ) (e : CheckEntry) → IsStageLine Skipping line e
    → (IsSkipped line × (e ≡ Skipped line))
    ⊎ ((count : ℕ) × ((e ≡ History count) × (count ≤ 200000)
    × (line ≡ codes "history " ++ decimal count)))
front_only line (Skipped other) is = inl (is.0, ap Skipped is.1)
front_only line (History count) is = inr (count, (refl, is.0, is.1))
front_only line (Operation number op) is = absurd is
front_only line (Order key count) is = absurd is
front_only line (At place) is = absurd is
front_only line Done is = absurd is

-- the line history begins with no digit
not_history : (line : List ℕ) (n : ℕ) → IsSkipped line → line ≡ codes "history " ++ decimal n → ⊥
not_history [] n skipped is = skipped
not_history (b ∷ line) n skipped is =
    let first : b ≡ 104 = ap (λ (l : List ℕ). get_or l 0 0) is in omega (arith, first, skipped.1)

pub says_skipped : (line : List ℕ) → IsSkipped line → FrontSays line (Skipped line)
says_skipped line skipped =
    record {
      is = (skipped, refl);
      only = λ e here.
          elim (front_only line e here) [
            | inl s ↦ s.1
            | inr h ↦ absurd (not_history line h.0 skipped h.1.2)
          ];
    }

pub says_history :
    (line : List ℕ) (r : Option ℕ) (count : ℕ) → (IsSkipped line → ⊥) → r ≡ Some count
    → line ≡ codes "history " ++ decimal count → count ≤ 200000
    → ((n : ℕ) → n < 2 ^ 64 → line ≡ codes "history " ++ decimal n → r ≡ Some n)
    → FrontSays line (History count)
says_history line r count other is spelled few complete =
    record {
      is = (few, spelled);
      only = λ e here.
          elim (front_only line e here) [
            | inl s ↦ absurd (other s.0)
            | inr h ↦
                let got : r ≡ Some h.0 = complete h.0 (omega (arith, h.1.1)) h.1.2 in
                let pair : Some h.0 ≡ Some count = sym got ∙ is in
                let same : h.0 ≡ count = cc pair in
                h.1.0 ∙ ap History same
          ];
    }

pub says_no_front :
    (line : List ℕ) (r : Option ℕ) → (IsSkipped line → ⊥) → r ≡ None
    → ((n : ℕ) → n < 2 ^ 64 → line ≡ codes "history " ++ decimal n → r ≡ Some n)
    → (e : CheckEntry) → IsStageLine Skipping line e → ⊥
says_no_front line r other none complete e here =
    elim (front_only line e here) [
      | inl s ↦ other s.0
      | inr h ↦
          let got : r ≡ Some h.0 = complete h.0 (omega (arith, h.1.1)) h.1.2 in
          cc (none, got)
    ]

pub says_long_front :
    (line : List ℕ) (r : Option ℕ) (count : ℕ) → (IsSkipped line → ⊥) → r ≡ Some count
    → 200000 < count
    → ((n : ℕ) → n < 2 ^ 64 → line ≡ codes "history " ++ decimal n → r ≡ Some n)
    → (e : CheckEntry) → IsStageLine Skipping line e → ⊥
says_long_front line r count other is many complete e here =
    elim (front_only line e here) [
      | inl s ↦ other s.0
      | inr h ↦
          let got : r ≡ Some h.0 = complete h.0 (omega (arith, h.1.1)) h.1.2 in
          let pair : Some h.0 ≡ Some count = sym got ∙ is in
          let same : h.0 ≡ count = cc pair in
          omega (arith, many, h.1.1, same)
    ]

-- ---- a line of a trace

has_feed :
    (xs : List ℕ) → list_any (λ y. nat_eq y 10) xs ≡ true
    → AllByRecursion (λ b. (b ≡ 10) → ⊥) xs → ⊥
has_feed [] found all = cc
has_feed (x ∷ xs) found all =
    by_test (nat_eq x 10) refl (λ later. has_feed xs later all.1)
  where
    by_test :
        (b : Bool) → nat_eq x 10 ≡ b → (list_any (λ y. nat_eq y 10) xs ≡ true → ⊥) → ⊥
    by_test true e rest = let feed : x ≡ 10 = grind (arith, nat_tests) in all.0 feed
    by_test false e rest =
        rest (sym (ap (λ b. b || list_any (λ y. nat_eq y 10) xs) e) ∙ found)

pub not_trace :
    (line rest : List ℕ) (b : Bool) → b ≡ list_any (λ y. nat_eq y 10) rest → rest ≡ drop 1 line
    → OnFalse (not b) (IsSkipped line → ⊥)
not_trace line rest false is same = tt
not_trace [] rest true is same = λ skipped. skipped
not_trace (x ∷ line) rest true is same =
    λ skipped.
    has_feed line
    (sym (is ∙ ap (λ (ys : List ℕ). list_any (λ y. nat_eq y 10) ys) same)) skipped.2
