-- The orders are judged one after the other.
use Rattle.std.proofs.Common.{◌≡◌, ◌<◌, ◌≤◌, ◌+◌, ℕ, Option, Some, None, List, length}
use Rattle.std.proofs.Common.{get_or, drop, map, sym, ap, ◌∙◌}
use Rattle.std.proofs.lemmas.List.{drop_more, drop_all}
use Rattle.peg_event.specs.declared.history.Op.{Op}
use Rattle.peg_event.specs.declared.history.Fault.{Fault}
use Rattle.peg_event.specs.declared.history.Verdict.TheVariants as verdict
use Rattle.peg_model.specs.Judge.{or_else, order_fault, first_fault, verdict_with, verdict_of}
use Rattle.peg_history.specs.declared.KeyOrder.{KeyOrder}
use Rattle.peg_history.specs.Walking.{order_pair}

pub record IsJudgedTo (ops : List Op) (orders : List KeyOrder) (i : ℕ) (marks : List ℕ) : Type 0
  where
    pub rest :
        verdict_of ops (map order_pair orders) ≡ verdict_of ops (map order_pair (drop i orders))
    pub even : length marks ≡ length ops
    pub used : (p : ℕ) → get_or marks p 0 ≤ i

-- the next order's fault, and else those of the later ones
judged_next :
    (ops : List Op) (orders : List KeyOrder) (i : ℕ) (marks : List ℕ) (order : KeyOrder)
    (f : Option Fault) → i < length orders → order ≡ get_or orders i order
    → f ≡ order_fault ops order.key order.ops → IsJudgedTo ops orders i marks
    → verdict_of ops (map order_pair orders)
    ≡ verdict_with (or_else f (first_fault ops (map order_pair (drop (i + 1) orders))))
judged_next ops orders i marks order f lt is found done =
    let rest = first_fault ops (map order_pair (drop (i + 1) orders)) in
    done.rest ∙ ap (λ os. verdict_of ops (map order_pair os)) (drop_more orders i order lt)
    ∙ ap (λ (o : KeyOrder). verdict_with (or_else (order_fault ops o.key o.ops) rest)) (sym is)
    ∙ ap (λ g. verdict_with (or_else g rest)) (sym found)

pub judged_at :
    (ops : List Op) (orders : List KeyOrder) (i : ℕ) (marks : List ℕ) (order : KeyOrder)
    (f : Fault) → i < length orders → order ≡ get_or orders i order
    → Some f ≡ order_fault ops order.key order.ops → IsJudgedTo ops orders i marks
    → verdict.No f ≡ verdict_of ops (map order_pair orders)
judged_at ops orders i marks order f lt is found done =
    sym (judged_next ops orders i marks order (Some f) lt is found done)

pub judged_more :
    (ops : List Op) (orders : List KeyOrder) (i : ℕ) (marks new : List ℕ) (order : KeyOrder)
    → i < length orders → order ≡ get_or orders i order
    → None ≡ order_fault ops order.key order.ops → length new ≡ length marks
    → ((p : ℕ) → get_or new p 0 ≤ i + 1) → IsJudgedTo ops orders i marks
    → IsJudgedTo ops orders (i + 1) new
judged_more ops orders i marks new order lt is found even used done =
    record {
      rest = judged_next ops orders i marks order None lt is found done;
      even = even ∙ done.even;
      used = used;
    }

pub judged_all :
    (ops : List Op) (orders : List KeyOrder) (i : ℕ) (marks : List ℕ) → length orders ≤ i
    → IsJudgedTo ops orders i marks → verdict.Yes ≡ verdict_of ops (map order_pair orders)
judged_all ops orders i marks all done =
    sym
    (done.rest ∙ ap (λ os. verdict_of ops (map order_pair os)) (drop_all i orders all))
