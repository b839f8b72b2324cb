use Rattle.std.proofs.Common.{sym, ap, subst}
use Rattle.peg_ledger.specs.Kept.{Kept, IsOpen}
use Rattle.peg_ledger.proofs.Keeping.{is_unanswered, is_earlier, are_answered}
use Rattle.peg_ledger.proofs.operations.Operations.answer.Goals as goal

-- src/operations.rt:118:13
pub answer-requires-clause-open : goal.answer-requires-clause-open
answer-requires-clause-open c =
    let inside = c.self.inside in
    let seen = ap (λ (k : Kept). k.operations) c.self.view_is in
    is_unanswered inside.history.ops inside.names.keys inside.tags.items c.in-Some.index
    c.args.client c.args.seq c.args.place c.self.invariant
    (subst (IsOpen c.args.client c.args.seq c.args.place) (sym seen) c.requires.opens)
    (sym c.in-Some.ensures.index)

-- src/operations.rt:118:13
pub answer-requires-clause-later : goal.answer-requires-clause-later
answer-requires-clause-later c =
    let inside = c.self.inside in
    let seen = ap (λ (k : Kept). k.operations) c.self.view_is in
    is_earlier inside.history.ops inside.names.keys inside.tags.items c.in-Some.index
    c.args.client c.args.seq c.args.place c.self.invariant
    (subst (IsOpen c.args.client c.args.seq c.args.place) (sym seen) c.requires.opens)
    (sym c.in-Some.ensures.index)

-- src/operations.rt:125:13
pub invariant_of-self : goal.invariant_of-self
invariant_of-self c =
    let inside = c.self.inside in
    are_answered inside.history.ops c.answer.new.self.ops inside.names.keys inside.tags.items
    c.in-Some.index c.args.client c.args.seq c.args.place c.origin_of.result c.args.content.now
    c.self.invariant (sym c.in-Some.ensures.index) c.answer.ensures.answered
