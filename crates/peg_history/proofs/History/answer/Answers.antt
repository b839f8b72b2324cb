use Rattle.std.proofs.Common.{◌≡◌, ◌<◌, List, ap, sym, subst, arith, length, map, set, slice_get, slice_set}
use Rattle.std.specs.Prelude.{IfSome}
use Rattle.peg_event.specs.declared.history.Op.{Op}
use Rattle.peg_model.specs.World.{with_answer}
use Rattle.peg_history.specs.Ledger.{Ledger}
use Rattle.peg_history.specs.Rows.{op_of, answered_bytes}
use Rattle.peg_history.proofs.Shelved.{all_after, replaced, op_at, ops_length}
use Rattle.peg_history.proofs.History.answer.Goals as goal

pub invariant_of-self : goal.invariant_of-self
invariant_of-self c =
    let bytes = c.self.inside.contents.bytes.items in
    let row = c.index.result.now in (
      c.self.invariant.0,
      all_after bytes (answered_bytes row.act c.args.content.now)
          c.answered-now.new.contents.bytes.items c.self.inside.rows.items c.args.place
          c.answered-now.result c.self.invariant.1 c.answered-now.ensures.more
          c.answered-now.ensures.within,
    )

pub returns-clause-answered : goal.returns-clause-answered
returns-clause-answered c =
    let bytes = c.self.inside.contents.bytes.items in
    let after = c.answered-now.new.contents.bytes.items in
    let rows = c.self.inside.rows.items in
    let row = c.index.result.now in
    let place = c.args.place in
    let with = with_answer c.args.at c.args.content.now in
    let ops : List Op = map (op_of bytes) rows in
    let now : List Op = map (op_of after) (set rows place c.answered-now.result) in
    let seen : ops ≡ c.args.self.now.ops = ap (λ (l : Ledger). l.ops) c.self.view_is in
    let within : place < length rows =
    omega (arith, c.requires.place, ap length seen, ops_length bytes rows) in
    subst (λ (os : List Op). IfSome (slice_get os place) (λ op. now ≡ slice_set os place (with op)))
    seen
    (subst (λ o. IfSome o (λ op. now ≡ slice_set ops place (with op)))
    (sym (op_at bytes rows place row within c.index.ensures))
    (replaced bytes (answered_bytes row.act c.args.content.now) after rows place
    c.answered-now.result (with (op_of bytes row)) c.self.invariant.1 c.answered-now.ensures.more
    c.answered-now.ensures.is))
