use Rattle.std.proofs.Common.{◌<◌, ◌^◌, ◌-◌, ◌+◌, ◌∙◌, ap, arith, sym, subst, List}
use Rattle.peg_name.specs.declared.Row.{Row}
use Rattle.peg_hot.proofs.Rows.{strict_rows}
use Rattle.peg_hot.proofs.Counting.{Rows, rows_kept}
use Rattle.peg_hot.proofs.Within.{is_key_of, within_after}
use Rattle.peg_model.specs.Packet.{row_in_range}
use Rattle.std.specs.List.{list_all}
use Rattle.peg_hot.proofs.Counts.see.Goals as goal

pub count_in-requires-clause-small : goal.count_in-requires-clause-small
count_in-requires-clause-small c =
    let less : c.self.inside.total < 2 ^ 64 - 1 = omega (arith, c.if-self.false, c.self.invariant.0.small) in
    strict_rows c.self.inside.total (2 ^ 64 - 1) c.self.inside.rows.items (omega (arith, c.self.invariant.0.sum)) less

pub invariant_of-self : goal.invariant_of-self
invariant_of-self c =
    let less : c.self.inside.total < 2 ^ 64 - 1 = omega (arith, c.if-self.false, c.self.invariant.0.small) in
    let kept = rows_kept c.self.inside.most c.self.inside.total c.args.key.now c.self.inside.rows.items c.self.invariant.0.some less
    (record { few = c.self.invariant.0.few; sum = c.self.invariant.0.sum; distinct = c.self.invariant.0.distinct }) in
    let now = subst (λ (rs : List Row). Rows c.self.inside.most (c.self.inside.total + 1) rs) (sym c.count_in.ensures.rows) kept in
    let strict = strict_rows c.self.inside.total (2 ^ 64 - 1) c.self.inside.rows.items (omega (arith, c.self.invariant.0.sum)) less in
    let within = ap (λ (rs : List Row). list_all row_in_range rs) c.count_in.ensures.rows
    ∙ within_after c.self.inside.most c.args.key.now c.self.inside.rows.items (is_key_of c.args.key.now c.bytes.ensures.key) strict c.self.invariant.0.within in (
      record { some = c.self.invariant.0.some; small = omega arith; few = now.few; sum = now.sum; distinct = now.distinct; within = within },
      omega (arith, c.self.invariant.1, c.count_in.ensures.room),
    )
