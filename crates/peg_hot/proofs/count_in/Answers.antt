use Rattle.std.proofs.Common.{◌≡◌, ◌<◌, ◌≤◌, ◌∙◌, false, ap, sym, arith, length, List}
use Rattle.peg_name.specs.declared.Row.{Row}
use Rattle.peg_model.specs.Counts.{has_row, raised, least}
use Rattle.peg_hot.proofs.Rows.{raised_none, written, after_push, after_take}
use Rattle.peg_hot.proofs.count_in.Goals as goal

pub returns-then-len-from-clause-rows : goal.returns-then-len-from-clause-rows
returns-then-len-from-clause-rows c =
    let none : has_row c.args.key.now c.args.rows.now.items ≡ false = ap (λ (rs : List Row). has_row c.args.key.now rs) (sym c.deref_mut.ensures.value) ∙ sym c.raise.ensures.found ∙ c.if-raise.false in
    let same : c.raise.new.rows ≡ c.args.rows.now.items = c.raise.ensures.rows ∙ ap (λ (rs : List Row). raised c.args.key.now rs) c.deref_mut.ensures.value ∙ raised_none c.args.key.now c.args.rows.now.items none in
    let whole = written c.args.rows.now.len c.raise.new.rows c.args.rows.now.items (c.raise.auto.rows ∙ c.deref_mut.ensures.len) ∙ same in
    let room : length c.args.rows.now.items < c.args.most = omega (arith, c.if-len-from.true, c.len.ensures, c.from.ensures, ap length c.deref_mut.ensures.value, c.deref_mut.ensures.len) in
    after_push c.args.most c.args.key.now c.args.rows.now.items _ c.push_reserved.new.self.items none room c.push_reserved.ensures.items whole

pub returns-clause-rows : goal.returns-clause-rows
returns-clause-rows c =
    let none : has_row c.args.key.now c.args.rows.now.items ≡ false = ap (λ (rs : List Row). has_row c.args.key.now rs) (sym c.deref_mut.ensures.value) ∙ sym c.raise.ensures.found ∙ c.if-raise.false in
    let same : c.raise.new.rows ≡ c.args.rows.now.items = c.raise.ensures.rows ∙ ap (λ (rs : List Row). raised c.args.key.now rs) c.deref_mut.ensures.value ∙ raised_none c.args.key.now c.args.rows.now.items none in
    let whole = written c.args.rows.now.len c.raise.new.rows c.args.rows.now.items (c.raise.auto.rows ∙ c.deref_mut.ensures.len) ∙ same in
    let full : c.args.most ≤ length c.args.rows.now.items = omega (arith, c.if-len-from.false, c.len.ensures, c.from.ensures, ap length c.deref_mut.ensures.value, c.deref_mut.ensures.len) in
    let out = written c.args.rows.now.len c.take_over.new.rows _ (c.take_over.auto.rows ∙ c.deref_mut-2.ensures.len) in
    after_take c.args.most c.args.key.now c.least-count.result c.args.rows.now.items c.deref_mut-2.result.now _ none full (out ∙ c.take_over.ensures) (c.deref_mut-2.ensures.value ∙ whole)
    (c.least-count.ensures ∙ ap (λ (rs : List Row). least rs) (c.deref.ensures.value ∙ sym c.deref_mut-2.ensures.value))
