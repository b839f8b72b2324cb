use Rattle.std.proofs.Common.{◌++◌, ◌∷◌, [], ap, ◌∙◌}
use Rattle.peg_pool.proofs.Flights.{pushed-items}
use Rattle.peg_pool.specs.Sent.{items_of}
use Rattle.peg_pool.specs.declared.soup.Sent.{Sent}
use Rattle.peg_pool.proofs.soup.Soup.push.Goals as goal

pub returns-clause-ok : goal.returns-clause-ok
returns-clause-ok c =
    let p = c.self.inside in
    let short = c.keep.new.short.slots in
    let long = c.keep.new.long.slots in
    let sent : Sent = record { to = c.args.to; place = c.in_ok-place.place } in
    ap (items_of short long)
    (c.push_reserved.ensures.items ∙ ap (λ rows. rows ++ sent ∷ []) c.reserve.ensures.items)
    ∙ pushed-items p.short.slots p.long.slots short long c.in_ok-place.ensures.others p.rows.items
    sent c.args.bytes.now c.self.invariant.live c.in_ok-place.ensures.kept
    ∙ ap (λ o. o.items ++ (c.args.to, c.args.bytes.now) ∷ []) c.self.view_is
