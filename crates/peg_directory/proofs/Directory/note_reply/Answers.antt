use Rattle.std.proofs.Common.{◌<◌, ◌∙◌, ap, sym, subst, arith}
use Rattle.indexmap.proofs.CallerLemmas.{index_map_len-with_value_at}
use Rattle.peg_name.specs.declared.Note.{Note}
use Rattle.peg_event.specs.declared.answers.Listing.{Listing}
use Rattle.peg_model.specs.Handover.{is_entry}
use Rattle.peg_directory.specs.Table.{Table, IsAt}
use Rattle.peg_directory.proofs.Kept.{found_within, reported_within, after_put}
use Rattle.peg_directory.proofs.Changed.{removed_after}
use Rattle.peg_directory.proofs.Directory.note_reply.Goals as goal

pub returns-then-ends-clause-after : goal.returns-then-ends-clause-after
returns-then-ends-clause-after c =
    let key = c.args.key.now in
    let i = c.in-Some.place in
    let e = c.in-Some.entry in
    c.remove.ensures
    ∙ removed_after c.args.self.now key c.args.home i e c.args.server c.args.version
    (subst (λ (t : Table). IsAt key t.entries i e) c.self.view_is c.in-Some.ensures.found)
    (sym c.ends.ensures ∙ c.if-ends.true)

pub invariant_of-self : goal.invariant_of-self
invariant_of-self c =
    let key = c.args.key.now in
    let rack = c.self.inside.config in
    let es = c.self.inside.entries.entries in
    let at = c.in-Some.ensures.found in
    let inv = c.self.invariant in
    let was = found_within rack key es c.in-Some.entry inv.0.within at.found in
    let low = subst (λ (t : Table). c.args.server < t.rack.servers) (sym c.self.view_is)
    c.requires in
    let now = ap (λ (r : Note × Listing). is_entry rack (key, r.1)) c.reported-note.ensures.reported
    ∙ reported_within rack key c.in-Some.entry c.args.server c.args.version was low
    c.reported-note.ensures.small in
    let long =
    index_map_len-with_value_at c.self.inside.entries c.in-Some.place c.reported-note.result.1 in (
      after_put rack key es c.in-Some.place c.in-Some.entry c.reported-note.result.1 inv.0 at now,
      omega (arith, long, inv.1),
      inv.2,
      inv.3,
    )
