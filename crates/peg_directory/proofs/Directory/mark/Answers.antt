use Rattle.std.proofs.Common.{◌∙◌, ap, arith}
use Rattle.indexmap.proofs.CallerLemmas.{index_map_len-with_value_at}
use Rattle.peg_event.specs.declared.answers.Listing.{Listing}
use Rattle.peg_model.specs.Rules.{mark_key}
use Rattle.peg_model.specs.Handover.{is_entry}
use Rattle.peg_directory.specs.Table.{Table, with_entries}
use Rattle.peg_directory.proofs.Kept.{found_within, marked_within, after_put}
use Rattle.peg_directory.proofs.Changed.{marked_after}
use Rattle.peg_directory.proofs.Directory.mark.Goals as goal

pub invariant_of-self : goal.invariant_of-self
invariant_of-self c =
    let key = c.args.key.now in
    let rack = c.self.inside.config in
    let es = c.self.inside.entries.entries in
    let at = c.in-Some.ensures.found in
    let inv = c.self.invariant in
    let was = found_within rack key es c.in-Some.entry inv.0.within at.found in
    let now = ap (λ (w : Listing). is_entry rack (key, w)) c.marked.ensures.marked
    ∙ marked_within rack key c.in-Some.entry c.args.next was c.requires c.marked.ensures.small in
    let long = index_map_len-with_value_at c.self.inside.entries c.in-Some.place c.marked.result in (
      after_put rack key es c.in-Some.place c.in-Some.entry c.marked.result inv.0 at now,
      omega (arith, long, inv.1),
      inv.2,
      inv.3,
    )

pub returns-clause-after : goal.returns-clause-after
returns-clause-after c =
    let key = c.args.key.now in
    marked_after (record { rack = c.self.inside.config; entries = c.self.inside.entries.entries })
    key c.in-Some.place c.in-Some.entry c.marked.result c.args.next c.in-Some.ensures.found
    c.in_default-mark.is c.marked.ensures.marked
    ∙ ap (λ (t : Table). with_entries t (mark_key t.entries key c.args.next).1) c.self.view_is
