use Rattle.std.proofs.Common.{◌≡◌, ◌<◌, ◌∷◌, [], ◌++◌, ◌∙◌, true, ap, sym, subst, length, arith}
use Rattle.std.proofs.lemmas.Result.{IfOk-at_ok}
use Rattle.std.proofs.lemmas.List.{length_push}
use Rattle.std.specs.Str.{bytes_eq}
use Rattle.indexmap.specs.IndexMap.{insert_entry}
use Rattle.indexmap.proofs.CallerLemmas.{insert_entry-new}
use Rattle.peg_event.specs.declared.answers.Listing.{Listing}
use Rattle.peg_model.specs.Handover.{is_entry}
use Rattle.peg_model.specs.Packet.{is_key}
use Rattle.peg_model.specs.Rules.{list_key}
use Rattle.peg_directory.specs.Table.{Table, with_entries}
use Rattle.peg_directory.proofs.Kept.{is_key_of, new_within, after_push}
use Rattle.peg_directory.proofs.Changed.{listed_after}
use Rattle.peg_directory.proofs.Directory.promote.Goals as goal

-- there is room for one more
room : (c : goal.After-unwrap) → length c.self.inside.entries.entries < c.self.inside.config.listed
room c = omega (
  arith,
  c.if-count-listed.false,
  c.len-count.ensures.len,
  c.listed.ensures.listed,
  c.self.invariant.0.few,
)

-- the entry goes last
after : (c : goal.After-unwrap)
    → c.insert.new.self.entries
    ≡ c.self.inside.entries.entries ++ (c.args.key.now, c.new_listing-entry.result) ∷ []
after c =
    let m = c.self.inside.entries in
    IfOk-at_ok (λ _. c.insert.new.self.entries
    ≡ insert_entry bytes_eq m.entries c.args.key.now c.new_listing-entry.result)
    c.unwrap.ensures c.insert.ensures.entries
    ∙ insert_entry-new bytes_eq m c.args.key.now c.new_listing-entry.result
    c.in_default.ensures.absent

pub invariant_of-self : goal.invariant_of-self
invariant_of-self c =
    let key = c.args.key.now in
    let rack = c.self.inside.config in
    let es = c.self.inside.entries.entries in
    let inv = c.self.invariant in
    let entry = c.new_listing-entry in
    let name : is_key key ≡ true = is_key_of key c.bytes.ensures.key in
    let low = subst (λ (t : Table). c.args.home < t.rack.servers) (sym c.self.view_is) c.requires in
    let one = ap (λ (w : Listing). is_entry rack (key, w)) entry.ensures.listing
    ∙ new_within rack key c.args.listing c.args.home c.args.base name
    c.ranges.listing.fits low entry.ensures.small in
    let long = ap length (after c) ∙ length_push es (key, entry.result) in (
      after_push rack key es c.insert.new.self.entries entry.result inv.0
          c.in_default.ensures.absent one (room c) (after c),
      omega (arith, long, c.insert.ensures.spare, inv.1),
      inv.2,
      inv.3,
    )

pub returns-clause-after : goal.returns-clause-after
returns-clause-after c =
    let key = c.args.key.now in
    let table : Table = record {
      rack = c.self.inside.config;
      entries = c.self.inside.entries.entries;
    } in
    ap (with_entries table)
    (after c
    ∙ ap (λ (e : Listing). table.entries ++ (key, e) ∷ []) c.new_listing-entry.ensures.listing)
    ∙ listed_after table key c.args.listing c.args.home c.args.base c.in_default.ensures.absent
    (room c)
    ∙ ap
    (λ (t : Table). with_entries t
    (list_key t.rack.listed t.entries key c.args.listing c.args.home c.args.base).1)
    c.self.view_is
