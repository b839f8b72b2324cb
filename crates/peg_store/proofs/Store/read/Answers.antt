use Rattle.std.proofs.Common.{ap, ◌∙◌, sym}
use Rattle.std.specs.BTreeMap.{is_at}
use Rattle.peg_name.specs.Name.{key_cmp}
use Rattle.peg_event.specs.declared.answers.Stored.{Stored}
use Rattle.peg_model.specs.Server.{held}
use Rattle.peg_store.specs.Places.{HasSlot}
use Rattle.peg_store.proofs.Entries.{found_has}
use Rattle.peg_store.proofs.Found.{held_found, held_none}
use Rattle.peg_store.proofs.Store.read.Goals as goal

pub content_at-requires-clause-live : goal.content_at-requires-clause-live
content_at-requires-clause-live c =
    found_has (HasSlot c.self.inside.pool.slots) (is_at (key_cmp c.args.key.now))
    c.self.inside.places.entries c.in-Some.place.now c.self.invariant.live
    (sym c.in-Some.ensures.value)

pub returns-in-Some : goal.returns-in-Some
returns-in-Some c =
    (λ i. (c.in-Some.place.now.numbers.version, c.content_at.ensures i))
    ∙ ap (λ (s : Stored). (s.version, s.content))
    (sym (ap (λ s. held s c.args.key.now) (sym c.self.view_is)
    ∙ held_found c.self.inside.pool.slots c.self.inside.places.entries c.args.key.now
    c.in-Some.place.now (sym c.in-Some.ensures.value)))

pub returns-in-None : goal.returns-in-None
returns-in-None c =
    ap (λ (s : Stored). (s.version, s.content))
    (sym (ap (λ s. held s c.args.key.now) (sym c.self.view_is)
    ∙ held_none c.self.inside.pool.slots c.self.inside.places.entries c.args.key.now
    (sym c.in-None.ensures.value)))
