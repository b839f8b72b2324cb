use Rattle.std.proofs.Common.{◌≡◌, ◌∙◌, ap, sym, subst, refl}
use Rattle.std.proofs.lemmas.Cmp.{nat_list_cmp_total}
use Rattle.std.specs.Result.{OnOk}
use Rattle.std.specs.Map.{lookup}
use Rattle.std.specs.BTreeMap.{is_at}
use Rattle.peg_name.specs.Name.{key_cmp}
use Rattle.peg_event.specs.declared.answers.Stored.{Stored}
use Rattle.peg_model.specs.Server.{with_stored, held, nothing_held}
use Rattle.peg_store.specs.declared.Place.{Place}
use Rattle.peg_store.specs.Held.{IsHeld}
use Rattle.peg_store.specs.Places.{HasSlot, IsTied, entries_of, with_content}
use Rattle.peg_store.proofs.Entries.{found_has}
use Rattle.peg_store.proofs.Found.{lookup_none, not_held, held_found, held_none}
use Rattle.peg_store.proofs.Tied.{Others-same, tied_set, entries_set}
use Rattle.peg_store.proofs.Store.renumber.Goals as goal

pub add-requires : goal.add-requires
add-requires c =
    let p = c.self.inside in
    ap (λ m. lookup (is_at (key_cmp c.args.key.now)) (entries_of p.pool.slots m.entries))
    c.get_mut.follows.holds-at-none
    ∙ lookup_none p.pool.slots p.places.entries c.args.key.now (sym c.in_default.ensures.value)

pub returns-in_default-clause-after : goal.returns-in_default-clause-after
returns-in_default-clause-after c =
    let p = c.self.inside in
    let key = c.args.key.now in
    let same = ap (λ m. entries_of p.pool.slots m.entries) c.get_mut.follows.holds-at-none
    ∙ c.self.view_is in
    let none : held c.args.self.now key ≡ nothing_held =
    ap (λ s. held s key) (sym c.self.view_is)
    ∙ held_none p.pool.slots p.places.entries key (sym c.in_default.ensures.value) in
    subst (λ s. OnOk c.add.result (c.add.new.self ≡ s))
    (λ i. with_stored (same i) key (with_content c.args.numbers.now ((sym none) i).content))
    c.add.ensures.after

pub returns-in_default-clause-held : goal.returns-in_default-clause-held
returns-in_default-clause-held c held =
    let p = c.self.inside in
    absurd (not_held p.pool.slots p.places.entries c.args.key.now
    (sym c.in_default.ensures.value)
    (subst (λ s. IsHeld s c.args.key.now) (sym c.self.view_is) held))

pub invariant_of-self-2 : goal.invariant_of-self-2
invariant_of-self-2 c =
    let p = c.self.inside in
    let was = c.in-Some.place.now in
    let place : Place = record {
      numbers = c.args.numbers.now;
      slot = was.slot;
      present = was.present;
    } in
    subst (IsTied p.pool.slots) (sym (c.get_mut.follows.holds place).0)
    (tied_set p.pool.slots p.pool.slots (is_at (key_cmp c.args.key.now)) p.places.entries was place
    c.self.invariant (sym c.in-Some.ensures.value) refl
    (Others-same p.pool.slots was.slot) refl
    (found_has (HasSlot p.pool.slots) (is_at (key_cmp c.args.key.now)) p.places.entries was
    c.self.invariant.live (sym c.in-Some.ensures.value)))

pub returns-clause-after : goal.returns-clause-after
returns-clause-after c =
    let p = c.self.inside in
    let key = c.args.key.now in
    let was = c.in-Some.place.now in
    let place : Place = record {
      numbers = c.args.numbers.now;
      slot = was.slot;
      present = was.present;
    } in
    ap (entries_of p.pool.slots) (c.get_mut.follows.holds place).0
    ∙ entries_set key_cmp nat_list_cmp_total p.pool.slots p.pool.slots key p.places.entries was
    place c.self.invariant c.get_mut.ensures.ordered (sym c.in-Some.ensures.value)
    (Others-same p.pool.slots was.slot)
    ∙ ap (λ (s : Stored). with_stored (entries_of p.pool.slots p.places.entries) key
    (with_content c.args.numbers.now s.content))
    (sym (held_found p.pool.slots p.places.entries key was (sym c.in-Some.ensures.value)))
    ∙ ap (λ s. with_stored s key (with_content c.args.numbers.now (held s key).content))
    c.self.view_is
