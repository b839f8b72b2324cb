use Rattle.std.proofs.Common.{◌∙◌, ap, sym, subst, refl, Some}
use Rattle.std.proofs.lemmas.Cmp.{nat_list_cmp_total}
use Rattle.std.specs.Map.{lookup}
use Rattle.std.specs.BTreeMap.{is_at}
use Rattle.peg_name.specs.Name.{key_cmp}
use Rattle.peg_model.specs.Server.{with_stored}
use Rattle.peg_store.specs.declared.Place.{Place}
use Rattle.peg_store.specs.Held.{IsHeld}
use Rattle.peg_store.specs.Places.{HasSlot, IsTied, entries_of, with_content}
use Rattle.peg_store.proofs.Entries.{found_has}
use Rattle.peg_store.proofs.Found.{lookup_none, not_held}
use Rattle.peg_store.proofs.Tied.{Others-sets, tied_set, entries_set, has_put, at_slot, is_live}
use Rattle.peg_store.proofs.Store.keep.Goals as goal

pub add-requires : goal.add-requires
add-requires c =
    let p = c.self.inside in
    ap (λ m. lookup (is_at (key_cmp c.args.key.now)) (entries_of p.pool.slots m.entries))
    c.get_mut.follows.holds-at-none
    ∙ lookup_none p.pool.slots p.places.entries c.args.key.now (sym c.in_default.ensures.value)

pub returns-in_default-clause-held : goal.returns-in_default-clause-held
returns-in_default-clause-held c held =
    let p = c.self.inside in
    absurd (not_held p.pool.slots p.places.entries c.args.key.now
    (sym c.in_default.ensures.value)
    (subst (λ s. IsHeld s c.args.key.now) (sym c.self.view_is) held))

pub replace-requires-clause-live : goal.replace-requires-clause-live
replace-requires-clause-live c =
    is_live c.self.inside.pool.slots c.in-Some.place.now
    (found_has (HasSlot c.self.inside.pool.slots) (is_at (key_cmp c.args.key.now))
    c.self.inside.places.entries c.in-Some.place.now c.self.invariant.live
    (sym c.in-Some.ensures.value))

pub invariant_of-self-2 : goal.invariant_of-self-2
invariant_of-self-2 c =
    let p = c.self.inside in
    let was = c.in-Some.place.now in
    let after = c.replace.new.self.slots in
    let place : Place = record {
      numbers = c.args.numbers.now;
      slot = was.slot;
      present = c.is_present-place.result;
    } in
    subst (IsTied after) (sym (c.get_mut.follows.holds place).0)
    (tied_set p.pool.slots after (is_at (key_cmp c.args.key.now)) p.places.entries was place
    c.self.invariant (sym c.in-Some.ensures.value) refl
    (Others-sets p.pool.slots after was.slot (Some c.bytes_in.result.now) c.replace.ensures.map)
    (ap (λ s. s.size) c.replace.ensures.slots)
    (has_put after place c.args.content.now c.bytes_in.result.now
    (at_slot p.pool.slots after was.slot (Some c.bytes_in.result.now) c.replace.ensures.map)
    c.bytes_in.ensures.bytes c.is_present-place.ensures).1)

pub returns-clause-after : goal.returns-clause-after
returns-clause-after c =
    let p = c.self.inside in
    let key = c.args.key.now in
    let was = c.in-Some.place.now in
    let after = c.replace.new.self.slots in
    let place : Place = record {
      numbers = c.args.numbers.now;
      slot = was.slot;
      present = c.is_present-place.result;
    } in
    ap (entries_of after) (c.get_mut.follows.holds place).0
    ∙ entries_set key_cmp nat_list_cmp_total p.pool.slots after key p.places.entries was place
    c.self.invariant c.get_mut.ensures.ordered (sym c.in-Some.ensures.value)
    (Others-sets p.pool.slots after was.slot (Some c.bytes_in.result.now) c.replace.ensures.map)
    ∙ ap (λ content. with_stored (entries_of p.pool.slots p.places.entries) key
    (with_content c.args.numbers.now content))
    (has_put after place c.args.content.now c.bytes_in.result.now
    (at_slot p.pool.slots after was.slot (Some c.bytes_in.result.now) c.replace.ensures.map)
    c.bytes_in.ensures.bytes c.is_present-place.ensures).0
    ∙ ap (λ s. with_stored s key (with_content c.args.numbers.now c.args.content.now))
    c.self.view_is
