use Rattle.std.proofs.Common.{◌∙◌, ap, sym, subst, Some}
use Rattle.std.specs.Map.{lookup}
use Rattle.std.specs.BTreeMap.{is_at}
use Rattle.peg_name.specs.Name.{key_cmp}
use Rattle.peg_model.specs.Server.{with_stored}
use Rattle.peg_store.specs.declared.Place.{Place}
use Rattle.peg_store.specs.Places.{IsTied, entries_of, with_content}
use Rattle.peg_store.proofs.Found.{not_found}
use Rattle.peg_store.proofs.Tied.{undone, Others-sets, tied_undone, entries_undone}
use Rattle.peg_store.proofs.Tied.{tied_inserted, entries_inserted, has_put, at_slot}
use Rattle.peg_store.proofs.Store.add.Goals as goal

pub invariant_of-self-in-Err : goal.invariant_of-self-in-Err
invariant_of-self-in-Err c =
    let p = c.self.inside in
    subst (IsTied c.free.new.self.slots) (sym c.in-Err.ensures.err)
    (tied_undone p.pool.slots c.free.new.self.slots p.places.entries c.self.invariant
    (undone p.pool.slots c.put.new.self.slots c.free.new.self.slots c.in_ok-slot.slot
    (Some c.bytes_in.result.now) c.in_ok-slot.ensures.fresh c.in_ok-slot.ensures.map
    c.free.ensures.map)
    (ap (λ s. s.size) c.free.ensures.slots ∙ ap (λ s. s.size) c.in_ok-slot.ensures.slots))

pub returns-in-Err-clause-err : goal.returns-in-Err-clause-err
returns-in-Err-clause-err c =
    let p = c.self.inside in
    ap (entries_of c.free.new.self.slots) c.in-Err.ensures.err
    ∙ entries_undone p.pool.slots c.free.new.self.slots p.places.entries
    (undone p.pool.slots c.put.new.self.slots c.free.new.self.slots c.in_ok-slot.slot
    (Some c.bytes_in.result.now) c.in_ok-slot.ensures.fresh c.in_ok-slot.ensures.map
    c.free.ensures.map)
    ∙ c.self.view_is

pub invariant_of-self-in_default : goal.invariant_of-self-in_default
invariant_of-self-in_default c =
    let p = c.self.inside in
    let key = c.args.key.now in
    let place : Place = record {
      numbers = c.args.numbers.now;
      slot = c.in_ok-slot.slot;
      present = c.is_present.result;
    } in
    subst (IsTied c.put.new.self.slots) (sym c.in_default.ensures.entries)
    (tied_inserted key_cmp p.pool.slots c.put.new.self.slots p.places.entries key place
    c.self.invariant
    (not_found p.pool.slots p.places.entries key
    (ap (lookup (is_at (key_cmp key))) c.self.view_is ∙ c.requires))
    c.in_ok-slot.ensures.fresh
    (Others-sets p.pool.slots c.put.new.self.slots place.slot (Some c.bytes_in.result.now)
    c.in_ok-slot.ensures.map)
    (ap (λ s. s.size) c.in_ok-slot.ensures.slots)
    (has_put c.put.new.self.slots place c.args.content.now c.bytes_in.result.now
    (at_slot p.pool.slots c.put.new.self.slots place.slot (Some c.bytes_in.result.now)
    c.in_ok-slot.ensures.map)
    c.bytes_in.ensures.bytes c.is_present.ensures).1)

pub returns-clause-after : goal.returns-clause-after
returns-clause-after c =
    let p = c.self.inside in
    let key = c.args.key.now in
    let place : Place = record {
      numbers = c.args.numbers.now;
      slot = c.in_ok-slot.slot;
      present = c.is_present.result;
    } in
    ap (entries_of c.put.new.self.slots) c.in_default.ensures.entries
    ∙ entries_inserted key_cmp p.pool.slots c.put.new.self.slots p.places.entries key place
    c.self.invariant c.in_ok-slot.ensures.fresh
    (Others-sets p.pool.slots c.put.new.self.slots place.slot (Some c.bytes_in.result.now)
    c.in_ok-slot.ensures.map)
    ∙ ap (λ content. with_stored (entries_of p.pool.slots p.places.entries) key
    (with_content c.args.numbers.now content))
    (has_put c.put.new.self.slots place c.args.content.now c.bytes_in.result.now
    (at_slot p.pool.slots c.put.new.self.slots place.slot (Some c.bytes_in.result.now)
    c.in_ok-slot.ensures.map)
    c.bytes_in.ensures.bytes c.is_present.ensures).0
    ∙ ap (λ s. with_stored s key (with_content c.args.numbers.now c.args.content.now))
    c.self.view_is
