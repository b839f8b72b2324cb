use Rattle.std.proofs.Common.{◌≡◌, ◌<◌, ◌++◌, length, take, get_or, ap, sym, ◌∙◌, arith, append_assoc}
use Rattle.std.proofs.lemmas.Option.{get_or_from_slice_get}
use Rattle.std.specs.List.{flat_map}
use Rattle.peg_model.specs.Handover.{entry_bytes}
use Rattle.peg_grammar.specs.State.{is_rising}
use Rattle.peg_parts.proofs.Lists.{flat_next, all_next}
use Rattle.peg_parts.proofs.spell.put_entries.Goals as goal

pub loop-place-preserved : goal.loop-place-preserved
loop-place-preserved c =
    let es = c.args.directory.now.entries in
    let i = c.loop-place.place in
    let e = c.entry-key.result in
    let inv = c.loop-place.invariant in
    let bytes = entry_bytes c.args.format in
    let lt : i < length es = omega (arith, c.loop-place-test.true, c.len-place-end.ensures.len) in
    let at : get_or es i e ≡ e = get_or_from_slice_get es i e e (sym c.entry-key.ensures) in
    record {
      items = c.put_entry.ensures.items ∙ ap (λ l. l ++ bytes e) inv.items
          ∙ append_assoc c.args.out.now.items (flat_map bytes (take i es)) (bytes e)
          ∙ ap (λ l. c.args.out.now.items ++ l)
          (ap (λ x. flat_map bytes (take i es) ++ bytes x) (sym at)
          ∙ sym (flat_next bytes es i e lt));
      room = omega (arith, c.put_entry.ensures.room, inv.room);
      short = omega (arith, c.put_entry.ensures.short, inv.short);
      rising = all_next (λ item. is_rising item.1.holders) es i e lt inv.rising
          (ap (λ x. is_rising x.1.holders) at ∙ c.put_entry.ensures.rising);
    }
