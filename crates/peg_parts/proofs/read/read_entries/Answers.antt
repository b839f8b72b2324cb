use Rattle.std.proofs.Common.{◌≡◌, ◌+◌, ◌-◌, ◌++◌, ◌∷◌, [], length, ap, sym, ◌∙◌, arith, length-append}
use Rattle.std.specs.List.{list_all}
use Rattle.peg_model.specs.Reading.{one_at, past_key}
use Rattle.peg_model.specs.Rules.{Directory}
use Rattle.peg_model.specs.Handover.{is_entry, entries_at, holder_width}
use Rattle.peg_parts.proofs.Lists.{all_push}
use Rattle.peg_parts.proofs.Reading.{not_few, not_within, one_more}
use Rattle.peg_parts.proofs.read.read_entries.Goals as goal

pub returns-then-from-listed-clause-answer : goal.returns-then-from-listed-clause-answer
returns-then-from-listed-clause-answer c =
    sym (not_few c.args.bytes.now c.args.config.now (one_at c.args.bytes.now c.args.at)
    (c.args.at + 1) (omega (arith, c.from.ensures, c.byte_at-count.ensures, c.listed.ensures.listed)))

pub returns-in_default-clause-answer : goal.returns-in_default-clause-answer
returns-in_default-clause-answer c =
    sym (not_within c.args.bytes.now c.args.config.now c.loop.entries.items _
    (c.byte_at-count.result - c.loop.counter) (c.byte_at-count.result - (c.loop.counter + 1))
    c.loop.place (omega arith) c.loop.invariant.entries c.in_default.ensures.none)

pub loop-preserved : goal.loop-preserved
loop-preserved c =
    let rack = c.args.config.now in
    let width : c.width-width.result ≡ holder_width rack.format =
    c.width-width.ensures.width ∙ ap holder_width c.format.ensures
    in
    let next : c.past_key.result + 32 + c.width-width.result
    ≡ past_key c.args.bytes.now c.loop.place + 32 + holder_width rack.format =
    (λ j. c.past_key.ensures.past j + 32 + width j)
    in
    let items : c.push_reserved.new.self.items ≡ c.loop.entries.items ++ c.in-Some.item ∷ [] =
    c.push_reserved.ensures.items
    in
    record {
      entries =
          one_more c.args.bytes.now rack.format c.loop.entries.items _
          (c.byte_at-count.result - c.loop.counter) (c.byte_at-count.result - (c.loop.counter + 1))
          c.loop.place _ (omega arith) next c.loop.invariant.entries
          ∙ ap (λ (read : Directory). read ++ entries_at c.args.bytes.now rack.format
          (c.byte_at-count.result - (c.loop.counter + 1)) (c.past_key.result + 32 + c.width-width.result))
          (ap (λ item. c.loop.entries.items ++ item ∷ []) (sym c.in-Some.ensures.entry) ∙ sym items);
      within =
          ap (list_all (is_entry rack)) items
          ∙ all_push (is_entry rack) c.loop.entries.items c.in-Some.item c.loop.invariant.within
          c.in-Some.ensures.within;
      read = ap length items ∙ length-append c.loop.entries.items (c.in-Some.item ∷ []) ∙ ap (λ n. n + 1) c.loop.invariant.read;
      near = omega (arith, c.past_key.ensures.near, c.width-width.ensures.few, c.loop.invariant.near);
      room = c.push_reserved.ensures.capacity ∙ c.loop.invariant.room;
    }
