use Rattle.std.proofs.Common.{◌≡◌, ap, sym, refl, ◌∙◌, ℕ, List}
use Rattle.peg_model.specs.Rules.{Core}
use Rattle.peg_model.specs.Switch.{Switch}
use Rattle.peg_model.specs.Handover.{Collected}
use Rattle.peg_parts.specs.Taking.{Collection, Take}
use Rattle.peg_parts.specs.declared.Taken.{Taken}
use Rattle.peg_parts.specs.declared.Taken.TheVariants.{Old, Malformed, Repeated, More, Whole}
use Rattle.peg_switch.specs.Seen.{mode_seen}
use Rattle.peg_switch.specs.Modes.{taken_in, IsNumbered}
use Rattle.peg_switch.proofs.Collecting.{took, taken_number}
use Rattle.peg_switch.proofs.Switch.take_in.Goals as goal

-- the switch with another core and another collection
abbrev with_both : Switch → Core → Collected → Switch
with_both s core collected = record s {
  rack = core.rack;
  stamps = core.stamps;
  entries = core.entries;
  collected = collected;
}

numbered :
    (answer : Taken) → ((last : ℕ) → answer ≡ Whole last → IsNumbered (Whole last))
    → IsNumbered answer
numbered Old whole = tt
numbered Malformed whole = tt
numbered Repeated whole = tt
numbered (More held) whole = tt
numbered (Whole last) whole = whole last refl

pub returns : goal.returns
returns c =
    let i = c.self.inside in
    let v : Switch = record {
      rack = i.core.rack;
      id = i.id;
      mode = mode_seen i.mode;
      epoch = i.epoch;
      stamps = i.core.stamps;
      entries = i.core.entries;
      counts = i.counts.counts;
      last = i.last;
      kept = i.kept;
      collected = i.collector.collected;
    } in
    let e = c.args.epoch in
    let n = c.args.index in
    let k = c.args.count in
    let bytes : List ℕ = c.args.bytes.now in
    let t : Take = took v e n k bytes in
    let collected : c.take_part.new.collector.collected ≡ t.collected =
    ap (λ (x : Collection). x.collected) c.take_part.ensures.collected in
    record {
      answer =
          c.take_part.ensures.answer
          ∙ ap (λ (s : Switch). (took s e n k bytes).answer) c.self.view_is;
      after =
          ap (λ (core : Core). with_both v core c.take_part.new.collector.collected)
          c.take_part.ensures.after
          ∙ ap (λ (x : Collected). record (taken_in v t) { collected = x }) collected
          ∙ ap (λ (s : Switch). taken_in s (took s e n k bytes)) c.self.view_is;
      last =
          numbered c.take_part.result
          (λ last whole.
          taken_number i.core.rack i.epoch i.collector.collected e n k bytes last
          c.reads_back_what_is_spelled.ensures.only_states
          (sym c.take_part.ensures.answer ∙ whole));
    }
