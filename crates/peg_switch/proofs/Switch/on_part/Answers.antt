use Rattle.std.proofs.Common.{ap, sym, ◌∙◌, Some, ◌∷◌, []}
use Rattle.peg_event.specs.declared.Outcome.TheVariants as outcome
use Rattle.peg_model.specs.Counts.{no_counts}
use Rattle.peg_model.specs.Switch.{Switch, SwitchStep, Active, acknowledgement}
use Rattle.peg_model.specs.Datagrams.{are_packets}
use Rattle.peg_switch.specs.Modes.{is_short}
use Rattle.peg_switch.proofs.Collecting.{short_after, whole_after}
use Rattle.peg_switch.proofs.Switch.on_part.Goals as goal

pub returns-in-Old-clause-after : goal.returns-in-Old-clause-after
returns-in-Old-clause-after c =
    c.take_in.ensures.after
    ∙ short_after c.args.self.now c.args.epoch c.args.index c.args.count c.args.bytes.now
    c.takes_parts_as_the_book_does.ensures.step c.requires.inactive
    (ap is_short (sym c.take_in.ensures.answer ∙ c.in-Old.is))

pub returns-in-Malformed-clause-after : goal.returns-in-Malformed-clause-after
returns-in-Malformed-clause-after c =
    c.take_in.ensures.after
    ∙ short_after c.args.self.now c.args.epoch c.args.index c.args.count c.args.bytes.now
    c.takes_parts_as_the_book_does.ensures.step c.requires.inactive
    (ap is_short (sym c.take_in.ensures.answer ∙ c.in-Malformed.is))

pub returns-in-Repeated-clause-after : goal.returns-in-Repeated-clause-after
returns-in-Repeated-clause-after c =
    c.take_in.ensures.after
    ∙ short_after c.args.self.now c.args.epoch c.args.index c.args.count c.args.bytes.now
    c.takes_parts_as_the_book_does.ensures.step c.requires.inactive
    (ap is_short (sym c.take_in.ensures.answer ∙ c.in-Repeated.is))

pub returns-in-More-clause-after : goal.returns-in-More-clause-after
returns-in-More-clause-after c =
    c.take_in.ensures.after
    ∙ short_after c.args.self.now c.args.epoch c.args.index c.args.count c.args.bytes.now
    c.takes_parts_as_the_book_does.ensures.step c.requires.inactive
    (ap is_short (sym c.take_in.ensures.answer ∙ c.in-More.is))

pub returns-in-Whole-clause-after : goal.returns-in-Whole-clause-after
returns-in-Whole-clause-after c =
    c.begin_epoch.ensures.after
    ∙ ap (λ (s : Switch). record s {
      mode = Active;
      epoch = c.args.epoch;
      counts = no_counts;
      last = c.in-Whole.last;
      kept = Some (outcome.Activated c.args.epoch);
    }) c.take_in.ensures.after
    ∙ ap (λ (t : SwitchStep). t.state)
    (sym (whole_after c.args.self.now c.args.epoch c.args.index c.args.count c.args.bytes.now
    c.in-Whole.last c.takes_parts_as_the_book_does.ensures.step c.requires.inactive
    (sym c.take_in.ensures.answer ∙ c.in-Whole.is)))

pub returns-in-Whole-clause-packets : goal.returns-in-Whole-clause-packets
returns-in-Whole-clause-packets c =
    ap (λ (t : SwitchStep). are_packets c.args.self.now.rack.format t.sent)
    (whole_after c.args.self.now c.args.epoch c.args.index c.args.count c.args.bytes.now
    c.in-Whole.last c.takes_parts_as_the_book_does.ensures.step c.requires.inactive
    (sym c.take_in.ensures.answer ∙ c.in-Whole.is))
    ∙ ap (λ (s : Switch). are_packets s.rack.format
    (acknowledgement c.in-Whole.last (outcome.Activated c.args.epoch) ∷ []))
    (sym c.take_in.ensures.after)
    ∙ c.begin_epoch.ensures.packets
