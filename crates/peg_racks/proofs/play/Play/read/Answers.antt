use Rattle.std.proofs.Common.{◌∙◌, Some, refl, sym, ap}
use Rattle.peg_meaning.specs.Racks.{Happens, End}
use Rattle.peg_text.specs.declared.dividing.RacksLine.{RacksLine}
use Rattle.peg_text.specs.declared.dividing.RacksLine.TheVariants as racks_line
use Rattle.peg_text.specs.Divides.{event_said}
use Rattle.peg_racks.specs.Playing.{word_of}
use Rattle.peg_racks.proofs.Stepping.{took_line, no_line, only_line, taken_line}
use Rattle.peg_racks.proofs.play.Play.read.Goals as goal

pub step-requires-clause-taken : goal.step-requires-clause-taken
step-requires-clause-taken g c =
    let s = c.args.self.now in
    let event = c.in-Event.event in
    taken_line s.is_over s.racks s.unnamed s.place s.lines c.requires.on c.args.line.now
    c.requires.named c.racks_line_of.result
    (λ d e are. c.racks_line_of.ensures.complete d e (are ∙ sym c.configs.ensures.configs))
    (λ d are. c.racks_line_of.ensures.sound d (are ∙ sym c.configs.ensures.configs))
    (racks_line.Event event) (event_said event)
    (c.in-Some.is ∙ ap (λ (l : RacksLine). Some l) c.in-Event.is) refl

pub returns-in_default-clause-took : goal.returns-in_default-clause-took
returns-in_default-clause-took g c =
    let s = c.args.self.now in (
      no_line s.is_over s.racks s.unnamed s.place s.lines c.requires.on c.args.line.now
          c.requires.named c.racks_line_of.result
          (λ d e are. c.racks_line_of.ensures.complete d e (are ∙ sym c.configs.ensures.configs))
          c.in_default.is,
      record { same_page = refl; same_held = refl },
    )

pub returns-in-Event-clause-took : goal.returns-in-Event-clause-took
returns-in-Event-clause-took g c =
    let s = c.args.self.now in
    let event = c.in-Event.event in
    took_line (word_of s) c.args.line.now (Happens (event_said event)) (word_of c.step.new.self)
    c.args.page.now c.step.new.page (g.K.Sink.held c.args.sink.now)
    (g.K.Sink.held c.step.new.sink) c.step.result
    (only_line s.is_over s.racks s.unnamed s.place s.lines c.requires.on c.args.line.now
    c.requires.named c.racks_line_of.result
    (λ d e are. c.racks_line_of.ensures.complete d e (are ∙ sym c.configs.ensures.configs))
    (λ d are. c.racks_line_of.ensures.sound d (are ∙ sym c.configs.ensures.configs))
    (racks_line.Event event)
    (c.in-Some.is ∙ ap (λ (l : RacksLine). Some l) c.in-Event.is))
    c.step.ensures.took

pub returns-in-End-clause-took : goal.returns-in-End-clause-took
returns-in-End-clause-took g c =
    let s = c.args.self.now in
    took_line (word_of s) c.args.line.now End (word_of c.end.new.self) c.args.page.now
    c.end.new.page (g.K.Sink.held c.args.sink.now) (g.K.Sink.held c.end.new.sink) c.end.result
    (only_line s.is_over s.racks s.unnamed s.place s.lines c.requires.on c.args.line.now
    c.requires.named c.racks_line_of.result
    (λ d e are. c.racks_line_of.ensures.complete d e (are ∙ sym c.configs.ensures.configs))
    (λ d are. c.racks_line_of.ensures.sound d (are ∙ sym c.configs.ensures.configs))
    racks_line.End (c.in-Some.is ∙ ap (λ (l : RacksLine). Some l) c.in-End.is))
    c.end.ensures.took
