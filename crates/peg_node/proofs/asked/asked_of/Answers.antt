use Rattle.std.proofs.Common.{◌≡◌, ◌∙◌, List, ℕ, Option, Some, ap, sym, option_map, arith}
use Rattle.std.specs.Borrow.{Bor}
use Rattle.peg_text.proofs.EventLines.{clients_few}
use Rattle.peg_node.specs.Asks.{with_client}
use Rattle.peg_node.proofs.AskLines.{sound_of, complete_read, no_space}
use Rattle.peg_node.proofs.asked.asked_of.Goals as goal

pub returns-in-None-clause-complete : goal.returns-in-None-clause-complete
returns-in-None-clause-complete c =
    λ asked asks. absurd (no_space c.args.config.now c.args.line.now
    (sym c.with_client.ensures
    ∙ ap (λ (o : Option (Bor (List ℕ))). option_map (λ (l : Bor (List ℕ)). l.now) o) c.in-None.is)
    asked asks)

pub returns-in-Some-clause-sound : goal.returns-in-Some-clause-sound
returns-in-Some-clause-sound c =
    let rack = c.args.config.now in
    let few = clients_few rack.format in
    let limits = c.clients.ensures.limits in
    sound_of rack c.args.line.now c.in-Some.full.now
    (sym c.with_client.ensures
    ∙ ap (λ (o : Option (Bor (List ℕ))). option_map (λ (l : Bor (List ℕ)). l.now) o) c.in-Some.is)
    c.event_of.result c.asked_in.result (omega (arith, limits.clients.1, few))
    c.event_of.ensures.sound c.asked_in.ensures

pub returns-in-Some-clause-complete : goal.returns-in-Some-clause-complete
returns-in-Some-clause-complete c =
    λ asked asks. c.asked_in.ensures
    ∙ complete_read c.args.config.now c.args.line.now c.in-Some.full.now
    (sym c.with_client.ensures
    ∙ ap (λ (o : Option (Bor (List ℕ))). option_map (λ (l : Bor (List ℕ)). l.now) o) c.in-Some.is)
    c.event_of.result c.clients.ensures.limits.clients.0 c.event_of.ensures.event asked asks
