-- What the controller makes of what it takes, as its meaning has it.
use Rattle.std.proofs.Common.{zero, suc, subst, arith, ◌≤◌, ◌<◌, ◌++◌, ◌≡◌, ◌+◌, ◌-◌, ◌==◌, ◌&&◌, not, ℕ, Bool, true, false, Option, List, [], map, ap, sym, ◌∙◌}
use Rattle.std.proofs.Common.{Some, None, refl, option_map}
use Rattle.std.specs.Prelude.{if◌then◌else◌, codes, decimal}
use Rattle.std.proofs.lemmas.Option.{none-some, same_Some}
use Rattle.std.proofs.lemmas.Bool.Decides.{nat_tests}
use Rattle.peg_name.specs.declared.Format.{Format}
use Rattle.peg_name.specs.declared.Node.{Node}
use Rattle.peg_model.specs.Packet.{Packet}
use Rattle.peg_packet.specs.Outbox.{Outbox, posted}
use Rattle.peg_event.specs.declared.Command.{Command}
use Rattle.peg_event.specs.declared.ControlDid.{ControlDid}
use Rattle.peg_event.specs.declared.Said.{Said}
use Rattle.peg_event.specs.declared.Said.TheVariants as said
use Rattle.peg_model.specs.Controller.{Controller}
use Rattle.peg_model.specs.Datagrams.{controller_on_bytes, spelled}
use Rattle.peg_model.specs.Schedule.{fed}
use Rattle.peg_model.specs.Trace.{said_text}
use Rattle.peg_name.specs.Name.{Rack}
use Rattle.peg_packet.specs.Nodes.{are_in_rack}
use Rattle.peg_node.specs.Serving.{AreInRack}
use Rattle.peg_node.proofs.Outboxes.{in_rack_items}
use Rattle.peg_node.specs.Phases.{IsPhase}
use Rattle.peg_node.specs.declared.phase.Phase as rust
use Rattle.peg_node.specs.declared.phase.Phase.TheVariants as phase
use Rattle.peg_meaning.specs.Session.{Entry, Datagram, Quiet, Tick, Goes, Past, Came, begun, letter_to}
use Rattle.peg_meaning.specs.Roles.{Console, Call, Phase, Reading, Awaiting, controls, control_on}
use Rattle.peg_meaning.specs.Roles.{call, calls, is_refused, is_survey, is_report, done, waits_on}
use Rattle.peg_meaning.specs.Roles.{reported, call_again, unanswered_text}

pub few_lines : (n : ℕ) → n < 1000000 → (n == 1000000) ≡ false
few_lines n few = grind (arith, nat_tests, few)

-- what is left while a line is carried out
pub few_left :
    (p : rust.Phase) (sends turns : ℕ) → p ≡ phase.Awaiting sends turns → IsPhase p
    → (sends < 100) × (turns ≤ 1000)
few_left p sends turns is holds = subst (λ (q : rust.Phase). IsPhase q) is holds

pub not_none : (n : ℕ) → (n ≡ 0 → ⊥) → (n == 0) ≡ false
not_none zero some = absurd (some refl)
not_none (suc n) some = grind (arith, nat_tests)

-- what an empty outbox then holds
pub posted_items :
    (f : Format) (before after : Outbox) (sent : List (Node × Packet)) → before.items ≡ []
    → before.format ≡ f → after ≡ posted before sent → after.items ≡ spelled f sent
posted_items f before after sent none same posts =
    ap (λ (o : Outbox). o.items) posts
    ∙ ap (λ (xs : List (Node × List ℕ)). xs ++ spelled before.format sent) none
    ∙ ap (λ g. spelled g sent) same

-- what holds of the outbox and the rack after a step
pub kept :
    (k now : Controller) (p posts : Outbox) (sent : List (Node × Packet))
    → p.format ≡ k.rack.format → k.rack.clients < p.slots → p.items ≡ []
    → posts ≡ posted p sent → now.rack ≡ k.rack → are_in_rack k.rack sent ≡ true
    → (posts.format ≡ now.rack.format)
    × ((now.rack.clients < posts.slots) × AreInRack now.rack posts.items)
kept k now p posts sent same room none is rack nodes =
    let items = posted_items k.rack.format p posts sent none same is in (
      ap (λ (o : Outbox). o.format) is ∙ same ∙ ap (λ (r : Rack). r.format) (sym rack),
      (
        subst (λ (r : Rack). r.clients < posts.slots) (sym rack)
            (subst (λ (o : Outbox). k.rack.clients < o.slots) (sym is) room),
        subst (λ (r : Rack). AreInRack r posts.items) (sym rack)
            (subst (λ (xs : List (Node × List ℕ)). AreInRack k.rack xs) (sym items)
            (in_rack_items k.rack k.rack.format sent nodes)),
      ),
    )

module _ (s : Console) where
  pub line_past :
      (c : Call) → s.phase ≡ Reading → (s.lines == 1000000) ≡ true
      → controls.on s (Entry c) ≡ Past
  line_past c at full =
      ap (λ (p : Phase). control_on p s (Entry c)) at
      ∙ ap (λ b. if b then Past else Goes (calls s c)) full

  pub line_called :
      (c : Call) (k : Controller) (did : Said) (b : Bool) (items : List (Node × List ℕ))
      → s.phase ≡ Reading → s.lines < 1000000
      → did ≡ (call s.controller c).did → k ≡ (call s.controller c).state
      → items ≡ spelled s.controller.rack.format (call s.controller c).sent → is_refused did ≡ b
      → controls.on s (Entry c)
      ≡ Goes (reported
      (if b
      then done
      (record s { controller = k; lines = s.lines + 1; is_surveying = is_survey c; phase = Reading })
      else waits_on
      (record s { controller = k; lines = s.lines + 1; is_surveying = is_survey c; phase = Reading })
      (s.tries - 1) s.waits)
      did (map (letter_to 0 s.base) items))
  line_called c k did b items at few did_is after sent is =
      let step = call s.controller c in
      let F : Said → Bool → Controller → List (Node × List ℕ) → Came Console =
      λ d r j xs.
      let now : Console =
      record s {
        controller = j;
        lines = s.lines + 1;
        is_surveying = is_survey c;
        phase = Reading;
      } in
      reported (if r then done now else waits_on now (s.tries - 1) s.waits) d
      (map (letter_to 0 s.base) xs) in
      ap (λ (p : Phase). control_on p s (Entry c)) at
      ∙ ap (λ r. if r then Past else Goes (calls s c)) (few_lines s.lines few)
      ∙ ap (λ d. Goes (F d (is_refused d) step.state (spelled s.controller.rack.format step.sent)))
      (sym did_is)
      ∙ ap (λ r. Goes (F did r step.state (spelled s.controller.rack.format step.sent))) is
      ∙ ap (λ j. Goes (F did b j (spelled s.controller.rack.format step.sent))) (sym after)
      ∙ ap (λ (xs : List (Node × List ℕ)). Goes (F did b k xs)) (sym sent)

  pub datagram_heard :
      (bytes : List ℕ) (sends turns : ℕ) (k : Controller) (did : ControlDid) (b : Bool)
      (items : List (Node × List ℕ))
      → s.phase ≡ Awaiting sends turns
      → did ≡ (controller_on_bytes s.controller bytes).did
      → k ≡ (controller_on_bytes s.controller bytes).state
      → items ≡ spelled s.controller.rack.format (controller_on_bytes s.controller bytes).sent
      → (s.is_surveying && not (is_report did)) ≡ b
      → controls.on s (Datagram bytes)
      ≡ Goes (reported
      (waits_on (record s { controller = k; is_surveying = b }) sends (turns - 1))
      (said.Controller did) (map (letter_to 0 s.base) items))
  datagram_heard bytes sends turns k did b items at did_is after sent is =
      let step = controller_on_bytes s.controller bytes in
      let F : ControlDid → Bool → Controller → List (Node × List ℕ) → Came Console =
      λ d r j xs. reported
      (waits_on (record s { controller = j; is_surveying = r }) sends (turns - 1))
      (said.Controller d) (map (letter_to 0 s.base) xs) in
      ap (λ (p : Phase). control_on p s (Datagram bytes)) at
      ∙ ap (λ d. Goes (F d (s.is_surveying && not (is_report d)) step.state
      (spelled s.controller.rack.format step.sent))) (sym did_is)
      ∙ ap (λ r. Goes (F did r step.state (spelled s.controller.rack.format step.sent))) is
      ∙ ap (λ j. Goes (F did b j (spelled s.controller.rack.format step.sent))) (sym after)
      ∙ ap (λ (xs : List (Node × List ℕ)). Goes (F did b k xs)) (sym sent)

  pub pause_heard :
      (sends turns : ℕ) (items : List (Node × List ℕ)) → s.phase ≡ Awaiting sends turns
      → items ≡ []
      → controls.on s Quiet
      ≡ Goes (begun (waits_on s sends (turns - 1)) [] (map (letter_to 0 s.base) items))
  pause_heard sends turns items at none =
      ap (λ (p : Phase). control_on p s Quiet) at
      ∙ ap (λ (xs : List (Node × List ℕ)). Goes
      (begun (waits_on s sends (turns - 1)) [] (map (letter_to 0 s.base) xs))) (sym none)

  pub called_again :
      (sends turns : ℕ) (c : Call) (k : Controller) (did : Said) (items : List (Node × List ℕ))
      → s.phase ≡ Awaiting sends turns → (sends ≡ 0 → ⊥)
      → c ≡ call_again s.is_surveying s.controller.pending
      → did ≡ (call s.controller c).did → k ≡ (call s.controller c).state
      → items ≡ spelled s.controller.rack.format (call s.controller c).sent
      → controls.on s Tick
      ≡ Goes (reported (record s { controller = k; phase = Awaiting (sends - 1) s.waits }) did
      (map (letter_to 0 s.base) items))
  called_again sends turns c k did items at some again did_is after sent =
      let F : Said → Controller → List (Node × List ℕ) → Came Console =
      λ d j xs. reported (record s { controller = j; phase = Awaiting (sends - 1) s.waits }) d
      (map (letter_to 0 s.base) xs) in
      let step = call s.controller c in
      let H : Call → Bool → Came Console =
      λ e b. let other = call s.controller e in
      if b
      then record {
        state = done s;
        text = fed (unanswered_text s.controller.pending s.controller.last);
        binds = [];
        letters = [];
      }
      else F other.did other.state (spelled s.controller.rack.format other.sent) in
      ap (λ (p : Phase). control_on p s Tick) at
      ∙ ap (λ b. Goes (H (call_again s.is_surveying s.controller.pending) b)) (not_none sends some)
      ∙ ap (λ (e : Call). Goes (H e false)) (sym again)
      ∙ ap (λ d. Goes (F d step.state (spelled s.controller.rack.format step.sent))) (sym did_is)
      ∙ ap (λ j. Goes (F did j (spelled s.controller.rack.format step.sent))) (sym after)
      ∙ ap (λ (xs : List (Node × List ℕ)). Goes (F did k xs)) (sym sent)

  pub given_up :
      (turns : ℕ) (items : List (Node × List ℕ)) (o : Option Command)
      → s.phase ≡ Awaiting 0 turns → items ≡ [] → s.controller.pending ≡ o
      → controls.on s Tick
      ≡ Goes (record {
        state = done s;
        text = fed (unanswered_text o s.controller.last);
        binds = [];
        letters = map (letter_to 0 s.base) items;
      })
  given_up turns items o at none is =
      let F : Option Command → List (Node × List ℕ) → Came Console =
      λ p xs. record {
        state = done s;
        text = fed (unanswered_text p s.controller.last);
        binds = [];
        letters = map (letter_to 0 s.base) xs;
      } in
      ap (λ (p : Phase). control_on p s Tick) at
      ∙ ap (λ p. Goes (F p [])) is
      ∙ ap (λ (xs : List (Node × List ℕ)). Goes (F o xs)) (sym none)

  abbrev gave_up : List ℕ → List (Node × List ℕ) → Came Console
  gave_up text items =
      record {
        state = done s;
        text = fed text;
        binds = [];
        letters = map (letter_to 0 s.base) items;
      }

  survey_given :
      (turns : ℕ) (items : List (Node × List ℕ)) (o : Option Command)
      → s.phase ≡ Awaiting 0 turns → items ≡ [] → s.controller.pending ≡ o
      → option_map (λ (c : Command). s.controller.last) o ≡ None
      → controls.on s Tick ≡ Goes (gave_up (codes "controller unanswered survey") items)
  survey_given turns items None at none is absent = given_up turns items None at none is
  survey_given turns items (Some c) at none is absent =
      absurd (none-some s.controller.last (sym absent))

  pub given_up_survey :
      (turns : ℕ) (items : List (Node × List ℕ)) (r : Option ℕ)
      → s.phase ≡ Awaiting 0 turns → items ≡ []
      → r ≡ option_map (λ (c : Command). s.controller.last) s.controller.pending → r ≡ None
      → controls.on s Tick ≡ Goes (gave_up (codes "controller unanswered survey") items)
  given_up_survey turns items r at none is absent =
      survey_given turns items s.controller.pending at none refl (sym is ∙ absent)

  number_given :
      (turns number : ℕ) (items : List (Node × List ℕ)) (o : Option Command)
      → s.phase ≡ Awaiting 0 turns → items ≡ [] → s.controller.pending ≡ o
      → option_map (λ (c : Command). s.controller.last) o ≡ Some number
      → controls.on s Tick
      ≡ Goes (gave_up (codes "controller unanswered " ++ decimal number) items)
  number_given turns number items None at none is some = absurd (none-some number some)
  number_given turns number items (Some c) at none is some =
      given_up turns items (Some c) at none is
      ∙ ap (λ n. Goes (gave_up (codes "controller unanswered " ++ decimal n) items))
      (same_Some s.controller.last number some)

  pub given_up_number :
      (turns number : ℕ) (items : List (Node × List ℕ)) (r : Option ℕ)
      → s.phase ≡ Awaiting 0 turns → items ≡ []
      → r ≡ option_map (λ (c : Command). s.controller.last) s.controller.pending
      → r ≡ Some number
      → controls.on s Tick
      ≡ Goes (gave_up (codes "controller unanswered " ++ decimal number) items)
  given_up_number turns number items r at none is some =
      number_given turns number items s.controller.pending at none refl (sym is ∙ some)
