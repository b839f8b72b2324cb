-- What a client that asks makes of what it takes, as its meaning has it.
use Rattle.std.proofs.Common.{refl, zero, suc, arith, ◌<◌, ◌++◌, ◌≡◌, ◌+◌, ◌-◌, ◌==◌, ℕ, Bool, true, false, Option, List, [], map, ap, sym, ◌∙◌}
use Rattle.std.specs.Prelude.{if◌then◌else◌}
use Rattle.std.proofs.lemmas.Bool.Decides.{nat_tests}
use Rattle.peg_name.specs.declared.Format.{Format}
use Rattle.peg_name.specs.declared.Node.{Node}
use Rattle.peg_model.specs.Packet.{Packet}
use Rattle.peg_packet.specs.Outbox.{Outbox, posted}
use Rattle.peg_event.specs.declared.answers.Issue.{Issue}
use Rattle.peg_event.specs.declared.ClientDid.{ClientDid}
use Rattle.peg_model.specs.Client.{Client, begin_operation, resend, give_up}
use Rattle.peg_model.specs.Datagrams.{client_on_bytes, spelled}
use Rattle.peg_model.specs.Schedule.{fed}
use Rattle.peg_model.specs.Trace.{client_text}
use Rattle.peg_meaning.specs.Session.{Entry, Datagram, Quiet, Tick, Letter, Goes, Past, Came, begun}
use Rattle.peg_meaning.specs.Session.{saying, quietly, letter_to}
use Rattle.peg_meaning.specs.Roles.{Asker, Asked, Phase, Reading, Awaiting, asks, ask_on, issues}
use Rattle.peg_meaning.specs.Roles.{issued, is_answer, unanswered_line, asks_again}

pub few_lines : (n : ℕ) → n < 1000000 → (n == 1000000) ≡ false
few_lines n few = grind (arith, nat_tests, few)

pub not_none : (n : ℕ) → (n ≡ 0 → ⊥) → (n == 0) ≡ false
not_none zero some = absurd (some refl)
not_none (suc n) some = grind (arith, nat_tests)

-- what an empty outbox then holds
pub posted_items :
    (f : Format) (before after : Outbox) (sent : List (Node × Packet)) → before.items ≡ []
    → before.format ≡ f → after ≡ posted before sent → after.items ≡ spelled f sent
posted_items f before after sent none same posts =
    ap (λ (o : Outbox). o.items) posts
    ∙ ap (λ (xs : List (Node × List ℕ)). xs ++ spelled before.format sent) none
    ∙ ap (λ g. spelled g sent) same

module _ (s : Asker) where
  pub line_past :
      (asked : Asked) → s.phase ≡ Reading → (s.lines == 1000000) ≡ true
      → asks.on s (Entry asked) ≡ Past
  line_past asked at full =
      ap (λ (p : Phase). ask_on p s (Entry asked)) at
      ∙ ap (λ b. if b then Past else Goes (issues s asked)) full

  pub line_issues :
      (asked : Asked) (c : Client) (did d : Issue) (items : List (Node × List ℕ))
      → s.phase ≡ Reading → s.lines < 1000000
      → did ≡ (begin_operation s.client asked.0 asked.1).did
      → c ≡ (begin_operation s.client asked.0 asked.1).state
      → items ≡ spelled s.client.format (begin_operation s.client asked.0 asked.1).sent
      → did ≡ d
      → asks.on s (Entry asked)
      ≡ Goes (issued d (record s { client = c; lines = s.lines + 1; phase = Reading })
      (map (letter_to 0 s.base) items))
  line_issues asked c did d items at few did_is after sent is =
      let step = begin_operation s.client asked.0 asked.1 in
      let F : Issue → Client → List (Node × List ℕ) → Came Asker =
      λ e k xs. issued e (record s { client = k; lines = s.lines + 1; phase = Reading })
      (map (letter_to 0 s.base) xs) in
      ap (λ (p : Phase). ask_on p s (Entry asked)) at
      ∙ ap (λ b. if b then Past else Goes (issues s asked)) (few_lines s.lines few)
      ∙ ap (λ e. Goes (F e step.state (spelled s.client.format step.sent))) (sym did_is ∙ is)
      ∙ ap (λ k. Goes (F d k (spelled s.client.format step.sent))) (sym after)
      ∙ ap (λ (xs : List (Node × List ℕ)). Goes (F d c xs)) (sym sent)

  pub datagram_heard :
      (bytes : List ℕ) (sends turns : ℕ) (c : Client) (did : ClientDid) (b : Bool)
      (items : List (Node × List ℕ))
      → s.phase ≡ Awaiting sends turns → did ≡ (client_on_bytes s.client bytes).did
      → c ≡ (client_on_bytes s.client bytes).state → is_answer did ≡ b → items ≡ []
      → asks.on s (Datagram bytes)
      ≡ Goes (if b then record {
        state = record s { client = c; phase = Reading };
        text = fed (client_text did);
        binds = [];
        letters = map (letter_to 0 s.base) items;
      }
      else record {
        state = record s { client = c; phase = Awaiting sends (turns - 1) };
        text = [];
        binds = [];
        letters = map (letter_to 0 s.base) items;
      })
  datagram_heard bytes sends turns c did b items at did_is after is none =
      let step = client_on_bytes s.client bytes in
      let F : Bool → ClientDid → Client → List Letter → Came Asker =
      λ a d k ls. if a then record {
        state = record s { client = k; phase = Reading };
        text = fed (client_text d);
        binds = [];
        letters = ls;
      }
      else record {
        state = record s { client = k; phase = Awaiting sends (turns - 1) };
        text = [];
        binds = [];
        letters = ls;
      } in
      ap (λ (p : Phase). ask_on p s (Datagram bytes)) at
      ∙ ap (λ d. Goes (F (is_answer d) d step.state [])) (sym did_is)
      ∙ ap (λ a. Goes (F a did step.state [])) is
      ∙ ap (λ k. Goes (F b did k [])) (sym after)
      ∙ ap (λ (xs : List (Node × List ℕ)). Goes (F b did c (map (letter_to 0 s.base) xs))) (sym none)

  pub pause_heard :
      (sends turns : ℕ) (items : List (Node × List ℕ)) → s.phase ≡ Awaiting sends turns
      → items ≡ []
      → asks.on s Quiet
      ≡ Goes (begun (record s { phase = Awaiting sends (turns - 1) }) []
      (map (letter_to 0 s.base) items))
  pause_heard sends turns items at none =
      ap (λ (p : Phase). ask_on p s Quiet) at
      ∙ ap (λ (xs : List (Node × List ℕ)). Goes
      (begun (record s { phase = Awaiting sends (turns - 1) }) [] (map (letter_to 0 s.base) xs)))
      (sym none)

  pub asked_again :
      (sends turns : ℕ) (c : Client) (items : List (Node × List ℕ))
      → s.phase ≡ Awaiting sends turns → (sends ≡ 0 → ⊥) → c ≡ (resend s.client).state
      → items ≡ spelled s.client.format (resend s.client).sent
      → asks.on s Tick
      ≡ Goes (begun (record s { client = c; phase = Awaiting (sends - 1) s.waits }) []
      (map (letter_to 0 s.base) items))
  asked_again sends turns c items at some after sent =
      let step = resend s.client in
      let F : Client → List (Node × List ℕ) → Came Asker =
      λ k xs. begun (record s { client = k; phase = Awaiting (sends - 1) s.waits }) []
      (map (letter_to 0 s.base) xs) in
      ap (λ (p : Phase). ask_on p s Tick) at
      ∙ ap (λ b. Goes (if b then saying
      (record s { client = (give_up s.client).state; phase = Reading })
      (unanswered_line (give_up s.client).did)
      else F step.state (spelled s.client.format step.sent))) (not_none sends some)
      ∙ ap (λ k. Goes (F k (spelled s.client.format step.sent))) (sym after)
      ∙ ap (λ (xs : List (Node × List ℕ)). Goes (F c xs)) (sym sent)

  pub given_up :
      (turns : ℕ) (c : Client) (did d : Option ℕ) (items : List (Node × List ℕ))
      → s.phase ≡ Awaiting 0 turns → did ≡ (give_up s.client).did
      → c ≡ (give_up s.client).state → items ≡ [] → did ≡ d
      → asks.on s Tick
      ≡ Goes (record {
        state = record s { client = c; phase = Reading };
        text = unanswered_line d;
        binds = [];
        letters = map (letter_to 0 s.base) items;
      })
  given_up turns c did d items at did_is after none is =
      let step = give_up s.client in
      let F : Option ℕ → Client → List (Node × List ℕ) → Came Asker =
      λ e k xs. record {
        state = record s { client = k; phase = Reading };
        text = unanswered_line e;
        binds = [];
        letters = map (letter_to 0 s.base) xs;
      } in
      ap (λ (p : Phase). ask_on p s Tick) at
      ∙ ap (λ e. Goes (F e step.state [])) (sym did_is ∙ is)
      ∙ ap (λ k. Goes (F d k [])) (sym after)
      ∙ ap (λ (xs : List (Node × List ℕ)). Goes (F d c xs)) (sym none)
