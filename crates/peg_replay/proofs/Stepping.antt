-- What a replay makes of a line, as its meaning has it.
use Rattle.std.proofs.Common.{◌≡◌, ◌+◌, ◌||◌, ℕ, Bool, true, false, Option, Some, None, List, codes}
use Rattle.std.proofs.Common.{refl, sym, ap, ◌∙◌, subst, arith}
use Rattle.std.specs.Prelude.{if◌then◌else◌, IfSome, nat_le, nat_lt, length}
use Rattle.std.proofs.lemmas.Bool.Decides.{nat_tests}
use Rattle.peg_name.specs.Name.{Rack}
use Rattle.peg_event.specs.declared.Event.{Event}
use Rattle.peg_event.specs.declared.Line.{Line}
use Rattle.peg_event.specs.declared.history.Op.{Op}
use Rattle.peg_model.specs.World.{history, step}
use Rattle.peg_model.specs.Order.{orders}
use Rattle.peg_model.specs.Schedule.{IsRackLine, IsEventLine, fed}
use Rattle.peg_model.specs.Trace.{line_text}
use Rattle.peg_world.specs.Running as running
use Rattle.peg_text.specs.declared.event.Entry.{Entry}
use Rattle.peg_text.specs.declared.event.Entry.TheVariants as entry
use Rattle.peg_text.specs.EntryLine.{IsEntryLine}
use Rattle.peg_meaning.specs.Session as session
use Rattle.peg_meaning.specs.Session.{Answer, IsOnly}
use Rattle.peg_meaning.specs.ReplayWord.{ReplayWord, ReplayEntry, Named, Happens, Ends}
use Rattle.peg_meaning.specs.ReplayWord.{Starting, Running, Finished, IsReplayLine, replays, says}
use Rattle.peg_meaning.specs.ReplayWord.{replay_on, stepped, is_past, end_text}
use Rattle.peg_replay.specs.Playing.{ran_of, word_at, SaysLine, InRack}

-- ---- the limits

same_limit : (n p : ℕ) → (nat_lt 1000000 (n + 1) || nat_lt 200000 p) ≡ (nat_le 1000000 n || nat_lt 200000 p)
same_limit n p = ap (λ b. b || nat_lt 200000 p) (one n)
  where
    one : (n : ℕ) → nat_lt 1000000 (n + 1) ≡ nat_le 1000000 n
    one n = grind (arith, nat_tests)

-- a world that is not over is past a limit where its run is
pub past_is :
    (r : running.Running) (place : ℕ) (e : Event) → r.is_over ≡ false → place ≡ r.events + 2
    → is_past (ran_of r) e ≡ running.is_past r place e
past_is r place e on at =
    let p : ℕ → ℕ = λ n. length (step r.world n e).0.packets in
    same_limit r.events (p (r.events + 2))
    ∙ ap (λ n. nat_le 1000000 r.events || nat_lt 200000 (p n)) (sym at)
    ∙ ap (λ b. b || (nat_le 1000000 r.events || nat_lt 200000 (p place))) (sym on)

pub goes_on_after :
    (r r' : running.Running) (place : ℕ) (e : Event) → r' ≡ running.stepped r place e
    → r'.is_over ≡ false
goes_on_after r r' place e did = ap (λ (d : running.Running). d.is_over) did

module _ (rack : Rack) (keys : List (List ℕ)) (r : running.Running) where
  -- ---- an event

  pub step_on :
      (o : Bool) (r' : running.Running) (e : Event) (place : ℕ) (line : Line) → o ≡ false
      → r.is_over ≡ false → place ≡ r.events + 2 → r' ≡ running.stepped r place e
      → line ≡ r'.line → running.is_past r place e ≡ false
      → replay_on (word_at o rack keys r) (session.Entry (Happens e))
      ≡ says (word_at o rack keys r') (fed (line_text place line))
  step_on o r' e place line off on at did says_so few =
      let W : ℕ → Answer ReplayWord =
      λ n. says (Running rack keys (ran_of (running.stepped r n e)))
      (fed (line_text n (running.stepped r n e).line)) in
      let main : replay_on (Running rack keys (ran_of r)) (session.Entry (Happens e))
      ≡ says (Running rack keys (ran_of r')) (fed (line_text place line)) =
      ap (λ b. if b then session.Past else W (r.events + 2)) (past_is r place e on at ∙ few)
      ∙ ap W (sym at)
      ∙ ap (λ (d : running.Running). says (Running rack keys (ran_of d))
      (fed (line_text place d.line))) (sym did)
      ∙ ap (λ (l : Line). says (Running rack keys (ran_of r')) (fed (line_text place l)))
      (sym says_so) in
      subst
      (λ (b : Bool). replay_on (word_at b rack keys r) (session.Entry (Happens e))
      ≡ says (word_at b rack keys r') (fed (line_text place line))) (sym off) main

  pub past_on :
      (o : Bool) (e : Event) (place : ℕ) → o ≡ false → r.is_over ≡ false → place ≡ r.events + 2
      → running.is_past r place e ≡ true
      → replay_on (word_at o rack keys r) (session.Entry (Happens e)) ≡ session.Past
  past_on o e place off on at past =
      let W : Answer ReplayWord =
      says (Running rack keys (stepped (ran_of r) e).0)
      (fed (line_text (r.events + 2) (stepped (ran_of r) e).1)) in
      subst
      (λ (b : Bool). replay_on (word_at b rack keys r) (session.Entry (Happens e))
      ≡ session.Past) (sym off)
      (ap (λ b. if b then session.Past else W) (past_is r place e on at ∙ past))

  -- ---- the line end

  pub end_on :
      (o : Bool) (place : ℕ) (ops : List Op) (key_orders : List (List ℕ × List ℕ)) → o ≡ false
      → place ≡ r.events + 2 → ops ≡ history r.world → key_orders ≡ orders r.world
      → replay_on (word_at o rack keys r) (session.Entry Ends)
      ≡ says (Finished rack keys (ran_of r)) (end_text place ops key_orders)
  end_on o place ops key_orders off at is_ops is_orders =
      let F = Finished rack keys (ran_of r) in
      subst
      (λ (b : Bool). replay_on (word_at b rack keys r) (session.Entry Ends)
      ≡ says F (end_text place ops key_orders)) (sym off)
      (ap (λ n. says F (end_text n (history r.world) (orders r.world))) (sym at)
      ∙ ap (λ (os : List Op). says F (end_text place os (orders r.world))) (sym is_ops)
      ∙ ap (λ (ks : List (List ℕ × List ℕ)). says F (end_text place ops ks)) (sym is_orders))

  -- ---- what a line says

  says_running :
      (res : Option Entry) (line : List ℕ)
      → ((e : Event) → IsEventLine rack line e → res ≡ Some (entry.Event e))
      → (line ≡ codes "end" → res ≡ Some entry.End) → IfSome res (IsEntryLine rack line)
      → SaysLine res (Running rack keys (ran_of r)) line
  says_running None line event ended sound = no_entry
    where
      no_entry : (e : ReplayEntry) → IsReplayLine (Running rack keys (ran_of r)) line e → ⊥
      no_entry (Named rack' keys') is = is
      no_entry (Happens e) is = cc (event e is)
      no_entry Ends is = cc (ended is)
  says_running (Some (entry.Event e)) line event ended sound =
      record { is = sound; only = only_event }
    where
      only_event :
          (other : ReplayEntry) → IsReplayLine (Running rack keys (ran_of r)) line other
          → other ≡ Happens e
      only_event (Named rack' keys') is = absurd is
      only_event (Happens other) is =
          let same : Some (entry.Event e) ≡ Some (entry.Event other) = event other is in
          ap (λ (d : Event). Happens d) (sym (cc same))
      only_event Ends is =
          let other : Some (entry.Event e) ≡ Some entry.End = ended is in absurd (cc other)
  says_running (Some entry.End) line event ended sound = record { is = sound; only = only_end }
    where
      only_end :
          (other : ReplayEntry) → IsReplayLine (Running rack keys (ran_of r)) line other
          → other ≡ Ends
      only_end (Named rack' keys') is = absurd is
      only_end (Happens other) is =
          let same : Some entry.End ≡ Some (entry.Event other) = event other is in
          absurd (cc same)
      only_end Ends is = refl

  pub says_line :
      (o : Bool) (res : Option Entry) (line : List ℕ) → o ≡ false
      → ((e : Event) → IsEventLine rack line e → res ≡ Some (entry.Event e))
      → (line ≡ codes "end" → res ≡ Some entry.End) → IfSome res (IsEntryLine rack line)
      → SaysLine res (word_at o rack keys r) line
  says_line o res line off event ended sound =
      subst (λ (b : Bool). SaysLine res (word_at b rack keys r) line) (sym off)
      (says_running res line event ended sound)

pub in_rack :
    (rack : Rack) (res : Option Entry) (line : List ℕ) → IfSome res (IsEntryLine rack line)
    → InRack res rack
in_rack rack None line sound = tt
in_rack rack (Some (entry.Event e)) line sound = sound.in_rack
in_rack rack (Some entry.End) line sound = tt

-- ---- the rack line

pub only_rack :
    (res : Option (Rack × List (List ℕ))) (line : List ℕ) (rack : Rack) (keys : List (List ℕ))
    → res ≡ Some (rack, keys)
    → ((r : Rack) (k : List (List ℕ)) → IsRackLine line r k → res ≡ Some (r, k))
    → IsRackLine line rack keys → IsOnly replays Starting line (Named rack keys)
only_rack res line rack keys is complete sound = record { is = sound; only = only }
  where
    only : (other : ReplayEntry) → IsReplayLine Starting line other → other ≡ Named rack keys
    only (Named r k) here =
        let same : Some (r, k) ≡ Some (rack, keys) = sym (complete r k here) ∙ is in
        let pair : (r, k) ≡ (rack, keys) = cc same in
        ap (λ (d : Rack × List (List ℕ)). Named d.0 d.1) pair
    only (Happens e) here = absurd here
    only Ends here = absurd here

pub no_rack :
    (res : Option (Rack × List (List ℕ))) (line : List ℕ) → res ≡ None
    → ((r : Rack) (k : List (List ℕ)) → IsRackLine line r k → res ≡ Some (r, k))
    → (e : ReplayEntry) → IsReplayLine Starting line e → ⊥
no_rack res line is complete (Named r k) here = cc (is, complete r k here)
no_rack res line is complete (Happens e) here = here
no_rack res line is complete Ends here = here

pub begin_on :
    (rack config : Rack) (keys ks : List (List ℕ)) (r : running.Running)
    → r ≡ running.started config ks → config ≡ rack → ks ≡ keys
    → replay_on Starting (session.Entry (Named rack keys))
    ≡ says (Running rack keys (ran_of r)) (fed (codes "1 rack"))
begin_on rack config keys ks r is is_rack is_keys =
    ap (λ (q : running.Running). says (Running rack keys (ran_of q)) (fed (codes "1 rack")))
    (sym (is ∙ ap (λ (c : Rack). running.started c ks) is_rack
    ∙ ap (λ (k : List (List ℕ)). running.started rack k) is_keys))
