-- The controller that is handed a packet, in both machines.
use Rattle.std.proofs.Common.{◌≡◌, ◌≤◌, ◌==◌, ◌&&◌, ◌||◌, ℕ, Bool, true, false, not, List, [], ◌∷◌}
use Rattle.std.proofs.Common.{◌++◌}
use Rattle.std.proofs.Common.{cond, length, Option, Some, None, option_map, refl, sym, ap, ◌∙◌}
use Rattle.std.proofs.Common.{subst, nat_le}
use Rattle.std.proofs.Common.{arith, eqb-true, append_assoc, append-nil}
use Rattle.std.proofs.lemmas.Bool.Decides.{nat_tests}
use Rattle.std.proofs.lemmas.List.{length-map}
use Rattle.std.specs.List.{AllByRecursion}
use Rattle.peg_name.specs.Name.{Rack}
use Rattle.peg_name.specs.declared.Node.{Node}
use Rattle.peg_event.specs.declared.Command.{Command}
use Rattle.peg_event.specs.declared.Command.TheVariants as command
use Rattle.peg_event.specs.declared.ControlDid.{ControlDid}
use Rattle.peg_event.specs.declared.ControlDid.TheVariants as control_did
use Rattle.peg_event.specs.declared.Outcome.{Outcome}
use Rattle.peg_event.specs.declared.Outcome.TheVariants as outcome
use Rattle.peg_model.specs.Words.{refuse, Step}
use Rattle.peg_model.specs.Packet.{Packet}
use Rattle.peg_model.specs.Controller as control
use Rattle.peg_model.specs.Controller.{Controller, what_of, belongs, is_strange, is_listed}
use Rattle.peg_model.specs.Controller.{sends_all, acknowledged, with_command, command_packet}
use Rattle.peg_model.specs.World.{World, with_controller}
use Rattle.peg_law.specs.Codes.{number_of, what_code, outcome_code}
use Rattle.peg_law.specs.Mirrors.{Mirrors, ControllerFits, IsQueued, PendingInRack}
use Rattle.peg_law.proofs.ControllerSteps.{ask_of, sends_one, queued_other, controller_idle}
use Rattle.peg_law.proofs.Outcomes.{same_belongs, settled, after, Settled}
use Rattle.peg_protocol.specs.Core as core
use Rattle.peg_protocol.specs.System as system
use Rattle.peg_protocol.specs.System.{System, Ask, gives, moves, known_after, settles, overfull}

-- what the controller learns leaves its numbers and its queue
pub learned_same :
    (c : Controller) (k : Command) (o : Outcome)
    → (control.learned c k o).queue ≡ c.queue
learned_same c (command.Promote key) (outcome.Listed l) = refl
learned_same c (command.Demote key) (outcome.Marked m) = refl
learned_same c (command.Handover target) (outcome.Activated e) = refl
learned_same c _ _ = refl

pub learned_last :
    (c : Controller) (k : Command) (o : Outcome) → (control.learned c k o).last ≡ c.last
learned_last c (command.Promote key) (outcome.Listed l) = refl
learned_last c (command.Demote key) (outcome.Marked m) = refl
learned_last c (command.Handover target) (outcome.Activated e) = refl
learned_last c _ _ = refl

-- one event of the protocol machine, or one with the next command of a queue
pub data Took (keys : List (List ℕ)) (r : World) (s : System) : Type 0 where
  Alone : Mirrors keys r s → Took keys r s
  AndAsks : (ask : Ask) → Mirrors keys r (gives s ask) → Took keys r s

pub overfull_is :
    (rack : core.Rack) (listed : ℕ) (known : List ℕ) (count : ℕ) (o : Outcome)
    → rack.room ≡ listed → length known ≡ count → count ≤ listed
    → overfull rack (outcome_code o) known ≡ (is_listed o && nat_le listed count)
overfull_is rack listed known count (outcome.Listed l) e f room =
    ap (λ n. length known == n) e ∙ ap (λ n. n == listed) f ∙ at_most count listed room
  where
    at_most : (n k : ℕ) → n ≤ k → (n == k) ≡ nat_le k n
    at_most n k less = grind (arith, nat_tests)
overfull_is rack listed known count (outcome.Already l) e f room = refl
overfull_is rack listed known count (outcome.Full n) e f room = refl
overfull_is rack listed known count (outcome.Marked n) e f room = refl
overfull_is rack listed known count outcome.NotListed e f room = refl
overfull_is rack listed known count (outcome.AlreadyMarked n) e f room = refl
overfull_is rack listed known count (outcome.Ordered n) e f room = refl
overfull_is rack listed known count outcome.Holds e f room = refl
overfull_is rack listed known count (outcome.Activated n) e f room = refl
overfull_is rack listed known count outcome.Cleared e f room = refl
overfull_is rack listed known count (outcome.Fenced n) e f room = refl
overfull_is rack listed known count outcome.NoBase e f room = refl
overfull_is rack listed known count (outcome.NoVersion n) e f room = refl

module _ (keys : List (List ℕ)) (w : World) (s : System) (m : Mirrors keys w s) (number : ℕ)
    (o : Outcome) where
  abbrev c : Controller
  c = w.controller

  abbrev Result : Step Controller (Node × Packet) ControlDid → System → Type 0
  Result step s' =
      Took keys (record (with_controller w step.state) { packets = w.packets ++ step.sent }) s'

  -- the outcome is taken, and then the queue
  taken :
      (k : Command) → PendingInRack w.rack (Some k) → belongs c.last (what_of c.epoch k) o ≡ true
      → (is_listed o && nat_le w.rack.listed (length c.known)) ≡ false
      → Result (control.takes c.rack c k o)
      (moves
      (record s {
        command = None;
        known = known_after (what_code (what_of c.epoch k)) (outcome_code o) s.known;
      })
      (what_code (what_of c.epoch k)))
  taken k in_rack fits room = by_queue c.queue refl m.controller.queue
    where
      now : Controller
      now = after keys w s m k o

      ann : List (Node × Packet)
      ann = control.announced c.rack now o

      s1 : System
      s1 =
          moves
          (record s {
            command = None;
            known = known_after (what_code (what_of c.epoch k)) (outcome_code o) s.known;
          })
          (what_code (what_of c.epoch k))

      m1 : Settled keys w s m k o
      m1 = settled keys w s m k o in_rack fits room

      by_queue :
          (queue : List Command) → c.queue ≡ queue → AllByRecursion IsQueued queue
          → let rest = sends_all now queue (tt {0}) in
          Took keys
          (record (with_controller w rest.state) { packets = w.packets ++ (ann ++ rest.sent) }) s1
      by_queue [] e all =
          Alone
          (subst
          (λ q.
          Mirrors keys
          (record (with_controller w (record now { queue = q })) {
            packets = w.packets ++ (ann ++ []);
          })
          s1)
          (sym (learned_same c k o ∙ e))
          (subst
          (λ ps.
          Mirrors keys
          (record (with_controller w (record now { queue = [] })) { packets = w.packets ++ ps })
          s1)
          (sym (append-nil ann)) m1))
      by_queue (k' ∷ ks) e all =
          let q = queued_other keys w s m now.switch k' all.0 in
          let w1 : World =
          record (with_controller w (record now { queue = [] })) { packets = w.packets ++ ann } in
          let l = learned_last c k o in
          let x = m.controller.most in
          let n = ap length e in
          let next : Controller = with_command (record now { queue = ks }) k' in
          AndAsks (ask_of k')
          (subst
          (λ ps.
          Mirrors keys (record (with_controller w next) { packets = ps }) (gives s1 (ask_of k')))
          (append_assoc w.packets ann (command_packet next k' ∷ []))
          (sends_one keys w1 s1 m1 k' ks refl q.0 q.1 all.1 (omega (arith, l, x, n))))

  pub acknowledgement_handed :
      Result (acknowledged c.pending c.rack c number o)
      (settles s number (outcome_code o) s.command)
  acknowledgement_handed =
      subst
      (λ p.
      Result (acknowledged c.pending c.rack c number o) (settles s number (outcome_code o) p))
      (sym m.controller.pending_is)
      (by_pending c.pending refl)
    where
      f : ControllerFits w.rack c s.number s.command s.switch s.epoch s.known
      f = m.controller

      over : overfull s.rack (outcome_code o) s.known
          ≡ (is_listed o && nat_le w.rack.listed (length c.known))
      over =
          overfull_is s.rack w.rack.listed s.known (length c.known) o
          (ap (λ (r : core.Rack). r.room) m.rack)
          (ap length f.known_is ∙ length-map c.known number_of) f.room

      by_tests :
          (k : Command) → c.pending ≡ Some k → (b1 : Bool) → (number == c.last) ≡ b1
          → (b2 : Bool) → belongs c.last (what_of c.epoch k) o ≡ b2 → (b3 : Bool)
          → (is_listed o && nat_le w.rack.listed (length c.known)) ≡ b3
          → let step : Step Controller (Node × Packet) ControlDid =
          cond (not b1) (refuse c control_did.Ignored)
          (cond (not b2 || b3) (refuse c control_did.OutOfPlace) (control.takes c.rack c k o)) in
          Result step
          (cond (b1 && (b2 && not b3))
          (moves
          (record s {
            command = None;
            known = known_after (what_code (what_of c.epoch k)) (outcome_code o) s.known;
          })
          (what_code (what_of c.epoch k)))
          s)
      by_tests k e false e1 b2 e2 b3 e3 = Alone (controller_idle keys w s m)
      by_tests k e true e1 false e2 b3 e3 = Alone (controller_idle keys w s m)
      by_tests k e true e1 true e2 true e3 = Alone (controller_idle keys w s m)
      by_tests k e true e1 true e2 false e3 =
          taken k (subst (PendingInRack w.rack) e f.in_rack) e2 e3

      by_pending :
          (p : Option Command) → c.pending ≡ p
          → Result (acknowledged p c.rack c number o)
          (settles s number (outcome_code o)
          (option_map (λ j. what_code (what_of c.epoch j)) p))
      by_pending None e = Alone (controller_idle keys w s m)
      by_pending (Some k) e =
          let b1 = number == c.last in
          let b2 = belongs c.last (what_of c.epoch k) o in
          let b3 = is_listed o && nat_le w.rack.listed (length c.known) in
          let strange : is_strange c.rack c k o ≡ (not b2 || b3) =
          ap (λ (r : Rack). not b2 || (is_listed o && nat_le r.listed (length c.known))) f.rack_is
          in
          let test :
          (number == s.number
          && (system.belongs number (what_code (what_of c.epoch k)) (outcome_code o)
          && not (overfull s.rack (outcome_code o) s.known)))
          ≡ (b1 && (b2 && not b3)) =
          ap
          (λ x.
          number == s.number
          && (system.belongs number (what_code (what_of c.epoch k)) (outcome_code o) && not x)) over
          ∙ ap (λ x. number == s.number && (x && not b3)) (same_belongs number c.epoch k o)
          ∙ ap (λ n. number == n && (belongs number (what_of c.epoch k) o && not b3)) f.number_is
          ∙ at_number (λ n. belongs n (what_of c.epoch k) o && not b3) in
          subst
          (λ x.
          Result
          (cond (not b1) (refuse c control_did.Ignored)
          (cond x (refuse c control_did.OutOfPlace) (control.takes c.rack c k o)))
          (settles s number (outcome_code o) (Some (what_code (what_of c.epoch k)))))
          (sym strange)
          (rw test (by_tests k e b1 refl b2 refl b3 refl))
        where
          at_number : (g : ℕ → Bool) →
              (number == c.last && g number) ≡ (number == c.last && g c.last)
          at_number g = by_test (number == c.last) refl
            where
              by_test : (t : Bool) → (number == c.last) ≡ t → (t && g number) ≡ (t && g c.last)
              by_test true x = ap g (eqb-true number c.last x)
              by_test false x = refl
