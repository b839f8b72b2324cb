-- The controller takes the acknowledgement of its pending command, in both machines.
use Rattle.std.proofs.Common.{◌≡◌, ◌<◌, ◌≤◌, ◌+◌, ◌==◌, ◌&&◌, ◌||◌, ℕ, suc, Bool, true, false, not}
use Rattle.std.proofs.Common.{List, [], ◌∷◌, ◌++◌}
use Rattle.std.proofs.Common.{cond, length, map, Some, None, refl, sym, ap, ◌∙◌, subst, nat_le}
use Rattle.std.proofs.Common.{arith, eqb-true, filter, length-append, if◌then◌else◌}
use Rattle.std.proofs.lemmas.Bool.{cond_both}
use Rattle.std.proofs.lemmas.Bool.Decides.{nat_tests}
use Rattle.std.proofs.lemmas.List.{map-append}
use Rattle.std.specs.List.{list_any}
use Rattle.std.specs.Str.{bytes_eq}
use Rattle.peg_name.specs.Name.{Rack}
use Rattle.peg_event.specs.declared.Command.{Command}
use Rattle.peg_event.specs.declared.Command.TheVariants as command
use Rattle.peg_event.specs.declared.Outcome.{Outcome}
use Rattle.peg_event.specs.declared.Outcome.TheVariants as outcome
use Rattle.peg_model.specs.Words.{is_in}
use Rattle.peg_model.specs.Controller as control
use Rattle.peg_model.specs.Controller.{Controller, what_of, belongs, learned, is_strange, is_listed}
use Rattle.peg_model.specs.Controller.{sends_all, acknowledged, with_command, command_packet}
use Rattle.peg_model.specs.Controller.{controller_step}
use Rattle.peg_model.specs.World.{World, with_controller}
use Rattle.peg_law.specs.Codes.{number_of, what_code, outcome_code}
use Rattle.peg_law.specs.Mirrors.{Mirrors, PendingInRack}
use Rattle.peg_law.proofs.Codes.{number_test}
use Rattle.peg_law.proofs.Replies.{flip}
use Rattle.peg_law.proofs.Nodes.{posted, controller_changes}
use Rattle.peg_law.proofs.ClientSteps.{quiet}
use Rattle.peg_law.proofs.ControllerSteps.{announced}
use Rattle.peg_protocol.specs.Core as core
use Rattle.peg_protocol.specs.Packet as law
use Rattle.peg_protocol.specs.System as system
use Rattle.peg_protocol.specs.System.{System, Ask, gives, moves, known_after, settles}

-- whether an outcome can belong to a command is the same in both
pub same_belongs :
    (number at : ℕ) (k : Command) (o : Outcome)
    → system.belongs number (what_code (what_of at k)) (outcome_code o)
    ≡ belongs number (what_of at k) o
same_belongs number at (command.Promote key) (outcome.Listed l) = refl
same_belongs number at (command.Promote key) (outcome.Already l) = refl
same_belongs number at (command.Promote key) (outcome.Full n) = refl
same_belongs number at (command.Promote key) (outcome.Marked n) = refl
same_belongs number at (command.Promote key) outcome.NotListed = refl
same_belongs number at (command.Promote key) (outcome.AlreadyMarked n) = refl
same_belongs number at (command.Promote key) (outcome.Ordered n) = refl
same_belongs number at (command.Promote key) outcome.Holds = refl
same_belongs number at (command.Promote key) (outcome.Activated e) = refl
same_belongs number at (command.Promote key) outcome.Cleared = refl
same_belongs number at (command.Promote key) (outcome.Fenced n) = refl
same_belongs number at (command.Promote key) outcome.NoBase = refl
same_belongs number at (command.Promote key) (outcome.NoVersion n) = refl
same_belongs number at (command.Demote key) (outcome.Listed l) = refl
same_belongs number at (command.Demote key) (outcome.Already l) = refl
same_belongs number at (command.Demote key) (outcome.Full n) = refl
same_belongs number at (command.Demote key) (outcome.Marked n) = refl
same_belongs number at (command.Demote key) outcome.NotListed = refl
same_belongs number at (command.Demote key) (outcome.AlreadyMarked n) = refl
same_belongs number at (command.Demote key) (outcome.Ordered n) = refl
same_belongs number at (command.Demote key) outcome.Holds = refl
same_belongs number at (command.Demote key) (outcome.Activated e) = refl
same_belongs number at (command.Demote key) outcome.Cleared = refl
same_belongs number at (command.Demote key) (outcome.Fenced n) = refl
same_belongs number at (command.Demote key) outcome.NoBase = refl
same_belongs number at (command.Demote key) (outcome.NoVersion n) = refl
same_belongs number at (command.Copy key target) (outcome.Listed l) = refl
same_belongs number at (command.Copy key target) (outcome.Already l) = refl
same_belongs number at (command.Copy key target) (outcome.Full n) = refl
same_belongs number at (command.Copy key target) (outcome.Marked n) = refl
same_belongs number at (command.Copy key target) outcome.NotListed = refl
same_belongs number at (command.Copy key target) (outcome.AlreadyMarked n) = refl
same_belongs number at (command.Copy key target) (outcome.Ordered n) = refl
same_belongs number at (command.Copy key target) outcome.Holds = refl
same_belongs number at (command.Copy key target) (outcome.Activated e) = refl
same_belongs number at (command.Copy key target) outcome.Cleared = refl
same_belongs number at (command.Copy key target) (outcome.Fenced n) = refl
same_belongs number at (command.Copy key target) outcome.NoBase = refl
same_belongs number at (command.Copy key target) (outcome.NoVersion n) = refl
same_belongs number at (command.Fence key) (outcome.Listed l) = refl
same_belongs number at (command.Fence key) (outcome.Already l) = refl
same_belongs number at (command.Fence key) (outcome.Full n) = refl
same_belongs number at (command.Fence key) (outcome.Marked n) = refl
same_belongs number at (command.Fence key) outcome.NotListed = refl
same_belongs number at (command.Fence key) (outcome.AlreadyMarked n) = refl
same_belongs number at (command.Fence key) (outcome.Ordered n) = refl
same_belongs number at (command.Fence key) outcome.Holds = refl
same_belongs number at (command.Fence key) (outcome.Activated e) = refl
same_belongs number at (command.Fence key) outcome.Cleared = refl
same_belongs number at (command.Fence key) (outcome.Fenced n) = refl
same_belongs number at (command.Fence key) outcome.NoBase = refl
same_belongs number at (command.Fence key) (outcome.NoVersion n) = refl
same_belongs number at (command.Handover target) (outcome.Listed l) = refl
same_belongs number at (command.Handover target) (outcome.Already l) = refl
same_belongs number at (command.Handover target) (outcome.Full n) = refl
same_belongs number at (command.Handover target) (outcome.Marked n) = refl
same_belongs number at (command.Handover target) outcome.NotListed = refl
same_belongs number at (command.Handover target) (outcome.AlreadyMarked n) = refl
same_belongs number at (command.Handover target) (outcome.Ordered n) = refl
same_belongs number at (command.Handover target) outcome.Holds = refl
same_belongs number at (command.Handover target) (outcome.Activated e) = refl
same_belongs number at (command.Handover target) outcome.Cleared = refl
same_belongs number at (command.Handover target) (outcome.Fenced n) = refl
same_belongs number at (command.Handover target) outcome.NoBase = refl
same_belongs number at (command.Handover target) (outcome.NoVersion n) = refl
same_belongs number at command.Clear (outcome.Listed l) = refl
same_belongs number at command.Clear (outcome.Already l) = refl
same_belongs number at command.Clear (outcome.Full n) = refl
same_belongs number at command.Clear (outcome.Marked n) = refl
same_belongs number at command.Clear outcome.NotListed = refl
same_belongs number at command.Clear (outcome.AlreadyMarked n) = refl
same_belongs number at command.Clear (outcome.Ordered n) = refl
same_belongs number at command.Clear outcome.Holds = refl
same_belongs number at command.Clear (outcome.Activated e) = refl
same_belongs number at command.Clear outcome.Cleared = refl
same_belongs number at command.Clear (outcome.Fenced n) = refl
same_belongs number at command.Clear outcome.NoBase = refl
same_belongs number at command.Clear (outcome.NoVersion n) = refl

-- ---- the known keys

pub any_known :
    (key : List ℕ) (known : List (List ℕ))
    → list_any (λ j. j == number_of key) (map number_of known) ≡ is_in key known
any_known key [] = refl
any_known key (k ∷ ks) =
    ap (λ b. b || list_any (λ j. j == number_of key) (map number_of ks))
    (flip (number_of k) (number_of key) ∙ number_test key k)
    ∙ ap (λ b. bytes_eq key k || b) (any_known key ks)

filter_known :
    (key : List ℕ) (known : List (List ℕ))
    → filter (λ j. not (j == number_of key)) (map number_of known)
    ≡ map number_of (filter (λ other. not (bytes_eq other key)) known)
filter_known key [] = refl
filter_known key (k ∷ ks) =
    ap
    (λ b.
    cond (not b) (number_of k ∷ filter (λ j. not (j == number_of key)) (map number_of ks))
    (filter (λ j. not (j == number_of key)) (map number_of ks)))
    (number_test k key)
    ∙ by_test (bytes_eq k key) (filter_known key ks)
  where
    by_test :
        (b : Bool)
        → filter (λ j. not (j == number_of key)) (map number_of ks)
        ≡ map number_of (filter (λ other. not (bytes_eq other key)) ks)
        → cond (not b) (number_of k ∷ filter (λ j. not (j == number_of key)) (map number_of ks))
        (filter (λ j. not (j == number_of key)) (map number_of ks))
        ≡ map number_of
        (cond (not b) (k ∷ filter (λ other. not (bytes_eq other key)) ks)
        (filter (λ other. not (bytes_eq other key)) ks))
    by_test true rest = rest
    by_test false rest = ap (λ l. number_of k ∷ l) rest

filter_less :
    (p : List ℕ → Bool) (ks : List (List ℕ)) → length (filter p ks) ≤ length ks
filter_less p [] = omega arith
filter_less p (k ∷ ks) =
    let ih = filter_less p ks in
    cond_both (p k) (k ∷ filter p ks) (filter p ks) (λ l. length l ≤ suc (length ks))
    (λ y. omega (arith, ih)) (λ n. omega (arith, ih))

module _ (keys : List (List ℕ)) (w : World) (s : System) (m : Mirrors keys w s) where
  abbrev c : Controller
  c = w.controller

  abbrev pub after : Command → Outcome → Controller
  after k o = record (learned c k o) { pending = None }

  abbrev pub Settled : Command → Outcome → Type 0
  Settled k o =
      Mirrors keys
      (record (with_controller w (record (after k o) { queue = [] })) {
        packets = w.packets ++ control.announced c.rack (after k o) o;
      })
      (moves
      (record s {
        command = None;
        known = known_after (what_code (what_of c.epoch k)) (outcome_code o) s.known;
      })
      (what_code (what_of c.epoch k)))

  -- the controller with other known keys and nothing pending
  known_changes :
      (known : List (List ℕ)) (known' : List ℕ) → known' ≡ map number_of known
      → length known ≤ w.rack.listed
      → Mirrors keys
      (record (with_controller w (record c { pending = None; known = known; queue = [] })) {
        packets = w.packets ++ [];
      })
      (record s { command = None; known = known' })
  known_changes known known' is room =
      let f = m.controller in
      quiet keys (with_controller w (record c { pending = None; known = known; queue = [] }))
      (record s { command = None; known = known' })
      (controller_changes keys w s m (record c { pending = None; known = known; queue = [] })
      s.number None
      s.switch s.epoch known'
      (record {
        rack_is = f.rack_is;
        number_is = f.number_is;
        pending_is = refl;
        in_rack = tt;
        some = λ x. absurd (cc);
        switch_is = f.switch_is;
        switch_in_rack = f.switch_in_rack;
        epoch_is = f.epoch_is;
        known_is = is;
        room = room;
        queue = tt;
        idle = λ e. refl;
        most = let l = f.most in omega (arith, l);
        report = f.report;
      }))

  plain_one :
      Mirrors keys
      (record (with_controller w (record c { pending = None; queue = [] })) {
        packets = w.packets ++ [];
      })
      (record s { command = None; known = s.known })
  plain_one = known_changes c.known s.known m.controller.known_is m.controller.room

  listed_one :
      (key : List ℕ) → nat_le w.rack.listed (length c.known) ≡ false
      → Mirrors keys
      (record (with_controller w
      (record c {
        pending = None;
        known = if is_in key c.known then c.known else c.known ++ key ∷ [];
        queue = [];
      })) {
        packets = w.packets ++ [];
      })
      (record s {
        command = None;
        known =
            if list_any (λ j. j == number_of key) s.known then s.known
            else s.known ++ number_of key ∷ [];
      })
  listed_one key left =
      known_changes (if is_in key c.known then c.known else c.known ++ key ∷ [])
      (if list_any (λ j. j == number_of key) s.known then s.known
      else s.known ++ number_of key ∷ [])
      (ap
      (λ ks. cond (list_any (λ j. j == number_of key) ks) ks (ks ++ number_of key ∷ []))
      m.controller.known_is
      ∙ ap
      (λ b. cond b (map number_of c.known) (map number_of c.known ++ number_of key ∷ []))
      (any_known key c.known)
      ∙ out (is_in key c.known))
      (cond_both (is_in key c.known) c.known (c.known ++ key ∷ [])
      (λ l. length l ≤ w.rack.listed) (λ y. m.controller.room)
      (λ n.
      let l = length-append c.known (key ∷ []) in
      let less = left_below w.rack.listed (length c.known) left in omega (arith, l, less)))
    where
      left_below : (n k : ℕ) → nat_le n k ≡ false → k < n
      left_below n k = grind (arith, nat_tests)

      out :
          (b : Bool)
          → cond b (map number_of c.known) (map number_of c.known ++ number_of key ∷ [])
          ≡ map number_of (cond b c.known (c.known ++ key ∷ []))
      out true = refl
      out false = sym (map-append number_of c.known (key ∷ []))

  marked_one :
      (key : List ℕ)
      → Mirrors keys
      (record (with_controller w
      (record c {
        pending = None;
        known = filter (λ other. not (bytes_eq other key)) c.known;
        queue = [];
      })) {
        packets = w.packets ++ [];
      })
      (record s {
        command = None;
        known = filter (λ j. not (j == number_of key)) s.known;
      })
  marked_one key =
      known_changes (filter (λ other. not (bytes_eq other key)) c.known)
      (filter (λ j. not (j == number_of key)) s.known)
      (ap (filter (λ j. not (j == number_of key))) m.controller.known_is
      ∙ filter_known key c.known)
      (let r = m.controller.room in
      let l = filter_less (λ other. not (bytes_eq other key)) c.known in omega (arith, r, l))

  moved_one :
      (target epoch : ℕ) → target < w.rack.switches → (epoch == c.epoch + 1) ≡ true
      → Mirrors keys
      (record (with_controller w
      (record c { pending = None; switch = target; epoch = epoch; queue = [] })) {
        packets = w.packets ++ control.announces c.rack epoch target;
      })
      (moves (record s { command = None; known = s.known }) (law.Seal target (c.epoch + 1)))
  moved_one target epoch in_rack fits =
      let f = m.controller in
      let e : epoch ≡ c.epoch + 1 = eqb-true epoch (c.epoch + 1) fits in
      let now : Controller =
      record c { pending = None; switch = target; epoch = epoch; queue = [] } in
      let changed =
      controller_changes keys w s m now s.number None target (c.epoch + 1) s.known
      (record {
        rack_is = f.rack_is;
        number_is = f.number_is;
        pending_is = refl;
        in_rack = tt;
        some = λ x. absurd (cc);
        switch_is = refl;
        switch_in_rack = in_rack;
        epoch_is = sym e;
        known_is = f.known_is;
        room = f.room;
        queue = tt;
        idle = λ e. refl;
        most = let l = f.most in omega (arith, l);
        report = f.report;
      }) in
      let n : c.rack.clients ≡ s.rack.clients =
      ap (λ (x : Rack). x.clients) f.rack_is ∙ sym (ap (λ (r : core.Rack). r.clients) m.rack) in
      let most : c.rack.clients ≤ w.rack.clients =
      (let r = ap (λ (x : Rack). x.clients) f.rack_is in omega (arith, r)) in
      let s' : System = record s {
        number = s.number;
        command = None;
        switch = target;
        epoch = c.epoch + 1;
        known = s.known;
      } in
      subst
      (λ k.
      Mirrors keys
      (record (with_controller w now) {
        packets = w.packets ++ control.announces c.rack epoch target;
      })
      (record s' { sent = s.sent ++ system.announces (c.epoch + 1) target k }))
      n
      (posted keys (with_controller w now) s' changed (control.announces c.rack epoch target)
      (system.announces (c.epoch + 1) target c.rack.clients)
      (announced w.rack epoch target (c.epoch + 1) target c.rack.clients (sym e) refl in_rack most))

  pub settled :
      (k : Command) (o : Outcome) → PendingInRack w.rack (Some k)
      → belongs c.last (what_of c.epoch k) o ≡ true
      → (is_listed o && nat_le w.rack.listed (length c.known)) ≡ false → Settled k o
  settled (command.Promote key) (outcome.Listed l) before fits room = listed_one key room
  settled (command.Promote key) (outcome.Already l) before fits room = plain_one
  settled (command.Promote key) (outcome.Full n) before fits room = plain_one
  settled (command.Promote key) (outcome.Marked n) before fits room = absurd (cc)
  settled (command.Promote key) outcome.NotListed before fits room = absurd (cc)
  settled (command.Promote key) (outcome.AlreadyMarked n) before fits room = absurd (cc)
  settled (command.Promote key) (outcome.Ordered n) before fits room = absurd (cc)
  settled (command.Promote key) outcome.Holds before fits room = absurd (cc)
  settled (command.Promote key) (outcome.Activated e) before fits room = absurd (cc)
  settled (command.Promote key) outcome.Cleared before fits room = absurd (cc)
  settled (command.Promote key) (outcome.Fenced n) before fits room = absurd (cc)
  settled (command.Promote key) outcome.NoBase before fits room = absurd (cc)
  settled (command.Promote key) (outcome.NoVersion n) before fits room = plain_one
  settled (command.Demote key) (outcome.Listed l) before fits room = absurd (cc)
  settled (command.Demote key) (outcome.Already l) before fits room = absurd (cc)
  settled (command.Demote key) (outcome.Full n) before fits room = absurd (cc)
  settled (command.Demote key) (outcome.Marked n) before fits room = marked_one key
  settled (command.Demote key) outcome.NotListed before fits room = plain_one
  settled (command.Demote key) (outcome.AlreadyMarked n) before fits room = plain_one
  settled (command.Demote key) (outcome.Ordered n) before fits room = absurd (cc)
  settled (command.Demote key) outcome.Holds before fits room = absurd (cc)
  settled (command.Demote key) (outcome.Activated e) before fits room = absurd (cc)
  settled (command.Demote key) outcome.Cleared before fits room = absurd (cc)
  settled (command.Demote key) (outcome.Fenced n) before fits room = absurd (cc)
  settled (command.Demote key) outcome.NoBase before fits room = absurd (cc)
  settled (command.Demote key) (outcome.NoVersion n) before fits room = absurd (cc)
  settled (command.Copy key target) (outcome.Listed l) before fits room = absurd (cc)
  settled (command.Copy key target) (outcome.Already l) before fits room = absurd (cc)
  settled (command.Copy key target) (outcome.Full n) before fits room = absurd (cc)
  settled (command.Copy key target) (outcome.Marked n) before fits room = absurd (cc)
  settled (command.Copy key target) outcome.NotListed before fits room = plain_one
  settled (command.Copy key target) (outcome.AlreadyMarked n) before fits room = absurd (cc)
  settled (command.Copy key target) (outcome.Ordered n) before fits room = plain_one
  settled (command.Copy key target) outcome.Holds before fits room = plain_one
  settled (command.Copy key target) (outcome.Activated e) before fits room = absurd (cc)
  settled (command.Copy key target) outcome.Cleared before fits room = absurd (cc)
  settled (command.Copy key target) (outcome.Fenced n) before fits room = absurd (cc)
  settled (command.Copy key target) outcome.NoBase before fits room = absurd (cc)
  settled (command.Copy key target) (outcome.NoVersion n) before fits room = absurd (cc)
  settled (command.Fence key) (outcome.Listed l) before fits room = absurd (cc)
  settled (command.Fence key) (outcome.Already l) before fits room = absurd (cc)
  settled (command.Fence key) (outcome.Full n) before fits room = absurd (cc)
  settled (command.Fence key) (outcome.Marked n) before fits room = absurd (cc)
  settled (command.Fence key) outcome.NotListed before fits room = plain_one
  settled (command.Fence key) (outcome.AlreadyMarked n) before fits room = absurd (cc)
  settled (command.Fence key) (outcome.Ordered n) before fits room = absurd (cc)
  settled (command.Fence key) outcome.Holds before fits room = absurd (cc)
  settled (command.Fence key) (outcome.Activated e) before fits room = absurd (cc)
  settled (command.Fence key) outcome.Cleared before fits room = absurd (cc)
  settled (command.Fence key) (outcome.Fenced n) before fits room = plain_one
  settled (command.Fence key) outcome.NoBase before fits room = plain_one
  settled (command.Fence key) (outcome.NoVersion n) before fits room = absurd (cc)
  settled (command.Handover target) (outcome.Listed l) before fits room = absurd (cc)
  settled (command.Handover target) (outcome.Already l) before fits room = absurd (cc)
  settled (command.Handover target) (outcome.Full n) before fits room = absurd (cc)
  settled (command.Handover target) (outcome.Marked n) before fits room = absurd (cc)
  settled (command.Handover target) outcome.NotListed before fits room = absurd (cc)
  settled (command.Handover target) (outcome.AlreadyMarked n) before fits room = absurd (cc)
  settled (command.Handover target) (outcome.Ordered n) before fits room = absurd (cc)
  settled (command.Handover target) outcome.Holds before fits room = absurd (cc)
  settled (command.Handover target) (outcome.Activated e) before fits room =
      moved_one target e before fits
  settled (command.Handover target) outcome.Cleared before fits room = absurd (cc)
  settled (command.Handover target) (outcome.Fenced n) before fits room = absurd (cc)
  settled (command.Handover target) outcome.NoBase before fits room = absurd (cc)
  settled (command.Handover target) (outcome.NoVersion n) before fits room = absurd (cc)
  settled command.Clear (outcome.Listed l) before fits room = absurd (cc)
  settled command.Clear (outcome.Already l) before fits room = absurd (cc)
  settled command.Clear (outcome.Full n) before fits room = absurd (cc)
  settled command.Clear (outcome.Marked n) before fits room = absurd (cc)
  settled command.Clear outcome.NotListed before fits room = absurd (cc)
  settled command.Clear (outcome.AlreadyMarked n) before fits room = absurd (cc)
  settled command.Clear (outcome.Ordered n) before fits room = absurd (cc)
  settled command.Clear outcome.Holds before fits room = absurd (cc)
  settled command.Clear (outcome.Activated e) before fits room = absurd (cc)
  settled command.Clear outcome.Cleared before fits room = plain_one
  settled command.Clear (outcome.Fenced n) before fits room = absurd (cc)
  settled command.Clear outcome.NoBase before fits room = absurd (cc)
  settled command.Clear (outcome.NoVersion n) before fits room = absurd (cc)
