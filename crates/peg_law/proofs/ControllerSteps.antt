-- What the controller sends by itself, in both machines.
use Rattle.std.proofs.Common.{◌≡◌, ◌≢◌, ◌<◌, ◌≤◌, ◌+◌, ◌-◌, ◌==◌, ◌||◌, ℕ, zero, suc, Bool, true}
use Rattle.std.proofs.Common.{false, not, List, [], ◌∷◌, ◌++◌}
use Rattle.std.proofs.Common.{cond, length, map, Option, Some, None, is_some, option_map, refl, sym}
use Rattle.std.proofs.Common.{ap, ◌∙◌, subst, nat_lt}
use Rattle.std.proofs.Common.{arith, ltb-true, ltb-false, filter}
use Rattle.std.proofs.lemmas.Bool.{eqb-false}
use Rattle.std.proofs.lemmas.List.{map-append}
use Rattle.std.specs.Prelude.{take, IsSome}
use Rattle.std.specs.List.{AllByRecursion}
use Rattle.peg_name.specs.Name.{Rack, IsKey}
use Rattle.peg_name.specs.declared.Node.{Node}
use Rattle.peg_name.specs.declared.Node.TheVariants as node
use Rattle.peg_name.specs.declared.Row.{Row}
use Rattle.peg_event.specs.declared.Command.{Command}
use Rattle.peg_event.specs.declared.Command.TheVariants as command
use Rattle.peg_event.specs.declared.Said.{Said}
use Rattle.peg_event.specs.declared.answers.Order.{Order}
use Rattle.peg_event.specs.declared.answers.Order.TheVariants as order
use Rattle.peg_event.specs.declared.answers.Plan.{Plan}
use Rattle.peg_event.specs.declared.answers.Plan.TheVariants as plan
use Rattle.peg_model.specs.Words.{last_number, refuse, below, sorted, Step}
use Rattle.peg_model.specs.Packet as packet
use Rattle.peg_model.specs.Packet.{Packet}
use Rattle.peg_model.specs.Controller as control
use Rattle.peg_model.specs.Controller.{Controller, what_of, command_packet, with_command}
use Rattle.peg_model.specs.Controller.{sends_command, no_such, is_handover_to, ordered}
use Rattle.peg_model.specs.Controller.{order_command, announces, retry_of, sends_all, planned}
use Rattle.peg_model.specs.Controller.{make_plan, demotions, promotions, is_demotion}
use Rattle.peg_model.specs.World.{World, with_controller, orders, retries, surveys, plans, reports}
use Rattle.peg_model.specs.World.{order_said, plan_said}
use Rattle.peg_law.specs.Codes.{number_of, what_code}
use Rattle.peg_law.specs.Mirrors.{Mirrors, Paired, ItemFits, ControllerFits, WhatInRack}
use Rattle.peg_law.specs.Mirrors.{PendingInRack, IsQueued, AreKeyed, HasKeyed}
use Rattle.peg_law.proofs.Lists.{all_append, all_map, all_as, all_chosen, all_sorted}
use Rattle.peg_law.proofs.Tables.{paired_push}
use Rattle.peg_law.proofs.Nodes.{posted, controller_changes}
use Rattle.peg_law.proofs.ClientSteps.{Follows, quiet}
use Rattle.peg_protocol.specs.Core as core
use Rattle.peg_protocol.specs.Packet as law
use Rattle.peg_protocol.specs.System as system
use Rattle.peg_protocol.specs.System.{System, Ask, gives, happens_at}

abbrev pub ask_of : Command → Ask
ask_of (command.Promote key) = system.ToPromote (number_of key)
ask_of (command.Demote key) = system.ToDemote (number_of key)
ask_of (command.Copy key target) = system.ToCopy target (number_of key)
ask_of (command.Fence key) = system.ToFence (number_of key)
ask_of (command.Handover target) = system.ToHandOver target
ask_of command.Clear = system.ToClear

gives_is :
    (s : System) (k : Command) → is_handover_to s.switch k ≡ false
    → gives s (ask_of k) ≡ system.orders s (what_code (what_of s.epoch k)) s.command
gives_is s (command.Promote key) e = refl
gives_is s (command.Demote key) e = refl
gives_is s (command.Copy key target) e = refl
gives_is s (command.Fence key) e = refl
gives_is s (command.Handover target) e =
    ap
    (λ b. cond b s (system.orders s (law.Seal target (s.epoch + 1)) s.command)) e
gives_is s command.Clear e = refl

in_rack_at :
    (rack : Rack) (epoch epoch' : ℕ) (k : Command) → WhatInRack rack (what_of epoch k)
    → WhatInRack rack (what_of epoch' k)
in_rack_at rack epoch epoch' (command.Promote key) x = x
in_rack_at rack epoch epoch' (command.Demote key) x = x
in_rack_at rack epoch epoch' (command.Copy key target) x = x
in_rack_at rack epoch epoch' (command.Fence key) x = x
in_rack_at rack epoch epoch' (command.Handover target) x = x
in_rack_at rack epoch epoch' command.Clear x = x

-- a command that may be ordered
abbrev pub IsAllowed : Command → Type 0
IsAllowed (command.Promote key) = IsKey key
IsAllowed k = Unit {0}

such :
    (rack : Rack) (epoch : ℕ) (k : Command) → IsAllowed k → no_such rack k ≡ None
    → WhatInRack rack (what_of epoch k)
such rack epoch (command.Promote key) h e = h
such rack epoch (command.Demote key) h e = tt
such rack epoch (command.Copy key target) h e = below_if (nat_lt target rack.servers) refl e
  where
    below_if : (b : Bool) → nat_lt target rack.servers ≡ b → cond b None (Some target) ≡ None
        → target < rack.servers
    below_if true t f = ltb-true target rack.servers t
    below_if false t f = absurd (cc)
such rack epoch (command.Fence key) h e = tt
such rack epoch (command.Handover target) h e = below_if (nat_lt target rack.switches) refl e
  where
    below_if : (b : Bool) → nat_lt target rack.switches ≡ b → cond b None (Some target) ≡ None
        → target < rack.switches
    below_if true t f = ltb-true target rack.switches t
    below_if false t f = absurd (cc)
such rack epoch command.Clear h e = tt

-- ---- announcements

pub announced :
    (rack : Rack) (epoch switch e a n : ℕ) → e ≡ epoch → a ≡ switch → switch < rack.switches
    → n ≤ rack.clients
    → Paired (ItemFits rack)
    (map (λ client. (node.Client client, packet.Announce epoch switch)) (below n))
    (system.announces e a n)
announced rack epoch switch e a zero x y in_rack most = tt
announced rack epoch switch e a (suc n) x y in_rack most =
    subst
    (λ ps. Paired (ItemFits rack) ps (system.announces e a (suc n)))
    (sym
    (map-append (λ (client : ℕ). (node.Client client, packet.Announce epoch switch)) (below n)
    (n ∷ [])))
    (paired_push (ItemFits rack)
    (map (λ client. (node.Client client, packet.Announce epoch switch)) (below n))
    (node.Client n, packet.Announce epoch switch) (system.announces e a n)
    (law.item (law.Client n) (law.Announce e a))
    (announced rack epoch switch e a n x y in_rack (omega (arith, most)))
    (record {
      sent = (omega (arith, most), in_rack);
      to = refl;
      packet = ap (λ i. law.Announce i a) x ∙ ap (law.Announce epoch) y;
    }))

module _ (keys : List (List ℕ)) (w : World) (s : System) (m : Mirrors keys w s) where
  abbrev c : Controller
  c = w.controller

  -- only what isn't told changes
  pub same_controller :
      (report : Option (List Row)) → HasKeyed report
      → Mirrors keys (with_controller w (record c { report = report })) s
  same_controller report keyed =
      let f = m.controller in
      controller_changes keys w s m (record c { report = report }) s.number
      s.command s.switch s.epoch s.known
      (record {
        rack_is = f.rack_is;
        number_is = f.number_is;
        pending_is = f.pending_is;
        in_rack = f.in_rack;
        some = f.some;
        switch_is = f.switch_is;
        switch_in_rack = f.switch_in_rack;
        epoch_is = f.epoch_is;
        known_is = f.known_is;
        room = f.room;
        queue = f.queue;
        idle = f.idle;
        most = f.most;
        report = keyed;
      })

  pub controller_idle : Mirrors keys (record (with_controller w c) { packets = w.packets ++ [] }) s
  controller_idle =
      quiet keys (with_controller w c) s (same_controller c.report m.controller.report)

  -- ---- a command is sent

  pub sends_one :
      (k : Command) (queue : List Command) → c.pending ≡ None
      → is_handover_to c.switch k ≡ false → WhatInRack w.rack (what_of 0 k)
      → AllByRecursion IsQueued queue → c.last + 1 + length queue ≤ last_number - 1
      → let now = with_command (record c { queue = queue }) k in
      Mirrors keys
      (record (with_controller w now) { packets = w.packets ++ command_packet now k ∷ [] })
      (gives s (ask_of k))
  sends_one k queue none other in_rack all left =
      let f = m.controller in
      let now : Controller = with_command (record c { queue = queue }) k in
      let what = what_code (what_of s.epoch k) in
      let item = law.item (law.Switch s.switch) (law.Command (s.number + 1) what) in
      let none' : s.command ≡ None =
      f.pending_is ∙ ap (option_map (λ j. what_code (what_of c.epoch j))) none in
      let same_what : what ≡ what_code (what_of c.epoch k) =
      ap (λ e. what_code (what_of e k)) f.epoch_is in
      let is : gives s (ask_of k) ≡ system.orders s what None =
      gives_is s k (ap (λ a. is_handover_to a k) f.switch_is ∙ other)
      ∙ ap (system.orders s what) none' in
      let number = f.number_is in
      let changed =
      controller_changes keys w s m now (s.number + 1) (Some what) s.switch s.epoch s.known
      (record {
        rack_is = f.rack_is;
        number_is = omega (arith, number);
        pending_is = ap Some same_what;
        in_rack = in_rack;
        some = λ x. omega arith;
        switch_is = f.switch_is;
        switch_in_rack = f.switch_in_rack;
        epoch_is = f.epoch_is;
        known_is = f.known_is;
        room = f.room;
        queue = all;
        idle = λ e. absurd (cc);
        most = left;
        report = f.report;
      }) in
      subst
      (λ x.
      Mirrors keys
      (record (with_controller w now) { packets = w.packets ++ command_packet now k ∷ [] }) x)
      (sym is)
      (posted keys (with_controller w now)
      (record s { number = s.number + 1; command = Some what }) changed
      (command_packet now k ∷ []) (item ∷ []) (
        record {
          sent = (
            f.switch_in_rack,
            omega arith,
            omega (arith, left),
            in_rack_at w.rack 0 c.epoch k in_rack,
          );
          to = ap law.Switch f.switch_is;
          packet =
              ap (law.Command (s.number + 1)) same_what
              ∙ ap (λ n. law.Command n (what_code (what_of c.epoch k))) (omega (arith, number));
        },
        tt,
      ))

  pub ordered_now : (k : Command) → IsAllowed k → Follows keys s (orders w k)
  ordered_now k allowed = by_tests (is_some c.pending) refl (c.last == last_number - 1) refl
    where
      none_if : (o : Option Command) → is_some o ≡ false → o ≡ None
      none_if None e = refl
      none_if (Some x) e = absurd (cc)

      by_switch :
          c.pending ≡ None → c.last ≢ last_number - 1 → no_such c.rack k ≡ None → (b : Bool)
          → is_handover_to c.switch k ≡ b
          → let step : Step Controller (Node × Packet) Order =
          cond b (refuse c (order.SameSwitch c.switch))
          (sends_command c k (order.Sent (c.last + 1))) in
          Follows keys s
          (reports (with_controller w step.state) step.sent (order_said k step.did))
      by_switch none below such_one true e = (system.Rest, controller_idle)
      by_switch none below such_one false e = (
        system.Order (ask_of k),
        sends_one k c.queue none e
            (such w.rack 0 k allowed (ap (λ r. no_such r k) (sym m.controller.rack_is) ∙ such_one))
            m.controller.queue
            (let q = ap length (m.controller.idle none) in let m' = m.controller.most in
            omega (arith, q, m', below)),
      )

      by_such :
          c.pending ≡ None → c.last ≢ last_number - 1 → (o : Option ℕ) → no_such c.rack k ≡ o
          → let step = ordered o c k in
          Follows keys s
          (reports (with_controller w step.state) step.sent (order_said k step.did))
      by_such none below (Some target) e = (system.Rest, controller_idle)
      by_such none below None e = by_switch none below e (is_handover_to c.switch k) refl

      by_tests :
          (b1 : Bool) → is_some c.pending ≡ b1 → (b2 : Bool) → (c.last == last_number - 1) ≡ b2
          → let step : Step Controller (Node × Packet) Order =
          cond b1 (refuse c (order.Busy c.last))
          (cond b2 (refuse c (order.Spent c.last)) (ordered (no_such c.rack k) c k)) in
          Follows keys s
          (reports (with_controller w step.state) step.sent (order_said k step.did))
      by_tests true e1 b2 e2 = (system.Rest, controller_idle)
      by_tests false e1 true e2 = (system.Rest, controller_idle)
      by_tests false e1 false e2 =
          by_such (none_if c.pending e1) (eqb-false c.last (last_number - 1) e2)
          (no_such c.rack k) refl

  -- ---- again, and a survey

  pub retried : Follows keys s (retries w)
  retried = by_pending c.pending refl
    where
      f : ControllerFits w.rack c s.number s.command s.switch s.epoch s.known
      f = m.controller

      same : Mirrors keys (with_controller w c) s
      same = same_controller c.report f.report

      clients : s.rack.clients ≡ w.rack.clients
      clients = ap (λ (r : core.Rack). r.clients) m.rack

      by_pending :
          (o : Option Command) → c.pending ≡ o
          → let step = retry_of o c.rack c in
          (e : system.Event)
          × Mirrors keys
          (record (with_controller w step.state) { packets = w.packets ++ step.sent })
          (happens_at s e)
      by_pending None e =
          let none : s.command ≡ None =
          f.pending_is ∙ ap (option_map (λ j. what_code (what_of c.epoch j))) e in
          let most : c.rack.clients ≤ w.rack.clients =
          (let r = ap (λ (x : Rack). x.clients) f.rack_is in omega (arith, r)) in
          let n : c.rack.clients ≡ s.rack.clients =
          ap (λ (x : Rack). x.clients) f.rack_is ∙ sym clients in (
            system.Repeat,
            subst
                (λ o.
                Mirrors keys
                (record (with_controller w c) {
                  packets = w.packets ++ announces c.rack c.epoch c.switch;
                })
                (system.repeats s o))
                (sym none)
                (subst
                (λ k.
                Mirrors keys
                (record (with_controller w c) {
                  packets = w.packets ++ announces c.rack c.epoch c.switch;
                })
                (record s { sent = s.sent ++ system.announces s.epoch s.switch k }))
                n
                (posted keys (with_controller w c) s same (announces c.rack c.epoch c.switch)
                (system.announces s.epoch s.switch c.rack.clients)
                (announced w.rack c.epoch c.switch s.epoch s.switch c.rack.clients f.epoch_is
                f.switch_is f.switch_in_rack most))),
          )
      by_pending (Some k) e =
          let what = what_code (what_of c.epoch k) in
          let some : s.command ≡ Some what =
          f.pending_is ∙ ap (option_map (λ j. what_code (what_of c.epoch j))) e in
          let in_rack : WhatInRack w.rack (what_of 0 k) =
          subst (PendingInRack w.rack) e f.in_rack in
          let few : c.last ≤ last_number = (let x = f.most in omega (arith, x)) in (
            system.Repeat,
            subst
                (λ o.
                Mirrors keys
                (record (with_controller w c) { packets = w.packets ++ command_packet c k ∷ [] })
                (system.repeats s o))
                (sym some)
                (posted keys (with_controller w c) s same (command_packet c k ∷ [])
                (law.item (law.Switch s.switch) (law.Command s.number what) ∷ []) (
                  record {
                    sent = (
                      f.switch_in_rack,
                      f.some (subst IsSome (sym e) refl),
                      few,
                      in_rack_at w.rack 0 c.epoch k in_rack,
                    );
                    to = ap law.Switch f.switch_is;
                    packet = ap (λ n. law.Command n what) f.number_is;
                  },
                  tt,
                )),
          )

  pub surveyed : Follows keys s (surveys w)
  surveyed =
      let f = m.controller in (
        system.Tell (law.Switch s.switch),
        posted keys (with_controller w c) s (same_controller c.report f.report)
            ((node.Switch c.switch, packet.Survey) ∷ [])
            (law.item (law.Switch s.switch) law.Other ∷ [])
            (record { sent = f.switch_in_rack; to = ap law.Switch f.switch_is; packet = refl }, tt),
      )

  -- ---- a plan

  queued_take :
      (n : ℕ) (ks : List Command) → AllByRecursion IsQueued ks → AllByRecursion IsQueued (take n ks)
  queued_take zero ks all = tt
  queued_take (suc n) [] all = tt
  queued_take (suc n) (k ∷ ks) all = (all.0, queued_take n ks all.1)

  pub queued_other :
      (switch : ℕ) (k : Command) → IsQueued k
      → (is_handover_to switch k ≡ false) × WhatInRack w.rack (what_of 0 k)
  queued_other switch (command.Promote key) q = (refl, q)
  queued_other switch (command.Demote key) q = (refl, tt)
  queued_other switch (command.Copy key target) q = absurd q
  queued_other switch (command.Fence key) q = absurd q
  queued_other switch (command.Handover target) q = absurd q
  queued_other switch command.Clear q = absurd q

  take_most : (n : ℕ) (ks : List Command) → length (take n ks) ≤ n
  take_most zero ks = omega arith
  take_most (suc n) [] = omega arith
  take_most (suc n) (k ∷ ks) = let t = take_most n ks in omega (arith, t)

  pub sends_first :
      {D : Type 0} (ks : List Command) (did : D) (said : Said) → c.pending ≡ None
      → AllByRecursion IsQueued ks → c.last + length ks ≤ last_number - 1
      → let step = sends_all c ks did in
      Follows keys s (reports (with_controller w step.state) step.sent said)
  sends_first [] did said none all left = (system.Rest, controller_idle)
  sends_first (k ∷ ks) did said none all left =
      let q = queued_other c.switch k all.0 in
      (system.Order (ask_of k), sends_one k ks none q.0 q.1 all.1 (omega (arith, left)))

  pub planned_now : (promote_at demote_below : ℕ) → Follows keys s (plans w promote_at demote_below)
  planned_now promote_at demote_below =
      by_tests (is_some c.pending) refl (nat_lt (last_number - 65) c.last) refl
    where
      none_if : (o : Option Command) → is_some o ≡ false → o ≡ None
      none_if None e = refl
      none_if (Some x) e = absurd (cc)

      all_queued :
          (rows : List Row) → AreKeyed rows
          → AllByRecursion IsQueued
          (take 64 (demotions c.known rows demote_below ++ promotions c.known rows promote_at))
      all_queued rows keyed =
          queued_take 64 (demotions c.known rows demote_below ++ promotions c.known rows promote_at)
          (all_append IsQueued (demotions c.known rows demote_below)
          (promotions c.known rows promote_at)
          (all_map IsQueued command.Demote
          (filter
          (λ key.
          not (control.has_row key rows) || nat_lt (control.count_of key rows) demote_below)
          c.known)
          (λ key. tt))
          (promoted_all
          (filter (control.is_worth promote_at c.known) (sorted control.is_hotter rows))
          (all_as (λ (row : Row). IsKey row.key × (control.is_worth promote_at c.known row ≡ true))
          (λ (row : Row). IsKey row.key)
          (filter (control.is_worth promote_at c.known) (sorted control.is_hotter rows))
          (λ row x. x.0)
          (all_chosen (λ (row : Row). IsKey row.key) (control.is_worth promote_at c.known)
          (sorted control.is_hotter rows)
          (all_sorted control.is_hotter (λ (row : Row). IsKey row.key) rows keyed)))))
        where
          promoted_all :
              (rs : List Row) → AllByRecursion (λ (row : Row). IsKey row.key) rs
              → AllByRecursion IsQueued (map (λ (row : Row). command.Promote row.key) rs)
          promoted_all [] x = tt
          promoted_all (r ∷ rs) x = (x.0, promoted_all rs x.1)

      by_rows :
          c.pending ≡ None → c.last ≤ last_number - 65 → (o : Option (List Row)) → HasKeyed o
          → let step = planned o c promote_at demote_below in
          Follows keys s (reports (with_controller w step.state) step.sent (plan_said step.did))
      by_rows none few None keyed = (system.Rest, controller_idle)
      by_rows none few (Some rows) keyed =
          let ks = take 64
          (demotions c.known rows demote_below ++ promotions c.known rows promote_at) in
          let demotes = length (filter is_demotion ks) in
          let did : Plan = plan.Planned demotes (length ks - demotes) in
          sends_first ks did (plan_said (sends_all c ks did).did) none (all_queued rows keyed)
          (let t = take_most 64
          (demotions c.known rows demote_below ++ promotions c.known rows promote_at) in
          omega (arith, t, few))

      by_tests :
          (b1 : Bool) → is_some c.pending ≡ b1 → (b2 : Bool)
          → nat_lt (last_number - 65) c.last ≡ b2
          → let step : Step Controller (Node × Packet) Plan =
          cond b1 (refuse c (plan.Busy c.last))
          (cond b2 (refuse c (plan.Spent c.last)) (planned c.report c promote_at demote_below)) in
          Follows keys s (reports (with_controller w step.state) step.sent (plan_said step.did))
      by_tests true e1 b2 e2 = (system.Rest, controller_idle)
      by_tests false e1 true e2 = (system.Rest, controller_idle)
      by_tests false e1 false e2 =
          by_rows (none_if c.pending e1) (ltb-false (last_number - 65) c.last e2) c.report
          m.controller.report
