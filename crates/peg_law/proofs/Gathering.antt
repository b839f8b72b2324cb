-- A switch that is handed a part of a state, in both machines.
use Rattle.std.proofs.Common.{◌≡◌, ◌<◌, ◌≤◌, ◌==◌, ◌||◌, ◌⊎◌, inl, inr, ℕ, Bool, true, false, not}
use Rattle.std.proofs.Common.{List, [], ◌∷◌, ◌++◌}
use Rattle.std.proofs.Common.{cond, length, Some, None, is_some, refl, sym, ap, ◌∙◌, subst, nat_lt}
use Rattle.std.proofs.Common.{slice_get, Contains, replicate}
use Rattle.std.proofs.Common.{arith, eq-eqb, eqb-true, ne_eqb, ltb-true, ltb-false}
use Rattle.std.proofs.lemmas.Bool.{and_from, eqb-false}
use Rattle.std.proofs.lemmas.List.{length-set, length-replicate, get_or-set_same}
use Rattle.std.proofs.lemmas.Option.{slice_get-get_or}
use Rattle.peg_name.specs.Name.{Rack, InLimits}
use Rattle.peg_name.specs.declared.Node.TheVariants as node
use Rattle.peg_event.specs.declared.Outcome.TheVariants as outcome
use Rattle.peg_model.specs.Packet as packet
use Rattle.peg_model.specs.Packet.{Packet}
use Rattle.peg_model.specs.Counts.{no_counts}
use Rattle.peg_model.specs.Handover.{State, Collected, parts, part_of, state_of, none_collected}
use Rattle.peg_model.specs.Handover.{has_part, is_whole, bytes_of, begun, with_part, fits}
use Rattle.peg_model.specs.Switch as switch
use Rattle.peg_model.specs.Switch.{Switch, SwitchStep, on_part, collects, activates, is_old}
use Rattle.peg_model.specs.Switch.{switch_step, in_mode, repeats}
use Rattle.peg_model.specs.World.{World, switch_of, with_switch}
use Rattle.peg_grammar.specs.State.{SpellsState}
use Rattle.peg_law.specs.Mirrors.{Mirrors, ItemFits, PartFits, GatheredFits, CoreFits, state_told}
use Rattle.peg_law.specs.Mirrors.{part_bytes}
use Rattle.peg_law.proofs.Lists.{IsSet, Here, Else, get_set}
use Rattle.peg_law.proofs.Nodes.{at_one_off, at_one_here, posted, switch_changes}
use Rattle.peg_law.proofs.ClientSteps.{quiet}
use Rattle.peg_law.proofs.Collecting.{holds, whole_is, whole_bytes, none_held, held_set, no_part}
use Rattle.peg_law.proofs.Collecting.{paired_contains}
use Rattle.peg_protocol.specs.Core as core
use Rattle.peg_protocol.specs.Core.{at_one}
use Rattle.peg_protocol.specs.Packet as law
use Rattle.peg_protocol.specs.System as system
use Rattle.peg_protocol.specs.System.{System, Gathered}

-- that spelled bytes are read as the state that they spell
abbrev pub ReadsStates : Type 0
ReadsStates =
    (rack : Rack) (bytes : List ℕ) (s : State) → InLimits rack → SpellsState rack bytes s
    → state_of rack bytes ≡ Some s

-- that the parts of one epoch are of one state
abbrev pub OneState : System → Type 0
OneState s =
    (b b' epoch i i' n n' : ℕ) (c c' : core.Core)
    → Contains s.sent (law.item (law.Switch b) (law.Part epoch i n c))
    → Contains s.sent (law.item (law.Switch b') (law.Part epoch i' n' c')) → c ≡ c'

module _ (keys : List (List ℕ)) (w : World) (s : System) (m : Mirrors keys w s) (pick a : ℕ)
    (within : a < w.rack.switches) (reads : ReadsStates) (one : OneState s)
    (epoch index count : ℕ) (bytes : List ℕ) (q : law.Packet)
    (p : PartFits w.rack epoch index count bytes q)
    (in_book : Contains w.packets (node.Switch a, packet.Part epoch index count bytes))
    (in_law : Contains s.sent (law.item (law.Switch a) q)) where
  abbrev sw : Switch
  sw = switch_of w a

  abbrev part : Packet
  part = packet.Part epoch index count bytes

  abbrev state : core.Core
  state = p.state

  abbrev whole : List ℕ
  whole = part_bytes w.rack state

  -- what the switch has, and what it has with this part
  abbrev had : Collected
  had = begun sw.collected epoch count

  abbrev now : Collected
  now = with_part had index bytes

  abbrev g : Gathered
  g = s.gathered a

  was_sent : Contains s.sent (law.item (law.Switch a) (law.Part epoch index count state))
  was_sent = subst (λ x. Contains s.sent (law.item (law.Switch a) x)) p.is in_law

  -- ---- what it has is of this state

  record OfState (c : Collected) : Type 0 where
    pub epoch_is : c.epoch ≡ epoch
    pub count_is : length c.parts ≡ count
    pub each : (i : ℕ) (b : List ℕ) → slice_get c.parts i ≡ Some (Some b) → b ≡ part_of whole i
    pub sent :
        (i : ℕ) (b : List ℕ) → slice_get c.parts i ≡ Some (Some b)
        → Contains w.packets (node.Switch a, packet.Part epoch i count b)
    pub has :
        (i : ℕ) → cond (epoch == g.epoch) (g.has i) false ≡ has_part c i

  -- a part that was collected is of this state
  record SameState (i n : ℕ) (b : List ℕ) : Type 0 where
    pub count_is : n ≡ count
    pub slice : b ≡ part_of whole i

  same_state :
      (i n : ℕ) (b : List ℕ)
      → Contains w.packets (node.Switch a, packet.Part epoch i n b) → SameState i n b
  same_state i n b c =
      let x =
      paired_contains (ItemFits w.rack) w.packets s.sent
      (node.Switch a, packet.Part epoch i n b) m.sent c in
      let f : PartFits w.rack epoch i n b x.0.packet = x.2.packet in
      let there : Contains s.sent (law.item (law.Switch a) (law.Part epoch i n f.state)) =
      subst (λ t. Contains s.sent (law.item t (law.Part epoch i n f.state))) x.2.to
      (subst (λ y. Contains s.sent (law.item x.0.to y)) f.is x.1) in
      let same : f.state ≡ state = one a a epoch i index n count f.state state there was_sent in
      record {
        count_is = f.parts ∙ ap (λ c. length (parts (part_bytes w.rack c))) same ∙ sym p.parts;
        slice = f.slice ∙ ap (λ c. part_of (part_bytes w.rack c) i) same;
      }

  gathered : GatheredFits a w.packets sw.collected g
  gathered = (m.switches a).gathered_is

  of_state : sw.epoch < epoch → sw.collected.epoch ≤ epoch → OfState had
  of_state above most = by_test (nat_lt sw.collected.epoch epoch) refl
    where
      fresh : Collected
      fresh = record { epoch = epoch; parts = replicate count None }

      old_count : sw.collected.epoch ≡ epoch → length sw.collected.parts ≡ count
      old_count e = by_some gathered.some
        where
          by_some :
              (sw.collected.epoch ≡ 0)
              ⊎ ((i : ℕ) × (b : List ℕ)
              × (slice_get sw.collected.parts i ≡ Some (Some b)))
              → length sw.collected.parts ≡ count
          by_some (inl z) = absurd (omega (arith, z, e, above))
          by_some (inr (i, b, is)) =
              (same_state i (length sw.collected.parts) b
              (subst
              (λ k.
              Contains w.packets
              (node.Switch a, packet.Part k i (length sw.collected.parts) b))
              e (gathered.was_sent i b is))).count_is

      by_test :
          (t : Bool) → nat_lt sw.collected.epoch epoch ≡ t → OfState (cond t fresh sw.collected)
      by_test true t =
          let less = ltb-true sw.collected.epoch epoch t in
          let x = gathered.epoch_is in
          let apart : (epoch == g.epoch) ≡ false =
          ne_eqb epoch g.epoch (λ z. omega (arith, z, x, less)) in
          record {
            epoch_is = refl;
            count_is = length-replicate count None;
            each = λ i b e. absurd (no_part count i b e);
            sent = λ i b e. absurd (no_part count i b e);
            has = λ i.
                ap (λ y. cond y (g.has i) false) apart ∙ sym (none_held count i);
          }
      by_test false t =
          let less = ltb-false sw.collected.epoch epoch t in
          let e : sw.collected.epoch ≡ epoch = omega (arith, less, most) in
          let same : (epoch == g.epoch) ≡ true =
          eq-eqb epoch g.epoch (sym e ∙ sym gathered.epoch_is) in
          let n = old_count e in
          let there :
          (i : ℕ) (b : List ℕ) → slice_get sw.collected.parts i ≡ Some (Some b)
          → Contains w.packets (node.Switch a, packet.Part epoch i count b) =
          λ i b is.
          subst (λ k. Contains w.packets (node.Switch a, packet.Part epoch i k b)) n
          (subst
          (λ k.
          Contains w.packets (node.Switch a, packet.Part k i (length sw.collected.parts) b))
          e (gathered.was_sent i b is)) in
          record {
            epoch_is = e;
            count_is = n;
            each = λ i b is. (same_state i count b (there i b is)).slice;
            sent = there;
            has = λ i. ap (λ y. cond y (g.has i) false) same ∙ gathered.has i;
          }

  -- ---- with this part

  module _ (above : sw.epoch < epoch) (most : sw.collected.epoch ≤ epoch) where
    o : OfState had
    o = of_state above most

    among : index < length had.parts
    among = let x = p.among in let n = o.count_is in omega (arith, x, n)

    now_count : length now.parts ≡ count
    now_count = length-set had.parts index (Some bytes) ∙ o.count_is

    gathers_is :
        (j : ℕ) → system.gathers g epoch index j ≡ has_part now j
    gathers_is j = by_epoch (epoch == g.epoch) refl
      where
        by_epoch :
            (t : Bool) → (epoch == g.epoch) ≡ t
            → cond (j == index) true ((cond t g.has (λ i. false)) j) ≡ has_part now j
        by_epoch true t =
            held_set had.parts index bytes g.has g.has among
            (λ i. sym (ap (λ y. cond y (g.has i) false) t) ∙ o.has i) j
        by_epoch false t =
            held_set had.parts index bytes (λ i. false) g.has among
            (λ i. sym (ap (λ y. cond y (g.has i) false) t) ∙ o.has i) j

    now_each : (i : ℕ) (b : List ℕ) → slice_get now.parts i ≡ Some (Some b) → b ≡ part_of whole i
    now_each i b e = by_place (get_set had.parts index (Some bytes) i (Some b) e)
      where
        by_place : IsSet had.parts index (Some bytes) i (Some b) → b ≡ part_of whole i
        by_place (Here old at is f) =
            let same : b ≡ bytes = cc in same ∙ p.slice ∙ ap (part_of whole) (sym at)
        by_place (Else other f) = o.each i b f

    now_sent :
        (i : ℕ) (b : List ℕ) → slice_get now.parts i ≡ Some (Some b)
        → Contains w.packets (node.Switch a, packet.Part epoch i count b)
    now_sent i b e = by_place (get_set had.parts index (Some bytes) i (Some b) e)
      where
        by_place :
            IsSet had.parts index (Some bytes) i (Some b)
            → Contains w.packets (node.Switch a, packet.Part epoch i count b)
        by_place (Here old at is f) =
            let same : bytes ≡ b = cc in
            subst (λ k. Contains w.packets (node.Switch a, packet.Part epoch k count b)) (sym at)
            (subst (λ x. Contains w.packets (node.Switch a, packet.Part epoch index count x)) same
            in_book)
        by_place (Else other f) = o.sent i b f

    pub all_is : system.all_below (system.gathers g epoch index) count ≡ is_whole now
    all_is = whole_is now (system.gathers g epoch index) count gathers_is now_count

    pub whole_state : is_whole now ≡ true →
        state_of sw.rack (bytes_of now) ≡ Some (state_told w.rack state)
    whole_state t =
        ap (λ r. state_of r (bytes_of now)) (m.switches a).rack_is
        ∙ ap (state_of w.rack) (whole_bytes now whole t (now_count ∙ p.parts) now_each)
        ∙ reads w.rack whole (state_told w.rack state) m.limits p.spelled

    pub part_fits : fits sw.rack had index count bytes ≡ true
    part_fits =
        and_from (length had.parts == count)
        (has_part had index || not (is_whole now) || is_some (state_of sw.rack (bytes_of now)))
        (eq-eqb (length had.parts) count o.count_is)
        (by_whole (has_part had index) (is_whole now) refl)
      where
        by_whole :
            (h t : Bool) → is_whole now ≡ t
            → (h || not t || is_some (state_of sw.rack (bytes_of now))) ≡ true
        by_whole true t e = refl
        by_whole false false e = refl
        by_whole false true e = ap is_some (whole_state e)

    -- ---- what becomes of the switch

    -- it has the part already
    abbrev pub regathered : System
    regathered =
        record s {
          gathered =
              at_one s.gathered a
              (record { epoch = epoch; has = system.gathers g epoch index });
        }

    had_already :
        has_part had index ≡ true → (sw.collected.epoch ≡ epoch) × (had ≡ sw.collected)
    had_already h = by_test (nat_lt sw.collected.epoch epoch) refl h
      where
        by_test :
            (t : Bool) → nat_lt sw.collected.epoch epoch ≡ t
            → has_part
            (cond t (record { epoch = epoch; parts = replicate count None }) sw.collected) index
            ≡ true
            → (sw.collected.epoch ≡ epoch)
            × (cond t (record { epoch = epoch; parts = replicate count None }) sw.collected
            ≡ sw.collected)
        by_test true t x = absurd (let y : false ≡ true = sym (none_held count index) ∙ x in cc)
        by_test false t x =
            let less = ltb-false sw.collected.epoch epoch t in (omega (arith, less, most), refl)

    abbrev pub switch_with : Collected → Switch
    switch_with c = record sw { collected = c }

    with_collected :
        (c : Collected) (h : Gathered) → GatheredFits a w.packets c h
        → Mirrors keys (with_switch w (switch_with c))
        (record s { gathered = at_one s.gathered a h })
    with_collected c h fit =
        let f = m.switches a in
        switch_changes keys w s m a (switch_with c) s.modes s.epochs s.cores s.outcomes
        (at_one s.gathered a h) within f.id_is
        (record {
          rack_is = f.rack_is;
          id_is = f.id_is;
          mode_is = f.mode_is;
          target = f.target;
          epoch_is = f.epoch_is;
          core_is = f.core_is;
          kept_is = f.kept_is;
          gathered_is = subst (GatheredFits a w.packets c) (sym (at_one_here s.gathered a h)) fit;
          counts = f.counts;
          handed = f.handed;
        })
        (λ j other. refl) (λ j other. refl) (λ j other. refl) (λ j other. refl)
        (at_one_off s.gathered a h)

    pub repeated :
        has_part had index ≡ true → (is_whole now ≡ false)
        × Mirrors keys (record (with_switch w sw) { packets = w.packets ++ [] }) regathered
    repeated h =
        let x = had_already h in
        let same_has : (j : ℕ) → system.gathers g epoch index j ≡ has_part sw.collected j =
        λ j. gathers_same j in (
          not_whole (is_whole now) refl,
          quiet keys (with_switch w sw) regathered
              (with_collected sw.collected
              (record { epoch = epoch; has = system.gathers g epoch index })
              (record {
                epoch_is = sym x.0;
                has = same_has;
                was_sent = gathered.was_sent;
                missing = gathered.missing;
                some = gathered.some;
              })),
        )
      where
        gathers_same : (j : ℕ) → system.gathers g epoch index j ≡ has_part sw.collected j
        gathers_same j =
            by_place (j == index) refl
          where
            old : has_part sw.collected index ≡ true
            old = subst (λ c. has_part c index ≡ true) (had_already h).1 h

            had_is : (i : ℕ) → (cond (epoch == g.epoch) g.has (λ i. false)) i
                ≡ has_part sw.collected i
            had_is i =
                by_epoch (epoch == g.epoch) refl
              where
                by_epoch :
                    (t : Bool) → (epoch == g.epoch) ≡ t
                    → (cond t g.has (λ i. false)) i ≡ has_part sw.collected i
                by_epoch true t = gathered.has i
                by_epoch false t =
                    absurd
                    (eqb-false epoch g.epoch t (sym (had_already h).0 ∙ sym gathered.epoch_is))

            by_place :
                (b : Bool) → (j == index) ≡ b
                → cond b true ((cond (epoch == g.epoch) g.has (λ i. false)) j)
                ≡ has_part sw.collected j
            by_place true t = sym (ap (has_part sw.collected) (eqb-true j index t) ∙ old)
            by_place false t = had_is j

        not_whole : (t : Bool) → is_whole now ≡ t → is_whole now ≡ false
        not_whole false e = e
        not_whole true e =
            let count_old : length sw.collected.parts ≡ count =
            subst (λ (c : Collected). length c.parts ≡ count) (had_already h).1 o.count_is in
            let t : is_whole sw.collected ≡ true =
            sym (whole_is sw.collected (system.gathers g epoch index) count gathers_same count_old)
            ∙ all_is ∙ e in
            let none = gathered.missing t in
            let empty : has_part sw.collected index ≡ false =
            ap (λ xs. holds xs index) none in
            let some : has_part sw.collected index ≡ true =
            subst (λ c. has_part c index ≡ true) (had_already h).1 h in
            let no : false ≡ true = sym empty ∙ some in absurd (cc)

    -- one more is collected
    pub collected_more :
        is_whole now ≡ false
        → Mirrors keys (record (with_switch w (switch_with now)) { packets = w.packets ++ [] })
        regathered
    collected_more t =
        quiet keys (with_switch w (switch_with now)) regathered
        (with_collected now (record { epoch = epoch; has = system.gathers g epoch index })
        (record {
          epoch_is = sym o.epoch_is;
          has = gathers_is;
          was_sent = λ i b e.
              subst (λ k. Contains w.packets (node.Switch a, packet.Part k i (length now.parts) b))
              (sym o.epoch_is)
              (subst (λ n. Contains w.packets (node.Switch a, packet.Part epoch i n b))
              (sym now_count) (now_sent i b e));
          missing = λ e. absurd (let x : false ≡ true = sym t ∙ e in cc);
          some =
              inr (
                index,
                bytes,
                slice_get-get_or now.parts index None
                    (let n = now_count in let x = p.among in omega (arith, n, x))
                    ∙ ap Some (get_or-set_same had.parts index (Some bytes) None among),
              );
        }))

    -- the last one makes the switch active
    abbrev pub risen : Switch
    risen =
        let st = state_told w.rack state in
        record {
          rack = sw.rack;
          id = sw.id;
          mode = switch.Active;
          epoch = epoch;
          stamps = st.stamps;
          entries = st.entries;
          counts = no_counts;
          last = st.last;
          kept = Some (outcome.Activated epoch);
          collected = none_collected;
        }

    pub activated :
        Mirrors keys
        (record (with_switch w risen) {
          packets =
              w.packets
              ++ (node.Controller, packet.CommandAck state.last (outcome.Activated epoch)) ∷ [];
        })
        (system.post
        (record s {
          modes = at_one s.modes a system.Active;
          epochs = at_one s.epochs a epoch;
          cores = at_one s.cores a state;
          outcomes = at_one s.outcomes a (law.Activated epoch);
          gathered = at_one s.gathered a (record { epoch = 0; has = λ j. false });
        })
        (law.item law.Controller (law.Ack state.last (law.Activated epoch))))
    activated =
        let f = m.switches a in
        let none : Gathered = record { epoch = 0; has = λ j. false } in
        let st = state_told w.rack state in
        posted keys (with_switch w risen)
        (record s {
          modes = at_one s.modes a system.Active;
          epochs = at_one s.epochs a epoch;
          cores = at_one s.cores a state;
          outcomes = at_one s.outcomes a (law.Activated epoch);
          gathered = at_one s.gathered a none;
        })
        (switch_changes keys w s m a risen (at_one s.modes a system.Active)
        (at_one s.epochs a epoch) (at_one s.cores a state)
        (at_one s.outcomes a (law.Activated epoch)) (at_one s.gathered a none) within f.id_is
        (record {
          rack_is = f.rack_is;
          id_is = f.id_is;
          mode_is = at_one_here s.modes a system.Active;
          target = tt;
          epoch_is = at_one_here s.epochs a epoch;
          core_is =
              subst (CoreFits w.rack st.stamps st.entries st.last)
              (sym (at_one_here s.cores a state)) p.fits;
          kept_is = at_one_here s.outcomes a (law.Activated epoch);
          gathered_is =
              subst (GatheredFits a w.packets none_collected)
              (sym (at_one_here s.gathered a none))
              (record {
                epoch_is = refl;
                has = λ j. refl;
                was_sent = λ j b e. absurd (cc);
                missing = λ e. refl;
                some = inl refl;
              });
          counts = tt;
          handed = tt;
        })
        (at_one_off s.modes a system.Active) (at_one_off s.epochs a epoch)
        (at_one_off s.cores a state) (at_one_off s.outcomes a (law.Activated epoch))
        (at_one_off s.gathered a none))
        ((node.Controller, packet.CommandAck state.last (outcome.Activated epoch)) ∷ [])
        (law.item law.Controller (law.Ack state.last (law.Activated epoch)) ∷ [])
        (record { sent = tt; to = refl; packet = refl }, tt)
