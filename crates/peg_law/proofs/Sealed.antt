-- A switch is sealed, and sends its parts again, in both machines.
use Rattle.std.proofs.Common.{◌≡◌, ◌<◌, ◌≤◌, ◌+◌, ◌==◌, ℕ, Bool, true, false, List, [], ◌++◌}
use Rattle.std.proofs.Common.{cond, length, map, Some, None, refl, sym, ap, ◌∙◌, subst, option_map}
use Rattle.std.proofs.Common.{arith}
use Rattle.std.proofs.lemmas.List.{length-map}
use Rattle.peg_name.specs.Name.{Rack}
use Rattle.peg_event.specs.declared.answers.Listing.{Listing}
use Rattle.peg_event.specs.declared.SwitchDid.TheVariants as did
use Rattle.peg_model.specs.Words.{last_number, refuse, below}
use Rattle.peg_model.specs.Packet as packet
use Rattle.peg_model.specs.Packet.{What}
use Rattle.peg_model.specs.Rules.{Stamps, Directory, entry_of}
use Rattle.peg_model.specs.Handover.{State, state_bytes, parts}
use Rattle.peg_model.specs.Switch as switch
use Rattle.peg_model.specs.Switch.{Switch, sealed, sends_again, part_packets, state_held}
use Rattle.peg_model.specs.World.{World, switch_of, with_switch, switch_stepped}
use Rattle.peg_grammar.specs.State.{SpellsState}
use Rattle.peg_law.specs.Codes.{number_of, entry_code, what_code}
use Rattle.peg_law.specs.Mirrors.{Mirrors, Paired, ItemFits, CoreFits, HandsOver, TargetInRack}
use Rattle.peg_law.specs.Mirrors.{part_bytes}
use Rattle.peg_law.proofs.Cores.{entry_is}
use Rattle.peg_law.proofs.Nodes.{at_one_off, at_one_here, posted, switch_changes}
use Rattle.peg_law.proofs.SwitchSteps.{unchanged, switch_idle}
use Rattle.peg_law.proofs.SwitchHanded.{skipped_plain, repeated_plain}
use Rattle.peg_law.proofs.Parts.{told_is, parts_paired, part_item}
use Rattle.peg_law.proofs.Sealing.{spells_now, EntryInRange}
use Rattle.peg_protocol.specs.Core as core
use Rattle.peg_protocol.specs.Core.{at_one}
use Rattle.peg_protocol.specs.Packet as law
use Rattle.peg_protocol.specs.System as system
use Rattle.peg_protocol.specs.System.{System}
use Rattle.peg_protocol.specs.Told.{InRange}

-- the parts of a core, as a switch of the book sends them
sent_parts :
    (rack : Rack) (stamps : Stamps) (entries : Directory) (last : ℕ) (c : core.Core)
    (target epoch e n : ℕ) → CoreFits rack stamps entries last c
    → (let state : State = record { stamps = stamps; last = last; entries = entries } in
    SpellsState rack (state_bytes rack.format state) state)
    → target < rack.switches → e ≡ epoch → n ≡ length (parts (part_bytes rack c))
    → let bytes = state_bytes rack.format
    (record { stamps = stamps; last = last; entries = entries }) in
    Paired (ItemFits rack) (map (part_item bytes target epoch) (below (length (parts bytes))))
    (system.parts_of target e n c n)
sent_parts rack stamps entries last c target epoch e n f spelled within same count =
    let told = told_is rack stamps entries last c f in
    subst
    (λ (state : State).
    Paired (ItemFits rack)
    (map (part_item (state_bytes rack.format state) target epoch)
    (below (length (parts (state_bytes rack.format state)))))
    (system.parts_of target e n c n))
    told
    (subst
    (λ k.
    Paired (ItemFits rack) (map (part_item (part_bytes rack c) target epoch) (below k))
    (system.parts_of target e n c n))
    count
    (subst
    (λ x.
    Paired (ItemFits rack) (map (part_item (part_bytes rack c) target epoch) (below n))
    (system.parts_of target x n c n))
    (sym same)
    (parts_paired rack c target epoch n n
    (subst (λ (state : State). CoreFits rack state.stamps state.entries c.last c) (sym told)
    (subst (λ l. CoreFits rack stamps entries l c) (sym f.last_is) f))
    (subst (λ (state : State). SpellsState rack (state_bytes rack.format state) state) (sym told)
    spelled)
    within count (omega arith))))

module _ (keys : List (List ℕ)) (w : World) (s : System) (m : Mirrors keys w s) (a : ℕ)
    (within : a < w.rack.switches) where
  abbrev sw : Switch
  sw = switch_of w a

  abbrev mine : core.Core
  mine = s.cores a

  parts_count : (c : core.Core) → s.rack.parts c ≡ length (parts (part_bytes w.rack c))
  parts_count c = ap (λ (r : core.Rack). r.parts c) m.rack

  -- ---- sealed

  sealed_core : (number : ℕ) →
      CoreFits w.rack sw.stamps sw.entries number (record mine { last = number })
  sealed_core number =
      let f = (m.switches a).core_is in
      record {
        next_is = f.next_is;
        count = f.count;
        rows = f.rows;
        entries_is = f.entries_is;
        most = f.most;
        holders = f.holders;
        distinct = f.distinct;
        last_is = refl;
      }

  entry_found :
      (range : InRange s.issued s.rack mine) (key : List ℕ) (l : Listing)
      → entry_of sw.entries key ≡ Some l → EntryInRange mine.next l
  entry_found range key l e =
      let is : core.entry_of (number_of key) mine.entries ≡ Some (entry_code (key, l)) =
      ap (core.entry_of (number_of key)) (m.switches a).core_is.entries_is
      ∙ entry_is key sw.entries ∙ ap (option_map (λ x. entry_code (key, x))) e in
      record {
        base = range.base (number_of key) (entry_code (key, l)) is;
        completed = range.completed (number_of key) (entry_code (key, l)) is;
        mark = range.mark (number_of key) (entry_code (key, l)) is;
      }

  pub spells :
      (number : ℕ) → InRange s.issued s.rack mine → 1 ≤ number → number ≤ last_number
      → let state : State = record { stamps = sw.stamps; last = number; entries = sw.entries } in
      SpellsState w.rack (state_bytes w.rack.format state) state
  spells number range some few =
      let first = m.limits.first.0 in
      let low = range.next in
      let same = ap (λ (r : core.Rack). r.first) m.rack in
      let count : length mine.entries ≡ length sw.entries =
      ap length (m.switches a).core_is.entries_is ∙ length-map sw.entries entry_code in
      let room =
      range.room
      (let k = ap (λ (r : core.Rack). length r.keys) m.rack in
      let r = ap (λ (r : core.Rack). r.room) m.rack in
      let l = length-map keys number_of in let n = m.named in omega (arith, k, r, l, n)) in
      let r = ap (λ (r : core.Rack). r.room) m.rack in
      spells_now w.rack sw.stamps sw.entries number (record mine { last = number }) s.issued
      (sealed_core number)
      (λ client less.
      let c = m.clients client in
      let n = c.next_is in let most = c.most in omega (arith, n, most))
      (omega (arith, first, low, same)) range.seq range.version (entry_found range)
      (omega (arith, room, count, r)) some few

  pub sealed_now :
      (number target epoch : ℕ) → sw.mode ≡ switch.Active → InRange s.issued s.rack mine
      → target < w.rack.switches → 1 ≤ number → number ≤ last_number
      → Mirrors keys
      (switch_stepped w a (packet.Command number (packet.Seal target epoch))
      (sealed sw number target)).0
      (system.seals s a target number)
  sealed_now number target epoch active range in_rack some few =
      let f = m.switches a in
      let c = record mine { last = number } in
      let now : Switch = record sw {
        mode = switch.Sealed target;
        last = number;
        kept = None;
      } in
      let spelled = spells number range some few in
      let changed =
      switch_changes keys w s m a now (at_one s.modes a (system.Sealed target)) s.epochs
      (at_one s.cores a c) s.outcomes s.gathered within f.id_is
      (record {
        rack_is = f.rack_is;
        id_is = f.id_is;
        mode_is = at_one_here s.modes a (system.Sealed target);
        target = in_rack;
        epoch_is = f.epoch_is;
        core_is =
            subst (CoreFits w.rack sw.stamps sw.entries number) (sym (at_one_here s.cores a c))
            (sealed_core number);
        kept_is = tt;
        gathered_is = f.gathered_is;
        counts = f.counts;
        handed = spelled;
      })
      (at_one_off s.modes a (system.Sealed target)) (λ j other. refl) (at_one_off s.cores a c)
      (λ j other. refl) (λ j other. refl) in
      let sent =
      subst
      (λ (r : Rack).
      let bytes =
      state_bytes r.format
      (record { stamps = sw.stamps; last = number; entries = sw.entries }) in
      Paired (ItemFits w.rack)
      (map (part_item bytes target (sw.epoch + 1)) (below (length (parts bytes))))
      (system.parts_of target (s.epochs a + 1) (s.rack.parts c) c (s.rack.parts c)))
      (sym f.rack_is)
      (sent_parts w.rack sw.stamps sw.entries number c target (sw.epoch + 1) (s.epochs a + 1)
      (s.rack.parts c) (sealed_core number) spelled in_rack (ap (λ e. e + 1) f.epoch_is)
      (parts_count c)) in
      posted keys (with_switch w now)
      (record s {
        modes = at_one s.modes a (system.Sealed target);
        cores = at_one s.cores a c;
      })
      changed (part_packets now target)
      (system.parts_of target (s.epochs a + 1) (s.rack.parts c) c (s.rack.parts c)) sent

  -- ---- again

  pub sent_again :
      (number target : ℕ) (what : What) → sw.mode ≡ switch.Sealed target
      → Mirrors keys
      (switch_stepped w a (packet.Command number what)
      (cond (number == sw.last) (sends_again sw target)
      (refuse sw (did.Skipped number sw.last)))).0
      (system.sealed_takes s a target (law.Command number (what_code what)))
  sent_again number target what mode =
      subst
      (λ l.
      Mirrors keys
      (switch_stepped w a (packet.Command number what)
      (cond (number == sw.last) (sends_again sw target)
      (refuse sw (did.Skipped number sw.last)))).0
      (cond (number == l) (system.sends_parts s target (s.epochs a + 1) mine) s))
      (sym (m.switches a).core_is.last_is) (by_test (number == sw.last))
    where
      spelled : SpellsState w.rack (state_bytes w.rack.format (state_held sw)) (state_held sw)
      spelled = subst (λ md. HandsOver w.rack md (state_held sw)) mode (m.switches a).handed

      in_rack : target < w.rack.switches
      in_rack = subst (λ md. TargetInRack w.rack md) mode (m.switches a).target

      sent : Paired (ItemFits w.rack) (part_packets sw target)
          (system.parts_of target (s.epochs a + 1) (s.rack.parts mine) mine (s.rack.parts mine))
      sent =
          let f = m.switches a in
          subst
          (λ (r : Rack).
          let bytes = state_bytes r.format (state_held sw) in
          Paired (ItemFits w.rack)
          (map (part_item bytes target (sw.epoch + 1)) (below (length (parts bytes))))
          (system.parts_of target (s.epochs a + 1) (s.rack.parts mine) mine (s.rack.parts mine)))
          (sym f.rack_is)
          (sent_parts w.rack sw.stamps sw.entries sw.last mine target (sw.epoch + 1)
          (s.epochs a + 1) (s.rack.parts mine) f.core_is spelled in_rack
          (ap (λ e. e + 1) f.epoch_is) (parts_count mine))

      by_test :
          (b : Bool)
          → Mirrors keys
          (switch_stepped w a (packet.Command number what)
          (cond b (sends_again sw target) (refuse sw (did.Skipped number sw.last)))).0
          (cond b (system.sends_parts s target (s.epochs a + 1) mine) s)
      by_test true =
          subst
          (λ (x : World).
          Mirrors keys (record x { packets = x.packets ++ part_packets sw target })
          (system.sends_parts s target (s.epochs a + 1) mine))
          (sym (repeated_plain (with_switch w sw) sw number sw.last what))
          (posted keys (with_switch w sw) s
          (unchanged keys w s m a within sw.counts (m.switches a).counts) (part_packets sw target)
          (system.parts_of target (s.epochs a + 1) (s.rack.parts mine) mine (s.rack.parts mine))
          sent)
      by_test false =
          subst (λ (x : World). Mirrors keys (record x { packets = x.packets ++ [] }) s)
          (sym (skipped_plain (with_switch w sw) sw number number sw.last what))
          (switch_idle keys w s m a within)
