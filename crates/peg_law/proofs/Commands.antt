-- What an active switch does with the commands but a seal, in both machines.
use Rattle.std.proofs.Common.{◌≡◌, ◌<◌, ◌+◌, ◌==◌, ◌||◌, ℕ, Bool, true, false, List, [], ◌∷◌, ◌++◌}
use Rattle.std.proofs.Common.{cond, Option, Some, None, option_map, refl, sym, ap, ◌∙◌, subst}
use Rattle.std.proofs.Common.{arith, append_assoc, nat_eq}
use Rattle.std.proofs.lemmas.Map.Steps.{set_value_same}
use Rattle.std.specs.Prelude.{slice_index}
use Rattle.std.specs.List.{list_any}
use Rattle.std.specs.Map.{set_value}
use Rattle.std.specs.Str.{bytes_eq}
use Rattle.peg_name.specs.Name.{Rack, home_of}
use Rattle.peg_name.specs.declared.Node.{Node}
use Rattle.peg_name.specs.declared.Node.TheVariants as node
use Rattle.peg_event.specs.declared.answers.Listing.{Listing}
use Rattle.peg_event.specs.declared.Outcome.{Outcome}
use Rattle.peg_event.specs.declared.Outcome.TheVariants as outcome
use Rattle.peg_event.specs.declared.answers.CopyFrom.TheVariants as copy_from
use Rattle.peg_event.specs.declared.answers.FenceOf.TheVariants as fence_at
use Rattle.peg_event.specs.declared.answers.MarkDid.TheVariants as mark_did
use Rattle.peg_model.specs.Packet as packet
use Rattle.peg_model.specs.Packet.{Packet}
use Rattle.peg_model.specs.Counts.{Counts, no_counts}
use Rattle.peg_model.specs.Rules as rules
use Rattle.peg_model.specs.Rules.{Stamps, Directory, entry_of}
use Rattle.peg_model.specs.Switch as switch
use Rattle.peg_model.specs.Switch.{Switch, SwitchStep, core_of, carry_out, settled, acknowledgement}
use Rattle.peg_model.specs.World.{World, switch_of, with_switch, switch_stepped}
use Rattle.peg_law.specs.Codes.{number_of, outcome_code, entry_code, entries_code}
use Rattle.peg_law.specs.Mirrors.{Mirrors, CoreFits, ItemFits, AreServers, IsListing, AreKeyed}
use Rattle.peg_law.specs.Mirrors.{HandsOver}
use Rattle.peg_law.proofs.Cores.{found_all, home_below, put_changed, all_set, distinct_set}
use Rattle.peg_law.proofs.Cores.{all_index}
use Rattle.peg_law.proofs.Nodes.{at_one_off, at_one_here, posted, switch_changes}
use Rattle.peg_law.proofs.SwitchSteps.{entry_here}
use Rattle.peg_law.proofs.ServerHanded.{home_is}
use Rattle.peg_law.proofs.Replies.{flip}
use Rattle.peg_protocol.specs.Core as core
use Rattle.peg_protocol.specs.Core.{at_one}
use Rattle.peg_protocol.specs.Packet as law
use Rattle.peg_protocol.specs.System as system
use Rattle.peg_protocol.specs.System.{System}

-- the core of a switch after a command that changes nothing else
pub next_core :
    (rack : Rack) (stamps : Stamps) (entries : Directory) (last number : ℕ) (c : core.Core)
    → CoreFits rack stamps entries last c → number ≡ last + 1
    → CoreFits rack stamps entries number (record c { last = c.last + 1 })
next_core rack stamps entries last number c f next =
    let l = f.last_is in
    record {
      next_is = f.next_is;
      count = f.count;
      rows = f.rows;
      entries_is = f.entries_is;
      most = f.most;
      holders = f.holders;
      distinct = f.distinct;
      last_is = omega (arith, l, next);
    }

module _ (keys : List (List ℕ)) (w : World) (s : System) (m : Mirrors keys w s) (a : ℕ)
    (within : a < w.rack.switches) (active : (switch_of w a).mode ≡ switch.Active) where
  -- the switch takes a command with an outcome, and acknowledges it
  pub done :
      (counts : Counts) (stamps : Stamps) (entries : Directory) (number : ℕ) (o : Outcome)
      (c : core.Core)
      → CoreFits w.rack stamps entries number c → AreKeyed counts.rows
      → Mirrors keys
      (record (with_switch w
      (record (switch_of w a) {
        counts = counts;
        stamps = stamps;
        entries = entries;
        last = number;
        kept = Some o;
      })) {
        packets = w.packets ++ (node.Controller, packet.CommandAck number o) ∷ [];
      })
      (system.does s a c (outcome_code o))
  done counts stamps entries number o c fits keyed =
      let sw = switch_of w a in
      let f = m.switches a in
      let sw' : Switch = record sw {
        counts = counts;
        stamps = stamps;
        entries = entries;
        last = number;
        kept = Some o;
      } in
      let changed =
      switch_changes keys w s m a sw' s.modes s.epochs (at_one s.cores a c)
      (at_one s.outcomes a (outcome_code o)) s.gathered within f.id_is
      (record {
        rack_is = f.rack_is;
        id_is = f.id_is;
        mode_is = f.mode_is;
        target = f.target;
        epoch_is = f.epoch_is;
        core_is =
            subst (CoreFits w.rack stamps entries number) (sym (at_one_here s.cores a c)) fits;
        kept_is = at_one_here s.outcomes a (outcome_code o);
        gathered_is = f.gathered_is;
        counts = keyed;
        handed =
            subst
            (λ md.
            HandsOver w.rack md (record { stamps = stamps; last = number; entries = entries }))
            (sym active) tt;
      })
      (λ j other. refl) (λ j other. refl) (at_one_off s.cores a c)
      (at_one_off s.outcomes a (outcome_code o)) (λ j other. refl) in
      posted keys (with_switch w sw')
      (record s {
        cores = at_one s.cores a c;
        outcomes = at_one s.outcomes a (outcome_code o);
      })
      changed ((node.Controller, packet.CommandAck number o) ∷ [])
      (law.item law.Controller (law.Ack c.last (outcome_code o)) ∷ []) (
        record {
          sent = tt;
          to = refl;
          packet = ap (λ n. law.Ack n (outcome_code o)) fits.last_is;
        },
        tt,
      )

-- the same once a packet was sent
pub done_sent :
    (keys : List (List ℕ)) (w : World) (s : System) (m : Mirrors keys w s) (a : ℕ)
    → a < w.rack.switches → (switch_of w a).mode ≡ switch.Active →
    (counts : Counts) (number : ℕ) (o : Outcome) (c : core.Core)
    → CoreFits w.rack (switch_of w a).stamps (switch_of w a).entries number c
    → AreKeyed counts.rows → (p : Node × Packet) (i : law.Item) → ItemFits w.rack p i
    → Mirrors keys
    (record (with_switch w
    (record (switch_of w a) { counts = counts; last = number; kept = Some o })) {
      packets = w.packets ++ p ∷ (node.Controller, packet.CommandAck number o) ∷ [];
    })
    (system.does (system.post s i) a c (outcome_code o))
done_sent keys w s m a within active counts number o c fits keyed p i fit =
    let ack : Node × Packet = (node.Controller, packet.CommandAck number o) in
    let sw' : Switch = record (switch_of w a) { counts = counts; last = number; kept = Some o } in
    subst
    (λ ps.
    Mirrors keys (record (with_switch w sw') { packets = ps })
    (system.does (system.post s i) a c (outcome_code o)))
    (append_assoc w.packets (p ∷ []) (ack ∷ []))
    (done keys (record w { packets = w.packets ++ p ∷ [] }) (system.post s i)
    (posted keys w s m (p ∷ []) (i ∷ []) (fit, tt)) a within active counts (switch_of w a).stamps
    (switch_of w a).entries number o c fits keyed)

module _ (keys : List (List ℕ)) (w : World) (s : System) (m : Mirrors keys w s) (a : ℕ)
    (within : a < w.rack.switches) (active : (switch_of w a).mode ≡ switch.Active) (number : ℕ)
    (next : number ≡ (switch_of w a).last + 1) where
  abbrev sw : Switch
  sw = switch_of w a

  abbrev mine : core.Core
  mine = s.cores a

  abbrev Done : packet.What → System → Type 0
  Done what s' =
      Mirrors keys
      (switch_stepped w a (packet.Command number what) (carry_out sw number what)).0 s'

  pub stays : CoreFits w.rack sw.stamps sw.entries number (record mine { last = mine.last + 1 })
  stays =
      next_core w.rack sw.stamps sw.entries sw.last number mine (m.switches a).core_is next

  pub cleared : Done packet.Clear
      (system.does s a (record mine { last = mine.last + 1 }) law.Cleared)
  cleared =
      done keys w s m a within active no_counts sw.stamps sw.entries number outcome.Cleared
      (record mine { last = mine.last + 1 }) stays tt

  -- ---- a copy

  same_any :
      (target : ℕ) (xs : List ℕ)
      → list_any (λ t. t == target) xs ≡ list_any (nat_eq target) xs
  same_any target [] = refl
  same_any target (x ∷ xs) =
      ap (λ b. b || list_any (λ t. t == target) xs) (flip x target)
      ∙ ap (λ b. target == x || b) (same_any target xs)

  order_fits :
      (l : Listing) (target : ℕ) (key : List ℕ) → AreServers w.rack l.holders
      → target < w.rack.servers
      → ItemFits w.rack (
        node.Server (slice_index l.holders 0),
        packet.CopyOrder sw.id (slice_index l.holders 0) target key,
      )
      (law.item (law.Server (slice_index l.holders 0))
      (law.CopyOrder a target (number_of key)))
  order_fits l target key servers below =
      let i = (m.switches a).id_is in
      record {
        sent = (
          refl,
          all_index (λ x. x < w.rack.servers) l.holders 0 servers.1 servers.0,
          omega (arith, i, within),
          below,
        );
        to = refl;
        packet = ap (λ j. law.CopyOrder j target (number_of key)) (sym i);
      }

  pub copied :
      (target : ℕ) (key : List ℕ) → target < w.rack.servers
      → Done (packet.Copy target key)
      (system.copies_by s a target (number_of key)
      (core.entry_of (number_of key) mine.entries))
  copied target key below =
      subst
      (λ o. Done (packet.Copy target key) (system.copies_by s a target (number_of key) o))
      (sym (entry_here keys w s m a within key)) (by_case (entry_of sw.entries key) refl)
    where
      by_case :
          (o : Option Listing) → entry_of sw.entries key ≡ o
          → Mirrors keys
          (switch_stepped w a (packet.Command number (packet.Copy target key))
          (switch.copies (rules.copy_source_of o target) sw number target key)).0
          (system.copies_by s a target (number_of key) (option_map (λ l. entry_code (key, l)) o))
      by_case None e =
          done keys w s m a within active sw.counts sw.stamps sw.entries number outcome.NotListed
          (record mine { last = mine.last + 1 }) stays (m.switches a).counts
      by_case (Some l) e =
          rw (same_any target l.holders) (by_test (list_any (nat_eq target) l.holders))
        where
          by_test :
              (b : Bool)
              → Mirrors keys
              (switch_stepped w a (packet.Command number (packet.Copy target key))
              (switch.copies
              (cond b copy_from.Holds (copy_from.From (slice_index l.holders 0))) sw
              number target key)).0
              (cond b (system.does s a (record mine { last = mine.last + 1 }) law.Holds)
              (system.does
              (system.post s
              (law.item (law.Server (slice_index l.holders 0))
              (law.CopyOrder a target (number_of key))))
              a (record mine { last = mine.last + 1 })
              (law.Ordered (slice_index l.holders 0))))
          by_test true =
              done keys w s m a within active sw.counts sw.stamps sw.entries number outcome.Holds
              (record mine { last = mine.last + 1 }) stays (m.switches a).counts
          by_test false =
              done_sent keys w s m a within active sw.counts number
              (outcome.Ordered (slice_index l.holders 0)) (record mine { last = mine.last + 1 })
              stays (m.switches a).counts (
                node.Server (slice_index l.holders 0),
                packet.CopyOrder sw.id (slice_index l.holders 0) target key,
              )
              (law.item (law.Server (slice_index l.holders 0))
              (law.CopyOrder a target (number_of key)))
              (order_fits l target key
              (found_all (IsListing w.rack) key l sw.entries
              (m.switches a).core_is.holders e).0
              below)

  -- ---- a fence

  fence_fits :
      (base : ℕ) (key : List ℕ)
      → ItemFits w.rack (
        node.Server (home_of sw.rack.servers key),
        packet.Fence sw.id (home_of sw.rack.servers key) base key,
      )
      (law.item (law.Server (s.rack.home (number_of key))) (law.Fence base a (number_of key)))
  fence_fits base key =
      let i = (m.switches a).id_is in
      let r = ap (λ (x : Rack). home_of x.servers key) (m.switches a).rack_is in
      let below = home_below w.rack key m.limits.servers.0 in
      record {
        sent = (refl, omega (arith, r, below), omega (arith, i, within));
        to = ap law.Server (home_is keys w s m key ∙ sym r);
        packet = ap (λ j. law.Fence base j (number_of key)) (sym i);
      }

  pub fenced :
      (key : List ℕ)
      → Done (packet.FenceKey key)
      (system.fences_by s a (number_of key) (core.entry_of (number_of key) mine.entries))
  fenced key =
      subst (λ o. Done (packet.FenceKey key) (system.fences_by s a (number_of key) o))
      (sym (entry_here keys w s m a within key)) (by_case (entry_of sw.entries key))
    where
      by_case :
          (o : Option Listing)
          → Mirrors keys
          (switch_stepped w a (packet.Command number (packet.FenceKey key))
          (switch.fences (rules.fence_of_entry o (home_of sw.rack.servers key)) sw number key)).0
          (system.fences_by s a (number_of key) (option_map (λ l. entry_code (key, l)) o))
      by_case None =
          done keys w s m a within active sw.counts sw.stamps sw.entries number outcome.NotListed
          (record mine { last = mine.last + 1 }) stays (m.switches a).counts
      by_case (Some l) = by_test (l.base == 0)
        where
          by_test :
              (b : Bool)
              → Mirrors keys
              (switch_stepped w a (packet.Command number (packet.FenceKey key))
              (switch.fences
              (cond b fence_at.NoBase (fence_at.At (home_of sw.rack.servers key) l.base)) sw
              number key)).0
              (cond b (system.does s a (record mine { last = mine.last + 1 }) law.NoBase)
              (system.does
              (system.post s
              (law.item (law.Server (s.rack.home (number_of key)))
              (law.Fence l.base a (number_of key))))
              a (record mine { last = mine.last + 1 }) (law.Fenced l.base)))
          by_test true =
              done keys w s m a within active sw.counts sw.stamps sw.entries number outcome.NoBase
              (record mine { last = mine.last + 1 }) stays (m.switches a).counts
          by_test false =
              done_sent keys w s m a within active sw.counts number (outcome.Fenced l.base)
              (record mine { last = mine.last + 1 }) stays (m.switches a).counts (
                node.Server (home_of sw.rack.servers key),
                packet.Fence sw.id (home_of sw.rack.servers key) l.base key,
              )
              (law.item (law.Server (s.rack.home (number_of key)))
              (law.Fence l.base a (number_of key)))
              (fence_fits l.base key)

  -- ---- a demotion

  marked_core :
      (l : Listing) (key : List ℕ) → IsListing w.rack (key, l) → l.mark ≡ None
      → CoreFits w.rack sw.stamps
      (set_value (bytes_eq key) sw.entries (record l { mark = Some sw.stamps.next })) number
      (record mine {
        last = mine.last + 1;
        entries =
            core.put (number_of key)
            (Some (record (entry_code (key, l)) { mark = Some mine.next })) mine.entries;
      })
  marked_core l key servers none =
      let f = (m.switches a).core_is in
      let now : Listing = record l { mark = Some sw.stamps.next } in
      record {
        next_is = f.next_is;
        count = f.count;
        rows = f.rows;
        entries_is =
            ap
            (λ es.
            core.put (number_of key)
            (Some (record (entry_code (key, l)) { mark = Some mine.next })) es)
            f.entries_is
            ∙ ap
            (λ n.
            core.put (number_of key) (Some (record (entry_code (key, l)) { mark = Some n }))
            (entries_code sw.entries))
            f.next_is
            ∙ put_changed key now sw.entries f.distinct;
        most = f.most;
        holders =
            all_set (IsListing w.rack) key now sw.entries f.holders
            (λ k old x. (servers.0, servers.1, x.2, servers.3));
        distinct = distinct_set key now sw.entries f.distinct;
        last_is = let l' = f.last_is in omega (arith, l', next);
      }

  put_same : (key : List ℕ) (l : Listing) → entry_of sw.entries key ≡ Some l
      → core.put (number_of key) (Some (entry_code (key, l))) mine.entries ≡ mine.entries
  put_same key l e =
      let f = (m.switches a).core_is in
      ap (core.put (number_of key) (Some (entry_code (key, l)))) f.entries_is
      ∙ put_changed key l sw.entries f.distinct
      ∙ ap entries_code (set_value_same (bytes_eq key) sw.entries l e) ∙ sym f.entries_is

  pub demoted :
      (key : List ℕ)
      → Done (packet.Demote key)
      (system.does s a
      (core.demote (number_of key) (core.entry_of (number_of key) mine.entries) mine)
      (system.demote_outcome mine.next (core.entry_of (number_of key) mine.entries)))
  demoted key =
      subst
      (λ o.
      Done (packet.Demote key)
      (system.does s a (core.demote (number_of key) o mine) (system.demote_outcome mine.next o)))
      (sym (entry_here keys w s m a within key)) (by_case (entry_of sw.entries key) refl)
    where
      by_case :
          (o : Option Listing) → entry_of sw.entries key ≡ o
          → let marked = rules.mark_of o sw.entries key sw.stamps.next in
          Mirrors keys
          (switch_stepped w a (packet.Command number (packet.Demote key))
          (switch.demotes (marked.0, record (core_of sw) { entries = marked.1 }) sw number)).0
          (system.does s a
          (core.demote (number_of key) (option_map (λ l. entry_code (key, l)) o) mine)
          (system.demote_outcome mine.next (option_map (λ l. entry_code (key, l)) o)))
      by_case None e =
          done keys w s m a within active sw.counts sw.stamps sw.entries number outcome.NotListed
          (record mine { last = mine.last + 1 }) stays (m.switches a).counts
      by_case (Some l) e = by_mark l.mark refl
        where
          by_mark :
              (mark : Option ℕ) → l.mark ≡ mark
              → let marked = rules.mark_over mark sw.entries key l sw.stamps.next in
              Mirrors keys
              (switch_stepped w a (packet.Command number (packet.Demote key))
              (switch.demotes (marked.0, record (core_of sw) { entries = marked.1 }) sw number)).0
              (system.does s a
              (record mine {
                last = mine.last + 1;
                entries =
                    core.put (number_of key) (core.marked mine.next (entry_code (key, l)) mark)
                    mine.entries;
              })
              (system.mark_outcome mine.next mark))
          by_mark None none =
              subst
              (λ n.
              Mirrors keys
              (switch_stepped w a (packet.Command number (packet.Demote key))
              (switch.demotes (
                mark_did.Marked sw.stamps.next,
                record (core_of sw) {
                  entries =
                      set_value (bytes_eq key) sw.entries
                      (record l { mark = Some sw.stamps.next });
                },
              ) sw number)).0
              (system.does s a
              (record mine {
                last = mine.last + 1;
                entries =
                    core.put (number_of key)
                    (Some (record (entry_code (key, l)) { mark = Some mine.next })) mine.entries;
              })
              (law.Marked n)))
              (sym (m.switches a).core_is.next_is)
              (done keys w s m a within active sw.counts sw.stamps
              (set_value (bytes_eq key) sw.entries (record l { mark = Some sw.stamps.next }))
              number (outcome.Marked sw.stamps.next)
              (record mine {
                last = mine.last + 1;
                entries =
                    core.put (number_of key)
                    (Some (record (entry_code (key, l)) { mark = Some mine.next })) mine.entries;
              })
              (marked_core l key
              (found_all (IsListing w.rack) key l sw.entries (m.switches a).core_is.holders e) none)
              (m.switches a).counts)
          by_mark (Some mark) some =
              subst
              (λ es.
              Mirrors keys
              (switch_stepped w a (packet.Command number (packet.Demote key))
              (switch.demotes
              (mark_did.AlreadyMarked mark, record (core_of sw) { entries = sw.entries }) sw
              number)).0
              (system.does s a (record mine { last = mine.last + 1; entries = es })
              (law.AlreadyMarked mark)))
              (sym (put_same key l e))
              (done keys w s m a within active sw.counts sw.stamps sw.entries number
              (outcome.AlreadyMarked mark) (record mine { last = mine.last + 1 }) stays
              (m.switches a).counts)
