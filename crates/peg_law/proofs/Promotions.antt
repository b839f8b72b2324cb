-- A promotion at an active switch, in both machines.
use Rattle.std.proofs.Common.{◌≡◌, ◌≢◌, ◌<◌, ◌≤◌, ◌+◌, ◌==◌, ◌&&◌, ℕ, Bool, true, false, not, List}
use Rattle.std.proofs.Common.{[], ◌∷◌, ◌++◌}
use Rattle.std.proofs.Common.{cond, length, Option, Some, None, option_map, refl, sym, ap, ◌∙◌}
use Rattle.std.proofs.Common.{subst}
use Rattle.std.proofs.Common.{arith}
use Rattle.std.proofs.lemmas.Bool.{eqb-false}
use Rattle.std.proofs.lemmas.Grind.{reverse_onto}
use Rattle.std.proofs.lemmas.List.{map-append, length-map}
use Rattle.std.proofs.lemmas.Slice.Eq.{bytes_eq-Decides}
use Rattle.std.specs.Prelude.{reverse}
use Rattle.std.specs.List.{AllByRecursion, IsDistinct}
use Rattle.std.specs.Map.{keys_of}
use Rattle.std.specs.Str.{bytes_eq}
use Rattle.peg_name.specs.Name.{Rack, IsKey, home_of}
use Rattle.peg_name.specs.declared.Node.TheVariants as node
use Rattle.peg_event.specs.declared.answers.Listing.{Listing}
use Rattle.peg_event.specs.declared.Outcome.TheVariants as outcome
use Rattle.peg_event.specs.declared.answers.Promoted.{Promoted}
use Rattle.peg_event.specs.declared.Said.TheVariants as said
use Rattle.peg_event.specs.declared.SwitchDid.TheVariants as did
use Rattle.peg_event.specs.declared.answers.Promoted.TheVariants as promoted
use Rattle.peg_model.specs.Words.{last_number}
use Rattle.peg_model.specs.Packet as packet
use Rattle.peg_model.specs.Rules as rules
use Rattle.peg_model.specs.Rules.{Stamps, Directory, entry_of, base_of, new_listing}
use Rattle.peg_model.specs.Switch as switch
use Rattle.peg_model.specs.Switch.{Switch, core_of, carry_out}
use Rattle.peg_model.specs.World as world
use Rattle.peg_model.specs.World.{World, Promotion, switch_of, with_switch, switch_stepped}
use Rattle.peg_law.specs.Codes.{number_of, entry_code, entries_code}
use Rattle.peg_law.specs.Mirrors.{Mirrors, CoreFits, IsListing, rack_code}
use Rattle.peg_law.proofs.Lists.{all_append}
use Rattle.peg_law.proofs.Codes.{number_test}
use Rattle.peg_law.proofs.Replies.{flip}
use Rattle.peg_law.proofs.Cores.{home_same, home_below}
use Rattle.peg_law.proofs.ClientSteps.{top_is}
use Rattle.peg_law.proofs.SwitchSteps.{entry_here}
use Rattle.peg_law.proofs.Commands.{done, stays}
use Rattle.peg_protocol.specs.Core as core
use Rattle.peg_protocol.specs.Packet as law
use Rattle.peg_protocol.specs.System as system
use Rattle.peg_protocol.specs.System.{System}

-- ---- an entry that goes last

unlisted :
    (key : List ℕ) (es : Directory) → entry_of es key ≡ None
    → AllByRecursion (λ k. bytes_eq key k ≡ false) (keys_of es)
unlisted key [] e = tt
unlisted key (x ∷ es) e = by_test (bytes_eq key x.0) refl e (unlisted key es)
  where
    by_test :
        (b : Bool) → bytes_eq key x.0 ≡ b → cond b (Some x.1) (entry_of es key) ≡ None
        → (entry_of es key ≡ None → AllByRecursion (λ k. bytes_eq key k ≡ false) (keys_of es))
        → (bytes_eq key x.0 ≡ false) × AllByRecursion (λ k. bytes_eq key k ≡ false) (keys_of es)
    by_test true y f rest = absurd (cc)
    by_test false y f rest = (y, rest f)

listed_last :
    (key : List ℕ) (l : Listing) (es : Directory) → entry_of es key ≡ None
    → entry_of (es ++ (key, l) ∷ []) key ≡ Some l
listed_last key l [] e =
    ap (λ t. cond t (Some l) None) ((bytes_eq-Decides key key).1 refl)
listed_last key l (x ∷ es) e = by_test (bytes_eq key x.0) e (listed_last key l es)
  where
    by_test :
        (b : Bool) → cond b (Some x.1) (entry_of es key) ≡ None
        → (entry_of es key ≡ None → entry_of (es ++ (key, l) ∷ []) key ≡ Some l)
        → cond b (Some x.1) (entry_of (es ++ (key, l) ∷ []) key) ≡ Some l
    by_test true f rest = absurd (cc)
    by_test false f rest = rest f

same_both : (x y : List ℕ) → bytes_eq x y ≡ bytes_eq y x
same_both x y = sym (number_test x y) ∙ flip (number_of x) (number_of y) ∙ number_test y x

distinct_last :
    (key : List ℕ) (l : Listing) (es : Directory)
    → AllByRecursion (λ k. bytes_eq key k ≡ false) (keys_of es)
    → IsDistinct bytes_eq (keys_of es) → IsDistinct bytes_eq (keys_of (es ++ (key, l) ∷ []))
unfolding IsDistinct
distinct_last key l [] none d = (tt, tt)
distinct_last key l (x ∷ es) none d = (
  subst (AllByRecursion (λ y. bytes_eq x.0 y ≡ false))
      (sym (map-append (λ (e : List ℕ × Listing). e.0) es ((key, l) ∷ [])))
      (all_append (λ y. bytes_eq x.0 y ≡ false) (keys_of es) (key ∷ []) d.0
      (same_both x.0 key ∙ none.0, tt)),
  distinct_last key l es none.1 d.1,
)

module _ (keys : List (List ℕ)) (w : World) (s : System) (m : Mirrors keys w s) (a : ℕ)
    (within : a < w.rack.switches) (active : (switch_of w a).mode ≡ switch.Active) (number : ℕ)
    (next : number ≡ (switch_of w a).last + 1) (key : List ℕ) (is_key : IsKey key)
    (few : number ≤ last_number) where
  abbrev sw : Switch
  sw = switch_of w a

  abbrev mine : core.Core
  mine = s.cores a

  abbrev coded : core.Rack
  coded = rack_code w.rack keys

  abbrev given : List Promotion
  given = w.promotions ++ record { key = key; version = sw.stamps.next } ∷ []

  promoted_also :
      Mirrors keys (record w { promotions = given })
      (record s { promoted = mine.next ∷ s.promoted })
  promoted_also =
      record {
        limits = m.limits;
        named = m.named;
        rack = m.rack;
        place = m.place;
        sent = m.sent;
        clients = m.clients;
        servers = m.servers;
        switches = m.switches;
        controller = m.controller;
        history = m.history;
        fences = m.fences;
        promoted =
            map-append (λ (p : Promotion). p.version) w.promotions
            (record { key = key; version = sw.stamps.next } ∷ [])
            ∙ ap (λ vs. vs ++ sw.stamps.next ∷ []) m.promoted
            ∙ ap (λ v. reverse s.promoted ++ v ∷ []) (sym (m.switches a).core_is.next_is)
            ∙ sym (reverse_onto s.promoted mine.next []);
        lengths = m.lengths;
      }

  abbrev listing : Listing
  listing = new_listing number (home_of sw.rack.servers key) sw.stamps.next

  fresh_is : core.fresh coded (number_of key) mine ≡ entry_code (key, listing)
  fresh_is =
      let f = m.switches a in
      let last : mine.last + 1 ≡ number =
      (let l = f.core_is.last_is in omega (arith, l, next)) in
      let home : coded.home (number_of key) ≡ home_of sw.rack.servers key =
      home_same w.rack keys key ∙ ap (λ (r : Rack). home_of r.servers key) (sym f.rack_is) in
      ap
      (λ n.
      record {
        key = number_of key;
        listing = n;
        base = mine.next;
        completed = mine.next;
        holders = coded.home (number_of key) ∷ [];
        mark = None;
      })
      last
      ∙ ap
      (λ h.
      record {
        key = number_of key;
        listing = number;
        base = mine.next;
        completed = mine.next;
        holders = h ∷ [];
        mark = None;
      })
      home
      ∙ ap
      (λ n.
      record {
        key = number_of key;
        listing = number;
        base = n;
        completed = n;
        holders = home_of sw.rack.servers key ∷ [];
        mark = None;
      })
      f.core_is.next_is

  listed_core :
      entry_of sw.entries key ≡ None → sw.stamps.next ≢ last_number
      → CoreFits w.rack (rules.past_next sw.stamps) (sw.entries ++ (key, listing) ∷ []) number
      (record mine {
        next = mine.next + 1;
        last = mine.last + 1;
        entries = mine.entries ++ core.fresh coded (number_of key) mine ∷ [];
      })
  listed_core none left =
      let f = (m.switches a).core_is in
      let r = ap (λ (x : Rack). home_of x.servers key) (m.switches a).rack_is in
      let below = home_below w.rack key m.limits.servers.0 in
      record {
        next_is = ap (λ n. n + 1) f.next_is;
        count = f.count;
        rows = f.rows;
        entries_is =
            ap (λ es. es ++ core.fresh coded (number_of key) mine ∷ []) f.entries_is
            ∙ ap (λ x. entries_code sw.entries ++ x ∷ []) fresh_is
            ∙ sym (map-append entry_code sw.entries ((key, listing) ∷ []));
        most = omega (arith, left, f.most);
        holders =
            all_append (IsListing w.rack) sw.entries ((key, listing) ∷ []) f.holders
            (((omega arith, (omega (arith, r, below), tt)), refl, is_key, few), tt);
        distinct =
            distinct_last key listing sw.entries (unlisted key sw.entries none) f.distinct;
        last_is = let l = f.last_is in omega (arith, l, next);
      }

  abbrev Promoted_to : System → Type 0
  Promoted_to s' =
      Mirrors keys
      (switch_stepped w a (packet.Command number (packet.Promote key))
      (carry_out sw number (packet.Promote key))).0 s'

  listed_now :
      entry_of sw.entries key ≡ None → sw.stamps.next ≢ last_number
      → Mirrors keys
      (switch_stepped w a (packet.Command number (packet.Promote key))
      (switch.promotes (promoted.Listed, rules.listed_also (core_of sw) key number) sw number)).0
      (system.does (record s { promoted = mine.next ∷ s.promoted }) a
      (record mine {
        next = mine.next + 1;
        last = mine.last + 1;
        entries = mine.entries ++ core.fresh coded (number_of key) mine ∷ [];
      })
      (law.Listed (mine.last + 1)))
  listed_now none left =
      let entries = sw.entries ++ (key, listing) ∷ [] in
      let base : base_of entries key ≡ Some sw.stamps.next =
      ap (option_map (λ (l : Listing). l.base)) (listed_last key listing sw.entries none) in
      let stamps = rules.past_next sw.stamps in
      let now : core.Core = record mine {
        next = mine.next + 1;
        last = mine.last + 1;
        entries = mine.entries ++ core.fresh coded (number_of key) mine ∷ [];
      } in
      let last : mine.last + 1 ≡ number =
      (let l = (m.switches a).core_is.last_is in omega (arith, l, next)) in
      let sw' : Switch = record sw {
        stamps = stamps;
        entries = entries;
        last = number;
        kept = Some (outcome.Listed number);
      } in
      subst
      (λ o.
      Mirrors keys
      (world.reports (world.promoted (with_switch w sw') key o)
      ((node.Controller, packet.CommandAck number (outcome.Listed number)) ∷ [])
      (said.Switch a (did.Applied number (outcome.Listed number)))).0
      (system.does (record s { promoted = mine.next ∷ s.promoted }) a now
      (law.Listed (mine.last + 1))))
      (sym base)
      (subst
      (λ n.
      Mirrors keys
      (record (with_switch w sw') {
        packets =
            w.packets
            ++ (node.Controller, packet.CommandAck number (outcome.Listed number)) ∷ [];
        promotions = given;
      })
      (system.does (record s { promoted = mine.next ∷ s.promoted }) a now (law.Listed n)))
      (sym last)
      (done keys (record w { promotions = given })
      (record s { promoted = mine.next ∷ s.promoted }) promoted_also a within active sw.counts
      stamps
      entries number (outcome.Listed number) now (listed_core none left)
      (m.switches a).counts))

  pub promotes :
      Promoted_to
      (system.does
      (record s {
        promoted =
            core.promotions s.rack (core.entry_of (number_of key) mine.entries) mine s.promoted;
      })
      a (core.promote s.rack (number_of key) (core.entry_of (number_of key) mine.entries) mine)
      (system.promote_outcome s.rack (core.entry_of (number_of key) mine.entries) mine))
  promotes =
      subst
      (λ r.
      Promoted_to
      (system.does
      (record s {
        promoted = core.promotions r (core.entry_of (number_of key) mine.entries) mine s.promoted;
      })
      a (core.promote r (number_of key) (core.entry_of (number_of key) mine.entries) mine)
      (system.promote_outcome r (core.entry_of (number_of key) mine.entries) mine)))
      (sym m.rack)
      (subst
      (λ o.
      Promoted_to
      (system.does (record s { promoted = core.promotions coded o mine s.promoted }) a
      (core.promote coded (number_of key) o mine) (system.promote_outcome coded o mine)))
      (sym (entry_here keys w s m a within key)) (by_case (entry_of sw.entries key) refl))
    where
      f : CoreFits w.rack sw.stamps sw.entries sw.last mine
      f = (m.switches a).core_is

      full_is : (length mine.entries == w.rack.listed) ≡ (length sw.entries == sw.rack.listed)
      full_is =
          ap (λ es. length es == w.rack.listed) f.entries_is
          ∙ ap (λ n. n == w.rack.listed) (length-map sw.entries entry_code)
          ∙ ap (λ (r : Rack). length sw.entries == r.listed) (sym (m.switches a).rack_is)

      spent_is : (mine.next == core.top) ≡ (sw.stamps.next == last_number)
      spent_is = ap (λ n. n == core.top) f.next_is ∙ ap (λ t. sw.stamps.next == t) top_is

      count_is : length sw.entries ≡ length mine.entries
      count_is = sym (ap length f.entries_is ∙ length-map sw.entries entry_code)

      by_tests :
          entry_of sw.entries key ≡ None → (b1 b2 : Bool)
          → (sw.stamps.next == last_number) ≡ b2
          → Mirrors keys
          (switch_stepped w a (packet.Command number (packet.Promote key))
          (switch.promotes
          (cond {A = Promoted × rules.Core} b1
          (promoted.Full (length sw.entries), core_of sw)
          (cond b2 (promoted.NoVersion sw.stamps.next, core_of sw)
          (promoted.Listed, rules.listed_also (core_of sw) key number)))
          sw number)).0
          (system.does
          (record s {
            promoted = cond (not b1 && not b2) (mine.next ∷ s.promoted) s.promoted;
          })
          a
          (cond (not b1 && not b2)
          (record mine {
            next = mine.next + 1;
            last = mine.last + 1;
            entries = mine.entries ++ core.fresh coded (number_of key) mine ∷ [];
          })
          (record mine { last = mine.last + 1 }))
          (cond (not b1 && not b2) (law.Listed (mine.last + 1))
          (cond b1 (law.Full (length mine.entries)) (law.NoVersion mine.next))))
      by_tests none true b2 e2 =
          subst
          (λ n.
          Mirrors keys
          (switch_stepped w a (packet.Command number (packet.Promote key))
          (switch.promotes (promoted.Full (length sw.entries), core_of sw) sw number)).0
          (system.does s a (record mine { last = mine.last + 1 }) (law.Full n)))
          count_is
          (done keys w s m a within active sw.counts sw.stamps sw.entries number
          (outcome.Full (length sw.entries)) (record mine { last = mine.last + 1 })
          (stays keys w s m a within active number next) (m.switches a).counts)
      by_tests none false true e2 =
          subst
          (λ n.
          Mirrors keys
          (switch_stepped w a (packet.Command number (packet.Promote key))
          (switch.promotes (promoted.NoVersion sw.stamps.next, core_of sw) sw number)).0
          (system.does s a (record mine { last = mine.last + 1 }) (law.NoVersion n)))
          (sym f.next_is)
          (done keys w s m a within active sw.counts sw.stamps sw.entries number
          (outcome.NoVersion sw.stamps.next) (record mine { last = mine.last + 1 })
          (stays keys w s m a within active number next) (m.switches a).counts)
      by_tests none false false e2 = listed_now none (eqb-false sw.stamps.next last_number e2)

      by_case :
          (o : Option Listing) → entry_of sw.entries key ≡ o
          → let coded_o = option_map (λ l. entry_code (key, l)) o in
          Mirrors keys
          (switch_stepped w a (packet.Command number (packet.Promote key))
          (switch.promotes (rules.promote_unless o (core_of sw) key number) sw number)).0
          (system.does (record s { promoted = core.promotions coded coded_o mine s.promoted }) a
          (core.promote coded (number_of key) coded_o mine)
          (system.promote_outcome coded coded_o mine))
      by_case (Some l) e =
          done keys w s m a within active sw.counts sw.stamps sw.entries number
          (outcome.Already l.listing) (record mine { last = mine.last + 1 })
          (stays keys w s m a within active number next) (m.switches a).counts
      by_case None e =
          rw (full_is, spent_is)
          (by_tests e (length sw.entries == sw.rack.listed) (sw.stamps.next == last_number) refl)
