-- The whole machine keeps the facts of the law, for the current core, and where that core is.
use Rattle.std.proofs.Common.{subst₂, ap, eqb-true, Contains, length, slice_get, ◌≡◌, ◌≢◌, ℕ, zero}
use Rattle.std.proofs.Common.{suc, ◌+◌, ◌-◌, ◌<◌, ◌≤◌, ◌==◌, ◌&&◌, ◌||◌, not, nat_lt, nat_le, inl}
use Rattle.std.proofs.Common.{inr, Bool, true, false, cond, List, [], ◌∷◌, Option, Some, None, ◌++◌}
use Rattle.std.proofs.Common.{arith, sym, refl, ◌∙◌, subst, eq-eqb, ltb-true, ltb-false}
use Rattle.std.proofs.Common.{slice_index}
use Rattle.std.proofs.lemmas.Bool.{cond-true, cond_both, and_parts, or_parts, not-true, eqb-false}
use Rattle.std.proofs.lemmas.Bool.{leb-false}
use Rattle.std.proofs.lemmas.Option.{slice_get_within, get_or_from_slice_get}
use Rattle.std.proofs.lemmas.List.Elements.{All-contains, All-from_recursion}
use Rattle.std.specs.List.{AllByRecursion, list_any}
use Rattle.peg_protocol.specs.Packet.{What, Promote, Demote, Copy, Seal, FenceKey, Clear, Outcome}
use Rattle.peg_protocol.specs.Packet.{NotListed, Ordered, Holds, Activated, Fenced, NoBase, Cleared}
use Rattle.peg_protocol.specs.Packet.{Packet, Node, Item, item, Read, Write, ToServerRead}
use Rattle.peg_protocol.specs.Packet.{ToServerWrite, ReadReply, WriteReply, CopyOrder, CopyData}
use Rattle.peg_protocol.specs.Packet.{Held, Fence, Void, Command, Ack, Part, Announce, Other}
use Rattle.peg_protocol.specs.Packet.{Client, Switch, Server, Controller}
use Rattle.peg_protocol.specs.Core.{Rack, Core, Entry, entry_of, Stamp, New, Same as Again, Stale}
use Rattle.peg_protocol.specs.Core.{Exhausted, stamp, read_server, write_server, note, noted}
use Rattle.peg_protocol.specs.Core.{raised, reaches, add_holder, open_row, promote, promotions}
use Rattle.peg_protocol.specs.Core.{demote, first_entries, at_one, at_two, top}
use Rattle.peg_protocol.specs.Machine.{World, Pair, Guard, Applied, WriteDid, Takes, Keeps, Voids}
use Rattle.peg_protocol.specs.Machine.{Bars, write_did, raised_to, guarded, applied_fence, newer}
use Rattle.peg_protocol.specs.Machine.{Act, Reads, Writes, id, is_read, is_write, send, request}
use Rattle.peg_protocol.specs.Machine.{began, take_reply, answered}
use Rattle.peg_protocol.specs.System
use Rattle.peg_protocol.specs.System.{System, Mode, Idle, Active, Sealed, Gathered, ground, back}
use Rattle.peg_protocol.specs.System.{post, with_core, noted_core, parts_of, all_below, gathers}
use Rattle.peg_protocol.specs.System.{promote_outcome, demote_outcome, belongs, known_after}
use Rattle.peg_protocol.specs.System.{announces, first_mode, first_epoch, empty_core, Event, Issue}
use Rattle.peg_protocol.specs.System.{Resend, GiveUp, Deliver, Order, Repeat, Tell, Rest, Then, Ask}
use Rattle.peg_protocol.specs.System.{ToPromote, ToDemote, ToCopy, ToFence, ToClear, ToHandOver}
use Rattle.peg_protocol.specs.Handover.{IsSealed}
use Rattle.peg_protocol.specs.Law.{passed, reply_version, HasBase, AtMostBase}
use Rattle.peg_protocol.proofs.Facts.{View, IsEntryOk, IsFence, EntryOk, PairIs, Ok, ItemOk, Ghost}
use Rattle.peg_protocol.proofs.Facts.{view, Kept}
use Rattle.peg_protocol.proofs.Keep.{items_push, Kept-quiet, Kept-send, Kept-send_all}
use Rattle.peg_protocol.proofs.Servers.{Kept-write_takes, Kept-write_keeps, Kept-write_voids, DidIs}
use Rattle.peg_protocol.proofs.Servers.{did_is, Kept-fence_comes, Kept-fence_kept, Kept-copy_comes}
use Rattle.peg_protocol.proofs.Servers.{Kept-read_comes, Kept-copy_from, at_one_same}
use Rattle.peg_protocol.proofs.Notes.{promote_by, demote_by}
use Rattle.peg_protocol.proofs.Switch.{Kept-read_reply, Kept-write_reply, Kept-held}
use Rattle.peg_protocol.proofs.Switch.{Kept-forward_read, Kept-open, fences_base, write_by_kept}
use Rattle.peg_protocol.proofs.Switch.{stamp_is, StampIs}
use Rattle.peg_protocol.proofs.Clients.{Kept-began, Kept-resend, Kept-give_up, Kept-read_answer}
use Rattle.peg_protocol.proofs.Clients.{Kept-write_answer, bounds}
use Rattle.peg_protocol.proofs.Passed.{item_at, passed_at}
use Rattle.peg_protocol.proofs.Counting.{first_length}
use Rattle.peg_protocol.proofs.Directory.{OfKey}
use Rattle.peg_protocol.proofs.Fences.{alive_above}
use Rattle.peg_protocol.proofs.Keys.{first_keys, CommandFits, promote_fits, demote_fits}
use Rattle.peg_protocol.proofs.Keys.{keys-put_alike, plain-noted}
use Rattle.peg_protocol.proofs.Controlled.{Controlled, OrderOk, NotSeal, SealFits, keys_of, Quiet}
use Rattle.peg_protocol.proofs.Controlled.{Controlled-sends, Controlled-ack, Controlled-entries}
use Rattle.peg_protocol.proofs.Controlled.{Controlled-does, Controlled-seal, Controlled-activate}
use Rattle.peg_protocol.proofs.Controlled.{Controlled-order, Controlled-repeat, is_number, settled}
use Rattle.peg_protocol.proofs.Placed.{Placed-sends, current, sealed_for, Placed, Placed-push}
use Rattle.peg_protocol.proofs.Placed.{Placed-core, Placed-seal, Placed-again, Placed-gather}
use Rattle.peg_protocol.proofs.Placed.{Placed-activate, arrives, ModeFits, active_holds, parts_fit}
use Rattle.peg_protocol.proofs.Placed.{ItemFits}

abbrev pub Ruled : System → ℕ → Type 0
Ruled s a = Controlled s.rack.keys s.number s.command s.switch s.epoch s.known s.sent a (s.modes a)
    (s.epochs a) (s.outcomes a) (s.cores a).last (s.cores a).entries

pub record Whole (s : System) : Type 0 where
  pub g : Ghost
  pub holder : ℕ
  pub states : ℕ → Core
  pub targets : ℕ → ℕ
  pub kept : Kept (ground s (s.cores holder)) g
  pub placed : Placed s.modes s.epochs s.cores s.gathered s.sent holder states targets
  pub controlled : Ruled s holder

-- of the active switch a
pub record Live (s : System) (a : ℕ) (g : Ghost) (states : ℕ → Core) (targets : ℕ → ℕ) : Type 0
  where
    pub active : s.modes a ≡ Active
    pub kept : Kept (ground s (s.cores a)) g
    pub placed : Placed s.modes s.epochs s.cores s.gathered s.sent a states targets
    pub controlled : Ruled s a

-- the arguments of the controller's facts, at switch a
module _ (s : System) (a : ℕ) (r : Ruled s a) where
  ruled_sends : (is : List Item) →
      AllByRecursion (OrderOk r.commands r.results s.number r.limit) is →
      Ruled (record s { sent = s.sent ++ is }) a
  ruled_sends is ok = Controlled-sends s.rack.keys s.number s.command s.switch s.epoch s.known
      s.sent a (s.modes a) (s.epochs a) (s.outcomes a) (s.cores a).last (s.cores a).entries r is ok

  ruled_ack : s.modes a ≡ Active →
      Ruled (post s (item Controller (Ack (s.cores a).last (s.outcomes a)))) a
  ruled_ack on = Controlled-ack s.rack.keys s.number s.command s.switch s.epoch s.known s.sent a
      (s.modes a) (s.epochs a) (s.outcomes a) (s.cores a).last (s.cores a).entries r on

-- an entry that is kept has its key
of_key : (home : ℕ → ℕ) (v : View) (k : ℕ) (o : Option Entry) → EntryOk home v k o → OfKey k o
of_key home v k None h = tt
of_key home v k (Some e) h = h.key

noted_key : (k home s u : ℕ) (e : Entry) → e.key ≡ k → OfKey k (noted home s u e)
noted_key k home s u e is =
    cond_both (s == home && reaches e.mark u) None (Some (raised s u e)) (OfKey k)
    (λ y. tt)
    (λ n. cond_both (nat_lt e.completed u) (record e { completed = u; holders = s ∷ [] })
    (cond (u == e.completed) (record e { holders = add_holder s e.holders }) e) (λ f. f.key ≡ k)
    (λ y. is)
    (λ n. cond_both (u == e.completed) (record e { holders = add_holder s e.holders }) e
    (λ f. f.key ≡ k) (λ y. is) (λ n. is)))

pub live : (s : System) (a : ℕ) (h : Whole s) → s.modes a ≡ Active → Live s a h.g h.states h.targets
live s a h active =
    let e : a ≡ h.holder =
    active_holds s.modes s.epochs s.cores s.gathered s.sent h.holder h.states h.targets h.placed
    a active in
    record {
      active = active;
      kept = subst (λ (b : ℕ). Kept (ground s (s.cores b)) h.g) (sym e) h.kept;
      placed = subst
          (λ (b : ℕ). Placed s.modes s.epochs s.cores s.gathered s.sent b h.states h.targets)
          (sym e) h.placed;
      controlled = subst (Ruled s) (sym e) h.controlled;
    }

module _ (s : System) (a : ℕ) (g : Ghost) (states : ℕ → Core) (targets : ℕ → ℕ)
    (h : Live s a g states targets) where
  still : Whole s
  still = record {
    g = g;
    holder = a;
    states = states;
    targets = targets;
    kept = h.kept;
    placed = h.placed;
    controlled = h.controlled;
  }

  -- the active switch sends a packet
  sends : (i : Item) → Kept (ground (post s i) (s.cores a)) g →
      ItemFits (IsSealed (s.modes a)) (s.epochs a) s.epochs states targets i → Ruled (post s i) a →
      Whole (post s i)
  sends i k f r = record {
    g = g;
    holder = a;
    states = states;
    targets = targets;
    kept = k;
    placed =
        Placed-push s.modes s.epochs s.cores s.gathered s.sent a states targets h.placed i f;
    controlled = r;
  }

  -- other entries, with the same keys listed and without a mark
  same_keys : (core : Core) → core.last ≡ (s.cores a).last →
      ((k : ℕ) → keys_of (s.cores a).entries k ≡ keys_of core.entries k)
      → Controlled s.rack.keys s.number s.command s.switch s.epoch s.known s.sent a (s.modes a)
      (s.epochs a) (s.outcomes a) core.last core.entries
  same_keys core last same =
      subst (λ (n : ℕ). Controlled s.rack.keys s.number s.command s.switch s.epoch s.known s.sent a
      (s.modes a) (s.epochs a) (s.outcomes a) n core.entries) (sym last)
      (Controlled-entries s.rack.keys s.number s.command s.switch s.epoch s.known s.sent a
      (s.modes a) (s.epochs a) (s.outcomes a) (s.cores a).last (s.cores a).entries h.controlled
      core.entries same)

  -- the active switch has another core
  changes : (core : Core) (g' : Ghost) → Kept (ground s core) g'
      → Controlled s.rack.keys s.number s.command s.switch s.epoch s.known s.sent a (s.modes a)
      (s.epochs a) (s.outcomes a) core.last core.entries → Whole (with_core s a core)
  changes core g' k r = record {
    g = g';
    holder = a;
    states = states;
    targets = targets;
    kept = subst (λ (c : Core). Kept (ground s c) g') (sym (at_one_same s.cores a core)) k;
    placed = Placed-core s.modes s.epochs s.cores s.gathered s.sent a states targets h.placed a core
        h.active;
    controlled = subst
        (λ (c : Core). Controlled s.rack.keys s.number s.command s.switch s.epoch s.known s.sent a
        (s.modes a) (s.epochs a) (s.outcomes a) c.last c.entries)
        (sym (at_one_same s.cores a core)) r;
  }

-- a packet more, that is no part
more : (s : System) (i : Item) (h : Whole s) →
    ItemOk s.rack.home (view (ground s (s.cores h.holder)) h.g) i
    → ItemFits (IsSealed (s.modes h.holder)) (s.epochs h.holder) s.epochs h.states h.targets i
    → OrderOk h.controlled.commands h.controlled.results s.number h.controlled.limit i →
    Whole (post s i)
more s i h ok f q = record {
  g = h.g;
  holder = h.holder;
  states = h.states;
  targets = h.targets;
  kept = Kept-send (ground s (s.cores h.holder)) h.g i h.kept ok;
  placed = Placed-push s.modes s.epochs s.cores s.gathered s.sent h.holder h.states h.targets
      h.placed i f;
  controlled = ruled_sends s h.holder h.controlled (i ∷ []) (q, tt);
}

-- the active switch does a command, and acknowledges it
does : (s : System) (a : ℕ) (g : Ghost) (states : ℕ → Core) (targets : ℕ → ℕ) → s.modes a ≡ Active →
    Placed s.modes s.epochs s.cores s.gathered s.sent a states targets
    → (core : Core) (outcome : Outcome) → Kept (ground s core) g
    → Controlled s.rack.keys s.number s.command s.switch s.epoch s.known
    (s.sent ++ item Controller (Ack core.last outcome) ∷ []) a (s.modes a) (s.epochs a) outcome
    core.last core.entries
    → Whole (System.does s a core outcome)
does s a g states targets active placed core outcome k r =
    let p = Placed-core s.modes s.epochs s.cores s.gathered s.sent a states targets placed a core
    active in
    record {
      g = g;
      holder = a;
      states = states;
      targets = targets;
      kept = subst (λ (c : Core). Kept (ground (System.does s a core outcome) c) g)
          (sym (at_one_same s.cores a core))
          (Kept-send (ground s core) g (item Controller (Ack core.last outcome)) k tt);
      placed = Placed-push s.modes s.epochs (at_one s.cores a core) s.gathered s.sent a states
          targets p (item Controller (Ack core.last outcome)) tt;
      controlled = subst₂
          (λ (o : Outcome) (c : Core). Controlled s.rack.keys s.number s.command s.switch s.epoch
          s.known (s.sent ++ item Controller (Ack core.last outcome) ∷ []) a (s.modes a)
          (s.epochs a) o c.last c.entries)
          (sym (at_one_same s.outcomes a outcome)) (sym (at_one_same s.cores a core)) r;
    }

-- the pending command came to the active switch
record Came (s : System) (a : ℕ) (r : Ruled s a) (n : ℕ) (what : What) : Type 0 where
  pub next : n ≡ (s.cores a).last + 1
  pub came : (1 ≤ n) × (n ≤ s.number) × (what ≡ r.commands n)

fitting : (s : System) (a : ℕ) (g : Ghost) (states : ℕ → Core) (targets : ℕ → ℕ)
    (h : Live s a g states targets) (n : ℕ) (what : What) → Came s a h.controlled n what →
    NotSeal what
    → (core : Core) (o : Outcome) →
    (s.number ≡ (s.cores a).last + 1 → CommandFits what s.number (s.cores a) core o)
    → Controlled s.rack.keys s.number s.command s.switch s.epoch s.known
    (s.sent ++ item Controller (Ack core.last o) ∷ []) a (s.modes a) (s.epochs a) o core.last
    core.entries
fitting s a g states targets h n what came plain_one core o f =
    let r = h.controlled in
    let e = is_number s.rack.keys s.number s.command s.switch s.epoch s.known s.sent a (s.modes a)
    (s.epochs a) (s.outcomes a) (s.cores a).last (s.cores a).entries r h.active n what came.next
    came.came in
    let fits = f e in
    subst (λ (l : ℕ). Controlled s.rack.keys s.number s.command s.switch s.epoch s.known
    (s.sent ++ item Controller (Ack l o) ∷ []) a (s.modes a) (s.epochs a) o l core.entries)
    (sym fits.last)
    (Controlled-does s.rack.keys s.number s.command s.switch s.epoch s.known s.sent a (s.modes a)
    (s.epochs a) (s.outcomes a) (s.cores a).last (s.cores a).entries r h.active n what came.next
    came.came
    plain_one o core.entries fits.fits (fits.keys s.known) (fits.fresh s.known))

-- the first holder isn't one that isn't a holder
first_other : (ss : List ℕ) (target : ℕ) → 0 < length ss → list_any (λ t. t == target) ss ≡ false →
    target ≢ slice_index ss 0
first_other [] target l n e = omega (arith, l)
first_other (s ∷ ss) target l n e =
    eqb-false s target (or_parts (s == target) (list_any (λ t. t == target) ss) n).0 (sym e)

copies_by : (s : System) (a : ℕ) (g : Ghost) (states : ℕ → Core) (targets : ℕ → ℕ)
    (h : Live s a g states targets)
    → (n target k : ℕ) (o : Option Entry) → entry_of k (s.cores a).entries ≡ o →
    Came s a h.controlled n (Copy target k) → Whole (System.copies_by s a target k o)
copies_by s a g states targets h n target k None is came =
    let core' = record (s.cores a) { last = (s.cores a).last + 1 } in
    does s a g states targets h.active h.placed core' NotListed h.kept
    (fitting s a g states targets h n (Copy target k) came tt core' NotListed
    (λ e. record { last = refl; fits = refl; keys = λ known x. x; fresh = λ known x. tt }))
copies_by s a g states targets h n target k (Some e) is came =
    let core' = record (s.cores a) { last = (s.cores a).last + 1 } in
    let t = slice_index e.holders 0 in
    let i = item (Server t) (CopyOrder a target k) in
    cond_both (list_any (λ t. t == target) e.holders) (System.does s a core' Holds)
    (System.does (post s i) a core' (Ordered t)) Whole
    (λ y. does s a g states targets h.active h.placed core' Holds h.kept
    (fitting s a g states targets h n (Copy target k) came tt core' Holds
    (λ e. record { last = refl; fits = refl; keys = λ known x. x; fresh = λ known x. tt })))
    (λ z.
    let ok : IsEntryOk s.rack.home (view (ground s (s.cores a)) g) k e =
    subst (EntryOk s.rack.home (view (ground s (s.cores a)) g) k) is (h.kept.entries k) in
    let apart : target ≢ t = first_other e.holders target ok.some z in
    let k' = Kept-send (ground s (s.cores a)) g i h.kept tt in
    let p' = Placed-push s.modes s.epochs s.cores s.gathered s.sent a states targets h.placed i tt
    in
    let r' : Ruled (post s i) a = record {
      commands = h.controlled.commands;
      results = h.controlled.results;
      limit = h.controlled.limit;
      items = items_push
          (OrderOk h.controlled.commands h.controlled.results s.number h.controlled.limit) s.sent i
          h.controlled.items apart;
      fits = h.controlled.fits;
      started = h.controlled.started;
      outcome_is = h.controlled.outcome_is;
      taken = h.controlled.taken;
      distinct = h.controlled.distinct;
      phase = h.controlled.phase;
    } in
    let h' : Live (post s i) a g states targets =
    record { active = h.active; kept = k'; placed = p'; controlled = r' } in
    does (post s i) a g states targets h.active p' core' (Ordered t) k'
    (fitting (post s i) a g states targets h' n (Copy target k)
    (record { next = came.next; came = came.came }) tt core' (Ordered t)
    (λ e. record { last = refl; fits = refl; keys = λ known x. x; fresh = λ known x. tt })))

-- a key's Fence is sent to its home
fences_by : (s : System) (a : ℕ) (g : Ghost) (states : ℕ → Core) (targets : ℕ → ℕ)
    (h : Live s a g states targets)
    → (n k : ℕ) (o : Option Entry) → entry_of k (s.cores a).entries ≡ o →
    Came s a h.controlled n (FenceKey k) → Whole (System.fences_by s a k o)
fences_by s a g states targets h n k None is came =
    let core' = record (s.cores a) { last = (s.cores a).last + 1 } in
    does s a g states targets h.active h.placed core' NotListed h.kept
    (fitting s a g states targets h n (FenceKey k) came tt core' NotListed
    (λ e. record { last = refl; fits = refl; keys = λ known x. x; fresh = λ known x. tt }))
fences_by s a g states targets h n k (Some e) is came =
    let core' = record (s.cores a) { last = (s.cores a).last + 1 } in
    let t = s.rack.home k in
    let i = item (Server t) (Fence e.base a k) in
    let v = view (ground s (s.cores a)) g in
    cond_both (e.base == 0) (System.does s a core' NoBase)
    (System.does (post s i) a core' (Fenced e.base)) Whole
    (λ y. does s a g states targets h.active h.placed core' NoBase h.kept
    (fitting s a g states targets h n (FenceKey k) came tt core' NoBase
    (λ e. record { last = refl; fits = refl; keys = λ known x. x; fresh = λ known x. tt })))
    (λ z.
    let ok : IsEntryOk s.rack.home v k e = subst (EntryOk s.rack.home v k) is (h.kept.entries k) in
    let fence : IsFence s.rack.home v k e.base = record {
      least = let ne : e.base ≢ 0 = eqb-false e.base 0 z in omega (arith, ne);
      most = omega (arith, ok.base, ok.most);
      is = ok.is;
      due = record {
        alive = alive_above s.fences k e.base
            (fences_base s.rack.home v k e is s.fences h.kept.fences);
        due = inr (subst (λ (o : Option Entry). HasBase o e.base) (sym is) refl);
        most = subst (λ (o : Option Entry). AtMostBase o e.base) (sym is) (omega arith);
      };
    } in
    let k' = Kept-send (ground s (s.cores a)) g i h.kept (record { fence = fence; at = refl }) in
    let p' = Placed-push s.modes s.epochs s.cores s.gathered s.sent a states targets h.placed i tt
    in
    let r' : Ruled (post s i) a = record {
      commands = h.controlled.commands;
      results = h.controlled.results;
      limit = h.controlled.limit;
      items = items_push
          (OrderOk h.controlled.commands h.controlled.results s.number h.controlled.limit) s.sent i
          h.controlled.items tt;
      fits = h.controlled.fits;
      started = h.controlled.started;
      outcome_is = h.controlled.outcome_is;
      taken = h.controlled.taken;
      distinct = h.controlled.distinct;
      phase = h.controlled.phase;
    } in
    let h' : Live (post s i) a g states targets =
    record { active = h.active; kept = k'; placed = p'; controlled = r' } in
    does (post s i) a g states targets h.active p' core' (Fenced e.base) k'
    (fitting (post s i) a g states targets h' n (FenceKey k)
    (record { next = came.next; came = came.came }) tt core' (Fenced e.base)
    (λ e. record { last = refl; fits = refl; keys = λ known x. x; fresh = λ known x. tt })))

seals : (s : System) (a : ℕ) (g : Ghost) (states : ℕ → Core) (targets : ℕ → ℕ)
    (h : Live s a g states targets)
    → (target epoch number : ℕ) → target ≢ a → epoch ≡ s.epochs a + 1 →
    Came s a h.controlled number (Seal target epoch) → Whole (System.seals s a target number)
seals s a g states targets h target epoch number apart next came =
    let core' = record (s.cores a) { last = number } in
    let e = s.epochs a + 1 in
    let r = Controlled-seal s.rack.keys s.number s.command s.switch s.epoch s.known s.sent a
    (s.modes a) (s.epochs a) (s.outcomes a) (s.cores a).last (s.cores a).entries h.controlled
    h.active number (Seal target epoch) came.next came.came
    target (ap (λ x. Seal target x) next) (s.outcomes a) in
    let r' = Controlled-sends s.rack.keys s.number s.command s.switch s.epoch s.known s.sent a
    (Sealed target) (s.epochs a) (s.outcomes a) ((s.cores a).last + 1) (s.cores a).entries r
    (parts_of target e (s.rack.parts core') core' (s.rack.parts core'))
    (parts_fit (OrderOk r.commands r.results s.number r.limit) target e (s.rack.parts core') core'
    (λ i. tt) (s.rack.parts core')) in
    record {
      g = g;
      holder = a;
      states = at_one states e core';
      targets = at_one targets e target;
      kept = subst (λ (c : Core). Kept (ground (System.seals s a target number) c) g)
          (sym (at_one_same s.cores a core'))
          (Kept-send_all (ground s core') g
          (parts_of target e (s.rack.parts core') core' (s.rack.parts core'))
          (parts_fit (ItemOk s.rack.home (view (ground s core') g)) target e (s.rack.parts core')
          core' (λ i. tt) (s.rack.parts core')) h.kept);
      placed = Placed-seal s.modes s.epochs s.cores s.gathered s.sent a states targets h.placed
          h.active target (s.rack.parts core') (s.rack.parts core') core' apart;
      controlled = subst₂
          (λ (m : Mode) (c : Core). Controlled s.rack.keys s.number s.command s.switch s.epoch
          s.known (s.sent ++ parts_of target e (s.rack.parts core') core' (s.rack.parts core'))
          a m (s.epochs a) (s.outcomes a) c.last c.entries)
          (sym (at_one_same s.modes a (Sealed target))) (sym (at_one_same s.cores a core'))
          (subst (λ (l : ℕ). Controlled s.rack.keys s.number s.command s.switch s.epoch s.known
          (s.sent ++ parts_of target e (s.rack.parts core') core' (s.rack.parts core')) a
          (Sealed target) (s.epochs a) (s.outcomes a) l (s.cores a).entries) (sym came.next)
          r');
    }

executes : (s : System) (a : ℕ) (g : Ghost) (states : ℕ → Core) (targets : ℕ → ℕ)
    (h : Live s a g states targets)
    → (number : ℕ) (what : What) → Came s a h.controlled number what →
    Whole (System.executes s a number what)
executes s a g states targets h number (Promote k) came =
    let o = entry_of k (s.cores a).entries in
    let core' = promote s.rack k o (s.cores a) in
    let r = promote_outcome s.rack o (s.cores a) in
    let p = promote_by (ground s (s.cores a)) g k o refl h.kept in
    does (record s { promoted = promotions s.rack o (s.cores a) s.promoted }) a p.0 states targets
    h.active h.placed core' r p.1
    (fitting s a g states targets h number (Promote k) came tt core' r
    (λ e. promote_fits s.rack k s.number (s.cores a) o refl e))
executes s a g states targets h number (Demote k) came =
    let o = entry_of k (s.cores a).entries in
    let core' = demote k o (s.cores a) in
    let r = demote_outcome (s.cores a).next o in
    does s a g states targets h.active h.placed core' r
    (demote_by (ground s (s.cores a)) g k o refl h.kept)
    (fitting s a g states targets h number (Demote k) came tt core' r
    (λ e. demote_fits k s.number (s.cores a) o refl
    (of_key s.rack.home (view (ground s (s.cores a)) g) k o (h.kept.entries k))))
executes s a g states targets h number (Copy target k) came =
    copies_by s a g states targets h number target k (entry_of k (s.cores a).entries) refl came
executes s a g states targets h number Clear came =
    let core' = record (s.cores a) { last = (s.cores a).last + 1 } in
    does s a g states targets h.active h.placed core' Cleared h.kept
    (fitting s a g states targets h number Clear came tt core' Cleared
    (λ e. record { last = refl; fits = refl; keys = λ known x. x; fresh = λ known x. tt }))
executes s a g states targets h number (FenceKey k) came =
    fences_by s a g states targets h number k (entry_of k (s.cores a).entries) refl came
executes s a g states targets h number (Seal target epoch) came =
    cond_both (not (target == a) && epoch == s.epochs a + 1) (System.seals s a target number) s
    Whole
    (λ y.
    let p = and_parts (not (target == a)) (epoch == s.epochs a + 1) y in
    seals s a g states targets h target epoch number
    (eqb-false target a (not-true (target == a) p.0)) (eqb-true epoch (s.epochs a + 1) p.1)
    came)
    (λ n. still s a g states targets h)

commands : (s : System) (a : ℕ) (g : Ghost) (states : ℕ → Core) (targets : ℕ → ℕ)
    (h : Live s a g states targets)
    → (number : ℕ) (what : What) →
    (1 ≤ number) × (number ≤ s.number) × (what ≡ h.controlled.commands number) →
    Whole (System.commands s a number what)
commands s a g states targets h number what came =
    let i = item Controller (Ack number (s.outcomes a)) in
    cond_both (number == (s.cores a).last + 1) (System.executes s a number what)
    (cond (number == (s.cores a).last) (post s i) s) Whole
    (λ y. executes s a g states targets h number what
    (record { next = eqb-true number ((s.cores a).last + 1) y; came = came }))
    (λ n. cond_both (number == (s.cores a).last) (post s i) s Whole
    (λ y.
    let e : (s.cores a).last ≡ number = sym (eqb-true number (s.cores a).last y) in
    sends s a g states targets h i (Kept-send (ground s (s.cores a)) g i h.kept tt) tt
    (subst (λ (x : ℕ). Ruled (post s (item Controller (Ack x (s.outcomes a)))) a) e
    (ruled_ack s a h.controlled h.active)))
    (λ n. still s a g states targets h))

writes_by : (s : System) (a : ℕ) (g : Ghost) (states : ℕ → Core) (targets : ℕ → ℕ)
    (h : Live s a g states targets)
    → (c n k : ℕ) (x : Option ℕ) (pick : ℕ) (st : Stamp) → StampIs (s.cores a) c n st →
    ItemOk s.rack.home (view (ground s (s.cores a)) g) (item (Switch a) (Write c n k x))
    → Whole (System.writes_by s a c n k x pick st)
writes_by s a g states targets h c n k x pick (New u) is i =
    let r = write_by_kept (ground s (s.cores a)) g a c n k x pick (New u) is i h.kept in
    let core' = record (s.cores a) {
      next = (s.cores a).next + 1;
      rows =
          at_one (s.cores a).rows c (record { seq = n; version = (s.cores a).next });
    } in
    let p = Placed-core s.modes s.epochs s.cores s.gathered s.sent a states targets h.placed a core'
    h.active in
    let y = item (Server (write_server s.rack k u pick (entry_of k (s.cores a).entries)))
    (ToServerWrite c n u a k x) in
    record {
      g = r.0;
      holder = a;
      states = states;
      targets = targets;
      kept = subst (λ (d : Core). Kept (ground (System.writes_by s a c n k x pick (New u)) d) r.0)
          (sym (at_one_same s.cores a core')) r.1;
      placed = Placed-push s.modes s.epochs (at_one s.cores a core') s.gathered s.sent a states
          targets p y tt;
      controlled = subst
          (λ (d : Core). Controlled s.rack.keys s.number s.command s.switch s.epoch s.known
          (s.sent ++ y ∷ []) a (s.modes a) (s.epochs a) (s.outcomes a) d.last d.entries)
          (sym (at_one_same s.cores a core'))
          (ruled_sends s a h.controlled (y ∷ []) (tt, tt));
    }
writes_by s a g states targets h c n k x pick (Again u) is i =
    let r = write_by_kept (ground s (s.cores a)) g a c n k x pick (Again u) is i h.kept in
    let y = item (Server (write_server s.rack k u pick (entry_of k (s.cores a).entries)))
    (ToServerWrite c n u a k x) in
    record {
      g = r.0;
      holder = a;
      states = states;
      targets = targets;
      kept = r.1;
      placed = Placed-push s.modes s.epochs s.cores s.gathered s.sent a states targets h.placed y
          tt;
      controlled = ruled_sends s a h.controlled (y ∷ []) (tt, tt);
    }
writes_by s a g states targets h c n k x pick Stale is i = still s a g states targets h
writes_by s a g states targets h c n k x pick Exhausted is i = still s a g states targets h

-- a reply is noted and sent on
notes_and : (s : System) (a : ℕ) (g : Ghost) (states : ℕ → Core) (targets : ℕ → ℕ) →
    Live s a g states targets
    → (core : Core) (c : ℕ) (p : Packet) → Kept (send (ground s core) (item (Client c) p)) g
    → Controlled s.rack.keys s.number s.command s.switch s.epoch s.known s.sent a (s.modes a)
    (s.epochs a) (s.outcomes a) core.last core.entries →
    Whole (post (with_core s a core) (item (Client c) p))
notes_and s a g states targets h core c p k r =
    let q = Placed-core s.modes s.epochs s.cores s.gathered s.sent a states targets h.placed a core
    h.active in
    let y = item (Client c) p in
    record {
      g = g;
      holder = a;
      states = states;
      targets = targets;
      kept = subst (λ (d : Core). Kept (send (ground s d) y) g) (sym (at_one_same s.cores a core))
          k;
      placed = Placed-push s.modes s.epochs (at_one s.cores a core) s.gathered s.sent a states
          targets q y tt;
      controlled = subst
          (λ (d : Core). Controlled s.rack.keys s.number s.command s.switch s.epoch s.known
          (s.sent ++ y ∷ []) a (s.modes a) (s.epochs a) (s.outcomes a) d.last d.entries)
          (sym (at_one_same s.cores a core))
          (Controlled-sends s.rack.keys s.number s.command s.switch s.epoch s.known s.sent a
          (s.modes a) (s.epochs a) (s.outcomes a) core.last core.entries r (y ∷ []) (tt, tt));
    }

-- a reply that is noted leaves the same keys listed without a mark
noted_ruled : (s : System) (a : ℕ) (g : Ghost) (states : ℕ → Core) (targets : ℕ → ℕ)
    (h : Live s a g states targets) (t u k : ℕ) (o : Option Entry) →
    entry_of k (s.cores a).entries ≡ o
    → Controlled s.rack.keys s.number s.command s.switch s.epoch s.known s.sent a (s.modes a)
    (s.epochs a) (s.outcomes a) (note s.rack t u k o (s.cores a)).last
    (note s.rack t u k o (s.cores a)).entries
noted_ruled s a g states targets h t u k None is = h.controlled
noted_ruled s a g states targets h t u k (Some e) is =
    let f = of_key s.rack.home (view (ground s (s.cores a)) g) k (entry_of k (s.cores a).entries)
    (h.kept.entries k) in
    let o = noted (s.rack.home k) t u e in
    same_keys s a g states targets h (note s.rack t u k (Some e) (s.cores a)) refl
    (keys-put_alike k o (s.cores a).entries e
    (noted_key k (s.rack.home k) t u e (subst (OfKey k) is f)) is
    (plain-noted (s.rack.home k) t u e))

active_takes : (s : System) (a : ℕ) (g : Ghost) (states : ℕ → Core) (targets : ℕ → ℕ)
    (h : Live s a g states targets)
    → (pick : ℕ) (p : Packet) → Contains s.sent (item (Switch a) p) →
    ItemOk s.rack.home (view (ground s (s.cores a)) g) (item (Switch a) p) →
    OrderOk h.controlled.commands h.controlled.results s.number h.controlled.limit
    (item (Switch a) p)
    → Whole (System.active_takes s a pick p)
active_takes s a g states targets h pick (Read c n k) came i q =
    let y = item (Server (read_server s.rack k pick (entry_of k (s.cores a).entries)))
    (ToServerRead c n a k) in
    sends s a g states targets h y
    (Kept-forward_read (ground s (s.cores a)) g a c n k pick i h.kept) tt
    (ruled_sends s a h.controlled (y ∷ []) (tt, tt))
active_takes s a g states targets h pick (Write c n k x) came i q =
    writes_by s a g states targets h c n k x pick (stamp (s.cores a) c n) (stamp_is (s.cores a) c n)
    i
active_takes s a g states targets h pick (ReadReply c n u t b k o) came i q =
    notes_and s a g states targets h (noted_core s a t u k) c (ReadReply c n u t b k o)
    (Kept-read_reply (ground s (s.cores a)) g b c n u t k o i h.kept)
    (noted_ruled s a g states targets h t u k (entry_of k (s.cores a).entries) refl)
active_takes s a g states targets h pick (WriteReply c n u t b k) came i q =
    notes_and s a g states targets h (noted_core s a t u k) c (WriteReply c n u t b k)
    (Kept-write_reply (ground s (s.cores a)) g b c n u t k i h.kept)
    (noted_ruled s a g states targets h t u k (entry_of k (s.cores a).entries) refl)
active_takes s a g states targets h pick (Held t u k) came i q =
    changes s a g states targets h (noted_core s a t u k) g
    (Kept-held (ground s (s.cores a)) g a u t k i h.kept)
    (noted_ruled s a g states targets h t u k (entry_of k (s.cores a).entries) refl)
active_takes s a g states targets h pick (Void c n u t b k) came i q =
    changes s a g states targets h (open_row (s.cores a) c n u) g
    (Kept-open (ground s (s.cores a)) g (Switch a) c n u t b k i came h.kept) h.controlled
active_takes s a g states targets h pick (Command number what) came i q =
    commands s a g states targets h number what q
active_takes s a g states targets h pick (Part epoch j count core) came i q =
    let ack = item Controller (Ack (s.cores a).last (s.outcomes a)) in
    cond_both (epoch == s.epochs a && nat_lt 0 (s.cores a).last) (post s ack) s Whole
    (λ y. sends s a g states targets h ack (Kept-send (ground s (s.cores a)) g ack h.kept tt) tt
    (ruled_ack s a h.controlled h.active))
    (λ n. still s a g states targets h)
active_takes s a g states targets h pick p came i q = still s a g states targets h

-- a switch that isn't active
takes_part : (s : System) (b epoch i count : ℕ) (core : Core) → Whole s → s.modes b ≢ Active →
    Contains s.sent (item (Switch b) (Part epoch i count core)) →
    Whole (System.takes_part s b epoch i count core)
takes_part s b epoch i count core h passive came =
    let has = gathers (s.gathered b) epoch i in
    let ack = item Controller (Ack core.last (Activated epoch)) in
    let s1 = record s {
      modes = at_one s.modes b Active;
      epochs = at_one s.epochs b epoch;
      cores = at_one s.cores b core;
      outcomes = at_one s.outcomes b (Activated epoch);
      gathered = at_one s.gathered b (record { epoch = 0; has = λ j. false });
    } in
    let s2 = record s { gathered = at_one s.gathered b (record { epoch = epoch; has = has }) } in
    cond_both (nat_le epoch (s.epochs b) || nat_lt epoch (s.gathered b).epoch) s
    (cond (all_below has count) (post s1 ack) s2) Whole
    (λ y. h)
    (λ n.
    let l : s.epochs b < epoch =
    leb-false epoch (s.epochs b)
    (or_parts (nat_le epoch (s.epochs b)) (nat_lt epoch (s.gathered b).epoch) n).0 in
    cond_both (all_below has count) (post s1 ack) s2 Whole
    (λ y.
    let p = Placed-activate s.modes s.epochs s.cores s.gathered s.sent h.holder h.states h.targets
    h.placed b epoch i count core l came passive in
    let same : core ≡ s.cores h.holder =
    arrives s.modes s.epochs s.cores s.gathered s.sent h.holder h.states h.targets h.placed b
    epoch i count core l came in
    record {
      g = h.g;
      holder = b;
      states = h.states;
      targets = h.targets;
      kept = subst (λ (c : Core). Kept (send (ground s c) ack) h.g)
          (sym same ∙ sym (at_one_same s.cores b core))
          (Kept-send (ground s (s.cores h.holder)) h.g ack h.kept tt);
      placed = Placed-push s1.modes s1.epochs s1.cores s1.gathered s.sent b h.states h.targets p ack
          tt;
      controlled =
          let now = current s.modes s.epochs s.cores s.gathered s.sent h.holder h.states h.targets
          h.placed b epoch i count core l came in
          let r0 = Controlled-activate s.rack.keys s.number s.command s.switch s.epoch s.known
          s.sent h.holder (s.modes h.holder) (s.epochs h.holder) (s.outcomes h.holder)
          (s.cores h.holder).last (s.cores h.holder).entries h.controlled b epoch
          (sealed_for s.modes s.epochs s.cores s.gathered s.sent h.holder h.states h.targets
          h.placed b epoch i count core l came) now.1 in
          let r1 = subst
          (λ (c : Core). Controlled s.rack.keys s.number s.command s.switch s.epoch s.known
          (s.sent ++ item Controller (Ack c.last (Activated epoch)) ∷ []) b Active epoch
          (Activated epoch) c.last c.entries) (sym same) r0 in
          let r2 = subst₂
          (λ (m : Mode) (q : ℕ). Controlled s.rack.keys s.number s.command s.switch s.epoch
          s.known (s.sent ++ ack ∷ []) b m q (Activated epoch) core.last core.entries)
          (sym (at_one_same s.modes b Active)) (sym (at_one_same s.epochs b epoch)) r1
          in
          subst₂ (λ (o : Outcome) (c : Core). Controlled s.rack.keys s.number s.command s.switch
          s.epoch s.known (s.sent ++ ack ∷ []) b (at_one s.modes b Active b)
          (at_one s.epochs b epoch b) o c.last c.entries)
          (sym (at_one_same s.outcomes b (Activated epoch))) (sym (at_one_same s.cores b core)) r2;
    })
    (λ n. record {
      g = h.g;
      holder = h.holder;
      states = h.states;
      targets = h.targets;
      kept = h.kept;
      placed = Placed-gather s.modes s.epochs s.cores s.gathered s.sent h.holder h.states h.targets
          h.placed b epoch i count core l came;
      controlled = h.controlled;
    }))

sealed_takes : (s : System) (a target : ℕ) (p : Packet) → Whole s → s.modes a ≡ Sealed target →
    Contains s.sent (item (Switch a) p) → Whole (System.sealed_takes s a target p)
sealed_takes s a target (Command number what) h sealed came =
    let e = s.epochs a + 1 in
    cond_both (number == (s.cores a).last) (System.sends_parts s target e (s.cores a)) s Whole
    (λ y. record {
      g = h.g;
      holder = h.holder;
      states = h.states;
      targets = h.targets;
      kept = Kept-send_all (ground s (s.cores h.holder)) h.g
          (parts_of target e (s.rack.parts (s.cores a)) (s.cores a) (s.rack.parts (s.cores a)))
          (parts_fit (ItemOk s.rack.home (view (ground s (s.cores h.holder)) h.g)) target e
          (s.rack.parts (s.cores a)) (s.cores a) (λ i. tt) (s.rack.parts (s.cores a))) h.kept;
      placed = Placed-again s.modes s.epochs s.cores s.gathered s.sent h.holder h.states h.targets
          h.placed a target (s.rack.parts (s.cores a)) (s.rack.parts (s.cores a)) sealed;
      controlled = ruled_sends s h.holder h.controlled
          (parts_of target e (s.rack.parts (s.cores a)) (s.cores a) (s.rack.parts (s.cores a)))
          (parts_fit
          (OrderOk h.controlled.commands h.controlled.results s.number h.controlled.limit)
          target e (s.rack.parts (s.cores a)) (s.cores a) (λ i. tt)
          (s.rack.parts (s.cores a)));
    })
    (λ n. h)
sealed_takes s a target (Part epoch i count core) h sealed came =
    takes_part s a epoch i count core h (λ e. let x : Active ≡ Sealed target = sym e ∙ sealed in cc)
    came
sealed_takes s a target p h sealed came = h

idle_takes : (s : System) (a : ℕ) (p : Packet) → Whole s → s.modes a ≡ Idle →
    Contains s.sent (item (Switch a) p) → Whole (System.idle_takes s a p)
idle_takes s a (Part epoch i count core) h idle came =
    takes_part s a epoch i count core h (λ e. let x : Active ≡ Idle = sym e ∙ idle in cc) came
idle_takes s a p h idle came = h

switch_takes : (s : System) (a : ℕ) (m : Mode) (pick : ℕ) (p : Packet) → s.modes a ≡ m →
    Contains s.sent (item (Switch a) p) → Whole s → Whole (System.switch_takes s a m pick p)
switch_takes s a Active pick p e came h =
    let l = live s a h e in
    active_takes s a h.g h.states h.targets l pick p came
    (All-contains (ItemOk s.rack.home (view (ground s (s.cores a)) h.g)) s.sent (item (Switch a) p)
    (All-from_recursion (ItemOk s.rack.home (view (ground s (s.cores a)) h.g)) s.sent
    l.kept.items) came)
    (All-contains (OrderOk l.controlled.commands l.controlled.results s.number l.controlled.limit)
    s.sent (item (Switch a) p)
    (All-from_recursion
    (OrderOk l.controlled.commands l.controlled.results s.number l.controlled.limit)
    s.sent l.controlled.items) came)
switch_takes s a (Sealed target) pick p e came h = sealed_takes s a target p h e came
switch_takes s a Idle pick p e came h = idle_takes s a p h e came

announced : (P : Item → Type 0) (epoch switch : ℕ) →
    ((c : ℕ) → P (item (Client c) (Announce epoch switch))) → (n : ℕ) →
    AllByRecursion P (announces epoch switch n)
announced P epoch switch each zero = tt
announced P epoch switch each (suc n) =
    items_push P (announces epoch switch n) (item (Client n) (Announce epoch switch))
    (announced P epoch switch each n) (each n)

-- the controller takes the acknowledgement of its pending command
moves : (s : System) (what : What) (known : List ℕ) (h : Whole s)
    → ((switch' epoch' : ℕ) (known' : List ℕ) →
    (NotSeal what → (switch' ≡ s.switch) × (epoch' ≡ s.epoch) × (known' ≡ known)) →
    ((t f : ℕ) → what ≡ Seal t f → (switch' ≡ t) × (epoch' ≡ f) × (known' ≡ s.known))
    → Controlled s.rack.keys s.number None switch' epoch' known' s.sent h.holder (s.modes h.holder)
    (s.epochs h.holder) (s.outcomes h.holder) (s.cores h.holder).last
    (s.cores h.holder).entries)
    → (known'' : List ℕ) → (NotSeal what → known'' ≡ known) →
    ((t f : ℕ) → what ≡ Seal t f → known'' ≡ s.known)
    → Whole (System.moves (record s { command = None; known = known'' }) what)
moves s (Seal target epoch) known h c known'' plain_one seal =
    let is = announces epoch target s.rack.clients in
    let r = c target epoch known'' (λ x. absurd x)
    (λ t f e. (
      let x : Seal target epoch ≡ Seal t f = e in cc,
      let x : Seal target epoch ≡ Seal t f =
          e in cc,
      seal t f e,
    )) in
    record {
      g = h.g;
      holder = h.holder;
      states = h.states;
      targets = h.targets;
      kept = Kept-send_all (ground s (s.cores h.holder)) h.g is
          (announced (ItemOk s.rack.home (view (ground s (s.cores h.holder)) h.g)) epoch target
          (λ c. tt) s.rack.clients) h.kept;
      placed = Placed-sends s.modes s.epochs s.cores s.gathered s.sent h.holder h.states h.targets
          h.placed is
          (announced
          (ItemFits (IsSealed (s.modes h.holder)) (s.epochs h.holder) s.epochs h.states
          h.targets) epoch target (λ c. tt) s.rack.clients);
      controlled = Controlled-sends s.rack.keys s.number None target epoch known'' s.sent h.holder
          (s.modes h.holder) (s.epochs h.holder) (s.outcomes h.holder) (s.cores h.holder).last
          (s.cores h.holder).entries r is
          (announced (OrderOk r.commands r.results s.number r.limit) epoch target (λ c. tt)
          s.rack.clients);
    }
moves s (Promote k) known h c known'' plain_one seal = record {
  g = h.g;
  holder = h.holder;
  states = h.states;
  targets = h.targets;
  kept = h.kept;
  placed = h.placed;
  controlled = c s.switch s.epoch known'' (λ x. (refl, refl, plain_one tt)) (λ t f e. absurd (cc));
}
moves s (Demote k) known h c known'' plain_one seal = record {
  g = h.g;
  holder = h.holder;
  states = h.states;
  targets = h.targets;
  kept = h.kept;
  placed = h.placed;
  controlled = c s.switch s.epoch known'' (λ x. (refl, refl, plain_one tt)) (λ t f e. absurd (cc));
}
moves s Clear known h c known'' plain_one seal = record {
  g = h.g;
  holder = h.holder;
  states = h.states;
  targets = h.targets;
  kept = h.kept;
  placed = h.placed;
  controlled = c s.switch s.epoch known'' (λ x. (refl, refl, plain_one tt)) (λ t f e. absurd (cc));
}
moves s (FenceKey k) known h c known'' plain_one seal = record {
  g = h.g;
  holder = h.holder;
  states = h.states;
  targets = h.targets;
  kept = h.kept;
  placed = h.placed;
  controlled = c s.switch s.epoch known'' (λ x. (refl, refl, plain_one tt)) (λ t f e. absurd (cc));
}
moves s (Copy u k) known h c known'' plain_one seal = record {
  g = h.g;
  holder = h.holder;
  states = h.states;
  targets = h.targets;
  kept = h.kept;
  placed = h.placed;
  controlled = c s.switch s.epoch known'' (λ x. (refl, refl, plain_one tt)) (λ t f e. absurd (cc));
}

settles : (s : System) (number : ℕ) (outcome : Outcome) (o : Option What) → s.command ≡ o →
    (h : Whole s)
    → (number < h.controlled.limit) × (outcome ≡ h.controlled.results number) →
    Whole (System.settles s number outcome o)
settles s number outcome None is h came = h
settles s number outcome (Some what) is h came =
    let known' = known_after what outcome s.known in
    let rest = belongs number what outcome && not (System.overfull s.rack outcome s.known) in
    cond_both (number == s.number && rest)
    (System.moves (record s { command = None; known = known' }) what) s Whole
    (λ y.
    let at = eqb-true number s.number (and_parts (number == s.number) rest y).0 in
    moves s what known' h
    (settled s.rack.keys s.number s.command s.switch s.epoch s.known s.sent h.holder
    (s.modes h.holder) (s.epochs h.holder) (s.outcomes h.holder) (s.cores h.holder).last
    (s.cores h.holder).entries h.controlled what is number outcome at came)
    known' (λ x. refl) (λ t f e. ap (λ w. known_after w outcome s.known) e))
    (λ n. h)

orders : (s : System) (what : What) (o : Option What) → s.command ≡ o →
    SealFits s.switch s.epoch what → Whole s → Whole (System.orders s what o)
orders s what None is seal h =
    let i = item (Switch s.switch) (Command (s.number + 1) what) in
    record {
      g = h.g;
      holder = h.holder;
      states = h.states;
      targets = h.targets;
      kept = Kept-send (ground s (s.cores h.holder)) h.g i h.kept tt;
      placed = Placed-push s.modes s.epochs s.cores s.gathered s.sent h.holder h.states h.targets
          h.placed i tt;
      controlled = Controlled-order s.rack.keys s.number s.command s.switch s.epoch s.known s.sent
          h.holder (s.modes h.holder) (s.epochs h.holder) (s.outcomes h.holder)
          (s.cores h.holder).last (s.cores h.holder).entries h.controlled
          is what seal s.switch;
    }
orders s what (Some other) is seal h = h

repeats : (s : System) (o : Option What) → s.command ≡ o → Whole s → Whole (System.repeats s o)
repeats s None is h =
    let is = announces s.epoch s.switch s.rack.clients in
    record {
      g = h.g;
      holder = h.holder;
      states = h.states;
      targets = h.targets;
      kept = Kept-send_all (ground s (s.cores h.holder)) h.g is
          (announced (ItemOk s.rack.home (view (ground s (s.cores h.holder)) h.g)) s.epoch s.switch
          (λ c. tt) s.rack.clients) h.kept;
      placed = Placed-sends s.modes s.epochs s.cores s.gathered s.sent h.holder h.states h.targets
          h.placed is
          (announced
          (ItemFits (IsSealed (s.modes h.holder)) (s.epochs h.holder) s.epochs h.states
          h.targets) s.epoch s.switch (λ c. tt) s.rack.clients);
      controlled = ruled_sends s h.holder h.controlled is
          (announced
          (OrderOk h.controlled.commands h.controlled.results s.number h.controlled.limit)
          s.epoch s.switch (λ c. tt) s.rack.clients);
    }
repeats s (Some what) is h =
    let i = item (Switch s.switch) (Command s.number what) in
    record {
      g = h.g;
      holder = h.holder;
      states = h.states;
      targets = h.targets;
      kept = Kept-send (ground s (s.cores h.holder)) h.g i h.kept tt;
      placed = Placed-push s.modes s.epochs s.cores s.gathered s.sent h.holder h.states h.targets
          h.placed i tt;
      controlled = Controlled-repeat s.rack.keys s.number s.command s.switch s.epoch s.known s.sent
          h.holder (s.modes h.holder) (s.epochs h.holder) (s.outcomes h.holder)
          (s.cores h.holder).last (s.cores h.holder).entries h.controlled
          what is s.switch;
    }

with_clients : (s : System) (switches epochs : ℕ → ℕ) → Whole s →
    Whole (record s { client_switch = switches; client_epoch = epochs })
with_clients s switches epochs h =
    record {
      g = h.g;
      holder = h.holder;
      states = h.states;
      targets = h.targets;
      kept = h.kept;
      placed = h.placed;
      controlled = h.controlled;
    }

request_orders : (cs : ℕ → What) (rs : ℕ → Outcome) (number limit : ℕ) (a c n k : ℕ) (act : Act) →
    OrderOk cs rs number limit (item (Switch a) (request c n k act))
request_orders cs rs number limit a c n k Reads = tt
request_orders cs rs number limit a c n k (Writes x) = tt

request_fits : (S : Type 0) (now : ℕ) (epochs : ℕ → ℕ) (states : ℕ → Core) (targets : ℕ → ℕ)
    (a c n k : ℕ) (act : Act) →
    ItemFits S now epochs states targets (item (Switch a) (request c n k act))
request_fits S now epochs states targets a c n k Reads = tt
request_fits S now epochs states targets a c n k (Writes x) = tt

issues : (s : System) (c k : ℕ) (act : Act) → Whole s → Whole (System.issues s c k act)
issues s c k act h =
    let a = s.client_switch c in
    let n = s.issued c + 1 in
    let w = began (ground s (s.cores 0)) a c n k act in
    cond_both (s.pending c) s (cond (s.issued c == top) s (back s w)) Whole
    (λ y. h)
    (λ z. cond_both (s.issued c == top) s (back s w) Whole
    (λ y. h)
    (λ z.
    let cur = ground s (s.cores h.holder) in
    let i = item (Switch a) (request c n k act) in
    record {
      g = bounds cur h.g c n k;
      holder = h.holder;
      states = h.states;
      targets = h.targets;
      kept = Kept-began cur h.g a c n k act refl h.kept;
      placed = Placed-push s.modes s.epochs s.cores s.gathered s.sent h.holder h.states h.targets
          h.placed i
          (request_fits (IsSealed (s.modes h.holder)) (s.epochs h.holder) s.epochs h.states
          h.targets a c n k act);
      controlled = ruled_sends s h.holder h.controlled (i ∷ []) (
        request_orders h.controlled.commands h.controlled.results s.number h.controlled.limit a c
            n k act,
        tt,
      );
    }))

resends : (s : System) (c : ℕ) → Whole s → Whole (System.resends s c)
resends s c h =
    let n = s.issued c in
    let p = s.plans c n in
    let i = item (Switch (s.client_switch c)) (request c n p.key p.act) in
    let cur = ground s (s.cores h.holder) in
    cond_both (s.pending c) (post s i) s Whole
    (λ y.
    let k = subst (λ (w : World). Kept w h.g) (cond-true (s.pending c) (send cur i) cur y)
    (Kept-resend cur h.g (s.client_switch c) c h.kept) in
    record {
      g = h.g;
      holder = h.holder;
      states = h.states;
      targets = h.targets;
      kept = k;
      placed = Placed-push s.modes s.epochs s.cores s.gathered s.sent h.holder h.states h.targets
          h.placed i
          (request_fits (IsSealed (s.modes h.holder)) (s.epochs h.holder) s.epochs h.states
          h.targets (s.client_switch c) c n p.key p.act);
      controlled = ruled_sends s h.holder h.controlled (i ∷ []) (
        request_orders h.controlled.commands h.controlled.results s.number h.controlled.limit
            (s.client_switch c) c n p.key p.act,
        tt,
      );
    })
    (λ n. h)

gives_up : (s : System) (c : ℕ) → Whole s → Whole (System.gives_up s c)
gives_up s c h = record {
  g = h.g;
  holder = h.holder;
  states = h.states;
  targets = h.targets;
  kept =
      Kept-give_up (ground s (s.cores h.holder)) h.g c h.kept;
  placed = h.placed;
  controlled =
      h.controlled;
}

hears : (s : System) (own epoch switch : ℕ) → Whole s → Whole (System.hears s own epoch switch)
hears s own epoch switch h =
    cond_both (nat_lt (s.client_epoch own) epoch)
    (record s {
      client_epoch = at_one s.client_epoch own epoch;
      client_switch =
          at_one s.client_switch own switch;
    }) s Whole
    (λ y. with_clients s (at_one s.client_switch own switch) (at_one s.client_epoch own epoch) h)
    (λ n. h)

takes_reply : (s : System) (own c n k u : ℕ) (kind : Act → Bool) (o : Option ℕ) (h : Whole s) →
    Kept (take_reply (ground s (s.cores h.holder)) own c n k u kind o) h.g
    → Whole (System.takes_reply s own c n k u kind o)
takes_reply s own c n k u kind o h kept =
    let cur = ground s (s.cores h.holder) in
    let b = s.pending own
    && (c == own &&
    (n == s.issued own && ((s.plans own n).key == k && kind (s.plans own n).act))) in
    cond_both b (back s (answered (ground s (s.cores 0)) own n u o)) s Whole
    (λ y. record {
      g = h.g;
      holder = h.holder;
      states = h.states;
      targets = h.targets;
      kept = subst (λ (w : World). Kept w h.g) (cond-true b (answered cur own n u o) cur y) kept;
      placed = h.placed;
      controlled = h.controlled;
    })
    (λ n. h)

own_low : (k u : ℕ) (is : List Item) → cond (k == k) u 0 ≤ passed k is → u ≤ passed k is
own_low k u is l = let e : (k == k) ≡ true = eq-eqb k k refl in rw e at l

-- servers
abbrev Early : System → Type 0
Early s = (d m : ℕ) → 1 ≤ m → m ≤ s.issued d → (s.plans d m).issue < s.place

server_sends : (s : System) (h : Whole s) (held : ℕ → ℕ → Pair) (guards : ℕ → ℕ → Guard)
    (fences : List Applied) (i : Item)
    → Kept (ground (post (record s { held = held; guards = guards; fences = fences }) i)
    (s.cores h.holder)) h.g
    → ItemFits (IsSealed (s.modes h.holder)) (s.epochs h.holder) s.epochs h.states h.targets i
    → OrderOk h.controlled.commands h.controlled.results s.number h.controlled.limit i →
    Whole (post (record s { held = held; guards = guards; fences = fences }) i)
server_sends s h held guards fences i k f q = record {
  g = h.g;
  holder = h.holder;
  states = h.states;
  targets = h.targets;
  kept = k;
  placed = Placed-push s.modes s.epochs s.cores s.gathered s.sent h.holder h.states h.targets
      h.placed i f;
  controlled = ruled_sends s h.holder h.controlled (i ∷ []) (q, tt);
}

copies : (s : System) (a target k : ℕ) (p : Pair) (h : Whole s) →
    PairIs (view (ground s (s.cores h.holder)) h.g) k p.version p.content →
    Ok s.rack.home (view (ground s (s.cores h.holder)) h.g) k p.version →
    Whole (System.copies s a target k p)
copies s a target k p h is ok =
    let i = item (Server target) (CopyData p.version a k p.content) in
    cond_both (p.version == 0) s (post s i) Whole
    (λ y. h)
    (λ n. server_sends s h s.held s.guards s.fences i
    (Kept-copy_from (ground s (s.cores h.holder)) h.g a target k p is ok h.kept) tt tt)

writes_at : (s : System) (t c n u a k : ℕ) (x : Option ℕ) (d : WriteDid) →
    DidIs (s.held t k).version (s.guards t k) u d → (h : Whole s)
    → ItemOk s.rack.home (view (ground s (s.cores h.holder)) h.g)
    (item (Server t) (ToServerWrite c n u a k x)) → Whole (System.writes_at s t c n u a k x d)
writes_at s t c n u a k x Takes is h i =
    server_sends s h (at_two s.held t k (newer (s.held t k) u x)) s.guards s.fences
    (item (Switch a) (WriteReply c n u t a k))
    (Kept-write_takes (ground s (s.cores h.holder)) h.g a t c n u k x i h.kept is) tt tt
writes_at s t c n u a k x Keeps is h i =
    server_sends s h s.held s.guards s.fences (item (Switch a) (WriteReply c n u t a k))
    (Kept-write_keeps (ground s (s.cores h.holder)) h.g a t c n u k x i h.kept is.0 is.1 is.2)
    tt tt
writes_at s t c n u a k x Voids is h i =
    server_sends s h s.held s.guards s.fences (item (Switch a) (Void c n u t a k))
    (Kept-write_voids (ground s (s.cores h.holder)) h.g a t c n u k x i h.kept is.1 is.2) tt tt
writes_at s t c n u a k x Bars is h i = h

fences_at : (s : System) (t f a k : ℕ) (h : Whole s) →
    ItemOk s.rack.home (view (ground s (s.cores h.holder)) h.g) (item (Server t) (Fence f a k)) →
    Whole (System.fences_at s t f a k)
fences_at s t f a k h i =
    let y = item (Switch a) (Held t f k) in
    let held' = at_two s.held t k (raised_to (s.held t k) f) in
    let guards' = at_two s.guards t k (guarded (s.guards t k) (s.held t k).version f) in
    let fences' = applied_fence s.fences k f (s.held t k).version ∷ s.fences in
    cond_both (t == s.rack.home k)
    (cond (nat_lt (s.held t k).version f)
    (post (record s { held = held'; guards = guards'; fences = fences' }) y) (post s y)) s
    Whole
    (λ z.
    let at : t ≡ s.rack.home k = eqb-true t (s.rack.home k) z in
    cond_both (nat_lt (s.held t k).version f)
    (post (record s { held = held'; guards = guards'; fences = fences' }) y) (post s y) Whole
    (λ l. server_sends s h held' guards' fences' y
    (Kept-fence_comes (ground s (s.cores h.holder)) h.g a t k f at
    (ltb-true (s.held t k).version f l) i.fence h.kept) tt tt)
    (λ l. server_sends s h s.held s.guards s.fences y
    (Kept-fence_kept (ground s (s.cores h.holder)) h.g a t k f at
    (ltb-false (s.held t k).version f l) i.fence h.kept) tt tt))
    (λ z. h)

takes : (s : System) (pick : ℕ) (to : Node) (p : Packet) → Early s → Contains s.sent (item to p) →
    ((k : ℕ) → reply_version k to p ≤ passed k s.sent) → (h : Whole s)
    → ItemOk s.rack.home (view (ground s (s.cores h.holder)) h.g) (item to p) →
    OrderOk h.controlled.commands h.controlled.results s.number h.controlled.limit (item to p) →
    Whole (System.takes s pick to p)
takes s pick (Switch a) p early came low h i q = switch_takes s a (s.modes a) pick p refl came h
takes s pick (Server t) (ToServerRead c n a k) early came low h i q =
    server_sends s h s.held s.guards s.fences
    (item (Switch a) (ReadReply c n (s.held t k).version t a k (s.held t k).content))
    (Kept-read_comes (ground s (s.cores h.holder)) h.g a t c n k i h.kept) tt tt
takes s pick (Server t) (ToServerWrite c n u a k x) early came low h i q =
    writes_at s t c n u a k x (write_did (s.held t k).version (s.guards t k) u)
    (did_is (s.held t k).version (s.guards t k) u) h i
takes s pick (Server t) (Fence f a k) early came low h i q = fences_at s t f a k h i
takes s pick (Server t) (CopyOrder a target k) early came low h i q =
    cond_both (target == t) s (System.copies s a target k (s.held t k)) Whole (λ y. h)
    (λ n. copies s a target k (s.held t k) h (h.kept.held t k).pair (h.kept.held t k).ok)
takes s pick (Server t) (CopyData u a k x) early came low h i q =
    server_sends s h (at_two s.held t k (newer (s.held t k) u x)) s.guards s.fences
    (item (Switch a) (Held t u k))
    (Kept-copy_comes (ground s (s.cores h.holder)) h.g a t u k x i h.kept) tt tt
takes s pick (Client own) (ReadReply c n u t b k o) early came low h i q =
    takes_reply s own c n k u is_read o h
    (Kept-read_answer (ground s (s.cores h.holder)) h.g b own c n k u t o early i
    (own_low k u s.sent (low k)) h.kept)
takes s pick (Client own) (WriteReply c n u t b k) early came low h i q =
    takes_reply s own c n k u is_write None h
    (Kept-write_answer (ground s (s.cores h.holder)) h.g b own c n k u t early i
    (own_low k u s.sent (low k)) h.kept)
takes s pick (Client own) (Announce epoch switch) early came low h i q = hears s own epoch switch h
takes s pick Controller (Ack number outcome) early came low h i q =
    settles s number outcome s.command refl h q
takes s pick to p early came low h i q = h

deliver : (s : System) (which pick : ℕ) (o : Option Item) → slice_get s.sent which ≡ o → Early s →
    Whole s → Whole (System.deliver s pick o)
deliver s which pick None is early h = h
deliver s which pick (Some i) is early h =
    takes s pick i.to i.packet early
    (which, slice_get_within s.sent which i is, get_or_from_slice_get s.sent which i i is)
    (λ k. passed_at k s.sent which i is) h
    (item_at (ItemOk s.rack.home (view (ground s (s.cores h.holder)) h.g)) s.sent which i is
    h.kept.items)
    (item_at (OrderOk h.controlled.commands h.controlled.results s.number h.controlled.limit) s.sent
    which i is h.controlled.items)

gives : (s : System) (ask : Ask) → Whole s → Whole (System.gives s ask)
gives s (ToPromote k) h = orders s (Promote k) s.command refl tt h
gives s (ToDemote k) h = orders s (Demote k) s.command refl tt h
gives s (ToCopy target k) h = orders s (Copy target k) s.command refl tt h
gives s (ToFence k) h = orders s (FenceKey k) s.command refl tt h
gives s ToClear h = orders s Clear s.command refl tt h
gives s (ToHandOver target) h =
    cond_both (target == s.switch) s (System.orders s (Seal target (s.epoch + 1)) s.command) Whole
    (λ y. h) (λ n. orders s (Seal target (s.epoch + 1)) s.command refl
    (eqb-false target s.switch n, refl) h)

other_fits : (S : Type 0) (now : ℕ) (epochs : ℕ → ℕ) (states : ℕ → Core) (targets : ℕ → ℕ)
    (to : Node) → ItemFits S now epochs states targets (item to Other)
other_fits S now epochs states targets (Client c) = tt
other_fits S now epochs states targets (Switch a) = tt
other_fits S now epochs states targets (Server t) = tt
other_fits S now epochs states targets Controller = tt

other_orders : (cs : ℕ → What) (rs : ℕ → Outcome) (number limit : ℕ) (to : Node) →
    OrderOk cs rs number limit (item to Other)
other_orders cs rs number limit (Client c) = tt
other_orders cs rs number limit (Switch a) = tt
other_orders cs rs number limit (Server t) = tt
other_orders cs rs number limit Controller = tt

happens_at : (s : System) (e : Event) → Early s → Whole s → Whole (System.happens_at s e)
happens_at s (Issue c k act) early h = issues s c k act h
happens_at s (Resend c) early h = resends s c h
happens_at s (GiveUp c) early h = gives_up s c h
happens_at s (Deliver which pick) early h =
    deliver s which pick (slice_get s.sent which) refl early h
happens_at s (Order ask) early h = gives s ask h
happens_at s Repeat early h = repeats s s.command refl h
happens_at s (Tell to) early h =
    more s (item to Other) h tt
    (other_fits (IsSealed (s.modes h.holder)) (s.epochs h.holder) s.epochs h.states h.targets
    to) (other_orders h.controlled.commands h.controlled.results s.number h.controlled.limit
    to)
happens_at s Rest early h = h
happens_at s (Then e ask) early h = gives (System.happens_at s e) ask (happens_at s e early h)

happens : (s : System) (e : Event) → Whole s → Whole (System.happens s e)
happens s e h =
    happens_at (record s { place = s.place + 1 }) e
    (λ d m l1 l2. omega (arith, h.kept.history.past d m l1 l2))
    (record {
      g = h.g;
      holder = h.holder;
      states = h.states;
      targets = h.targets;
      kept = Kept-quiet (ground s (s.cores h.holder)) h.g (s.place + 1) s.pending (omega arith)
          (λ c p. p) h.kept;
      placed = h.placed;
      controlled = h.controlled;
    })

pub run_whole : (s : System) (es : List Event) → Whole s → Whole (System.run es s)
run_whole s [] h = h
run_whole s (e ∷ es) h = run_whole (System.happens s e) es (happens s e h)

start_mode : (rack : Rack) (b : ℕ) →
    ModeFits first_epoch (System.first_core rack b) (λ e. empty_core rack) (λ e. 0) 0 b
    (first_mode b)
start_mode rack zero = refl
start_mode rack (suc b) = tt

start_others : (b : ℕ) → b ≢ 0 → first_epoch b < 1
start_others zero ne = absurd (ne refl)
start_others (suc b) ne = omega arith

abbrev start_ghost : Ghost
start_ghost = record { who = λ u. id 0 0; bound = λ c n. 0 }

abbrev start_view : Rack → View
start_view rack = view (ground (System.start rack) (empty_core rack)) start_ghost

first_ok : (rack : Rack) → 1 ≤ rack.first → (k : ℕ) (ks : List ℕ) →
    EntryOk rack.home (start_view rack) k (entry_of k (first_entries rack ks))
first_ok rack some k [] = tt
first_ok rack some k (j ∷ ks) =
    let e : Entry = record {
      key = j;
      listing = 0;
      base = rack.first - 1;
      completed = rack.first - 1;
      holders =
          rack.home j ∷ [];
      mark = None;
    } in
    cond_both (j == k) (Some e) (entry_of k (first_entries rack ks))
    (EntryOk rack.home (start_view rack) k)
    (λ y. record {
      key = eqb-true j k y;
      base = omega arith;
      most = omega (arith, some);
      is = inl (omega (arith, some));
      mark = tt;
      some = omega arith;
      holding = inr (refl, ap (λ i. rack.home i ∷ []) (eqb-true j k y));
    })
    (λ n. first_ok rack some k ks)

pub start_whole : (rack : Rack) → 1 ≤ rack.first → Whole (System.start rack)
start_whole rack some = record {
  g = start_ghost;
  holder = 0;
  states = λ e. empty_core rack;
  targets = λ e. 0;
  kept = record {
    names = record { each = tt; all = λ c n l m. absurd (omega (arith, l, m)) };
    versions = record {
      least = some;
      most = omega arith;
      each = λ u l m. absurd (omega (arith, l, m));
      row =
          λ c. inl (refl, refl);
      stamp = λ c n. inl refl;
    };
    held = λ s k. record {
      pair = record { most = omega (arith, some); content = inl (refl, refl) };
      ok =
          (inl (omega arith), tt);
    };
    entries = λ k. first_ok rack some k rack.keys;
    items = tt;
    history = record {
      past = λ c n l m. absurd (omega (arith, l, m));
      each = λ c n l m. absurd (omega (arith, l, m));
      under = λ c n l m. absurd (omega (arith, l, m));
      since = λ c n l m. absurd (omega (arith, l, m));
      order = λ c n d m a l1 m1. absurd (omega (arith, l1, m1));
      waits = λ c e. absurd (cc);
    };
    traced = record {
      none = λ u l. refl;
      each = λ u l m. absurd (omega (arith, l, m));
      open_row = λ c l e. absurd (omega (arith, l));
      again = λ u v l m n. absurd (omega (arith, l, m, n));
    };
    fences = tt;
    nested = tt;
    guard = λ s k. record {
      at = λ e. record {
        is = record { floor = refl; low = refl; old = refl };
        floor = omega arith;
        ordered =
            omega arith;
        top = tt;
        each = tt;
        last = inl refl;
      };
      off = λ ne. record { low = refl; floor = refl; old = refl };
    };
    room = λ l. let e = first_length rack rack.keys in omega (arith, e, l);
  };
  placed = record {
    holds = tt;
    mode = start_mode rack;
    first = omega arith;
    others = start_others;
    parts = tt;
    gather = λ b. inl (omega arith);
    has = λ b i h. absurd (cc);
  };
  controlled = record {
    commands = λ n. Promote 0;
    results = λ n. NotListed;
    limit = 1;
    items = tt;
    fits = λ n l m. absurd (omega (arith, l, m));
    started = λ w e. absurd (cc);
    outcome_is = λ e. refl;
    taken = λ l. absurd (omega (arith, l));
    distinct = λ f. f;
    phase = Quiet refl refl refl refl refl (omega arith) (first_keys rack rack.keys);
  };
}
