-- Each operation that the protocol machine began is in its list of operations.
use Rattle.std.proofs.Common.{◌≡◌, ◌≤◌, ◌+◌, ◌==◌, ◌⊎◌, inl, inr, ℕ, Bool, true, false}
use Rattle.std.proofs.Common.{List, [], ◌∷◌, ◌++◌, cond, Option, Some, None, refl, sym, ap, ◌∙◌}
use Rattle.std.proofs.Common.{subst, Contains, slice_get, arith, eqb-true}
use Rattle.std.proofs.lemmas.Bool.{eqb-false}
use Rattle.std.proofs.lemmas.List.Elements.{Contains-append_left, Contains-push}
use Rattle.std.specs.Prelude.{nat_le, nat_lt, not, ◌&&◌, ◌||◌}
use Rattle.std.specs.List.{list_any}
use Rattle.peg_protocol.specs.Core.{Rack, Core, Entry, entry_of, at_one, top, Stamp, New, Same}
use Rattle.peg_protocol.specs.Core.{Stale, Exhausted, stamp}
use Rattle.peg_protocol.specs.Machine.{Act, Id, id, WriteDid, Takes, Keeps, Voids, Bars}
use Rattle.peg_protocol.specs.Machine.{write_did, is_read, is_write, began}
use Rattle.peg_protocol.specs.Packet as law
use Rattle.peg_protocol.specs.Packet.{What, Outcome}
use Rattle.peg_protocol.specs.System.{System, Mode, Idle, Active, Sealed, Event, Ask, happens}
use Rattle.peg_protocol.specs.System.{happens_at, run, start, takes, switch_takes, active_takes}
use Rattle.peg_protocol.specs.System.{sealed_takes, idle_takes, takes_part, commands, executes}
use Rattle.peg_protocol.specs.System.{copies_by, fences_by, writes_by, writes_at, fences_at, copies}
use Rattle.peg_protocol.specs.System.{takes_reply, hears, settles, moves, orders, repeats, gives}
use Rattle.peg_protocol.specs.System.{deliver, issues, resends}
use Rattle.peg_protocol.specs.System as system

-- what is known of the operations that were begun
abbrev Begun : Type 0
Begun = List Id × (ℕ → ℕ)

abbrev begun : System → Begun
begun s = (s.log, s.issued)

either :
    (f : Begun) (b : Bool) (x y : System) → begun x ≡ f → begun y ≡ f → begun (cond b x y) ≡ f
either f true x y d e = d
either f false x y d e = e

writes_same :
    (s : System) (t c n u a k : ℕ) (x : Option ℕ) (did : WriteDid)
    → begun (writes_at s t c n u a k x did) ≡ begun s
writes_same s t c n u a k x Takes = refl
writes_same s t c n u a k x Keeps = refl
writes_same s t c n u a k x Voids = refl
writes_same s t c n u a k x Bars = refl

stamps_same :
    (s : System) (a c n k : ℕ) (x : Option ℕ) (pick : ℕ) (r : Stamp)
    → begun (writes_by s a c n k x pick r) ≡ begun s
stamps_same s a c n k x pick (New u) = refl
stamps_same s a c n k x pick (Same u) = refl
stamps_same s a c n k x pick Stale = refl
stamps_same s a c n k x pick Exhausted = refl

copies_same : (s : System) (a target k : ℕ) (o : Option Entry) →
    begun (copies_by s a target k o) ≡ begun s
copies_same s a target k None = refl
copies_same s a target k (Some e) =
    either (begun s) (list_any (λ t. t == target) e.holders) _ _ refl refl

fences_same : (s : System) (a k : ℕ) (o : Option Entry) → begun (fences_by s a k o) ≡ begun s
fences_same s a k None = refl
fences_same s a k (Some e) = either (begun s) (e.base == 0) _ _ refl refl

executes_same : (s : System) (a number : ℕ) (what : What) →
    begun (executes s a number what) ≡ begun s
executes_same s a number (law.Promote k) = refl
executes_same s a number (law.Demote k) = refl
executes_same s a number (law.Copy target k) =
    copies_same s a target k (entry_of k (s.cores a).entries)
executes_same s a number (law.FenceKey k) = fences_same s a k (entry_of k (s.cores a).entries)
executes_same s a number law.Clear = refl
executes_same s a number (law.Seal target epoch) =
    either (begun s) (not (target == a) && epoch == s.epochs a + 1) _ _ refl refl

part_same :
    (s : System) (b epoch i count : ℕ) (c : Core) → begun (takes_part s b epoch i count c) ≡ begun s
part_same s b epoch i count c =
    either (begun s) (nat_le epoch (s.epochs b) || nat_lt epoch (s.gathered b).epoch) _ _ refl
    (either (begun s) (system.all_below (system.gathers (s.gathered b) epoch i) count) _ _ refl
    refl)

active_same : (s : System) (a pick : ℕ) (p : law.Packet) → begun (active_takes s a pick p) ≡ begun s
active_same s a pick (law.Write c n k x) = stamps_same s a c n k x pick (stamp (s.cores a) c n)
active_same s a pick (law.Command number what) =
    either (begun s) (number == (s.cores a).last + 1) _ _ (executes_same s a number what)
    (either (begun s) (number == (s.cores a).last) _ _ refl refl)
active_same s a pick (law.Part epoch i count c) =
    either (begun s) (epoch == s.epochs a && nat_lt 0 (s.cores a).last) _ _ refl refl
active_same s a pick p = refl

sealed_same : (s : System) (a target : ℕ) (p : law.Packet) →
    begun (sealed_takes s a target p) ≡ begun s
sealed_same s a target (law.Command number what) =
    either (begun s) (number == (s.cores a).last) _ _ refl refl
sealed_same s a target (law.Part epoch i count c) = part_same s a epoch i count c
sealed_same s a target p = refl

idle_same : (s : System) (a : ℕ) (p : law.Packet) → begun (idle_takes s a p) ≡ begun s
idle_same s a (law.Part epoch i count c) = part_same s a epoch i count c
idle_same s a p = refl

switch_same : (s : System) (a : ℕ) (mode : Mode) (pick : ℕ) (p : law.Packet)
    → begun (switch_takes s a mode pick p) ≡ begun s
switch_same s a Active pick p = active_same s a pick p
switch_same s a (Sealed target) pick p = sealed_same s a target p
switch_same s a Idle pick p = idle_same s a p

moves_same : (s : System) (what : What) → begun (moves s what) ≡ begun s
moves_same s (law.Seal target epoch) = refl
moves_same s what = refl

settles_same : (s : System) (number : ℕ) (outcome : Outcome) (o : Option What)
    → begun (settles s number outcome o) ≡ begun s
settles_same s number outcome None = refl
settles_same s number outcome (Some what) =
    either (begun s)
    (number == s.number
    && (system.belongs number what outcome && not (system.overfull s.rack outcome s.known)))
    _ _
    (moves_same
    (record s { command = None; known = system.known_after what outcome s.known }) what)
    refl

reply_same :
    (s : System) (own c n k u : ℕ) (kind : Act → Bool) (content : Option ℕ)
    → begun (takes_reply s own c n k u kind content) ≡ begun s
reply_same s own c n k u kind content =
    either (begun s)
    (s.pending own
    && (c == own && (n == s.issued own && ((s.plans own n).key == k && kind (s.plans own n).act))))
    _ _ refl refl

takes_same : (s : System) (pick : ℕ) (to : law.Node) (p : law.Packet)
    → begun (takes s pick to p) ≡ begun s
takes_same s pick (law.Switch a) p = switch_same s a (s.modes a) pick p
takes_same s pick (law.Server t) (law.ToServerWrite c n u a k x) =
    writes_same s t c n u a k x (write_did (s.held t k).version (s.guards t k) u)
takes_same s pick (law.Server t) (law.Fence f a k) =
    either (begun s) (t == s.rack.home k) _ _
    (either (begun s) (nat_lt (s.held t k).version f) _ _ refl refl) refl
takes_same s pick (law.Server t) (law.CopyOrder a target k) =
    either (begun s) (target == t) _ _ refl
    (either (begun s) ((s.held t k).version == 0) _ _ refl refl)
takes_same s pick (law.Server t) p = refl
takes_same s pick (law.Client own) (law.ReadReply c n u t b k content) =
    reply_same s own c n k u is_read content
takes_same s pick (law.Client own) (law.WriteReply c n u t b k) =
    reply_same s own c n k u is_write None
takes_same s pick (law.Client own) (law.Announce epoch switch) =
    either (begun s) (nat_lt (s.client_epoch own) epoch) _ _ refl refl
takes_same s pick (law.Client own) p = refl
takes_same s pick law.Controller (law.Ack number outcome) =
    settles_same s number outcome s.command
takes_same s pick law.Controller p = refl

deliver_same : (s : System) (pick : ℕ) (o : Option law.Item) → begun (deliver s pick o) ≡ begun s
deliver_same s pick None = refl
deliver_same s pick (Some i) = takes_same s pick i.to i.packet

orders_same : (s : System) (what : What) (o : Option What) → begun (orders s what o) ≡ begun s
orders_same s what None = refl
orders_same s what (Some other) = refl

gives_same : (s : System) (ask : Ask) → begun (gives s ask) ≡ begun s
gives_same s (system.ToPromote k) = orders_same s (law.Promote k) s.command
gives_same s (system.ToDemote k) = orders_same s (law.Demote k) s.command
gives_same s (system.ToCopy target k) = orders_same s (law.Copy target k) s.command
gives_same s (system.ToFence k) = orders_same s (law.FenceKey k) s.command
gives_same s system.ToClear = orders_same s law.Clear s.command
gives_same s (system.ToHandOver target) =
    either (begun s) (target == s.switch) _ _ refl
    (orders_same s (law.Seal target (s.epoch + 1)) s.command)

repeats_same : (s : System) (o : Option What) → begun (repeats s o) ≡ begun s
repeats_same s None = refl
repeats_same s (Some what) = refl

-- ---- what was begun is in the list

abbrev pub Logged : System → Type 0
Logged s = (c n : ℕ) → 1 ≤ n → n ≤ s.issued c → Contains s.log (id c n)

abbrev HasBegun : Begun → Type 0
HasBegun b = (c n : ℕ) → 1 ≤ n → n ≤ b.1 c → Contains b.0 (id c n)

logged_began :
    (log : List Id) (issued : ℕ → ℕ) (c : ℕ) → HasBegun (log, issued)
    → HasBegun (log ++ id c (issued c + 1) ∷ [], at_one issued c (issued c + 1))
logged_began log issued c all d m least most = by_test (d == c) refl most
  where
    by_last : d ≡ c → (m ≡ issued c + 1) ⊎ (m ≤ issued c)
        → Contains (log ++ id c (issued c + 1) ∷ []) (id d m)
    by_last e (inl last) =
        subst (λ i. Contains (log ++ id c (issued c + 1) ∷ []) i)
        (ap (λ x. id x (issued c + 1)) (sym e) ∙ ap (id d) (sym last))
        (Contains-push log (id c (issued c + 1)))
    by_last e (inr less) =
        Contains-append_left log (id c (issued c + 1) ∷ []) (id d m)
        (all d m least (subst (λ x. m ≤ issued x) (sym e) less))

    least_or_last :
        (b : Bool) → (m == issued c + 1) ≡ b → m ≤ issued c + 1
        → (m ≡ issued c + 1) ⊎ (m ≤ issued c)
    least_or_last true e less = inl (eqb-true m (issued c + 1) e)
    least_or_last false e less =
        let apart = eqb-false m (issued c + 1) e in inr (omega (arith, less, apart))

    by_test :
        (b : Bool) → (d == c) ≡ b → m ≤ cond b (issued c + 1) (issued d)
        → Contains (log ++ id c (issued c + 1) ∷ []) (id d m)
    by_test true e less =
        by_last (eqb-true d c e) (least_or_last (m == issued c + 1) refl less)
    by_test false e less =
        Contains-append_left log (id c (issued c + 1) ∷ []) (id d m) (all d m least less)

logged_issues :
    (s : System) (c k : ℕ) (act : Act) → Logged s → Logged (issues s c k act)
logged_issues s c k act all = first (s.pending c)
  where
    second : (b : Bool) → HasBegun (begun (cond b s
        (system.back s
        (began (system.ground s (s.cores 0)) (s.client_switch c) c (s.issued c + 1) k act))))
    second true = all
    second false = logged_began s.log s.issued c all

    first : (b : Bool) → HasBegun (begun (cond b s (cond (s.issued c == top) s
        (system.back s
        (began (system.ground s (s.cores 0)) (s.client_switch c) c (s.issued c + 1) k
        act)))))
    first true = all
    first false = second (s.issued c == top)

logged_at : (s : System) (e : Event) → Logged s → Logged (happens_at s e)
logged_at s (system.Issue c k act) all = logged_issues s c k act all
logged_at s (system.Resend c) all =
    subst HasBegun (sym (either (begun s) (s.pending c) _ _ refl refl)) all
logged_at s (system.GiveUp c) all = all
logged_at s (system.Deliver which pick) all =
    subst HasBegun (sym (deliver_same s pick (slice_get s.sent which))) all
logged_at s (system.Order ask) all = subst HasBegun (sym (gives_same s ask)) all
logged_at s system.Repeat all = subst HasBegun (sym (repeats_same s s.command)) all
logged_at s (system.Tell to) all = all
logged_at s system.Rest all = all
logged_at s (system.Then e ask) all =
    subst HasBegun (sym (gives_same (happens_at s e) ask)) (logged_at s e all)

logged_on : (es : List Event) (s : System) → Logged s → Logged (run es s)
logged_on [] s all = all
logged_on (e ∷ es) s all =
    logged_on es (happens s e) (logged_at (record s { place = s.place + 1 }) e all)

pub logged : (rack : Rack) (es : List Event) → Logged (run es (start rack))
logged rack es =
    logged_on es (start rack) (λ c n least most. absurd (omega (arith, least, most)))
