-- No event changes the rack, and packets that were sent stay where they are.
use Rattle.std.proofs.Common.{◌≡◌, ℕ, ◌+◌, ◌==◌, ◌&&◌, ◌||◌, not, nat_lt, nat_le, Bool, false, cond}
use Rattle.std.proofs.Common.{List, [], ◌∷◌, Option, Some, None, ap, sym, refl, ◌∙◌, append-nil}
use Rattle.std.proofs.Common.{append_assoc, ◌++◌, slice_get, slice_index}
use Rattle.std.proofs.lemmas.Bool.{cond_both}
use Rattle.std.specs.List.{list_any}
use Rattle.peg_protocol.specs.Packet.{What, Promote, Demote, Copy, Seal, FenceKey, Clear, Outcome}
use Rattle.peg_protocol.specs.Packet.{NotListed, NoBase, Fenced, Ordered, Holds, Cleared, Activated}
use Rattle.peg_protocol.specs.Packet.{Packet, Node, Item, item, Read, Write, ToServerRead}
use Rattle.peg_protocol.specs.Packet.{ToServerWrite, ReadReply, WriteReply, CopyOrder, CopyData}
use Rattle.peg_protocol.specs.Packet.{Held, Fence, Void, Command, Ack, Part, Announce, Other}
use Rattle.peg_protocol.specs.Packet.{Client, Switch, Server, Controller}
use Rattle.peg_protocol.specs.Core.{Core, Entry, entry_of, read_server, write_server, promote}
use Rattle.peg_protocol.specs.Core.{demote, Stamp, New, Same as Again, Stale, Exhausted, stamp}
use Rattle.peg_protocol.specs.Core.{at_one, at_two, top}
use Rattle.peg_protocol.specs.Machine.{Act, Pair, WriteDid, Takes, Keeps, Voids, Bars, write_did}
use Rattle.peg_protocol.specs.Machine.{raised_to, guarded, applied_fence, request, began, answered}
use Rattle.peg_protocol.specs.Machine.{is_read, is_write}
use Rattle.peg_protocol.specs.System
use Rattle.peg_protocol.specs.System.{System, promote_outcome, demote_outcome, parts_of, announces}
use Rattle.peg_protocol.specs.System.{Mode, Idle, Active, Sealed, ground, back, post, all_below}
use Rattle.peg_protocol.specs.System.{gathers, belongs, known_after, overfull, Ask, ToPromote}
use Rattle.peg_protocol.specs.System.{ToDemote, ToCopy, ToFence, ToClear, ToHandOver, Event, Issue}
use Rattle.peg_protocol.specs.System.{Resend, GiveUp, Deliver, Order, Repeat, Tell, Rest, Then}

pub record Stays (s t : System) : Type 0 where
  pub rack : t.rack ≡ s.rack
  pub more : List Item
  pub sent : t.sent ≡ s.sent ++ more

-- nothing is sent
idle : (s : System) → Stays s s
idle s = record { rack = refl; more = []; sent = sym (append-nil s.sent) }

quiet : (s t : System) → t.rack ≡ s.rack → t.sent ≡ s.sent → Stays s t
quiet s t r e = record { rack = r; more = []; sent = e ∙ sym (append-nil s.sent) }

sends : (s t : System) (is : List Item) → t.rack ≡ s.rack → t.sent ≡ s.sent ++ is → Stays s t
sends s t is r e = record { rack = r; more = is; sent = e }

after : (s t u : System) → Stays s t → Stays t u → Stays s u
after s t u h k = record {
  rack = k.rack ∙ h.rack;
  more = h.more ++ k.more;
  sent =
      k.sent ∙ ap (λ is. is ++ k.more) h.sent ∙ append_assoc s.sent h.more k.more;
}

either : (s t u : System) (b : Bool) → Stays s t → Stays s u → Stays s (cond b t u)
either s t u b h k = cond_both b t u (Stays s) (λ y. h) (λ n. k)

issues : (s : System) (c k : ℕ) (act : Act) → Stays s (System.issues s c k act)
issues s c k act =
    let t = back s (began (ground s (s.cores 0)) (s.client_switch c) c (s.issued c + 1) k act) in
    either s s (cond (s.issued c == top) s t) (s.pending c) (idle s)
    (either s s t (s.issued c == top) (idle s)
    (sends s t (item (Switch (s.client_switch c)) (request c (s.issued c + 1) k act) ∷ [])
    refl refl))

resends : (s : System) (c : ℕ) → Stays s (System.resends s c)
resends s c =
    let i = item (Switch (s.client_switch c))
    (request c (s.issued c) (s.plans c (s.issued c)).key (s.plans c (s.issued c)).act) in
    either s (post s i) s (s.pending c) (sends s (post s i) (i ∷ []) refl refl) (idle s)

takes_reply : (s : System) (own c n k u : ℕ) (kind : Act → Bool) (o : Option ℕ) →
    Stays s (System.takes_reply s own c n k u kind o)
takes_reply s own c n k u kind o =
    let t = back s (answered (ground s (s.cores 0)) own n u o) in
    either s t s
    (s.pending own &&
    (c == own &&
    (n == s.issued own && ((s.plans own n).key == k && kind (s.plans own n).act))))
    (quiet s t refl refl) (idle s)

hears : (s : System) (own epoch switch : ℕ) → Stays s (System.hears s own epoch switch)
hears s own epoch switch =
    let t = record s {
      client_epoch = at_one s.client_epoch own epoch;
      client_switch =
          at_one s.client_switch own switch;
    } in
    either s t s (nat_lt (s.client_epoch own) epoch) (quiet s t refl refl) (idle s)

copies : (s : System) (a target k : ℕ) (p : Pair) → Stays s (System.copies s a target k p)
copies s a target k p =
    let i = item (Server target) (CopyData p.version a k p.content) in
    either s s (post s i) (p.version == 0) (idle s) (sends s (post s i) (i ∷ []) refl refl)

writes_at : (s : System) (t c n u a k : ℕ) (x : Option ℕ) (d : WriteDid) →
    Stays s (System.writes_at s t c n u a k x d)
writes_at s t c n u a k x Takes =
    sends s (System.writes_at s t c n u a k x Takes) (item (Switch a) (WriteReply c n u t a k) ∷ [])
    refl refl
writes_at s t c n u a k x Keeps =
    sends s (System.writes_at s t c n u a k x Keeps) (item (Switch a) (WriteReply c n u t a k) ∷ [])
    refl refl
writes_at s t c n u a k x Voids =
    sends s (System.writes_at s t c n u a k x Voids) (item (Switch a) (Void c n u t a k) ∷ []) refl
    refl
writes_at s t c n u a k x Bars = idle s

fences_at : (s : System) (t f a k : ℕ) → Stays s (System.fences_at s t f a k)
fences_at s t f a k =
    let y = item (Switch a) (Held t f k) in
    let s' = post (record s {
      held = at_two s.held t k (raised_to (s.held t k) f);
      guards = at_two s.guards t k (guarded (s.guards t k) (s.held t k).version f);
      fences = applied_fence s.fences k f (s.held t k).version ∷ s.fences;
    }) y in
    either s (cond (nat_lt (s.held t k).version f) s' (post s y)) s (t == s.rack.home k)
    (either s s' (post s y) (nat_lt (s.held t k).version f) (sends s s' (y ∷ []) refl refl)
    (sends s (post s y) (y ∷ []) refl refl)) (idle s)

writes_by : (s : System) (a c n k : ℕ) (x : Option ℕ) (pick : ℕ) (st : Stamp) →
    Stays s (System.writes_by s a c n k x pick st)
writes_by s a c n k x pick (New u) =
    sends s (System.writes_by s a c n k x pick (New u))
    (item (Server (write_server s.rack k u pick (entry_of k (s.cores a).entries)))
    (ToServerWrite c n u a k x) ∷ []) refl refl
writes_by s a c n k x pick (Again u) =
    sends s (System.writes_by s a c n k x pick (Again u))
    (item (Server (write_server s.rack k u pick (entry_of k (s.cores a).entries)))
    (ToServerWrite c n u a k x) ∷ []) refl refl
writes_by s a c n k x pick Stale = idle s
writes_by s a c n k x pick Exhausted = idle s

does : (s : System) (a : ℕ) (core : Core) (o : Outcome) → Stays s (System.does s a core o)
does s a core o = sends s (System.does s a core o) (item Controller (Ack core.last o) ∷ []) refl
    refl

also_does : (s : System) (i : Item) (a : ℕ) (core : Core) (o : Outcome) →
    Stays s (System.does (post s i) a core o)
also_does s i a core o =
    sends s (System.does (post s i) a core o) (i ∷ item Controller (Ack core.last o) ∷ []) refl
    (append_assoc s.sent (i ∷ []) (item Controller (Ack core.last o) ∷ []))

copies_by : (s : System) (a target k : ℕ) (o : Option Entry) →
    Stays s (System.copies_by s a target k o)
copies_by s a target k None =
    does s a (record (s.cores a) { last = (s.cores a).last + 1 }) NotListed
copies_by s a target k (Some e) =
    let core' = record (s.cores a) { last = (s.cores a).last + 1 } in
    let t = slice_index e.holders 0 in
    let i = item (Server t) (CopyOrder a target k) in
    either s (System.does s a core' Holds) (System.does (post s i) a core' (Ordered t))
    (list_any (λ t. t == target) e.holders) (does s a core' Holds)
    (also_does s i a core' (Ordered t))

fences_by : (s : System) (a k : ℕ) (o : Option Entry) → Stays s (System.fences_by s a k o)
fences_by s a k None = does s a (record (s.cores a) { last = (s.cores a).last + 1 }) NotListed
fences_by s a k (Some e) =
    let core' = record (s.cores a) { last = (s.cores a).last + 1 } in
    let i = item (Server (s.rack.home k)) (Fence e.base a k) in
    either s (System.does s a core' NoBase) (System.does (post s i) a core' (Fenced e.base))
    (e.base == 0) (does s a core' NoBase) (also_does s i a core' (Fenced e.base))

executes : (s : System) (a number : ℕ) (what : What) → Stays s (System.executes s a number what)
executes s a number (Promote k) =
    let core' = promote s.rack k (entry_of k (s.cores a).entries) (s.cores a) in
    let o = promote_outcome s.rack (entry_of k (s.cores a).entries) (s.cores a) in
    sends s (System.executes s a number (Promote k)) (item Controller (Ack core'.last o) ∷ []) refl
    refl
executes s a number (Demote k) =
    does s a (demote k (entry_of k (s.cores a).entries) (s.cores a))
    (demote_outcome (s.cores a).next (entry_of k (s.cores a).entries))
executes s a number (Copy target k) = copies_by s a target k (entry_of k (s.cores a).entries)
executes s a number (FenceKey k) = fences_by s a k (entry_of k (s.cores a).entries)
executes s a number Clear = does s a (record (s.cores a) { last = (s.cores a).last + 1 }) Cleared
executes s a number (Seal target epoch) =
    let core' = record (s.cores a) { last = number } in
    either s (System.seals s a target number) s (not (target == a) && epoch == s.epochs a + 1)
    (sends s (System.seals s a target number)
    (parts_of target (s.epochs a + 1) (s.rack.parts core') core' (s.rack.parts core')) refl
    refl) (idle s)

commands : (s : System) (a number : ℕ) (what : What) → Stays s (System.commands s a number what)
commands s a number what =
    let t = post s (item Controller (Ack number (s.outcomes a))) in
    either s (System.executes s a number what) (cond (number == (s.cores a).last) t s)
    (number == (s.cores a).last + 1) (executes s a number what)
    (either s t s (number == (s.cores a).last)
    (sends s t (item Controller (Ack number (s.outcomes a)) ∷ []) refl refl) (idle s))

active_takes : (s : System) (a pick : ℕ) (p : Packet) → Stays s (System.active_takes s a pick p)
active_takes s a pick (Read c n k) =
    sends s (System.active_takes s a pick (Read c n k))
    (item (Server (read_server s.rack k pick (entry_of k (s.cores a).entries)))
    (ToServerRead c n a k) ∷ []) refl refl
active_takes s a pick (Write c n k x) = writes_by s a c n k x pick (stamp (s.cores a) c n)
active_takes s a pick (ReadReply c n u t b k o) =
    sends s (System.active_takes s a pick (ReadReply c n u t b k o))
    (item (Client c) (ReadReply c n u t b k o) ∷ []) refl refl
active_takes s a pick (WriteReply c n u t b k) =
    sends s (System.active_takes s a pick (WriteReply c n u t b k))
    (item (Client c) (WriteReply c n u t b k) ∷ []) refl refl
active_takes s a pick (Held t u k) = quiet s (System.active_takes s a pick (Held t u k)) refl refl
active_takes s a pick (Void c n u t b k) =
    quiet s (System.active_takes s a pick (Void c n u t b k)) refl refl
active_takes s a pick (Command number what) = commands s a number what
active_takes s a pick (Part epoch i count core) =
    let i = item Controller (Ack (s.cores a).last (s.outcomes a)) in
    either s (post s i) s (epoch == s.epochs a && nat_lt 0 (s.cores a).last)
    (sends s (post s i) (i ∷ []) refl refl) (idle s)
active_takes s a pick p = idle s

takes_part : (s : System) (b epoch i count : ℕ) (core : Core) →
    Stays s (System.takes_part s b epoch i count core)
takes_part s b epoch i count core =
    let has = gathers (s.gathered b) epoch i in
    let t = post (record s {
      modes = at_one s.modes b Active;
      epochs = at_one s.epochs b epoch;
      cores = at_one s.cores b core;
      outcomes = at_one s.outcomes b (Activated epoch);
      gathered = at_one s.gathered b (record { epoch = 0; has = λ j. false });
    }) (item Controller (Ack core.last (Activated epoch))) in
    let u = record s { gathered = at_one s.gathered b (record { epoch = epoch; has = has }) } in
    either s s (cond (all_below has count) t u)
    (nat_le epoch (s.epochs b) || nat_lt epoch (s.gathered b).epoch) (idle s)
    (either s t u (all_below has count)
    (sends s t (item Controller (Ack core.last (Activated epoch)) ∷ []) refl refl)
    (quiet s u refl refl))

sealed_takes : (s : System) (a target : ℕ) (p : Packet) → Stays s (System.sealed_takes s a target p)
sealed_takes s a target (Command number what) =
    either s (System.sends_parts s target (s.epochs a + 1) (s.cores a)) s
    (number == (s.cores a).last)
    (sends s (System.sends_parts s target (s.epochs a + 1) (s.cores a))
    (parts_of target (s.epochs a + 1) (s.rack.parts (s.cores a)) (s.cores a)
    (s.rack.parts (s.cores a))) refl refl) (idle s)
sealed_takes s a target (Part epoch i count core) = takes_part s a epoch i count core
sealed_takes s a target p = idle s

idle_takes : (s : System) (a : ℕ) (p : Packet) → Stays s (System.idle_takes s a p)
idle_takes s a (Part epoch i count core) = takes_part s a epoch i count core
idle_takes s a p = idle s

switch_takes : (s : System) (a : ℕ) (m : Mode) (pick : ℕ) (p : Packet) →
    Stays s (System.switch_takes s a m pick p)
switch_takes s a Active pick p = active_takes s a pick p
switch_takes s a (Sealed target) pick p = sealed_takes s a target p
switch_takes s a Idle pick p = idle_takes s a p

moves : (s : System) (known : List ℕ) (what : What) →
    Stays s (System.moves (record s { command = None; known = known }) what)
moves s known (Seal target epoch) =
    sends s (System.moves (record s { command = None; known = known }) (Seal target epoch))
    (announces epoch target s.rack.clients) refl refl
moves s known (Promote k) = quiet s (record s { command = None; known = known }) refl refl
moves s known (Demote k) = quiet s (record s { command = None; known = known }) refl refl
moves s known (Copy t k) = quiet s (record s { command = None; known = known }) refl refl
moves s known (FenceKey k) = quiet s (record s { command = None; known = known }) refl refl
moves s known Clear = quiet s (record s { command = None; known = known }) refl refl

settles : (s : System) (number : ℕ) (outcome : Outcome) (o : Option What) →
    Stays s (System.settles s number outcome o)
settles s number outcome None = idle s
settles s number outcome (Some what) =
    let known' = known_after what outcome s.known in
    either s (System.moves (record s { command = None; known = known' }) what) s
    (number == s.number &&
    (belongs number what outcome && not (overfull s.rack outcome s.known)))
    (moves s known' what) (idle s)

orders : (s : System) (what : What) (o : Option What) → Stays s (System.orders s what o)
orders s what None = sends s (System.orders s what None)
    (item (Switch s.switch) (Command (s.number + 1) what) ∷ []) refl refl
orders s what (Some other) = idle s

repeats : (s : System) (o : Option What) → Stays s (System.repeats s o)
repeats s None = sends s (System.repeats s None) (announces s.epoch s.switch s.rack.clients) refl
    refl
repeats s (Some what) =
    sends s (System.repeats s (Some what)) (item (Switch s.switch) (Command s.number what) ∷ [])
    refl refl

takes : (s : System) (pick : ℕ) (to : Node) (p : Packet) → Stays s (System.takes s pick to p)
takes s pick (Switch a) p = switch_takes s a (s.modes a) pick p
takes s pick (Server t) (ToServerRead c n a k) =
    sends s (System.takes s pick (Server t) (ToServerRead c n a k))
    (item (Switch a) (ReadReply c n (s.held t k).version t a k (s.held t k).content) ∷ []) refl
    refl
takes s pick (Server t) (CopyData u a k x) =
    sends s (System.takes s pick (Server t) (CopyData u a k x)) (item (Switch a) (Held t u k) ∷ [])
    refl refl
takes s pick (Server t) (ToServerWrite c n u a k x) =
    writes_at s t c n u a k x (write_did (s.held t k).version (s.guards t k) u)
takes s pick (Server t) (Fence f a k) = fences_at s t f a k
takes s pick (Server t) (CopyOrder a target k) =
    either s s (System.copies s a target k (s.held t k)) (target == t) (idle s)
    (copies s a target k (s.held t k))
takes s pick (Client own) (ReadReply c n u t b k o) = takes_reply s own c n k u is_read o
takes s pick (Client own) (WriteReply c n u t b k) = takes_reply s own c n k u is_write None
takes s pick (Client own) (Announce epoch switch) = hears s own epoch switch
takes s pick Controller (Ack number outcome) = settles s number outcome s.command
takes s pick to p = idle s

deliver : (s : System) (pick : ℕ) (o : Option Item) → Stays s (System.deliver s pick o)
deliver s pick None = idle s
deliver s pick (Some i) = takes s pick i.to i.packet

gives : (s : System) (ask : Ask) → Stays s (System.gives s ask)
gives s (ToPromote k) = orders s (Promote k) s.command
gives s (ToDemote k) = orders s (Demote k) s.command
gives s (ToCopy target k) = orders s (Copy target k) s.command
gives s (ToFence k) = orders s (FenceKey k) s.command
gives s ToClear = orders s Clear s.command
gives s (ToHandOver target) =
    either s s (System.orders s (Seal target (s.epoch + 1)) s.command) (target == s.switch) (idle s)
    (orders s (Seal target (s.epoch + 1)) s.command)

happens_at : (s : System) (e : Event) → Stays s (System.happens_at s e)
happens_at s (Issue c k act) = issues s c k act
happens_at s (Resend c) = resends s c
happens_at s (GiveUp c) = quiet s (System.gives_up s c) refl refl
happens_at s (Deliver which pick) = deliver s pick (slice_get s.sent which)
happens_at s (Order ask) = gives s ask
happens_at s Repeat = repeats s s.command
happens_at s (Tell to) = sends s (post s (item to Other)) (item to Other ∷ []) refl refl
happens_at s Rest = idle s
happens_at s (Then e ask) =
    after s (System.happens_at s e) (System.happens_at s (Then e ask)) (happens_at s e)
    (gives (System.happens_at s e) ask)

pub happens : (s : System) (e : Event) → Stays s (System.happens s e)
happens s e = let h = happens_at (record s { place = s.place + 1 }) e in
    record { rack = h.rack; more = h.more; sent = h.sent }

pub run_stays : (es : List Event) (s : System) → Stays s (System.run es s)
run_stays [] s = idle s
run_stays (e ∷ es) s =
    after s (System.happens s e) (System.run es (System.happens s e)) (happens s e)
    (run_stays es (System.happens s e))
