-- What a delivery hands on: of a request at an active switch, of what that sent at a server, and
-- of the reply at an active switch.
use Rattle.std.proofs.Common.{◌≡◌, ◌++◌, ◌+◌, ℕ, Bool, true, false, List, [], ◌∷◌, length, Option}
use Rattle.std.proofs.Common.{Some, slice_get, refl, sym, ap, ◌∙◌, subst}
use Rattle.std.proofs.lemmas.Bool.{cond_both}
use Rattle.std.proofs.lemmas.Option.{same_Some}
use Rattle.std.specs.List.{AllByRecursion}
use Rattle.peg_name.specs.declared.value.Content.{Content}
use Rattle.peg_name.specs.declared.Node.{Node}
use Rattle.peg_name.specs.declared.Node.TheVariants as node
use Rattle.peg_event.specs.declared.answers.Ask.{Ask}
use Rattle.peg_event.specs.declared.answers.Ask.TheVariants as ask
use Rattle.peg_event.specs.declared.answers.Forward.{Forward}
use Rattle.peg_event.specs.declared.answers.Forward.TheVariants as forward
use Rattle.peg_event.specs.declared.Line.{Line}
use Rattle.peg_event.specs.declared.Said.{Said}
use Rattle.peg_event.specs.declared.ServerDid.TheVariants as server_did
use Rattle.peg_event.specs.declared.SwitchDid.TheVariants as switch_did
use Rattle.peg_event.specs.declared.answers.WriteDid.{WriteDid}
use Rattle.peg_event.specs.declared.answers.WriteDid.TheVariants as write_did
use Rattle.peg_model.specs.Words.{refuse}
use Rattle.peg_model.specs.Packet.{Packet, ToServerRead, ToServerWrite, ReadReply, WriteReply, Void}
use Rattle.peg_model.specs.Rules.{Core, read_request, write_request}
use Rattle.peg_model.specs.Client.{request_of, is_read}
use Rattle.peg_model.specs.Server.{Server, ServerStep, server_takes, serve, serve_write}
use Rattle.peg_model.specs.Server.{held, write_answer, server_step}
use Rattle.peg_model.specs.Switch.{Active, Switch, SwitchStep, out_of_place, in_mode}
use Rattle.peg_model.specs.Switch.{active_step, core_of, forwards_read, forwards_write, switch_step}
use Rattle.peg_model.specs.World.{World, numbers, reports, with_server, with_switch, server_of}
use Rattle.peg_model.specs.World.{switch_of, after_server, after_switch, delivers}
use Rattle.peg_model.specs.Moments.{IsReply}
use Rattle.peg_law.proofs.Lists.{get_next}
use Rattle.peg_law.proofs.Events.{Seen, seen, fenced_same, stamped_same}

-- ---- what was sent is so

pub record Sends (P : Node × Packet → Type 0) (w : World) (r : World × Line) : Type 0 where
  pub sent : List (Node × Packet)
  pub packets : r.0.packets ≡ w.packets ++ sent
  pub line : r.1.sent ≡ numbers (length w.packets) sent
  pub all : AllByRecursion P sent

reported :
    (P : Node × Packet → Type 0) (w u : World) (sent : List (Node × Packet)) (s : Said)
    → seen u ≡ seen w → AllByRecursion P sent → Sends P w (reports u sent s)
reported P w u sent s e all =
    record {
      sent = sent;
      packets = ap (λ (x : Seen). x.packets ++ sent) e;
      line = ap (λ (x : Seen). numbers (length x.packets) sent) e;
      all = all;
    }

first_of_sent :
    (P : Node × Packet → Type 0) (before now sent : List (Node × Packet)) (line : Option (ℕ × ℕ))
    (next : ℕ)
    → now ≡ before ++ sent → line ≡ numbers (length before) sent → AllByRecursion P sent
    → line ≡ Some (next, next) → (x : Node × Packet) × (slice_get now next ≡ Some x) × P x
first_of_sent P before now [] line next e f all g = absurd (cc)
first_of_sent P before now (x ∷ more) line next e f (one, all) g =
    let pair : (length before, length before + length more) ≡ (next, next) =
    same_Some (length before, length before + length more) (next, next) (sym f ∙ g) in
    let place : length before ≡ next = ap (λ (n : ℕ × ℕ). n.0) pair in (
      x,
      ap (λ l. slice_get l next) e
          ∙ subst (λ n. slice_get (before ++ x ∷ more) n ≡ Some x) place (get_next before more x),
      one,
    )

pub sent_next :
    (P : Node × Packet → Type 0) (w : World) (r : World × Line) (next : ℕ) → Sends P w r
    → r.1.sent ≡ Some (next, next)
    → (x : Node × Packet) × (slice_get r.0.packets next ≡ Some x) × P x
sent_next P w r next s e =
    first_of_sent P w.packets r.0.packets s.sent r.1.sent next s.packets s.line s.all e

-- ---- a request at an active switch

pub data IsForwarded (client seq : ℕ) (key : List ℕ) (read : Bool) (item : Node × Packet)
    : Type 0 where
  OfRead :
      (server at switch : ℕ) → read ≡ true → item.0 ≡ node.Server server
      → item.1 ≡ ToServerRead client seq at switch key → IsForwarded client seq key read item
  OfWrite :
      (server version at switch : ℕ) (content : Content) → read ≡ false
      → item.0 ≡ node.Server server
      → item.1 ≡ ToServerWrite client seq version at switch key content
      → IsForwarded client seq key read item

read_on :
    (f : Forward) (s : Switch) (client seq : ℕ) (key : List ℕ)
    → AllByRecursion (IsForwarded client seq key true) (forwards_read f s client seq key).sent
read_on (forward.To server version) s client seq key =
    (OfRead server server s.id refl refl refl, tt)
read_on (forward.Stale last) s client seq key = tt
read_on (forward.Exhausted next) s client seq key = tt

write_on :
    (f : Forward × Core) (s : Switch) (client seq : ℕ) (key : List ℕ) (content : Content)
    → AllByRecursion (IsForwarded client seq key false)
    (forwards_write f s client seq key content).sent
write_on (forward.To server version, core) s client seq key content =
    (OfWrite server version server s.id content refl refl refl, tt)
write_on (forward.Stale last, core) s client seq key content = tt
write_on (forward.Exhausted next, core) s client seq key content = tt

request_on :
    (s : Switch) (client seq : ℕ) (key : List ℕ) (a : Ask) (pick : ℕ)
    → AllByRecursion (IsForwarded client seq key (is_read a))
    (active_step s (request_of client seq key a) pick).sent
request_on s client seq key ask.Read pick =
    read_on (read_request (core_of s) key pick) s client seq key
request_on s client seq key (ask.Write content) pick =
    write_on (write_request (core_of s) key client seq pick) s client seq key content

-- what an active switch sends in its place is what it sends at all
switch_sends :
    (P : Node × Packet → Type 0) (s : Switch) (p : Packet) (pick : ℕ) → s.mode ≡ Active
    → AllByRecursion P (active_step s p pick).sent → AllByRecursion P (switch_step s p pick).sent
unfolding switch_step
switch_sends P s p pick on all =
    cond_both (out_of_place s p) (refuse s switch_did.OutOfPlace) (in_mode s.mode s p pick)
    (λ (t : SwitchStep). AllByRecursion P t.sent) (λ refused. tt)
    (λ taken. subst (λ m. AllByRecursion P (in_mode m s p pick).sent) (sym on) all)

at_switch :
    (P : Node × Packet → Type 0) (w : World) (id : ℕ) (p : Packet) (pick : ℕ)
    → (switch_of w id).mode ≡ Active
    → AllByRecursion P (active_step (switch_of w id) p pick).sent
    → Sends P w (delivers w (node.Switch id) p pick)
at_switch P w id p pick on all =
    let step = switch_step (switch_of w id) p pick in
    let v = with_switch w step.state in
    reported P w (after_switch v step.state p step.did) step.sent _
    (stamped_same v step.state p step.did) (switch_sends P (switch_of w id) p pick on all)

-- the item goes to the node and is the packet
pub delivers_as :
    (P : Node × Packet → Type 0) (w : World) (item : Node × Packet) (to : Node) (p : Packet)
    (pick : ℕ)
    → item.0 ≡ to → item.1 ≡ p → Sends P w (delivers w to p pick)
    → Sends P w (delivers w item.0 item.1 pick)
delivers_as P w item to p pick e f s =
    subst (λ n. Sends P w (delivers w n item.1 pick)) (sym e)
    (subst (λ q. Sends P w (delivers w to q pick)) (sym f) s)

pub first_hop :
    (w : World) (item : Node × Packet) (id client seq : ℕ) (key : List ℕ) (a : Ask) (pick : ℕ)
    → item.0 ≡ node.Switch id → item.1 ≡ request_of client seq key a
    → (switch_of w id).mode ≡ Active
    → Sends (IsForwarded client seq key (is_read a)) w (delivers w item.0 item.1 pick)
first_hop w item id client seq key a pick e f on =
    let P = IsForwarded client seq key (is_read a) in
    delivers_as P w item (node.Switch id) (request_of client seq key a) pick e f
    (at_switch P w id (request_of client seq key a) pick on
    (request_on (switch_of w id) client seq key a pick))

-- ---- what that sent, at a server

pub data IsServed (client seq : ℕ) (key : List ℕ) (read : Bool) (item : Node × Packet)
    : Type 0 where
  Reads :
      (version server switch : ℕ) (content : Content) → read ≡ true
      → item.1 ≡ ReadReply client seq version server switch key content
      → IsServed client seq key read item
  Writes :
      (version server switch : ℕ) → read ≡ false
      → item.1 ≡ WriteReply client seq version server switch key
      → IsServed client seq key read item
  Voids :
      (version server switch : ℕ) → item.1 ≡ Void client seq version server switch key
      → IsServed client seq key read item

server_sends :
    (P : Node × Packet → Type 0) (s : Server) (p : Packet) → AllByRecursion P (serve s p).sent
    → AllByRecursion P (server_step s p).sent
unfolding server_step
server_sends P s p all =
    cond_both (server_takes s.rack s.id p) (serve s p) (refuse s server_did.OutOfPlace)
    (λ (t : ServerStep). AllByRecursion P t.sent) (λ taken. all) (λ refused. tt)

at_server :
    (P : Node × Packet → Type 0) (w : World) (id : ℕ) (p : Packet) (pick : ℕ)
    → AllByRecursion P (serve (server_of w id) p).sent
    → Sends P w (delivers w (node.Server id) p pick)
at_server P w id p pick all =
    let step = server_step (server_of w id) p in
    let v = with_server w step.state in
    reported P w (after_server v step.did) step.sent _ (fenced_same v step.did)
    (server_sends P (server_of w id) p all)

written_on :
    (d : WriteDid) (s : Server) (client seq version switch : ℕ) (key : List ℕ) (content : Content)
    → AllByRecursion (IsServed client seq key false)
    (serve_write d s client seq version switch key content).sent
written_on write_did.Applied s client seq version switch key content =
    (Writes version s.id switch refl refl, tt)
written_on (write_did.Kept held) s client seq version switch key content =
    (Writes version s.id switch refl refl, tt)
written_on (write_did.Void floor) s client seq version switch key content =
    (Voids version s.id switch refl, tt)
written_on (write_did.Barred old) s client seq version switch key content = tt

pub second_hop :
    (w : World) (item : Node × Packet) (client seq : ℕ) (key : List ℕ) (read : Bool) (pick : ℕ)
    → IsForwarded client seq key read item
    → Sends (IsServed client seq key read) w (delivers w item.0 item.1 pick)
second_hop w item client seq key read pick (OfRead server at switch kind e f) =
    let s = server_of w server in
    let p = ToServerRead client seq at switch key in
    let was = held s.store key in
    subst (λ b. Sends (IsServed client seq key b) w (delivers w item.0 item.1 pick)) (sym kind)
    (delivers_as (IsServed client seq key true) w item (node.Server server) p pick e f
    (at_server (IsServed client seq key true) w server p pick
    (Reads was.version s.id switch was.content refl refl, tt)))
second_hop w item client seq key read pick (OfWrite server version at switch content kind e f) =
    let s = server_of w server in
    let p = ToServerWrite client seq version at switch key content in
    subst (λ b. Sends (IsServed client seq key b) w (delivers w item.0 item.1 pick)) (sym kind)
    (delivers_as (IsServed client seq key false) w item (node.Server server) p pick e f
    (at_server (IsServed client seq key false) w server p pick
    (written_on (write_answer s.store key version) s client seq version switch key content)))

-- ---- the reply at an active switch

pub data IsAnswered (client seq : ℕ) (key : List ℕ) (read : Bool) (item : Node × Packet)
    : Type 0 where
  SaysRead :
      (version server switch : ℕ) (content : Content) → read ≡ true → item.0 ≡ node.Client client
      → item.1 ≡ ReadReply client seq version server switch key content
      → IsAnswered client seq key read item
  SaysWritten :
      (version server switch : ℕ) → read ≡ false → item.0 ≡ node.Client client
      → item.1 ≡ WriteReply client seq version server switch key
      → IsAnswered client seq key read item

pub third_hop :
    (w : World) (item : Node × Packet) (id client seq : ℕ) (key : List ℕ) (read : Bool) (pick : ℕ)
    → IsServed client seq key read item → IsReply item → item.0 ≡ node.Switch id
    → (switch_of w id).mode ≡ Active
    → Sends (IsAnswered client seq key read) w (delivers w item.0 item.1 pick)
third_hop w item id client seq key read pick (Reads version server switch content kind f) r e on =
    let p = ReadReply client seq version server switch key content in
    delivers_as (IsAnswered client seq key read) w item (node.Switch id) p pick e f
    (at_switch (IsAnswered client seq key read) w id p pick on
    (SaysRead version server switch content kind refl refl, tt))
third_hop w item id client seq key read pick (Writes version server switch kind f) r e on =
    let p = WriteReply client seq version server switch key in
    delivers_as (IsAnswered client seq key read) w item (node.Switch id) p pick e f
    (at_switch (IsAnswered client seq key read) w id p pick on
    (SaysWritten version server switch kind refl refl, tt))
third_hop w item id client seq key read pick (Voids version server switch f) r e on =
    absurd (subst (λ p. IsReply (item.0, p)) f r)
