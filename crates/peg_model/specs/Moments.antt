-- The lines of a run, one by one: when an operation has to be answered, and what no line says.
--     Moment, moments      a line of a run: its event, the world before it, and what it said and
--         sent
--     FullRound ms client seq last      an operation of which the request, what a switch sent of
--         it, the reply and what a switch sent of that were delivered in a row, `last` being the
--         last of these
--     IsAnsweredAt m client seq      the line says that the operation is answered
--     IsInPlace m      no node says that a packet is out of place, and bytes are malformed exactly
--         where they are junk
use Rattle.std.specs.Prelude.{◌≡◌, ◌+◌, ◌<◌, ℕ, Bool, true, false, Option, Some, is_none, List, []}
use Rattle.std.specs.Prelude.{◌∷◌, slice_get, IsSomeAnd, Contains}
use Rattle.peg_name.specs.declared.Format.{Format}
use Rattle.peg_name.specs.declared.Node.{Node}
use Rattle.peg_name.specs.declared.Node.TheVariants as node
use Rattle.peg_event.specs.declared.Event.{Event}
use Rattle.peg_event.specs.declared.Event.TheVariants as event
use Rattle.peg_event.specs.declared.Line.{Line}
use Rattle.peg_event.specs.declared.Said.{Said}
use Rattle.peg_event.specs.declared.Said.TheVariants as said
use Rattle.peg_event.specs.declared.SwitchDid.TheVariants as switch_did
use Rattle.peg_event.specs.declared.ServerDid.TheVariants as server_did
use Rattle.peg_event.specs.declared.ClientDid.{ClientDid}
use Rattle.peg_event.specs.declared.ClientDid.TheVariants as client_did
use Rattle.peg_event.specs.declared.ControlDid.TheVariants as control_did
use Rattle.peg_model.specs.Packet.{Packet, Read, Write, ReadReply, WriteReply}
use Rattle.peg_model.specs.Reading.{packet_of}
use Rattle.peg_model.specs.Switch.{Active}
use Rattle.peg_model.specs.World.{World, step, client_of, switch_of}

-- one line of a run: its event, the world before it, and what it said and sent
pub record Moment : Type 0 where
  pub place : ℕ
  pub event : Event
  pub before : World
  pub line : Line

abbrev pub moments : World → ℕ → List Event → List Moment
moments w place [] = []
moments w place (e ∷ events) =
    let now = step w place e in
    record {
      place = place;
      event = e;
      before = w;
      line = now.1;
    } ∷ moments now.0 (place + 1) events

-- the packet of this number is delivered, and exactly the next packet is sent
pub record IsHandedOn (m : Moment) (number next : ℕ) : Type 0 where
  pub pick : ℕ
  pub delivered : m.event ≡ event.Deliver number pick
  pub sent : m.line.sent ≡ Some (next, next)

-- the packet of this number is delivered at an active switch
abbrev pub IsAtActive : Moment → ℕ → Type 0
IsAtActive m number =
    IsSomeAnd (slice_get m.before.packets number)
    (λ item. (id : ℕ) × (item.0 ≡ node.Switch id) × ((switch_of m.before id).mode ≡ Active))

abbrev pub IsRequestOf : ℕ → ℕ → Node × Packet → Type 0
IsRequestOf client seq (to, Read c q key) = (c ≡ client) × (q ≡ seq)
IsRequestOf client seq (to, Write c q key content) = (c ≡ client) × (q ≡ seq)
IsRequestOf client seq _ = ⊥

abbrev pub IsReply : Node × Packet → Type 0
IsReply (to, ReadReply client seq version server switch key content) = Unit {0}
IsReply (to, WriteReply client seq version server switch key) = Unit {0}
IsReply _ = ⊥

abbrev pub IsPendingAt : World → ℕ → ℕ → Type 0
IsPendingAt w client seq = IsSomeAnd (client_of w client).pending (λ p. p.seq ≡ seq)

-- a request, what a switch sent of it, the reply that a server sent of that, and what a switch
-- sent of that, each delivered after the one before, and the last while the operation is pending
pub record FullRound (ms : List Moment) (client seq : ℕ) (last : Moment) : Type 0 where
  pub first : Moment
  pub second : Moment
  pub third : Moment
  pub in_run : Contains ms first × Contains ms second × Contains ms third × Contains ms last
  pub rising :
      (first.place < second.place) × (second.place < third.place) × (third.place < last.place)
  pub request : ℕ
  pub forwarded : ℕ
  pub reply : ℕ
  pub answer : ℕ
  pub is_request : IsSomeAnd (slice_get first.before.packets request) (IsRequestOf client seq)
  pub is_reply : IsSomeAnd (slice_get third.before.packets reply) IsReply
  pub at_active : IsAtActive first request × IsAtActive third reply
  pub hops :
      IsHandedOn first request forwarded × IsHandedOn second forwarded reply
      × IsHandedOn third reply answer
  pub delivered : (pick : ℕ) × (last.event ≡ event.Deliver answer pick)
  pub is_pending : IsPendingAt last.before client seq

abbrev pub IsAnswer : ℕ → ℕ → ClientDid → Type 0
IsAnswer client seq (client_did.Wrote q version) = q ≡ seq
IsAnswer client seq (client_did.Read q version content) = q ≡ seq
IsAnswer client seq _ = ⊥

abbrev pub IsAnsweredAt : Moment → ℕ → ℕ → Type 0
IsAnsweredAt m client seq =
    (did : ClientDid) × (m.line.said ≡ said.Client client did) × IsAnswer client seq did

-- ---- in place

abbrev pub says_out_of_place : Said → Bool
says_out_of_place (said.Switch id switch_did.OutOfPlace) = true
says_out_of_place (said.Server id server_did.OutOfPlace) = true
says_out_of_place (said.Controller control_did.OutOfPlace) = true
says_out_of_place _ = false

abbrev pub says_malformed : Said → Bool
says_malformed (said.Switch id switch_did.Malformed) = true
says_malformed (said.Server id server_did.Malformed) = true
says_malformed (said.Controller control_did.Malformed) = true
says_malformed _ = false

abbrev pub is_refused_at : Node → Option (Format × Packet) → Bool
is_refused_at (node.Client id) p = false
is_refused_at _ p = is_none p

-- junk that a switch, a server or the controller is handed and no packet spells
abbrev pub is_bad_junk : Event → Bool
is_bad_junk (event.Junk to bytes) = is_refused_at to (packet_of bytes)
is_bad_junk _ = false

pub record IsInPlace (m : Moment) : Type 0 where
  pub in_place : says_out_of_place m.line.said ≡ false
  pub malformed : says_malformed m.line.said ≡ is_bad_junk m.event
