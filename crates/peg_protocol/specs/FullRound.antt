-- A full round of an operation: its request, and in turn the packet that each delivery sent, are
-- delivered, the first and third at an active switch.
use Rattle.std.specs.Prelude.{◌≡◌, ℕ, ◌<◌, true, List, length, slice_get, Some}
use Rattle.peg_protocol.specs.Packet.{Packet, item, ReadReply, WriteReply, Switch}
use Rattle.peg_protocol.specs.Machine.{Act, request}
use Rattle.peg_protocol.specs.System.{System, Active, Event, Deliver, happens, run}

abbrev pub delivers : System → ℕ → ℕ → System
delivers s i pick = happens s (Deliver i pick)

-- packet i is delivered at s, packet j is what that delivery sent, and t comes later
pub record Round (s t : System) (i j : ℕ) : Type 0 where
  pub pick : ℕ
  pub between : List Event
  pub later : t ≡ run between (delivers s i pick)
  pub first : j ≡ length s.sent
  pub some : j < length (delivers s i pick).sent

abbrev pub IsReply : Packet → Type 0
IsReply (ReadReply c n u t b k o) = Unit {0}
IsReply (WriteReply c n u t b k) = Unit {0}
IsReply packet = ⊥

-- at s, s', s'' and t the packets i, i', i'' and j are delivered
pub record FullRound (s s' s'' t : System) (c n i i' i'' j : ℕ) : Type 0 where
  pub switch : ℕ
  pub key : ℕ
  pub act : Act
  pub asked : slice_get s.sent i ≡ Some (item (Switch switch) (request c n key act))
  pub active : s.modes switch ≡ Active
  pub one : Round s s' i i'
  pub two : Round s' s'' i' i''
  pub three : Round s'' t i'' j
  pub back : ℕ
  pub reply : Packet
  pub is_reply : IsReply reply
  pub came : slice_get s''.sent i'' ≡ Some (item (Switch back) reply)
  pub back_active : s''.modes back ≡ Active
  pub pending : t.pending c ≡ true
  pub last : n ≡ t.issued c
