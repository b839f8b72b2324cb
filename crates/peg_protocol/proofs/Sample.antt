-- Small runs, computed: the definitions do what they say.
use Rattle.std.proofs.Common.{arith, ◌≡◌, List, [], ◌∷◌, Some, None, refl, map, length, ◌%◌}
use Rattle.peg_protocol.specs.Packet.{item, Client, Switch, Server, Controller, Write}
use Rattle.peg_protocol.specs.Packet.{ToServerWrite, WriteReply, Held, Fence, Void, Command, Ack}
use Rattle.peg_protocol.specs.Packet.{Promote, FenceKey, Listed, Fenced}
use Rattle.peg_protocol.specs.Core.{Rack, top}
use Rattle.peg_protocol.specs.Machine.{Reads, Writes}
use Rattle.peg_protocol.specs.System.{System, Active, Sealed, Event, Issue, Resend, GiveUp, Deliver}
use Rattle.peg_protocol.specs.System.{Order, ToPromote, ToDemote, ToFence, ToCopy, ToHandOver, run}
use Rattle.peg_protocol.specs.System.{start}
use Rattle.peg_protocol.specs.Printed.{printed, printed_tagged}
use Rattle.peg_protocol.specs.RackLaw.{book_of}
use Rattle.peg_protocol.specs.FullRound.{FullRound, delivers}

abbrev rack : Rack
rack = record
    { home = λ k. k % 3; servers = 3; room = 4; keys = []; first = 1; parts = λ c. 2; clients = 1 }

abbrev write_read : List Event
write_read = Issue 0 7 (Writes (Some 5)) ∷ Deliver 0 0 ∷ Deliver 1 0 ∷ Deliver 2 0 ∷ Deliver 3 0
    ∷ Issue 0 7 Reads ∷ Deliver 4 0 ∷ Deliver 5 0 ∷ Deliver 6 0 ∷ Deliver 7 0 ∷ []

read_answer : (run write_read (start rack)).answers 0 2
    ≡ Some (record { place = 11; version = 1; content = Some 5; tag = 1 })
unfolding top
read_answer = refl

printed_names : map (λ o. o.name) (printed 7 (book_of (run write_read (start rack)))) ≡ 0 ∷ 1 ∷ []
unfolding top
printed_names = refl

-- the switch 0 hands over to the switch 1 in two parts, and the client hears of it
abbrev handover : List Event
handover = Order (ToPromote 7) ∷ Deliver 0 0 ∷ Deliver 1 0 ∷ Order (ToHandOver 1) ∷ Deliver 2 0
    ∷ Deliver 4 0 ∷ Deliver 3 0 ∷ Deliver 5 0 ∷ Deliver 6 0 ∷ []

new_switch : (run handover (start rack)).modes 1 ≡ Active
unfolding top
new_switch = refl

old_switch : (run handover (start rack)).modes 0 ≡ Sealed 1
unfolding top
old_switch = refl

client_heard : (run handover (start rack)).client_switch 0 ≡ 1
unfolding top
client_heard = refl

known : (run handover (start rack)).known ≡ 7 ∷ []
unfolding top
known = refl

entries_came : length ((run handover (start rack)).cores 1).entries ≡ 1
unfolding top
entries_came = refl

-- a late write is voided, and stamped anew; its client number 0, its key 2 with the home 2
abbrev late : List Event
late =
    Issue 0 2 (Writes (Some 5)) ∷ Deliver 0 0 ∷ Order (ToPromote 2) ∷ Deliver 2 0 ∷ Deliver 3 0
    ∷ Order (ToFence 2) ∷ Deliver 4 0 ∷ Deliver 5 0 ∷ Deliver 7 0 ∷ Deliver 1 0 ∷ Deliver 8 0
    ∷ Resend 0 ∷ Deliver 9 0 ∷ Deliver 10 0 ∷ Deliver 11 0 ∷ Deliver 12 0 ∷ Deliver 8 0 ∷ []

late_sent : (run late (start rack)).sent ≡
    item (Switch 0) (Write 0 1 2 (Some 5)) ∷ item (Server 2) (ToServerWrite 0 1 1 0 2 (Some 5))
    ∷ item (Switch 0) (Command 1 (Promote 2)) ∷ item Controller (Ack 1 (Listed 1))
    ∷ item (Switch 0) (Command 2 (FenceKey 2)) ∷ item (Server 2) (Fence 2 0 2)
    ∷ item Controller (Ack 2 (Fenced 2)) ∷ item (Switch 0) (Held 2 2 2)
    ∷ item (Switch 0) (Void 0 1 1 2 0 2) ∷ item (Switch 0) (Write 0 1 2 (Some 5))
    ∷ item (Server 0) (ToServerWrite 0 1 3 0 2 (Some 5))
    ∷ item (Switch 0) (WriteReply 0 1 3 0 0 2) ∷ item (Client 0) (WriteReply 0 1 3 0 0 2) ∷ []
unfolding top
late_sent = refl

late_answer : (run late (start rack)).answers 0 1
    ≡ Some (record { place = 17; version = 3; content = None; tag = 3 })
unfolding top
late_answer = refl

late_row : ((run late (start rack)).cores 0).rows 0 ≡ record { seq = 1; version = 3 }
unfolding top
late_row = refl

-- a key that nobody writes any more is copied
abbrev settled : List Event
settled =
    Issue 0 2 (Writes (Some 5)) ∷ Deliver 0 0 ∷ Deliver 1 0 ∷ GiveUp 0 ∷ Order (ToPromote 2)
    ∷ Deliver 3 0 ∷ Deliver 4 0 ∷ Order (ToFence 2) ∷ Deliver 5 0 ∷ Deliver 6 0 ∷ Deliver 8 0
    ∷ Deliver 7 0
    ∷ Order (ToCopy 0 2) ∷ Deliver 9 0 ∷ Deliver 10 0 ∷ Deliver 12 0 ∷ Deliver 13 0
    ∷ Issue 1 2 Reads ∷ Deliver 14 0 ∷ Deliver 15 0 ∷ Deliver 16 0 ∷ Deliver 17 0 ∷ []

settled_answer : (run settled (start rack)).answers 1 1
    ≡ Some (record { place = 23; version = 2; content = Some 5; tag = 1 })
unfolding top
settled_answer = refl

settled_order : map (λ t. t.op.name) (printed_tagged 2 (book_of (run settled (start rack)))) ≡ 0 ∷ 1
    ∷ []
unfolding top
settled_order = refl

settled_tags : map (λ t. t.tag) (printed_tagged 2 (book_of (run settled (start rack)))) ≡ 1 ∷ 1 ∷ []
unfolding top
settled_tags = refl

-- a write that comes after two Fences is barred: nothing is sent
abbrev barred : List Event
barred =
    Issue 0 2 (Writes (Some 5)) ∷ Deliver 0 0 ∷ Order (ToPromote 2) ∷ Deliver 2 0 ∷ Deliver 3 0
    ∷ Order (ToFence 2) ∷ Deliver 4 0 ∷ Deliver 5 0 ∷ Deliver 6 0 ∷ Order (ToDemote 2)
    ∷ Deliver 8 0 ∷ Deliver 9 0
    ∷ Issue 1 2 (Writes (Some 6)) ∷ Deliver 10 0 ∷ Deliver 11 0 ∷ Deliver 12 0 ∷ Order (ToPromote 2)
    ∷ Deliver 14 0 ∷ Deliver 15 0 ∷ Order (ToFence 2) ∷ Deliver 16 0 ∷ Deliver 17 0
    ∷ Deliver 1 0 ∷ []

barred_guard : (run barred (start rack)).guards 2 2 ≡ record { low = 3; floor = 4; old = 2 }
unfolding top
barred_guard = refl

barred_pair : (run barred (start rack)).held 2 2 ≡ record { version = 4; content = Some 6 }
unfolding top
barred_pair = refl

barred_sent : length (run barred (start rack)).sent ≡ 20
unfolding top
barred_sent = refl

-- a key that is listed from the start and was never written is settled at its base, and copied
abbrev listed_rack : Rack
listed_rack = record {
  home = λ k. k % 3;
  servers = 3;
  room = 4;
  keys = 2 ∷ [];
  first = 3;
  parts = λ c. 2;
  clients =
      1;
}

abbrev never_written : List Event
never_written =
    Order (ToFence 2) ∷ Deliver 0 0 ∷ Deliver 1 0 ∷ Deliver 2 0 ∷ Order (ToCopy 0 2) ∷ Deliver 4 0
    ∷ Deliver 5 0 ∷ Deliver 7 0 ∷ Deliver 8 0 ∷ Issue 0 2 Reads ∷ Deliver 9 0 ∷ Deliver 10 0
    ∷ Deliver 11 0 ∷ Deliver 12 0 ∷ []

never_written_answer : (run never_written (start listed_rack)).answers 0 1
    ≡ Some (record { place = 15; version = 2; content = None; tag = 0 })
unfolding top
never_written_answer = refl

never_written_tags : map (λ t. t.tag)
    (printed_tagged 2 (book_of (run never_written (start listed_rack)))) ≡ 0 ∷ []
unfolding top
never_written_tags = refl

-- a write's full round
abbrev asked : System
asked = run (Issue 0 7 (Writes (Some 5)) ∷ []) (start rack)

abbrev stamped : System
stamped = delivers asked 0 0

abbrev taken : System
taken = delivers stamped 1 0

abbrev noted : System
noted = delivers taken 2 0

whole_round : FullRound asked stamped taken noted 0 1 0 1 2 3
unfolding top
whole_round = record {
  switch = 0;
  key = 7;
  act = Writes (Some 5);
  asked = refl;
  active = refl;
  one = record { pick = 0; between = []; later = refl; first = refl; some = omega arith };
  two = record { pick = 0; between = []; later = refl; first = refl; some = omega arith };
  three = record { pick = 0; between = []; later = refl; first = refl; some = omega arith };
  back = 0;
  reply = WriteReply 0 1 1 1 0 7;
  is_reply = tt;
  came = refl;
  back_active = refl;
  pending = refl;
  last = refl;
}
