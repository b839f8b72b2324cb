-- What a node refuses as out of place.
use Rattle.std.specs.Prelude.{◌≡◌, ℕ, ◌+◌, ◌<◌, ◌≢◌, ◌⊎◌, true, false, List, [], ◌∷◌, Option, Some}
use Rattle.std.specs.Prelude.{None, Contains}
use Rattle.std.specs.List.{AllByRecursion}
use Rattle.peg_protocol.specs.Packet.{What, Seal, Outcome, Packet, Node, item, Read, Write}
use Rattle.peg_protocol.specs.Packet.{ToServerRead, ToServerWrite, ReadReply, WriteReply, CopyOrder}
use Rattle.peg_protocol.specs.Packet.{CopyData, Held, Fence, Void, Command, Ack, Part, Other}
use Rattle.peg_protocol.specs.Packet.{Client, Switch, Server, Controller}
use Rattle.peg_protocol.specs.System.{System, Active, belongs, overfull}

abbrev pub NoRepeats : List ℕ → Type 0
NoRepeats [] = Unit {0}
NoRepeats (x ∷ xs) = AllByRecursion (λ y. y ≢ x) xs × NoRepeats xs

-- a Seal of the next number for the switch itself or for another epoch than the next
abbrev pub SealRefused : System → ℕ → ℕ → What → Type 0
SealRefused s a number (Seal target epoch) =
    (s.modes a ≡ Active) × (number ≡ (s.cores a).last + 1)
    × ((target ≡ a) ⊎ (epoch ≢ s.epochs a + 1))
SealRefused s a number what = ⊥

abbrev pub SwitchRefuses : System → ℕ → Packet → Type 0
SwitchRefuses s a (Read c n k) = ⊥
SwitchRefuses s a (Write c n k x) = ⊥
SwitchRefuses s a (ReadReply c n u t b k o) = ⊥
SwitchRefuses s a (WriteReply c n u t b k) = ⊥
SwitchRefuses s a (Held t u k) = ⊥
SwitchRefuses s a (Void c n u t b k) = ⊥
SwitchRefuses s a (Command number what) = SealRefused s a number what
-- a part of a greater epoch, or of its own one before any command was taken
SwitchRefuses s a (Part epoch i count core) =
    (s.modes a ≡ Active) × ((s.epochs a < epoch) ⊎ ((epoch ≡ s.epochs a) × ((s.cores a).last ≡ 0)))
SwitchRefuses s a Other = ⊥
SwitchRefuses s a packet = Unit {0}

abbrev pub ServerRefuses : System → ℕ → Packet → Type 0
ServerRefuses s t (ToServerRead c n a k) = ⊥
ServerRefuses s t (ToServerWrite c n u a k x) = ⊥
ServerRefuses s t (CopyOrder a target k) = target ≡ t
ServerRefuses s t (CopyData u a k x) = ⊥
ServerRefuses s t (Fence f a k) = t ≢ s.rack.home k
ServerRefuses s t Other = ⊥
ServerRefuses s t packet = Unit {0}

-- the acknowledgement of the pending command, with an outcome that can't belong to it, or a listing
-- above what may be listed
abbrev pub AckRefused : System → ℕ → Outcome → Option What → Type 0
AckRefused s number outcome None = ⊥
AckRefused s number outcome (Some what) =
    (number ≡ s.number) ×
    ((belongs number what outcome ≡ false) ⊎ (overfull s.rack outcome s.known ≡ true))

abbrev pub ControllerRefuses : System → Packet → Type 0
ControllerRefuses s (Ack number outcome) = AckRefused s number outcome s.command
ControllerRefuses s Other = ⊥
ControllerRefuses s packet = Unit {0}

abbrev pub Refused : System → Node → Packet → Type 0
Refused s (Client c) packet = ⊥
Refused s (Switch a) packet = SwitchRefuses s a packet
Refused s (Server t) packet = ServerRefuses s t packet
Refused s Controller packet = ControllerRefuses s packet

-- no packet that was sent would be refused now
abbrev pub NothingRefused : System → Type 0
NothingRefused s = (to : Node) (packet : Packet) → Contains s.sent (item to packet) →
    Refused s to packet → ⊥
