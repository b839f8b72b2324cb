-- Runs whose record the audit takes.
--     IsRecordable w e, AreRecordable w place events      no junk, and each delivery is of the
--         least packet with its node and its bytes
--     IsRecord entries      the record of such a run
use Rattle.std.specs.Prelude.{◌≡◌, ◌+◌, ℕ, Option, Some, None, List, [], ◌∷◌, length, slice_get}
use Rattle.peg_name.specs.Name.{Rack}
use Rattle.peg_name.specs.declared.Node.{Node}
use Rattle.peg_event.specs.declared.Event.{Event}
use Rattle.peg_event.specs.declared.Event.TheVariants as event
use Rattle.peg_model.specs.Packet.{Packet, spelling}
use Rattle.peg_model.specs.World.{World, start, step}
use Rattle.peg_meaning.specs.RackWord.{number_of, sent_since}
use Rattle.peg_meaning.specs.Records.{AuditEntry, recorded_entries}

-- a packet is delivered by the least number under which it was sent to its node
abbrev pub IsLeast : World → Option (Node × Packet) → ℕ → Type 0
IsLeast w None number = ⊥
IsLeast w (Some item) number =
    number_of w.rack.format w.packets item.0 (spelling w.rack.format item.1) ≡ Some number

abbrev pub IsRecordable : World → Event → Type 0
IsRecordable w (event.Deliver number pick) = IsLeast w (slice_get w.packets number) number
IsRecordable w (event.Junk to bytes) = ⊥
IsRecordable w e = Unit {0}

abbrev pub AreRecordable : World → ℕ → List Event → Type 0
AreRecordable w place [] = Unit {0}
AreRecordable w place (e ∷ events) =
    let now = (step w place e).0 in
    IsRecordable w e × AreRecordable now (place + 1 + length (sent_since w now)) events

abbrev pub IsRecord : List AuditEntry → Type 0
IsRecord entries =
    (rack : Rack) × (events : List Event) × AreRecordable (start rack []) 2 events
    × (entries ≡ recorded_entries rack events)
