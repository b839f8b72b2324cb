-- What a line of the records of all nodes says, as a function of its words.
--     entry_in e      what was read, as the book has it
--     IsStageOf a rack has_begun      an audit of this rack, before or behind its first event
--     entry_of rack has_begun line      the event, the datagram or the end that it spells
use Rattle.std.specs.Prelude.{◌≡◌, ℕ, Bool, true, false, Option, Some, None, List, [], ◌∷◌}
use Rattle.std.specs.Prelude.{if◌then◌else◌, codes, nat_le}
use Rattle.std.specs.Str.{bytes_eq}
use Rattle.peg_name.specs.Name.{Rack}
use Rattle.peg_meaning.specs.Records.{AuditEntry, Audited, Happens, Took, Sent, Ends}
use Rattle.peg_text.specs.declared.auditing.AuditEntry as said
use Rattle.peg_text.specs.declared.auditing.AuditEntry.TheVariants as entry
use Rattle.peg_text.specs.Reading.{words_of, next_by, both_by, whole_of, hex_of}
use Rattle.peg_text.specs.Events.{Read, read_as, read_node, read_number, event_by}
use Rattle.peg_text.specs.Takes.{node_event}

abbrev pub entry_in : said.AuditEntry → AuditEntry
entry_in (entry.Event e) = Happens e
entry_in (entry.Took node pick bytes) = Took node pick bytes.now
entry_in (entry.Sent node bytes) = Sent node bytes.now
entry_in entry.End = Ends

-- the rack line has the place 1
pub record IsStageOf (a : Audited) (rack : Rack) (has_begun : Bool) : Type 0 where
  pub is_rack : a.world.rack ≡ rack
  pub begun : nat_le 2 a.event_place ≡ has_begun

abbrev pub read_datagram : List (List ℕ) → Read (List ℕ)
read_datagram ws = next_by (hex_of 1153) ws

abbrev pub took_entry : Rack → List (List ℕ) → Read AuditEntry
took_entry rack ws =
    read_as (λ p. Took p.0 p.1.0 p.1.1)
    (both_by (read_node rack) (both_by read_number read_datagram) ws)

abbrev pub sent_entry : Rack → List (List ℕ) → Read AuditEntry
sent_entry rack ws = read_as (λ p. Sent p.0 p.1) (both_by (read_node rack) read_datagram ws)

abbrev pub entry_by : Rack → Bool → List ℕ → List (List ℕ) → Read AuditEntry
entry_by rack has_begun verb ws =
    if bytes_eq verb (codes "took") then took_entry rack ws
    else (if bytes_eq verb (codes "sent") then (if has_begun then sent_entry rack ws else None)
    else (if bytes_eq verb (codes "end") then Some (Ends, ws)
    else read_as Happens (node_event (event_by rack verb ws))))

abbrev pub entry_from : Rack → Bool → List (List ℕ) → Option AuditEntry
entry_from rack has_begun [] = None
entry_from rack has_begun (verb ∷ ws) = whole_of (entry_by rack has_begun verb ws)

abbrev pub entry_of : Rack → Bool → List ℕ → Option AuditEntry
entry_of rack has_begun line = entry_from rack has_begun (words_of line)
