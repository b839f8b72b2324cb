-- A packet as it is lent from the bytes of a datagram, seen as the packet of the model.
--     content_seen, what_seen, outcome_seen, rows_seen, seen      the parts and the whole
use Rattle.std.specs.Prelude.{ℕ, List, ◌∷◌, Option, Some, None, if◌then◌else◌}
use Rattle.std.specs.Str.{bytes_eq}
use Rattle.std.specs.Borrow.{Bor}
use Rattle.peg_name.specs.declared.Row.{Row}
use Rattle.peg_name.specs.declared.value.Content.{Content}
use Rattle.peg_name.specs.declared.value.Content.TheVariants.{Absent, Present}
use Rattle.peg_event.specs.declared.Outcome.{Outcome}
use Rattle.peg_event.specs.declared.Outcome.TheVariants as outcome
use Rattle.peg_grammar.specs.Rows.{rows_in}
use Rattle.peg_packet.specs.declared.rows.Rows.{Rows}
use Rattle.peg_packet.specs.declared.What.{What}
use Rattle.peg_packet.specs.declared.What.TheVariants as what
use Rattle.peg_packet.specs.declared.Packet.{Packet}
use Rattle.peg_packet.specs.declared.Packet.TheVariants as packet
use Rattle.peg_model.specs.Packet as model
use Rattle.peg_model.specs.Packet.{eight, outcome_bytes}
use Rattle.peg_model.specs.Reading.{outcome_with}

abbrev pub content_seen : Option (Bor (List ℕ)) → Content
content_seen None = Absent
content_seen (Some value) = Present value.now

abbrev pub what_seen : What → model.What
what_seen (what.Promote key) = model.Promote key.now
what_seen (what.Demote key) = model.Demote key.now
what_seen (what.Copy target key) = model.Copy target key.now
what_seen (what.Seal target epoch) = model.Seal target epoch
what_seen what.Clear = model.Clear
what_seen (what.Fence key) = model.FenceKey key.now

-- what a pair that is no outcome is seen as: it is in the range of no format
abbrev pub no_outcome : Outcome
no_outcome = outcome.Activated 0

abbrev pub if_so_spelled : ℕ → ℕ → Option Outcome → Outcome
if_so_spelled code value None = no_outcome
if_so_spelled code value (Some o) =
    if bytes_eq (outcome_bytes o) (code ∷ eight value) then o else no_outcome

abbrev pub outcome_seen : ℕ → ℕ → Outcome
outcome_seen code value = if_so_spelled code value (outcome_with code value)

abbrev pub rows_seen : Rows → List Row
rows_seen rows = rows_in rows.bytes.now rows.count

abbrev pub seen : Packet → model.Packet
seen (packet.Read client seq key) = model.Read client seq key.now
seen (packet.Write client seq key content) = model.Write client seq key.now (content_seen content)
seen (packet.ToServerRead h key) = model.ToServerRead h.client h.seq h.server h.switch key.now
seen (packet.ToServerWrite h version key content) =
    model.ToServerWrite h.client h.seq version h.server h.switch key.now (content_seen content)
seen (packet.ReadReply h version key content) =
    model.ReadReply h.client h.seq version h.server h.switch key.now (content_seen content)
seen (packet.WriteReply h version key) =
    model.WriteReply h.client h.seq version h.server h.switch key.now
seen (packet.Command number w) = model.Command number (what_seen w)
seen (packet.CommandAck number code value) = model.CommandAck number (outcome_seen code value)
seen (packet.CopyOrder switch server target key) = model.CopyOrder switch server target key.now
seen (packet.CopyData switch server version key content) =
    model.CopyData switch server version key.now (content_seen content)
seen (packet.Held server version key) = model.Held server version key.now
seen (packet.Part epoch index count bytes) = model.Part epoch index count bytes.now
seen (packet.Announce epoch switch) = model.Announce epoch switch
seen packet.Survey = model.Survey
seen (packet.Report epoch total rows) = model.Report epoch total (rows_seen rows)
seen (packet.Fence switch server version key) = model.Fence switch server version key.now
seen (packet.Void h version key) =
    model.Void h.client h.seq version h.server h.switch key.now
