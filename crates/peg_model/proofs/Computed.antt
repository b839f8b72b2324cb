-- How the computed runs are written.
--     rack_with format servers clients switches listed hot first      the numbers of a rack
--     lines texts      the texts, each with its line feed
--     is_schedule rack keys events texts      whether the texts are the rack line and a line for
--         each event
--     probe to sent bytes text, answers w p      what a node is handed, and whether it answers so
use Rattle.std.specs.Prelude.{ℕ, ◌+◌, ◌-◌, ◌*◌, ◌==◌, nat_lt, Bool, true, false, ◌&&◌, List, []}
use Rattle.std.specs.Prelude.{◌∷◌, ◌++◌, replicate, length, flat_map, if◌then◌else◌}
use Rattle.std.specs.List.{list_any}
use Rattle.std.specs.Str.{bytes_eq}
use Rattle.peg_name.specs.Name.{Rack}
use Rattle.peg_name.specs.declared.Format.{Format}
use Rattle.peg_name.specs.declared.Node.{Node}
use Rattle.peg_name.specs.declared.Node.TheVariants as node
use Rattle.peg_event.specs.declared.Event.{Event}
use Rattle.peg_event.specs.declared.Said.{Said}
use Rattle.peg_event.specs.declared.Said.TheVariants as said
use Rattle.peg_model.specs.Words.{Step}
use Rattle.peg_model.specs.Packet.{Packet}
use Rattle.peg_model.specs.World.{World, client_of, server_of, switch_of}
use Rattle.peg_model.specs.Datagrams.{client_on_bytes, server_on_bytes, switch_on_bytes}
use Rattle.peg_model.specs.Datagrams.{controller_on_bytes}
use Rattle.peg_model.specs.Schedule.{rack_line, event_lines, fed}
use Rattle.peg_model.specs.Trace.{said_text}

abbrev pub rack_with : Format → ℕ → ℕ → ℕ → ℕ → ℕ → ℕ → Rack
rack_with format servers clients switches listed hot first = record {
  format = format;
  servers = servers;
  clients = clients;
  switches = switches;
  listed = listed;
  hot = hot;
  first = first;
}

abbrev pub lines : List (List ℕ) → List ℕ
lines texts = flat_map fed texts

abbrev pub are_lines_of : List Event → List (List ℕ) → Bool
are_lines_of [] [] = true
are_lines_of [] (text ∷ texts) = false
are_lines_of (e ∷ events) [] = false
are_lines_of (e ∷ events) (text ∷ texts) =
    list_any (bytes_eq text) (event_lines e) && are_lines_of events texts

abbrev pub is_schedule : Rack → List (List ℕ) → List Event → List (List ℕ) → Bool
is_schedule rack keys events [] = false
is_schedule rack keys events (text ∷ texts) =
    bytes_eq text (rack_line rack keys) && are_lines_of events texts

-- a key of 32 bytes that ends in this letter
abbrev pub long_key : ℕ → List ℕ
long_key letter = replicate 31 120 ++ letter ∷ []

-- ---- bytes that a node is handed

abbrev pub hex_value : ℕ → ℕ
hex_value digit = if nat_lt digit 58 then digit - 48 else digit - 87

-- the bytes of these digits, two for each
abbrev pub hex : List ℕ → List ℕ
hex [] = []
hex (high ∷ []) = []
hex (high ∷ low ∷ digits) = (hex_value high * 16 + hex_value low) ∷ hex digits

-- a node is handed the bytes: it sends so many packets and says this
pub record Probe : Type 0 where
  pub to : Node
  pub sent : ℕ
  pub bytes : List ℕ
  pub text : List ℕ

abbrev pub probe : Node → ℕ → List ℕ → List ℕ → Probe
probe to sent bytes text = record { to = to; sent = sent; bytes = bytes; text = text }

abbrev pub is_answer : {S D : Type 0} → Probe → (D → Said) → Step S (Node × Packet) D → Bool
is_answer p said_of step =
    p.sent == length step.sent && bytes_eq p.text (said_text (said_of step.did))

abbrev pub answered_by : World → Node → Probe → Bool
answered_by w (node.Client id) p =
    is_answer p (said.Client id) (client_on_bytes (client_of w id) p.bytes)
answered_by w (node.Server id) p =
    is_answer p (said.Server id) (server_on_bytes (server_of w id) p.bytes)
answered_by w (node.Switch id) p =
    is_answer p (said.Switch id) (switch_on_bytes (switch_of w id) p.bytes 1)
answered_by w node.Controller p =
    is_answer p said.Controller (controller_on_bytes w.controller p.bytes)

-- whether the node of this world answers so, with the pick 1
abbrev pub answers : World → Probe → Bool
answers w p = answered_by w p.to p
