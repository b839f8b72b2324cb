-- What a line of a schedule says, as a function of its words.
--     entry_of rack line      the event that it spells, or the end
use Rattle.std.specs.Prelude.{ℕ, Option, Some, None, option_map, List, [], ◌∷◌, if◌then◌else◌}
use Rattle.std.specs.Prelude.{codes}
use Rattle.std.specs.Str.{bytes_eq}
use Rattle.peg_name.specs.Name.{Rack, value_most}
use Rattle.peg_name.specs.declared.Format.{Format}
use Rattle.peg_name.specs.declared.Format.TheVariants.{One, Two}
use Rattle.peg_name.specs.declared.Node.{Node}
use Rattle.peg_name.specs.declared.Node.TheVariants as node
use Rattle.peg_event.specs.declared.Event.{Event}
use Rattle.peg_event.specs.declared.Event.TheVariants as event
use Rattle.peg_text.specs.declared.event.Entry.{Entry}
use Rattle.peg_text.specs.declared.event.Entry.TheVariants as entry
use Rattle.peg_text.specs.Reading.{words_of, number_of, number_below, key_of, value_of, hex_of}
use Rattle.peg_text.specs.Reading.{then_by, next_by, both_by, whole_of}

-- what a reader gives: a value and the words that are left
abbrev pub Read : Type 0 → Type 0
Read X = Option (X × List (List ℕ))

-- what was read, as another value
abbrev pub read_as : {X Y : Type 0} → (X → Y) → Read X → Read Y
read_as f r = then_by r (λ x left. Some (f x, left))

abbrev pub read_client : Rack → List (List ℕ) → Read ℕ
read_client rack ws = next_by (number_below rack.clients) ws

abbrev pub read_key : List (List ℕ) → Read (List ℕ)
read_key ws = next_by key_of ws

abbrev pub read_number : List (List ℕ) → Read ℕ
read_number ws = next_by number_of ws

abbrev pub read_target : List (List ℕ) → Read ℕ
read_target ws = next_by (number_below 256) ws

abbrev pub read_value : Rack → List (List ℕ) → Read (List ℕ)
read_value rack ws = next_by (value_of (value_most rack.format)) ws

-- 0 where no word is left
abbrev pub read_pick : List (List ℕ) → Read ℕ
read_pick [] = Some (0, [])
read_pick (w ∷ ws) = read_number (w ∷ ws)

abbrev pub node_by : Rack → List ℕ → List (List ℕ) → Read Node
node_by rack word ws =
    if bytes_eq word (codes "client") then read_as node.Client (read_client rack ws)
    else
    (if bytes_eq word (codes "server") then read_as node.Server
    (next_by (number_below rack.servers) ws)
    else
    (if bytes_eq word (codes "switch") then read_as node.Switch
    (next_by (number_below rack.switches) ws)
    else (if bytes_eq word (codes "controller") then Some (node.Controller, ws)
    else None)))

abbrev pub read_node : Rack → List (List ℕ) → Read Node
read_node rack [] = None
read_node rack (word ∷ ws) = node_by rack word ws

abbrev pub deletes : Format → Rack → List (List ℕ) → Read Event
deletes One rack ws = None
deletes Two rack ws = read_as (λ p. event.Delete p.0 p.1) (both_by (read_client rack) read_key ws)

-- an event of one word
abbrev pub bare_event : List ℕ → Option Event
bare_event verb =
    if bytes_eq verb (codes "clear") then Some event.Clear
    else (if bytes_eq verb (codes "retry") then Some event.Retry
    else (if bytes_eq verb (codes "survey") then Some event.Survey
    else None))

-- what the controller is asked for
abbrev pub control_event : List ℕ → List (List ℕ) → Read Event
control_event verb ws =
    if bytes_eq verb (codes "promote") then read_as event.Promote (read_key ws)
    else (if bytes_eq verb (codes "demote") then read_as event.Demote (read_key ws)
    else
    (if bytes_eq verb (codes "copy") then read_as (λ p. event.Copy p.0 p.1)
    (both_by read_key read_target ws)
    else (if bytes_eq verb (codes "fence") then read_as event.Fence (read_key ws)
    else (if bytes_eq verb (codes "handover") then read_as event.Handover (read_target ws)
    else
    (if bytes_eq verb (codes "plan") then read_as (λ p. event.Plan p.0 p.1)
    (both_by read_number read_number ws)
    else option_map (λ e. (e, ws)) (bare_event verb))))))

-- packets and junk, or what the controller is asked for
abbrev pub packet_event : Rack → List ℕ → List (List ℕ) → Read Event
packet_event rack verb ws =
    if bytes_eq verb (codes "deliver") then read_as (λ p. event.Deliver p.0 p.1)
    (both_by read_number read_pick ws)
    else
    (if bytes_eq verb (codes "junk") then read_as (λ p. event.Junk p.0 p.1)
    (both_by (read_node rack) (next_by (hex_of 1000)) ws)
    else control_event verb ws)

-- what clients begin, or another event
abbrev pub event_by : Rack → List ℕ → List (List ℕ) → Read Event
event_by rack verb ws =
    if bytes_eq verb (codes "read") then read_as (λ p. event.Read p.0 p.1)
    (both_by (read_client rack) read_key ws)
    else
    (if bytes_eq verb (codes "write") then read_as (λ p. event.Write p.0 p.1.0 p.1.1)
    (both_by (read_client rack) (both_by read_key (read_value rack)) ws)
    else (if bytes_eq verb (codes "delete") then deletes rack.format rack ws
    else (if bytes_eq verb (codes "resend") then read_as event.Resend (read_client rack ws)
    else (if bytes_eq verb (codes "giveup") then read_as event.GiveUp (read_client rack ws)
    else packet_event rack verb ws))))

abbrev pub event_in : Rack → List (List ℕ) → Option Event
event_in rack [] = None
event_in rack (verb ∷ ws) = whole_of (event_by rack verb ws)

abbrev pub entry_from : Option Event → List ℕ → Option Entry
entry_from (Some e) line = Some (entry.Event e)
entry_from None line = if bytes_eq line (codes "end") then Some entry.End else None

abbrev pub entry_of : Rack → List ℕ → Option Entry
entry_of rack line = entry_from (event_in rack (words_of line)) line
