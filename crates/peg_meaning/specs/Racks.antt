-- The word `racks`: several racks, among which the keys are divided.
--     rack_for key racks      the rack of a key: the sum of its bytes modulo the number of racks
--     RacksEvent, rack_of, event_in      an event of the word, the rack that takes it, and what
--         that rack is told
--     RacksEntry, racks_lines, IsRacksWordLine      its lines
--     racks_step worlds place e      one event: a step of the one world that takes it
--     RacksWord, plays_racks      the states of the word, and its session
use Rattle.std.specs.Prelude.{sum, ◌≡◌, ◌≤◌, ◌+◌, ◌-◌, ◌%◌, ℕ, zero, suc, Bool, false, ◌==◌, nat_lt}
use Rattle.std.specs.Prelude.{Option, Some, None, List, [], ◌∷◌, ◌++◌, length, map, slice_get}
use Rattle.std.specs.Prelude.{slice_set, if◌then◌else◌, codes, decimal}
use Rattle.peg_name.specs.Name.{Rack, line_most}
use Rattle.peg_event.specs.declared.Event.{Event}
use Rattle.peg_event.specs.declared.Event.TheVariants as event
use Rattle.peg_event.specs.declared.Line.{Line}
use Rattle.peg_model.specs.World.{World, start, history, step}
use Rattle.peg_model.specs.Order.{orders}
use Rattle.peg_model.specs.Schedule.{rack_line, event_lines, IsRackLine, IsEventLine, fed}
use Rattle.peg_model.specs.Trace.{body_text, tail_text}
use Rattle.peg_meaning.specs.Session.{Meaning, Input, Entry, Came, Answer, Goes, Past, begun}
use Rattle.peg_meaning.specs.Session.{saying}
use Rattle.peg_meaning.specs.declared.Want.{Want}
use Rattle.peg_meaning.specs.declared.Want.TheVariants as want
use Rattle.peg_meaning.specs.Roles.{lines_most}

-- ---- which rack

abbrev pub rack_for : List ℕ → ℕ → ℕ
rack_for key racks = sum key % racks

-- an operation goes to the rack of its key, and every other event names its rack
pub data RacksEvent : Type 0 where
  Routed : (e : Event) → RacksEvent
  Within : (rack : ℕ) (e : Event) → RacksEvent

abbrev pub key_of : Event → Option (List ℕ)
key_of (event.Read client key) = Some key
key_of (event.Write client key value) = Some key
key_of (event.Delete client key) = Some key
key_of _ = None

abbrev pub routed : Option (List ℕ) → ℕ → ℕ
routed None racks = 0
routed (Some key) racks = rack_for key racks

abbrev pub rack_of : ℕ → RacksEvent → ℕ
rack_of racks (Routed e) = routed (key_of e) racks
rack_of racks (Within rack e) = rack

abbrev pub event_in : RacksEvent → Event
event_in (Routed e) = e
event_in (Within rack e) = e

-- ---- one event

-- the world of a rack, where there is one
abbrev pub stepped : Option World → List World → ℕ → ℕ → Event → List World × Option Line
stepped None worlds rack place e = (worlds, None)
stepped (Some w) worlds rack place e =
    let now = step w place e in (slice_set worlds rack now.0, Some now.1)

abbrev pub racks_step : List World → ℕ → RacksEvent → List World × Option Line
racks_step worlds place e =
    let rack = rack_of (length worlds) e in
    stepped (slice_get worlds rack) worlds rack place (event_in e)

-- ---- the lines

pub data RacksEntry : Type 0 where
  Counted : (racks : ℕ) → RacksEntry
  Named : (rack : Rack) (keys : List (List ℕ)) → RacksEntry
  Happens : (e : RacksEvent) → RacksEntry
  End : RacksEntry

abbrev pub in_rack_lines : ℕ → Event → List (List ℕ)
in_rack_lines rack e =
    map (λ line. codes "rack " ++ decimal rack ++ codes " " ++ line) (event_lines e)

abbrev pub racks_event_lines : RacksEvent → List (List ℕ)
racks_event_lines (Routed e) = event_lines e
racks_event_lines (Within rack e) = in_rack_lines rack e

abbrev pub racks_lines : RacksEntry → List (List ℕ)
racks_lines (Counted racks) = (codes "racks " ++ decimal racks) ∷ []
racks_lines (Named rack keys) = rack_line rack keys ∷ []
racks_lines (Happens e) = racks_event_lines e
racks_lines End = codes "end" ∷ []

-- an operation is routed, and no other event is
abbrev pub IsRouted : Event → Type 0
IsRouted (event.Read client key) = Unit {0}
IsRouted (event.Write client key value) = Unit {0}
IsRouted (event.Delete client key) = Unit {0}
IsRouted _ = ⊥

-- a line of a rack, in that rack's ranges, and with at most as many bytes as its format allows
abbrev pub IsLineOf : Option World → List ℕ → List ℕ → Event → Type 0
IsLineOf None whole line e = ⊥
IsLineOf (Some w) whole line e =
    IsEventLine w.rack line e × (length whole ≤ line_most w.rack.format)

abbrev pub IsRacksEventLine : List World → List ℕ → RacksEvent → Type 0
IsRacksEventLine worlds line (Routed e) =
    IsRouted e × IsLineOf (slice_get worlds (rack_of (length worlds) (Routed e))) line line e
IsRacksEventLine worlds line (Within rack e) =
    (IsRouted e → ⊥)
    × ((rest : List ℕ) × (line ≡ codes "rack " ++ decimal rack ++ codes " " ++ rest)
    × IsLineOf (slice_get worlds rack) line rest e)

-- ---- the session

-- the worlds so far, the rack lines that are still to come, the place of the last line, and how
-- many lines were read behind the rack lines
pub record Division : Type 0 where
  pub worlds : List World
  pub unnamed : ℕ
  pub place : ℕ
  pub lines : ℕ

pub data RacksWord : Type 0 where
  Starting : RacksWord
  Running : (d : Division) → RacksWord
  Finished : (d : Division) → RacksWord

abbrev pub IsDivisionLine : ℕ → Division → List ℕ → RacksEntry → Type 0
IsDivisionLine zero d line (Happens e) = IsRacksEventLine d.worlds line e
IsDivisionLine zero d line End = line ≡ codes "end"
IsDivisionLine (suc unnamed) d line (Named rack keys) = IsRackLine line rack keys
IsDivisionLine _ d line e = ⊥

abbrev pub IsRacksWordLine : RacksWord → List ℕ → RacksEntry → Type 0
IsRacksWordLine Starting line (Counted racks) =
    (1 ≤ racks) × (racks ≤ 8) × (line ≡ codes "racks " ++ decimal racks)
IsRacksWordLine (Running d) line e = IsDivisionLine d.unnamed d line e
IsRacksWordLine _ line e = ⊥

-- the longest line of the racks
abbrev pub longest : List World → ℕ
longest [] = 0
longest (w ∷ worlds) =
    let most = longest worlds in
    if nat_lt most (line_most w.rack.format) then line_most w.rack.format else most

abbrev pub at_place : ℕ → List ℕ → List ℕ
at_place place text = fed (decimal place ++ codes " " ++ text)

-- the histories and orders of the racks, from this one on
abbrev pub tails_text : ℕ → List World → List ℕ
tails_text rack [] = []
tails_text rack (w ∷ worlds) =
    fed (codes "rack " ++ decimal rack) ++ tail_text (history w) (orders w)
    ++ tails_text (rack + 1) worlds

abbrev pub end_text : Division → List ℕ
end_text d = at_place (d.place + 1) (codes "end") ++ tails_text 0 d.worlds

abbrev pub named : Division → Rack → List (List ℕ) → Came RacksWord
named d rack keys =
    saying
    (Running
    (record d {
      worlds = d.worlds ++ start rack keys ∷ [];
      unnamed = d.unnamed - 1;
      place = d.place + 1;
    }))
    (at_place (d.place + 1) (codes "rack"))

abbrev pub line_of : Option Line → ℕ → ℕ → List ℕ
line_of None place rack = []
line_of (Some line) place rack =
    at_place place (codes "rack " ++ decimal rack ++ codes " " ++ body_text line)

-- a rack's world with more packets than a run may have
abbrev pub is_full : Option World → Bool
is_full None = false
is_full (Some w) = nat_lt 200000 (length w.packets)

abbrev pub happens : Division → RacksEvent → Answer RacksWord
happens d e =
    let place = d.place + 1 in
    let now = racks_step d.worlds place e in
    let rack = rack_of (length d.worlds) e in
    if is_full (slice_get now.0 rack) then Past
    else Goes (saying
    (Running (record d { worlds = now.0; place = place; lines = d.lines + 1 }))
    (line_of now.1 place rack))

abbrev pub division_on : Division → RacksEntry → Answer RacksWord
division_on d (Counted racks) = Past
division_on d (Named rack keys) = Goes (named d rack keys)
division_on d (Happens e) = if d.lines == lines_most then Past else happens d e
division_on d End = Goes (saying (Finished d) (end_text d))

abbrev pub counted : ℕ → Division
counted racks = record { worlds = []; unnamed = racks; place = 1; lines = 0 }

abbrev pub racks_on : RacksWord → Input RacksEntry → Answer RacksWord
racks_on Starting (Entry (Counted racks)) =
    Goes (saying (Running (counted racks)) (at_place 1 (codes "racks " ++ decimal racks)))
racks_on (Running d) (Entry e) = division_on d e
racks_on _ input = Past

abbrev pub division_want : ℕ → Division → Want
division_want zero d = want.Line (longest d.worlds) false
division_want (suc unnamed) d = want.Line 2048 false

abbrev pub racks_want : RacksWord → Want
racks_want Starting = want.Line 2048 false
racks_want (Running d) = division_want d.unnamed d
racks_want (Finished d) = want.Over

abbrev pub plays_racks : Meaning RacksWord RacksEntry
plays_racks = record { want = racks_want; Reads = IsRacksWordLine; on = racks_on }

abbrev pub racks_start : Came RacksWord
racks_start = begun Starting [] []
