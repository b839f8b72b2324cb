-- What the word `racks` plays and writes, told by its lines.
--     worlds_of entries      the racks of the rack lines, as they begin
--     events_from place entries      the events, each at the place of its line
--     run_of entries      the run of all racks
--     heads_from place entries, lines_text entries      what is written of the lines that name
--         racks, and of all lines
--     PlaysRun entries s text      the worlds are those of that run, and so is what is written
use Rattle.std.specs.Prelude.{◌≡◌, ◌+◌, ℕ, Some, List, [], ◌∷◌, ◌++◌, length, map, flat_map, codes}
use Rattle.std.specs.Prelude.{decimal}
use Rattle.peg_event.specs.declared.Line.{Line}
use Rattle.peg_model.specs.World.{World, start}
use Rattle.peg_meaning.specs.Racks.{RacksEntry, Counted, Named, Happens, RacksWord, Starting}
use Rattle.peg_meaning.specs.Racks.{Running, Finished, at_place, line_of, tails_text}
use Rattle.peg_word_law.specs.Runs.{racks_of}
use Rattle.peg_word_law.specs.Isolated.{Placed, run_racks}

abbrev pub worlds_of : List RacksEntry → List World
worlds_of entries = map (λ r. start r.0 r.1) (racks_of entries)

abbrev pub events_from : ℕ → List RacksEntry → Placed
events_from place [] = []
events_from place (Happens e ∷ entries) = (place, e) ∷ events_from (place + 1) entries
events_from place (_ ∷ entries) = events_from (place + 1) entries

abbrev pub run_of : List RacksEntry → List World × List (ℕ × ℕ × Line)
run_of entries = run_racks (worlds_of entries) (events_from 1 entries)

abbrev pub head_text : ℕ → RacksEntry → List ℕ
head_text place (Counted racks) = at_place place (codes "racks " ++ decimal racks)
head_text place (Named rack keys) = at_place place (codes "rack")
head_text place _ = []

abbrev pub heads_from : ℕ → List RacksEntry → List ℕ
heads_from place [] = []
heads_from place (e ∷ entries) = head_text place e ++ heads_from (place + 1) entries

abbrev pub racks_line : ℕ × ℕ × Line → List ℕ
racks_line (rack, place, line) = line_of (Some line) place rack

-- the lines that name racks come first
abbrev pub lines_text : List RacksEntry → List ℕ
lines_text entries = heads_from 1 entries ++ flat_map racks_line (run_of entries).1

abbrev pub PlaysRun : List RacksEntry → RacksWord → List ℕ → Type 0
PlaysRun entries Starting text = text ≡ []
PlaysRun entries (Running d) text =
    (d.worlds ≡ (run_of entries).0) × (text ≡ lines_text entries)
PlaysRun entries (Finished d) text =
    (d.worlds ≡ (run_of entries).0)
    × (text
    ≡ lines_text entries
    ++ (at_place (length entries) (codes "end") ++ tails_text 0 (run_of entries).0))
