-- The lines of a trace, one by one, without line feeds.
--     event_lines place lines      those of events, from this place on
--     trace_lines lines      all of them: the rack line, the events, the end
use Rattle.std.specs.Prelude.{◌+◌, ℕ, List, [], ◌∷◌, ◌++◌, length, codes, decimal}
use Rattle.peg_event.specs.declared.Line.{Line}
use Rattle.peg_model.specs.Trace.{line_text}

abbrev pub event_lines : ℕ → List Line → List (List ℕ)
event_lines place [] = []
event_lines place (line ∷ lines) = line_text place line ∷ event_lines (place + 1) lines

abbrev pub end_line : ℕ → List ℕ
end_line place = decimal place ++ codes " end"

abbrev pub trace_lines : List Line → List (List ℕ)
trace_lines lines = codes "1 rack" ∷ event_lines 2 lines ++ end_line (length lines + 2) ∷ []
