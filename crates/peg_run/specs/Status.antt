-- The status of an end, its exit code, and its text on standard error.
use Rattle.std.specs.Prelude.{ℕ, List, [], ◌++◌, codes, decimal}
use Rattle.peg_session.specs.declared.End.{End}
use Rattle.peg_session.specs.declared.End.TheVariants as end
use Rattle.peg_run.specs.declared.Status.{Status}
use Rattle.peg_run.specs.declared.Status.TheVariants as status

abbrev pub code_of : Status → ℕ
code_of status.Done = 0
code_of status.OutOfMemory = 1
code_of status.Usage = 2
code_of status.ReadFault = 3
code_of status.WriteFault = 4
code_of status.WireFault = 5
code_of (status.BadInput line) = 6
code_of (status.TooMuch line) = 7

abbrev pub status_text : Status → List ℕ
status_text status.Done = []
status_text status.OutOfMemory = codes "peg: out of memory"
status_text status.Usage = codes "peg: usage"
status_text status.ReadFault = codes "peg: read fault"
status_text status.WriteFault = codes "peg: write fault"
status_text status.WireFault = codes "peg: network fault"
status_text (status.BadInput line) = codes "peg: line " ++ decimal line ++ codes " is not accepted"
status_text (status.TooMuch line) = codes "peg: line " ++ decimal line ++ codes " is past the limit"

abbrev pub status_of : End → Status
status_of end.Done = status.Done
status_of end.OutOfMemory = status.OutOfMemory
status_of end.ReadFault = status.ReadFault
status_of end.WriteFault = status.WriteFault
status_of end.WireFault = status.WireFault
status_of (end.BadInput line) = status.BadInput line
status_of (end.TooMuch line) = status.TooMuch line
