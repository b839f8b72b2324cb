-- What an adapter passes on: the bytes of its reader or writer, as std's traits tell of them.
--     ReadsFrom before now got buf      what was read was consumed and lies in the buffer
--     WritesTo before now took bytes      what was written was appended
use Rattle.std.specs.Prelude.{ℕ, Option, List, [], take}
use Rattle.std.specs.Io.KnownBytes.{Consumes, Appends, Keeps, IsAtEnd}
use Rattle.peg_io.specs.declared.Got.{Got}
use Rattle.peg_io.specs.declared.Got.TheVariants as got
use Rattle.peg_io.specs.declared.Took.{Took}
use Rattle.peg_io.specs.declared.Took.TheVariants as took

abbrev pub ReadsFrom : Option (List ℕ) → Option (List ℕ) → Got → List ℕ → Type 0
ReadsFrom before now (got.Bytes n) buf = Consumes before now (take n buf)
ReadsFrom before now got.End buf = Consumes before now [] × IsAtEnd now
ReadsFrom before now got.Failed buf = Keeps before now

abbrev pub WritesTo : Option (List ℕ) → Option (List ℕ) → Took → List ℕ → Type 0
WritesTo before now (took.Bytes n) bytes = Appends before now (take n bytes)
WritesTo before now took.Failed bytes = Keeps before now
