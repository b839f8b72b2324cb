-- What the lists of a wire in memory are seen as.
use Rattle.std.specs.Prelude.{ℕ, List}
use Rattle.std.specs.Borrow.{Bor}
use Rattle.peg_meaning.specs.Wire.{Turn, Datagram, Pause, Sent}
use Rattle.peg_io.specs.Memory.{Coming, Carries, Pauses, Fails}
use Rattle.peg_io.specs.declared.script.Scripted.{Scripted}
use Rattle.peg_io.specs.declared.script.Scripted.TheVariants as scripted
use Rattle.peg_io.specs.declared.script.Turned.{Turned}
use Rattle.peg_io.specs.declared.script.Turned.TheVariants as turned
use Rattle.peg_io.specs.declared.script.Attempt.{Attempt}

abbrev pub coming_of : Scripted → Coming
coming_of (scripted.Datagram bytes) = Carries bytes.items
coming_of scripted.Pause = Pauses
coming_of scripted.Fail = Fails

abbrev pub turn_of : Turned → Turn
turn_of (turned.Datagram slot bytes) = Datagram slot bytes.items
turn_of (turned.Pause slot) = Pause slot

abbrev pub sent_of : Attempt → Sent
sent_of a = record { turn = a.turn; slot = a.slot; port = a.port; bytes = a.bytes.items }

-- a send as it is read
abbrev pub sent_read : (ℕ × ℕ × ℕ × Bor (List ℕ)) → Sent
sent_read s = record { turn = s.0; slot = s.1; port = s.2; bytes = s.3.now }
