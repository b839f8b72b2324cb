-- Bytes that are read as a packet of the rack's format.
use Rattle.std.proofs.Common.{◌≡◌, true, Option, Some, refl, ap, ◌∙◌}
use Rattle.std.specs.Prelude.{if◌then◌else◌}
use Rattle.peg_name.specs.declared.Format.{Format}
use Rattle.peg_name.specs.declared.Format.TheVariants.{One, Two}
use Rattle.peg_name.specs.declared.Node.{Node}
use Rattle.peg_model.specs.Words.{Step, refuse}
use Rattle.peg_model.specs.Packet.{Packet}
use Rattle.peg_model.specs.Reading.{is_format}
use Rattle.peg_model.specs.Datagrams.{on_bytes}

same_format : (format : Format) → is_format format format ≡ true
same_format One = refl
same_format Two = refl

pub on_read_bytes :
    {S D : Type 0} (read : Option (Format × Packet)) (format : Format)
    → (step : Packet → Step S (Node × Packet) D) (s : S) (malformed misplaced : D) (p : Packet)
    → read ≡ Some (format, p)
    → on_bytes read format step s malformed misplaced ≡ step p
on_read_bytes read format step s malformed misplaced p e =
    ap (λ r. on_bytes r format step s malformed misplaced) e
    ∙ ap (λ b. if b then step p else refuse s misplaced) (same_format format)
