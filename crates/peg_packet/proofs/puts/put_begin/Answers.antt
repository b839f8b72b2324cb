use Rattle.std.proofs.Common.{[], ◌∷◌, ◌∙◌}
use Rattle.peg_packet.proofs.Putting.{puts_same, format_byte-number}
use Rattle.peg_packet.proofs.puts.put_begin.Goals as goal

pub returns : goal.returns
returns c =
    puts_same c.put_slice.ensures
    (λ i.
    0x50 ∷ 0x47 ∷ (c.number.ensures ∙ format_byte-number c.args.format) i ∷ c.args.kind ∷ [])
