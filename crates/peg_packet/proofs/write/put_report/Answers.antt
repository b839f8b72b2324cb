use Rattle.std.proofs.Common.{◌++◌, ◌∷◌, []}
use Rattle.peg_model.specs.Packet.{spelling, begin, eight}
use Rattle.peg_packet.proofs.Putting.{puts_then, puts_same}
use Rattle.peg_packet.proofs.write.put_report.Goals as goal

pub returns : goal.returns
unfolding spelling
returns c =
    puts_same
    (puts_then (puts_then (puts_then (puts_then c.put_begin-at.ensures c.put_eight-at.ensures)
    c.put_eight-at-2.ensures) c.put_byte-at.ensures) c.put_slice.ensures)
    (λ i.
    (begin c.args.format 15 ++ eight c.args.epoch ++ eight c.args.total
    ++ c.len.ensures i ∷ [])
    ++ c.bytes.ensures.spelled i)
