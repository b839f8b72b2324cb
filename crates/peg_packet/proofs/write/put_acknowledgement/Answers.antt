use Rattle.peg_packet.proofs.Putting.{puts_then}
use Rattle.peg_packet.proofs.write.put_acknowledgement.Goals as goal

pub returns : goal.returns
returns c =
    puts_then
    (puts_then (puts_then c.put_begin-at.ensures c.put_eight-at.ensures) c.put_byte-at.ensures)
    c.put_eight.ensures
