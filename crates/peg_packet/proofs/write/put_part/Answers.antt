use Rattle.peg_packet.proofs.Putting.{puts_then}
use Rattle.peg_model.specs.Packet.{spelling}
use Rattle.peg_packet.proofs.write.put_part.Goals as goal

pub returns : goal.returns
unfolding spelling
returns c =
    puts_then
    (puts_then (puts_then (puts_then c.put_begin-at.ensures c.put_eight-at.ensures)
    c.put_byte-at.ensures) c.put_byte-at-2.ensures)
    c.put_value.ensures
