use Rattle.peg_packet.proofs.Putting.{puts_then}
use Rattle.peg_model.specs.Packet.{spelling}
use Rattle.peg_packet.proofs.write.put_copy_order.Goals as goal

pub returns : goal.returns
unfolding spelling
returns c =
    puts_then
    (puts_then (puts_then (puts_then c.put_begin-at.ensures c.put_switch-at.ensures)
    c.put_server-at.ensures) c.put_server-at-2.ensures)
    c.put_key.ensures
