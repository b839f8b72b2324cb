use Rattle.peg_packet.proofs.Putting.{puts_then}
use Rattle.peg_packet.proofs.write.put_at_version.Goals as goal

pub returns : goal.returns
returns c =
    puts_then
    (puts_then (puts_then (puts_then c.put_begin-at.ensures c.put_switch-at.ensures)
    c.put_server-at.ensures) c.put_version-at.ensures)
    c.put_key.ensures
