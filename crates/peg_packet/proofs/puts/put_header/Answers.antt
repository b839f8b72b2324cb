use Rattle.peg_packet.proofs.Putting.{puts_then}
use Rattle.peg_packet.proofs.puts.put_header.Goals as goal

pub returns : goal.returns
returns c =
    puts_then
    (puts_then (puts_then (puts_then c.put_client-at.ensures c.put_seq-at.ensures)
    c.put_version-at.ensures) c.put_server-at.ensures)
    c.put_switch.ensures
