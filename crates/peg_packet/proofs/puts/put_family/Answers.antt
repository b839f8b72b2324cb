use Rattle.peg_packet.proofs.Putting.{puts_then}
use Rattle.peg_packet.proofs.puts.put_family.Goals as goal

pub returns : goal.returns
returns c =
    puts_then (puts_then c.put_begin-at.ensures c.put_header-at.ensures) c.put_key.ensures
