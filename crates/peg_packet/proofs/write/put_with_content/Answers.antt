use Rattle.peg_packet.proofs.Putting.{puts_then}
use Rattle.peg_packet.proofs.write.put_with_content.Goals as goal

pub returns : goal.returns
returns c =
    puts_then c.put_family-at.ensures c.put_content.ensures
