use Rattle.std.proofs.Common.{◌≡◌, ◌+◌, true, length}
use Rattle.peg_model.specs.Datagrams.{are_packets}
use Rattle.peg_packet.specs.Outbox.{posted}
use Rattle.peg_packet.specs.Nodes.{are_in_rack}
use Rattle.peg_switch.specs.Kept.{some_parts}
use Rattle.peg_switch.proofs.handover.send_each.Given as goal

abbrev pub invariant-loop-index : goal.invariant-loop-index
invariant-loop-index l = record {
  room : length l.post.items ≡ length l.fn.post.items + l.index;
  slots : l.post.slots ≡ l.fn.post.slots;
  nodes :
      are_in_rack l.state.rack (some_parts l.state.bytes l.target l.epoch l.index) ≡ true;
  posted : l.post ≡ posted l.fn.post (some_parts l.state.bytes l.target l.epoch l.index);
  packets :
      are_packets l.state.rack.format (some_parts l.state.bytes l.target l.epoch l.index) ≡ true;
}
