use Rattle.std.proofs.Common.{◌≡◌, take, length}
use Rattle.peg_model.specs.Handover.{stamps_at}
use Rattle.peg_parts.proofs.read.read_rows.Given as goal

abbrev pub invariant-loop-client : goal.invariant-loop-client
invariant-loop-client l = record {
  next : l.stamper.next ≡ l.fn.stamper.next;
  rows : take l.client l.stamper.rows ≡ stamps_at l.bytes l.client 18;
  clients : length l.stamper.rows ≡ l.clients;
}
