use Rattle.std.proofs.Common.{arith, length}
use Rattle.peg_packet.specs.Seen.{rows_seen}
use Rattle.peg_packet.proofs.Walking.{sets_out, stands_there, goes_on, arrives}
use Rattle.peg_packet.proofs.rows.Rows.row.Goals as goal

pub loop-left-init : goal.loop-left-init
loop-left-init c =
    sets_out (rows_seen c.args.self.now) c.bytes-bytes.result.now
    (length (rows_seen c.args.self.now)) c.args.i c.requires c.bytes-bytes.ensures.rows
    c.bytes-bytes.ensures.same

pub past_row-at-requires : goal.past_row-at-requires
past_row-at-requires c = stands_there c.loop-left.invariant

pub overflow_sub-left : goal.overflow_sub-left
overflow_sub-left c = omega arith

pub loop-left-smaller : goal.loop-left-smaller
loop-left-smaller c = omega arith

pub loop-left-preserved : goal.loop-left-preserved
loop-left-preserved c =
    goes_on c.loop-left.left c.past_row-at.result c.loop-left.invariant c.loop-left-test.true
    c.past_row-at.ensures

pub row_at-requires : goal.row_at-requires
row_at-requires c = stands_there c.loop-left.invariant

pub returns : goal.returns
returns c =
    arrives c.row_at.result c.loop-left.invariant (omega arith) c.row_at.ensures.key
    c.row_at.ensures.count c.row_at.ensures.error
