use Rattle.std.proofs.Common.{◌≤◌, ◌<◌, length, arith}
use Rattle.peg_control.proofs.Planning.{one_more, no_more}
use Rattle.peg_control.proofs.orders.Orders.wait_if_room.Goals as goal

pub returns-then-waiting-lt64 : goal.returns-then-waiting-lt64
returns-then-waiting-lt64 c =
    let room : length c.args.self.now.queue < 64 =
    omega (arith, c.if-waiting-lt64.true, c.waiting.ensures) in
    one_more c.args.self.now c.wait.new.self c.args.command.now room c.wait.ensures

pub returns-else-waiting-lt64 : goal.returns-else-waiting-lt64
returns-else-waiting-lt64 c =
    let full : 64 ≤ length c.args.self.now.queue =
    omega (arith, c.if-waiting-lt64.false, c.waiting.ensures) in
    no_more c.args.self.now c.args.command.now c.requires.few full
