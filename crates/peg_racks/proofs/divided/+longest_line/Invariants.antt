use Rattle.std.proofs.Common.{length}
use Rattle.peg_racks.proofs.divided.+longest_line.Given as goal

abbrev pub decreases-longest_line : goal.decreases-longest_line
decreases-longest_line l = length l.configs.now
