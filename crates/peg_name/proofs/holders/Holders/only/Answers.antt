use Rattle.std.proofs.Common.{ap, ◌∙◌}
use Rattle.peg_name.specs.Holders.{servers_of}
use Rattle.peg_name.proofs.Servers.{one_in}
use Rattle.peg_name.proofs.holders.Holders.only.Goals as goal

pub returns : goal.returns
returns c = ap servers_of c.bit.ensures ∙ one_in c.args.server c.requires
