use Rattle.std.proofs.Common.{ap, sym, ◌∙◌, length}
use Rattle.peg_name.proofs.Servers.{length-servers_of}
use Rattle.peg_name.proofs.holders.Holders.count.Goals as goal

pub returns : goal.returns
returns c =
    sym (length-servers_of c.self.inside.0 c.self.invariant) ∙ ap length c.self.view_is
