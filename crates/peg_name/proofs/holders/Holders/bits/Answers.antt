use Rattle.std.proofs.Common.{ap, sym, ◌∙◌}
use Rattle.peg_name.specs.Holders.{bits_of}
use Rattle.peg_name.specs.Bits.{bits_of-servers_of}
use Rattle.peg_name.proofs.holders.Holders.bits.Goals as goal

pub returns : goal.returns
returns c =
    sym (bits_of-servers_of c.self.inside.0 c.self.invariant) ∙ ap bits_of c.self.view_is
