use Rattle.std.proofs.Common.{◌≡◌, sym, ◌∙◌, rules}
use Rattle.peg_packet.specs.Seen.{seen}
use Rattle.peg_switch.proofs.Allowing.{spelled_allows}
use Rattle.peg_switch.proofs.Switch.allowed.Goals as goal

pub returns : goal.returns
returns c =
    let s = c.args.self.now in
    let format = c.in-Some.format in
    let same : format ≡ s.rack.format = search rules in
    c.packet_allowed.ensures
    ∙ sym
    (spelled_allows s c.args.bytes.now format (seen c.in-Some.packet)
    (sym c.in-Some.ensures.packet) same)
