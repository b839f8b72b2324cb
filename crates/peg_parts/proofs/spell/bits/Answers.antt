use Rattle.std.proofs.Common.{◌≡◌, true, subst, ◌∙◌, List, ℕ}
use Rattle.peg_name.specs.Holders.{bits_of, servers_of}
use Rattle.peg_grammar.specs.State.{is_rising}
use Rattle.peg_grammar.proofs.Sets.{servers_rise}
use Rattle.peg_parts.proofs.spell.bits.Goals as goal

-- a set that a call hands out is that of its bits
pub returns-clause-rising : goal.returns-clause-rising
returns-clause-rising c =
    let same : servers_of (bits_of c.copied.result) ≡ c.copied.result = c.copied.type_inv.1.1.0.0 in
    subst (λ (set : List ℕ). is_rising set ≡ true) (same ∙ c.copied.ensures)
    (servers_rise (bits_of c.copied.result))
