use Rattle.std.proofs.Common.{◌≡◌, length, ap, sym, ◌∙◌, arith, if◌then◌else◌, ℕ}
use Rattle.peg_model.specs.Words.{below}
use Rattle.peg_meaning.specs.Balance.{Loads, is_lighter, chosen}
use Rattle.peg_balance.proofs.Choosing.{any_goes}
use Rattle.peg_balance.proofs.Loads.choose_any.Goals as goal

pub loop-server-preserved : goal.loop-server-preserved
loop-server-preserved c =
    let l = c.args.self.now in
    let server = c.loop-server.server in
    c.lighter-best.ensures
    ∙ ap (λ best. if is_lighter l server best then server else best) c.loop-server.invariant
    ∙ sym (any_goes l server)

pub returns : goal.returns
returns c =
    let all : c.loop-server.server ≡ c.len-server-end.result = omega arith in
    c.loop-server.invariant
    ∙ ap (λ (n : ℕ). chosen c.args.self.now (below n))
    (all ∙ c.len-server-end.ensures.value ∙ ap (λ (l : Loads). length l.weights) c.self.view_is)
