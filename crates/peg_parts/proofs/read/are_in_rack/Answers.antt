use Rattle.std.proofs.Common.{◌≡◌, ℕ, nat_lt, length, get_or, false, sym, ◌∙◌, ap, arith, ◌&&◌}
use Rattle.std.proofs.lemmas.Option.{get_or_from_slice_get}
use Rattle.peg_parts.proofs.Lists.{all_next, all_fails, and_none}
use Rattle.peg_parts.proofs.read.are_in_rack.Goals as goal

pub returns-then-not-has_server : goal.returns-then-not-has_server
returns-then-not-has_server c =
    let servers : ℕ = c.args.config.now.servers in
    let holders = c.args.holders.now in
    let at : get_or holders c.loop-place.place 0 ≡ c.nth.result =
    get_or_from_slice_get holders c.loop-place.place c.nth.result 0 c.nth.ensures
    in
    let outside : nat_lt (get_or holders c.loop-place.place 0) servers ≡ false =
    ap (λ server. nat_lt server servers) at ∙ sym c.has_server.ensures ∙ c.if-not-has_server.true
    in
    sym
    (ap (λ b. nat_lt 0 (length holders) && b)
    (all_fails (λ server. nat_lt server servers) holders c.loop-place.place 0 (omega arith) outside)
    ∙ and_none (nat_lt 0 (length holders)))

pub loop-place-preserved : goal.loop-place-preserved
loop-place-preserved c =
    let servers : ℕ = c.args.config.now.servers in
    let holders = c.args.holders.now in
    let at : get_or holders c.loop-place.place 0 ≡ c.nth.result =
    get_or_from_slice_get holders c.loop-place.place c.nth.result 0 c.nth.ensures
    in
    all_next (λ server. nat_lt server servers) holders c.loop-place.place 0 (omega arith)
    c.loop-place.invariant
    (ap (λ server. nat_lt server servers) at ∙ sym c.has_server.ensures ∙ c.if-not-has_server.false)
