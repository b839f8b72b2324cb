-- A number goes down the weights until one is above what is left of it.
use Rattle.std.proofs.Common.{◌≡◌, ◌<◌, ◌≤◌, ◌+◌, ◌-◌, ℕ, true, false, if◌then◌else◌, List, length}
use Rattle.std.proofs.Common.{get_or, drop, nat_lt, ap, ◌∙◌, arith}
use Rattle.std.proofs.lemmas.List.{drop_more, drop_all}
use Rattle.std.proofs.lemmas.Bool.Decides.{nat_tests}
use Rattle.peg_meaning.specs.Workload.{weight_above}

above_at :
    (ws : List ℕ) (j left : ℕ) → j < length ws
    → weight_above left (drop j ws)
    ≡ (if nat_lt left (get_or ws j 0) then 0
    else 1 + weight_above (left - get_or ws j 0) (drop (j + 1) ws))
above_at ws j left lt = ap (weight_above left) (drop_more ws j 0 lt)

pub above_here :
    (r : ℕ) (ws : List ℕ) (j left : ℕ) → j < length ws → left < get_or ws j 0
    → weight_above r ws ≡ j + weight_above left (drop j ws) → j ≡ weight_above r ws
above_here r ws j left lt here done =
    let stops : nat_lt left (get_or ws j 0) ≡ true = grind (arith, nat_tests) in
    let none : weight_above left (drop j ws) ≡ 0 =
    above_at ws j left lt
    ∙ ap (λ b. if b then 0 else 1 + weight_above (left - get_or ws j 0) (drop (j + 1) ws)) stops in
    omega (arith, done, none)

pub above_later :
    (r : ℕ) (ws : List ℕ) (j left : ℕ) → j < length ws → get_or ws j 0 ≤ left
    → weight_above r ws ≡ j + weight_above left (drop j ws)
    → weight_above r ws ≡ (j + 1) + weight_above (left - get_or ws j 0) (drop (j + 1) ws)
above_later r ws j left lt past done =
    let goes : nat_lt left (get_or ws j 0) ≡ false = grind (arith, nat_tests) in
    let one : weight_above left (drop j ws)
    ≡ 1 + weight_above (left - get_or ws j 0) (drop (j + 1) ws) =
    above_at ws j left lt
    ∙ ap (λ b. if b then 0 else 1 + weight_above (left - get_or ws j 0) (drop (j + 1) ws)) goes in
    omega (arith, done, one)

pub above_none :
    (r : ℕ) (ws : List ℕ) (j left : ℕ) → j ≡ length ws
    → weight_above r ws ≡ j + weight_above left (drop j ws) → length ws ≡ weight_above r ws
above_none r ws j left all done =
    let none : weight_above left (drop j ws) ≡ 0 =
    ap (weight_above left) (drop_all j ws (omega arith)) in
    omega (arith, done, none)
