-- The lightest of a list, found from its front; the place of a server in a list.
use Rattle.std.proofs.Common.{◌≡◌, ◌<◌, ◌≤◌, ◌+◌, ◌*◌, ◌^◌, ◌==◌, ℕ, zero, suc, Bool, true, false}
use Rattle.std.proofs.Common.{if◌then◌else◌, Some, List, [], ◌∷◌, ◌++◌, length, drop, ap, sym, ◌∙◌}
use Rattle.std.proofs.Common.{refl, arith}
use Rattle.std.specs.Prelude.{slice_get}
use Rattle.std.proofs.lemmas.List.{drop_more}
use Rattle.std.proofs.lemmas.Option.{get_or_from_slice_get}
use Rattle.std.proofs.Math.Nat.{mul-le-mul_left}
use Rattle.peg_model.specs.Words.{below}
use Rattle.peg_meaning.specs.Balance.{Loads, is_lighter, chosen_over, chosen, place_of}

-- ---- from the front

pub choice_goes :
    (l : Loads) (servers : List ℕ) (place best server : ℕ)
    → place < length servers → slice_get servers place ≡ Some server
    → chosen_over l (if is_lighter l server best then server else best) (drop (place + 1) servers)
    ≡ chosen_over l best (drop place servers)
choice_goes l servers place best server within is =
    sym
    (ap (chosen_over l best) (drop_more servers place 0 within)
    ∙ ap
    (λ s. chosen_over l (if is_lighter l s best then s else best) (drop (place + 1) servers))
    (get_or_from_slice_get servers place server 0 is))

-- ---- one more server

over_more :
    (l : Loads) (best n : ℕ) (servers : List ℕ)
    → chosen_over l best (servers ++ n ∷ [])
    ≡ (if is_lighter l n (chosen_over l best servers) then n else chosen_over l best servers)
over_more l best n [] = refl
over_more l best n (server ∷ servers) =
    over_more l (if is_lighter l server best then server else best) n servers

either : (b : Bool) (n : ℕ) → (if b then n else n) ≡ n
either true n = refl
either false n = refl

chosen_more :
    (l : Loads) (n : ℕ) (servers : List ℕ) → 1 ≤ length servers
    → chosen l (servers ++ n ∷ [])
    ≡ (if is_lighter l n (chosen l servers) then n else chosen l servers)
chosen_more l n [] some = absurd (omega (arith, some))
chosen_more l n (server ∷ servers) some = over_more l server n servers

some_more : (servers : List ℕ) (n : ℕ) → 1 ≤ length (servers ++ n ∷ [])
some_more [] n = omega arith
some_more (server ∷ servers) n = omega arith

some_below : (n : ℕ) → 1 ≤ n → 1 ≤ length (below n)
some_below zero some = absurd (omega (arith, some))
some_below (suc n) some = some_more (below n) n

-- server 0 stands for none
any_goes_on :
    (l : Loads) (n : ℕ)
    → chosen l (below (suc n))
    ≡ (if is_lighter l n (chosen l (below n)) then n else chosen l (below n))
any_goes_on l zero = sym (either (is_lighter l 0 0) 0)
any_goes_on l (suc n) = chosen_more l (suc n) (below (suc n)) (some_below (suc n) (omega arith))

pub any_goes :
    (l : Loads) (n : ℕ)
    → chosen l (below (n + 1))
    ≡ (if is_lighter l n (chosen l (below n)) then n else chosen l (below n))
any_goes l n =
    let more : n + 1 ≡ suc n = omega arith in
    ap (λ k. chosen l (below k)) more ∙ any_goes_on l n

-- ---- places

place_at :
    (server place there : ℕ) (servers : List ℕ)
    → place < length servers → slice_get servers place ≡ Some there
    → place_of server (drop place servers)
    ≡ (if there == server then 0 else 1 + place_of server (drop (place + 1) servers))
place_at server place there servers within is =
    ap (place_of server) (drop_more servers place 0 within)
    ∙ ap (λ s. if s == server then 0 else 1 + place_of server (drop (place + 1) servers))
    (get_or_from_slice_get servers place there 0 is)

pub place_here :
    (server place there : ℕ) (servers : List ℕ)
    → place < length servers → slice_get servers place ≡ Some there → (there == server) ≡ true
    → place_of server servers ≡ place + place_of server (drop place servers)
    → place ≡ place_of server servers
place_here server place there servers within is same before =
    let none : place_of server (drop place servers) ≡ 0 =
    place_at server place there servers within is
    ∙ ap (λ b. if b then 0 else 1 + place_of server (drop (place + 1) servers)) same in
    omega (arith, before, none)

pub place_later :
    (server place there : ℕ) (servers : List ℕ)
    → place < length servers → slice_get servers place ≡ Some there → (there == server) ≡ false
    → place_of server servers ≡ place + place_of server (drop place servers)
    → place_of server servers ≡ (place + 1) + place_of server (drop (place + 1) servers)
place_later server place there servers within is differs before =
    let one : place_of server (drop place servers)
    ≡ 1 + place_of server (drop (place + 1) servers) =
    place_at server place there servers within is
    ∙ ap (λ b. if b then 0 else 1 + place_of server (drop (place + 1) servers)) differs in
    omega (arith, before, one)

-- ---- products

pub product_fits :
    (load weight : ℕ) → load < 2 ^ 64 → weight < 2 ^ 32 → load * weight < 2 ^ 128
product_fits load weight small light =
    let le : weight ≤ 4294967296 = omega (arith, light) in
    let scaled = mul-le-mul_left load le in
    omega (arith, scaled, small)
