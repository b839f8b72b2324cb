-- Rounds of a choice and its charge, among servers that were equal.
--     rounds n loads servers      the loads after so many
--     AreEqual loads servers weight load      the servers have this weight and this load
--     IsFair n loads servers      their loads differ by at most one, and all rounds are among them
--     IsRising servers last, IsBelowLast loads servers      the servers in rising order, each below
--         this number; and none of them has the greatest load that there is
use Rattle.std.specs.Prelude.{sum_by, ◌≡◌, ◌<◌, ◌≤◌, ◌+◌, ℕ, zero, suc, List, [], ◌∷◌, Contains}
use Rattle.std.specs.List.{AllByRecursion}
use Rattle.peg_model.specs.Words.{last_number}
use Rattle.peg_meaning.specs.Balance.{Loads, load_of, weight_of, round}

abbrev pub rounds : ℕ → Loads → List ℕ → Loads
rounds zero l servers = l
rounds (suc n) l servers = rounds n (round l servers) servers

-- the servers have one weight and one load
pub record AreEqual (l : Loads) (servers : List ℕ) (weight load : ℕ) : Type 0 where
  pub positive : 1 ≤ weight
  pub weights : AllByRecursion (λ s. weight_of l s ≡ weight) servers
  pub loads : AllByRecursion (λ s. load_of l s ≡ load) servers

-- after n rounds over these servers: their loads differ by at most one, and add up to n more than
-- before; all others stay
pub record IsFair (n : ℕ) (l : Loads) (servers : List ℕ) : Type 0 where
  pub near :
      (s t : ℕ) → Contains servers s → Contains servers t
      → load_of (rounds n l servers) s ≤ load_of (rounds n l servers) t + 1
  pub total :
      sum_by (load_of (rounds n l servers)) servers ≡ sum_by (load_of l) servers + n
  pub others :
      (s : ℕ) → (Contains servers s → ⊥) → load_of (rounds n l servers) s ≡ load_of l s

-- servers in rising order, each below this
abbrev pub IsRising : List ℕ → ℕ → Type 0
IsRising [] last = Unit {0}
IsRising (server ∷ servers) last =
    (server < last) × AllByRecursion (λ s. server < s) servers × IsRising servers last

-- no load has come to the last number
abbrev pub IsBelowLast : Loads → List ℕ → Type 0
IsBelowLast l servers = AllByRecursion (λ s. load_of l s < last_number) servers
