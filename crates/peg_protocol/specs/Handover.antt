-- Which switch holds the current state, and what parts were sent.
use Rattle.std.specs.Prelude.{◌≡◌, ℕ, ◌+◌, ◌<◌, ◌≤◌, ◌≢◌, ◌⊎◌, true, Contains}
use Rattle.peg_protocol.specs.Packet.{item, Part, Switch}
use Rattle.peg_protocol.specs.Core.{Core}
use Rattle.peg_protocol.specs.System.{System, Mode, Idle, Active, Sealed}

abbrev pub PartWasSent : System → ℕ → ℕ → ℕ → ℕ → Core → Type 0
PartWasSent s b epoch i count core = Contains s.sent (item (Switch b) (Part epoch i count core))

abbrev pub IsSealed : Mode → Type 0
IsSealed Idle = ⊥
IsSealed Active = ⊥
IsSealed (Sealed target) = Unit {0}

abbrev pub IsHolding : Mode → Type 0
IsHolding Idle = ⊥
IsHolding Active = Unit {0}
IsHolding (Sealed target) = Unit {0}

-- the holder is the active switch, or where none is active the last sealed one; its epoch is the
-- current one
pub record HandoverLaw (s : System) (holder : ℕ) : Type 0 where
  pub holds : IsHolding (s.modes holder)
  pub active : (b : ℕ) → s.modes b ≡ Active → b ≡ holder
  pub others : (b : ℕ) → b ≢ holder → s.epochs b < s.epochs holder
  pub one_state : (b b' epoch i i' n n' : ℕ) (core core' : Core) → PartWasSent s b epoch i n core →
      PartWasSent s b' epoch i' n' core' → (b ≡ b') × (core ≡ core')
  pub old : (b epoch i n : ℕ) (core : Core) → PartWasSent s b epoch i n core →
      epoch ≤ s.epochs holder → epoch ≤ s.epochs b
  pub new : (b epoch i n : ℕ) (core : Core) → PartWasSent s b epoch i n core →
      (epoch ≤ s.epochs holder)
      ⊎ (IsSealed (s.modes holder) × (epoch ≡ s.epochs holder + 1) × (core ≡ s.cores holder))
  pub gathered : (b i : ℕ) → (s.gathered b).has i ≡ true →
      (n : ℕ) × (core : Core) × PartWasSent s b (s.gathered b).epoch i n core
