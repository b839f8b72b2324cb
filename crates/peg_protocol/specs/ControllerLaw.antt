-- What the controller knows of the current state.
use Rattle.std.specs.Prelude.{◌≡◌, ℕ, ◌+◌, ◌⊎◌, Bool, true, false, ◌==◌, Option, Some, None, IsSome}
use Rattle.std.specs.Prelude.{Contains}
use Rattle.std.specs.List.{list_any}
use Rattle.peg_protocol.specs.Packet.{item, What, Promote, Demote, Copy, Seal, FenceKey, Clear}
use Rattle.peg_protocol.specs.Packet.{Outcome, Activated, Command, Ack, Switch, Controller}
use Rattle.peg_protocol.specs.Core.{Entry, entry_of}
use Rattle.peg_protocol.specs.System.{System, Sealed, belongs}

abbrev pub CommandWasSent : System → ℕ → ℕ → What → Type 0
CommandWasSent s a n what = Contains s.sent (item (Switch a) (Command n what))

abbrev pub AckWasSent : System → ℕ → Outcome → Type 0
AckWasSent s n outcome = Contains s.sent (item Controller (Ack n outcome))

abbrev pub has_mark : Option ℕ → Bool
has_mark None = false
has_mark (Some m) = true

-- whether the key is listed without a mark
abbrev pub plain_mark : Option ℕ → Bool
plain_mark None = true
plain_mark (Some m) = false

abbrev pub plain : Option Entry → Bool
plain None = false
plain (Some e) = plain_mark e.mark

abbrev pub speaks_of : What → ℕ → Bool
speaks_of (Promote k) j = k == j
speaks_of (Demote k) j = k == j
speaks_of (Copy t k) j = k == j
speaks_of (FenceKey k) j = k == j
speaks_of Clear j = false
speaks_of (Seal t e) j = false

abbrev pub pending_speaks_of : Option What → ℕ → Bool
pending_speaks_of None j = false
pending_speaks_of (Some what) j = speaks_of what j

pub record ControllerLaw (s : System) (holder : ℕ) : Type 0 where
  pub one_command : (a b n : ℕ) (what what' : What) → CommandWasSent s a n what →
      CommandWasSent s b n what' → what ≡ what'
  pub one_outcome : (n : ℕ) (o o' : Outcome) → AckWasSent s n o → AckWasSent s n o' → o ≡ o'
  pub can_belong : (a n : ℕ) (what : What) (o : Outcome) → CommandWasSent s a n what →
      AckWasSent s n o → belongs n what o ≡ true
  pub pending : (a : ℕ) (what what' : What) → s.command ≡ Some what →
      CommandWasSent s a s.number what' → what' ≡ what
  pub last : ((s.cores holder).last ≡ s.number)
      ⊎ (((s.cores holder).last + 1 ≡ s.number) × IsSome s.command)
  pub seal_epoch : (t e : ℕ) → s.command ≡ Some (Seal t e) → e ≡ s.epoch + 1
  pub sealed : (t : ℕ) → s.modes holder ≡ Sealed t → s.command ≡ Some (Seal t (s.epochs holder + 1))
  pub place : ((s.switch ≡ holder) × (s.epoch ≡ s.epochs holder))
      ⊎ (s.command ≡ Some (Seal holder (s.epochs holder)))
  pub activated : (e : ℕ) → IsSome s.command → AckWasSent s s.number (Activated e) →
      s.command ≡ Some (Seal holder (s.epochs holder))
  pub known : (k : ℕ) → pending_speaks_of s.command k ≡ false →
      list_any (λ j. j == k) s.known ≡ plain (entry_of k (s.cores holder).entries)
