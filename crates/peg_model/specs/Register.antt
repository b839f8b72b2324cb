-- One register for each key, and what it means that a list of operations is a history of it.
--     Content, Op, Act      of peg_name and peg_event: an operation, with the places at which it
--         was issued and answered
--     Legal held ops      each read has the content of the last write before it, or `held` where
--         there is none
--     KeepsTime ops      none was answered before one that stands earlier was issued
--     IsRegisterHistory history key order      the operations that `order` names are a legal
--         history of the key in real time
use Rattle.std.specs.Prelude.{◌≡◌, ◌≢◌, ◌≤◌, ◌⊎◌, ℕ, List, [], ◌∷◌, IfSome, IsSome, IsSomeAnd}
use Rattle.std.specs.Prelude.{AllPairs, Contains, slice_get, filter_map}
use Rattle.std.specs.List.{AllByRecursion}
use Rattle.peg_name.specs.declared.value.Content.{Content}
use Rattle.peg_name.specs.declared.value.Content.TheVariants.{Absent}
use Rattle.peg_event.specs.declared.history.Act.{Act}
use Rattle.peg_event.specs.declared.history.Act.TheVariants.{Read, Write}
use Rattle.peg_event.specs.declared.history.Op.{Op}

-- what the register has after an operation
abbrev pub content_after : Content → Act → Content → Content
content_after held Write content = content
content_after held Read content = held

-- what a read may give
abbrev pub Gives : Content → Act → Content → Type 0
Gives held Read content = content ≡ held
Gives held Write content = Unit {0}

abbrev pub Legal : Content → List Op → Type 0
Legal held [] = Unit {0}
Legal held (op ∷ ops) =
    Gives held op.act op.content × Legal (content_after held op.act op.content) ops

abbrev pub KeepsTime : List Op → Type 0
KeepsTime [] = Unit {0}
KeepsTime (op ∷ later) =
    AllByRecursion (λ l. IfSome l.answered (λ at. op.issued ≤ at)) later × KeepsTime later

-- the operations at these places
abbrev pub at_places : List Op → List ℕ → List Op
at_places history order = filter_map (slice_get history) order

-- an operation that may stand in an order of the key: each answered one, and a write that is not
abbrev pub MayStand : List ℕ → Op → Type 0
MayStand key op = (op.key ≡ key) × (IsSome op.answered ⊎ (op.act ≡ Write))

pub record IsRegisterHistory (history : List Op) (key : List ℕ) (order : List ℕ) : Type 0 where
  pub admitted : AllByRecursion (λ place. IsSomeAnd (slice_get history place) (MayStand key)) order
  pub once : AllPairs (λ place other. place ≢ other) order
  pub complete :
      (place : ℕ)
      → IfSome (slice_get history place)
      (λ op. op.key ≡ key → IsSome op.answered → Contains order place)
  pub legal : Legal Absent (at_places history order)
  pub in_time : KeepsTime (at_places history order)
