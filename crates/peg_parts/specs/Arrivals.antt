-- Parts that come in one after the other while a switch collects the state that another sealed.
--     Arrival      a part of the sealed state, by its index, or any other part, at a switch whose own
--         epoch is then this one
--     takes_arrival      what an arrival does to what is collected
--     collected_after      what is collected once these have come
--     came arrivals      the indices of the sealed state's parts among them, as they came
--     IsInPlace      the index is one of the state's, and the switch's own epoch is an earlier one; and
--         any other part is of an earlier epoch
--     IsHandedOver      a sealed state, and the epoch under which its parts are sent
--     IsCollecting      some of its parts have come, and some are missing
use Rattle.std.specs.Prelude.{◌<◌, ℕ, List, [], ◌∷◌, length}
use Rattle.std.specs.List.{AllByRecursion, Contains}
use Rattle.peg_name.specs.Name.{Rack, InLimits}
use Rattle.peg_model.specs.Handover.{State, Collected, part_of, parts}
use Rattle.peg_grammar.specs.State.{SpellsState}
use Rattle.peg_parts.specs.Taking.{Take, take_part}

pub data Arrival : Type 0 where
  Sent : (own index : ℕ) → Arrival
  Other : (own epoch index count : ℕ) → (bytes : List ℕ) → Arrival

abbrev pub came : List Arrival → List ℕ
came [] = []
came (Sent own index ∷ arrivals) = index ∷ came arrivals
came (Other own epoch index count bytes ∷ arrivals) = came arrivals

-- of the bytes that are sent under this epoch, at a switch of the rack
module _ (rack : Rack) (epoch : ℕ) (sealed : List ℕ) where
  abbrev pub takes_arrival : Collected → Arrival → Take
  takes_arrival c (Sent own index) =
      take_part rack own c epoch index (length (parts sealed)) (part_of sealed index)
  takes_arrival c (Other own other index count bytes) = take_part rack own c other index count bytes

  abbrev pub collected_after : Collected → List Arrival → Collected
  collected_after c [] = c
  collected_after c (arrival ∷ arrivals) =
      collected_after (takes_arrival c arrival).collected arrivals

abbrev pub IsInPlace : ℕ → List ℕ → Arrival → Type 0
IsInPlace epoch sealed (Sent own index) = (own < epoch) × (index < length (parts sealed))
IsInPlace epoch sealed (Other own other index count bytes) = other < epoch

-- what was collected before is of an earlier epoch
pub record IsHandedOver (rack : Rack) (epoch : ℕ) (sealed : List ℕ) (s : State) (c : Collected)
    : Type 0 where
  pub limits : InLimits rack
  pub spelled : SpellsState rack sealed s
  pub after_collected : c.epoch < epoch

abbrev pub StartsWithAPart : List Arrival → Type 0
StartsWithAPart [] = Unit {0}
StartsWithAPart (Sent own index ∷ arrivals) = Unit {0}
StartsWithAPart (Other own epoch index count bytes ∷ arrivals) = ⊥

-- these have come, the first of them a part of the state, and not yet all of its parts
pub record IsCollecting (rack : Rack) (epoch : ℕ) (sealed : List ℕ) (s : State) (c : Collected)
    (arrivals : List Arrival) : Type 0 where
  pub handed : IsHandedOver rack epoch sealed s c
  pub starts : StartsWithAPart arrivals
  pub in_place : AllByRecursion (IsInPlace epoch sealed) arrivals
  pub missing : (i : ℕ) × (i < length (parts sealed)) × (Contains (came arrivals) i → ⊥)
