-- The states of a switch that have a spelling.
--     SpellsState rack bytes s      the whole bytes are the state: the grammar
--     is_rising servers      whether they stand in rising order, each once
--     has_sets s      whether the holders of each entry do
use Rattle.std.specs.Prelude.{◌≡◌, ◌&&◌, ℕ, Bool, true, nat_lt, IsTrue, List, [], ◌∷◌}
use Rattle.std.specs.List.{list_all}
use Rattle.peg_name.specs.Name.{Rack}
use Rattle.peg_model.specs.Handover.{State, is_state, state_bytes}

abbrev pub is_rising : List ℕ → Bool
is_rising [] = true
is_rising (server ∷ []) = true
is_rising (server ∷ next ∷ servers) = nat_lt server next && is_rising (next ∷ servers)

abbrev pub has_sets : State → Bool
has_sets s = list_all (λ item. is_rising item.1.holders) s.entries

-- the grammar: the whole bytes are the one spelling of a state in its ranges
pub record SpellsState (rack : Rack) (bytes : List ℕ) (s : State) : Type 0 where
  pub in_range : IsTrue (is_state rack s)
  pub sets : IsTrue (has_sets s)
  pub spelled : bytes ≡ state_bytes rack.format s
