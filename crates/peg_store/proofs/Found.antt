-- What is kept of a key, by its place.
use Rattle.std.proofs.Common.{◌≡◌, ℕ, List, Option, Some, None, ap, ◌∙◌, refl, sym}
use Rattle.std.proofs.lemmas.Bool.{false≢true}
use Rattle.std.proofs.lemmas.Option.{none-some}
use Rattle.std.specs.Prelude.{unwrap_or, option_map, is_some}
use Rattle.std.specs.Map.{lookup}
use Rattle.std.specs.BTreeMap.{is_at}
use Rattle.peg_name.specs.Name.{key_cmp}
use Rattle.peg_model.specs.Server.{held, nothing_held}
use Rattle.peg_pool.specs.Slots.{Slots}
use Rattle.peg_store.specs.declared.Place.{Place}
use Rattle.peg_store.specs.Held.{IsHeld}
use Rattle.peg_store.specs.Places.{Places, stored_of, entries_of}
use Rattle.peg_store.proofs.Entries.{lookup-read}

module _ (slots : Slots) (places : Places) (key : List ℕ) where
  pub lookup_found :
      (place : Place) → lookup (is_at (key_cmp key)) places ≡ Some place
      → lookup (is_at (key_cmp key)) (entries_of slots places) ≡ Some (stored_of slots place)
  lookup_found place found =
      lookup-read (stored_of slots) (is_at (key_cmp key)) places
      ∙ ap (option_map (stored_of slots)) found

  pub lookup_none :
      lookup (is_at (key_cmp key)) places ≡ None
      → lookup (is_at (key_cmp key)) (entries_of slots places) ≡ None
  lookup_none none =
      lookup-read (stored_of slots) (is_at (key_cmp key)) places
      ∙ ap (option_map (stored_of slots)) none

  pub held_found :
      (place : Place) → lookup (is_at (key_cmp key)) places ≡ Some place
      → held (entries_of slots places) key ≡ stored_of slots place
  held_found place found = ap (λ o. unwrap_or o nothing_held) (lookup_found place found)

  pub held_none :
      lookup (is_at (key_cmp key)) places ≡ None
      → held (entries_of slots places) key ≡ nothing_held
  held_none none = ap (λ o. unwrap_or o nothing_held) (lookup_none none)

  none_read : (o : Option Place) → option_map (stored_of slots) o ≡ None → o ≡ None
  none_read None is = refl
  none_read (Some place) is = absurd (none-some (stored_of slots place) (sym is))

  pub not_found :
      lookup (is_at (key_cmp key)) (entries_of slots places) ≡ None
      → lookup (is_at (key_cmp key)) places ≡ None
  not_found none =
      none_read (lookup (is_at (key_cmp key)) places)
      (sym (lookup-read (stored_of slots) (is_at (key_cmp key)) places) ∙ none)

  pub not_held :
      lookup (is_at (key_cmp key)) places ≡ None → IsHeld (entries_of slots places) key → ⊥
  not_held none is = false≢true (sym (ap is_some (lookup_none none)) ∙ is)
