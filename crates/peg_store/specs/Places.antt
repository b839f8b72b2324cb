-- The fields of a store, seen as what it keeps of each key.
--     Numbers      a version, and the numbers that fences left
--     Place      the numbers of a key, its slot, and whether its content is present
--     Places      for each held key its place, in the order of the keys
--     content_if present bytes      the content of these bytes, or absent
--     content_of slots place      the content at a place: what its slot holds, or absent
--     stored_of slots place      what is kept there
--     entries_of slots places      what is kept of each key
--     numbers_of stored, with_content numbers content      the numbers of what is kept, and what is kept by
--         its numbers and its content
--     bytes_in content      the bytes of a content, and none where it is absent
--     HasSlot slots place      its slot is live, and is empty where the content is absent
--     slots_of places      the slots of the keys
--     IsNoneOf slot slots      the slot is none of these
--     AreApart slots      no two are one
--     IsTied slots places      slots of 1,024 bytes: each key has a live one of its own, which holds
--         its content, and no other slot is live
use Rattle.std.specs.Prelude.{ℕ, ◌≡◌, ◌≢◌, Bool, true, false, List, [], ◌∷◌, Some, None}
use Rattle.std.specs.Prelude.{unwrap_or, map}
use Rattle.std.specs.List.{AllByRecursion}
use Rattle.peg_name.specs.declared.value.Content.{Content}
use Rattle.peg_name.specs.declared.value.Content.TheVariants.{Absent, Present}
use Rattle.peg_event.specs.declared.answers.Stored.{Stored}
use Rattle.peg_model.specs.Server.{Store}
use Rattle.peg_pool.specs.Slots.{Slots, bytes_of}
use Rattle.peg_store.specs.declared.Numbers.{Numbers}
use Rattle.peg_store.specs.declared.Place.{Place}

abbrev pub Places : Type 0
Places = List (List ℕ × Place)

abbrev pub content_if : Bool → List ℕ → Content
content_if true bytes = Present bytes
content_if false bytes = Absent

abbrev pub content_of : Slots → Place → Content
content_of slots place = content_if place.present (unwrap_or (bytes_of slots place.slot) [])

abbrev pub with_content : Numbers → Content → Stored
with_content numbers content =
    record {
      version = numbers.version;
      content = content;
      low = numbers.low;
      floor = numbers.floor;
      old = numbers.old;
    }

abbrev pub numbers_of : Stored → Numbers
numbers_of stored =
    record {
      version = stored.version;
      low = stored.low;
      floor = stored.floor;
      old = stored.old;
    }

abbrev pub stored_of : Slots → Place → Stored
stored_of slots place = with_content place.numbers (content_of slots place)

abbrev pub entries_of : Slots → Places → Store
entries_of slots places = map (λ e. (e.0, stored_of slots e.1)) places

abbrev pub bytes_in : Content → List ℕ
bytes_in Absent = []
bytes_in (Present bytes) = bytes

abbrev pub HasSlot : Slots → Place → Type 0
HasSlot slots place = bytes_of slots place.slot ≡ Some (bytes_in (content_of slots place))

abbrev pub slots_of : Places → List ℕ
slots_of places = map (λ e. e.1.slot) places

abbrev pub IsNoneOf : ℕ → List ℕ → Type 0
IsNoneOf slot slots = AllByRecursion (λ other. slot ≢ other) slots

abbrev pub AreApart : List ℕ → Type 0
AreApart [] = Unit {0}
AreApart (slot ∷ slots) = IsNoneOf slot slots × AreApart slots

pub record IsTied (slots : Slots) (places : Places) : Type 0 where
  pub size : slots.size ≡ 1024
  pub live : AllByRecursion (λ e. HasSlot slots e.1) places
  pub apart : AreApart (slots_of places)
  pub owned : (slot : ℕ) → IsNoneOf slot (slots_of places) → bytes_of slots slot ≡ None
