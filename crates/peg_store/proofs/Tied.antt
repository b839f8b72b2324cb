-- The places of the keys and their slots, where a key gets a new content or a slot of its own.
use Rattle.std.proofs.Common.{◌≡◌, ◌≢◌, ℕ, Bool, true, false, List, [], ◌∷◌, ⊎_elim}
use Rattle.std.proofs.Common.{cond, Option, Some, None, refl, sym, ap, ◌∙◌, subst}
use Rattle.std.proofs.lemmas.Bool.{cases_eq, eq-eqb, ne_eqb}
use Rattle.std.proofs.lemmas.Map.Made.{keys_of-map_values}
use Rattle.std.proofs.lemmas.Option.{none-some}
use Rattle.std.specs.Prelude.{unwrap_or, option_map, if◌then◌else◌, is_some, IsSome}
use Rattle.std.specs.List.{AllByRecursion}
use Rattle.std.specs.Cmp.{IsTotalOrder}
use Rattle.std.specs.List.Sorted.{IsStrictlySortedBy}
use Rattle.std.specs.Map.{keys_of, lookup, set_value}
use Rattle.std.specs.BTreeMap.{insert_entry, is_at}
use Rattle.std.specs.Ordering.{is_eq, match_ordering}
use Rattle.std.specs.declared.cmp.Ordering.{Ordering}
use Rattle.std.specs.declared.cmp.Ordering.TheVariants.{Less, Equal, Greater}
use Rattle.peg_pool.specs.Slots.{Slots, bytes_of, SetsOnly}
use Rattle.peg_name.specs.declared.value.Content.{Content}
use Rattle.peg_event.specs.declared.answers.Stored.{Stored}
use Rattle.peg_store.specs.declared.Place.{Place}
use Rattle.peg_store.specs.Places.{Places, content_of, content_if, stored_of, with_content}
use Rattle.peg_store.specs.Places.{bytes_in, entries_of, HasSlot, slots_of, IsNoneOf, AreApart, IsTied}
use Rattle.peg_store.proofs.Entries.{found_has, all_inserted, insert_found}
use Rattle.peg_store.proofs.Entries.{lookup-read, insert-read, set-read, read_alike}

-- ---- what a change of one slot leaves

-- each other slot has its content
abbrev pub Others : Slots → ℕ → Slots → Type 0
Others before slot after =
    (other : ℕ) → other ≢ slot → bytes_of after other ≡ bytes_of before other

pub Others-same : (slots : Slots) (slot : ℕ) → Others slots slot slots
Others-same slots slot = λ other apart. refl

pub at_slot :
    (before after : Slots) (slot : ℕ) (content : Option (List ℕ))
    → SetsOnly before slot content after → bytes_of after slot ≡ content
at_slot before after slot content sets =
    sets slot
    ∙ ap (λ b. if b then content else bytes_of before slot) (eq-eqb slot slot refl)

pub Others-sets :
    (before after : Slots) (slot : ℕ) (content : Option (List ℕ))
    → SetsOnly before slot content after → Others before slot after
Others-sets before after slot content sets = λ other apart.
    sets other
    ∙ ap (λ b. if b then content else bytes_of before other) (ne_eqb other slot apart)

-- a slot that is filled and given back is as it was
pub undone :
    (before filled after : Slots) (slot : ℕ) (content : Option (List ℕ))
    → bytes_of before slot ≡ None → SetsOnly before slot content filled
    → SetsOnly filled slot None after
    → (other : ℕ) → bytes_of after other ≡ bytes_of before other
undone before filled after slot content free sets unsets other =
    ⊎_elim
    (λ same. ap (bytes_of after) same ∙ at_slot filled after slot None unsets ∙ sym free
    ∙ ap (bytes_of before) (sym same))
    (λ apart. Others-sets filled after slot None unsets other apart
    ∙ Others-sets before filled slot content sets other apart)
    (cases_eq other slot)

pub stored_same :
    (before after : Slots) (place : Place) → bytes_of after place.slot ≡ bytes_of before place.slot
    → stored_of after place ≡ stored_of before place
stored_same before after place same =
    ap (λ b. with_content place.numbers (content_if place.present (unwrap_or b []))) same

has_same :
    (before after : Slots) (place : Place) → bytes_of after place.slot ≡ bytes_of before place.slot
    → HasSlot before place → HasSlot after place
has_same before after place same has =
    same ∙ has
    ∙ ap (λ b. Some (bytes_in (content_if place.present (unwrap_or b [])))) (sym same)

-- where the slots of all keys have their bytes, all is kept of them that was
abbrev pub AreSame : Slots → Slots → Places → Type 0
AreSame before after places =
    AllByRecursion (λ e. bytes_of after e.1.slot ≡ bytes_of before e.1.slot) places

same_elsewhere :
    (before after : Slots) (slot : ℕ) (places : Places) → Others before slot after
    → IsNoneOf slot (slots_of places) → AreSame before after places
same_elsewhere before after slot [] others none = tt
same_elsewhere before after slot (e ∷ places) others (apart, none) = (
  others e.1.slot (λ same. apart (sym same)),
  same_elsewhere before after slot places others none,
)

same_everywhere :
    (before after : Slots) (places : Places)
    → ((other : ℕ) → bytes_of after other ≡ bytes_of before other) → AreSame before after places
same_everywhere before after [] all = tt
same_everywhere before after (e ∷ places) all =
    (all e.1.slot, same_everywhere before after places all)

pub stored_alike :
    (before after : Slots) (places : Places) → AreSame before after places
    → AllByRecursion (λ e. stored_of after e.1 ≡ stored_of before e.1) places
stored_alike before after [] same = tt
stored_alike before after (e ∷ places) (here, same) =
    (stored_same before after e.1 here, stored_alike before after places same)

live_same :
    (before after : Slots) (places : Places) → AreSame before after places
    → AllByRecursion (λ e. HasSlot before e.1) places
    → AllByRecursion (λ e. HasSlot after e.1) places
live_same before after [] same live = tt
live_same before after (e ∷ places) (here, same) (has, live) =
    (has_same before after e.1 here has, live_same before after places same live)

-- no key has a slot that isn't live
none_has :
    (slots : Slots) (slot : ℕ) (places : Places) → bytes_of slots slot ≡ None
    → AllByRecursion (λ e. HasSlot slots e.1) places → IsNoneOf slot (slots_of places)
none_has slots slot [] free live = tt
none_has slots slot (e ∷ places) free (has, live) = (
  λ same. none-some _ (sym free ∙ ap (bytes_of slots) same ∙ has),
  none_has slots slot places free live,
)

-- ---- a refused key

pub tied_undone :
    (before after : Slots) (places : Places) → IsTied before places
    → ((other : ℕ) → bytes_of after other ≡ bytes_of before other) → after.size ≡ before.size
    → IsTied after places
tied_undone before after places tied all size =
    record {
      size = size ∙ tied.size;
      live = live_same before after places (same_everywhere before after places all) tied.live;
      apart = tied.apart;
      owned = λ slot none. all slot ∙ tied.owned slot none;
    }

pub entries_undone :
    (before after : Slots) (places : Places)
    → ((other : ℕ) → bytes_of after other ≡ bytes_of before other)
    → entries_of after places ≡ entries_of before places
entries_undone before after places all =
    read_alike (stored_of before) (stored_of after) places
    (stored_alike before after places (same_everywhere before after places all))

-- ---- a new key

none_inserted :
    (cmp : List ℕ → List ℕ → Ordering) (slot : ℕ) (places : Places) (key : List ℕ) (place : Place)
    → IsNoneOf slot (slots_of places) → slot ≢ place.slot
    → IsNoneOf slot (slots_of (insert_entry cmp places key place))
none_inserted cmp slot [] key place none apart = (apart, tt)
none_inserted cmp slot (e ∷ places) key place (first, none) apart =
    at (cmp key e.0) (none_inserted cmp slot places key place none apart)
  where
    at : (o : Ordering) → IsNoneOf slot (slots_of (insert_entry cmp places key place))
        → IsNoneOf slot
        (slots_of
        (match_ordering o ((key, place) ∷ e ∷ places) ((e.0, place) ∷ places)
        (e ∷ insert_entry cmp places key place)))
    at Less rest = (apart, (first, none))
    at Equal rest = (apart, none)
    at Greater rest = (first, rest)

apart_inserted :
    (cmp : List ℕ → List ℕ → Ordering) (places : Places) (key : List ℕ) (place : Place)
    → AreApart (slots_of places) → IsNoneOf place.slot (slots_of places)
    → AreApart (slots_of (insert_entry cmp places key place))
apart_inserted cmp [] key place apart none = (tt, tt)
apart_inserted cmp (e ∷ places) key place (first, apart) (here, none) =
    at (cmp key e.0) (apart_inserted cmp places key place apart none)
  where
    at : (o : Ordering) → AreApart (slots_of (insert_entry cmp places key place))
        → AreApart
        (slots_of
        (match_ordering o ((key, place) ∷ e ∷ places) ((e.0, place) ∷ places)
        (e ∷ insert_entry cmp places key place)))
    at Less rest = ((here, none), (first, apart))
    at Equal rest = (none, apart)
    at Greater rest = (none_inserted cmp e.1.slot places key place first (λ s. here (sym s)), rest)

-- what no key has after the insertion, no key had, and it isn't the new slot
none_before :
    (cmp : List ℕ → List ℕ → Ordering) (slot : ℕ) (places : Places) (key : List ℕ) (place : Place)
    → lookup (is_at (cmp key)) places ≡ None
    → IsNoneOf slot (slots_of (insert_entry cmp places key place))
    → (slot ≢ place.slot) × IsNoneOf slot (slots_of places)
none_before cmp slot [] key place new none = none
none_before cmp slot (e ∷ places) key place new none =
    at (cmp key e.0) (none_before cmp slot places key place) new none
  where
    at :
        (o : Ordering)
        → (lookup (is_at (cmp key)) places ≡ None
        → IsNoneOf slot (slots_of (insert_entry cmp places key place))
        → (slot ≢ place.slot) × IsNoneOf slot (slots_of places))
        → cond (is_eq o) (Some e.1) (lookup (is_at (cmp key)) places) ≡ None
        → IsNoneOf slot
        (slots_of
        (match_ordering o ((key, place) ∷ e ∷ places) ((e.0, place) ∷ places)
        (e ∷ insert_entry cmp places key place)))
        → (slot ≢ place.slot) × IsNoneOf slot (slots_of (e ∷ places))
    at Less later absent all = all
    at Equal later absent all = absurd (none-some e.1 (sym absent))
    at Greater later absent (first, all) =
        let (apart, rest) = later absent all in
        (apart, (first, rest))

pub tied_inserted :
    (cmp : List ℕ → List ℕ → Ordering) (before after : Slots) (places : Places) (key : List ℕ)
    (place : Place) → IsTied before places → lookup (is_at (cmp key)) places ≡ None
    → bytes_of before place.slot ≡ None → Others before place.slot after
    → after.size ≡ before.size → HasSlot after place
    → IsTied after (insert_entry cmp places key place)
tied_inserted cmp before after places key place tied new free others size has =
    let none = none_has before place.slot places free tied.live in
    record {
      size = size ∙ tied.size;
      live = all_inserted (HasSlot after) cmp places key place
          (live_same before after places
          (same_elsewhere before after place.slot places others none) tied.live) has;
      apart = apart_inserted cmp places key place tied.apart none;
      owned = λ slot unused.
          let (apart, rest) = none_before cmp slot places key place new unused in
          others slot apart ∙ tied.owned slot rest;
    }

pub entries_inserted :
    (cmp : List ℕ → List ℕ → Ordering) (before after : Slots) (places : Places) (key : List ℕ)
    (place : Place) → IsTied before places → bytes_of before place.slot ≡ None
    → Others before place.slot after
    → entries_of after (insert_entry cmp places key place)
    ≡ insert_entry cmp (entries_of before places) key (stored_of after place)
entries_inserted cmp before after places key place tied free others =
    insert-read (stored_of after) cmp places key place
    ∙ ap (λ es. insert_entry cmp es key (stored_of after place))
    (read_alike (stored_of before) (stored_of after) places
    (stored_alike before after places
    (same_elsewhere before after place.slot places others
    (none_has before place.slot places free tied.live))))

-- ---- a held key, in whose slot something else is kept

slots-set :
    (test : List ℕ → Bool) (places : Places) (was place : Place)
    → lookup test places ≡ Some was → place.slot ≡ was.slot
    → slots_of (set_value test places place) ≡ slots_of places
slots-set test [] was place found slot = refl
slots-set test (e ∷ places) was place found slot =
    at (test e.0) (λ is. slots-set test places was place is slot) found
  where
    at : (b : Bool)
        → (lookup test places ≡ Some was
        → slots_of (set_value test places place) ≡ slots_of places)
        → cond b (Some e.1) (lookup test places) ≡ Some was
        → slots_of (cond b ((e.0, place) ∷ places) (e ∷ set_value test places place))
        ≡ slots_of (e ∷ places)
    at true later is =
        ap (λ n. n ∷ slots_of places) (slot ∙ ap (λ o. (unwrap_or o e.1).slot) (sym is))
    at false later is = ap (λ ns. e.1.slot ∷ ns) (later is)

not_found :
    (slot : ℕ) (test : List ℕ → Bool) (places : Places) (was : Place)
    → IsNoneOf slot (slots_of places) → lookup test places ≡ Some was → slot ≢ was.slot
not_found slot test places was none found =
    found_has (λ place. slot ≢ place.slot) test places was (by_places places none) found
  where
    by_places : (places : Places) → IsNoneOf slot (slots_of places)
        → AllByRecursion (λ e. slot ≢ e.1.slot) places
    by_places [] none = tt
    by_places (e ∷ places) (here, none) = (here, by_places places none)

live_set :
    (before after : Slots) (test : List ℕ → Bool) (places : Places) (was place : Place)
    → lookup test places ≡ Some was → Others before was.slot after → HasSlot after place
    → AreApart (slots_of places) → AllByRecursion (λ e. HasSlot before e.1) places
    → AllByRecursion (λ e. HasSlot after e.1) (set_value test places place)
live_set before after test [] was place found others has apart live = tt
live_set before after test (e ∷ places) was place found others has (first, apart) (here, live) =
    at (test e.0) (λ is. live_set before after test places was place is others has apart live) found
  where
    at : (b : Bool)
        → (lookup test places ≡ Some was
        → AllByRecursion (λ e. HasSlot after e.1) (set_value test places place))
        → cond b (Some e.1) (lookup test places) ≡ Some was
        → AllByRecursion (λ e. HasSlot after e.1)
        (cond b ((e.0, place) ∷ places) (e ∷ set_value test places place))
    at true later is =
        let same = ap (λ o. (unwrap_or o e.1).slot) is in (
          has,
          live_same before after places
              (same_elsewhere before after was.slot places others
              (subst (λ n. IsNoneOf n (slots_of places)) same first)) live,
        )
    at false later is = (
      has_same before after e.1
          (others e.1.slot (not_found e.1.slot test places was first is)) here,
      later is,
    )

set_same :
    (before after : Slots) (test : List ℕ → Bool) (places : Places) (was : Place) (now : Stored)
    → lookup test places ≡ Some was → Others before was.slot after
    → AreApart (slots_of places)
    → set_value test (entries_of after places) now ≡ set_value test (entries_of before places) now
set_same before after test [] was now found others apart = refl
set_same before after test (e ∷ places) was now found others (first, apart) =
    at (test e.0) (λ is. set_same before after test places was now is others apart) found
  where
    at : (b : Bool)
        → (lookup test places ≡ Some was
        → set_value test (entries_of after places) now
        ≡ set_value test (entries_of before places) now)
        → cond b (Some e.1) (lookup test places) ≡ Some was
        → cond b ((e.0, now) ∷ entries_of after places)
        ((e.0, stored_of after e.1) ∷ set_value test (entries_of after places) now)
        ≡ cond b ((e.0, now) ∷ entries_of before places)
        ((e.0, stored_of before e.1) ∷ set_value test (entries_of before places) now)
    at true later is =
        let same = ap (λ o. (unwrap_or o e.1).slot) is in
        ap (λ es. (e.0, now) ∷ es)
        (read_alike (stored_of before) (stored_of after) places
        (stored_alike before after places
        (same_elsewhere before after was.slot places others
        (subst (λ n. IsNoneOf n (slots_of places)) same first))))
    at false later is = λ i. (
      e.0,
      stored_same before after e.1
          (others e.1.slot (not_found e.1.slot test places was first is)) i,
    )
        ∷ later is i

pub tied_set :
    (before after : Slots) (test : List ℕ → Bool) (places : Places) (was place : Place)
    → IsTied before places → lookup test places ≡ Some was → place.slot ≡ was.slot
    → Others before was.slot after → after.size ≡ before.size → HasSlot after place
    → IsTied after (set_value test places place)
tied_set before after test places was place tied found slot others size has =
    let same = slots-set test places was place found slot in
    record {
      size = size ∙ tied.size;
      live = live_set before after test places was place found others has tied.apart tied.live;
      apart = subst AreApart (sym same) tied.apart;
      owned = λ free unused.
          let none = subst (IsNoneOf free) same unused in
          others free (not_found free test places was none found) ∙ tied.owned free none;
    }

pub entries_set :
    (cmp : List ℕ → List ℕ → Ordering) → IsTotalOrder cmp
    → (before after : Slots) (key : List ℕ) (places : Places) (was place : Place)
    → IsTied before places → IsStrictlySortedBy cmp (keys_of places)
    → lookup (is_at (cmp key)) places ≡ Some was → Others before was.slot after
    → entries_of after (set_value (is_at (cmp key)) places place)
    ≡ insert_entry cmp (entries_of before places) key (stored_of after place)
entries_set cmp laws before after key places was place tied sorted found others =
    set-read (stored_of after) (is_at (cmp key)) places place
    ∙ set_same before after (is_at (cmp key)) places was (stored_of after place) found others
    tied.apart
    ∙ sym (insert_found cmp laws (entries_of before places) key (stored_of before was)
    (stored_of after place)
    (subst (IsStrictlySortedBy cmp) (sym (keys_of-map_values (stored_of before) places)) sorted)
    (lookup-read (stored_of before) (is_at (cmp key)) places
    ∙ ap (option_map (stored_of before)) found))

-- a place in whose slot the bytes of a content were put
pub has_put :
    (slots : Slots) (place : Place) (content : Content) (bytes : List ℕ)
    → bytes_of slots place.slot ≡ Some bytes → bytes ≡ bytes_in content
    → content_if place.present (bytes_in content) ≡ content
    → (content_of slots place ≡ content) × HasSlot slots place
has_put slots place content bytes put is present =
    let same : content_of slots place ≡ content =
    ap (λ b. content_if place.present (unwrap_or b [])) (put ∙ ap Some is) ∙ present in
    (same, put ∙ ap Some is ∙ ap (λ c. Some (bytes_in c)) (sym same))

pub is_live : (slots : Slots) (place : Place) → HasSlot slots place → IsSome (bytes_of slots place.slot)
is_live slots place has = ap is_some has
