-- What is read of the rows and entries of a state, one after the other.
use Rattle.std.proofs.Common.{Bool, ◌==◌, Some, None, if◌then◌else◌, ◌≡◌, ℕ, zero, suc, ◌+◌, ◌*◌, ◌<◌, true, false, ◌&&◌, nat_le, List}
use Rattle.std.proofs.Common.{[], ◌∷◌, ◌++◌, length, take, set, refl, ap, sym, ◌∙◌, arith, append_assoc}
use Rattle.std.proofs.Common.{add-one}
use Rattle.std.specs.List.{list_all}
use Rattle.std.specs.Map.{keys_of}
use Rattle.std.specs.Str.{bytes_eq}
use Rattle.std.proofs.lemmas.Bool.{ne_eqb}
use Rattle.std.proofs.lemmas.Bool.Decides.{nat_tests}
use Rattle.std.proofs.lemmas.List.{take_more_set}
use Rattle.peg_name.specs.Name.{Rack}
use Rattle.peg_name.specs.declared.Format.{Format}
use Rattle.peg_event.specs.declared.answers.Listing.{Listing}
use Rattle.peg_model.specs.Packet.{are_distinct, is_positive}
use Rattle.peg_model.specs.Reading.{two_at, eight_at, past_key}
use Rattle.peg_model.specs.Rules.{Directory}
use Rattle.peg_model.specs.Handover.{stamps_at, entry_at, entries_at, is_entry, holder_width}
use Rattle.peg_model.specs.Handover.{State, is_state, is_stamp_row, state_at, state_bytes, state_of}
use Rattle.peg_grammar.specs.State.{SpellsState}
use Rattle.peg_parts.specs.Reading.{is_directory}
use Rattle.peg_parts.proofs.Lists.{all_fails_behind, and_none}

module _ (bytes : List ℕ) where
  stamps_suc :
      (i at place : ℕ) → place ≡ at + 16 * i
      → stamps_at bytes (suc i) at
      ≡ stamps_at bytes i at ++ (eight_at bytes place, eight_at bytes (place + 8)) ∷ []
  stamps_suc zero at place is =
      let same : at ≡ place = omega arith in
      λ j. (eight_at bytes (same j), eight_at bytes (same j + 8)) ∷ []
  stamps_suc (suc i) at place is =
      ap (λ rows. (eight_at bytes at, eight_at bytes (at + 8)) ∷ rows)
      (stamps_suc i (at + 16) place (omega arith))

  pub length_stamps_at : (n at : ℕ) → length (stamps_at bytes n at) ≡ n
  length_stamps_at zero at = refl
  length_stamps_at (suc n) at = ap suc (length_stamps_at n (at + 16))

  -- a row that is set behind those that were read
  pub row_read :
      (rows : List (ℕ × ℕ)) (i at place : ℕ) → i < length rows → place ≡ at + 16 * i
      → take i rows ≡ stamps_at bytes i at
      → take (i + 1) (set rows i (eight_at bytes place, eight_at bytes (place + 8)))
      ≡ stamps_at bytes (i + 1) at
  row_read rows i at place within is read =
      let row : ℕ × ℕ = (eight_at bytes place, eight_at bytes (place + 8)) in
      take_more_set rows i row within
      ∙ ap (λ before. before ++ row ∷ []) read
      ∙ sym (stamps_suc i at place is)
      ∙ sym (ap (λ n. stamps_at bytes n at) (add-one i))

  pub length_entries_at :
      (format : Format) (n at : ℕ) → length (entries_at bytes format n at) ≡ n
  length_entries_at format zero at = refl
  length_entries_at format (suc n) at =
      ap suc (length_entries_at format n (past_key bytes at + 32 + holder_width format))

  module _ (rack : Rack) where
    -- there are too many
    pub not_few :
        (n at : ℕ) → rack.listed < n
        → is_directory rack (entries_at bytes rack.format n at) ≡ false
    not_few n at many =
        let entries : Directory = entries_at bytes rack.format n at in
        let over : rack.listed < length entries =
        omega (arith, many, length_entries_at rack.format n at)
        in
        let few : nat_le (length entries) rack.listed ≡ false = grind (arith, nat_tests) in
        λ j. few j && list_all (is_entry rack) entries && are_distinct (keys_of entries)

    -- one of them isn't within the rack
    pub not_within :
        (read entries : Directory) (left rest place : ℕ) → left ≡ suc rest
        → entries ≡ read ++ entries_at bytes rack.format left place
        → is_entry rack (entry_at bytes rack.format place) ≡ false
        → is_directory rack entries ≡ false
    not_within read entries left rest place more is not =
        let next : ℕ = past_key bytes place + 32 + holder_width rack.format in
        let item : List ℕ × Listing = entry_at bytes rack.format place in
        let same : entries ≡ read ++ item ∷ entries_at bytes rack.format rest next =
        is ∙ ap (λ n. read ++ entries_at bytes rack.format n place) more
        in
        let none : list_all (is_entry rack) entries ≡ false =
        ap (list_all (is_entry rack)) same
        ∙ all_fails_behind (is_entry rack) read item (entries_at bytes rack.format rest next) not
        in
        (λ j. nat_le (length entries) rack.listed && none j && are_distinct (keys_of entries))
        ∙ ap (λ b. b && are_distinct (keys_of entries)) (and_none (nat_le (length entries) rack.listed))

  pub one_more :
      (format : Format) (read entries : Directory) (left rest place next : ℕ) → left ≡ suc rest
      → next ≡ past_key bytes place + 32 + holder_width format
      → entries ≡ read ++ entries_at bytes format left place
      → entries ≡ (read ++ entry_at bytes format place ∷ []) ++ entries_at bytes format rest next
  one_more format read entries left rest place next more at is =
      is
      ∙ ap (λ n. read ++ entries_at bytes format n place) more
      ∙ ap (λ n. read ++ entry_at bytes format place ∷ entries_at bytes format rest n) (sym at)
      ∙ sym (append_assoc read (entry_at bytes format place ∷ []) (entries_at bytes format rest next))

-- ---- the whole state

third_fails : (a b d e f g : Bool) → (a && b && false && d && e && f && g) ≡ false
third_fails true true d e f g = refl
third_fails true false d e f g = refl
third_fails false b d e f g = refl

-- it has another number of rows
pub not_clients :
    (rack : Rack) (bytes : List ℕ) → (two_at bytes 16 ≡ rack.clients → ⊥)
    → is_state rack (state_at bytes rack.format) ≡ false
not_clients rack bytes other =
    let s : State = state_at bytes rack.format in
    let count : length s.stamps.rows ≡ two_at bytes 16 = length_stamps_at bytes (two_at bytes 16) 18 in
    let differ : (length s.stamps.rows == rack.clients) ≡ false =
    ne_eqb (length s.stamps.rows) rack.clients (λ same. other (sym count ∙ same))
    in
    (λ j. is_positive s.stamps.next && is_positive s.last && differ j
    && list_all is_stamp_row s.stamps.rows && nat_le (length s.entries) rack.listed
    && list_all (is_entry rack) s.entries && are_distinct (keys_of s.entries))
    ∙ third_fails (is_positive s.stamps.next) (is_positive s.last)
    (list_all is_stamp_row s.stamps.rows) (nat_le (length s.entries) rack.listed)
    (list_all (is_entry rack) s.entries) (are_distinct (keys_of s.entries))

if_false : (a b : Bool) (s : State) → a ≡ false → (if a && b then Some s else None) ≡ None
if_false a b s not = λ j. if not j && b then Some s else None

if_second_false :
    (a b : Bool) (s : State) → b ≡ false → (if a && b then Some s else None) ≡ None
if_second_false a b s not =
    ap (λ x. if a && x then Some s else None) not
    ∙ ap (λ x. if x then Some s else None) (and_none a)

if_both : (a b : Bool) (s : State) → a ≡ true → b ≡ true → (if a && b then Some s else None) ≡ Some s
if_both a b s first second = λ j. if first j && second j then Some s else None

pub none_read :
    (rack : Rack) (bytes : List ℕ) → is_state rack (state_at bytes rack.format) ≡ false
    → state_of rack bytes ≡ None
unfolding state_of
none_read rack bytes not =
    let s : State = state_at bytes rack.format in
    if_false (is_state rack s) (bytes_eq bytes (state_bytes rack.format s)) s not

pub state_read :
    (rack : Rack) (bytes again : List ℕ) (s : State) → s ≡ state_at bytes rack.format
    → SpellsState rack again s → bytes_eq bytes again ≡ true → state_of rack bytes ≡ Some s
unfolding state_of
state_read rack bytes again s read spells same =
    let whole : bytes_eq bytes (state_bytes rack.format s) ≡ true =
    ap (bytes_eq bytes) (sym spells.spelled) ∙ same
    in
    ap (λ r. if is_state rack r && bytes_eq bytes (state_bytes rack.format r) then Some r else None)
    (sym read)
    ∙ if_both (is_state rack s) (bytes_eq bytes (state_bytes rack.format s)) s spells.in_range whole

pub other_read :
    (rack : Rack) (bytes again : List ℕ) (s : State) → s ≡ state_at bytes rack.format
    → SpellsState rack again s → bytes_eq bytes again ≡ false → state_of rack bytes ≡ None
unfolding state_of
other_read rack bytes again s read spells differ =
    let whole : bytes_eq bytes (state_bytes rack.format s) ≡ false =
    ap (bytes_eq bytes) (sym spells.spelled) ∙ differ
    in
    ap (λ r. if is_state rack r && bytes_eq bytes (state_bytes rack.format r) then Some r else None)
    (sym read)
    ∙ if_second_false (is_state rack s) (bytes_eq bytes (state_bytes rack.format s)) s whole
