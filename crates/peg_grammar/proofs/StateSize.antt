-- How many bytes a state has, and so how many parts; each of them has its place in a packet.
use Rattle.std.proofs.Common.{◌≡◌, ℕ, ◌+◌, ◌*◌, ◌/◌, ◌^◌, ◌<◌, ◌≤◌, true, ◌==◌, ◌&&◌, List, [], ◌∷◌}
use Rattle.std.proofs.Common.{◌++◌, ◌⊎◌, inl, inr, nat_le, Some, unwrap_or, length, get_or, ap, ◌∙◌}
use Rattle.std.proofs.Common.{arith, lit≤, length-append}
use Rattle.std.specs.List.{flat_map, list_all, concat}
use Rattle.std.proofs.lemmas.Bool.{and_parts, cases_lt}
use Rattle.std.proofs.lemmas.Bool.Decides.{nat_tests}
use Rattle.std.specs.Map.{keys_of}
use Rattle.peg_name.specs.Name.{Rack, InLimits, clients_most, parts_most}
use Rattle.peg_name.specs.Holders.{bits_of}
use Rattle.peg_name.specs.declared.Format.{Format}
use Rattle.peg_name.specs.declared.Format.TheVariants.{One, Two}
use Rattle.peg_event.specs.declared.answers.Listing.{Listing}
use Rattle.peg_model.specs.Packet.{Part, in_range, two, eight, key_bytes, is_positive}
use Rattle.peg_model.specs.Packet.{are_distinct}
use Rattle.peg_model.specs.Rules.{Directory}
use Rattle.peg_model.specs.Handover.{State, state_bytes, stamp_bytes, entry_bytes, holder_bytes}
use Rattle.peg_model.specs.Handover.{is_state, is_entry, is_stamp_row, part_of, parts, state_of}
use Rattle.peg_grammar.specs.State.{SpellsState}
use Rattle.peg_grammar.proofs.State.{length_stamps, Spells-state_of}
use Rattle.peg_grammar.proofs.Cut.{length_parts, get_part, full_part, last_part, concat_parts}

-- ---- how many bytes

holders_most : (format : Format) (bits : ℕ) → length (holder_bytes format bits) ≤ 8
holders_most One bits = lit≤ tt
holders_most Two bits = lit≤ tt

entry_key :
    (rack : Rack) (key : List ℕ) (entry : Listing) → is_entry rack (key, entry) ≡ true
    → length key ≤ 32
entry_key rack key entry h = grind (arith, nat_tests)

length_entry :
    (format : Format) (key : List ℕ) (entry : Listing)
    → length (entry_bytes format (key, entry)) ≤ 41 + length key
length_entry format key entry =
    let k : List ℕ = key_bytes key in
    let l : List ℕ = k ++ eight entry.listing in
    let b : List ℕ = l ++ eight entry.base in
    let c : List ℕ = b ++ eight entry.completed in
    let holders : List ℕ = holder_bytes format (bits_of entry.holders) in
    let h : List ℕ = c ++ holders in
    omega (
      arith,
      length-append k (eight entry.listing),
      length-append l (eight entry.base),
      length-append b (eight entry.completed),
      length-append c holders,
      holders_most format (bits_of entry.holders),
      length-append h (eight (unwrap_or entry.mark 0)),
    )

length_entries :
    (rack : Rack) (format : Format) (entries : Directory)
    → list_all (is_entry rack) entries ≡ true
    → length (flat_map (entry_bytes format) entries) ≤ 73 * length entries
length_entries rack format [] ranges = omega arith
length_entries rack format ((key, entry) ∷ entries) ranges =
    let both = and_parts (is_entry rack (key, entry)) (list_all (is_entry rack) entries) ranges in
    let first : List ℕ = entry_bytes format (key, entry) in
    omega (
      arith,
      entry_key rack key entry both.0,
      length_entry format key entry,
      length_entries rack format entries both.1,
      length-append first (flat_map (entry_bytes format) entries),
    )

-- what the ranges of a state say of its numbers
pub record IsSized (rack : Rack) (s : State) : Type 0 where
  pub last : 0 < s.last
  pub rows : length s.stamps.rows ≡ rack.clients
  pub few : length s.entries ≤ rack.listed
  pub entries : list_all (is_entry rack) s.entries ≡ true

pub sized : (rack : Rack) (s : State) → is_state rack s ≡ true → IsSized rack s
sized rack s ranges =
    let rows = s.stamps.rows in
    let front = is_positive s.stamps.next && is_positive s.last in
    let counted = front && length rows == rack.clients in
    let stamped = counted && list_all is_stamp_row rows in
    let few = stamped && nat_le (length s.entries) rack.listed in
    let listed = few && list_all (is_entry rack) s.entries in
    let a = and_parts listed (are_distinct (keys_of s.entries)) ranges in
    let b = and_parts few (list_all (is_entry rack) s.entries) a.0 in
    let c = and_parts stamped (nat_le (length s.entries) rack.listed) b.0 in
    let d = and_parts counted (list_all is_stamp_row rows) c.0 in
    let e = and_parts front (length rows == rack.clients) d.0 in
    let f = and_parts (is_positive s.stamps.next) (is_positive s.last) e.0 in
    record {
      last = grind (arith, nat_tests, f.1);
      rows = grind (arith, nat_tests, e.1);
      few = grind (arith, nat_tests, c.1);
      entries = b.1;
    }

length_state :
    (rack : Rack) (s : State) → InLimits rack → IsSized rack s
    → (19 ≤ length (state_bytes rack.format s))
    × (length (state_bytes rack.format s) ≤ 4691 + 16 * clients_most rack.format)
unfolding state_bytes
length_state rack s limits size =
    let rows : List (ℕ × ℕ) = s.stamps.rows in
    let front : List ℕ = eight s.stamps.next ++ eight s.last ++ two (length rows) in
    let stamped : List ℕ = front ++ flat_map stamp_bytes rows in
    let entries : List ℕ = flat_map (entry_bytes rack.format) s.entries in
    let fronts = length-append front (flat_map stamp_bytes rows) in
    let whole = length-append stamped (length s.entries ∷ entries) in
    let stamps = length_stamps rows in
    let few = length_entries rack rack.format s.entries size.entries in (
      omega (arith, fronts, whole, stamps),
      omega (
        arith,
        fronts,
        whole,
        stamps,
        few,
        size.rows,
        size.few,
        limits.clients.1,
        limits.listed.1,
      ),
    )

-- ---- how many parts

parts_within :
    (format : Format) (bytes count : ℕ) → bytes ≤ 4691 + 16 * clients_most format
    → count ≡ (bytes + 511) / 512 → count ≤ parts_most format
parts_within One bytes count most is = omega arith
parts_within Two bytes count most is = omega arith

pub few_parts :
    (rack : Rack) (bytes : List ℕ) (s : State) → InLimits rack → SpellsState rack bytes s
    → (1 ≤ length (parts bytes)) × (length (parts bytes) ≤ parts_most rack.format)
few_parts rack bytes s limits spells =
    let size = length_state rack s limits (sized rack s spells.in_range) in
    let same : length bytes ≡ length (state_bytes rack.format s) = ap length spells.spelled in
    let count = length_parts bytes in
    let clients : ℕ = clients_most rack.format in
    let most : length bytes ≤ 4691 + 16 * clients = omega (arith, same, size.1) in (
      omega (arith, same, count, size.0),
      parts_within rack.format (length bytes) (length (parts bytes)) most count,
    )

-- ---- their packets

part_ranges :
    (format : Format) (epoch index count : ℕ) (bytes : List ℕ) → 2 ≤ epoch → epoch < 2 ^ 64
    → index < count → count ≤ parts_most format → 1 ≤ length bytes → length bytes ≤ 512
    → (index + 1 < count → length bytes ≡ 512)
    → in_range format (Part epoch index count bytes) ≡ true
unfolding in_range
part_ranges format epoch index count bytes second number within few some short full =
    grind (arith, nat_tests)

size_at :
    (bytes : List ℕ) (index : ℕ) → index < length (parts bytes)
    → (index + 1 < length (parts bytes)) ⊎ (length (parts bytes) ≤ index + 1)
    → (1 ≤ length (part_of bytes index)) × (length (part_of bytes index) ≤ 512)
size_at bytes index within (inl before) =
    let full = full_part bytes index before in
    (omega arith, omega arith)
size_at bytes index within (inr past) =
    let last : index + 1 ≡ length (parts bytes) = omega arith in
    let size = last_part bytes index last in
    let count = length_parts bytes in
    (omega arith, omega arith)

size_of_part :
    (bytes : List ℕ) (index : ℕ) → index < length (parts bytes)
    → (1 ≤ length (part_of bytes index)) × (length (part_of bytes index) ≤ 512)
size_of_part bytes index within =
    size_at bytes index within (cases_lt (index + 1) (length (parts bytes)))

pub last_size :
    (bytes : List ℕ) (index : ℕ) → index + 1 ≡ length (parts bytes)
    → (1 ≤ length (part_of bytes index)) × (length (part_of bytes index) ≤ 512)
last_size bytes index last = size_of_part bytes index (omega arith)

pub part_in_packet :
    (rack : Rack) (bytes : List ℕ) (s : State) (epoch index : ℕ) → InLimits rack
    → SpellsState rack bytes s → 2 ≤ epoch → epoch < 2 ^ 64 → index < length (parts bytes)
    → in_range rack.format
    (Part epoch index (length (parts bytes)) (get_or (parts bytes) index [])) ≡ true
part_in_packet rack bytes s epoch index limits spells second number within =
    let count : ℕ = length (parts bytes) in
    let few = few_parts rack bytes s limits spells in
    let size = size_of_part bytes index within in
    let fits : in_range rack.format (Part epoch index count (part_of bytes index)) ≡ true =
    part_ranges rack.format epoch index count (part_of bytes index) second number within few.1
    size.0 size.1 (full_part bytes index)
    in
    ap (λ part. in_range rack.format (Part epoch index count part)) (get_part bytes index [] within)
    ∙ fits

-- ---- joined again

pub read_joined :
    (rack : Rack) (bytes : List ℕ) (s : State) → InLimits rack → SpellsState rack bytes s
    → state_of rack (concat (parts bytes)) ≡ Some s
read_joined rack bytes s limits spells =
    ap (state_of rack) (concat_parts bytes) ∙ Spells-state_of rack bytes s limits spells
