-- The state of a switch and its bytes: what is read is spelled, and what is spelled is read.
use Rattle.std.proofs.Common.{◌≡◌, ℕ, zero, suc, ◌+◌, ◌*◌, ◌^◌, ◌<◌, ◌≤◌, Option, nat_lt, nat_le}
use Rattle.std.proofs.Common.{◌==◌, ◌&&◌, true, Some, None, unwrap_or, List, [], ◌∷◌, ◌++◌, length}
use Rattle.std.proofs.Common.{if◌then◌else◌, refl, ap, sym, ◌∙◌, subst, arith, append_assoc}
use Rattle.std.proofs.Common.{length-append}
use Rattle.std.specs.List.{flat_map, list_all, AllByRecursion}
use Rattle.std.specs.Str.{bytes_eq}
use Rattle.std.specs.Int.{w16, w64, from_be_bytes}
use Rattle.std.proofs.lemmas.Bool.{and_parts}
use Rattle.std.proofs.lemmas.Slice.Eq.{bytes_eq-Decides}
use Rattle.std.proofs.Math.Seq.{drop-append_seam, get_or-append_seam}
use Rattle.std.specs.Map.{keys_of}
use Rattle.std.proofs.lemmas.Bool.Decides.{nat_tests}
use Rattle.peg_name.specs.Name.{Rack, InLimits, servers_most, clients_most}
use Rattle.peg_name.specs.Holders.{servers_of, bits_of}
use Rattle.peg_name.specs.declared.Format.{Format}
use Rattle.peg_name.specs.declared.Format.TheVariants.{One, Two}
use Rattle.peg_model.specs.Packet.{two, eight, key_bytes, is_number, is_positive, is_key}
use Rattle.peg_model.specs.Packet.{are_distinct}
use Rattle.peg_model.specs.Reading.{one_at, two_at, eight_at, key_at, past_key}
use Rattle.peg_event.specs.declared.answers.Listing.{Listing}
use Rattle.peg_model.specs.Rules.{Directory}
use Rattle.peg_model.specs.Handover.{State, stamp_bytes, entry_bytes, holder_bytes, holder_width}
use Rattle.peg_model.specs.Handover.{holders_at, state_bytes, is_state, stamps_at, entries_at}
use Rattle.peg_model.specs.Handover.{state_at, state_of, mark_of, is_mark, is_entry, is_stamp_row}
use Rattle.peg_grammar.specs.State.{SpellsState, has_sets, is_rising}
use Rattle.peg_grammar.proofs.Sets.{rises_all, rises_within, bits_fit, servers_back, servers_rise}
use Rattle.peg_grammar.proofs.Sets.{Rises}
use Rattle.peg_grammar.proofs.Places.{two_back, eight_back}
use Rattle.peg_grammar.proofs.Rows.{key_behind, past_behind}
use Rattle.peg_grammar.proofs.Spelled.{if_some}
use Rattle.peg_grammar.proofs.Ranges.{number_fits, positive_fits}

-- ---- what is read is spelled

sets_at :
    (bytes : List ℕ) (format : Format) (n i : ℕ)
    → list_all (λ item. is_rising item.1.holders) (entries_at bytes format n i) ≡ true
sets_at bytes format zero i = refl
sets_at bytes format (suc n) i =
    let place : ℕ = past_key bytes i in
    let first = servers_rise (holders_at bytes format (place + 24)) in
    let later = sets_at bytes format n (place + 32 + holder_width format) in
    λ j. first j && later j

sets_of : (bytes : List ℕ) (format : Format) → has_sets (state_at bytes format) ≡ true
sets_of bytes format =
    let past : ℕ = 18 + 16 * two_at bytes 16 in
    sets_at bytes format (one_at bytes past) (past + 1)

pub state_of-Spells :
    (rack : Rack) (bytes : List ℕ) (s : State) → state_of rack bytes ≡ Some s
    → SpellsState rack bytes s
unfolding state_of
state_of-Spells rack bytes s e =
    let read : State = state_at bytes rack.format in
    let again : List ℕ = state_bytes rack.format read in
    let parts = if_some (is_state rack read && bytes_eq bytes again) read s e in
    let both = and_parts (is_state rack read) (bytes_eq bytes again) parts.0 in
    let spells : SpellsState rack bytes read =
    record {
      in_range = both.0;
      sets = sets_of bytes rack.format;
      spelled = (bytes_eq-Decides bytes again).0 both.1;
    }
    in
    subst (SpellsState rack bytes) parts.1 spells

-- ---- numbers behind a front

-- a number behind a front of these bytes
eight_on :
    (bytes front tail : List ℕ) (i n : ℕ) → bytes ≡ front ++ (eight n ++ tail) → i ≡ length front
    → n < 2 ^ 64 → eight_at bytes i ≡ n
eight_on bytes front tail i n split at small =
    (λ j. eight_at (split j) (at j))
    ∙ ap (from_be_bytes w64) (drop-append_seam front (eight n ++ tail))
    ∙ eight_back n tail small

two_on :
    (bytes front tail : List ℕ) (i n : ℕ) → bytes ≡ front ++ (two n ++ tail) → i ≡ length front
    → n < 2 ^ 16 → two_at bytes i ≡ n
two_on bytes front tail i n split at small =
    (λ j. two_at (split j) (at j))
    ∙ ap (from_be_bytes w16) (drop-append_seam front (two n ++ tail))
    ∙ two_back n tail small

-- ---- the rows of the clients

abbrev pub FitsStamp : ℕ × ℕ → Type 0
FitsStamp row = (row.0 < 2 ^ 64) × (row.1 < 2 ^ 64)

pub length_stamps : (rows : List (ℕ × ℕ)) → length (flat_map stamp_bytes rows) ≡ 16 * length rows
length_stamps [] = refl
length_stamps (row ∷ rows) =
    let rest = length_stamps rows in
    omega (arith, rest, length-append (stamp_bytes row) (flat_map stamp_bytes rows))

stamps_behind :
    (bytes front : List ℕ) (i : ℕ) (rows : List (ℕ × ℕ)) (tail : List ℕ)
    → bytes ≡ front ++ (flat_map stamp_bytes rows ++ tail) → i ≡ length front
    → AllByRecursion FitsStamp rows → stamps_at bytes (length rows) i ≡ rows
stamps_behind bytes front i [] tail split at fits = refl
stamps_behind bytes front i (row ∷ rows) tail split at (fits, later) =
    let rest : List ℕ = flat_map stamp_bytes rows in
    let first : List ℕ = front ++ eight row.0 in
    let both : List ℕ = first ++ eight row.1 in
    let to_first : bytes ≡ front ++ (eight row.0 ++ (eight row.1 ++ (rest ++ tail))) =
    split
    ∙ ap (λ b. front ++ b)
    (append_assoc (stamp_bytes row) rest tail
    ∙ append_assoc (eight row.0) (eight row.1) (rest ++ tail))
    in
    let to_second : bytes ≡ first ++ (eight row.1 ++ (rest ++ tail)) =
    to_first ∙ sym (append_assoc front (eight row.0) (eight row.1 ++ (rest ++ tail)))
    in
    let to_rest : bytes ≡ both ++ (rest ++ tail) =
    to_second ∙ sym (append_assoc first (eight row.1) (rest ++ tail))
    in
    let at_second : i + 8 ≡ length first = omega (arith, at, length-append front (eight row.0)) in
    let at_rest : i + 16 ≡ length both =
    omega (arith, at_second, length-append first (eight row.1))
    in
    let seq : eight_at bytes i ≡ row.0 =
    eight_on bytes front (eight row.1 ++ (rest ++ tail)) i row.0 to_first at fits.0
    in
    let version : eight_at bytes (i + 8) ≡ row.1 =
    eight_on bytes first (rest ++ tail) (i + 8) row.1 to_second at_second fits.1
    in
    let others : stamps_at bytes (length rows) (i + 16) ≡ rows =
    stamps_behind bytes both (i + 16) rows tail to_rest at_rest later
    in
    λ j. (seq j, version j) ∷ others j

-- ---- the entries

abbrev pub FitsBits : Format → ℕ → Type 0
FitsBits One bits = bits < 2 ^ 16
FitsBits Two bits = bits < 2 ^ 64

-- the numbers fit their bytes, the holders are a set of bits, and a mark isn't 0
pub record FitsEntry (format : Format) (entry : Listing) : Type 0 where
  pub listing : entry.listing < 2 ^ 64
  pub base : entry.base < 2 ^ 64
  pub completed : entry.completed < 2 ^ 64
  pub bits : FitsBits format (bits_of entry.holders)
  pub holders : servers_of (bits_of entry.holders) ≡ entry.holders
  pub mark : unwrap_or entry.mark 0 < 2 ^ 64
  pub marked : mark_of (unwrap_or entry.mark 0) ≡ entry.mark

holders_on :
    (format : Format) (bytes front tail : List ℕ) (i n : ℕ)
    → bytes ≡ front ++ (holder_bytes format n ++ tail) → i ≡ length front → FitsBits format n
    → holders_at bytes format i ≡ n
holders_on One bytes front tail i n split at small = two_on bytes front tail i n split at small
holders_on Two bytes front tail i n split at small = eight_on bytes front tail i n split at small

length_holders : (format : Format) (n : ℕ) → length (holder_bytes format n) ≡ holder_width format
length_holders One n = refl
length_holders Two n = refl

entries_behind :
    (format : Format) (bytes front : List ℕ) (i : ℕ) (entries : Directory)
    → bytes ≡ front ++ flat_map (entry_bytes format) entries → i ≡ length front
    → AllByRecursion (λ item. FitsEntry format item.1) entries
    → entries_at bytes format (length entries) i ≡ entries
entries_behind format bytes front i [] split at fits = refl
entries_behind format bytes front i ((key, entry) ∷ entries) split at (fits, later) =
    let rest : List ℕ = flat_map (entry_bytes format) entries in
    let k : List ℕ = key_bytes key in
    let l : List ℕ = eight entry.listing in
    let b : List ℕ = eight entry.base in
    let c : List ℕ = eight entry.completed in
    let h : List ℕ = holder_bytes format (bits_of entry.holders) in
    let m : List ℕ = eight (unwrap_or entry.mark 0) in
    let after_k : List ℕ = front ++ k in
    let after_l : List ℕ = after_k ++ l in
    let after_b : List ℕ = after_l ++ b in
    let after_c : List ℕ = after_b ++ c in
    let after_h : List ℕ = after_c ++ h in
    let after_m : List ℕ = after_h ++ m in
    let to_k : bytes ≡ front ++ (k ++ (l ++ (b ++ (c ++ (h ++ (m ++ rest)))))) =
    split
    ∙ ap (λ x. front ++ x)
    (append_assoc (k ++ l ++ b ++ c ++ h) m rest
    ∙ append_assoc (k ++ l ++ b ++ c) h (m ++ rest)
    ∙ append_assoc (k ++ l ++ b) c (h ++ (m ++ rest))
    ∙ append_assoc (k ++ l) b (c ++ (h ++ (m ++ rest)))
    ∙ append_assoc k l (b ++ (c ++ (h ++ (m ++ rest)))))
    in
    let to_l : bytes ≡ after_k ++ (l ++ (b ++ (c ++ (h ++ (m ++ rest))))) =
    to_k ∙ sym (append_assoc front k (l ++ (b ++ (c ++ (h ++ (m ++ rest))))))
    in
    let to_b : bytes ≡ after_l ++ (b ++ (c ++ (h ++ (m ++ rest)))) =
    to_l ∙ sym (append_assoc after_k l (b ++ (c ++ (h ++ (m ++ rest)))))
    in
    let to_c : bytes ≡ after_b ++ (c ++ (h ++ (m ++ rest))) =
    to_b ∙ sym (append_assoc after_l b (c ++ (h ++ (m ++ rest))))
    in
    let to_h : bytes ≡ after_c ++ (h ++ (m ++ rest)) =
    to_c ∙ sym (append_assoc after_b c (h ++ (m ++ rest)))
    in
    let to_m : bytes ≡ after_h ++ (m ++ rest) = to_h ∙ sym (append_assoc after_c h (m ++ rest)) in
    let to_rest : bytes ≡ after_m ++ rest = to_m ∙ sym (append_assoc after_h m rest) in
    let past : past_key bytes i ≡ length after_k =
    (λ j. past_key (to_k j) (at j)) ∙ past_behind front key (l ++ (b ++ (c ++ (h ++ (m ++ rest)))))
    in
    let at_b : past_key bytes i + 8 ≡ length after_l =
    omega (arith, past, length-append after_k l)
    in
    let at_c : past_key bytes i + 16 ≡ length after_b =
    omega (arith, at_b, length-append after_l b)
    in
    let at_h : past_key bytes i + 24 ≡ length after_c =
    omega (arith, at_c, length-append after_b c)
    in
    let at_m : past_key bytes i + 24 + holder_width format ≡ length after_h =
    omega (arith, at_h, length-append after_c h, length_holders format (bits_of entry.holders))
    in
    let at_rest : past_key bytes i + 32 + holder_width format ≡ length after_m =
    omega (arith, at_m, length-append after_h m)
    in
    let key_read : key_at bytes i ≡ key =
    (λ j. key_at (to_k j) (at j)) ∙ key_behind front key (l ++ (b ++ (c ++ (h ++ (m ++ rest)))))
    in
    let listing : eight_at bytes (past_key bytes i) ≡ entry.listing =
    eight_on bytes after_k (b ++ (c ++ (h ++ (m ++ rest)))) (past_key bytes i) entry.listing to_l
    past fits.listing
    in
    let base : eight_at bytes (past_key bytes i + 8) ≡ entry.base =
    eight_on bytes after_l (c ++ (h ++ (m ++ rest))) (past_key bytes i + 8) entry.base to_b at_b
    fits.base
    in
    let completed : eight_at bytes (past_key bytes i + 16) ≡ entry.completed =
    eight_on bytes after_b (h ++ (m ++ rest)) (past_key bytes i + 16) entry.completed to_c at_c
    fits.completed
    in
    let holders : servers_of (holders_at bytes format (past_key bytes i + 24)) ≡ entry.holders =
    ap servers_of
    (holders_on format bytes after_c (m ++ rest) (past_key bytes i + 24) (bits_of entry.holders)
    to_h at_h fits.bits)
    ∙ fits.holders
    in
    let mark :
    mark_of (eight_at bytes (past_key bytes i + 24 + holder_width format)) ≡ entry.mark =
    ap mark_of
    (eight_on bytes after_h rest (past_key bytes i + 24 + holder_width format)
    (unwrap_or entry.mark 0) to_m at_m fits.mark)
    ∙ fits.marked
    in
    let others :
    entries_at bytes format (length entries) (past_key bytes i + 32 + holder_width format)
    ≡ entries =
    entries_behind format bytes after_m (past_key bytes i + 32 + holder_width format) entries
    to_rest at_rest later
    in
    λ j. (
      key_read j,
      record {
        listing = listing j;
        base = base j;
        completed = completed j;
        holders = holders j;
        mark = mark j;
      },
    )
    ∷ others j

-- ---- the whole state

pub record FitsState (format : Format) (s : State) : Type 0 where
  pub next : s.stamps.next < 2 ^ 64
  pub last : s.last < 2 ^ 64
  pub clients : length s.stamps.rows < 2 ^ 16
  pub rows : AllByRecursion FitsStamp s.stamps.rows
  pub entries : AllByRecursion (λ item. FitsEntry format item.1) s.entries

pub state_at-state_bytes :
    (format : Format) (s : State) → FitsState format s → state_at (state_bytes format s) format ≡ s
unfolding state_bytes
state_at-state_bytes format s fits =
    let rows : List (ℕ × ℕ) = s.stamps.rows in
    let tail : List ℕ = length s.entries ∷ flat_map (entry_bytes format) s.entries in
    let front : List ℕ = eight s.stamps.next ++ eight s.last ++ two (length rows) in
    let stamped : List ℕ = front ++ flat_map stamp_bytes rows in
    let bytes : List ℕ = stamped ++ tail in
    let clients : two_at bytes 16 ≡ length rows = two_back (length rows) [] fits.clients in
    let next : eight_at bytes 0 ≡ s.stamps.next = eight_back s.stamps.next [] fits.next in
    let last : eight_at bytes 8 ≡ s.last = eight_back s.last [] fits.last in
    let split : bytes ≡ front ++ (flat_map stamp_bytes rows ++ tail) =
    append_assoc front (flat_map stamp_bytes rows) tail
    in
    let stamps : stamps_at bytes (two_at bytes 16) 18 ≡ rows =
    ap (λ n. stamps_at bytes n 18) clients
    ∙ stamps_behind bytes front 18 rows tail split refl fits.rows
    in
    let past : 18 + 16 * two_at bytes 16 ≡ length stamped =
    omega (arith, clients, length_stamps rows, length-append front (flat_map stamp_bytes rows))
    in
    let count : one_at bytes (18 + 16 * two_at bytes 16) ≡ length s.entries =
    ap (one_at bytes) past
    ∙ get_or-append_seam stamped (length s.entries) (flat_map (entry_bytes format) s.entries) 0
    in
    let behind :
    bytes ≡ (stamped ++ length s.entries ∷ []) ++ flat_map (entry_bytes format) s.entries =
    sym (append_assoc stamped (length s.entries ∷ []) (flat_map (entry_bytes format) s.entries))
    in
    let at : 18 + 16 * two_at bytes 16 + 1 ≡ length (stamped ++ length s.entries ∷ []) =
    omega (arith, past, length-append stamped (length s.entries ∷ []))
    in
    let entries :
    entries_at bytes format (one_at bytes (18 + 16 * two_at bytes 16))
    (18 + 16 * two_at bytes 16 + 1)
    ≡ s.entries =
    ap (λ n. entries_at bytes format n (18 + 16 * two_at bytes 16 + 1)) count
    ∙ entries_behind format bytes (stamped ++ length s.entries ∷ [])
    (18 + 16 * two_at bytes 16 + 1) s.entries behind at fits.entries
    in
    λ j. record {
      stamps = record { next = next j; rows = stamps j };
      last = last j;
      entries = entries j;
    }

pub state_of-state_bytes :
    (rack : Rack) (s : State) → is_state rack s ≡ true → FitsState rack.format s
    → state_of rack (state_bytes rack.format s) ≡ Some s
unfolding state_of
state_of-state_bytes rack s ranges fits =
    let bytes : List ℕ = state_bytes rack.format s in
    let same : bytes_eq bytes bytes ≡ true = (bytes_eq-Decides bytes bytes).1 refl in
    ap
    (λ r. if is_state rack r && bytes_eq bytes (state_bytes rack.format r) then Some r else None)
    (state_at-state_bytes rack.format s fits)
    ∙ (λ j. if ranges j && same j then Some s else None)

-- ---- the ranges

stamps_fit :
    (rows : List (ℕ × ℕ)) → list_all is_stamp_row rows ≡ true → AllByRecursion FitsStamp rows
stamps_fit [] ranges = tt
stamps_fit (row ∷ rows) ranges =
    let both = and_parts (is_stamp_row row) (list_all is_stamp_row rows) ranges in
    let numbers = and_parts (is_number row.0) (is_number row.1) both.0 in
    ((number_fits row.0 numbers.0, number_fits row.1 numbers.1), stamps_fit rows both.1)

-- the bits of servers of a rack of the format
bits_of_format :
    (format : Format) (servers : List ℕ) → Rises 0 (servers_most format) servers
    → FitsBits format (bits_of servers)
bits_of_format One servers rises = bits_fit 16 servers rises
bits_of_format Two servers rises = bits_fit 64 servers rises

most_servers : (format : Format) → servers_most format ≤ 64
most_servers One = omega arith
most_servers Two = omega arith

most_clients : (format : Format) → clients_most format < 2 ^ 16
most_clients One = omega arith
most_clients Two = omega arith

mark_fits : (mark : Option ℕ) → is_mark mark ≡ true → unwrap_or mark 0 < 2 ^ 64
mark_fits None range = omega arith
mark_fits (Some mark) range = positive_fits mark range

mark_back : (mark : Option ℕ) → is_mark mark ≡ true → mark_of (unwrap_or mark 0) ≡ mark
mark_back None range = refl
mark_back (Some mark) range = grind (arith, nat_tests)

entry_fits :
    (rack : Rack) (key : List ℕ) (entry : Listing) → InLimits rack
    → is_entry rack (key, entry) ≡ true → is_rising entry.holders ≡ true
    → FitsEntry rack.format entry
entry_fits rack key entry limits ranges rising =
    let within = λ (server : ℕ). nat_lt server rack.servers in
    let a =
    and_parts
    (is_key key && is_number entry.listing && is_number entry.base && is_number entry.completed
    && nat_lt 0 (length entry.holders) && list_all within entry.holders) (is_mark entry.mark)
    ranges
    in
    let b =
    and_parts
    (is_key key && is_number entry.listing && is_number entry.base && is_number entry.completed
    && nat_lt 0 (length entry.holders)) (list_all within entry.holders) a.0
    in
    let c =
    and_parts
    (is_key key && is_number entry.listing && is_number entry.base && is_number entry.completed)
    (nat_lt 0 (length entry.holders)) b.0
    in
    let d =
    and_parts (is_key key && is_number entry.listing && is_number entry.base)
    (is_number entry.completed) c.0
    in
    let e = and_parts (is_key key && is_number entry.listing) (is_number entry.base) d.0 in
    let f = and_parts (is_key key) (is_number entry.listing) e.0 in
    let rises : Rises 0 (servers_most rack.format) entry.holders =
    rises_within 0 rack.servers (servers_most rack.format) entry.holders limits.servers.1
    (rises_all rack.servers entry.holders rising b.1)
    in
    let most = most_servers rack.format in
    record {
      listing = number_fits entry.listing f.1;
      base = number_fits entry.base e.1;
      completed = number_fits entry.completed d.1;
      bits = bits_of_format rack.format entry.holders rises;
      holders =
          servers_back entry.holders
          (rises_within 0 (servers_most rack.format) 64 entry.holders most rises);
      mark = mark_fits entry.mark a.1;
      marked = mark_back entry.mark a.1;
    }

entries_fit :
    (rack : Rack) (entries : Directory) → InLimits rack → list_all (is_entry rack) entries ≡ true
    → list_all (λ item. is_rising item.1.holders) entries ≡ true
    → AllByRecursion (λ item. FitsEntry rack.format item.1) entries
entries_fit rack [] limits ranges rising = tt
entries_fit rack ((key, entry) ∷ entries) limits ranges rising =
    let both = and_parts (is_entry rack (key, entry)) (list_all (is_entry rack) entries) ranges in
    let sets =
    and_parts (is_rising entry.holders) (list_all (λ item. is_rising item.1.holders) entries)
    rising
    in
    (entry_fits rack key entry limits both.0 sets.0, entries_fit rack entries limits both.1 sets.1)

pub state_fits :
    (rack : Rack) (s : State) → InLimits rack → is_state rack s ≡ true → has_sets s ≡ true
    → FitsState rack.format s
state_fits rack s limits ranges sets =
    let rows = s.stamps.rows in
    let a =
    and_parts
    (is_positive s.stamps.next && is_positive s.last && length rows == rack.clients
    && list_all is_stamp_row rows && nat_le (length s.entries) rack.listed
    && list_all (is_entry rack) s.entries) (are_distinct (keys_of s.entries)) ranges
    in
    let b =
    and_parts
    (is_positive s.stamps.next && is_positive s.last && length rows == rack.clients
    && list_all is_stamp_row rows && nat_le (length s.entries) rack.listed)
    (list_all (is_entry rack) s.entries) a.0
    in
    let c =
    and_parts
    (is_positive s.stamps.next && is_positive s.last && length rows == rack.clients
    && list_all is_stamp_row rows) (nat_le (length s.entries) rack.listed) b.0
    in
    let d =
    and_parts (is_positive s.stamps.next && is_positive s.last && length rows == rack.clients)
    (list_all is_stamp_row rows) c.0
    in
    let e =
    and_parts (is_positive s.stamps.next && is_positive s.last) (length rows == rack.clients) d.0
    in
    let f = and_parts (is_positive s.stamps.next) (is_positive s.last) e.0 in
    let count : length rows ≡ rack.clients = grind (arith, nat_tests, e.1) in
    record {
      next = positive_fits s.stamps.next f.0;
      last = positive_fits s.last f.1;
      clients = omega (arith, count, limits.clients.1, most_clients rack.format);
      rows = stamps_fit rows d.1;
      entries = entries_fit rack s.entries limits b.1 sets;
    }

pub Spells-state_of :
    (rack : Rack) (bytes : List ℕ) (s : State) → InLimits rack → SpellsState rack bytes s
    → state_of rack bytes ≡ Some s
Spells-state_of rack bytes s limits spells =
    let fits = state_fits rack s limits spells.in_range spells.sets in
    ap (state_of rack) spells.spelled ∙ state_of-state_bytes rack s spells.in_range fits
