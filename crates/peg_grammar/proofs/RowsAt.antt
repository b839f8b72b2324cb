-- Rows that stand one after another: the first and the others.
use Rattle.std.proofs.Common.{◌≡◌, ℕ, zero, suc, ◌+◌, ◌-◌, ◌≤◌, ◌&&◌, ◌||◌, not, true, false, List}
use Rattle.std.proofs.Common.{[], ◌∷◌, nat_le, ◌++◌, length, take, drop, refl, ap, sym, ◌∙◌, arith}
use Rattle.std.proofs.Common.{append_assoc, length-append, length-take-le, take-append-drop, subst}
use Rattle.std.specs.List.{list_all, flat_map}
use Rattle.std.proofs.lemmas.Bool.{and_parts}
use Rattle.std.proofs.lemmas.List.{drop-drop, length-drop, drop_all, get_or-drop}
use Rattle.std.specs.Int.{w64, from_be_bytes}
use Rattle.std.proofs.Math.Seq.{drop-append_seam}
use Rattle.peg_name.specs.declared.Row.{Row}
use Rattle.std.specs.Str.{bytes_eq}
use Rattle.peg_model.specs.Words.{is_in}
use Rattle.peg_name.specs.declared.Format.{Format}
use Rattle.peg_grammar.proofs.Parts.{report_says}
use Rattle.peg_model.specs.Packet.{Report, eight, key_bytes, row_bytes, spelling, in_range, is_key}
use Rattle.peg_model.specs.Packet.{is_positive, is_number, row_in_range, are_distinct}
use Rattle.peg_model.specs.Packet.{keys_of_rows}
use Rattle.peg_model.specs.Reading.{one_at, eight_at, key_at, past_key, rows_at}
use Rattle.peg_grammar.specs.Rows.{has_key, RowsFrom, IsRowAt}
use Rattle.peg_grammar.proofs.Lay.{one_on, head_on, length_on, AreBytes, eight_split}

-- the row that stands at a place
abbrev pub row_on : List ℕ → ℕ → Row
row_on bytes at =
    record {
      key = key_at bytes at;
      count = eight_at bytes (past_key bytes at);
      error = eight_at bytes (past_key bytes at + 8);
    }

pub length-rows_at : (bytes : List ℕ) (n at : ℕ) → length (rows_at bytes n at) ≡ n
length-rows_at bytes zero at = refl
length-rows_at bytes (suc n) at = ap (λ k. suc k) (length-rows_at bytes n (past_key bytes at + 16))

pub record FirstRow (bytes : List ℕ) (n at : ℕ) : Type 0 where
  pub row : IsRowAt bytes at
  pub rest : RowsFrom bytes n (past_key bytes at + 16)

length_row : (row : Row) → length (row_bytes row) ≡ 17 + length row.key
length_row row =
    let outer = length-append (key_bytes row.key ++ eight row.count) (eight row.error) in
    let inner = length-append (key_bytes row.key) (eight row.count) in
    omega (arith, outer, inner)

pub first_row : (bytes : List ℕ) (n at : ℕ) → RowsFrom bytes (suc n) at → FirstRow bytes n at
first_row bytes n at rows =
    let row : Row = row_on bytes at in
    let rest : List Row = rows_at bytes n (past_key bytes at + 16) in
    let tail : List ℕ = flat_map row_bytes rest in
    let keys = and_parts (has_key row) (list_all has_key rest) rows.keyed in
    let split :
    drop at bytes ≡ length row.key ∷ ((row.key ++ eight row.count ++ eight row.error) ++ tail) =
    rows.spelled
    in
    let size : one_at bytes at ≡ length row.key =
    head_on bytes at (length row.key) ((row.key ++ eight row.count ++ eight row.error) ++ tail)
    split
    in
    let whole =
    length_on bytes at (length row.key) ((row.key ++ eight row.count ++ eight row.error) ++ tail)
    split
    in
    let inner = length-append (row.key ++ eight row.count ++ eight row.error) tail in
    let middle = length-append (row.key ++ eight row.count) (eight row.error) in
    let front = length-append row.key (eight row.count) in
    let next : at + length (row_bytes row) ≡ past_key bytes at + 16 =
    omega (arith, size, length_row row)
    in
    let behind : drop (past_key bytes at + 16) bytes ≡ tail =
    ap (λ k. drop k bytes) (sym next)
    ∙ sym (drop-drop (length (row_bytes row)) at bytes)
    ∙ ap (drop (length (row_bytes row))) rows.spelled
    ∙ drop-append_seam (row_bytes row) tail
    in
    record {
      row = record { keyed = keys.0; fits = omega (arith, size, whole, inner, middle, front) };
      rest = record { keyed = keys.1; spelled = behind };
    }

-- the key of a row at its place
pub key_there :
    (bytes : List ℕ) (at : ℕ) → IsRowAt bytes at
    → drop at bytes ≡ key_bytes (key_at bytes at) ++ drop (past_key bytes at) bytes
key_there bytes at row =
    let rest : List ℕ = drop (at + 1) bytes in
    let size : length (key_at bytes at) ≡ one_at bytes at =
    length-take-le (one_at bytes at) rest (omega (arith, row.fits, length-drop (at + 1) bytes))
    in
    one_on bytes at (omega (arith, row.fits))
    ∙ ap (λ t. one_at bytes at ∷ t)
    (sym (take-append-drop (one_at bytes at) rest)
    ∙ ap (λ t. key_at bytes at ++ t) (drop-drop (one_at bytes at) (at + 1) bytes))
    ∙ ap (λ n. n ∷ (key_at bytes at ++ drop (past_key bytes at) bytes)) (sym size)

-- the bytes of a row at its place
row_split : (bytes : List ℕ) (at : ℕ) → AreBytes bytes → IsRowAt bytes at
    → drop at bytes ≡ row_bytes (row_on bytes at) ++ drop (past_key bytes at + 16) bytes
row_split bytes at are row =
    let i : ℕ = past_key bytes at in
    let k : List ℕ = key_bytes (key_at bytes at) in
    let c : List ℕ = eight (eight_at bytes i) in
    let e : List ℕ = eight (eight_at bytes (i + 8)) in
    let rest : List ℕ = drop (i + 16) bytes in
    let second : drop (i + 8) bytes ≡ e ++ drop (i + 8 + 8) bytes =
    eight_split bytes (i + 8) (omega (arith, row.fits)) are
    in
    let sixteen : i + 8 + 8 ≡ i + 16 = omega arith in
    let first : drop i bytes ≡ c ++ (e ++ rest) =
    eight_split bytes i (omega (arith, row.fits)) are
    ∙ ap (λ t. c ++ t) (second ∙ ap (λ j. e ++ drop j bytes) sixteen)
    in
    key_there bytes at row
    ∙ ap (λ t. k ++ t) first
    ∙ sym (append_assoc k c (e ++ rest))
    ∙ sym (append_assoc (k ++ c) e rest)

pub with_row : (bytes : List ℕ) (n at : ℕ) → AreBytes bytes → IsRowAt bytes at
    → RowsFrom bytes n (past_key bytes at + 16) → RowsFrom bytes (suc n) at
with_row bytes n at are row rest =
    record {
      keyed = λ i. row.keyed i && rest.keyed i;
      spelled =
          row_split bytes at are row ∙ ap (λ t. row_bytes (row_on bytes at) ++ t) rest.spelled;
    }

-- no rows, and nothing more
pub no_rows : (bytes : List ℕ) (at : ℕ) → length bytes ≤ at → RowsFrom bytes 0 at
no_rows bytes at h = record { keyed = refl; spelled = drop_all at bytes h }

pub no_rows-end : (bytes : List ℕ) (at : ℕ) → RowsFrom bytes 0 at → length bytes ≤ at
no_rows-end bytes at rows =
    let rest : length bytes - at ≡ 0 = sym (length-drop at bytes) ∙ ap length rows.spelled in
    omega (arith, rest)

-- the same rows behind a front
pub rows_at-drop :
    (bytes : List ℕ) (k n i : ℕ) → rows_at (drop k bytes) n i ≡ rows_at bytes n (k + i)
rows_at-drop bytes k zero i = refl
rows_at-drop bytes k (suc n) i =
    let size : one_at (drop k bytes) i ≡ one_at bytes (k + i) = get_or-drop k bytes i 0 in
    let after : (j : ℕ) → drop j (drop k bytes) ≡ drop (k + j) bytes = λ j. drop-drop j k bytes in
    let one_on : k + (i + 1) ≡ k + i + 1 = omega arith in
    let key : key_at (drop k bytes) i ≡ key_at bytes (k + i) =
    (λ j. take (size j) (drop (i + 1) (drop k bytes)))
    ∙ ap (take (one_at bytes (k + i))) (after (i + 1) ∙ ap (λ m. drop m bytes) one_on)
    in
    let past : k + past_key (drop k bytes) i ≡ past_key bytes (k + i) = omega (arith, size) in
    let past_eight : k + (past_key (drop k bytes) i + 8) ≡ past_key bytes (k + i) + 8 =
    omega (arith, size)
    in
    let past_all : k + (past_key (drop k bytes) i + 16) ≡ past_key bytes (k + i) + 16 =
    omega (arith, size)
    in
    let count :
    eight_at (drop k bytes) (past_key (drop k bytes) i) ≡ eight_at bytes (past_key bytes (k + i)) =
    ap (from_be_bytes w64) (after (past_key (drop k bytes) i) ∙ ap (λ m. drop m bytes) past)
    in
    let error :
    eight_at (drop k bytes) (past_key (drop k bytes) i + 8)
    ≡ eight_at bytes (past_key bytes (k + i) + 8) =
    ap (from_be_bytes w64)
    (after (past_key (drop k bytes) i + 8) ∙ ap (λ m. drop m bytes) past_eight)
    in
    let rest :
    rows_at (drop k bytes) n (past_key (drop k bytes) i + 16)
    ≡ rows_at bytes n (past_key bytes (k + i) + 16) =
    rows_at-drop bytes k n (past_key (drop k bytes) i + 16) ∙ ap (rows_at bytes n) past_all
    in
    λ j. record { key = key j; count = count j; error = error j } ∷ rest j

-- ---- the same for a count that is not 0

pub rows_first : (bytes : List ℕ) (n m at : ℕ) → n ≡ suc m → RowsFrom bytes n at → IsRowAt bytes at
rows_first bytes n m at is rows =
    (first_row bytes m at (let P : ℕ → Type 0 = λ k. RowsFrom bytes k at in subst P is rows)).row

pub rows_down :
    (bytes : List ℕ) (n m at next : ℕ) → n ≡ suc m → next ≡ past_key bytes at + 16
    → RowsFrom bytes n at → RowsFrom bytes m next
rows_down bytes n m at next is behind rows =
    let P : ℕ → Type 0 = λ k. RowsFrom bytes k at in
    let Q : ℕ → Type 0 = λ k. RowsFrom bytes m k in
    subst Q (sym behind) (first_row bytes m at (subst P is rows)).rest

pub rows_up :
    (bytes : List ℕ) (n m at next : ℕ) → AreBytes bytes → n ≡ suc m → next ≡ past_key bytes at + 16
    → IsRowAt bytes at → RowsFrom bytes m next → RowsFrom bytes n at
rows_up bytes n m at next are is behind row rows =
    let P : ℕ → Type 0 = λ k. RowsFrom bytes k at in
    let Q : ℕ → Type 0 = λ k. RowsFrom bytes m k in
    subst P (sym is) (with_row bytes m at are row (subst Q behind rows))

pub rows_over : (bytes : List ℕ) (n at : ℕ) → n ≡ 0 → RowsFrom bytes n at → length bytes ≤ at
rows_over bytes n at is rows =
    no_rows-end bytes at (let P : ℕ → Type 0 = λ k. RowsFrom bytes k at in subst P is rows)

pub rows_all : (bytes : List ℕ) (n at : ℕ) → n ≡ 0 → length bytes ≤ at → RowsFrom bytes n at
rows_all bytes n at is long =
    let P : ℕ → Type 0 = λ k. RowsFrom bytes k at in subst P (sym is) (no_rows bytes at long)

rows_keyed : (rows : List Row) → list_all row_in_range rows ≡ true → list_all has_key rows ≡ true
rows_keyed [] h = refl
rows_keyed (row ∷ rows) h =
    let both = and_parts (row_in_range row) (list_all row_in_range rows) h in
    let numbers =
    and_parts (is_key row.key && is_positive row.count) (nat_le row.error row.count) both.0
    in
    let key = (and_parts (is_key row.key) (is_positive row.count) numbers.0).0 in
    let rest = rows_keyed rows both.1 in
    λ i. key i && rest i

report_keyed :
    (format : Format) (epoch total : ℕ) (rows : List Row)
    → in_range format (Report epoch total rows) ≡ true → list_all has_key rows ≡ true
unfolding in_range
report_keyed format epoch total rows h =
    let distinct =
    and_parts
    (is_number epoch && is_number total && nat_le (length rows) 12 && list_all row_in_range rows)
    (are_distinct (keys_of_rows rows)) h
    in
    let fit =
    and_parts (is_number epoch && is_number total && nat_le (length rows) 12)
    (list_all row_in_range rows) distinct.0
    in
    rows_keyed rows fit.1

-- the rows that a report's bytes spell stand in them behind its front
pub report_rows :
    (format : Format) (epoch total : ℕ) (bytes : List ℕ)
    → in_range format (Report epoch total (rows_at bytes (one_at bytes 20) 21)) ≡ true
    → bytes ≡ spelling format (Report epoch total (rows_at bytes (one_at bytes 20) 21))
    → RowsFrom (drop 21 bytes) (one_at bytes 20) 0
report_rows format epoch total bytes ranges spelled =
    let rows : List Row = rows_at bytes (one_at bytes 20) 21 in
    let same : rows_at (drop 21 bytes) (one_at bytes 20) 0 ≡ rows =
    rows_at-drop bytes 21 (one_at bytes 20) 0
    in
    let says = report_says format epoch total rows bytes spelled in
    record {
      keyed = ap (list_all has_key) same ∙ report_keyed format epoch total rows ranges;
      spelled = says.2 ∙ ap (flat_map row_bytes) (sym same);
    }

-- ---- tests of the first row

pub row_out :
    (bytes : List ℕ) (n m at : ℕ) → n ≡ suc m → row_in_range (row_on bytes at) ≡ false
    → list_all row_in_range (rows_at bytes n at) ≡ false
row_out bytes n m at is out =
    ap (λ k. list_all row_in_range (rows_at bytes k at)) is
    ∙ (λ i. out i && list_all row_in_range (rows_at bytes m (past_key bytes at + 16)))

pub row_in :
    (bytes : List ℕ) (n m at next : ℕ) → n ≡ suc m → next ≡ past_key bytes at + 16
    → row_in_range (row_on bytes at) ≡ true
    → list_all row_in_range (rows_at bytes n at) ≡ list_all row_in_range (rows_at bytes m next)
row_in bytes n m at next is behind inside =
    ap (λ k. list_all row_in_range (rows_at bytes k at)) is
    ∙ (λ i. inside i && list_all row_in_range (rows_at bytes m (past_key bytes at + 16)))
    ∙ ap (λ j. list_all row_in_range (rows_at bytes m j)) (sym behind)

pub key_in :
    (key bytes : List ℕ) (n m at : ℕ) → n ≡ suc m → bytes_eq key (key_at bytes at) ≡ true
    → is_in key (keys_of_rows (rows_at bytes n at)) ≡ true
key_in key bytes n m at is same =
    ap (λ k. is_in key (keys_of_rows (rows_at bytes k at))) is
    ∙ (λ i. same i || is_in key (keys_of_rows (rows_at bytes m (past_key bytes at + 16))))

pub key_out :
    (key bytes : List ℕ) (n m at next : ℕ) → n ≡ suc m → next ≡ past_key bytes at + 16
    → bytes_eq key (key_at bytes at) ≡ false
    → is_in key (keys_of_rows (rows_at bytes n at))
    ≡ is_in key (keys_of_rows (rows_at bytes m next))
key_out key bytes n m at next is behind other =
    ap (λ k. is_in key (keys_of_rows (rows_at bytes k at))) is
    ∙ (λ i. other i || is_in key (keys_of_rows (rows_at bytes m (past_key bytes at + 16))))
    ∙ ap (λ j. is_in key (keys_of_rows (rows_at bytes m j))) (sym behind)

pub twice :
    (bytes : List ℕ) (n m at next : ℕ) → n ≡ suc m → next ≡ past_key bytes at + 16
    → is_in (key_at bytes at) (keys_of_rows (rows_at bytes m next)) ≡ true
    → are_distinct (keys_of_rows (rows_at bytes n at)) ≡ false
twice bytes n m at next is behind again =
    let found :
    is_in (key_at bytes at) (keys_of_rows (rows_at bytes m (past_key bytes at + 16))) ≡ true =
    ap (λ j. is_in (key_at bytes at) (keys_of_rows (rows_at bytes m j))) (sym behind) ∙ again
    in
    ap (λ k. are_distinct (keys_of_rows (rows_at bytes k at))) is
    ∙ (λ i. not (found i)
    && are_distinct (keys_of_rows (rows_at bytes m (past_key bytes at + 16))))

pub once :
    (bytes : List ℕ) (n m at next : ℕ) → n ≡ suc m → next ≡ past_key bytes at + 16
    → is_in (key_at bytes at) (keys_of_rows (rows_at bytes m next)) ≡ false
    → are_distinct (keys_of_rows (rows_at bytes n at))
    ≡ are_distinct (keys_of_rows (rows_at bytes m next))
once bytes n m at next is behind new =
    let other :
    is_in (key_at bytes at) (keys_of_rows (rows_at bytes m (past_key bytes at + 16))) ≡ false =
    ap (λ j. is_in (key_at bytes at) (keys_of_rows (rows_at bytes m j))) (sym behind) ∙ new
    in
    ap (λ k. are_distinct (keys_of_rows (rows_at bytes k at))) is
    ∙ (λ i. not (other i)
    && are_distinct (keys_of_rows (rows_at bytes m (past_key bytes at + 16))))
    ∙ ap (λ j. are_distinct (keys_of_rows (rows_at bytes m j))) (sym behind)
