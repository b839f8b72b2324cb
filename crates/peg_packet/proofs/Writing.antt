-- Rows that are written one behind the other.
use Rattle.std.proofs.Common.{◌≡◌, ℕ, zero, suc, ◌<◌, ◌≤◌, true, List, []}
use Rattle.std.proofs.Common.{◌∷◌}
use Rattle.std.proofs.Common.{◌++◌, length, take, refl, arith, ap, sym, ◌∙◌, subst, length-append}
use Rattle.std.proofs.Common.{append-nil, append_assoc}
use Rattle.std.specs.Prelude.{slice_index_or, flat_map}
use Rattle.std.specs.List.{list_all}
use Rattle.std.proofs.lemmas.Bool.{and_parts}
use Rattle.std.proofs.lemmas.Bool.Decides.{nat_tests}
use Rattle.std.specs.Cmp.Derive.{both_true}
use Rattle.peg_name.specs.declared.Row.{Row}
use Rattle.peg_model.specs.Packet.{row_bytes, row_in_range}
use Rattle.peg_model.specs.Reading.{rows_at}
use Rattle.peg_grammar.specs.Rows.{rows_in, has_key}
use Rattle.peg_grammar.proofs.Rows.{rows_behind}
use Rattle.peg_grammar.proofs.Ranges.{rows_fit}

short_key : (row : Row) → row_in_range row ≡ true → length row.key ≤ 32
short_key row h = grind (arith, nat_tests)

row_short : (row : Row) → row_in_range row ≡ true → length (row_bytes row) ≤ 49
row_short row h =
    let key = short_key row h in
    rw (length-append, length-append) (omega (arith, key))

pub row_long :
    (rows : List Row) (i : ℕ) (row : Row)
    → list_all row_in_range rows ≡ true → i < length rows → row ≡ slice_index_or rows i row
    → length (row_bytes row) ≤ 49
row_long [] i row all below is = absurd (omega (arith, below))
row_long (r ∷ rows) zero row all below is =
    let P : Row → Type 0 = λ x. length (row_bytes x) ≤ 49 in
    subst P (sym is) (row_short r (and_parts (row_in_range r) (list_all row_in_range rows) all).0)
row_long (r ∷ rows) (suc i) row all below is =
    row_long rows i row (and_parts (row_in_range r) (list_all row_in_range rows) all).1
    (omega (arith, below)) is

-- the rows up to one, and that one
pub rows_more :
    (rows : List Row) (i : ℕ) (row : Row)
    → i < length rows → row ≡ slice_index_or rows i row
    → flat_map row_bytes (take i rows) ++ row_bytes row ≡ flat_map row_bytes (take (suc i) rows)
rows_more [] i row below is = absurd (omega (arith, below))
rows_more (r ∷ rows) zero row below is =
    ap row_bytes is ∙ sym (append-nil (row_bytes r))
rows_more (r ∷ rows) (suc i) row below is =
    append_assoc (row_bytes r) (flat_map row_bytes (take i rows)) (row_bytes row)
    ∙ ap (λ t. row_bytes r ++ t) (rows_more rows i row (omega (arith, below)) is)

keyed : (row : Row) → row_in_range row ≡ true → has_key row ≡ true
keyed row h = grind (arith, nat_tests)

all_keyed :
    (rows : List Row) → list_all row_in_range rows ≡ true → list_all has_key rows ≡ true
all_keyed [] all = refl
all_keyed (r ∷ rows) all =
    let both = and_parts (row_in_range r) (list_all row_in_range rows) all in
    both_true (keyed r both.0) (all_keyed rows both.1)

pub rows_back :
    (rows : List Row) (bytes : List ℕ) (n : ℕ)
    → list_all row_in_range rows ≡ true → bytes ≡ flat_map row_bytes rows → n ≡ length rows
    → rows_in bytes n ≡ rows
rows_back rows bytes n all is count =
    (λ i. rows_at ((is ∙ sym (append-nil (flat_map row_bytes rows))) i) (count i) 0)
    ∙ rows_behind [] rows [] (rows_fit rows all)

pub rows_keyed :
    (rows : List Row) (bytes : List ℕ) (n : ℕ)
    → list_all row_in_range rows ≡ true → bytes ≡ flat_map row_bytes rows → n ≡ length rows
    → list_all has_key (rows_in bytes n) ≡ true
rows_keyed rows bytes n all is count =
    ap (list_all has_key) (rows_back rows bytes n all is count) ∙ all_keyed rows all
