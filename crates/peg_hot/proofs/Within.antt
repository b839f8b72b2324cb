-- The rows of a table are rows that a report may carry.
use Rattle.std.proofs.Common.{◌≡◌, ◌<◌, ◌≤◌, ◌+◌, ◌-◌, ◌^◌, ℕ, Bool, true, false, not, ◌&&◌, ◌||◌}
use Rattle.std.proofs.Common.{◌==◌, if◌then◌else◌, List, [], ◌∷◌, ◌++◌, length, nat_lt, nat_le}
use Rattle.std.proofs.Common.{refl, ap, ◌∙◌, arith}
use Rattle.std.proofs.lemmas.Bool.Decides.{nat_tests}
use Rattle.std.specs.List.{list_all, AllByRecursion}
use Rattle.std.specs.Str.{bytes_eq}
use Rattle.peg_name.specs.Name.{IsKey}
use Rattle.peg_name.specs.declared.Row.{Row}
use Rattle.peg_model.specs.Words.{is_in}
use Rattle.peg_model.specs.Packet.{is_key, is_positive, row_in_range, are_distinct}
use Rattle.peg_model.specs.Packet.{keys_of_rows}
use Rattle.peg_model.specs.Counts.{has_row, raised, least, taken_over, rows_after}
use Rattle.peg_hot.specs.Table.{IsDistinct}
use Rattle.peg_hot.proofs.Rows.{turned}

first_of : (a b : Bool) → (a && b) ≡ true → a ≡ true
first_of true b h = refl
first_of false b h = cc

second_of : (a b : Bool) → (a && b) ≡ true → b ≡ true
second_of true b h = h
second_of false b h = cc

both : (a b : Bool) → a ≡ true → b ≡ true → (a && b) ≡ true
both a b h k = ap (λ x. x && b) h ∙ k

pub is_key_of : (key : List ℕ) → IsKey key → is_key key ≡ true
is_key_of key k = grind (arith, nat_tests, k.0, k.1)

-- a row with these numbers
made :
    (key : List ℕ) (count error : ℕ) → is_key key ≡ true → 0 < count → count < 2 ^ 64
    → error ≤ count → row_in_range (record { key = key; count = count; error = error }) ≡ true
made key count error k some small le =
    both (is_key key && is_positive count) (nat_le error count)
    (both (is_key key) (is_positive count) k (positive count some small)) (at_most error count le)
  where
    positive : (c : ℕ) → 0 < c → c < 2 ^ 64 → is_positive c ≡ true
    positive c some small = grind (arith, nat_tests)

    at_most : (e c : ℕ) → e ≤ c → nat_le e c ≡ true
    at_most e c le = grind (arith, nat_tests)

record Parts (row : Row) : Type 0 where
  key : is_key row.key ≡ true
  some : 0 < row.count
  error : row.error ≤ row.count

parts_of : (row : Row) → row_in_range row ≡ true → Parts row
parts_of row h =
    let front = first_of (is_key row.key && is_positive row.count) (nat_le row.error row.count) h in
    record {
      key = first_of (is_key row.key) (is_positive row.count) front;
      some = above row.count (second_of (is_key row.key) (is_positive row.count) front);
      error = up_to row.error row.count
          (second_of (is_key row.key && is_positive row.count) (nat_le row.error row.count) h);
    }
  where
    above : (c : ℕ) → is_positive c ≡ true → 0 < c
    above c h = grind (arith, nat_tests)

    up_to : (e c : ℕ) → nat_le e c ≡ true → e ≤ c
    up_to e c h = grind (arith, nat_tests)

more : (row : Row) → row.count < 2 ^ 64 - 1 → row_in_range row ≡ true
    → row_in_range (record { key = row.key; count = row.count + 1; error = row.error }) ≡ true
more row small h =
    let p = parts_of row h in
    let e = p.error in
    made row.key (row.count + 1) row.error p.key (omega (arith)) (omega (arith, small))
    (omega (arith, e))

within_raised :
    (key : List ℕ) (rows : List Row) → AllByRecursion (λ row. row.count < 2 ^ 64 - 1) rows
    → list_all row_in_range rows ≡ true → list_all row_in_range (raised key rows) ≡ true
within_raised key [] small h = refl
within_raised key (row ∷ rows) (here, small) h =
    both _ _ (by (bytes_eq row.key key)) (within_raised key rows small (second_of _ _ h))
  where
    by : (b : Bool) → row_in_range (if b then
        record { key = row.key; count = row.count + 1; error = row.error } else row) ≡ true
    by true = more row here (first_of _ _ h)
    by false = first_of _ _ h

within_push :
    (key : List ℕ) (rows : List Row) → is_key key ≡ true → list_all row_in_range rows ≡ true
    → list_all row_in_range (rows ++ record { key = key; count = 1; error = 0 } ∷ []) ≡ true
within_push key [] k h =
    both _ _ (made key 1 0 k (omega arith) (omega arith) (omega arith)) refl
within_push key (row ∷ rows) k h =
    both _ _ (first_of _ _ h) (within_push key rows k (second_of _ _ h))

within_taken :
    (key : List ℕ) (c : ℕ) (rows : List Row) → is_key key ≡ true
    → AllByRecursion (λ row. row.count < 2 ^ 64 - 1) rows
    → list_all row_in_range rows ≡ true → list_all row_in_range (taken_over key c rows) ≡ true
within_taken key c [] k small h = refl
within_taken key c (row ∷ rows) k (here, small) h =
    by (row.count == c) refl (within_taken key c rows k small (second_of _ _ h))
  where
    by : (b : Bool) → (row.count == c) ≡ b → list_all row_in_range (taken_over key c rows) ≡ true
        → list_all row_in_range
        (if b then record { key = key; count = c + 1; error = c } ∷ rows else row
        ∷ taken_over key c rows)
        ≡ true
    by true e rest =
        let same : row.count ≡ c = grind (arith, nat_tests) in
        both _ _ (made key (c + 1) c k (omega arith) (omega (arith, same, here)) (omega arith))
        (second_of _ _ h)
    by false e rest = both _ _ (first_of _ _ h) rest

pub within_after :
    (most : ℕ) (key : List ℕ) (rows : List Row) → is_key key ≡ true
    → AllByRecursion (λ row. row.count < 2 ^ 64 - 1) rows
    → list_all row_in_range rows ≡ true → list_all row_in_range (rows_after most key rows) ≡ true
within_after most key rows k small h = by (has_row key rows) (nat_lt (length rows) most)
  where
    by : (a b : Bool) → list_all row_in_range
        (if a then raised key rows
        else (if b then rows ++ record { key = key; count = 1; error = 0 } ∷ []
        else taken_over key (least rows) rows)) ≡ true
    by true b = within_raised key rows small h
    by false true = within_push key rows k h
    by false false = within_taken key (least rows) rows k small h

-- ---- no key has two rows

in_rows : (key : List ℕ) (rows : List Row) → is_in key (keys_of_rows rows) ≡ has_row key rows
in_rows key [] = refl
in_rows key (row ∷ rows) =
    ap (λ b. b || is_in key (keys_of_rows rows)) (turned key row.key)
    ∙ ap (λ b. bytes_eq row.key key || b) (in_rows key rows)

pub distinct_keys :
    (rows : List Row) → IsDistinct rows → are_distinct (keys_of_rows rows) ≡ true
distinct_keys [] d = refl
distinct_keys (row ∷ rows) (one, others) =
    both _ _ (ap not (in_rows row.key rows ∙ one)) (distinct_keys rows others)
