-- The walk to one row of a report, from the first row on.
use Rattle.std.proofs.Common.{◌≡◌, ℕ, zero, suc, ◌+◌, ◌-◌, ◌<◌, ◌≤◌, List, Some, arith, ap}
use Rattle.std.proofs.Common.{sym}
use Rattle.std.proofs.Common.{◌∙◌, subst}
use Rattle.std.specs.Prelude.{slice_get}
use Rattle.peg_name.specs.declared.Row.{Row}
use Rattle.peg_model.specs.Reading.{rows_at, key_at, past_key, eight_at}
use Rattle.peg_grammar.specs.Rows.{RowsFrom, IsRowAt}
use Rattle.peg_grammar.proofs.RowsAt.{rows_first, rows_down}

-- of n rows, the row i is that at `left` of those from the place on
pub record IsOnTheWay (rows : List Row) (bytes : List ℕ) (n i at left : ℕ) : Type 0 where
  pub within : i < n
  pub fewer : left ≤ i
  pub from : RowsFrom bytes (n - i + left) at
  pub same : slice_get rows i ≡ slice_get (rows_at bytes (n - i + left) at) left

pub sets_out :
    (rows : List Row) (bytes : List ℕ) (n i : ℕ)
    → i < n → RowsFrom bytes n 0 → rows_at bytes n 0 ≡ rows
    → IsOnTheWay rows bytes n i 0 i
sets_out rows bytes n i within from same =
    let all : n ≡ n - i + i = omega (arith, within) in
    let P : ℕ → Type 0 = λ k. RowsFrom bytes k 0 in
    record {
      within = within;
      fewer = omega arith;
      from = subst P all from;
      same = ap (λ rs. slice_get rs i) (sym same) ∙ ap (λ k. slice_get (rows_at bytes k 0) i) all;
    }

pub stands_there :
    {rows : List Row} {bytes : List ℕ} {n i at left : ℕ}
    → IsOnTheWay rows bytes n i at left → IsRowAt bytes at
stands_there {rows} {bytes} {n} {i} {at} {left} way =
    rows_first bytes (n - i + left) (n - i + left - 1) at (omega (arith, way.within)) way.from

next_row :
    (bytes : List ℕ) (k m at next left : ℕ)
    → k ≡ suc m → next ≡ past_key bytes at + 16
    → slice_get (rows_at bytes k at) (suc left) ≡ slice_get (rows_at bytes m next) left
next_row bytes zero m at next left k_is next_is = absurd cc
next_row bytes (suc k) m at next left k_is next_is =
    let same : k ≡ m = omega (arith, k_is) in
    ap (λ x. slice_get (rows_at bytes x (past_key bytes at + 16)) left) same
    ∙ ap (λ x. slice_get (rows_at bytes m x) left) (sym next_is)

pub goes_on :
    {rows : List Row} {bytes : List ℕ} {n i at : ℕ}
    → (left next : ℕ) → IsOnTheWay rows bytes n i at left → 0 < left
    → next ≡ past_key bytes at + 16
    → IsOnTheWay rows bytes n i next (left - 1)
goes_on zero next way more next_is = absurd (omega arith)
goes_on {rows} {bytes} {n} {i} {at} (suc left) next way more next_is =
    let fewer : left ≡ suc left - 1 = omega arith in
    let P : ℕ → Type 0 = λ k. IsOnTheWay rows bytes n i next k in
    subst P fewer (record {
      within = way.within;
      fewer = omega (arith, way.fewer);
      from =
          rows_down bytes (n - i + suc left) (n - i + left) at next (omega (arith, way.within))
          next_is
          way.from;
      same =
          way.same
          ∙ next_row bytes (n - i + suc left) (n - i + left) at next left
          (omega (arith, way.within)) next_is;
    })

first_row_is :
    (bytes : List ℕ) (k m at : ℕ) (row : Row)
    → k ≡ suc m
    → row.key ≡ key_at bytes at
    → row.count ≡ eight_at bytes (past_key bytes at)
    → row.error ≡ eight_at bytes (past_key bytes at + 8)
    → slice_get (rows_at bytes k at) 0 ≡ Some row
first_row_is bytes zero m at row k_is key count error = absurd cc
first_row_is bytes (suc k) m at row k_is key count error =
    λ i. Some (record {
      key = sym key i;
      count = sym count i;
      error = sym error i;
    })

pub arrives :
    {rows : List Row} {bytes : List ℕ} {n i at left : ℕ}
    → (row : Row) → IsOnTheWay rows bytes n i at left → left ≡ 0
    → row.key ≡ key_at bytes at
    → row.count ≡ eight_at bytes (past_key bytes at)
    → row.error ≡ eight_at bytes (past_key bytes at + 8)
    → slice_get rows i ≡ Some row
arrives {rows} {bytes} {n} {i} {at} {left} row way over key count error =
    way.same
    ∙ ap (slice_get (rows_at bytes (n - i + left) at)) over
    ∙ first_row_is bytes (n - i + left) (n - i + left - 1) at row (omega (arith, way.within)) key
    count error
