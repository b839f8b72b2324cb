-- The counts of a list of keys against how often a key was seen.
use Rattle.std.proofs.Common.{◌≡◌, ◌<◌, ◌≤◌, ◌+◌, ◌-◌, ◌*◌, ◌==◌, ◌||◌, ℕ, zero, suc, Bool}
use Rattle.std.proofs.Common.{true, false, if◌then◌else◌, nat_lt, List, [], ◌∷◌, ◌++◌, length}
use Rattle.std.proofs.Common.{take, refl, sym, ap, ◌∙◌, subst, arith}
use Rattle.std.proofs.lemmas.Bool.Decides.{nat_tests}
use Rattle.std.proofs.Math.Nat.{mul-le-mul_left}
use Rattle.std.specs.List.{list_any, AllByRecursion}
use Rattle.std.specs.Str.{bytes_eq}
use Rattle.peg_name.specs.declared.Row.{Row}
use Rattle.peg_model.specs.Words.{last_number}
use Rattle.peg_model.specs.Counts.{Counts, no_counts, has_row, raised, least, taken_over}
use Rattle.peg_model.specs.Counts.{rows_after, see}
use Rattle.peg_hot.specs.Table.{Table, sum_of, IsDistinct, counted}
use Rattle.peg_hot.specs.Laws.{seen_in, seen, CountsWell}
use Rattle.peg_hot.proofs.Rows.{turned, same, itself, first_not, rest_not, both_not}
use Rattle.peg_hot.proofs.Rows.{length-raised, has_row-raised, IsDistinct-raised, sum_of-raised}
use Rattle.peg_hot.proofs.Rows.{length-push, sum_of-push, IsDistinct-push, has_count}
use Rattle.peg_hot.proofs.Rows.{length-taken_over, sum_of-taken_over}
use Rattle.peg_hot.proofs.Rows.{IsDistinct-taken_over, small_rows, least_low, least_high}

-- ---- a table after a further request

pub table_of : ℕ → ℕ → List Row → Table
table_of most total rows = record { most = most; counts = record { total = total; rows = rows } }

first_is : (a : ℕ) (row : Row) (rows : List Row) → row.count ≡ a → has_count a (row ∷ rows) ≡ true
unfolding has_count
first_is a row rows e =
    let f : (row.count == a) ≡ true = grind (arith, nat_tests) in
    ap (λ b. b || list_any (λ r. r.count == a) rows) f

or_true : (b c : Bool) → c ≡ true → (b || c) ≡ true
or_true true c e = refl
or_true false c e = e

later_is :
    (a : ℕ) (row : Row) (rows : List Row) → has_count a rows ≡ true
    → has_count a (row ∷ rows) ≡ true
unfolding has_count
later_is a row rows e = or_true (row.count == a) (list_any (λ r. r.count == a) rows) e

pick :
    (row : Row) (rows : List Row) (m : ℕ) → (m ≤ row.count → has_count m (row ∷ rows) ≡ true)
    → (t : Bool) → nat_lt row.count m ≡ t
    → has_count (if t then row.count else m) (row ∷ rows) ≡ true
pick row rows m other true e = first_is row.count row rows refl
pick row rows m other false e = other (grind (arith, nat_tests))

-- the least count is the count of a row
pub least_found :
    (rows : List Row) → 0 < length rows → AllByRecursion (λ row. row.count ≤ last_number) rows
    → has_count (least rows) rows ≡ true
least_found [] some small = absurd (omega arith)
least_found (row ∷ []) some (one, small) =
    pick row [] last_number (λ le. first_is last_number row [] (omega arith))
    (nat_lt row.count last_number) refl
least_found (row ∷ r ∷ rows) some (one, small) =
    let more = least_found (r ∷ rows) (omega arith) small in
    pick row (r ∷ rows) (least (r ∷ rows)) (λ le. later_is (least (r ∷ rows)) row (r ∷ rows) more)
    (nat_lt row.count (least (r ∷ rows))) refl

-- what every table keeps
pub record Rows (most total : ℕ) (rows : List Row) : Type 0 where
  pub few : length rows ≤ most
  pub sum : sum_of rows ≡ total
  pub distinct : IsDistinct rows

after_if :
    (most total : ℕ) (key : List ℕ) (rows : List Row) → 1 ≤ most → total < last_number
    → Rows most total rows → (h f : Bool) → has_row key rows ≡ h → nat_lt (length rows) most ≡ f
    → Rows most (total + 1)
    (if h then raised key rows else (if f then rows
    ++ record {
      key = key;
      count = 1;
      error = 0;
    } ∷ [] else taken_over key (least rows) rows))
after_if most total key rows some small t true f h k =
    record {
      few = let e = length-raised key rows in omega (arith, e, t.few);
      sum = let e = sum_of-raised key rows t.distinct h in omega (arith, e, t.sum);
      distinct = IsDistinct-raised key rows t.distinct;
    }
after_if most total key rows some small t false true h k =
    record {
      few =
          let l : length rows < most = grind (arith, nat_tests) in
          let e = length-push rows (record { key = key; count = 1; error = 0 }) in
          omega (arith, e);
      sum =
          let e = sum_of-push rows (record { key = key; count = 1; error = 0 }) in
          omega (arith, e, t.sum);
      distinct = IsDistinct-push rows (record { key = key; count = 1; error = 0 }) t.distinct h;
    }
after_if most total key rows some small t false false h k =
    let l : most ≤ length rows = grind (arith, nat_tests) in
    let found =
    least_found rows (omega arith) (small_rows last_number rows (omega (arith, t.sum))) in
    record {
      few = let e = length-taken_over key (least rows) rows in omega (arith, e, t.few);
      sum = let e = sum_of-taken_over key (least rows) rows found in omega (arith, e, t.sum);
      distinct = IsDistinct-taken_over key (least rows) rows t.distinct h;
    }

pub rows_kept :
    (most total : ℕ) (key : List ℕ) (rows : List Row) → 1 ≤ most → total < last_number
    → Rows most total rows → Rows most (total + 1) (rows_after most key rows)
rows_kept most total key rows some small t =
    after_if most total key rows some small t (has_row key rows) (nat_lt (length rows) most) refl
    refl

-- ---- how often a key was seen

hit : List ℕ → List ℕ → ℕ
hit key q = if bytes_eq key q then 1 else 0

hit_yes : (key q : List ℕ) → bytes_eq key q ≡ true → hit key q ≡ 1
unfolding hit
hit_yes key q e = ap {B = ℕ} (λ b. if b then 1 else 0) e

hit_no : (key q : List ℕ) → bytes_eq key q ≡ false → hit key q ≡ 0
unfolding hit
hit_no key q e = ap {B = ℕ} (λ b. if b then 1 else 0) e

-- each row's count is at least what was seen, and at most its error above it
Bounded : (List ℕ → ℕ) → Row → Type 0
Bounded s row = (row.count ≤ s row.key + row.error) × (s row.key ≤ row.count)

floor : ℕ → List Row → ℕ
floor most rows = if nat_lt (length rows) most then 0 else least rows

record IsWell (most total : ℕ) (rows : List Row) (s : List ℕ → ℕ) : Type 0 where
  table : Rows most total rows
  bounds : AllByRecursion (Bounded s) rows
  out : (q : List ℕ) → has_row q rows ≡ false → s q ≤ floor most rows

more_of : (List ℕ → ℕ) → List ℕ → List ℕ → ℕ
more_of s key q = s q + hit key q

Bounded_other :
    (s : List ℕ → ℕ) (key : List ℕ) (row : Row) → bytes_eq key row.key ≡ false → Bounded s row
    → Bounded (more_of s key) row
unfolding Bounded more_of
Bounded_other s key row e (low, high) =
    let h = hit_no key row.key e in (omega (arith, h), omega (arith, h))

bounds_other :
    (s : List ℕ → ℕ) (key : List ℕ) (rows : List Row) → has_row key rows ≡ false
    → AllByRecursion (Bounded s) rows → AllByRecursion (Bounded (more_of s key)) rows
bounds_other s key [] h all = tt
bounds_other s key (row ∷ rows) h (here, all) = (
  Bounded_other s key row
      (turned key row.key ∙ first_not (bytes_eq row.key key) (has_row key rows) h) here,
  bounds_other s key rows (rest_not (bytes_eq row.key key) (has_row key rows) h) all,
)

bounds-raised :
    (s : List ℕ → ℕ) (key : List ℕ) (rows : List Row) → AllByRecursion (Bounded s) rows
    → AllByRecursion (Bounded (more_of s key)) (raised key rows)
unfolding Bounded more_of
bounds-raised s key [] all = tt
bounds-raised s key (row ∷ rows) ((low, high), all) =
    (bound_if (bytes_eq row.key key) refl, bounds-raised s key rows all)
  where
    bound_if :
        (b : Bool) → bytes_eq row.key key ≡ b
        → Bounded (more_of s key)
        (if b then record { key = row.key; count = row.count + 1; error = row.error } else row)
    bound_if true e =
        let h = hit_yes key row.key (turned key row.key ∙ e) in
        (omega (arith, h), omega (arith, h))
    bound_if false e =
        let h = hit_no key row.key (turned key row.key ∙ e) in (omega (arith, h), omega (arith, h))

bounds-push :
    (s : List ℕ → ℕ) (rows : List Row) (row : Row) → AllByRecursion (Bounded s) rows
    → Bounded s row → AllByRecursion (Bounded s) (rows ++ row ∷ [])
bounds-push s [] row all here = (here, tt)
bounds-push s (r ∷ rows) row (one, all) here = (one, bounds-push s rows row all here)

bounds-taken_over :
    (s : List ℕ → ℕ) (key : List ℕ) (c : ℕ) (rows : List Row) → AllByRecursion (Bounded s) rows
    → Bounded s (record { key = key; count = c + 1; error = c })
    → AllByRecursion (Bounded s) (taken_over key c rows)
bounds-taken_over s key c [] all here = tt
bounds-taken_over s key c (row ∷ rows) (one, all) here =
    taken_if (bounds-taken_over s key c rows all here) (row.count == c)
  where
    taken_if : AllByRecursion (Bounded s) (taken_over key c rows) → (b : Bool)
        → AllByRecursion (Bounded s)
        (if b then record { key = key; count = c + 1; error = c } ∷ rows else row
        ∷ taken_over key c rows)
    taken_if rest true = (here, all)
    taken_if rest false = (one, rest)

-- a key that has no row after another took one over was seen at most as often as the count says
out-taken_over :
    (s : List ℕ → ℕ) (key : List ℕ) (c : ℕ) (q : List ℕ) (rows : List Row)
    → AllByRecursion (Bounded s) rows → (has_row q rows ≡ false → s q ≤ c)
    → has_row q (taken_over key c rows) ≡ false → s q ≤ c
unfolding Bounded
out-taken_over s key c q [] all out h = out refl
out-taken_over s key c q (row ∷ rows) ((low, high), all) out h =
    out_if (λ f k. out-taken_over s key c q rows all f k) (row.count == c) refl h
  where
    mine : (b : Bool) → bytes_eq row.key q ≡ b → row.count ≤ c → has_row q rows ≡ false → s q ≤ c
    mine true e le k = let f : s row.key ≡ s q = ap s (same row.key q e) in omega (arith, f)
    mine false e le k = out (both_not (bytes_eq row.key q) (has_row q rows) e k)

    out_if :
        ((has_row q rows ≡ false → s q ≤ c) → has_row q (taken_over key c rows) ≡ false → s q ≤ c)
        → (b : Bool) → (row.count == c) ≡ b
        → has_row q
        (if b then record { key = key; count = c + 1; error = c } ∷ rows else row
        ∷ taken_over key c rows)
        ≡ false
        → s q ≤ c
    out_if rest true e k =
        let f : row.count ≡ c = grind (arith, nat_tests) in
        mine (bytes_eq row.key q) refl (omega (arith, f))
        (rest_not (bytes_eq key q) (has_row q rows) k)
    out_if rest false e k =
        rest
        (λ none. out (both_not (bytes_eq row.key q) (has_row q rows)
        (first_not (bytes_eq row.key q) (has_row q (taken_over key c rows)) k) none))
        (rest_not (bytes_eq row.key q) (has_row q (taken_over key c rows)) k)

-- a key with no row isn't the one that just got one
taken_in :
    (key : List ℕ) (c : ℕ) (rows : List Row) → has_count c rows ≡ true
    → has_row key (taken_over key c rows) ≡ true
unfolding has_count
taken_in key c [] h = cc
taken_in key c (row ∷ rows) h = in_if (λ k. taken_in key c rows k) (row.count == c) refl
  where
    in_if :
        (list_any (λ r. r.count == c) rows ≡ true → has_row key (taken_over key c rows) ≡ true)
        → (b : Bool) → (row.count == c) ≡ b
        → has_row key
        (if b then record { key = key; count = c + 1; error = c } ∷ rows else row
        ∷ taken_over key c rows)
        ≡ true
    in_if rest true e = ap (λ b. b || has_row key rows) (itself key)
    in_if rest false e =
        or_true (bytes_eq row.key key) (has_row key (taken_over key c rows))
        (rest (sym (ap (λ b. b || list_any (λ r. r.count == c) rows) e) ∙ h))

low-raised :
    (c : ℕ) (key : List ℕ) (rows : List Row) → AllByRecursion (λ row. c ≤ row.count) rows
    → AllByRecursion (λ row. c ≤ row.count) (raised key rows)
low-raised c key [] all = tt
low-raised c key (row ∷ rows) (here, all) =
    (low_if (bytes_eq row.key key), low-raised c key rows all)
  where
    low_if :
        (b : Bool)
        → c
        ≤ (if b then record { key = row.key; count = row.count + 1; error = row.error } else
        row).count
    low_if true = omega arith
    low_if false = here

low-taken_over :
    (c d : ℕ) (key : List ℕ) (rows : List Row) → d ≤ c → AllByRecursion (λ row. d ≤ row.count) rows
    → AllByRecursion (λ row. d ≤ row.count) (taken_over key c rows)
low-taken_over c d key [] le all = tt
low-taken_over c d key (row ∷ rows) le (here, all) =
    low_if (low-taken_over c d key rows le all) (row.count == c)
  where
    low_if : AllByRecursion (λ r. d ≤ r.count) (taken_over key c rows) → (b : Bool)
        → AllByRecursion (λ r. d ≤ r.count)
        (if b then record { key = key; count = c + 1; error = c } ∷ rows else row
        ∷ taken_over key c rows)
    low_if rest true = (omega arith, all)
    low_if rest false = (here, rest)

pub least_last : (rows : List Row) → least rows ≤ last_number
least_last [] = omega arith
least_last (row ∷ rows) = last_if (nat_lt row.count (least rows)) refl (least_last rows)
  where
    last_if :
        (t : Bool) → nat_lt row.count (least rows) ≡ t → least rows ≤ last_number
        → (if t then row.count else least rows) ≤ last_number
    last_if true e le = let l : row.count < least rows = grind (arith, nat_tests) in omega arith
    last_if false e le = le

floor_up :
    (most : ℕ) (rows new : List Row) → length new ≡ length rows → least rows ≤ least new
    → floor most rows ≤ floor most new
unfolding floor
floor_up most rows new e le =
    subst
    (λ n. (if nat_lt (length rows) most then 0 else least rows) ≤
    (if nat_lt n most then 0 else least new))
    (sym e) (up_if (nat_lt (length rows) most))
  where
    up_if : (b : Bool) → (if b then 0 else least rows) ≤ (if b then 0 else least new)
    up_if true = omega arith
    up_if false = le

floor_free : (most : ℕ) (rows : List Row) → nat_lt (length rows) most ≡ true → floor most rows ≡ 0
unfolding floor
floor_free most rows e = ap {B = ℕ} (λ b. if b then 0 else least rows) e

floor_full :
    (most : ℕ) (rows : List Row) → nat_lt (length rows) most ≡ false → floor most rows ≡ least rows
unfolding floor
floor_full most rows e = ap {B = ℕ} (λ b. if b then 0 else least rows) e

-- a key with no row isn't one that has
apart_hit :
    (key q : List ℕ) (rows : List Row) → has_row key rows ≡ true → has_row q rows ≡ false
    → hit key q ≡ 0
apart_hit key q rows has none = apart_if (bytes_eq key q) refl
  where
    apart_if : (b : Bool) → bytes_eq key q ≡ b → hit key q ≡ 0
    apart_if true e = let f = ap (λ k. has_row k rows) (same key q e) in cc
    apart_if false e = hit_no key q e

at_most : (a b c d : ℕ) → b ≡ 0 → a ≤ c → c ≤ d → a + b ≤ d
at_most a b c d none le up = omega arith

well_if :
    (most total : ℕ) (key : List ℕ) (rows : List Row) (s : List ℕ → ℕ) → 1 ≤ most
    → total < last_number → IsWell most total rows s
    → (h f : Bool) → has_row key rows ≡ h → nat_lt (length rows) most ≡ f
    → Rows most (total + 1)
    (if h then raised key rows else (if f then rows
    ++ record {
      key = key;
      count = 1;
      error = 0;
    } ∷ [] else taken_over key (least rows) rows))
    → IsWell most (total + 1)
    (if h then raised key rows else
    (if f then rows ++ record { key = key; count = 1; error = 0 } ∷ [] else taken_over key
    (least rows) rows))
    (more_of s key)
unfolding Bounded more_of
well_if most total key rows s some small w true f h k table =
    record {
      table = table;
      bounds = bounds-raised s key rows w.bounds;
      out = λ q none.
          let was : has_row q rows ≡ false = sym (has_row-raised q key rows) ∙ none in
          at_most (s q) (hit key q) (floor most rows) (floor most (raised key rows))
          (apart_hit key q rows h was) (w.out q was)
          (floor_up most rows (raised key rows) (length-raised key rows)
          (least_high (least rows) (raised key rows) (least_last rows)
          (low-raised (least rows) key rows (least_low rows))));
    }
well_if most total key rows s some small w false true h k table =
    let free = floor_free most rows k in
    let new : Row = record { key = key; count = 1; error = 0 } in
    let once = hit_yes key key (itself key) in
    let unseen = w.out key h in
    record {
      table = table;
      bounds =
          bounds-push (more_of s key) rows new (bounds_other s key rows h w.bounds)
          (omega (arith, once), omega (arith, once, unseen, free));
      out = λ q none.
          let was : has_row q rows ≡ false = before q rows new none in
          let differs : bytes_eq key q ≡ false = last_not q rows new none in
          at_most (s q) (hit key q) 0 (floor most (rows ++ new ∷ [])) (hit_no key q differs)
          (let u = w.out q was in omega (arith, u, free)) (omega arith);
    }
  where
    before :
        (q : List ℕ) (rs : List Row) (new : Row) → has_row q (rs ++ new ∷ []) ≡ false
        → has_row q rs ≡ false
    before q [] new none = refl
    before q (r ∷ rs) new none =
        both_not (bytes_eq r.key q) (has_row q rs)
        (first_not (bytes_eq r.key q) (has_row q (rs ++ new ∷ [])) none)
        (before q rs new (rest_not (bytes_eq r.key q) (has_row q (rs ++ new ∷ [])) none))

    last_not :
        (q : List ℕ) (rs : List Row) (new : Row) → has_row q (rs ++ new ∷ []) ≡ false
        → bytes_eq new.key q ≡ false
    last_not q [] new none = first_not (bytes_eq new.key q) false none
    last_not q (r ∷ rs) new none =
        last_not q rs new (rest_not (bytes_eq r.key q) (has_row q (rs ++ new ∷ [])) none)
well_if most total key rows s some small w false false h k table =
    let full = floor_full most rows k in
    let l : most ≤ length rows = grind (arith, nat_tests) in
    let found =
    least_found rows (omega arith) (small_rows last_number rows (omega (arith, w.table.sum)))
    in
    let once = hit_yes key key (itself key) in
    let seen_by = w.out key h in
    let new = taken_over key (least rows) rows in
    record {
      table = table;
      bounds =
          bounds-taken_over (more_of s key) key (least rows) rows
          (bounds_other s key rows h w.bounds)
          (omega (arith, once), omega (arith, once, seen_by, full));
      out = λ q none.
          at_most (s q) (hit key q) (least rows) (floor most new)
          (apart_hit key q new (taken_in key (least rows) rows found) none)
          (out-taken_over s key (least rows) q rows w.bounds
          (λ was. let u = w.out q was in omega (arith, u, full)) none)
          (let up = floor_up most rows new (length-taken_over key (least rows) rows)
          (least_high (least rows) new (least_last rows)
          (low-taken_over (least rows) (least rows) key rows (omega arith) (least_low rows)))
          in omega (arith, up, full));
    }

well_more :
    (most total : ℕ) (key : List ℕ) (rows : List Row) (s : List ℕ → ℕ) → 1 ≤ most
    → total < last_number → IsWell most total rows s
    → IsWell most (total + 1) (rows_after most key rows) (more_of s key)
well_more most total key rows s some small w =
    well_if most total key rows s some small w (has_row key rows) (nat_lt (length rows) most) refl
    refl (rows_kept most total key rows some small w.table)

-- ---- a list of keys

IsWell_as :
    (most total : ℕ) (rows : List Row) (s t : List ℕ → ℕ) → ((q : List ℕ) → s q ≡ t q)
    → IsWell most total rows s → IsWell most total rows t
IsWell_as most total rows s t h w =
    subst (λ (u : List ℕ → ℕ). IsWell most total rows u) (λ i q. h q i) w

-- at the last total nothing is counted
counted_full :
    (most : ℕ) (keys : List (List ℕ)) (rows : List Row)
    → counted most (record { total = last_number; rows = rows }) keys ≡ record {
      total = last_number;
      rows = rows;
    }
counted_full most [] rows = refl
counted_full most (key ∷ keys) rows = counted_full most keys rows

see_more : (most total : ℕ) (key : List ℕ) (rows : List Row) → total < last_number
    → see most (record { total = total; rows = rows }) key ≡ record {
      total = total + 1;
      rows = rows_after most key rows;
    }
see_more most total key rows small =
    let e : (total == last_number) ≡ false = grind (arith, nat_tests) in
    ap
    (λ b. if b then record { total = total; rows = rows } else
    record { total = total + 1; rows = rows_after most key rows })
    e

seen_from : ℕ → (List ℕ → ℕ) → List (List ℕ) → List ℕ → ℕ
seen_from total s keys q = s q + seen_in q (take (last_number - total) keys)

well_counts : ℕ → Counts → (List ℕ → ℕ) → Type 0
well_counts most c s = IsWell most c.total c.rows s

none_taken : (n : ℕ) (q : List ℕ) → seen_in q (take n []) ≡ 0
none_taken zero q = refl
none_taken (suc n) q = refl

all_well :
    (most total : ℕ) (keys : List (List ℕ)) (rows : List Row) (s : List ℕ → ℕ) → 1 ≤ most
    → total ≤ last_number → IsWell most total rows s
    → well_counts most (counted most (record { total = total; rows = rows }) keys)
    (seen_from total s keys)
unfolding well_counts seen_from more_of hit
all_well most total [] rows s some small w =
    IsWell_as most total rows s (λ q. s q + seen_in q (take (last_number - total) []))
    (λ q. let e = none_taken (last_number - total) q in omega (arith, e)) w
all_well most total (key ∷ keys) rows s some small w =
    next (nat_lt total last_number) refl
    (λ total' rows' s' small' w'. all_well most total' keys rows' s' some small' w')
  where
    next : (b : Bool) → nat_lt total last_number ≡ b
        →
        ((total' : ℕ) (rows' : List Row) (s' : List ℕ → ℕ) → total' ≤ last_number
        → IsWell most total' rows' s'
        → IsWell most (counted most (record { total = total'; rows = rows' }) keys).total
        (counted most (record { total = total'; rows = rows' }) keys).rows
        (λ q. s' q + seen_in q (take (last_number - total') keys)))
        → IsWell most (counted most (record { total = total; rows = rows }) (key ∷ keys)).total
        (counted most (record { total = total; rows = rows }) (key ∷ keys)).rows
        (λ q. s q + seen_in q (take (last_number - total) (key ∷ keys)))
    next true e rest =
        let l : total < last_number = grind (arith, nat_tests) in
        let more =
        rest (total + 1) (rows_after most key rows) (more_of s key) (omega arith)
        (well_more most total key rows s some l w) in
        let left : last_number - total ≡ suc (last_number - (total + 1)) = omega arith in
        let same_seen :
        (q : List ℕ)
        → more_of s key q + seen_in q (take (last_number - (total + 1)) keys)
        ≡ s q + seen_in q (take (last_number - total) (key ∷ keys)) =
        λ q. let e = ap (λ n. seen_in q (take n (key ∷ keys))) left in omega (arith, e) in
        let c =
        counted most (record { total = total + 1; rows = rows_after most key rows }) keys in
        let same_well =
        IsWell_as most c.total c.rows
        (λ q. more_of s key q + seen_in q (take (last_number - (total + 1)) keys))
        (λ q. s q + seen_in q (take (last_number - total) (key ∷ keys))) same_seen more in
        subst
        (λ (d : Counts). IsWell most (counted most d keys).total (counted most d keys).rows
        (λ q. s q + seen_in q (take (last_number - total) (key ∷ keys))))
        (sym (see_more most total key rows l)) same_well
    next false e rest =
        let full : total ≡ last_number = grind (arith, nat_tests) in
        let none : last_number - total ≡ 0 = omega arith in
        let stays :
        counted most (record { total = total; rows = rows }) (key ∷ keys) ≡ record {
          total = total;
          rows = rows;
        } =
        subst
        (λ n. counted most (record { total = n; rows = rows }) (key ∷ keys) ≡
        record { total = n; rows = rows })
        (sym full) (counted_full most (key ∷ keys) rows) in
        let same_well =
        IsWell_as most total rows s
        (λ q. s q + seen_in q (take (last_number - total) (key ∷ keys)))
        (λ q. let f = ap (λ n. seen_in q (take n (key ∷ keys))) none in omega (arith, f)) w in
        subst
        (λ (d : Counts). IsWell most d.total d.rows
        (λ q. s q + seen_in q (take (last_number - total) (key ∷ keys))))
        (sym stays) same_well

sum_low :
    (c : ℕ) (rows : List Row) → AllByRecursion (λ row. c ≤ row.count) rows
    → c * length rows ≤ sum_of rows
sum_low c [] all = omega arith
sum_low c (row ∷ rows) (here, all) = let e = sum_low c rows all in omega (arith, e)

lows :
    (s : List ℕ → ℕ) (rows : List Row) → AllByRecursion (Bounded s) rows
    → AllByRecursion (λ row. row.count - row.error ≤ s row.key) rows
unfolding Bounded
lows s [] all = tt
lows s (row ∷ rows) ((low, high), all) = (omega arith, lows s rows all)

highs :
    (s : List ℕ → ℕ) (rows : List Row) → AllByRecursion (Bounded s) rows
    → AllByRecursion (λ row. s row.key ≤ row.count) rows
unfolding Bounded
highs s [] all = tt
highs s (row ∷ rows) ((low, high), all) = (high, highs s rows all)

kept_by :
    (most total : ℕ) (rows : List Row) (s : List ℕ → ℕ) → IsWell most total rows s → (q : List ℕ)
    → total < s q * most → has_row q rows ≡ true
kept_by most total rows s w q more = kept_if (has_row q rows) refl
  where
    free_or_full : (b : Bool) → nat_lt (length rows) most ≡ b → has_row q rows ≡ false → ⊥
    free_or_full true e none =
        let u = w.out q none in
        let f = floor_free most rows e in
        let z : s q ≡ 0 = omega (arith, u, f) in
        let g = ap (λ n. n * most) z in absurd (omega (arith, g))
    free_or_full false e none =
        let l : most ≤ length rows = grind (arith, nat_tests) in
        let full : length rows ≡ most = omega (arith, w.table.few) in
        let u = w.out q none in
        let f = floor_full most rows e in
        let le : s q ≤ least rows = omega (arith, u, f) in
        let scaled = mul-le-mul_left most le in
        let low = sum_low (least rows) rows (least_low rows) in
        let g = ap (λ n. least rows * n) full in
        absurd (omega (arith, scaled, low, g, w.table.sum))

    kept_if : (b : Bool) → has_row q rows ≡ b → has_row q rows ≡ true
    kept_if true e = e
    kept_if false e = absurd (free_or_full (nat_lt (length rows) most) refl e)

none_well : (most : ℕ) → 1 ≤ most → IsWell most 0 [] (λ q. 0)
none_well most some =
    record {
      table = record { few = omega arith; sum = refl; distinct = tt };
      bounds = tt;
      out = λ q none. omega arith;
    }

from_well :
    (most : ℕ) (keys : List (List ℕ)) (c : Counts) → well_counts most c (seen_from 0 (λ q. 0) keys)
    → CountsWell most keys c
unfolding well_counts seen_from more_of hit
from_well most keys c w =
    let v =
    IsWell_as most c.total c.rows (λ q. 0 + seen_in q (take (last_number - 0) keys))
    (λ q. seen q keys) (λ q. omega arith) w in
    record {
      sum = v.table.sum;
      low = lows (λ q. seen q keys) c.rows v.bounds;
      high = highs (λ q. seen q keys) c.rows v.bounds;
      kept = kept_by most c.total c.rows (λ q. seen q keys) v;
    }

pub counts_well :
    (most : ℕ) (keys : List (List ℕ)) → 1 ≤ most
    → CountsWell most keys (counted most no_counts keys)
counts_well most keys some =
    from_well most keys (counted most no_counts keys)
    (all_well most 0 keys [] (λ q. 0) some (omega arith) (none_well most some))
