-- Rows of a table under a further request.
use Rattle.std.proofs.Common.{◌≡◌, ◌<◌, ◌≤◌, ◌+◌, ◌==◌, ◌||◌, ℕ, zero, suc, Bool}
use Rattle.std.proofs.Common.{true, false, if◌then◌else◌, nat_lt, List, [], ◌∷◌, ◌++◌, length}
use Rattle.std.proofs.Common.{get_or, take, drop, set, add-one, refl, sym, ap, ◌∙◌, subst, arith}
use Rattle.std.proofs.lemmas.Bool.Decides.{nat_tests}
use Rattle.std.proofs.lemmas.List.{drop_more, set_split, take_at}
use Rattle.std.specs.List.{list_any, AllByRecursion}
use Rattle.std.specs.Str.{bytes_eq}
use Rattle.std.specs.Cmp.Lexicographic.{nat_list_eq_equiv}
use Rattle.std.proofs.lemmas.Slice.Eq.{bytes_eq-Decides}
use Rattle.peg_name.specs.declared.Row.{Row}
use Rattle.peg_model.specs.Words.{last_number}
use Rattle.peg_model.specs.Counts.{has_row, raised, least, taken_over, rows_after}
use Rattle.peg_hot.specs.Table.{sum_of, IsDistinct}

pub turned : (a b : List ℕ) → bytes_eq a b ≡ bytes_eq b a
turned a b = nat_list_eq_equiv.symm a b

pub same : (a b : List ℕ) → bytes_eq a b ≡ true → a ≡ b
same a b e = (bytes_eq-Decides a b).0 e

pub itself : (a : List ℕ) → bytes_eq a a ≡ true
itself a = nat_list_eq_equiv.refl a

-- a test that fails for a list fails for its parts
pub first_not : (a b : Bool) → (a || b) ≡ false → a ≡ false
first_not true b h = h
first_not false b h = refl

pub rest_not : (a b : Bool) → (a || b) ≡ false → b ≡ false
rest_not true b h = cc
rest_not false b h = h

pub both_not : (a b : Bool) → a ≡ false → b ≡ false → (a || b) ≡ false
both_not a b h k = ap (λ x. x || b) h ∙ k

pub more_count : Row → Row
more_count row = record { key = row.key; count = row.count + 1; error = row.error }

-- ---- a row that is raised

pub raised_none :
    (key : List ℕ) (rows : List Row) → has_row key rows ≡ false → raised key rows ≡ rows
raised_none key [] h = refl
raised_none key (row ∷ rows) h =
    let one = first_not (bytes_eq row.key key) (has_row key rows) h in
    let more = rest_not (bytes_eq row.key key) (has_row key rows) h in
    ap
    (λ b. (if b then record { key = row.key; count = row.count + 1; error = row.error } else row) ∷
    raised key rows)
    one
    ∙ ap (λ rs. row ∷ rs) (raised_none key rows more)

pub length-raised : (key : List ℕ) (rows : List Row) → length (raised key rows) ≡ length rows
length-raised key [] = refl
length-raised key (row ∷ rows) = ap suc (length-raised key rows)

key_of_if :
    (b : Bool) (row : Row)
    → (if b then record { key = row.key; count = row.count + 1; error = row.error } else row).key
    ≡ row.key
key_of_if true row = refl
key_of_if false row = refl

pub has_row-raised :
    (q key : List ℕ) (rows : List Row) → has_row q (raised key rows) ≡ has_row q rows
has_row-raised q key [] = refl
has_row-raised q key (row ∷ rows) =
    ap (λ k. bytes_eq k q || has_row q (raised key rows)) (key_of_if (bytes_eq row.key key) row) ∙
    ap (λ b. bytes_eq row.key q || b) (has_row-raised q key rows)

pub IsDistinct-raised :
    (key : List ℕ) (rows : List Row) → IsDistinct rows → IsDistinct (raised key rows)
IsDistinct-raised key [] d = tt
IsDistinct-raised key (row ∷ rows) (one, more) = (
  ap (λ k. has_row k (raised key rows)) (key_of_if (bytes_eq row.key key) row) ∙ has_row-raised
      row.key key rows ∙ one,
  IsDistinct-raised key rows more,
)

pub sum_of-raised :
    (key : List ℕ) (rows : List Row) → IsDistinct rows → has_row key rows ≡ true
    → sum_of (raised key rows) ≡ sum_of rows + 1
sum_of-raised key [] d h = cc
sum_of-raised key (row ∷ rows) (one, more) h =
    sum_if (λ k. sum_of-raised key rows more k) (bytes_eq row.key key) refl
  where
    sum_if :
        (has_row key rows ≡ true → sum_of (raised key rows) ≡ sum_of rows + 1) → (b : Bool)
        → bytes_eq row.key key ≡ b
        → (if b then record { key = row.key; count = row.count + 1; error = row.error } else
        row).count
        + sum_of (raised key rows)
        ≡ row.count + sum_of rows + 1
    sum_if rest true e =
        let none =
        raised_none key rows (ap (λ k. has_row k rows) (sym (same row.key key e)) ∙ one) in
        let s = ap sum_of none in omega (arith, s)
    sum_if rest false e =
        let s = rest (sym (ap (λ b. b || has_row key rows) e) ∙ h) in omega (arith, s)

-- ---- a row that is new

pub length-push : (rows : List Row) (row : Row) → length (rows ++ row ∷ []) ≡ length rows + 1
length-push [] row = refl
length-push (r ∷ rows) row = let e = length-push rows row in omega (arith, e)

pub sum_of-push :
    (rows : List Row) (row : Row) → sum_of (rows ++ row ∷ []) ≡ sum_of rows + row.count
sum_of-push [] row = omega arith
sum_of-push (r ∷ rows) row = let e = sum_of-push rows row in omega (arith, e)

pub has_row-push :
    (q : List ℕ) (rows : List Row) (row : Row) → has_row q rows ≡ false
    → bytes_eq row.key q ≡ false → has_row q (rows ++ row ∷ []) ≡ false
has_row-push q [] row h k = both_not (bytes_eq row.key q) false k refl
has_row-push q (r ∷ rows) row h k =
    both_not (bytes_eq r.key q) (has_row q (rows ++ row ∷ []))
    (first_not (bytes_eq r.key q) (has_row q rows) h)
    (has_row-push q rows row (rest_not (bytes_eq r.key q) (has_row q rows) h) k)

pub IsDistinct-push :
    (rows : List Row) (row : Row) → IsDistinct rows → has_row row.key rows ≡ false
    → IsDistinct (rows ++ row ∷ [])
IsDistinct-push [] row d h = (refl, tt)
IsDistinct-push (r ∷ rows) row (one, more) h = (
  has_row-push r.key rows row one
      (turned row.key r.key ∙ first_not (bytes_eq r.key row.key) (has_row row.key rows) h),
  IsDistinct-push rows row more (rest_not (bytes_eq r.key row.key) (has_row row.key rows) h),
)

-- ---- a row that is taken over

unfoldable pub has_count : ℕ → List Row → Bool
has_count c rows = list_any (λ row. row.count == c) rows

pub length-taken_over :
    (key : List ℕ) (c : ℕ) (rows : List Row) → length (taken_over key c rows) ≡ length rows
length-taken_over key c [] = refl
length-taken_over key c (row ∷ rows) = length_if (length-taken_over key c rows) (row.count == c)
  where
    length_if : length (taken_over key c rows) ≡ length rows → (b : Bool)
        → length
        (if b then record { key = key; count = c + 1; error = c } ∷ rows else row
        ∷ taken_over key c rows)
        ≡ suc (length rows)
    length_if rest true = refl
    length_if rest false = ap suc rest

pub sum_of-taken_over :
    (key : List ℕ) (c : ℕ) (rows : List Row) → has_count c rows ≡ true
    → sum_of (taken_over key c rows) ≡ sum_of rows + 1
unfolding has_count
sum_of-taken_over key c [] h = cc
sum_of-taken_over key c (row ∷ rows) h =
    sum_if (λ k. sum_of-taken_over key c rows k) (row.count == c) refl
  where
    sum_if :
        (list_any (λ r. r.count == c) rows ≡ true
        → sum_of (taken_over key c rows) ≡ sum_of rows + 1)
        → (b : Bool) → (row.count == c) ≡ b
        → sum_of
        (if b then record { key = key; count = c + 1; error = c } ∷ rows else row
        ∷ taken_over key c rows)
        ≡ row.count + sum_of rows + 1
    sum_if rest true e = let f : row.count ≡ c = grind (arith, nat_tests) in omega (arith, f)
    sum_if rest false e =
        let s = rest (sym (ap (λ b. b || list_any (λ r. r.count == c) rows) e) ∙ h) in
        omega (arith, s)

pub has_row-taken_over :
    (q key : List ℕ) (c : ℕ) (rows : List Row) → has_row q rows ≡ false → bytes_eq key q ≡ false
    → has_row q (taken_over key c rows) ≡ false
has_row-taken_over q key c [] h k = refl
has_row-taken_over q key c (row ∷ rows) h k =
    row_if (has_row-taken_over q key c rows (rest_not (bytes_eq row.key q) (has_row q rows) h) k)
    (row.count == c)
  where
    row_if : has_row q (taken_over key c rows) ≡ false → (b : Bool)
        → has_row q
        (if b then record { key = key; count = c + 1; error = c } ∷ rows else row
        ∷ taken_over key c rows)
        ≡ false
    row_if rest true =
        both_not (bytes_eq key q) (has_row q rows) k
        (rest_not (bytes_eq row.key q) (has_row q rows) h)
    row_if rest false =
        both_not (bytes_eq row.key q) (has_row q (taken_over key c rows))
        (first_not (bytes_eq row.key q) (has_row q rows) h) rest

pub IsDistinct-taken_over :
    (key : List ℕ) (c : ℕ) (rows : List Row) → IsDistinct rows → has_row key rows ≡ false
    → IsDistinct (taken_over key c rows)
IsDistinct-taken_over key c [] d h = tt
IsDistinct-taken_over key c (row ∷ rows) (one, more) h =
    taken_if
    (IsDistinct-taken_over key c rows more (rest_not (bytes_eq row.key key) (has_row key rows) h))
    (row.count == c)
  where
    taken_if :
        IsDistinct (taken_over key c rows) → (b : Bool)
        → IsDistinct
        (if b then record { key = key; count = c + 1; error = c } ∷ rows else row
        ∷ taken_over key c rows)
    taken_if rest true = (rest_not (bytes_eq row.key key) (has_row key rows) h, more)
    taken_if rest false = (
      has_row-taken_over row.key key c rows one
          (turned key row.key ∙ first_not (bytes_eq row.key key) (has_row key rows) h),
      rest,
    )

-- ---- the least count

pub small_rows :
    (n : ℕ) (rows : List Row) → sum_of rows ≤ n → AllByRecursion (λ row. row.count ≤ n) rows
small_rows n [] h = tt
small_rows n (row ∷ rows) h = (omega arith, small_rows n rows (omega arith))

least_if :
    (a b : ℕ) → (t : Bool) → nat_lt a b ≡ t
    → ((if t then a else b) ≤ a) × ((if t then a else b) ≤ b)
least_if a b true e = let l : a < b = grind (arith, nat_tests) in (omega arith, omega arith)
least_if a b false e = let l : b ≤ a = grind (arith, nat_tests) in (omega arith, omega arith)

lower :
    (c d : ℕ) → d ≤ c → (rows : List Row) → AllByRecursion (λ row. c ≤ row.count) rows
    → AllByRecursion (λ row. d ≤ row.count) rows
lower c d le [] all = tt
lower c d le (row ∷ rows) (here, all) = (omega arith, lower c d le rows all)

pub least_low : (rows : List Row) → AllByRecursion (λ row. least rows ≤ row.count) rows
least_low [] = tt
least_low (row ∷ rows) =
    let p = least_if row.count (least rows) (nat_lt row.count (least rows)) refl in
    (p.0, lower (least rows) (least (row ∷ rows)) p.1 rows (least_low rows))

at_least_if : (c a b : ℕ) → (t : Bool) → c ≤ a → c ≤ b → c ≤ (if t then a else b)
at_least_if c a b true h k = h
at_least_if c a b false h k = k

pub least_high :
    (c : ℕ) (rows : List Row) → c ≤ last_number → AllByRecursion (λ row. c ≤ row.count) rows
    → c ≤ least rows
least_high c [] h all = h
least_high c (row ∷ rows) h (here, all) =
    at_least_if c row.count (least rows) (nat_lt row.count (least rows)) here
    (least_high c rows h all)

-- ---- a row in the middle

pub taken_here :
    (key : List ℕ) (c i : ℕ) (rows : List Row) (row : Row) → i < length rows
    → row ≡ get_or rows i row → row.count ≡ c
    → taken_over key c rows ≡ take i rows ++ taken_over key c (drop i rows)
    → set rows i (record { key = key; count = c + 1; error = c }) ≡ taken_over key c rows
taken_here key c i rows row lt is e rest =
    let split :
    drop i rows
    ≡ row
    ∷ drop (i + 1) rows = drop_more rows i row lt ∙ ap (λ r. r ∷ drop (i + 1) rows)
    (sym is) in
    let test : (row.count == c) ≡ true = grind (arith, nat_tests) in
    set_split rows i (record { key = key; count = c + 1; error = c }) lt
    ∙ ap (λ n. take i rows ++ (record { key = key; count = c + 1; error = c } ∷ drop n rows))
    (sym (add-one i))
    ∙ sym (rest ∙ ap (λ rs. take i rows ++ taken_over key c rs) split
    ∙ ap
    (λ b. take i rows ++ (if b then record { key = key; count = c + 1; error = c } ∷ drop (i + 1)
    rows else row ∷ taken_over key c (drop (i + 1) rows)))
    test)

pub IsDistinct-drop : (i : ℕ) (rows : List Row) → IsDistinct rows → IsDistinct (drop i rows)
IsDistinct-drop zero rows d = d
IsDistinct-drop (suc i) [] d = tt
IsDistinct-drop (suc i) (row ∷ rows) (one, more) = IsDistinct-drop i rows more

pub raised_here :
    (key : List ℕ) (i : ℕ) (rows : List Row) (row new : Row) → i < length rows
    → row ≡ get_or rows i row → bytes_eq row.key key ≡ true → IsDistinct rows
    → new ≡ record { key = row.key; count = row.count + 1; error = row.error }
    → raised key rows ≡ take i rows ++ raised key (drop i rows) → set rows i new ≡ raised key rows
raised_here key i rows row new lt is e d now rest =
    let split :
    drop i rows
    ≡ row
    ∷ drop (i + 1) rows = drop_more rows i row lt ∙ ap (λ r. r ∷ drop (i + 1) rows)
    (sym is) in
    let apart :
    IsDistinct (row ∷ drop (i + 1) rows) = subst (λ rs. IsDistinct rs) split
    (IsDistinct-drop i rows d) in
    let none :
    raised key (drop (i + 1) rows)
    ≡ drop (i + 1) rows = raised_none key (drop (i + 1) rows)
    (ap (λ k. has_row k (drop (i + 1) rows)) (sym (same row.key key e)) ∙ apart.0) in
    set_split rows i new lt
    ∙ ap (λ n. take i rows ++ (new ∷ drop n rows)) (sym (add-one i))
    ∙ ap (λ r. take i rows ++ (r ∷ drop (i + 1) rows)) now
    ∙ sym (rest ∙ ap (λ rs. take i rows ++ raised key rs) split
    ∙ ap
    (λ b. take i rows ++ ((if b then
    record { key = row.key; count = row.count + 1; error = row.error } else row) ∷ raised key
    (drop (i + 1) rows)))
    e
    ∙ ap
    (λ rs. take i rows ++ (record { key = row.key; count = row.count + 1; error = row.error } ∷ rs))
    none)

-- a slice that is written whole
pub written :
    (n : ℕ) (new old : List Row) → length new ≡ n → take n (new ++ drop (length new) old) ≡ new
written n new old e = take_at new (drop (length new) old) n e

pub strict_rows :
    (n m : ℕ) (rows : List Row) → sum_of rows ≤ n → n < m
    → AllByRecursion (λ row. row.count < m) rows
strict_rows n m [] h lt = tt
strict_rows n m (row ∷ rows) h lt = (omega arith, strict_rows n m rows (omega arith) lt)

-- ---- the rows after a request

pub after_push :
    (most : ℕ) (key : List ℕ) (items rows out : List Row) → has_row key items ≡ false
    → length items < most
    → out ≡ rows ++ record { key = key; count = 1; error = 0 } ∷ [] → rows ≡ items
    → out ≡ rows_after most key items
after_push most key items rows out none room is now =
    let less : nat_lt (length items) most ≡ true = grind (arith, nat_tests) in
    is ∙ ap (λ rs. rs ++ record { key = key; count = 1; error = 0 } ∷ []) now
    ∙ sym
    (ap (λ b. if b then raised key items else
    (if nat_lt (length items) most then items ++ record { key = key; count = 1; error = 0 } ∷ []
    else taken_over key (least items) items)) none
    ∙ ap
    (λ b. if b then items ++ record { key = key; count = 1; error = 0 } ∷ [] else taken_over key
    (least items) items)
    less)

pub after_take :
    (most : ℕ) (key : List ℕ) (c : ℕ) (items rows out : List Row) → has_row key items ≡ false
    → most ≤ length items
    → out ≡ taken_over key c rows → rows ≡ items → c ≡ least rows → out ≡ rows_after most key items
after_take most key c items rows out none full is now small =
    let more : nat_lt (length items) most ≡ false = grind (arith, nat_tests) in
    is ∙ ap (λ n. taken_over key n rows) small ∙ ap (λ rs. taken_over key (least rs) rs) now
    ∙ sym
    (ap (λ b. if b then raised key items else
    (if nat_lt (length items) most then items ++ record { key = key; count = 1; error = 0 } ∷ []
    else taken_over key (least items) items)) none
    ∙ ap
    (λ b. if b then items ++ record { key = key; count = 1; error = 0 } ∷ [] else taken_over key
    (least items) items)
    more)
