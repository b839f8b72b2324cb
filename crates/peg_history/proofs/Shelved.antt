-- Operations whose contents lie one behind the other, where one more content is put behind them.
use Rattle.std.proofs.Common.{◌≡◌, ℕ, zero, suc, ◌+◌, ◌<◌, ◌≤◌, List, [], ◌∷◌, ◌++◌, length, map}
use Rattle.std.proofs.Common.{Some, take, drop, get_or, set, ap, sym, ◌∙◌, refl, arith}
use Rattle.std.proofs.Common.{if◌then◌else◌, subst}
use Rattle.std.specs.List.{AllByRecursion, slice_get, slice_set}
use Rattle.std.proofs.lemmas.List.{take-append-le, drop-append-le, length-drop, length-map}
use Rattle.std.proofs.lemmas.List.{length-append, append-nil}
use Rattle.std.proofs.Math.Seq.{drop-append_seam, take-length}
use Rattle.peg_name.specs.declared.value.Content.{Content}
use Rattle.peg_name.specs.declared.value.Content.TheVariants.{Absent, Present}
use Rattle.peg_event.specs.declared.history.Op.{Op}
use Rattle.peg_history.specs.Contents.{content_at, bytes_in, IsWithin}
use Rattle.peg_history.specs.Rows.{op_of}
use Rattle.peg_history.specs.declared.contents.Span.{Span}
use Rattle.peg_history.specs.declared.Row.{Row}

abbrev pub AreWithin : ℕ → List Row → Type 0
AreWithin n rows = AllByRecursion (λ row. IsWithin n row.content) rows

-- ---- the contents

kept : (bs xs : List ℕ) (f n : ℕ) → f + n ≤ length bs → take n (drop f (bs ++ xs)) ≡ take n (drop f bs)
kept bs xs f n within =
    ap (take n) (drop-append-le f bs xs (omega (arith, within)))
    ∙ take-append-le n (drop f bs) xs (omega (arith, within, length-drop f bs))

content_kept :
    (bs xs : List ℕ) (span : Span) → IsWithin (length bs) span
    → content_at (bs ++ xs) span ≡ content_at bs span
content_kept bs xs span within =
    ap (λ ys. if span.is_present then Present ys else Absent) (kept bs xs span.from span.len within.0)

last : (bs xs : List ℕ) → take (length xs) (drop (length bs) (bs ++ xs)) ≡ xs
last bs xs = ap (take (length xs)) (drop-append_seam bs xs) ∙ take-length xs

-- the content that was put behind the others
pub content_last :
    (bs after : List ℕ) (span : Span) (content : Content)
    → after ≡ bs ++ bytes_in content → span.from ≡ length bs → span.len ≡ length (bytes_in content)
    → (if span.is_present then Present (bytes_in content) else Absent) ≡ content
    → content_at after span ≡ content
content_last bs after span content is from len same =
    ap (λ ys. content_at ys span) is
    ∙ ap (λ f. if span.is_present then Present (take span.len (drop f (bs ++ bytes_in content))) else Absent) from
    ∙ ap (λ n. if span.is_present then Present (take n (drop (length bs) (bs ++ bytes_in content))) else Absent) len
    ∙ ap (λ ys. if span.is_present then Present ys else Absent) (last bs (bytes_in content))
    ∙ same

-- ---- the rows

pub ops_length : (bs : List ℕ) (rows : List Row) → length (map (op_of bs) rows) ≡ length rows
ops_length bs rows = length-map rows (op_of bs)

pub ops_kept :
    (bs xs : List ℕ) (rows : List Row) → AreWithin (length bs) rows
    → map (op_of (bs ++ xs)) rows ≡ map (op_of bs) rows
ops_kept bs xs [] all = refl
ops_kept bs xs (r ∷ rows) all =
    ap (λ content. record {
      client = r.client;
      key = r.key;
      act = r.act;
      content = content;
      issued = r.issued;
      answered = r.answered;
    } ∷ map (op_of (bs ++ xs)) rows) (content_kept bs xs r.content all.0)
    ∙ ap (λ os. op_of bs r ∷ os) (ops_kept bs xs rows all.1)

pub ops_after :
    (bs xs after : List ℕ) (rows : List Row) → after ≡ bs ++ xs → AreWithin (length bs) rows
    → map (op_of after) rows ≡ map (op_of bs) rows
ops_after bs xs after rows is all =
    ap (λ ys. map (op_of ys) rows) is ∙ ops_kept bs xs rows all

map_more :
    (bs : List ℕ) (rows : List Row) (row : Row)
    → map (op_of bs) (rows ++ row ∷ []) ≡ map (op_of bs) rows ++ op_of bs row ∷ []
map_more bs [] row = refl
map_more bs (r ∷ rows) row = ap (λ os. op_of bs r ∷ os) (map_more bs rows row)

pub pushed :
    (bs xs after : List ℕ) (rows all : List Row) (row : Row) (op : Op)
    → AreWithin (length bs) rows → after ≡ bs ++ xs → all ≡ rows ++ row ∷ [] → op_of after row ≡ op
    → map (op_of after) all ≡ map (op_of bs) rows ++ op ∷ []
pushed bs xs after rows all row op within is more same =
    ap (map (op_of after)) more ∙ map_more after rows row
    ∙ ap (λ os. os ++ op_of after row ∷ []) (ops_after bs xs after rows is within)
    ∙ ap (λ o. map (op_of bs) rows ++ o ∷ []) same

wider : (m n : ℕ) (span : Span) → m ≤ n → IsWithin m span → IsWithin n span
wider m n span le within = (omega (arith, within.0), within.1)

pub all_wider :
    (m n : ℕ) (rows : List Row) → m ≤ n → AreWithin m rows → AreWithin n rows
all_wider m n [] le all = tt
all_wider m n (r ∷ rows) le all = (wider m n r.content le all.0, all_wider m n rows le all.1)

all_more :
    (n : ℕ) (rows : List Row) (row : Row) → AreWithin n rows → IsWithin n row.content
    → AreWithin n (rows ++ row ∷ [])
all_more n [] row all within = (within, tt)
all_more n (r ∷ rows) row all within = (all.0, all_more n rows row all.1 within)

pub all_pushed :
    (bs xs after : List ℕ) (rows all : List Row) (row : Row)
    → AreWithin (length bs) rows → after ≡ bs ++ xs → all ≡ rows ++ row ∷ []
    → IsWithin (length after) row.content → AreWithin (length after) all
all_pushed bs xs after rows all row within is more last =
    subst (λ rs. AreWithin (length after) rs) (sym more)
    (all_more (length after) rows row
    (all_wider (length bs) (length after) rows
    (omega (arith, ap length is, length-append bs xs)) within) last)

-- ---- one row

pub op_at :
    (bs : List ℕ) (rows : List Row) (i : ℕ) (row : Row) → i < length rows → row ≡ get_or rows i row
    → slice_get (map (op_of bs) rows) i ≡ Some (op_of bs row)
op_at bs [] i row lt is = absurd (omega (arith, lt))
op_at bs (r ∷ rows) zero row lt is = ap (λ x. Some (op_of bs x)) (sym is)
op_at bs (r ∷ rows) (suc i) row lt is = op_at bs rows i row (omega (arith, lt)) is

pub span_at :
    (n : ℕ) (rows : List Row) (i : ℕ) (row : Row) → AreWithin n rows
    → i < length rows → row ≡ get_or rows i row → IsWithin n row.content
span_at n [] i row all lt is = absurd (omega (arith, lt))
span_at n (r ∷ rows) zero row all lt is =
    subst (λ (x : Row). IsWithin n x.content) (sym is) all.0
span_at n (r ∷ rows) (suc i) row all lt is = span_at n rows i row all.1 (omega (arith, lt)) is

map_set :
    (bs : List ℕ) (rows : List Row) (i : ℕ) (row : Row)
    → map (op_of bs) (set rows i row) ≡ slice_set (map (op_of bs) rows) i (op_of bs row)
map_set bs [] i row = refl
map_set bs (r ∷ rows) zero row = refl
map_set bs (r ∷ rows) (suc i) row = ap (λ os. op_of bs r ∷ os) (map_set bs rows i row)

pub replaced :
    (bs xs after : List ℕ) (rows : List Row) (i : ℕ) (row : Row) (op : Op)
    → AreWithin (length bs) rows → after ≡ bs ++ xs → op_of after row ≡ op
    → map (op_of after) (set rows i row) ≡ slice_set (map (op_of bs) rows) i op
replaced bs xs after rows i row op within is same =
    map_set after rows i row
    ∙ ap (λ os. slice_set os i (op_of after row)) (ops_after bs xs after rows is within)
    ∙ ap (λ o. slice_set (map (op_of bs) rows) i o) same

pub all_replaced :
    (n : ℕ) (rows : List Row) (i : ℕ) (row : Row) → AreWithin n rows → IsWithin n row.content
    → AreWithin n (set rows i row)
all_replaced n [] i row all within = tt
all_replaced n (r ∷ rows) zero row all within = (within, all.1)
all_replaced n (r ∷ rows) (suc i) row all within = (all.0, all_replaced n rows i row all.1 within)

pub nothing_more : (bs : List ℕ) → bs ≡ bs ++ []
nothing_more bs = sym (append-nil bs)

pub all_after :
    (bs xs after : List ℕ) (rows : List Row) (i : ℕ) (row : Row)
    → AreWithin (length bs) rows → after ≡ bs ++ xs → IsWithin (length after) row.content
    → AreWithin (length after) (set rows i row)
all_after bs xs after rows i row within is last =
    all_replaced (length after) rows i row
    (all_wider (length bs) (length after) rows
    (omega (arith, ap length is, length-append bs xs)) within) last
