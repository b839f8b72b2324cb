-- The entries of a key, filtered and sorted, are its printed order.
use Rattle.std.proofs.Common.{◌≡◌, ◌<◌, ◌≤◌, ◌+◌, ◌^◌, ◌==◌, ◌&&◌, ◌||◌, not, ℕ, Bool, true, false}
use Rattle.std.proofs.Common.{cond, if◌then◌else◌, Option, Some, None, is_some, IfSome, List, []}
use Rattle.std.proofs.Common.{◌∷◌, ◌++◌, length, get_or, drop, map, filter, unwrap_or, nat_lt}
use Rattle.std.proofs.Common.{refl, sym, ap, ◌∙◌, subst, arith, append_assoc, length-append}
use Rattle.std.proofs.lemmas.List.{drop_more, drop_all, append-nil}
use Rattle.std.proofs.lemmas.Bool.Decides.{nat_tests}
use Rattle.std.specs.Option.{option_to_list}
use Rattle.std.specs.List.{list_any, AllByRecursion}
use Rattle.std.specs.Ordering.{nat_cmp, bool_cmp, ordering_then, is_lt}
use Rattle.std.specs.declared.cmp.Ordering.{Ordering}
use Rattle.std.specs.declared.cmp.Ordering.TheVariants.{Less, Equal, Greater}
use Rattle.std.specs.Str.{bytes_eq}
use Rattle.peg_event.specs.declared.history.Op.{Op}
use Rattle.peg_model.specs.Words.{placed, sorted, last_number}
use Rattle.peg_model.specs.World.{is_write}
use Rattle.peg_model.specs.Order.{Tagged, tagged, was_read, is_printed, stands_before, lesser}
use Rattle.peg_model.specs.Order.{rank, answer_place, order_of}
use Rattle.peg_history.specs.declared.Entry.{Entry}
use Rattle.peg_history.specs.Entries.{may_stand, entry_of, entry_if, InRange, entries_of}
use Rattle.peg_history.specs.Entries.{is_before, has_read, is_seen, printed}

-- ---- an entry stands where its operation does

chosen :
    (l e : Bool) (r : Ordering)
    → is_lt (ordering_then (cond l Less (cond e Equal Greater)) r) ≡ (l || (e && is_lt r))
chosen true e r = refl
chosen false true r = refl
chosen false false r = refl

nat_then : (a b : ℕ) (r : Ordering) → is_lt (ordering_then (nat_cmp a b) r) ≡ lesser a b (is_lt r)
nat_then a b r = chosen (nat_lt a b) (a == b) r

last_is : (a b : ℕ) → is_lt (nat_cmp a b) ≡ nat_lt a b
last_is a b = last_if (nat_lt a b) (a == b)
  where
    last_if : (l e : Bool) → is_lt (cond l Less (cond e Equal Greater)) ≡ l
    last_if true e = refl
    last_if false true = refl
    last_if false false = refl

rank_then :
    (v w : Bool) (r : Ordering)
    → is_lt (ordering_then (bool_cmp (not v) (not w)) r)
    ≡ lesser (if v then 0 else 1) (if w then 0 else 1) (is_lt r)
rank_then true true r = refl
rank_then true false r = refl
rank_then false true r = refl
rank_then false false r = refl

answer_then :
    (a b : Option ℕ) (r : Ordering) → IfSome a (λ at. at < 2 ^ 64) → IfSome b (λ at. at < 2 ^ 64)
    → is_lt
    (ordering_then (bool_cmp (not (is_some a)) (not (is_some b)))
    (ordering_then (nat_cmp (unwrap_or a 0) (unwrap_or b 0)) r))
    ≡ lesser (unwrap_or a (last_number + 1)) (unwrap_or b (last_number + 1)) (is_lt r)
answer_then (Some x) (Some y) r h k = nat_then x y r
answer_then (Some x) None r h k =
    let e : nat_lt x (2 ^ 64) ≡ true = grind (arith, nat_tests) in
    sym (ap (λ t. t || (x == last_number + 1 && is_lt r)) e)
answer_then None (Some y) r h k =
    let e : nat_lt (2 ^ 64) y ≡ false = grind (arith, nat_tests) in
    let f : (2 ^ 64 == y) ≡ false = grind (arith, nat_tests) in
    sym (ap (λ t. t || (2 ^ 64 == y && is_lt r)) e ∙ ap (λ t. t && is_lt r) f)
answer_then None None r h k = refl

same_order :
    (a b : Tagged) → InRange a → InRange b
    → is_before (entry_of a) (entry_of b) ≡ stands_before a b
same_order a b h k =
    let places = nat_cmp a.place b.place in
    let later =
    ordering_then (nat_cmp (unwrap_or a.op.answered 0) (unwrap_or b.op.answered 0)) places in
    let answers =
    ordering_then (bool_cmp (not (is_some a.op.answered)) (not (is_some b.op.answered))) later
    in
    nat_then a.tag b.tag
    (ordering_then (bool_cmp (not (is_write a.op.act)) (not (is_write b.op.act))) answers)
    ∙ ap (λ t. lesser a.tag b.tag t)
    (rank_then (is_write a.op.act) (is_write b.op.act) answers
    ∙ ap (λ t. lesser (rank a.op) (rank b.op) t)
    (answer_then a.op.answered b.op.answered places h k
    ∙ ap (λ t. lesser (answer_place a.op) (answer_place b.op) t) (last_is a.place b.place)))

All-placed :
    (P : Tagged → Type 0) (t : Tagged) (ts : List Tagged) → P t → AllByRecursion P ts
    → AllByRecursion P (placed stands_before t ts)
All-placed P t [] here all = (here, tt)
All-placed P t (u ∷ ts) here (there, all) = all_if (stands_before t u) (All-placed P t ts here all)
  where
    all_if :
        (b : Bool) → AllByRecursion P (placed stands_before t ts)
        → AllByRecursion P (if b then t ∷ u ∷ ts else u ∷ placed stands_before t ts)
    all_if true rest = (here, (there, all))
    all_if false rest = (there, rest)

All-sorted :
    (P : Tagged → Type 0) (ts : List Tagged) → AllByRecursion P ts
    → AllByRecursion P (sorted stands_before ts)
All-sorted P [] all = tt
All-sorted P (t ∷ ts) (here, all) =
    All-placed P t (sorted stands_before ts) here (All-sorted P ts all)

map-placed : (t : Tagged) (ts : List Tagged) → InRange t → AllByRecursion InRange ts
    → placed is_before (entry_of t) (map entry_of ts) ≡ map entry_of (placed stands_before t ts)
map-placed t [] h all = refl
map-placed t (u ∷ ts) h (k, all) =
    placed_if (is_before (entry_of t) (entry_of u)) (stands_before t u) (same_order t u h k)
    (map-placed t ts h all)
  where
    placed_if :
        (b s : Bool) → b ≡ s
        → placed is_before (entry_of t) (map entry_of ts)
        ≡ map entry_of (placed stands_before t ts)
        →
        (if b then entry_of t ∷ entry_of u ∷ map entry_of ts else entry_of u
        ∷ placed is_before (entry_of t) (map entry_of ts))
        ≡ map entry_of (if s then t ∷ u ∷ ts else u ∷ placed stands_before t ts)
    placed_if true true e rest = refl
    placed_if true false e rest = cc
    placed_if false true e rest = cc
    placed_if false false e rest = ap (λ es. entry_of u ∷ es) rest

map-sorted :
    (ts : List Tagged) → AllByRecursion InRange ts
    → sorted is_before (map entry_of ts) ≡ map entry_of (sorted stands_before ts)
map-sorted [] all = refl
map-sorted (t ∷ ts) (h, all) =
    ap (λ es. placed is_before (entry_of t) es) (map-sorted ts all) ∙ map-placed t
    (sorted stands_before ts) h (All-sorted InRange ts all)

All-filter :
    (P : Tagged → Type 0) (p : Tagged → Bool) (ts : List Tagged) → AllByRecursion P ts
    → AllByRecursion P (filter p ts)
All-filter P p [] all = tt
All-filter P p (t ∷ ts) (here, all) = filter_if (p t) (All-filter P p ts all)
  where
    filter_if :
        (b : Bool) → AllByRecursion P (filter p ts)
        → AllByRecursion P (cond b (t ∷ filter p ts) (filter p ts))
    filter_if true rest = (here, rest)
    filter_if false rest = rest

-- ---- the entries of a key

any_if :
    (p : Entry → Bool) (m : Bool) (e : Entry) (es : List Entry)
    → list_any p (option_to_list (if m then Some e else None) ++ es)
    ≡ ((m && p e) || list_any p es)
any_if p true e es = refl
any_if p false e es = refl

filter_if : (p : Entry → Bool) (m : Bool) (e : Entry) (es : List Entry)
    → filter p (option_to_list (if m then Some e else None) ++ es)
    ≡ cond (m && p e) (e ∷ filter p es) (filter p es)
filter_if p true e es = refl
filter_if p false e es = refl

read_test : (a w n e : Bool) → ((a || (w && n)) && (not w && e)) ≡ (not w && a && e)
read_test true true n e = refl
read_test true false n e = refl
read_test false true true e = refl
read_test false true false e = refl
read_test false false n e = refl

read_step : (k : Bool) (p : Entry → Bool) (t : Tagged) (es : List Entry) (tag : ℕ) (rest : Bool)
    → list_any (λ e. e.is_read && e.tag == tag) es ≡ rest
    → list_any (λ e. e.is_read && e.tag == tag)
    (if k then option_to_list (entry_if t) ++ es else es)
    ≡ ((k && not (is_write t.op.act) && is_some t.op.answered && t.tag == tag) || rest)
read_step false p t es tag rest h = h
read_step true p t es tag rest h =
    any_if (λ e. e.is_read && e.tag == tag) (may_stand t) (entry_of t) es
    ∙ ap (λ b. b || list_any (λ e. e.is_read && e.tag == tag) es)
    (read_test (is_some t.op.answered) (is_write t.op.act) (nat_lt 0 t.tag) (t.tag == tag))
    ∙ ap (λ b. (not (is_write t.op.act) && is_some t.op.answered && t.tag == tag) || b) h

has_read-entries_of :
    (key : List ℕ) (ts : List Tagged) (tag : ℕ)
    → has_read (entries_of key ts) tag ≡ was_read ts key tag
has_read-entries_of key [] tag = refl
has_read-entries_of key (t ∷ ts) tag =
    read_step (bytes_eq t.op.key key) (λ e. e.is_read) t (entries_of key ts) tag
    (was_read ts key tag) (has_read-entries_of key ts tag)

print_test : (a w n r : Bool) → ((a || (w && n)) && (not (not a) || r)) ≡ (a || (w && n && r))
print_test true w n r = refl
print_test false true true r = refl
print_test false true false r = refl
print_test false false n r = refl

map_if :
    (b : Bool) (t : Tagged) (ts : List Tagged)
    → cond b (entry_of t ∷ map entry_of ts) (map entry_of ts) ≡ map entry_of (cond b (t ∷ ts) ts)
map_if true t ts = refl
map_if false t ts = refl

print_step :
    (k s : Bool) (es : List Entry) (t : Tagged) (rest : List Entry) (ts : List Tagged)
    → has_read es t.tag ≡ s → filter (is_seen es) rest ≡ map entry_of ts
    → filter (is_seen es) (if k then option_to_list (entry_if t) ++ rest else rest)
    ≡ map entry_of
    (cond (k
    && (is_some t.op.answered || (is_write t.op.act && nat_lt 0 t.tag && s))) (t ∷ ts) ts)
print_step false s es t rest ts h e = e
print_step true s es t rest ts h e =
    filter_if (is_seen es) (may_stand t) (entry_of t) rest
    ∙ ap
    (λ b. cond (may_stand t && (not (not (is_some t.op.answered)) || b))
    (entry_of t ∷ filter (is_seen es) rest) (filter (is_seen es) rest))
    h
    ∙ ap (λ b. cond b (entry_of t ∷ filter (is_seen es) rest) (filter (is_seen es) rest))
    (print_test (is_some t.op.answered) (is_write t.op.act) (nat_lt 0 t.tag) s)
    ∙ ap
    (λ zs. cond (is_some t.op.answered || (is_write t.op.act && nat_lt 0 t.tag && s))
    (entry_of t ∷ zs) zs)
    e
    ∙ map_if (is_some t.op.answered || (is_write t.op.act && nat_lt 0 t.tag && s)) t ts

filter-entries_of :
    (key : List ℕ) (es : List Entry) (all : List Tagged)
    → ((tag : ℕ) → has_read es tag ≡ was_read all key tag)
    → (ts : List Tagged)
    → filter (is_seen es) (entries_of key ts) ≡ map entry_of (filter (is_printed all key) ts)
filter-entries_of key es all h [] = refl
filter-entries_of key es all h (t ∷ ts) =
    print_step (bytes_eq t.op.key key) (was_read all key t.tag) es t (entries_of key ts)
    (filter (is_printed all key) ts) (h t.tag) (filter-entries_of key es all h ts)

places_of : (ts : List Tagged) → map (λ e. e.place) (map entry_of ts) ≡ map (λ t. t.place) ts
places_of [] = refl
places_of (t ∷ ts) = ap (λ ps. t.place ∷ ps) (places_of ts)

pub printed-entries_of : (key : List ℕ) (all : List Tagged) → AllByRecursion InRange all
    → printed (entries_of key all)
    ≡ map (λ t. t.place) (sorted stands_before (filter (is_printed all key) all))
printed-entries_of key all range =
    ap (λ es. map (λ e. e.place) (sorted is_before es))
    (filter-entries_of key (entries_of key all) all (has_read-entries_of key all) all)
    ∙ ap (λ es. map (λ e. e.place) es)
    (map-sorted (filter (is_printed all key) all)
    (All-filter InRange (is_printed all key) all range))
    ∙ places_of (sorted stands_before (filter (is_printed all key) all))

pub printed_is :
    (key : List ℕ) (ops : List Op) (tags : List ℕ) (es : List Entry)
    → entries_of key (tagged 0 ops tags) ≡ es → AllByRecursion InRange (tagged 0 ops tags)
    → printed es ≡ order_of ops tags key
unfolding order_of
printed_is key ops tags es e range =
    ap printed (sym e) ∙ printed-entries_of key (tagged 0 ops tags) range

-- ---- one operation after another

-- what is left of the operations from a place on
unfoldable pub rest_of : List Op → List ℕ → ℕ → List Tagged
rest_of ops tags place = tagged place (drop place ops) (drop place tags)

-- what was made of the operations before a place
pub record IsGathered (key : List ℕ) (ops : List Op) (tags : List ℕ) (place : ℕ) (es : List Entry)
    : Type 0 where
  pub split : entries_of key (tagged 0 ops tags) ≡ es ++ entries_of key (rest_of ops tags place)
  pub range :
      AllByRecursion InRange (rest_of ops tags place) → AllByRecursion InRange (tagged 0 ops tags)
  pub few : length es ≤ place

pub none_gathered : (key : List ℕ) (ops : List Op) (tags : List ℕ) → IsGathered key ops tags 0 []
unfolding rest_of
none_gathered key ops tags = record { split = refl; range = λ h. h; few = omega arith }

pub rest_more :
    (ops : List Op) (tags : List ℕ) (place : ℕ) (op : Op) (tag : ℕ) → place < length ops
    → place < length tags → op ≡ get_or ops place op → tag ≡ get_or tags place tag
    → rest_of ops tags place ≡ record {
      place = place;
      op = op;
      tag = tag;
    } ∷ rest_of ops tags (place + 1)
unfolding rest_of
rest_more ops tags place op tag in_ops in_tags is same =
    let e :
    drop place ops
    ≡ op
    ∷ drop (place + 1) ops = drop_more ops place op in_ops ∙ ap
    (λ o. o ∷ drop (place + 1) ops) (sym is) in
    let f :
    drop place tags
    ≡ tag
    ∷ drop (place + 1) tags = drop_more tags place tag in_tags ∙ ap
    (λ t. t ∷ drop (place + 1) tags) (sym same) in
    ap (λ os. tagged place os (drop place tags)) e ∙ ap
    (λ ts. tagged place (op ∷ drop (place + 1) ops) ts) f

-- the end of the operations
pub rest_none :
    (ops : List Op) (tags : List ℕ) (place : ℕ) → length ops ≤ place → rest_of ops tags place ≡ []
unfolding rest_of
rest_none ops tags place past =
    ap (λ os. tagged place os (drop place tags)) (drop_all place ops past)

option_few : (e : Option Entry) → length (option_to_list e) ≤ 1
option_few None = omega arith
option_few (Some e) = omega arith

pub gathered_more :
    (key : List ℕ) (ops : List Op) (tags : List ℕ) (place : ℕ) (op : Op) (tag : ℕ)
    (es new : List Entry) (e : Option Entry)
    → rest_of ops tags place ≡ record {
      place = place;
      op = op;
      tag = tag;
    } ∷ rest_of ops tags (place + 1)
    → IfSome op.answered (λ at. at < 2 ^ 64)
    → e ≡ entry_if (record { place = place; op = op; tag = tag })
    → new ≡ (if bytes_eq op.key key then es ++ option_to_list e else es)
    → IsGathered key ops tags place es → IsGathered key ops tags (place + 1) new
gathered_more key ops tags place op tag es new e rest range is now done =
    record {
      split =
          done.split ∙ ap (λ ts. es ++ entries_of key ts) rest ∙ split_if (bytes_eq op.key key)
          (entries_of key (rest_of ops tags (place + 1)))
          ∙ ap (λ zs. zs ++ entries_of key (rest_of ops tags (place + 1))) (sym now);
      range = λ h. done.range (subst (λ ts. AllByRecursion InRange ts) (sym rest) (range, h));
      few = omega (arith, few_if (bytes_eq op.key key), ap length now, done.few);
    }
  where
    split_if : (b : Bool) (more : List Entry)
        → es
        ++ (if b then option_to_list (entry_if (record { place = place; op = op; tag = tag }))
        ++ more else more)
        ≡ (if b then es ++ option_to_list e else es) ++ more
    split_if true more =
        ap (λ o. es ++ (option_to_list o ++ more)) (sym is) ∙ sym
        (append_assoc es (option_to_list e) more)
    split_if false more = refl

    few_if : (b : Bool) → length (if b then es ++ option_to_list e else es) ≤ length es + 1
    few_if true = omega (arith, length-append es (option_to_list e), option_few e)
    few_if false = omega arith

pub gathered_all :
    (key : List ℕ) (ops : List Op) (tags : List ℕ) (place : ℕ) (es : List Entry)
    → length ops ≤ place → IsGathered key ops tags place es
    → printed es ≡ order_of ops tags key
gathered_all key ops tags place es past done =
    let none = rest_none ops tags place past in
    printed_is key ops tags es
    (done.split ∙ ap (λ ts. es ++ entries_of key ts) none ∙ append-nil es)
    (done.range (subst (λ ts. AllByRecursion InRange ts) (sym none) tt))

pub yes :
    (b : Bool) (es new : List Entry) (e : Option Entry) → b ≡ true → new ≡ es ++ option_to_list e
    → new ≡ (if b then es ++ option_to_list e else es)
yes true es new e is same = same
yes false es new e is same = cc

pub no :
    (b : Bool) (es new : List Entry) (e : Option Entry) → b ≡ false → new ≡ es
    → new ≡ (if b then es ++ option_to_list e else es)
no true es new e is same = cc
no false es new e is same = same
