-- What every directory keeps, after each change.
use Rattle.std.proofs.Common.{◌≡◌, ◌<◌, ◌≤◌, ◌+◌, ◌^◌, ℕ, suc, Bool, true, false, not, ◌&&◌, ◌||◌}
use Rattle.std.proofs.Common.{if◌then◌else◌, List, [], ◌∷◌, ◌++◌, length, All}
use Rattle.std.proofs.Common.{nat_lt, nat_le, ◌==◌}
use Rattle.std.proofs.Common.{Some, None, refl, sym, ap, subst, ◌∙◌, arith}
use Rattle.std.proofs.lemmas.Bool.Decides.{nat_tests}
use Rattle.std.proofs.lemmas.List.Sums.{AllPass-from_list_all}
use Rattle.std.proofs.lemmas.Slice.Eq.{bytes_eq-Decides}
use Rattle.std.proofs.lemmas.Map.{keys-set_value, length-set_value}
use Rattle.std.specs.Cmp.Lexicographic.{nat_list_eq_equiv}
use Rattle.std.specs.List.{list_all}
use Rattle.std.specs.Map.{keys_of, set_value, remove_entry}
use Rattle.std.specs.Str.{bytes_eq}
use Rattle.indexmap.specs.IndexMap.{set_value_at}
use Rattle.peg_name.specs.Name.{Rack, IsKey}
use Rattle.peg_name.specs.Holders.{with_holder}
use Rattle.peg_event.specs.declared.answers.Listing.{Listing}
use Rattle.peg_model.specs.Words.{is_in}
use Rattle.peg_model.specs.Packet.{are_distinct, is_number, is_key}
use Rattle.peg_model.specs.Handover.{is_entry, is_mark}
use Rattle.peg_model.specs.Rules.{Directory, entry_of, new_listing, reported, is_held_by}
use Rattle.peg_model.specs.Rules.{held_also_by}
use Rattle.peg_name.specs.declared.Note.{Note}
use Rattle.peg_name.specs.declared.Note.TheVariants.{Kept, Raised, Added}
use Rattle.peg_directory.specs.Table.{IsDirectory, IsAt}

-- ---- tests

pub first_of : (a b : Bool) → (a && b) ≡ true → a ≡ true
first_of true b h = refl
first_of false b h = cc

pub second_of : (a b : Bool) → (a && b) ≡ true → b ≡ true
second_of true b h = h
second_of false b h = cc

both : (a b : Bool) → a ≡ true → b ≡ true → (a && b) ≡ true
both a b h k = ap (λ x. x && b) h ∙ k

same : (a b : List ℕ) → bytes_eq a b ≡ true → a ≡ b
same a b e = (bytes_eq-Decides a b).0 e

turned : (a b : List ℕ) → bytes_eq a b ≡ bytes_eq b a
turned a b = nat_list_eq_equiv.symm a b

-- ---- each entry is within the rack

-- what makes an entry be so, one by one
record Parts (rack : Rack) (key : List ℕ) (e : Listing) : Type 0 where
  name : is_key key ≡ true
  listing : is_number e.listing ≡ true
  base : is_number e.base ≡ true
  completed : is_number e.completed ≡ true
  some : nat_lt 0 (length e.holders) ≡ true
  servers : list_all (λ server. nat_lt server rack.servers) e.holders ≡ true
  mark : is_mark e.mark ≡ true

closed :
    (rack : Rack) (key : List ℕ) (e : Listing) → Parts rack key e
    → is_entry rack (key, e) ≡ true
closed rack key e p =
    both _ _ (both _ _ (both _ _ (both _ _ (both _ _ (both _ _ p.name p.listing) p.base)
    p.completed) p.some) p.servers) p.mark

opened :
    (rack : Rack) (key : List ℕ) (e : Listing) → is_entry rack (key, e) ≡ true
    → Parts rack key e
opened rack key e h =
    let h5 = first_of _ _ h in
    let h4 = first_of _ _ h5 in
    let h3 = first_of _ _ h4 in
    let h2 = first_of _ _ h3 in
    let h1 = first_of _ _ h2 in
    record {
      name = first_of _ _ h1;
      listing = second_of _ _ h1;
      base = second_of _ _ h2;
      completed = second_of _ _ h3;
      some = second_of _ _ h4;
      servers = second_of _ _ h5;
      mark = second_of _ _ h;
    }

some_of : (n : ℕ) → nat_lt 0 n ≡ true → 0 < n
some_of n h = grind (arith, nat_tests)

low_of : (n m : ℕ) → nat_lt n m ≡ true → n < m
low_of n m h = grind (arith, nat_tests)

pub is_held :
    (rack : Rack) (key : List ℕ) (e : Listing) → is_entry rack (key, e) ≡ true
    → 0 < length e.holders
is_held rack key e h = let p = opened rack key e h in some_of (length e.holders) p.some

pub held_in_rack :
    (rack : Rack) (key : List ℕ) (e : Listing) → is_entry rack (key, e) ≡ true
    → All (λ server. server < rack.servers) e.holders
held_in_rack rack key e h =
    let p = opened rack key e h in
    λ k d lt. low_of _ rack.servers
    (AllPass-from_list_all (λ server. nat_lt server rack.servers) e.holders p.servers k d lt)

-- an entry, given apart from its key
split_entry : (rack : Rack) (x : List ℕ × Listing) → is_entry rack x ≡ is_entry rack (x.0, x.1)
split_entry rack (key, e) = refl

found_by :
    (rack : Rack) (key : List ℕ) (x : List ℕ × Listing) (xs : Directory) (e : Listing) (b : Bool)
    → bytes_eq key x.0 ≡ b → is_entry rack x ≡ true
    → (if b then Some x.1 else entry_of xs key) ≡ Some e
    → (entry_of xs key ≡ Some e → is_entry rack (key, e) ≡ true) → is_entry rack (key, e) ≡ true
found_by rack key x xs e true test one found rest =
    let is : x.1 ≡ e = cc in
    ap (λ k. is_entry rack (k, e)) (same key x.0 test)
    ∙ ap (λ l. is_entry rack (x.0, l)) (sym is) ∙ sym (split_entry rack x) ∙ one
found_by rack key x xs e false test one found rest = rest found

pub found_within :
    (rack : Rack) (key : List ℕ) (es : Directory) (e : Listing)
    → list_all (is_entry rack) es ≡ true → entry_of es key ≡ Some e
    → is_entry rack (key, e) ≡ true
found_within rack key [] e all found = cc
found_within rack key (x ∷ xs) e all found =
    found_by rack key x xs e (bytes_eq key x.0) refl (first_of _ _ all) found
    (λ more. found_within rack key xs e (second_of _ _ all) more)

set_by :
    (rack : Rack) (key : List ℕ) (x : List ℕ × Listing) (xs : Directory) (w : Listing) (b : Bool)
    → bytes_eq key x.0 ≡ b → is_entry rack x ≡ true → list_all (is_entry rack) xs ≡ true
    → is_entry rack (key, w) ≡ true
    → list_all (is_entry rack) (set_value (bytes_eq key) xs w) ≡ true
    → list_all (is_entry rack) (if b then (x.0, w) ∷ xs else x ∷ set_value (bytes_eq key) xs w)
    ≡ true
set_by rack key x xs w true test one all now rest =
    both _ _ (ap (λ k. is_entry rack (k, w)) (sym (same key x.0 test)) ∙ now) all
set_by rack key x xs w false test one all now rest = both _ _ one rest

set_within :
    (rack : Rack) (key : List ℕ) (es : Directory) (w : Listing)
    → list_all (is_entry rack) es ≡ true → is_entry rack (key, w) ≡ true
    → list_all (is_entry rack) (set_value (bytes_eq key) es w) ≡ true
set_within rack key [] w all now = refl
set_within rack key (x ∷ xs) w all now =
    set_by rack key x xs w (bytes_eq key x.0) refl (first_of _ _ all) (second_of _ _ all) now
    (set_within rack key xs w (second_of _ _ all) now)

removed_within :
    (rack : Rack) (test : List ℕ → Bool) (es : Directory) → list_all (is_entry rack) es ≡ true
    → list_all (is_entry rack) (remove_entry test es) ≡ true
removed_within rack test [] all = refl
removed_within rack test (x ∷ xs) all =
    by (test x.0) (second_of _ _ all)
    (both _ _ (first_of _ _ all) (removed_within rack test xs (second_of _ _ all)))
  where
    by :
        (b : Bool) → list_all (is_entry rack) xs ≡ true
        → list_all (is_entry rack) (x ∷ remove_entry test xs) ≡ true
        → list_all (is_entry rack) (if b then xs else x ∷ remove_entry test xs) ≡ true
    by true one rest = one
    by false one rest = rest

pushed_within :
    (rack : Rack) (es : Directory) (e : List ℕ × Listing) → list_all (is_entry rack) es ≡ true
    → is_entry rack e ≡ true → list_all (is_entry rack) (es ++ e ∷ []) ≡ true
pushed_within rack [] e all one = both _ _ one refl
pushed_within rack (x ∷ xs) e all one =
    both _ _ (first_of _ _ all) (pushed_within rack xs e (second_of _ _ all) one)

-- ---- no key has two entries

neither : (a b : Bool) → a ≡ false → b ≡ false → (a || b) ≡ false
neither a b h k = ap (λ x. x || b) h ∙ k

pub not_first : (a b : Bool) → (a || b) ≡ false → a ≡ false
not_first true b h = cc
not_first false b h = refl

pub not_second : (a b : Bool) → (a || b) ≡ false → b ≡ false
not_second true b h = cc
not_second false b h = h

pub negated : (b : Bool) → not b ≡ true → b ≡ false
negated true h = cc
negated false h = refl

affirmed : (b : Bool) → b ≡ false → not b ≡ true
affirmed true h = cc
affirmed false h = refl

absent_by :
    (key : List ℕ) (x : List ℕ × Listing) (xs : Directory) (b : Bool) → bytes_eq key x.0 ≡ b
    → (if b then Some x.1 else entry_of xs key) ≡ None
    → (entry_of xs key ≡ None → is_in key (keys_of xs) ≡ false)
    → is_in key (keys_of (x ∷ xs)) ≡ false
absent_by key x xs true test none rest = cc
absent_by key x xs false test none rest = neither _ _ test (rest none)

absent :
    (key : List ℕ) (es : Directory) → entry_of es key ≡ None → is_in key (keys_of es) ≡ false
absent key [] none = refl
absent key (x ∷ xs) none =
    absent_by key x xs (bytes_eq key x.0) refl none (λ more. absent key xs more)

not_in-push :
    (key : List ℕ) (es : Directory) (e : List ℕ × Listing) → is_in key (keys_of es) ≡ false
    → bytes_eq key e.0 ≡ false → is_in key (keys_of (es ++ e ∷ [])) ≡ false
not_in-push key [] e none other = neither _ _ other refl
not_in-push key (x ∷ xs) e none other =
    neither _ _ (not_first _ _ none) (not_in-push key xs e (not_second _ _ none) other)

pushed_distinct :
    (es : Directory) (e : List ℕ × Listing) → are_distinct (keys_of es) ≡ true
    → is_in e.0 (keys_of es) ≡ false → are_distinct (keys_of (es ++ e ∷ [])) ≡ true
pushed_distinct [] e d none = refl
pushed_distinct (x ∷ xs) e d none =
    both _ _
    (affirmed _ (not_in-push x.0 xs e (negated _ (first_of _ _ d))
    (turned x.0 e.0 ∙ not_first _ _ none)))
    (pushed_distinct xs e (second_of _ _ d) (not_second _ _ none))

not_in-remove :
    (key : List ℕ) (test : List ℕ → Bool) (es : Directory) → is_in key (keys_of es) ≡ false
    → is_in key (keys_of (remove_entry test es)) ≡ false
not_in-remove key test [] none = refl
not_in-remove key test (x ∷ xs) none =
    by (test x.0) (not_second _ _ none)
    (neither _ _ (not_first _ _ none) (not_in-remove key test xs (not_second _ _ none)))
  where
    by :
        (b : Bool) → is_in key (keys_of xs) ≡ false
        → is_in key (keys_of (x ∷ remove_entry test xs)) ≡ false
        → is_in key (keys_of (if b then xs else x ∷ remove_entry test xs)) ≡ false
    by true one rest = one
    by false one rest = rest

removed_distinct :
    (test : List ℕ → Bool) (es : Directory) → are_distinct (keys_of es) ≡ true
    → are_distinct (keys_of (remove_entry test es)) ≡ true
removed_distinct test [] d = refl
removed_distinct test (x ∷ xs) d =
    by (test x.0) (second_of _ _ d)
    (both _ _ (affirmed _ (not_in-remove x.0 test xs (negated _ (first_of _ _ d))))
    (removed_distinct test xs (second_of _ _ d)))
  where
    by :
        (b : Bool) → are_distinct (keys_of xs) ≡ true
        → are_distinct (keys_of (x ∷ remove_entry test xs)) ≡ true
        → are_distinct (keys_of (if b then xs else x ∷ remove_entry test xs)) ≡ true
    by true one rest = one
    by false one rest = rest

-- ---- there is room

pushed_length : (es : Directory) (e : List ℕ × Listing) → length (es ++ e ∷ []) ≡ length es + 1
pushed_length [] e = refl
pushed_length (x ∷ xs) e = let n = pushed_length xs e in omega (arith, n)

removed_length :
    (test : List ℕ → Bool) (es : Directory) → length (remove_entry test es) ≤ length es
removed_length test [] = omega arith
removed_length test (x ∷ xs) = by (test x.0) (removed_length test xs)
  where
    by :
        (b : Bool) → length (remove_entry test xs) ≤ length xs
        → length (if b then xs else x ∷ remove_entry test xs) ≤ suc (length xs)
    by true le = omega arith
    by false le = omega (arith, le)

-- ---- the directory after each change

pub after_push :
    (rack : Rack) (key : List ℕ) (es out : Directory) (e : Listing)
    → IsDirectory (record { rack = rack; entries = es }) → entry_of es key ≡ None
    → is_entry rack (key, e) ≡ true → length es < rack.listed → out ≡ es ++ (key, e) ∷ []
    → IsDirectory (record { rack = rack; entries = out })
after_push rack key es out e d none one room is =
    let n = pushed_length es (key, e) in
    subst (λ l. IsDirectory (record { rack = rack; entries = l })) (sym is) (record {
      few = omega (arith, n, room);
      within = pushed_within rack es (key, e) d.within one;
      distinct = pushed_distinct es (key, e) d.distinct (absent key es none);
    })

pub after_put :
    (rack : Rack) (key : List ℕ) (es : Directory) (i : ℕ) (e now : Listing)
    → IsDirectory (record { rack = rack; entries = es }) → IsAt key es i e
    → is_entry rack (key, now) ≡ true
    → IsDirectory (record { rack = rack; entries = set_value_at es i now })
after_put rack key es i e now d at one =
    let n = length-set_value (bytes_eq key) es now in
    subst (λ l. IsDirectory (record { rack = rack; entries = l })) (at.put now) (record {
      few = omega (arith, n, d.few);
      within = set_within rack key es now d.within one;
      distinct = ap are_distinct (keys-set_value (bytes_eq key) es now) ∙ d.distinct;
    })

pub after_remove :
    (rack : Rack) (key : List ℕ) (es out : Directory)
    → IsDirectory (record { rack = rack; entries = es }) → out ≡ remove_entry (bytes_eq key) es
    → IsDirectory (record { rack = rack; entries = out })
after_remove rack key es out d is =
    let n = removed_length (bytes_eq key) es in
    subst (λ l. IsDirectory (record { rack = rack; entries = l })) (sym is) (record {
      few = omega (arith, n, d.few);
      within = removed_within rack (bytes_eq key) es d.within;
      distinct = removed_distinct (bytes_eq key) es d.distinct;
    })

-- ---- the entries that are written

pub is_key_of : (key : List ℕ) → IsKey key → is_key key ≡ true
is_key_of key k =
    both _ _ (least (length key) k.0) (most (length key) k.1)
  where
    least : (n : ℕ) → 1 ≤ n → nat_le 1 n ≡ true
    least n h = grind (arith, nat_tests)

    most : (n : ℕ) → n ≤ 32 → nat_le n 32 ≡ true
    most n h = grind (arith, nat_tests)

pub marked_within :
    (rack : Rack) (key : List ℕ) (e : Listing) (mark : ℕ) → is_entry rack (key, e) ≡ true
    → 1 ≤ mark → mark < 2 ^ 64 → is_entry rack (key, record e { mark = Some mark }) ≡ true
marked_within rack key e mark one least small =
    let p = opened rack key e one in
    closed rack key (record e { mark = Some mark }) (record {
      name = p.name;
      listing = p.listing;
      base = p.base;
      completed = p.completed;
      some = p.some;
      servers = p.servers;
      mark = grind (arith, nat_tests);
    })

pub new_within :
    (rack : Rack) (key : List ℕ) (listing home base : ℕ) → is_key key ≡ true
    → listing < 2 ^ 64 → home < rack.servers → base < 2 ^ 64
    → is_entry rack (key, new_listing listing home base) ≡ true
new_within rack key listing home base k small low small_base =
    closed rack key (new_listing listing home base) (record {
      name = k;
      listing = grind (arith, nat_tests);
      base = grind (arith, nat_tests);
      completed = grind (arith, nat_tests);
      some = refl;
      servers = both _ _ (grind (arith, nat_tests)) refl;
      mark = refl;
    })

all-with_holder :
    (p : ℕ → Bool) (server : ℕ) (holders : List ℕ) → p server ≡ true → list_all p holders ≡ true
    → list_all p (with_holder server holders) ≡ true
all-with_holder p server [] one all = both _ _ one refl
all-with_holder p server (h ∷ hs) one all =
    by (nat_lt server h) (server == h)
    (all-with_holder p server hs one (second_of _ _ all))
  where
    by :
        (a b : Bool) → list_all p (with_holder server hs) ≡ true
        → list_all p
        (if a then server ∷ h ∷ hs else (if b then h ∷ hs else h ∷ with_holder server hs))
        ≡ true
    by true b rest = both _ _ one all
    by false true rest = all
    by false false rest = both _ _ (first_of _ _ all) rest

positive : (n : ℕ) → nat_lt 0 (suc n) ≡ true
positive n = grind (arith, nat_tests)

some-with_holder :
    (server : ℕ) (holders : List ℕ) → nat_lt 0 (length (with_holder server holders)) ≡ true
some-with_holder server [] = refl
some-with_holder server (h ∷ hs) = by (nat_lt server h) (server == h)
  where
    by :
        (a b : Bool)
        → nat_lt 0
        (length
        (if a then server ∷ h ∷ hs else (if b then h ∷ hs else h ∷ with_holder server hs)))
        ≡ true
    by true b = positive _
    by false true = positive _
    by false false = positive _

raised_within :
    (rack : Rack) (key : List ℕ) (e : Listing) (server version : ℕ)
    → is_entry rack (key, e) ≡ true → server < rack.servers → version < 2 ^ 64
    → is_entry rack (key, record e { completed = version; holders = server ∷ [] }) ≡ true
raised_within rack key e server version one low small =
    let p = opened rack key e one in
    closed rack key (record e { completed = version; holders = server ∷ [] }) (record {
      name = p.name;
      listing = p.listing;
      base = p.base;
      completed = grind (arith, nat_tests);
      some = refl;
      servers = both _ _ (grind (arith, nat_tests)) refl;
      mark = p.mark;
    })

held_within :
    (rack : Rack) (key : List ℕ) (e : Listing) (server : ℕ) → is_entry rack (key, e) ≡ true
    → server < rack.servers → is_entry rack (key, held_also_by e server) ≡ true
held_within rack key e server one low =
    let p = opened rack key e one in
    let in_rack : nat_lt server rack.servers ≡ true = grind (arith, nat_tests) in
    closed rack key (held_also_by e server) (record {
      name = p.name;
      listing = p.listing;
      base = p.base;
      completed = p.completed;
      some = some-with_holder server e.holders;
      servers =
          all-with_holder (λ s. nat_lt s rack.servers) server e.holders in_rack p.servers;
      mark = p.mark;
    })

reported_by :
    (rack : Rack) (key : List ℕ) (e : Listing) (server version : ℕ) (a b : Bool)
    → is_entry rack (key, e) ≡ true
    → is_entry rack (key, record e { completed = version; holders = server ∷ [] }) ≡ true
    → is_entry rack (key, held_also_by e server) ≡ true
    → (λ (r : Note × Listing). is_entry rack (key, r.1) ≡ true)
    (if a then (Raised, record e { completed = version; holders = server ∷ [] })
    else (if b then (if is_held_by e server then Kept else Added, held_also_by e server)
    else (Kept, e)))
reported_by rack key e server version true b one raise hold = raise
reported_by rack key e server version false true one raise hold = hold
reported_by rack key e server version false false one raise hold = one

pub reported_within :
    (rack : Rack) (key : List ℕ) (e : Listing) (server version : ℕ)
    → is_entry rack (key, e) ≡ true → server < rack.servers → version < 2 ^ 64
    → is_entry rack (key, (reported e server version).1) ≡ true
reported_within rack key e server version one low small =
    reported_by rack key e server version (nat_lt e.completed version) (version == e.completed)
    one (raised_within rack key e server version one low small)
    (held_within rack key e server one low)
