-- Distinct keys that are listed one after the other stand in the directory in their order.
use Rattle.std.proofs.Common.{◌≡◌, ◌<◌, ◌≤◌, ◌+◌, ◌-◌, ℕ, Bool, true, false, not, ◌&&◌, ◌||◌, ◌==◌}
use Rattle.std.proofs.Common.{if◌then◌else◌, List, [], ◌∷◌, ◌++◌, length, None, Some}
use Rattle.std.proofs.Common.{refl, sym, ap, ◌∙◌, arith}
use Rattle.std.proofs.lemmas.Bool.Decides.{nat_tests}
use Rattle.std.specs.Cmp.Lexicographic.{nat_list_eq_equiv}
use Rattle.std.specs.Map.{keys_of}
use Rattle.std.specs.Str.{bytes_eq}
use Rattle.peg_name.specs.Name.{Rack, home_of}
use Rattle.peg_event.specs.declared.answers.Listing.{Listing}
use Rattle.peg_event.specs.declared.answers.Promoted.{Promoted}
use Rattle.peg_event.specs.declared.answers.Promoted.TheVariants.{Full, Listed}
use Rattle.peg_model.specs.Words.{is_in}
use Rattle.peg_model.specs.Packet.{are_distinct}
use Rattle.peg_model.specs.Rules.{Directory, entry_of, new_listing, list_key, list_unless}
use Rattle.peg_rules.specs.Started.{listed_at_start}

turned : (a b : List ℕ) → bytes_eq a b ≡ bytes_eq b a
turned a b = nat_list_eq_equiv.symm a b

not_first : (a b : Bool) → (a || b) ≡ false → a ≡ false
not_first true b h = cc
not_first false b h = refl

not_second : (a b : Bool) → (a || b) ≡ false → b ≡ false
not_second true b h = cc
not_second false b h = h

first_of : (a b : Bool) → (not a && b) ≡ true → a ≡ false
first_of true b h = cc
first_of false b h = refl

second_of : (a b : Bool) → (a && b) ≡ true → b ≡ true
second_of true b h = h
second_of false b h = cc

misses :
    (x key : List ℕ) (before after : List (List ℕ))
    → is_in x (before ++ key ∷ after) ≡ false → bytes_eq x key ≡ false
misses x key [] after h = not_first _ _ h
misses x key (y ∷ before) after h = misses x key before after (not_second _ _ h)

-- a key that comes later has no entry yet
not_before :
    (key : List ℕ) (es : Directory) (keys : List (List ℕ))
    → are_distinct (keys_of es ++ key ∷ keys) ≡ true → entry_of es key ≡ None
not_before key [] keys d = refl
not_before key (x ∷ xs) keys d =
    let other = misses x.0 key (keys_of xs) keys (first_of _ _ d) in
    ap (λ b. if b then Some x.1 else entry_of xs key) (turned key x.0 ∙ other)
    ∙ not_before key xs keys (second_of _ _ d)

keys_after :
    (es : Directory) (e : List ℕ × Listing) (keys : List (List ℕ))
    → keys_of (es ++ e ∷ []) ++ keys ≡ keys_of es ++ e.0 ∷ keys
keys_after [] e keys = refl
keys_after (x ∷ xs) e keys = ap (λ l. x.0 ∷ l) (keys_after xs e keys)

length_after : (es : Directory) (e : List ℕ × Listing) → length (es ++ e ∷ []) ≡ length es + 1
length_after [] e = refl
length_after (x ∷ xs) e = let n = length_after xs e in omega (arith, n)

one_by_one : (es more : Directory) (e : List ℕ × Listing) → (es ++ e ∷ []) ++ more ≡ es ++ e ∷ more
one_by_one [] more e = refl
one_by_one (x ∷ xs) more e = ap (λ l. x ∷ l) (one_by_one xs more e)

none_after : (es : Directory) → es ++ [] ≡ es
none_after [] = refl
none_after (x ∷ xs) = ap (λ l. x ∷ l) (none_after xs)

-- the entry with which a key starts
abbrev starting : Rack → List ℕ → List ℕ × Listing
starting rack key = (key, new_listing 0 (home_of rack.servers key) (rack.first - 1))

lists_one :
    (rack : Rack) (es : Directory) (key : List ℕ) (keys : List (List ℕ))
    → are_distinct (keys_of es ++ key ∷ keys) ≡ true → length es < rack.listed
    → (list_key rack.listed es key 0 (home_of rack.servers key) (rack.first - 1)).1
    ≡ es ++ starting rack key ∷ []
lists_one rack es key keys d room =
    let full : (length es == rack.listed) ≡ false = unequal (length es) rack.listed room in
    ap (λ o. (list_unless o rack.listed es key (starting rack key).1).1) (not_before key es keys d)
    ∙ ap (λ (b : Bool). after (if b then (Full (length es), es)
    else (Listed, es ++ starting rack key ∷ []))) full
  where
    after : Promoted × Directory → Directory
    after listed = listed.1

    unequal : (a b : ℕ) → a < b → (a == b) ≡ false
    unequal a b h = grind (arith, nat_tests)

-- the entries once these keys are listed, one after the other
abbrev pub listed_each : Rack → Directory → List (List ℕ) → Directory
listed_each rack es [] = es
listed_each rack es (key ∷ keys) =
    listed_each rack
    (list_key rack.listed es key 0 (home_of rack.servers key) (rack.first - 1)).1 keys

after_these :
    (rack : Rack) (es : Directory) (keys : List (List ℕ))
    → are_distinct (keys_of es ++ keys) ≡ true → length es + length keys ≤ rack.listed
    → listed_each rack es keys ≡ es ++ listed_at_start rack keys
after_these rack es [] d few = sym (none_after es)
after_these rack es (key ∷ keys) d few =
    let e = starting rack key in
    let n = length_after es e in
    ap (λ l. listed_each rack l keys) (lists_one rack es key keys d (omega (arith, few)))
    ∙ after_these rack (es ++ e ∷ []) keys (ap are_distinct (keys_after es e keys) ∙ d)
    (omega (arith, few, n))
    ∙ one_by_one es (listed_at_start rack keys) e

pub lists_each :
    (rack : Rack) (keys : List (List ℕ))
    → are_distinct keys ≡ true → length keys ≤ rack.listed
    → listed_each rack [] keys ≡ listed_at_start rack keys
lists_each rack keys d few = after_these rack [] keys d (omega (arith, few))
