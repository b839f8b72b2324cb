-- The first line of an input, and what is past it.
use Rattle.std.proofs.Common.{◌≡◌, ◌≢◌, ◌<◌, ◌≤◌, ◌==◌, ◌+◌, ◌-◌, zero, suc, ℕ, Bool, true, false}
use Rattle.std.proofs.Common.{cond, Some, None, List, [], ◌∷◌, ◌++◌, length, take, drop}
use Rattle.std.proofs.Common.{if◌then◌else◌, refl, sym, ap, ◌∙◌, subst, arith, length-drop}
use Rattle.std.proofs.Common.{length-take, position, unwrap_or, not, ltb, slice_range}
use Rattle.std.proofs.lemmas.Bool.Decides.{nat_tests}
use Rattle.std.proofs.lemmas.List.{drop-take, drop-drop, take-take}
use Rattle.std.specs.List.{prefix_len}
use Rattle.std.proofs.lemmas.List.{append-nil}
use Rattle.peg_io.specs.Lines.{line_of, past_line, past_lines, has_feed, HasNoFeed, AreFed}

is_other : (b : ℕ) → b ≢ 10 → (b == 10) ≡ false
is_other b other = grind (arith, nat_tests)

-- ---- bytes of one line before the rest of the input

pub line_of-append :
    (front rest : List ℕ) → HasNoFeed front → line_of (front ++ rest) ≡ front ++ line_of rest
line_of-append [] rest part = refl
line_of-append (b ∷ front) rest (other, part) =
    let e = is_other b other in rw e (ap (λ xs. b ∷ xs) (line_of-append front rest part))

pub past_line-append :
    (front rest : List ℕ) → HasNoFeed front → past_line (front ++ rest) ≡ past_line rest
past_line-append [] rest part = refl
past_line-append (b ∷ front) rest (other, part) =
    let e = is_other b other in rw e (past_line-append front rest part)

pub HasNoFeed-append :
    (front rest : List ℕ) → HasNoFeed front → HasNoFeed rest → HasNoFeed (front ++ rest)
HasNoFeed-append [] rest part more = more
HasNoFeed-append (b ∷ front) rest (other, part) more =
    (other, HasNoFeed-append front rest part more)

pub HasNoFeed-take : (n : ℕ) (xs : List ℕ) → HasNoFeed xs → HasNoFeed (take n xs)
HasNoFeed-take zero xs part = tt
HasNoFeed-take (suc n) [] part = tt
HasNoFeed-take (suc n) (b ∷ xs) (other, part) = (other, HasNoFeed-take n xs part)

-- a line and its line feed before the rest of the input
pub line_of-fed : (line rest : List ℕ) → HasNoFeed line → line_of (line ++ 10 ∷ rest) ≡ line
line_of-fed line rest part = line_of-append line (10 ∷ rest) part ∙ append-nil line

pub past_line-fed : (line rest : List ℕ) → HasNoFeed line → past_line (line ++ 10 ∷ rest) ≡ rest
past_line-fed line rest part = past_line-append line (10 ∷ rest) part

-- a last line without a line feed
pub line_of-last : (line : List ℕ) → HasNoFeed line → line_of line ≡ line
line_of-last [] part = refl
line_of-last (b ∷ line) (other, part) =
    let e = is_other b other in rw e (ap (λ xs. b ∷ xs) (line_of-last line part))

pub past_line-last : (line : List ℕ) → HasNoFeed line → past_line line ≡ []
past_line-last [] part = refl
past_line-last (b ∷ line) (other, part) =
    let e = is_other b other in rw e (past_line-last line part)

-- ---- one byte and then the rest

feed_cases :
    (t : Bool) (b : ℕ) (xs : List ℕ) (P : List ℕ → List ℕ → Type 0) → P [] xs
    → P (b ∷ line_of xs) (past_line xs)
    → P (if t then [] else b ∷ line_of xs) (if t then xs else past_line xs)
feed_cases true b xs P now later = now
feed_cases false b xs P now later = later

pub length-line_of : (xs : List ℕ) → length (line_of xs) ≤ length xs
length-line_of [] = omega arith
length-line_of (b ∷ xs) =
    feed_cases (b == 10) b xs (λ line past. length line ≤ suc (length xs)) (omega arith)
    (omega (arith, length-line_of xs))

no_feed_cases :
    (b : ℕ) (xs : List ℕ) → HasNoFeed (line_of xs) → (t : Bool) → (b == 10) ≡ t
    → HasNoFeed (if t then [] else b ∷ line_of xs)
no_feed_cases b xs part true e = tt
no_feed_cases b xs part false e = ((λ same. grind (arith, nat_tests)), part)

pub HasNoFeed-line_of : (xs : List ℕ) → HasNoFeed (line_of xs)
HasNoFeed-line_of [] = tt
HasNoFeed-line_of (b ∷ xs) = no_feed_cases b xs (HasNoFeed-line_of xs) (b == 10) refl

-- the line is the front of the input
pub take-line_of : (xs : List ℕ) → take (length (line_of xs)) xs ≡ line_of xs
take-line_of [] = refl
take-line_of (b ∷ xs) =
    feed_cases (b == 10) b xs (λ line past. take (length line) (b ∷ xs) ≡ line) refl
    (ap (λ ys. b ∷ ys) (take-line_of xs))

-- so many bytes fewer stand before the line feed
pub line_of-drop :
    (xs : List ℕ) (n : ℕ) → n ≤ length (line_of xs)
    → length (line_of xs) - n ≡ length (line_of (drop n xs))
line_of-drop xs zero within = omega arith
line_of-drop [] (suc n) within = absurd (omega (arith, within))
line_of-drop (b ∷ xs) (suc n) within =
    feed_cases (b == 10) b xs
    (λ line past. suc n ≤ length line → length line - suc n ≡ length (line_of (drop n xs)))
    (λ none. absurd (omega (arith, none)))
    (λ some. omega (arith, line_of-drop xs n (omega (arith, some)), some)) within

pub drop-line_of : (xs : List ℕ) → drop (suc (length (line_of xs))) xs ≡ past_line xs
drop-line_of [] = refl
drop-line_of (b ∷ xs) =
    feed_cases (b == 10) b xs (λ line past. drop (suc (length line)) (b ∷ xs) ≡ past) refl
    (drop-line_of xs)

-- an input with no line feed is one line
pub whole_line : (xs : List ℕ) → length xs ≤ length (line_of xs) → line_of xs ≡ xs
whole_line xs whole =
    let same : length (line_of xs) ≡ length xs = omega (arith, length-line_of xs) in
    sym (take-line_of xs) ∙ ap (λ n. take n xs) same ∙ take_whole xs
  where
    take_whole : (ys : List ℕ) → take (length ys) ys ≡ ys
    take_whole [] = refl
    take_whole (y ∷ ys) = ap (λ zs. y ∷ zs) (take_whole ys)

pub HasNoFeed-whole : (xs : List ℕ) → length xs ≤ length (line_of xs) → HasNoFeed xs
HasNoFeed-whole xs whole = let e = whole_line xs whole in subst HasNoFeed e (HasNoFeed-line_of xs)

-- ---- whether it ended with a line feed

pub both_ways : (b : Bool) → b ≡ true → b ≡ false → ⊥
both_ways b is is_not = cc

pub fed_is : (xs : List ℕ) → length (line_of xs) < length xs → has_feed xs ≡ true
fed_is xs feed = grind (arith, nat_tests)

pub unfed_is : (xs : List ℕ) → HasNoFeed xs → has_feed xs ≡ false
unfed_is xs part =
    let same : length (line_of xs) ≡ length xs = ap length (line_of-last xs part) in
    grind (arith, nat_tests)

pub unfed_past : (xs : List ℕ) → has_feed xs ≡ false → past_line xs ≡ []
unfed_past xs unfed =
    let all : length xs ≤ length (line_of xs) = grind (arith, nat_tests) in
    past_line-last xs (HasNoFeed-whole xs all)

pub fed_more :
    (n : ℕ) (input : List ℕ) → AreFed n input → has_feed (past_lines n input) ≡ true
    → AreFed (n + 1) input
fed_more n input fed one i few = by_cases (i == n) refl
  where
    by_cases : (t : Bool) → (i == n) ≡ t → has_feed (past_lines i input) ≡ true
    by_cases true e =
        let same : i ≡ n = grind (arith, nat_tests) in
        ap (λ k. has_feed (past_lines k input)) same ∙ one
    by_cases false e = fed i (grind (arith, nat_tests))

-- ---- more of the input after a line feed changes nothing before it

more_cases : (t : Bool) (b : ℕ) (xs more : List ℕ)
    → (t ≡ false → line_of (xs ++ more) ≡ line_of xs)
    → (if t then [] else b ∷ line_of (xs ++ more)) ≡ (if t then [] else b ∷ line_of xs)
more_cases true b xs more same = refl
more_cases false b xs more same = ap (λ ys. b ∷ ys) (same refl)

past_cases : (t : Bool) (xs more : List ℕ)
    → (t ≡ false → past_line (xs ++ more) ≡ past_line xs ++ more)
    → (if t then xs ++ more else past_line (xs ++ more)) ≡ (if t then xs else past_line xs) ++ more
past_cases true xs more same = refl
past_cases false xs more same = same refl

shorter :
    (b : ℕ) (xs : List ℕ) → length (line_of (b ∷ xs)) < suc (length xs) → (b == 10) ≡ false
    → length (line_of xs) < length xs
shorter b xs feed e = let h = rw e at feed in omega arith

pub line_of-more :
    (xs more : List ℕ) → length (line_of xs) < length xs → line_of (xs ++ more) ≡ line_of xs
line_of-more [] more feed = absurd (omega arith)
line_of-more (b ∷ xs) more feed =
    more_cases (b == 10) b xs more (λ e. line_of-more xs more (shorter b xs feed e))

pub past_line-more :
    (xs more : List ℕ) → length (line_of xs) < length xs
    → past_line (xs ++ more) ≡ past_line xs ++ more
past_line-more [] more feed = absurd (omega arith)
past_line-more (b ∷ xs) more feed =
    past_cases (b == 10) xs more (λ e. past_line-more xs more (shorter b xs feed e))

-- ---- what is read ahead, by its places in the buffer

feeds_before :
    (t : Bool) (b : ℕ) (n : ℕ) (xs : List ℕ) → n ≡ length xs
    → cond (not t) (1 + n) 0 ≡ length (if t then [] else b ∷ xs)
feeds_before true b n xs e = refl
feeds_before false b n xs e = omega arith

prefix-line_of : (xs : List ℕ) → prefix_len (λ b. not (b == 10)) xs ≡ length (line_of xs)
prefix-line_of [] = refl
prefix-line_of (b ∷ xs) =
    feeds_before (b == 10) b (prefix_len (λ c. not (c == 10)) xs) (line_of xs) (prefix-line_of xs)

place_or : (n len : ℕ) → n ≤ len → unwrap_or (if ltb n len then Some n else None) len ≡ n
place_or n len within = grind (arith, nat_tests)

pub place_of_feed :
    (xs : List ℕ) → unwrap_or (position (λ b. b == 10) xs) (length xs) ≡ length (line_of xs)
place_of_feed xs =
    let e = prefix-line_of xs in
    rw e (place_or (length (line_of xs)) (length xs) (length-line_of xs))

pub length-slice_range :
    (xs : List ℕ) (from to : ℕ) → from ≤ to → to ≤ length xs
    → length (slice_range xs from to) ≡ to - from
length-slice_range xs from to ordered within =
    omega (arith, length-take (to - from) (drop from xs), length-drop from xs)

pub slice_range-later :
    (xs : List ℕ) (from to n : ℕ) → from + n ≤ to
    → slice_range xs (from + n) to ≡ drop n (slice_range xs from to)
slice_range-later xs from to n within =
    let e : to - from ≡ n + (to - (from + n)) = omega arith in
    sym
    (rw e (drop-take n (to - (from + n)) (drop from xs) ∙ ap (λ ys. take (to - (from + n)) ys)
    (drop-drop n from xs)))

pub take-slice_range :
    (xs : List ℕ) (from to n : ℕ) → from + n ≤ to
    → take n (slice_range xs from to) ≡ take n (drop from xs)
take-slice_range xs from to n within = take-take n (to - from) (drop from xs) (omega arith)
