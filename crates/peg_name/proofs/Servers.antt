-- Sets of servers: what a bit says of the list, and how a server is put into it.
use Rattle.std.proofs.Common.{◌≡◌, ◌≢◌, ℕ, zero, suc, ◌+◌, ◌-◌, ◌*◌, ◌/◌, ◌%◌, ◌^◌, ◌<◌, ◌≤◌, ◌==◌}
use Rattle.std.proofs.Common.{Bool, true, false, Some, None, List, [], ◌∷◌, length}
use Rattle.std.proofs.Common.{if◌then◌else◌, refl, arith, ap, sym, ◌∙◌, add-zero, zero-add}
use Rattle.std.proofs.Common.{sub-one, get_or}
use Rattle.std.specs.Prelude.{nat_eq, slice_get, count_ones}
use Rattle.std.specs.List.{list_any}
use Rattle.std.specs.Int.Count.{ones_step}
use Rattle.std.proofs.lemmas.Bool.{eq-eqb, ne_eqb, lt-ltb, le-ltb}
use Rattle.std.proofs.lemmas.Option.{slice_get-get_or}
use Rattle.std.proofs.lemmas.Nat.{ones_le_self, shr-shr}
use Rattle.std.proofs.Math.Nat.{pow-suc, zero-div, mod-eq_of_lt}
use Rattle.std.proofs.Math.Pow.{pow-lt}
use Rattle.peg_name.specs.Holders.{servers_from, servers_of, with_holder}

-- ---- how many there are

if_length :
    (t : Bool) (first : ℕ) (rest : List ℕ)
    → length (if t then first ∷ rest else rest) ≡ (if t then 1 else 0) + length rest
if_length true first rest = omega arith
if_length false first rest = omega arith

low_bit : (r : ℕ) → r < 2 → (if r == 1 then 1 else 0) ≡ r
low_bit zero below = refl
low_bit (suc zero) below = refl
low_bit (suc (suc r)) below = absurd (omega arith)

pub length-servers_from :
    (n first bits : ℕ) → bits < 2 ^ n → length (servers_from n first bits) ≡ count_ones bits
unfolding servers_from
length-servers_from zero first bits h =
    let none : bits ≡ 0 = omega arith in
    let no_ones : count_ones 0 ≡ 0 = omega (arith, ones_le_self 0) in
    rw (none, no_ones) refl
length-servers_from (suc n) first bits h =
    let below : bits < 2 ^ n * 2 = rw pow-suc at h in
    if_length (bits % 2 == 1) first (servers_from n (first + 1) (bits / 2))
    ∙ ap (λ x. x + length (servers_from n (first + 1) (bits / 2)))
    (low_bit (bits % 2) (omega arith))
    ∙ ap (λ x. bits % 2 + x) (length-servers_from n (first + 1) (bits / 2) (omega arith))
    ∙ sym (ones_step bits)

pub length-servers_of : (bits : ℕ) → bits < 2 ^ 64 → length (servers_of bits) ≡ count_ones bits
unfolding servers_of
length-servers_of bits h = length-servers_from 64 0 bits h

-- ---- which there are

div_one : (n : ℕ) → n / 2 ^ 0 ≡ n
div_one n = omega arith

halved : (n k : ℕ) → n / 2 / 2 ^ k ≡ n / 2 ^ suc k
halved n k = shr-shr n 1 k ∙ ap (λ x. n / 2 ^ x) (omega arith)

-- no server stands before the first
absent_tail :
    (t : Bool) (first s : ℕ) (rest : List ℕ)
    → s < first → list_any (nat_eq s) rest ≡ false
    → list_any (nat_eq s) (if t then first ∷ rest else rest) ≡ false
absent_tail true first s rest below missing = rw (ne_eqb s first (λ e. omega arith), missing) refl
absent_tail false first s rest below missing = missing

pub none_before :
    (n first bits s : ℕ) → s < first → list_any (nat_eq s) (servers_from n first bits) ≡ false
unfolding servers_from
none_before zero first bits s h = refl
none_before (suc n) first bits s h =
    absent_tail (bits % 2 == 1) first s (servers_from n (first + 1) (bits / 2)) h
    (none_before n (first + 1) (bits / 2) s (omega arith))

is_first :
    (t : Bool) (first : ℕ) (rest : List ℕ)
    → list_any (nat_eq first) rest ≡ false
    → list_any (nat_eq first) (if t then first ∷ rest else rest) ≡ t
is_first true first rest missing = rw (eq-eqb first first refl) refl
is_first false first rest missing = missing

is_later :
    (t : Bool) (first s : ℕ) (rest : List ℕ)
    → first < s
    → list_any (nat_eq s) (if t then first ∷ rest else rest) ≡ list_any (nat_eq s) rest
is_later true first s rest above = rw (ne_eqb s first (λ e. omega arith)) refl
is_later false first s rest above = refl

-- a server is in the set where its bit is set
pub is_in_from :
    (n first bits k : ℕ)
    → k < n
    → list_any (nat_eq (first + k)) (servers_from n first bits) ≡ (bits / 2 ^ k % 2 == 1)
unfolding servers_from
is_in_from zero first bits k below = absurd (omega arith)
is_in_from (suc n) first bits zero below =
    rw (add-zero) (
    is_first (bits % 2 == 1) first (servers_from n (first + 1) (bits / 2))
    (none_before n (first + 1) (bits / 2) first (omega arith))
    ∙ ap (λ x. x % 2 == 1) (sym (div_one bits)))
is_in_from (suc n) first bits (suc k) below =
    is_later (bits % 2 == 1) first (first + suc k) (servers_from n (first + 1) (bits / 2))
    (omega arith)
    ∙ ap (λ x. list_any (nat_eq x) (servers_from n (first + 1) (bits / 2))) (omega arith)
    ∙ is_in_from n (first + 1) (bits / 2) k (omega arith)
    ∙ ap (λ x. x % 2 == 1) (halved bits k)

pub is_in :
    (bits k : ℕ)
    → k < 64
    → list_any (nat_eq k) (servers_of bits) ≡ (bits / 2 ^ k % 2 == 1)
unfolding servers_of
is_in bits k below =
    ap (λ x. list_any (nat_eq x) (servers_from 64 0 bits)) (sym (zero-add k))
    ∙ is_in_from 64 0 bits k below

-- no server of the set has a number of 64 or more
none_from :
    (n first bits s : ℕ)
    → first + n ≤ s
    → list_any (nat_eq s) (servers_from n first bits) ≡ false
unfolding servers_from
none_from zero first bits s high = refl
none_from (suc n) first bits s high =
    is_later (bits % 2 == 1) first s (servers_from n (first + 1) (bits / 2)) (omega arith)
    ∙ none_from n (first + 1) (bits / 2) s (omega arith)

pub none_above : (bits s : ℕ) → 64 ≤ s → list_any (nat_eq s) (servers_of bits) ≡ false
unfolding servers_of
none_above bits s high = none_from 64 0 bits s (omega arith)

-- ---- putting one in

goes_first :
    (t : Bool) (first s : ℕ) (rest : List ℕ)
    → s < first → with_holder s rest ≡ s ∷ rest
    → with_holder s (if t then first ∷ rest else rest) ≡ s ∷ (if t then first ∷ rest else rest)
goes_first true first s rest below e = rw (lt-ltb s first below) refl
goes_first false first s rest below e = e

pub put_first :
    (n first bits s : ℕ)
    → s < first → with_holder s (servers_from n first bits) ≡ s ∷ servers_from n first bits
unfolding servers_from
put_first zero first bits s below = refl
put_first (suc n) first bits s below =
    goes_first (bits % 2 == 1) first s (servers_from n (first + 1) (bits / 2)) below
    (put_first n (first + 1) (bits / 2) s (omega arith))

goes_later :
    (t : Bool) (first s : ℕ) (rest : List ℕ)
    → first < s
    → with_holder s (if t then first ∷ rest else rest)
    ≡ (if t then first ∷ with_holder s rest else with_holder s rest)
goes_later true first s rest above =
    rw (le-ltb s first (omega arith), ne_eqb s first (λ e. omega arith)) refl
goes_later false first s rest above = refl

goes_on :
    (t : Bool) (first k : ℕ) (rest also : List ℕ)
    → with_holder (first + 1 + k) rest ≡ also
    → with_holder (first + suc k) (if t then first ∷ rest else rest)
    ≡ (if t then first ∷ also else also)
goes_on t first k rest also e =
    goes_later t first (first + suc k) rest (omega arith)
    ∙ ap (λ x. if t then first ∷ x else x)
    (ap (λ x. with_holder x rest) (omega arith) ∙ e)

low_clear : (r : ℕ) → r < 2 → (r == 1) ≡ false → r ≡ 0
low_clear zero below clear = refl
low_clear (suc zero) below clear = cc
low_clear (suc (suc r)) below clear = absurd (omega arith)

-- a server whose bit is clear is put in by setting the bit
pub put_from :
    (n first bits k : ℕ)
    → k < n → (bits / 2 ^ k % 2 == 1) ≡ false
    → with_holder (first + k) (servers_from n first bits) ≡ servers_from n first (bits + 2 ^ k)
unfolding servers_from
put_from zero first bits k below clear = absurd (omega arith)
put_from (suc n) first bits zero below clear =
    let even : bits % 2 ≡ 0 =
    low_clear (bits % 2) (omega arith) (ap (λ x. x % 2 == 1) (sym (div_one bits)) ∙ clear) in
    let odd : (bits + 1) % 2 ≡ 1 = omega arith in
    let half : (bits + 1) / 2 ≡ bits / 2 = omega arith in
    rw (add-zero, even, odd, half) (put_first n (first + 1) (bits / 2) first (omega arith))
put_from (suc n) first bits (suc k) below clear =
    let same_low : (bits + 2 ^ suc k) % 2 ≡ bits % 2 = rw pow-suc (omega arith) in
    let half : (bits + 2 ^ suc k) / 2 ≡ bits / 2 + 2 ^ k = rw pow-suc (omega arith) in
    let rest : List ℕ = servers_from n (first + 1) (bits / 2) in
    let also : List ℕ = servers_from n (first + 1) (bits / 2 + 2 ^ k) in
    let put : with_holder (first + 1 + k) rest ≡ also =
    put_from n (first + 1) (bits / 2) k (omega arith)
    (ap (λ x. x % 2 == 1) (halved bits k) ∙ clear) in
    rw (same_low, half) (goes_on (bits % 2 == 1) first k rest also put)

pub put_in :
    (bits k : ℕ)
    → k < 64 → (bits / 2 ^ k % 2 == 1) ≡ false
    → with_holder k (servers_of bits) ≡ servers_of (bits + 2 ^ k)
unfolding servers_of
put_in bits k below clear =
    ap (λ x. with_holder x (servers_from 64 0 bits)) (sym (zero-add k))
    ∙ put_from 64 0 bits k below clear

-- a server that is in the set stays there once
kept_first :
    (t : Bool) (first : ℕ) (rest : List ℕ)
    → t ≡ true
    → with_holder first (if t then first ∷ rest else rest) ≡ (if t then first ∷ rest else rest)
kept_first true first rest is = rw (le-ltb first first (omega arith), eq-eqb first first refl) refl
kept_first false first rest is = cc

pub kept_from :
    (n first bits k : ℕ)
    → k < n → (bits / 2 ^ k % 2 == 1) ≡ true
    → with_holder (first + k) (servers_from n first bits) ≡ servers_from n first bits
unfolding servers_from
kept_from zero first bits k below set = absurd (omega arith)
kept_from (suc n) first bits zero below set =
    rw add-zero (
    kept_first (bits % 2 == 1) first (servers_from n (first + 1) (bits / 2))
    (ap (λ x. x % 2 == 1) (sym (div_one bits)) ∙ set))
kept_from (suc n) first bits (suc k) below set =
    let rest : List ℕ = servers_from n (first + 1) (bits / 2) in
    goes_on (bits % 2 == 1) first k rest rest
    (kept_from n (first + 1) (bits / 2) k (omega arith)
    (ap (λ x. x % 2 == 1) (halved bits k) ∙ set))

pub kept_in :
    (bits k : ℕ)
    → k < 64 → (bits / 2 ^ k % 2 == 1) ≡ true
    → with_holder k (servers_of bits) ≡ servers_of bits
unfolding servers_of
kept_in bits k below set =
    ap (λ x. with_holder x (servers_from 64 0 bits)) (sym (zero-add k))
    ∙ kept_from 64 0 bits k below set

-- ---- one alone

none_in : (n first : ℕ) → servers_from n first 0 ≡ []
unfolding servers_from
none_in zero first = refl
none_in (suc n) first = none_in n (first + 1)

no_bit : (k : ℕ) → (0 / 2 ^ k % 2 == 1) ≡ false
no_bit k = rw (zero-div (2 ^ k)) refl

pub one_in : (k : ℕ) → k < 64 → servers_of (2 ^ k) ≡ k ∷ []
unfolding servers_of
one_in k below =
    sym (
    ap (with_holder k) (sym (none_in 64 0))
    ∙ put_in 0 k below (no_bit k)
    ∙ ap servers_of (zero-add (2 ^ k)))

-- ---- the number stays within its bits

pub fits_in :
    (n bits k : ℕ)
    → k < n → bits < 2 ^ n → (bits / 2 ^ k % 2 == 1) ≡ false
    → bits + 2 ^ k < 2 ^ n
fits_in zero bits k below small clear = absurd (omega arith)
fits_in (suc n) bits zero below small clear =
    let even : bits % 2 ≡ 0 =
    low_clear (bits % 2) (omega arith) (ap (λ x. x % 2 == 1) (sym (div_one bits)) ∙ clear) in
    let small' : bits < 2 ^ n * 2 = rw pow-suc at small in
    rw (pow-suc) (omega arith)
fits_in (suc n) bits (suc k) below small clear =
    let small' : bits < 2 ^ n * 2 = rw pow-suc at small in
    let half : bits / 2 + 2 ^ k < 2 ^ n =
    fits_in n (bits / 2) k (omega arith) (omega arith)
    (ap (λ x. x % 2 == 1) (halved bits k) ∙ clear) in
    rw (pow-suc, pow-suc) (omega arith)

-- ---- the server at a place

-- a walk along the bits from a server on: the first of them is at the place 0, and after it the
-- walk looks for the place before
at_zero :
    (n first bits : ℕ)
    → 0 < n → bits % 2 ≡ 1
    → slice_get (servers_from n first bits) 0 ≡ Some first
unfolding servers_from
at_zero zero first bits some odd = absurd (omega arith)
at_zero (suc n) first bits some odd = rw odd refl

at_next :
    (n first bits before : ℕ)
    → 0 < n → bits % 2 ≡ 1
    → slice_get (servers_from n first bits) (suc before)
    ≡ slice_get (servers_from (n - 1) (first + 1) (bits / 2)) before
unfolding servers_from
at_next zero first bits before some odd = absurd (omega arith)
at_next (suc n) first bits before some odd = rw (odd, sub-one) refl

at_same :
    (n first bits before : ℕ)
    → 0 < n → bits % 2 ≢ 1
    → slice_get (servers_from n first bits) before
    ≡ slice_get (servers_from (n - 1) (first + 1) (bits / 2)) before
unfolding servers_from
at_same zero first bits before some even = absurd (omega arith)
at_same (suc n) first bits before some even =
    rw (ne_eqb (bits % 2) 1 even, sub-one) refl

-- at this server and these bits the walk looks for this place
abbrev pub Walks : List ℕ → ℕ → ℕ → ℕ → ℕ → Type 0
Walks servers place server bits before =
    slice_get servers place ≡ slice_get (servers_from (64 - server) server bits) before

pub walk_starts : (bits place : ℕ) → Walks (servers_of bits) place 0 bits place
unfolding servers_of
walk_starts bits place = refl

pub walk_finds :
    (servers : List ℕ) (place server bits before : ℕ)
    → Walks servers place server bits before
    → server < 64 → bits % 2 ≡ 1 → before ≡ 0
    → slice_get servers place ≡ Some server
walk_finds servers place server bits before walks below odd zero_left =
    walks ∙ ap (slice_get (servers_from (64 - server) server bits)) zero_left
    ∙ at_zero (64 - server) server bits (omega arith) odd

one_fewer : (n server : ℕ) → n ≡ 64 - server - 1 → n ≡ 64 - (server + 1)
one_fewer n server e = omega arith

pub walk_passes :
    (servers : List ℕ) (place server bits before : ℕ)
    → Walks servers place server bits before
    → server < 64 → bits % 2 ≡ 1 → before ≢ 0
    → Walks servers place (server + 1) (bits / 2) (before - 1)
walk_passes servers place server bits zero walks below odd some = absurd (some refl)
walk_passes servers place server bits (suc before) walks below odd some =
    walks ∙ at_next (64 - server) server bits before (omega arith) odd
    ∙ ap (λ n. slice_get (servers_from n (server + 1) (bits / 2)) before)
    (one_fewer (64 - server - 1) server refl)
    ∙ ap (slice_get (servers_from (64 - (server + 1)) (server + 1) (bits / 2))) (omega arith)

pub walk_skips :
    (servers : List ℕ) (place server bits before : ℕ)
    → Walks servers place server bits before
    → server < 64 → bits % 2 ≢ 1
    → Walks servers place (server + 1) (bits / 2) before
walk_skips servers place server bits before walks below even =
    walks ∙ at_same (64 - server) server bits before (omega arith) even
    ∙ ap (λ n. slice_get (servers_from n (server + 1) (bits / 2)) before)
    (one_fewer (64 - server - 1) server refl)

-- and it can't come to the end
none_left : (n first bits before : ℕ) → n ≡ 0 → slice_get (servers_from n first bits) before ≡ None
unfolding servers_from
none_left zero first bits before e = refl
none_left (suc n) first bits before e = cc

pub walk_ends :
    (servers : List ℕ) (place server bits before : ℕ)
    → Walks servers place server bits before
    → place < length servers → server ≡ 64
    → ⊥
walk_ends servers place server bits before walks below over =
    let none : slice_get servers place ≡ None =
    walks ∙ none_left (64 - server) server bits before (omega arith) in
    let some : slice_get servers place ≡ Some (get_or servers place 0) =
    slice_get-get_or servers place 0 below in
    let no : Some (get_or servers place 0) ≡ None = sym some ∙ none in
    cc

-- ---- one bit

one_times : (n : ℕ) → 1 * n ≡ n
one_times n = omega arith

pub bit_fits : (k : ℕ) → k < 64 → 1 * 2 ^ k % 2 ^ 64 ≡ 2 ^ k
bit_fits k below =
    ap (λ x. x % 2 ^ 64) (one_times (2 ^ k)) ∙ mod-eq_of_lt (pow-lt below)

-- ---- the same, where the set was asked for the server

pub with_kept :
    (bits k : ℕ)
    → k < 64 → list_any (nat_eq k) (servers_of bits) ≡ true
    → with_holder k (servers_of bits) ≡ servers_of bits
with_kept bits k below is = kept_in bits k below (sym (is_in bits k below) ∙ is)

pub with_put :
    (bits k : ℕ)
    → k < 64 → list_any (nat_eq k) (servers_of bits) ≡ false
    → with_holder k (servers_of bits) ≡ servers_of (bits + 2 ^ k)
with_put bits k below isnt = put_in bits k below (sym (is_in bits k below) ∙ isnt)

pub with_fits :
    (bits k : ℕ)
    → k < 64 → bits < 2 ^ 64 → list_any (nat_eq k) (servers_of bits) ≡ false
    → bits + 2 ^ k < 2 ^ 64
with_fits bits k below small isnt =
    fits_in 64 bits k below small (sym (is_in bits k below) ∙ isnt)
