-- A set of servers, in rising order, and the number with its bits: each gives the other back.
use Rattle.std.proofs.Common.{◌≡◌, ℕ, zero, suc, ◌+◌, ◌-◌, ◌*◌, ◌/◌, ◌%◌, ◌^◌, ◌<◌, ◌≤◌}
use Rattle.std.proofs.Common.{true, ◌&&◌, ◌==◌, nat_lt, List, [], ◌∷◌, if◌then◌else◌, refl}
use Rattle.std.proofs.Common.{ap, sym, ◌∙◌, arith, subst, ◌⊎◌, inl, inr}
use Rattle.std.specs.List.{list_all}
use Rattle.std.proofs.lemmas.Bool.{and_parts, cases_eq, cond_both}
use Rattle.std.proofs.lemmas.Bool.Decides.{nat_tests}
use Rattle.std.proofs.lemmas.Nat.{pow_pos}
use Rattle.std.proofs.Math.Nat.{two-pow-succ}
use Rattle.peg_name.specs.Holders.{servers_from, servers_of, bits_of}
use Rattle.peg_grammar.specs.State.{is_rising}

-- they rise, from the first number on and below the last
abbrev pub Rises : ℕ → ℕ → List ℕ → Type 0
Rises first last [] = Unit {0}
Rises first last (s ∷ servers) = (first ≤ s) × ((s < last) × Rises (s + 1) last servers)

-- the number with their bits, of which the lowest is that of the first number
abbrev bits_from : ℕ → List ℕ → ℕ
bits_from first [] = 0
bits_from first (s ∷ servers) = 2 ^ (s - first) + bits_from first servers

rises_before :
    (first next last : ℕ) (servers : List ℕ) → first ≤ next → Rises next last servers
    → Rises first last servers
rises_before first next last [] before rises = tt
rises_before first next last (s ∷ servers) before rises = (omega arith, rises.1)

-- where the first isn't among them the number is even
doubled :
    (first last : ℕ) (servers : List ℕ) → Rises (first + 1) last servers
    → bits_from first servers ≡ 2 * bits_from (first + 1) servers
doubled first last [] rises = refl
doubled first last (s ∷ servers) rises =
    let next : s - first ≡ suc (s - (first + 1)) = omega arith in
    let bit : 2 ^ (s - first) ≡ 2 ^ (s - (first + 1)) + 2 ^ (s - (first + 1)) =
    ap (λ k. 2 ^ k) next ∙ two-pow-succ (s - (first + 1))
    in
    let later =
    doubled first last servers
    (rises_before (first + 1) (s + 1) last servers (omega arith) rises.1.1)
    in
    omega (arith, bit, later)

with_first :
    (n first bits half : ℕ) (servers : List ℕ) → bits ≡ 1 + 2 * half
    → servers_from n (first + 1) half ≡ servers
    → servers_from (suc n) first bits ≡ first ∷ servers
unfolding servers_from
with_first n first bits half servers is later =
    let odd : bits % 2 ≡ 1 = omega arith in
    let halved : bits / 2 ≡ half = omega arith in
    (λ i. if odd i == 1 then first ∷ servers_from n (first + 1) (halved i)
    else servers_from n (first + 1) (halved i))
    ∙ ap (λ others. first ∷ others) later

without_first :
    (n first bits half : ℕ) (servers : List ℕ) → bits ≡ 2 * half
    → servers_from n (first + 1) half ≡ servers → servers_from (suc n) first bits ≡ servers
unfolding servers_from
without_first n first bits half servers is later =
    let even : bits % 2 ≡ 0 = omega arith in
    let halved : bits / 2 ≡ half = omega arith in
    (λ i. if even i == 1 then first ∷ servers_from n (first + 1) (halved i)
    else servers_from n (first + 1) (halved i))
    ∙ later

-- the set is read back from its bits, and these fit
pub record IsBack (n first : ℕ) (servers : List ℕ) : Type 0 where
  pub back : servers_from n first (bits_from first servers) ≡ servers
  pub fits : bits_from first servers < 2 ^ n

module _ (n first last : ℕ)
    (next : (servers : List ℕ) → Rises (first + 1) last servers → IsBack n (first + 1) servers)
  where
    none_back : IsBack (suc n) first []
    none_back =
        let later = next [] tt in
        record { back = without_first n first 0 0 [] refl later.back; fits = pow_pos (suc n) }

    first_back :
        (s : ℕ) (servers : List ℕ) → s ≡ first → Rises (s + 1) last servers
        → IsBack (suc n) first (s ∷ servers)
    first_back s servers is rises =
        let rise : Rises (first + 1) last servers =
        rises_before (first + 1) (s + 1) last servers (omega arith) rises
        in
        let later = next servers rise in
        let none : s - first ≡ 0 = omega arith in
        let one : 2 ^ (s - first) ≡ 1 = ap (λ k. 2 ^ k) none in
        let half : ℕ = bits_from (first + 1) servers in
        let bits : bits_from first (s ∷ servers) ≡ 1 + 2 * half =
        omega (arith, one, doubled first last servers rise)
        in
        record {
          back =
              with_first n first (bits_from first (s ∷ servers)) half servers bits later.back
              ∙ ap (λ k. k ∷ servers) (sym is);
          fits = omega (arith, bits, later.fits, two-pow-succ n);
        }

    later_back :
        (s : ℕ) (servers : List ℕ) → first < s → Rises first last (s ∷ servers)
        → IsBack (suc n) first (s ∷ servers)
    later_back s servers behind rises =
        let rise : Rises (first + 1) last (s ∷ servers) = (omega arith, rises.1) in
        let later = next (s ∷ servers) rise in
        let half : ℕ = bits_from (first + 1) (s ∷ servers) in
        let bits : bits_from first (s ∷ servers) ≡ 2 * half =
        doubled first last (s ∷ servers) rise
        in
        record {
          back =
              without_first n first (bits_from first (s ∷ servers)) half (s ∷ servers) bits
              later.back;
          fits = omega (arith, bits, later.fits, two-pow-succ n);
        }

    some_back :
        (s : ℕ) (servers : List ℕ) → (s ≡ first) ⊎ (s ≡ first → ⊥)
        → Rises first last (s ∷ servers) → IsBack (suc n) first (s ∷ servers)
    some_back s servers (inl is) rises = first_back s servers is rises.1.1
    some_back s servers (inr not) rises = later_back s servers (omega arith) rises

is_back :
    (n first last : ℕ) (servers : List ℕ) → last ≡ first + n → Rises first last servers
    → IsBack n first servers
unfolding servers_from
is_back zero first last [] end rises = record { back = refl; fits = omega arith }
is_back zero first last (s ∷ servers) end rises = absurd (omega arith)
is_back (suc n) first last [] end rises =
    none_back n first last (λ servers. is_back n (first + 1) last servers (omega arith))
is_back (suc n) first last (s ∷ servers) end rises =
    some_back n first last (λ others. is_back n (first + 1) last others (omega arith)) s servers
    (cases_eq s first) rises

-- ---- the whole set

bits_whole : (servers : List ℕ) → bits_of servers ≡ bits_from 0 servers
bits_whole [] = refl
bits_whole (s ∷ servers) =
    let same : s ≡ s - 0 = omega arith in
    let later = bits_whole servers in
    λ i. 2 ^ same i + later i

rises_from :
    (first last s : ℕ) (servers : List ℕ) → first ≤ s → is_rising (s ∷ servers) ≡ true
    → list_all (λ server. nat_lt server last) (s ∷ servers) ≡ true
    → Rises first last (s ∷ servers)
rises_from first last s [] before rising below = grind (arith, nat_tests)
rises_from first last s (t ∷ servers) before rising below =
    let order = and_parts (nat_lt s t) (is_rising (t ∷ servers)) rising in
    let ends =
    and_parts (nat_lt s last) (list_all (λ server. nat_lt server last) (t ∷ servers)) below
    in
    let behind : s + 1 ≤ t = grind (arith, nat_tests, order.0) in
    let inside : s < last = grind (arith, nat_tests, ends.0) in
    (before, (inside, rises_from (s + 1) last t servers behind order.1 ends.1))

pub rises_all :
    (last : ℕ) (servers : List ℕ) → is_rising servers ≡ true
    → list_all (λ server. nat_lt server last) servers ≡ true → Rises 0 last servers
rises_all last [] rising below = tt
rises_all last (s ∷ servers) rising below =
    rises_from 0 last s servers (omega arith) rising below

pub rises_within :
    (first last end : ℕ) (servers : List ℕ) → last ≤ end → Rises first last servers
    → Rises first end servers
rises_within first last end [] within rises = tt
rises_within first last end (s ∷ servers) within rises =
    (rises.0, (omega arith, rises_within (s + 1) last end servers within rises.1.1))

pub bits_fit :
    (n : ℕ) (servers : List ℕ) → Rises 0 n servers → bits_of servers < 2 ^ n
bits_fit n servers rises =
    let back = is_back n 0 n servers (omega arith) rises in
    subst (λ bits. bits < 2 ^ n) (sym (bits_whole servers)) back.fits

pub servers_back :
    (servers : List ℕ) → Rises 0 64 servers → servers_of (bits_of servers) ≡ servers
unfolding servers_of
servers_back servers rises =
    ap (servers_from 64 0) (bits_whole servers)
    ∙ (is_back 64 0 64 servers (omega arith) rises).back

-- ---- the set of a number

rises_of :
    (n first last bits : ℕ) → last ≡ first + n → Rises first last (servers_from n first bits)
unfolding servers_from
rises_of zero first last bits end = tt
rises_of (suc n) first last bits end =
    let servers : List ℕ = servers_from n (first + 1) (bits / 2) in
    let later : Rises (first + 1) last servers =
    rises_of n (first + 1) last (bits / 2) (omega arith)
    in
    cond_both (bits % 2 == 1) (first ∷ servers) servers (λ set. Rises first last set)
    (λ odd. (omega arith, (omega arith, later)))
    (λ even. rises_before first (first + 1) last servers (omega arith) later)

rising_of :
    (first last : ℕ) (servers : List ℕ) → Rises first last servers → is_rising servers ≡ true
rising_of first last [] rises = refl
rising_of first last (s ∷ []) rises = refl
rising_of first last (s ∷ t ∷ servers) rises =
    let order : nat_lt s t ≡ true = grind (arith, nat_tests) in
    let later = rising_of (s + 1) last (t ∷ servers) rises.1.1 in
    λ i. order i && later i

pub servers_rise : (bits : ℕ) → is_rising (servers_of bits) ≡ true
unfolding servers_of
servers_rise bits = rising_of 0 64 (servers_from 64 0 bits) (rises_of 64 0 64 bits (omega arith))
