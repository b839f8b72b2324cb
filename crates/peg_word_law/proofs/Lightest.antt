-- A request with a choice goes to the lightest server that it may go to.
use Rattle.std.proofs.Common.{Option, Some, None, ◌≡◌, ◌<◌, ◌≤◌, ◌+◌, ◌*◌, ◌%◌, ◌⊎◌, ℕ, zero, suc}
use Rattle.std.proofs.Common.{Bool, true, false, List, [], ◌∷◌, ◌++◌, length, refl, sym, ap, subst}
use Rattle.std.proofs.Common.{◌∙◌, inl, inr, if◌then◌else◌, arith, not, ◌&&◌}
use Rattle.std.specs.Prelude.{nat_lt, slice_index, is_some}
use Rattle.std.specs.List.{AllByRecursion}
use Rattle.std.proofs.lemmas.Bool.Decides.{eqb_tells}
use Rattle.std.proofs.Math.Nat.{mod-eq_of_lt}
use Rattle.peg_name.specs.Name.{Rack, home_of}
use Rattle.peg_event.specs.declared.answers.Listing.{Listing}
use Rattle.peg_model.specs.Rules.{server_of_read, server_of_write}
use Rattle.peg_model.specs.Words.{below}
use Rattle.peg_meaning.proofs.Keeping.{lt_tells}
use Rattle.peg_meaning.specs.Balance.{Loads, load_of, weight_of, is_lighter, chosen_over, chosen}
use Rattle.peg_meaning.specs.Balance.{place_of, Holders, Any, Home, read_allowed, write_allowed}
use Rattle.peg_meaning.specs.Balance.{pick_by}
use Rattle.peg_word_law.specs.Lightest.{IsLightest, HaveWeights}
use Rattle.peg_word_law.proofs.Fairness.{times_le, cancel_le, In, in_of, contains_of, every_of}

-- ---- the lightest of a list

-- s is at most as heavy as t
abbrev AtMost : Loads → ℕ → ℕ → Type 0
AtMost l s t = load_of l s * weight_of l t ≤ load_of l t * weight_of l s

at_most_trans :
    (l : Loads) (r s t : ℕ) → 1 ≤ weight_of l s → AtMost l r s → AtMost l s t → AtMost l r t
at_most_trans l r s t pos rs st =
    let a = load_of l r in
    let b = weight_of l r in
    let c = load_of l s in
    let d = weight_of l s in
    let e = load_of l t in
    let f = weight_of l t in
    let first : a * d * f ≤ c * b * f = times_le (a * d) (c * b) f rs in
    let second : c * f * b ≤ e * d * b = times_le (c * f) (e * d) b st in
    cancel_le (e * b) (a * f) d pos (omega (arith, first, second))

lighter_at_most : (l : Loads) (s t : ℕ) → is_lighter l s t ≡ true → AtMost l s t
lighter_at_most l s t is =
    elim (lt_tells (load_of l s * weight_of l t) (load_of l t * weight_of l s)) [
      | inl h ↦ let less = h.1 in omega (arith, less)
      | inr h ↦ let differs : true ≡ false = sym is ∙ h.0 in absurd (cc)
    ]

not_lighter_at_most : (l : Loads) (s t : ℕ) → is_lighter l s t ≡ false → AtMost l t s
not_lighter_at_most l s t is =
    elim (lt_tells (load_of l s * weight_of l t) (load_of l t * weight_of l s)) [
      | inl h ↦ let differs : true ≡ false = sym h.0 ∙ is in absurd (cc)
      | inr h ↦ h.1
    ]

at_most_not_lighter : (l : Loads) (s t : ℕ) → AtMost l t s → is_lighter l s t ≡ false
at_most_not_lighter l s t le =
    elim (lt_tells (load_of l s * weight_of l t) (load_of l t * weight_of l s)) [
      | inl h ↦ let less = h.1 in absurd (omega (arith, less, le))
      | inr h ↦ h.0
    ]

record IsLeast (l : Loads) (c : ℕ) (servers : List ℕ) : Type 0 where
  there : In c servers
  least : (t : ℕ) → In t servers → AtMost l c t

lighter_cases : (l : Loads) (s t : ℕ) → (is_lighter l s t ≡ true) ⊎ (is_lighter l s t ≡ false)
lighter_cases l s t = elim (lt_tells (load_of l s * weight_of l t) (load_of l t * weight_of l s)) [
  | inl h ↦ inl h.0
  | inr h ↦ inr h.0
]

least_over :
    (l : Loads) (best : ℕ) (servers : List ℕ)
    → ((s : ℕ) → In s (best ∷ servers) → 1 ≤ weight_of l s)
    → IsLeast l (chosen_over l best servers) (best ∷ servers)
unfolding In
least_over l best [] weights =
    record {
      there = inl refl;
      least = λ t h. elim h [
        | inl is ↦ subst (λ u. AtMost l best u) (sym is) (omega arith)
        | inr never ↦ absurd never
      ];
    }
least_over l best (server ∷ servers) weights =
    elim (lighter_cases l server best) [
      | inl h ↦
          let on = least_over l server servers (λ s k. weights s (inr k)) in
          subst
          (λ (b : Bool). IsLeast l (chosen_over l (if b then server else best) servers)
          (best ∷ server ∷ servers))
          (sym h)
          (record {
            there = inr on.there;
            least = λ t k. elim k [
              | inl is ↦
                  subst (λ u. AtMost l (chosen_over l server servers) u) (sym is)
                  (at_most_trans l (chosen_over l server servers) server best
                  (weights server (inr (inl refl))) (on.least server (inl refl))
                  (lighter_at_most l server best h))
              | inr later ↦ on.least t later
            ];
          })
      | inr h ↦
          let on =
          least_over l best servers
          (λ s k. elim k [
            | inl is ↦ weights s (inl is)
            | inr later ↦ weights s (inr (inr later))
          ]) in
          subst
          (λ (b : Bool). IsLeast l (chosen_over l (if b then server else best) servers)
          (best ∷ server ∷ servers))
          (sym h)
          (record {
            there = elim on.there [
              | inl is ↦ inl is
              | inr later ↦ inr (inr later)
            ];
            least = λ t k. elim k [
              | inl is ↦ on.least t (inl is)
              | inr later ↦ elim later [
                | inl is ↦
                    subst (λ u. AtMost l (chosen_over l best servers) u) (sym is)
                    (at_most_trans l (chosen_over l best servers) best server
                    (weights best (inl refl)) (on.least best (inl refl))
                    (not_lighter_at_most l server best h))
                | inr further ↦ on.least t (inr further)
              ]
            ];
          })
    ]

all_of : (P : ℕ → Type 0) (xs : List ℕ) → ((s : ℕ) → In s xs → P s) → AllByRecursion P xs
unfolding In
all_of P [] every = tt
all_of P (x ∷ xs) every = (every x (inl refl), all_of P xs (λ s h. every s (inr h)))

lightest_of :
    (l : Loads) (servers : List ℕ) → 1 ≤ length servers → HaveWeights l servers
    → IsLightest l (chosen l servers) servers
lightest_of l [] some weights = absurd (omega (arith, some))
lightest_of l (server ∷ servers) some weights =
    let all = every_of (λ s. 1 ≤ weight_of l s) (server ∷ servers) weights in
    let least = least_over l server servers all in
    record {
      there = contains_of (chosen l (server ∷ servers)) (server ∷ servers) least.there;
      none_lighter =
          all_of (λ t. is_lighter l t (chosen l (server ∷ servers)) ≡ false) (server ∷ servers)
          (λ t h.
          at_most_not_lighter l t (chosen l (server ∷ servers)) (least.least t h));
    }

-- ---- the picks

place_within :
    (c : ℕ) (xs : List ℕ) → In c xs
    → (place_of c xs < length xs) × (slice_index xs (place_of c xs) ≡ c)
unfolding In
place_within c [] h = absurd h
place_within c (x ∷ xs) h = elim (eqb_tells x c) [
  | inl is ↦
      subst
      (λ (b : Bool).
      ((if b then 0 else 1 + place_of c xs) < length (x ∷ xs))
      × (slice_index (x ∷ xs) (if b then 0 else 1 + place_of c xs) ≡ c))
      (sym is.0) (omega arith, is.1)
  | inr differs ↦
      let later : In c xs = elim h [
        | inl same ↦ absurd (differs.1 (sym same))
        | inr on ↦ on
      ] in
      let within = place_within c xs later in
      let place : suc (place_of c xs) ≡ 1 + place_of c xs = omega arith in
      subst
      (λ (b : Bool).
      ((if b then 0 else 1 + place_of c xs) < length (x ∷ xs))
      × (slice_index (x ∷ xs) (if b then 0 else 1 + place_of c xs) ≡ c))
      (sym differs.0) (
        (let less = within.0 in omega (arith, less)),
        subst (λ k. slice_index (x ∷ xs) k ≡ c) place within.1,
      )
]

-- ---- the servers of a rack

in_push : (s n : ℕ) (xs : List ℕ) → In s (xs ++ n ∷ []) → In s xs ⊎ (s ≡ n)
unfolding In
in_push s n [] (inl is) = inr is
in_push s n [] (inr never) = absurd never
in_push s n (x ∷ xs) (inl is) = inl (inl is)
in_push s n (x ∷ xs) (inr h) = elim (in_push s n xs h) [
  | inl on ↦ inl (inr on)
  | inr is ↦ inr is
]

in_below : (n s : ℕ) → In s (below n) → s < n
unfolding In
in_below zero s h = absurd h
in_below (suc n) s h = elim (in_push s n (below n) h) [
  | inl on ↦ let less = in_below n s on in omega (arith, less)
  | inr is ↦ omega (arith, is)
]

length_below : (n : ℕ) → 1 ≤ n → 1 ≤ length (below n)
length_below zero some = absurd (omega (arith, some))
length_below (suc n) some = one_more (below n)
  where
    one_more : (xs : List ℕ) → 1 ≤ length (xs ++ n ∷ [])
    one_more [] = omega arith
    one_more (x ∷ xs) = omega arith

small_rest : (n m : ℕ) → n < m → n % m ≡ n
small_rest n m less = mod-eq_of_lt less

-- ---- the server that the rules name

pub home_any : (server : ℕ) → Home server ≡ Any → ⊥
home_any server is = cc

pub home_holders : (server : ℕ) (servers : List ℕ) → Home server ≡ Holders servers → ⊥
home_holders server servers is = cc

pub any_holders : (servers : List ℕ) → Any ≡ Holders servers → ⊥
any_holders servers is = cc

is_any : (b : Bool) (server : ℕ) → (if b then Any else Home server) ≡ Any → b ≡ true
is_any true server is = refl
is_any false server is = absurd (home_any server is)

-- a read of a listed key goes to the lightest holder
pub read_lightest :
    (l : Loads) (rack : Rack) (key : List ℕ) (o : Option Listing) (servers : List ℕ)
    → read_allowed o rack key ≡ Holders servers → 1 ≤ length servers → HaveWeights l servers
    → IsLightest l (server_of_read rack o key (pick_by l rack (Holders servers))) servers
read_lightest l rack key None servers is some weights =
    absurd (home_holders (home_of rack.servers key) servers is)
read_lightest l rack key (Some entry) servers is some weights =
    let holders : entry.holders ≡ servers = cc in
    let c = chosen l servers in
    let light = lightest_of l servers some weights in
    let within = place_within c servers (in_of c servers light.there) in
    let same = small_rest (place_of c servers) (length servers) within.0 in
    subst
    (λ hs. IsLightest l (slice_index hs (place_of c servers % length hs)) servers)
    (sym holders)
    (subst (λ s. IsLightest l s servers) (sym (ap (λ k. slice_index servers k) same ∙ within.1))
    light)

-- and a write that may go anywhere to the lightest server
pub write_lightest :
    (l : Loads) (rack : Rack) (key : List ℕ) (o : Option Listing) (version : ℕ)
    → write_allowed o rack key version ≡ Any → 1 ≤ rack.servers
    → HaveWeights l (below rack.servers)
    → IsLightest l (server_of_write rack o key version (pick_by l rack Any)) (below rack.servers)
write_lightest l rack key None version is some weights =
    absurd (home_any (home_of rack.servers key) is)
write_lightest l rack key (Some entry) version is some weights =
    let c = chosen l (below rack.servers) in
    let light = lightest_of l (below rack.servers) (length_below rack.servers some) weights in
    let less = in_below rack.servers c (in_of c (below rack.servers) light.there) in
    let free =
    is_any
    (not (is_some entry.mark) && nat_lt entry.base version && nat_lt entry.completed version)
    (home_of rack.servers key) is in
    subst (λ s. IsLightest l s (below rack.servers))
    (sym
    (ap (λ (b : Bool). if b then c % rack.servers else home_of rack.servers key) free
    ∙ small_rest c rack.servers less))
    light
