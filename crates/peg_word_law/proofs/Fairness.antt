-- Rounds of equal servers are fair.
use Rattle.std.proofs.Common.{◌≡◌, ◌≢◌, ◌<◌, ◌≤◌, ◌+◌, ◌*◌, ◌⊎◌, ℕ, zero, suc, Bool, true, false}
use Rattle.std.proofs.Common.{List, [], ◌∷◌, length, Contains, refl, sym, ap, subst, ◌∙◌, inl, inr}
use Rattle.std.proofs.Common.{if◌then◌else◌, arith}
use Rattle.std.specs.Prelude.{sum_by, slice_set, slice_index_or}
use Rattle.std.specs.List.{AllByRecursion}
use Rattle.std.proofs.lemmas.Bool.Decides.{eqb_tells}
use Rattle.std.proofs.lemmas.List.Sums.{sum_by-cons}
use Rattle.std.proofs.lemmas.List.{get_or-set_same, get_or-set_other, length-set}
use Rattle.std.proofs.Math.Seq.{set_out}
use Rattle.peg_model.specs.Words.{last_number}
use Rattle.peg_meaning.proofs.Keeping.{lt_tells}
use Rattle.peg_meaning.specs.Balance.{Loads, load_of, weight_of, is_lighter, chosen_over, chosen}
use Rattle.peg_meaning.specs.Balance.{charged, round}
use Rattle.peg_word_law.specs.Fair.{rounds, AreEqual, IsFair, IsRising, IsBelowLast}

-- ---- numbers

pub times_le : (a b w : ℕ) → a ≤ b → a * w ≤ b * w
times_le a b w h = grind arith

cancel_lt : (a b w : ℕ) → a * w < b * w → a < b
cancel_lt a b w h = elim (lt_tells a b) [
  | inl k ↦ k.1
  | inr k ↦ absurd (omega (arith, h, times_le b a w k.1))
]

times_lt : (a b w : ℕ) → 1 ≤ w → a < b → a * w < b * w
times_lt a b w pos h =
    let more : (a + 1) * w ≤ b * w = times_le (a + 1) b w (omega (arith, h)) in
    omega (arith, more, pos)

pub cancel_le : (a b w : ℕ) → 1 ≤ w → b * w ≤ a * w → b ≤ a
cancel_le a b w pos h = elim (lt_tells a b) [
  | inl k ↦ absurd (omega (arith, h, times_lt a b w pos k.1))
  | inr k ↦ k.1
]

-- ---- servers in a list

unfoldable pub In : ℕ → List ℕ → Type 0
In s [] = ⊥
In s (x ∷ xs) = (s ≡ x) ⊎ In s xs

pub in_of : (s : ℕ) (xs : List ℕ) → Contains xs s → In s xs
unfolding In
in_of s [] h = absurd (omega (arith, h.1))
in_of s (x ∷ xs) (zero, lt, is) = inl (sym is)
in_of s (x ∷ xs) (suc k, lt, is) = inr (in_of s xs (k, omega (arith, lt), is))

pub contains_of : (s : ℕ) (xs : List ℕ) → In s xs → Contains xs s
unfolding In
contains_of s [] h = absurd h
contains_of s (x ∷ xs) (inl is) = (zero, omega arith, sym is)
contains_of s (x ∷ xs) (inr h) =
    let at = contains_of s xs h in (suc at.0, omega (arith, at.1), at.2)

pub every_of : (P : ℕ → Type 0) (xs : List ℕ) → AllByRecursion P xs → (s : ℕ) → In s xs → P s
unfolding In
every_of P [] all s h = absurd h
every_of P (x ∷ xs) all s (inl is) = subst P (sym is) all.0
every_of P (x ∷ xs) all s (inr h) = every_of P xs all.1 s h

-- ---- the lightest

-- with one weight, the load decides
lighter_tells :
    (l : Loads) (s t weight : ℕ) → 1 ≤ weight → weight_of l s ≡ weight → weight_of l t ≡ weight
    → ((is_lighter l s t ≡ true) × (load_of l s < load_of l t))
    ⊎ ((is_lighter l s t ≡ false) × (load_of l t ≤ load_of l s))
lighter_tells l s t weight pos ws wt =
    let left : load_of l s * weight_of l t ≡ load_of l s * weight =
    ap (λ w. load_of l s * w) wt in
    let right : load_of l t * weight_of l s ≡ load_of l t * weight =
    ap (λ w. load_of l t * w) ws in
    elim (lt_tells (load_of l s * weight_of l t) (load_of l t * weight_of l s)) [
      | inl h ↦
          inl (h.0, cancel_lt (load_of l s) (load_of l t) weight (omega (arith, h.1, left, right)))
      | inr h ↦
          inr
          (h.0, cancel_le (load_of l s) (load_of l t) weight pos (omega (arith, h.1, left, right)))
    ]

-- the choice is one of the servers, and none has less
record IsLeast (l : Loads) (c : ℕ) (servers : List ℕ) : Type 0 where
  there : In c servers
  least : (t : ℕ) → In t servers → load_of l c ≤ load_of l t

HaveWeight : Loads → ℕ → List ℕ → Type 0
HaveWeight l weight servers = (s : ℕ) → In s servers → weight_of l s ≡ weight

least_over :
    (l : Loads) (weight best : ℕ) (servers : List ℕ) → 1 ≤ weight
    → HaveWeight l weight (best ∷ servers)
    → IsLeast l (chosen_over l best servers) (best ∷ servers)
unfolding In HaveWeight
least_over l weight best [] pos weights =
    record {
      there = inl refl;
      least = λ t h. elim h [
        | inl is ↦ subst (λ u. load_of l best ≤ load_of l u) (sym is) (omega arith)
        | inr never ↦ absurd never
      ];
    }
least_over l weight best (server ∷ servers) pos weights =
    elim (lighter_tells l server best weight pos (weights server (inr (inl refl)))
    (weights best (inl refl))) [
      | inl h ↦
          let on = least_over l weight server servers pos (λ s k. weights s (inr k)) in
          subst
          (λ (b : Bool). IsLeast l (chosen_over l (if b then server else best) servers)
          (best ∷ server ∷ servers))
          (sym h.0)
          (record {
            there = inr on.there;
            least = λ t k. elim k [
              | inl is ↦
                  subst (λ u. load_of l (chosen_over l server servers) ≤ load_of l u) (sym is)
                  (let first = on.least server (inl refl) in omega (arith, first, h.1))
              | inr later ↦ on.least t later
            ];
          })
      | inr h ↦
          let on =
          least_over l weight best servers pos
          (λ s k. elim k [
            | inl is ↦ weights s (inl is)
            | inr later ↦ weights s (inr (inr later))
          ]) in
          subst
          (λ (b : Bool). IsLeast l (chosen_over l (if b then server else best) servers)
          (best ∷ server ∷ servers))
          (sym h.0)
          (record {
            there = elim on.there [
              | inl is ↦ inl is
              | inr later ↦ inr (inr later)
            ];
            least = λ t k. elim k [
              | inl is ↦ on.least t (inl is)
              | inr later ↦ elim later [
                | inl is ↦
                    subst (λ u. load_of l (chosen_over l best servers) ≤ load_of l u) (sym is)
                    (let first = on.least best (inl refl) in omega (arith, first, h.1))
                | inr further ↦ on.least t (inr further)
              ]
            ];
          })
    ]

least_of :
    (l : Loads) (weight : ℕ) (servers : List ℕ) → 1 ≤ weight → 1 ≤ length servers
    → HaveWeight l weight servers → IsLeast l (chosen l servers) servers
least_of l weight [] pos some weights = absurd (omega (arith, some))
least_of l weight (server ∷ servers) pos some weights =
    least_over l weight server servers pos weights

-- ---- a charge

charged_there :
    (l : Loads) (c : ℕ) → load_of l c < last_number → charged l c
    ≡ record l { loads = slice_set l.loads c (load_of l c + 1) }
charged_there l c below = elim (eqb_tells (load_of l c) last_number) [
  | inl h ↦ absurd (omega (arith, h.1, below))
  | inr h ↦
      ap
      (λ (b : Bool). if b then l
      else record l { loads = slice_set l.loads c (load_of l c + 1) })
      h.0
]

load_of_charged :
    (l : Loads) (c : ℕ) → load_of l c < last_number → c < length l.loads
    → load_of (charged l c) c ≡ load_of l c + 1
load_of_charged l c below inside =
    ap (λ m. load_of m c) (charged_there l c below)
    ∙ get_or-set_same l.loads c (load_of l c + 1) 0 inside

load_of_other :
    (l : Loads) (c s : ℕ) → load_of l c < last_number → s ≢ c
    → load_of (charged l c) s ≡ load_of l s
load_of_other l c s below other =
    ap (λ m. load_of m s) (charged_there l c below)
    ∙ get_or-set_other l.loads c s (load_of l c + 1) 0 other

weight_of_charged : (l : Loads) (c s : ℕ) → load_of l c < last_number
    → weight_of (charged l c) s ≡ weight_of l s
weight_of_charged l c s below = ap (λ m. weight_of m s) (charged_there l c below)

length_of_charged : (l : Loads) (c : ℕ) → load_of l c < last_number
    → length (charged l c).loads ≡ length l.loads
length_of_charged l c below =
    ap (λ m. length m.loads) (charged_there l c below)
    ∙ length-set l.loads c (load_of l c + 1)

-- ---- sums

-- none of them is charged
sum_apart :
    (l : Loads) (c : ℕ) (servers : List ℕ) → load_of l c < last_number → (In c servers → ⊥)
    → sum_by (load_of (charged l c)) servers ≡ sum_by (load_of l) servers
unfolding In
sum_apart l c [] below apart = refl
sum_apart l c (s ∷ servers) below apart =
    let one = load_of_other l c s below (λ is. apart (inl (sym is))) in
    let rest = sum_apart l c servers below (λ h. apart (inr h)) in
    let before = sum_by-cons (load_of l) s servers in
    let after = sum_by-cons (load_of (charged l c)) s servers in
    omega (arith, one, rest, before, after)

above_not_in : (s : ℕ) (servers : List ℕ) → AllByRecursion (λ t. s < t) servers → In s servers → ⊥
above_not_in s servers above h =
    let less = every_of (λ t. s < t) servers above s h in omega (arith, less)

-- one of them is charged
sum_charged :
    (l : Loads) (c : ℕ) (servers : List ℕ) (last : ℕ) → load_of l c < last_number
    → c < length l.loads → IsRising servers last → In c servers
    → sum_by (load_of (charged l c)) servers ≡ sum_by (load_of l) servers + 1
unfolding In
sum_charged l c [] last below inside rising h = absurd h
sum_charged l c (s ∷ servers) last below inside rising (inl is) =
    let one = load_of_charged l c below inside in
    let first : load_of (charged l c) s ≡ load_of l s + 1 =
    subst (λ u. load_of (charged l c) u ≡ load_of l u + 1) is one in
    let rest =
    sum_apart l c servers below
    (λ h. above_not_in s servers rising.1 (subst (λ u. In u servers) is h)) in
    let before = sum_by-cons (load_of l) s servers in
    let after = sum_by-cons (load_of (charged l c)) s servers in
    omega (arith, first, rest, before, after)
sum_charged l c (s ∷ servers) last below inside rising (inr h) =
    let less = every_of (λ t. s < t) servers rising.1 c h in
    let first = load_of_other l c s below (λ is. omega (arith, is, less)) in
    let rest = sum_charged l c servers last below inside rising.2 h in
    let before = sum_by-cons (load_of l) s servers in
    let after = sum_by-cons (load_of (charged l c)) s servers in
    omega (arith, first, rest, before, after)

-- ---- loads never fall

charge_raises :
    (l : Loads) (c s : ℕ) → load_of l s ≤ load_of (charged l c) s
charge_raises l c s = elim (eqb_tells (load_of l c) last_number) [
  | inl h ↦
      subst
      (λ (b : Bool). load_of l s
      ≤ load_of (if b then l
      else record l { loads = slice_set l.loads c (load_of l c + 1) }) s)
      (sym h.0) (omega arith)
  | inr h ↦
      subst
      (λ (b : Bool). load_of l s
      ≤ load_of (if b then l
      else record l { loads = slice_set l.loads c (load_of l c + 1) }) s)
      (sym h.0) (set_raises l.loads c s)
]
  where
    set_raises :
        (loads : List ℕ) (c s : ℕ)
        → slice_index_or loads s 0
        ≤ slice_index_or (slice_set loads c (slice_index_or loads c 0 + 1)) s 0
    set_raises loads c s = elim (eqb_tells s c) [
      | inl h ↦
          elim (lt_tells c (length loads)) [
            | inl k ↦
                let now = get_or-set_same loads c (slice_index_or loads c 0 + 1) 0 k.1 in
                subst
                (λ u. slice_index_or loads u 0
                ≤ slice_index_or (slice_set loads c (slice_index_or loads c 0 + 1)) u 0)
                (sym h.1) (omega (arith, now))
            | inr k ↦
                let same = set_out loads c (slice_index_or loads c 0 + 1) k.1 in
                subst (λ m. slice_index_or loads s 0 ≤ slice_index_or m s 0) (sym same)
                (omega arith)
          ]
      | inr h ↦
          let same = get_or-set_other loads c s (slice_index_or loads c 0 + 1) 0 h.1 in
          omega (arith, same)
    ]

rounds_raise :
    (n : ℕ) (l : Loads) (servers : List ℕ) (s : ℕ)
    → load_of l s ≤ load_of (rounds n l servers) s
rounds_raise zero l servers s = omega arith
rounds_raise (suc n) l servers s =
    let first = charge_raises l (chosen l servers) s in
    let later = rounds_raise n (round l servers) servers s in
    omega (arith, first, later)

-- ---- rounds

record IsEven (l : Loads) (servers : List ℕ) (weight : ℕ) : Type 0 where
  weights : HaveWeight l weight servers
  near : (s t : ℕ) → In s servers → In t servers → load_of l s ≤ load_of l t + 1
  inside : (s : ℕ) → In s servers → s < length l.loads

-- what a charge of one server makes of the load of any
charged_tells :
    (l : Loads) (c s : ℕ) → load_of l c < last_number → c < length l.loads
    → ((s ≡ c) × (load_of (charged l c) s ≡ load_of l s + 1))
    ⊎ ((s ≢ c) × (load_of (charged l c) s ≡ load_of l s))
charged_tells l c s below inside = elim (eqb_tells s c) [
  | inl h ↦
      inl (
        h.1,
        subst (λ u. load_of (charged l c) u ≡ load_of l u + 1) (sym h.1)
            (load_of_charged l c below inside),
      )
  | inr h ↦ inr (h.1, load_of_other l c s below h.1)
]

even_round :
    (l : Loads) (servers : List ℕ) (weight c : ℕ) → IsEven l servers weight
    → IsLeast l c servers → load_of l c < last_number → IsEven (charged l c) servers weight
unfolding HaveWeight
even_round l servers weight c even light below =
    record {
      weights = λ s h. weight_of_charged l c s below ∙ even.weights s h;
      near = λ s t hs ht.
          elim (charged_tells l c s below (even.inside c light.there)) [
            | inl a ↦
                let first : load_of l s ≤ load_of l t =
                subst (λ u. load_of l u ≤ load_of l t) (sym a.0) (light.least t ht) in
                elim (charged_tells l c t below (even.inside c light.there)) [
                  | inl b ↦ omega (arith, a.1, b.1, first)
                  | inr b ↦ omega (arith, a.1, b.1, first)
                ]
            | inr a ↦
                let first = even.near s t hs ht in
                elim (charged_tells l c t below (even.inside c light.there)) [
                  | inl b ↦ omega (arith, a.1, b.1, first)
                  | inr b ↦ omega (arith, a.1, b.1, first)
                ]
          ];
      inside = λ s h.
          let first = even.inside s h in
          let same = length_of_charged l c below in omega (arith, first, same);
    }

fair :
    (n : ℕ) (l : Loads) (servers : List ℕ) (weight last : ℕ) → 1 ≤ weight → 1 ≤ length servers
    → IsRising servers last → IsEven l servers weight
    → ((s : ℕ) → In s servers → load_of (rounds n l servers) s < last_number)
    → IsFair n l servers
fair zero l servers weight last pos some rising even room =
    record {
      near = λ s t hs ht. even.near s t (in_of s servers hs) (in_of t servers ht);
      total = omega arith;
      others = λ s h. refl;
    }
fair (suc n) l servers weight last pos some rising even room =
    let c = chosen l servers in
    let light = least_of l weight servers pos some even.weights in
    let raised = rounds_raise (suc n) l servers c in
    let most = room c light.there in
    let below : load_of l c < last_number = omega (arith, raised, most) in
    let on =
    fair n (round l servers) servers weight last pos some rising
    (even_round l servers weight c even light below) room in
    let one = sum_charged l c servers last below (even.inside c light.there) rising light.there in
    record {
      near = on.near;
      total = let later = on.total in omega (arith, later, one);
      others = λ s h.
          on.others s h
          ∙ load_of_other l c s below
          (λ is. h (contains_of s servers (subst (λ u. In u servers) (sym is) light.there)));
    }

rising_inside :
    (servers : List ℕ) (last s : ℕ) → IsRising servers last → In s servers → s < last
unfolding In
rising_inside [] last s rising h = absurd h
rising_inside (x ∷ servers) last s rising (inl is) =
    subst (λ u. u < last) (sym is) rising.0
rising_inside (x ∷ servers) last s rising (inr h) = rising_inside servers last s rising.2 h

pub rounds_are_fair :
    (n weight load : ℕ) (l : Loads) (servers : List ℕ) → 1 ≤ length servers
    → IsRising servers (length l.loads) → AreEqual l servers weight load
    → IsBelowLast (rounds n l servers) servers → IsFair n l servers
unfolding HaveWeight
rounds_are_fair n weight load l servers some rising equal room =
    let load_at = every_of (λ s. load_of l s ≡ load) servers equal.loads in
    let even : IsEven l servers weight =
    record {
      weights = every_of (λ s. weight_of l s ≡ weight) servers equal.weights;
      near = λ s t hs ht.
          let a = load_at s hs in let b = load_at t ht in omega (arith, a, b);
      inside = λ s h. rising_inside servers (length l.loads) s rising h;
    } in
    fair n l servers weight (length l.loads) equal.positive some rising even
    (every_of (λ s. load_of (rounds n l servers) s < last_number) servers room)
