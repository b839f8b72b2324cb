-- The Fences that were applied: origins, and the versions that they passed over.
use Rattle.std.proofs.Common.{◌≡◌, ◌≢◌, ℕ, ◌<◌, ◌≤◌, ◌⊎◌, ◌==◌, ◌&&◌, inl, inr, true, false, List}
use Rattle.std.proofs.Common.{[], ◌∷◌, arith, ap, sym, refl, ◌∙◌, subst, eqb-true, eq-eqb}
use Rattle.std.proofs.lemmas.Bool.{cond_both, and_parts, cases_eq, ne_eqb}
use Rattle.std.specs.List.{AllByRecursion}
use Rattle.peg_protocol.specs.Machine.{Guard, Applied, origin_of, guarded, applied_fence}
use Rattle.peg_protocol.specs.Law.{fences_of, GuardIs}
use Rattle.peg_protocol.proofs.Facts.{AnyOf, Outside, Alive, Dead, Nested, HomeGuard}
use Rattle.peg_protocol.proofs.Sorting.{all_weaker}

pub origin_hit : (f : Applied) (fs : List Applied) (k u : ℕ) → f.key ≡ k → f.version ≡ u →
    origin_of (f ∷ fs) k u ≡ f.origin
origin_hit f fs k u e1 e2 =
    let t1 : (f.key == k) ≡ true = eq-eqb f.key k e1 in
    let t2 : (f.version == u) ≡ true = eq-eqb f.version u e2 in
    rw (t1, t2) refl

pub origin_skip : (f : Applied) (fs : List Applied) (k u : ℕ) → (f.key ≡ k → f.version ≡ u → ⊥) →
    origin_of (f ∷ fs) k u ≡ origin_of fs k u
origin_skip f fs k u n =
    cond_both (f.key == k && f.version == u) f.origin (origin_of fs k u) (λ x. x ≡ origin_of fs k u)
    (λ y. let p = and_parts (f.key == k) (f.version == u) y in
    absurd (n (eqb-true f.key k p.0) (eqb-true f.version u p.1)))
    (λ z. refl)

pub origin_same : (fs : List Applied) (k u : ℕ) →
    AllByRecursion (λ f. f.key ≡ k → f.version ≢ u) fs → origin_of fs k u ≡ u
origin_same [] k u h = refl
origin_same (f ∷ fs) k u h = origin_skip f fs k u h.0 ∙ origin_same fs k u h.1

origin_high : (fs : List Applied) (k b u : ℕ) → AllByRecursion (λ g. g.key ≡ k → g.version ≤ b) fs →
    b < u → origin_of fs k u ≡ u
origin_high fs k b u h l =
    origin_same fs k u
    (all_weaker (λ g. g.key ≡ k → g.version ≤ b) (λ f. f.key ≡ k → f.version ≢ u)
    (λ f q e. omega (arith, q e, l)) fs h)

-- the Fences that are older than f, of a key that is its key
below : (f : Applied) (fs : List Applied) (k : ℕ) → f.key ≡ k →
    AllByRecursion (λ g. g.key ≡ f.key → g.version ≤ f.before) fs →
    AllByRecursion (λ g. g.key ≡ k → g.version ≤ f.before) fs
below f fs k e h = subst (λ (j : ℕ). AllByRecursion (λ g. g.key ≡ j → g.version ≤ f.before) fs) e h

pub origin_least : (fs : List Applied) (k u : ℕ) → Nested fs → origin_of fs k u ≤ u
origin_least [] k u n = omega arith
origin_least (f ∷ fs) k u n =
    cond_both (f.key == k && f.version == u) f.origin (origin_of fs k u) (λ x. x ≤ u)
    (λ y.
    let p = and_parts (f.key == k) (f.version == u) y in
    omega (arith, n.1, n.2, origin_least fs f.key f.before n.3, eqb-true f.version u p.1))
    (λ z. origin_least fs k u n.3)

pub alive_above : (fs : List Applied) (k b : ℕ) →
    AllByRecursion (λ g. g.key ≡ k → g.version ≤ b) fs → Alive fs k b
alive_above fs k b h =
    all_weaker (λ g. g.key ≡ k → g.version ≤ b) (Outside k b) (λ g q e. inr (q e)) fs h

pub origin_up : (fs : List Applied) (k u v : ℕ) → Nested fs → Alive fs k u → u ≤ v →
    origin_of fs k u ≤ origin_of fs k v
origin_up [] k u v n a l = l
origin_up (f ∷ fs) k u v n a l =
    elim (cases_eq f.key k) [
      | inr other ↦
          let e1 = origin_skip f fs k u (λ x y. other x) in
          let e2 = origin_skip f fs k v (λ x y. other x) in
          omega (arith, e1, e2, origin_up fs k u v n.3 a.1 l)
      | inl e ↦
          let o : f.origin ≡ origin_of fs k f.before = n.2 ∙ ap (λ j. origin_of fs j f.before) e in
          elim (cases_eq f.version u) [
            | inl eu ↦
                let e1 = origin_hit f fs k u e eu in
                elim (cases_eq f.version v) [
                  | inl ev ↦ let e2 = origin_hit f fs k v e ev in omega (arith, e1, e2)
                  | inr nv ↦
                      let e2 = origin_skip f fs k v (λ x y. nv y) in
                      let e3 = origin_high fs k f.before v (below f fs k e n.0)
                      (omega (arith, n.1, eu, l)) in
                      omega (arith, e1, e2, e3, o, origin_least fs k f.before n.3, n.1, eu, l)
                ]
            | inr nu ↦
                let e1 = origin_skip f fs k u (λ x y. nu y) in
                elim (cases_eq f.version v) [
                  | inl ev ↦
                      let e2 = origin_hit f fs k v e ev in
                      let lo : u ≤ f.before =
                      elim (a.0 e) [ inl x ↦ x | inr x ↦ absurd (omega (arith, x, ev, l, nu)) ]
                      in
                      omega (arith, e1, e2, o, origin_up fs k u f.before n.3 a.1 lo)
                  | inr nv ↦ let e2 = origin_skip f fs k v (λ x y. nv y) in
                      omega (arith, e1, e2, origin_up fs k u v n.3 a.1 l)
                ]
          ]
    ]

-- the origin of a version that is alive is alive
pub origin_alive : (fs : List Applied) (k u : ℕ) → Nested fs → Alive fs k u →
    Alive fs k (origin_of fs k u)
origin_alive [] k u n a = tt
origin_alive (f ∷ fs) k u n a =
    elim (cases_eq f.key k) [
      | inr other ↦
          subst (λ (x : ℕ). Alive (f ∷ fs) k x) (sym (origin_skip f fs k u (λ x y. other x)))
          (λ e. absurd (other e), origin_alive fs k u n.3 a.1)
      | inl e ↦
          elim (cases_eq f.version u) [
            | inl eu ↦
                let o : f.origin ≡ origin_of fs k f.before =
                n.2 ∙ ap (λ j. origin_of fs j f.before) e in
                subst (λ (x : ℕ). Alive (f ∷ fs) k x) (sym (origin_hit f fs k u e eu ∙ o)) (
                  λ z. inl (origin_least fs k f.before n.3),
                  origin_alive fs k f.before n.3 (alive_above fs k f.before (below f fs k e n.0)),
                )
            | inr nu ↦
                subst (λ (x : ℕ). Alive (f ∷ fs) k x) (sym (origin_skip f fs k u (λ x y. nu y))) (
                  λ z. elim (a.0 e) [
                    | inl l ↦ inl (omega (arith, l, origin_least fs k u n.3))
                    | inr l ↦ inr
                        (omega (
                          arith,
                          l,
                          origin_high fs k f.before u (below f fs k e n.0)
                              (omega (arith, l, n.1)),
                        ))
                  ],
                  origin_alive fs k u n.3 a.1,
                )
          ]
    ]

fences_hit : (f : Applied) (fs : List Applied) (k : ℕ) → f.key ≡ k →
    fences_of k (f ∷ fs) ≡ f ∷ fences_of k fs
fences_hit f fs k e = let t : (f.key == k) ≡ true = eq-eqb f.key k e in rw t refl

fences_skip : (f : Applied) (fs : List Applied) (k : ℕ) → f.key ≢ k →
    fences_of k (f ∷ fs) ≡ fences_of k fs
fences_skip f fs k ne = let t : (f.key == k) ≡ false = ne_eqb f.key k ne in rw t refl

pub not_both : (fs : List Applied) (k u : ℕ) → Alive fs k u → Dead fs k u → ⊥
not_both [] k u a d = d
not_both (f ∷ fs) k u a d = elim d [
  | inl x ↦ elim (a.0 x.0) [ inl l ↦ omega (arith, l, x.1) | inr l ↦ omega (arith, l, x.2) ]
  | inr x ↦ not_both fs k u a.1 x
]

-- what a home server's numbers tell of a version
module _ (fs : List Applied) (k : ℕ) (g : Guard) (held : ℕ) (h : HomeGuard fs k g held) where
  pub alive_high : (u : ℕ) → g.floor < u → Alive fs k u
  alive_high u l = all_weaker (λ f. f.key ≡ k → f.version ≤ g.floor) (Outside k u)
      (λ f q e. inr (omega (arith, q e, l))) fs h.top

  pub alive_kept : (u : ℕ) → g.old < u → u ≤ g.low → Alive fs k u
  alive_kept u l m =
      all_weaker
      (λ f. f.key ≡ k → (f.version ≤ g.old) ⊎ ((f.before ≡ g.low) × (f.version ≡ g.floor)))
      (Outside k u)
      (λ f q e. elim (q e)
      [ inl x ↦ inr (omega (arith, x, l)) | inr x ↦ inl (omega (arith, x.0, m)) ]) fs h.each

  pub dead_voided : (u : ℕ) → AllByRecursion (λ f. f.key ≡ k → f.version ≢ u) fs → g.low < u →
      u ≤ g.floor → Dead fs k u
  dead_voided u none l m = elim h.last [
    | inl z ↦ absurd (omega (arith, z, l, m))
    | inr a ↦ go fs none a
  ]
    where
      go : (fs : List Applied) → AllByRecursion (λ f. f.key ≡ k → f.version ≢ u) fs →
          AnyOf (λ f. (f.key ≡ k) × (f.before ≡ g.low) × (f.version ≡ g.floor)) fs → Dead fs k u
      go [] n x = x
      go (f ∷ fs) n x = elim x [
        | inl y ↦
            (let ne : f.version ≢ u = n.0 y.0 in
            inl (y.0, omega (arith, y.1, l), omega (arith, y.2, m, ne)))
        | inr y ↦ inr
            (go fs n.1 y)
      ]

  -- the server applies a Fence above what it holds
  pub HomeGuard-fence : (f : ℕ) → held < f →
      HomeGuard (applied_fence fs k f held ∷ fs) k (guarded g held f) f
  HomeGuard-fence f l =
      record {
        is = subst (GuardIs (guarded g held f))
            (sym (fences_hit (applied_fence fs k f held) fs k refl))
            (record { floor = refl; low = refl; old = h.is.floor });
        floor = omega arith;
        ordered = h.floor;
        top = (
          λ e. omega arith,
          all_weaker (λ f. f.key ≡ k → f.version ≤ g.floor) (λ x. x.key ≡ k → x.version ≤ f)
              (λ x q e. omega (arith, q e, h.floor, l)) fs h.top,
        );
        each = (
          λ e. inr (refl, refl),
          all_weaker (λ f. f.key ≡ k → f.version ≤ g.floor)
              (λ x. x.key ≡ k → (x.version ≤ g.floor) ⊎ ((x.before ≡ held) × (x.version ≡ f)))
              (λ x q e. inl (q e)) fs h.top,
        );
        last = inr (inl (refl, refl, refl));
      }

-- a server holds a greater version
pub HomeGuard-up : (fs : List Applied) (k : ℕ) (g : Guard) (n m : ℕ) → n ≤ m → HomeGuard fs k g n →
    HomeGuard fs k g m
HomeGuard-up fs k g n m l h =
    record {
      is = h.is;
      floor = omega (arith, h.floor, l);
      ordered = h.ordered;
      top = h.top;
      each =
          h.each;
      last = h.last;
    }

-- another key's Fence
pub HomeGuard-other : (fs : List Applied) (k : ℕ) (g : Guard) (n : ℕ) (f : Applied) → f.key ≢ k →
    HomeGuard fs k g n → HomeGuard (f ∷ fs) k g n
HomeGuard-other fs k g n f ne h =
    record {
      is = subst (GuardIs g) (sym (fences_skip f fs k ne)) h.is;
      floor = h.floor;
      ordered = h.ordered;
      top = (λ e. absurd (ne e), h.top);
      each = (λ e. absurd (ne e), h.each);
      last = elim h.last [ inl z ↦ inl z | inr a ↦ inr (inr a) ];
    }
