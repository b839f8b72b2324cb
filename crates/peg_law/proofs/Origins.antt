-- The origins of versions are the same in both machines.
use Rattle.std.proofs.Common.{◌≡◌, ◌≢◌, ◌==◌, ◌&&◌, ℕ, Bool, true, false, List, [], ◌∷◌, ◌++◌, map}
use Rattle.std.proofs.Common.{cond, refl, sym, ap, ◌∙◌, subst, eqb-true}
use Rattle.std.proofs.lemmas.Bool.{and_parts}
use Rattle.std.proofs.lemmas.Grind.{reverse_onto}
use Rattle.std.specs.Prelude.{reverse}
use Rattle.std.specs.List.{AllByRecursion}
use Rattle.std.specs.Str.{bytes_eq}
use Rattle.peg_model.specs.World.{World, AppliedFence, origin_of}
use Rattle.peg_law.specs.Codes.{number_of}
use Rattle.peg_law.specs.Mirrors.{Mirrors, fence_code}
use Rattle.peg_law.proofs.Codes.{number_test}
use Rattle.peg_law.proofs.Lists.{all_append}
use Rattle.peg_law.proofs.Replies.{SameOrigins}
use Rattle.peg_protocol.specs.Machine as machine
use Rattle.peg_protocol.specs.Machine.{Applied}
use Rattle.peg_protocol.specs.Told.{AppliedOnce}
use Rattle.peg_protocol.specs.System.{System}

coded :
    (fs : List AppliedFence) (key : List ℕ) (v : ℕ)
    → machine.origin_of (map fence_code fs) (number_of key) v ≡ origin_of fs key v
coded [] key v = refl
coded (f ∷ fs) key v =
    ap
    (λ b.
    cond (b && f.version == v) f.origin
    (machine.origin_of (map fence_code fs) (number_of key) v))
    (number_test f.key key)
    ∙ ap (λ o. cond (bytes_eq f.key key && f.version == v) f.origin o) (coded fs key v)

abbrev Misses : ℕ → ℕ → Applied → Type 0
Misses k v f = (f.key == k && f.version == v) ≡ false

missed :
    (fs : List Applied) (f : Applied) (k v : ℕ) → AllByRecursion (Misses k v) fs
    → machine.origin_of (fs ++ f ∷ []) k v ≡ machine.origin_of (f ∷ []) k v
missed [] f k v all = refl
missed (g ∷ fs) f k v all =
    ap (λ b. cond b g.origin (machine.origin_of (fs ++ f ∷ []) k v)) all.0 ∙ missed fs f k v all.1

passed_over :
    (fs : List Applied) (f : Applied) (k v : ℕ) → Misses k v f
    → machine.origin_of (fs ++ f ∷ []) k v ≡ machine.origin_of fs k v
passed_over [] f k v miss = ap (λ b. cond b f.origin v) miss
passed_over (g ∷ fs) f k v miss =
    ap (λ o. cond (g.key == k && g.version == v) g.origin o) (passed_over fs f k v miss)

reverse_all : (P : Applied → Type 0) (fs : List Applied) → AllByRecursion P fs →
    AllByRecursion P (reverse fs)
reverse_all P [] all = tt
reverse_all P (f ∷ fs) all =
    subst (AllByRecursion P) (sym (reverse_onto fs f []))
    (all_append P (reverse fs) (f ∷ []) (reverse_all P fs all.1) (all.0, tt))

turned :
    (fs : List Applied) (k v : ℕ) → AppliedOnce fs
    → machine.origin_of (reverse fs) k v ≡ machine.origin_of fs k v
turned [] k v once = refl
turned (f ∷ fs) k v once =
    ap (λ l. machine.origin_of l k v) (reverse_onto fs f [])
    ∙ by_test (f.key == k && f.version == v) refl (turned fs k v once.1)
  where
    others : (f.key == k && f.version == v) ≡ true → (gs : List Applied)
        → AllByRecursion (λ g. g.key ≡ f.key → g.version ≢ f.version) gs
        → AllByRecursion (Misses k v) gs
    others e [] all = tt
    others e (g ∷ gs) all = (one (g.key == k && g.version == v) refl, others e gs all.1)
      where
        one : (b : Bool) → (g.key == k && g.version == v) ≡ b → b ≡ false
        one true t =
            let p = and_parts (g.key == k) (g.version == v) t in
            let q = and_parts (f.key == k) (f.version == v) e in
            absurd
            (all.0 (eqb-true g.key k p.0 ∙ sym (eqb-true f.key k q.0))
            (eqb-true g.version v p.1 ∙ sym (eqb-true f.version v q.1)))
        one false t = refl

    by_test :
        (b : Bool) → (f.key == k && f.version == v) ≡ b
        → machine.origin_of (reverse fs) k v ≡ machine.origin_of fs k v
        → machine.origin_of (reverse fs ++ f ∷ []) k v ≡ cond b f.origin (machine.origin_of fs k v)
    by_test true e rest =
        missed (reverse fs) f k v (reverse_all (Misses k v) fs (others e fs once.0))
        ∙ ap (λ b. cond b f.origin v) e
    by_test false e rest = passed_over (reverse fs) f k v e ∙ rest

pub same_origins :
    (keys : List (List ℕ)) (w : World) (s : System) → Mirrors keys w s → AppliedOnce s.fences
    → SameOrigins w s
same_origins keys w s m once =
    λ key v.
    sym (turned s.fences (number_of key) v once)
    ∙ ap (λ l. machine.origin_of l (number_of key) v) (sym m.fences) ∙ coded w.fences key v
