-- What it is to read: a reader gives just what is spelled, and the words behind it.
use Rattle.std.proofs.Common.{◌≡◌, ◌<◌, ◌≤◌, ◌^◌, ℕ, Bool, true, false, cond, ◌&&◌, Option, Some}
use Rattle.std.proofs.Common.{None, List, [], ◌∷◌, ◌++◌, option_map, refl, arith, ap, sym, ◌∙◌}
use Rattle.std.proofs.Common.{subst, append_assoc, nat_lt}
use Rattle.std.specs.Prelude.{option_and_then}
use Rattle.std.specs.Str.{bytes_eq}
use Rattle.std.proofs.lemmas.List.{append-nil}
use Rattle.std.proofs.lemmas.Option.{none-some, same_Some}
use Rattle.std.proofs.lemmas.Slice.Eq.{bytes_eq-Decides}
use Rattle.std.proofs.lemmas.Bool.Decides.{Decides-ltb}
use Rattle.peg_text.specs.Reading.{then_by, next_by, both_by, below}
use Rattle.peg_text.specs.Events.{read_as}

-- ---- tests and options

pub both_true : (a b : Bool) → (a && b) ≡ true → (a ≡ true) × (b ≡ true)
both_true true b e = (refl, e)
both_true false b e = absurd (cc)

-- which of two a test chose
pub by_test :
    {A P : Type 0} (b : Bool) (x y : Option A) (z : A) → cond b x y ≡ Some z
    → (b ≡ true → x ≡ Some z → P) → (b ≡ false → y ≡ Some z → P) → P
by_test true x y z e if_so if_not = if_so refl e
by_test false x y z e if_so if_not = if_not refl e

pub if_passed :
    {A : Type 0} (b : Bool) (x : Option A) (z : A) → cond b x None ≡ Some z
    → (b ≡ true) × (x ≡ Some z)
if_passed true x z e = (refl, e)
if_passed false x z e = absurd (none-some z e)

pub if_failed :
    {A : Type 0} (b : Bool) (x : Option A) (z : A) → cond b None x ≡ Some z
    → (b ≡ false) × (x ≡ Some z)
if_failed true x z e = absurd (none-some z e)
if_failed false x z e = (refl, e)

pub map_some :
    {A B : Type 0} (f : A → B) (o : Option A) (y : B) → option_map f o ≡ Some y
    → (x : A) × (o ≡ Some x) × (f x ≡ y)
map_some f None y e = absurd (none-some y e)
map_some f (Some x) y e = (x, refl, same_Some (f x) y e)

pub and_then_some :
    {A B : Type 0} (f : A → Option B) (o : Option A) (y : B) → option_and_then f o ≡ Some y
    → (x : A) × (o ≡ Some x) × (f x ≡ Some y)
and_then_some f None y e = absurd (none-some y e)
and_then_some f (Some x) y e = (x, refl, e)

pub then_some :
    {X Y : Type 0} (o : Option (X × List (List ℕ)))
    (f : X → List (List ℕ) → Option (Y × List (List ℕ))) (y : Y × List (List ℕ))
    → then_by o f ≡ Some y → (r : X × List (List ℕ)) × (o ≡ Some r) × (f r.0 r.1 ≡ Some y)
then_some None f y e = absurd (none-some y e)
then_some (Some r) f y e = (r, refl, e)

pub then_at :
    {X Y : Type 0} (o : Option (X × List (List ℕ)))
    (f : X → List (List ℕ) → Option (Y × List (List ℕ))) (x : X) (left : List (List ℕ))
    → o ≡ Some (x, left) → then_by o f ≡ f x left
then_at o f x left e = ap (λ q. then_by q f) e

pub from_bytes_eq : (v w : List ℕ) → bytes_eq v w ≡ true → v ≡ w
from_bytes_eq v w e = (bytes_eq-Decides v w).0 e

-- ---- words

-- f reads the word of x where x is in range, and nothing else
pub record WordLaw {X : Type 0} (f : List ℕ → Option X) (word : X → List ℕ) (R : X → Type 0) : Type
    0 where
  pub sound : (w : List ℕ) (x : X) → f w ≡ Some x → (w ≡ word x) × R x
  pub complete : (x : X) → R x → f (word x) ≡ Some x

-- the same of a reader, which leaves the words behind
pub record ReadLaw {X : Type 0} (r : List (List ℕ) → Option (X × List (List ℕ)))
    (words : X → List (List ℕ)) (R : X → Type 0) : Type 0 where
  pub sound :
      (ws : List (List ℕ)) (x : X) (left : List (List ℕ)) → r ws ≡ Some (x, left)
      → (ws ≡ words x ++ left) × R x
  pub complete : (x : X) (left : List (List ℕ)) → R x → r (words x ++ left) ≡ Some (x, left)

module _ {X : Type 0} (f : List ℕ → Option X) (word : X → List ℕ) (R : X → Type 0)
    (law : WordLaw f word R) where
  next_sound :
      (ws : List (List ℕ)) (x : X) (left : List (List ℕ)) → next_by f ws ≡ Some (x, left)
      → (ws ≡ word x ∷ left) × R x
  next_sound [] x left e = absurd (none-some _ e)
  next_sound (w ∷ ws) x left e =
      let got = map_some (λ y. (y, ws)) (f w) (x, left) e in
      let same : got.0 ≡ x = ap (λ p. p.0) got.2 in
      let rest : ws ≡ left = ap (λ p. p.1) got.2 in
      let said = law.sound w x (got.1 ∙ ap Some same) in
      (ap (λ v. v ∷ ws) said.0 ∙ ap (λ t. word x ∷ t) rest, said.1)

  pub next_law : ReadLaw (next_by f) (λ x. word x ∷ []) R
  next_law =
      record {
        sound = next_sound;
        complete = λ x left ok. ap (option_map (λ y. (y, left))) (law.complete x ok);
      }

module _ {X Y : Type 0} (r : List (List ℕ) → Option (X × List (List ℕ)))
    (words : X → List (List ℕ)) (R : X → Type 0) (law : ReadLaw r words R) where
  module _ (s : List (List ℕ) → Option (Y × List (List ℕ))) (words' : Y → List (List ℕ))
      (S : Y → Type 0) (law' : ReadLaw s words' S) where
    both_sound :
        (ws : List (List ℕ)) (p : X × Y) (left : List (List ℕ)) → both_by r s ws ≡ Some (p, left)
        → (ws ≡ (words p.0 ++ words' p.1) ++ left) × (R p.0 × S p.1)
    both_sound ws p left e =
        let one = then_some (r ws) _ (p, left) e in
        let two = then_some (s one.0.1) _ (p, left) one.2 in
        let same : ((one.0.0, two.0.0), two.0.1) ≡ (p, left) = same_Some _ _ two.2 in
        let x : one.0.0 ≡ p.0 = ap (λ q. q.0.0) same in
        let y : two.0.0 ≡ p.1 = ap (λ q. q.0.1) same in
        let end : two.0.1 ≡ left = ap (λ q. q.1) same in
        let first = law.sound ws p.0 one.0.1 (one.1 ∙ ap (λ z. Some (z, one.0.1)) x) in
        let second =
        law'.sound one.0.1 p.1 left
        (two.1 ∙ ap (λ z. Some (z, two.0.1)) y ∙ ap (λ z. Some (p.1, z)) end) in (
          first.0 ∙ ap (λ t. words p.0 ++ t) second.0 ∙ sym
              (append_assoc (words p.0) (words' p.1) left),
          (first.1, second.1),
        )

    both_complete :
        (p : X × Y) (left : List (List ℕ)) → R p.0 × S p.1
        → both_by r s ((words p.0 ++ words' p.1) ++ left) ≡ Some (p, left)
    both_complete p left ok =
        ap (both_by r s) (append_assoc (words p.0) (words' p.1) left)
        ∙ then_at (r (words p.0 ++ (words' p.1 ++ left))) _ p.0 (words' p.1 ++ left)
        (law.complete p.0 (words' p.1 ++ left) ok.0)
        ∙ then_at (s (words' p.1 ++ left)) _ p.1 left (law'.complete p.1 left ok.1)

    pub both_law : ReadLaw (both_by r s) (λ p. words p.0 ++ words' p.1) (λ p. R p.0 × S p.1)
    both_law = record { sound = both_sound; complete = both_complete }

  -- what was read, as another value
  pub as_sound :
      (f : X → Y) (ws : List (List ℕ)) (y : Y) (left : List (List ℕ))
      → read_as f (r ws) ≡ Some (y, left) → (x : X) × (y ≡ f x) × (ws ≡ words x ++ left) × R x
  as_sound f ws y left e =
      let got = then_some (r ws) _ (y, left) e in
      let same : (f got.0.0, got.0.1) ≡ (y, left) = same_Some _ _ got.2 in
      let said =
      law.sound ws got.0.0 left (got.1 ∙ ap (λ t. Some (got.0.0, t)) (ap (λ q. q.1) same)) in
      (got.0.0, sym (ap (λ q. q.0) same), said.0, said.1)

  pub as_complete : (f : X → Y) (x : X) → R x → read_as f (r (words x)) ≡ Some (f x, [])
  as_complete f x ok =
      ap (λ ws. read_as f (r ws)) (sym (append-nil (words x))) ∙ then_at (r (words x ++ [])) _ x []
      (law.complete x [] ok)

-- a number below a limit
pub below_law :
    (f : List ℕ → Option ℕ) (word : ℕ → List ℕ) → WordLaw f word (λ n. n < 2 ^ 64) → (limit : ℕ)
    → limit ≤ 2 ^ 64 → WordLaw (λ w. option_and_then (below limit) (f w)) word (λ n. n < limit)
below_law f word law limit few = record {
  sound = λ w n e.
      let got = and_then_some (below limit) (f w) n e in
      let kept = if_passed (nat_lt got.0 limit) (Some got.0) n got.2 in
      let same : got.0 ≡ n = same_Some got.0 n kept.1 in
      let small :
      n < limit = subst (λ (k : ℕ). k < limit) same ((Decides-ltb got.0 limit).0 kept.0) in
      ((law.sound w n (got.1 ∙ ap Some same)).0, small);
  complete = λ n small.
      ap (option_and_then (below limit)) (law.complete n (omega arith)) ∙ ap
      (λ b. cond b (Some n) None) ((Decides-ltb n limit).1 small);
}
