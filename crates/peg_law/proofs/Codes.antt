-- Each list has a number of its own, from which it is read back.
use Rattle.std.proofs.Common.{◌≡◌, ◌≤◌, ◌+◌, ◌*◌, ◌/◌, ◌%◌, ◌^◌, ◌==◌, ℕ, zero, suc, Bool, true}
use Rattle.std.proofs.Common.{false, List, [], ◌∷◌, refl, sym, ap, ◌∙◌}
use Rattle.std.proofs.Common.{arith, eq-eqb, ne_eqb}
use Rattle.std.proofs.Math.Nat.{pow-suc}
use Rattle.std.proofs.lemmas.Nat.{pow_pos}
use Rattle.std.proofs.lemmas.Slice.Eq.{bytes_eq-Decides}
use Rattle.std.specs.Str.{bytes_eq}
use Rattle.peg_name.specs.declared.value.Content.{Content}
use Rattle.peg_name.specs.declared.value.Content.TheVariants.{Absent, Present}
use Rattle.peg_law.specs.Codes.{number_of, bytes_from, bytes_of, content_code}

read_zero : (steps : ℕ) → bytes_from steps 0 0 ≡ []
unfolding bytes_from
read_zero zero = refl
read_zero (suc steps) = refl

even_step :
    (steps x n : ℕ) → 1 ≤ n → bytes_from (suc steps) x (2 * n) ≡ bytes_from steps (x + 1) n
unfolding bytes_from
even_step steps x n some =
    let e : (2 * n == 0) ≡ false = ne_eqb (2 * n) 0 (λ z. omega (arith, z, some)) in
    let f : (2 * n % 2 == 0) ≡ true = eq-eqb (2 * n % 2) 0 (omega arith) in
    let g : 2 * n / 2 ≡ n = omega arith in
    rw (e, f, g) refl

odd_step : (steps x n : ℕ) → bytes_from (suc steps) x (2 * n + 1) ≡ x ∷ bytes_from steps 0 n
unfolding bytes_from
odd_step steps x n =
    let e : (2 * n + 1 == 0) ≡ false = ne_eqb (2 * n + 1) 0 (λ z. omega (arith, z)) in
    let f : ((2 * n + 1) % 2 == 0) ≡ false = ne_eqb ((2 * n + 1) % 2) 0 (λ z. omega (arith, z)) in
    let g : (2 * n + 1) / 2 ≡ n = omega arith in
    rw (e, f, g) refl

doubled : (y m : ℕ) → 2 ^ suc y * m ≡ 2 * (2 ^ y * m)
doubled y m = rw pow-suc (omega arith)

once : (m : ℕ) → 2 ^ 0 * m ≡ m
once m = omega arith

some_number : (y m : ℕ) → 1 ≤ 2 ^ y * (2 * m + 1)
some_number y m = let p = pow_pos y in let q : 1 * 1 ≤ 2 ^ y * (2 * m + 1) = omega arith in q

reads_on :
    (steps x y : ℕ) (xs : List ℕ) → 2 ^ y * (2 * number_of xs + 1) ≤ steps
    → bytes_from steps x (2 ^ y * (2 * number_of xs + 1)) ≡ (x + y) ∷ xs
unfolding number_of
reads_on zero x y xs most = absurd (let s = some_number y (number_of xs) in omega (arith, s, most))
reads_on (suc steps) x zero xs most =
    ap (bytes_from (suc steps) x) (once (2 * number_of xs + 1)) ∙ odd_step steps x (number_of xs)
    ∙ ap (λ l. x ∷ l)
    (rest xs (omega (arith, most, once (2 * number_of xs + 1)))
    (λ z zs less. reads_on steps 0 z zs less))
    ∙ ap (λ n. n ∷ xs) (omega arith)
  where
    rest :
        (ys : List ℕ) → number_of ys ≤ steps
        → ((z : ℕ) (zs : List ℕ) → 2 ^ z * (2 * number_of zs + 1) ≤ steps
        → bytes_from steps 0 (2 ^ z * (2 * number_of zs + 1)) ≡ (0 + z) ∷ zs)
        → bytes_from steps 0 (number_of ys) ≡ ys
    rest [] less on = read_zero steps
    rest (z ∷ zs) less on = on z zs less ∙ ap (λ n. n ∷ zs) (omega arith)
reads_on (suc steps) x (suc y) xs most =
    let m = 2 ^ y * (2 * number_of xs + 1) in
    let d = doubled y (2 * number_of xs + 1) in
    let s = some_number y (number_of xs) in
    ap (bytes_from (suc steps) x) d ∙ even_step steps x m s
    ∙ reads_on steps (x + 1) y xs (omega (arith, most, d, s)) ∙ ap (λ n. n ∷ xs) (omega arith)

pub bytes_of-number : (xs : List ℕ) → bytes_of (number_of xs) ≡ xs
unfolding bytes_of number_of
bytes_of-number [] = read_zero 0
bytes_of-number (x ∷ xs) =
    reads_on (number_of (x ∷ xs)) 0 x xs (omega arith) ∙ ap (λ n. n ∷ xs) (omega arith)

pub number_apart : (xs ys : List ℕ) → number_of xs ≡ number_of ys → xs ≡ ys
number_apart xs ys e = sym (bytes_of-number xs) ∙ ap bytes_of e ∙ bytes_of-number ys

-- the test of two keys is that of their numbers
pub number_test : (xs ys : List ℕ) → (number_of xs == number_of ys) ≡ bytes_eq xs ys
number_test xs ys = by_case (bytes_eq xs ys) refl
  where
    by_case : (b : Bool) → bytes_eq xs ys ≡ b → (number_of xs == number_of ys) ≡ b
    by_case true e =
        eq-eqb (number_of xs) (number_of ys) (ap number_of ((bytes_eq-Decides xs ys).0 e))
    by_case false e =
        ne_eqb (number_of xs) (number_of ys)
        (λ f.
        let g : bytes_eq xs ys ≡ true = (bytes_eq-Decides xs ys).1 (number_apart xs ys f) in
        absurd (cc))

pub content_apart : (x y : Content) → content_code x ≡ content_code y → x ≡ y
content_apart Absent Absent e = refl
content_apart Absent (Present v) e = absurd (cc)
content_apart (Present v) Absent e = absurd (cc)
content_apart (Present v) (Present u) e =
    let f : number_of v ≡ number_of u = cc in ap Present (number_apart v u f)
