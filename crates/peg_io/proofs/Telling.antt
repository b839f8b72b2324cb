-- What is told over several calls.
use Rattle.std.proofs.Common.{◌≡◌, ◌<◌, ◌≤◌, ◌+◌, ◌==◌, ℕ, false, min, Option, Some, None, List}
use Rattle.std.proofs.Common.{[], ◌++◌, length, take, drop, length-append, refl, sym, ap, ◌∙◌}
use Rattle.std.proofs.Common.{arith, rules, append_assoc}
use Rattle.std.proofs.lemmas.List.{take-append-drop, drop-drop, append-nil}
use Rattle.std.proofs.Math.Seq.{take-append_seam}
use Rattle.std.proofs.lemmas.Bool.Decides.{nat_tests}
use Rattle.peg_io.specs.Outside.{Tells, Appends, Stays, WritesSome, Takes, FitsIn}

-- what is told of one call and of the next is told of both
pub Tells_more : {A : Type 0} (before mid now : Option A) (R S T : A → A → Type 0)
    → ((b m n : A) → R b m → S m n → T b n) → Tells before mid R → Tells mid now S
    → Tells before now T
Tells_more before mid None R S T join r s = tt
Tells_more before None (Some now) R S T join r s = absurd s
Tells_more None (Some mid) (Some now) R S T join r s = absurd r
Tells_more (Some before) (Some mid) (Some now) R S T join r s = join before mid now r s

pub Tells_as : {A : Type 0} (before now : Option A) (R T : A → A → Type 0)
    → ((b n : A) → R b n → T b n) → Tells before now R → Tells before now T
Tells_as before None R T weaken r = tt
Tells_as None (Some now) R T weaken r = absurd r
Tells_as (Some before) (Some now) R T weaken r = weaken before now r

pub Tells_both : {A : Type 0} (before now : Option A) (R T : A → A → Type 0)
    → Tells before now R → Tells before now T → Tells before now (λ b n. R b n × T b n)
Tells_both before None R T r t = tt
Tells_both None (Some now) R T r t = absurd r
Tells_both (Some before) (Some now) R T r t = (r, t)

pub Tells_none :
    {A : Type 0} (before : Option A) (R : A → A → Type 0) → ((b : A) → R b b)
    → Tells before before R
Tells_none None R same = tt
Tells_none (Some before) R same = same before

-- ---- a write of all the bytes, in parts

-- these were written, and the rest is still to be written
pub record IsWritten (bytes rest : List ℕ) (before now : Option (List ℕ)) : Type 0 where
  pub front : List ℕ
  pub parts : bytes ≡ front ++ rest
  pub told : Tells before now (Appends front)

pub nothing_written :
    (bytes : List ℕ) (before : Option (List ℕ)) → IsWritten bytes bytes before before
nothing_written bytes before =
    record { front = []; parts = refl; told = Tells_none before (Appends []) (λ b. search rules) }

-- a write in between
pub more_written :
    (bytes rest : List ℕ) (before mid now : Option (List ℕ)) (n : ℕ)
    → IsWritten bytes rest before mid → Tells mid now (Appends (take n rest))
    → IsWritten bytes (drop n rest) before now
more_written bytes rest before mid now n done told =
    record {
      front = done.front ++ take n rest;
      parts =
          done.parts ∙ ap (λ xs. done.front ++ xs) (sym (take-append-drop n rest)) ∙ sym
          (append_assoc done.front (take n rest) (drop n rest));
      told =
          Tells_more before mid now (Appends done.front) (Appends (take n rest))
          (Appends (done.front ++ take n rest))
          (λ b m k e f. f ∙ ap (λ xs. xs ++ take n rest) e ∙ append_assoc b done.front
          (take n rest))
          done.told told;
    }

-- a write that failed ends it
pub some_written :
    (bytes rest : List ℕ) (before mid now : Option (List ℕ)) → 0 < length rest
    → IsWritten bytes rest before mid → Tells mid now Stays
    → Tells before now (WritesSome bytes)
some_written bytes rest before mid now more done told =
    Tells_more before mid now (Appends done.front) Stays (WritesSome bytes)
    (λ b m k e f. (
      length done.front,
      omega (arith, ap length done.parts, length-append done.front rest, more),
      f ∙
          e ∙ ap (λ xs. b
          ++ xs) (sym (front_of bytes done.front rest done.parts)),
    ))
    done.told told
  where
    front_of : (bs front more : List ℕ) → bs ≡ front ++ more → take (length front) bs ≡ front
    front_of bs front more e = rw e (take-append_seam front more)

pub all_written :
    (bytes rest : List ℕ) (before now : Option (List ℕ)) → IsWritten bytes rest before now
    → rest ≡ [] → Tells before now (Appends bytes)
all_written bytes rest before now done none =
    let e :
    bytes
    ≡ done.front = done.parts ∙ ap (λ xs. done.front ++ xs) none ∙ append-nil done.front in
    Tells_as before now (Appends done.front) (Appends bytes)
    (λ b n f. f ∙ ap (λ xs. b ++ xs) (sym e)) done.told

-- ---- a read of a source in memory

-- what was copied to the front of the buffer was taken from the front of what was left
pub taken_front :
    (n at : ℕ) (bytes buf left : List ℕ) → drop at bytes ≡ left → take n buf ≡ take n left
    → left ≡ take n buf ++ drop (at + n) bytes
taken_front n at bytes buf left e same =
    sym
    (ap (λ xs. xs ++ drop (at + n) bytes) same ∙ ap (λ xs. take n left
    ++ xs) (sym (drop-drop n at bytes) ∙ ap (λ xs. drop n xs) e) ∙ take-append-drop n left)

some_left : (n : ℕ) → false ≡ (n == 0) → 0 < n
some_left n e = grind (arith, nat_tests)

-- how many bytes were given, and which
pub gives_front :
    (n at step room : ℕ) (bytes buf left : List ℕ) → drop at bytes ≡ left → 1 ≤ step → 0 < room
    → length buf ≡ room → false ≡ (length left == 0)
    → n ≡ min step (min room (length left)) → take n buf ≡ take n left
    → FitsIn n (length buf) × Takes (take n buf) left (drop (at + n) bytes)
gives_front n at step room bytes buf left e low some len more is same =
    let few : 0 < length left = some_left (length left) more in
    ((omega arith, omega arith), taken_front n at bytes buf left e same)
