-- How a key lies in memory.
use Rattle.std.proofs.Common.{◌≡◌, ℕ, ◌-◌, ◌≤◌, List, ◌++◌, length, take, drop, replicate, refl}
use Rattle.std.proofs.Common.{arith, length-append}
use Rattle.std.proofs.lemmas.List.{take_at, drop-replicate, length-replicate}
use Rattle.peg_name.specs.Name.{IsKey, padded}

-- A key whose bytes were copied over the front of 32 zeros.
pub padded_key :
    (key copy : List ℕ) → copy ≡ key → 1 ≤ length key → length key ≤ 32
    → let held = copy ++ drop (length key) (replicate 32 0) in
    IsKey (take (length key) held) × (length key ≤ 32) × (length held ≡ 32)
    × (padded 32 (take (length key) held) ≡ held)
padded_key key copy e low high =
    rw (e, drop-replicate, take_at key (replicate (32 - length key) 0) (length key) refl) (
      (low, high),
      high,
      simp (length-append, length-replicate) (omega arith),
      refl,
    )

-- The same of bytes that may be none, over as many zeros as there may be bytes.
pub padded_bytes :
    (most : ℕ) (bytes copy : List ℕ) → copy ≡ bytes → length bytes ≤ most
    → let held = copy ++ drop (length bytes) (replicate most 0) in
    (length bytes ≤ most) × (length held ≡ most)
    × (padded most (take (length bytes) held) ≡ held)
padded_bytes most bytes copy e high =
    rw (e, drop-replicate, take_at bytes (replicate (most - length bytes) 0) (length bytes) refl) (
      high,
      simp (length-append, length-replicate) (omega arith),
      refl,
    )
