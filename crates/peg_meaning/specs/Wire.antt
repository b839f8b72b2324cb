-- What a wire carries.
--     Turn      a receive that didn't fail: a datagram with its slot, or a pause
--     Sent      a send, with the number of turns before it
--     Carried      what a wire was asked for and what it gave
use Rattle.std.specs.Prelude.{ℕ, List, [], ◌∷◌, ◌++◌}

pub data Turn : Type 0 where
  Datagram : (slot : ℕ) (bytes : List ℕ) → Turn
  Pause : (slot : ℕ) → Turn

-- the number of turns before it, its slot, its port and its bytes
pub record Sent : Type 0 where
  pub turn : ℕ
  pub slot : ℕ
  pub port : ℕ
  pub bytes : List ℕ

pub record Carried : Type 0 where
  pub bound : List ℕ
  pub turns : List Turn
  pub attempted : List Sent

abbrev pub with_turn : Carried → Turn → Carried
with_turn c turn = record c { turns = c.turns ++ turn ∷ [] }
