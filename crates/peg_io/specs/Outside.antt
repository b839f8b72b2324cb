-- What an object of the outside tells of its content, and when a fault may be answered.
--     counted n      a count after one more; it ends at the last number of 64 bits
--     Rose before now      a count of faults rose in a call, or stands at its end
--     Tells before now R      what is told after a call is related to what was told before it
--     Reads, Writes      what a read took of what was left, and what a write appended
--     WritesSome bytes      what a write of all the bytes appended that ended early
--     Binds, HasTurn, Attempts      what each call of a wire adds to that
use Rattle.std.specs.Prelude.{◌≡◌, ◌≤◌, ◌<◌, ◌+◌, ◌-◌, ◌^◌, ℕ, min, Option, Some, None, List, []}
use Rattle.std.specs.Prelude.{◌∷◌, ◌++◌, length, take}
use Rattle.peg_meaning.specs.Wire.{Turn, Datagram, Pause, Carried, with_turn}
use Rattle.peg_io.specs.declared.Got.{Got}
use Rattle.peg_io.specs.declared.Got.TheVariants as got
use Rattle.peg_io.specs.declared.Took.{Took}
use Rattle.peg_io.specs.declared.Took.TheVariants as took
use Rattle.peg_io.specs.declared.Heard.{Heard}
use Rattle.peg_io.specs.declared.Heard.TheVariants as heard

abbrev pub counted : ℕ → ℕ
counted n = min (n + 1) (2 ^ 64 - 1)

abbrev pub Rose : ℕ → ℕ → Type 0
Rose before now = counted before ≤ now

-- an object that doesn't tell before a call doesn't tell after it, and one that stops telling may
-- have done anything
abbrev pub Tells : {A : Type 0} → Option A → Option A → (A → A → Type 0) → Type 0
Tells before None R = Unit {0}
Tells None (Some now) R = ⊥
Tells (Some before) (Some now) R = R before now

-- ---- sources and sinks

-- these bytes were taken from the front of what was left
abbrev pub Takes : List ℕ → List ℕ → List ℕ → Type 0
Takes bytes before now = before ≡ bytes ++ now

-- these bytes were appended to what was held
abbrev pub Appends : List ℕ → List ℕ → List ℕ → Type 0
Appends bytes before now = now ≡ before ++ bytes

abbrev pub Stays : {A : Type 0} → A → A → Type 0
Stays before now = now ≡ before

abbrev pub AreNone : List ℕ → List ℕ → Type 0
AreNone before now = (before ≡ []) × (now ≡ [])

-- how many bytes a read gave lies within the buffer
abbrev pub FitsIn : ℕ → ℕ → Type 0
FitsIn n room = (1 ≤ n) × (n ≤ room)

abbrev pub Reads : Got → List ℕ → Option (List ℕ) → Option (List ℕ) → Type 0
Reads (got.Bytes n) buf before now = FitsIn n (length buf) × Tells before now (Takes (take n buf))
Reads got.End buf before now = Tells before now AreNone
Reads got.Failed buf before now = Tells before now Stays

abbrev pub Writes : Took → List ℕ → Option (List ℕ) → Option (List ℕ) → Type 0
Writes (took.Bytes n) bytes before now =
    FitsIn n (length bytes) × Tells before now (Appends (take n bytes))
Writes took.Failed bytes before now = Tells before now Stays

-- fewer than all of the bytes were appended, from the first on
abbrev pub WritesSome : List ℕ → List ℕ → List ℕ → Type 0
WritesSome bytes before now = (n : ℕ) × (n < length bytes) × (now ≡ before ++ take n bytes)

-- ---- wires

-- the faults and the lost sends of a wire that carries nothing
pub record FaultCounts : Type 0 where
  pub faults : ℕ
  pub lost : ℕ

-- how many sockets a wire has bound, and its faults and lost sends
pub record SocketCounts : Type 0 where
  pub slots : ℕ
  pub faults : ℕ
  pub lost : ℕ

-- the datagrams among the turns, with their slots
abbrev pub received_of : List Turn → List (ℕ × List ℕ)
received_of [] = []
received_of (Datagram slot bytes ∷ turns) = (slot, bytes) ∷ received_of turns
received_of (Pause slot ∷ turns) = received_of turns

abbrev pub with_port : Carried → ℕ → Carried
with_port c port = record c { bound = c.bound ++ port ∷ [] }

abbrev pub with_send : Carried → ℕ → ℕ → List ℕ → Carried
with_send c slot port bytes =
    record c {
      attempted =
          c.attempted ++ record {
            turn = length c.turns;
            slot = slot;
            port = port;
            bytes = bytes;
          } ∷ [];
    }

abbrev pub Binds : ℕ → Option ℕ → Carried → Carried → Type 0
Binds port None before now = now ≡ before
Binds port (Some slot) before now = (slot ≡ length before.bound) × (now ≡ with_port before port)

abbrev pub HasTurn : ℕ → List ℕ → Heard → Carried → Carried → Type 0
HasTurn slot buf (heard.Bytes n) before now = now ≡ with_turn before (Datagram slot (take n buf))
HasTurn slot buf heard.Nothing before now = now ≡ with_turn before (Pause slot)
HasTurn slot buf heard.Failed before now = now ≡ before

abbrev pub Attempts : ℕ → ℕ → List ℕ → Carried → Carried → Type 0
Attempts slot port bytes before now = now ≡ with_send before slot port bytes

-- a datagram that was heard lies in the buffer
abbrev pub HeardIn : Heard → ℕ → Type 0
HeardIn (heard.Bytes n) room = n ≤ room
HeardIn heard.Nothing room = Unit {0}
HeardIn heard.Failed room = Unit {0}
