-- A session over a list of inputs, computed from the front.
--     Played      what inputs came to: the state then, the text, the ports and the datagrams
--     fits want input      whether the input is one that is wanted; of a line, whether one is
--     played m turns s inputs      what the inputs come to, from this state and after so many
--         turns; none where one of them isn't wanted, or is past a limit
--     plays m start inputs      the same from the start, with what the session begins with
use Rattle.std.specs.Prelude.{◌+◌, ℕ, Bool, true, false, not, nat_lt, Option, Some, None}
use Rattle.std.specs.Prelude.{option_map, option_and_then, List, [], ◌∷◌, ◌++◌, length, map}
use Rattle.peg_meaning.specs.declared.Want.{Want}
use Rattle.peg_meaning.specs.declared.Want.TheVariants as want
use Rattle.peg_meaning.specs.Wire.{Sent}
use Rattle.peg_meaning.specs.Session.{Input, Entry, Datagram, Quiet, Tick, Came, Answer, Goes, Past}
use Rattle.peg_meaning.specs.Session.{Meaning, sent_from}

pub record Played (S : Type 0) : Type 0 where
  pub state : S
  pub text : List ℕ
  pub bound : List ℕ
  pub attempted : List Sent

abbrev pub fits : {E : Type 0} → Want → Input E → Bool
fits (want.Line limit optional) (Entry e) = true
fits (want.Turn slot room) (Datagram bytes) = not (nat_lt room (length bytes))
fits (want.Turn slot room) Quiet = true
fits want.Step Tick = true
fits _ _ = false

abbrev pub turns_in : {E : Type 0} → Input E → ℕ
turns_in (Datagram bytes) = 1
turns_in Quiet = 1
turns_in _ = 0

abbrev pub played_first : {S : Type 0} → ℕ → Came S → Played S → Played S
played_first turn came later =
    record {
      state = later.state;
      text = came.text ++ later.text;
      bound = came.binds ++ later.bound;
      attempted = map (sent_from 0 turn) came.letters ++ later.attempted;
    }

abbrev pub came_if : {S : Type 0} → Bool → Answer S → Option (Came S)
came_if true (Goes came) = Some came
came_if true Past = None
came_if false answer = None

module _ {S E : Type 0} (m : Meaning S E) where
  -- what an input comes to, where it is wanted
  abbrev pub comes : S → Input E → Option (Came S)
  comes s input = came_if (fits (m.want s) input) (m.on s input)

  unfoldable pub played : ℕ → S → List (Input E) → Option (Played S)
  played turns s [] = Some (record { state = s; text = []; bound = []; attempted = [] })
  played turns s (input ∷ inputs) =
      let turn = turns + turns_in input in
      option_and_then
      (λ came. option_map (played_first turn came) (played turn came.state inputs))
      (comes s input)

  abbrev pub plays : Came S → List (Input E) → Option (Played S)
  plays start inputs = option_map (played_first 0 start) (played 0 start.state inputs)
