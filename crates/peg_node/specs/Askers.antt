-- A client that asks, as the program keeps it.
--     asker_of a, letters_of a      its state in the book's words, and the datagrams of the last step
--     AreForSwitches items      each goes to a switch
--     IsAsker a      what holds between its steps
use Rattle.std.specs.Prelude.{◌≡◌, ◌≤◌, ◌<◌, ℕ, List, map}
use Rattle.std.specs.List.{AllByRecursion}
use Rattle.peg_name.specs.Name.{Rack}
use Rattle.peg_name.specs.declared.Node.{Node}
use Rattle.peg_name.specs.declared.Node.TheVariants as node
use Rattle.peg_meaning.specs.Session.{Letter, letter_to}
use Rattle.peg_meaning.specs.Roles as roles
use Rattle.peg_node.specs.Phases.{phase_as, IsPhase, rank_in}
use Rattle.peg_node.specs.declared.asker.Asker.{Asker}

abbrev pub asker_of : Asker → roles.Asker
asker_of a =
    record {
      client = a.client;
      base = a.base;
      tries = a.tries;
      waits = a.waits;
      lines = a.lines;
      phase = phase_as a.phase;
    }

abbrev pub letters_of : Asker → List Letter
letters_of a = map (letter_to 0 a.base) a.post.items

abbrev pub asker_rank : Asker → ℕ
asker_rank a = rank_in a.lines a.phase

abbrev pub IsForSwitch : Node → Type 0
IsForSwitch (node.Switch id) = Unit {0}
IsForSwitch _ = ⊥

abbrev pub AreForSwitches : List (Node × List ℕ) → Type 0
AreForSwitches items = AllByRecursion (λ item. IsForSwitch item.0) items

pub record IsAsker (a : Asker) : Type 0 where
  pub same_format : a.post.format ≡ a.client.format
  pub room : 1 ≤ a.post.slots
  pub low : a.base ≤ 60000
  pub some_tries : 1 ≤ a.tries
  pub few_tries : a.tries ≤ 100
  pub few_waits : a.waits ≤ 1000
  pub few_lines : a.lines ≤ 1000000
  pub phase : IsPhase a.phase
  pub nodes : AreForSwitches a.post.items

-- the client is one of the rack
pub record IsAsking (a : Asker) (rack : Rack) (id : ℕ) : Type 0 where
  pub asker : IsAsker a
  pub format : rack.format ≡ a.client.format
  pub within : id < rack.clients
