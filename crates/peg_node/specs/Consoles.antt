-- The controller at its lines, as the program keeps it.
--     console_of c, letters_of c      its state in the book's words, and the datagrams of the last
--         step
--     IsConsole c      what holds between its steps
use Rattle.std.specs.Prelude.{◌≡◌, ◌≤◌, ◌<◌, ℕ, List, map}
use Rattle.peg_name.specs.Name.{Rack}
use Rattle.peg_meaning.specs.Session.{Letter, letter_to}
use Rattle.peg_meaning.specs.Roles as roles
use Rattle.peg_node.specs.Phases.{phase_as, IsPhase, rank_in}
use Rattle.peg_node.specs.Serving.{AreInRack}
use Rattle.peg_node.specs.declared.console.Console.{Console}

abbrev pub console_of : Console → roles.Console
console_of c =
    record {
      controller = c.controller;
      base = c.base;
      tries = c.tries;
      waits = c.waits;
      lines = c.lines;
      is_surveying = c.is_surveying;
      phase = phase_as c.phase;
    }

abbrev pub letters_of : Console → List Letter
letters_of c = map (letter_to 0 c.base) c.post.items

abbrev pub console_rank : Console → ℕ
console_rank c = rank_in c.lines c.phase

pub record IsConsole (c : Console) : Type 0 where
  pub same_format : c.post.format ≡ c.controller.rack.format
  pub room : c.controller.rack.clients < c.post.slots
  pub low : c.base ≤ 60000
  pub some_tries : 1 ≤ c.tries
  pub few_tries : c.tries ≤ 100
  pub few_waits : c.waits ≤ 1000
  pub few_lines : c.lines ≤ 1000000
  pub phase : IsPhase c.phase
  pub nodes : AreInRack c.controller.rack c.post.items

pub record IsControlling (c : Console) (rack : Rack) : Type 0 where
  pub console : IsConsole c
  pub same_rack : c.controller.rack ≡ rack
