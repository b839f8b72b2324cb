-- A world that is being run, and where it stops.
--     Running      the book's world, the number of events that were stepped, whether it is over, and
--         the line of the last event
--     started rack keys      at the rack line
--     stepped r place event      after an event that is within the limits
--     line_of number w said sent      the line of an event
--     is_past r place event      whether the event is past a limit: it is the 1,000,001st, or its
--         packets would pass 200,000, or an earlier event was past a limit
--     Halted halt old now      what holds after a halt
--     IsRun machine events is_over      what is kept between two events: until it is over, the
--         world is that of a run, and after it is over it still shows one
--     AreHistories ops orders      each order is a register history of its key
use Rattle.std.specs.Prelude.{◌≡◌, ◌+◌, ◌≤◌, ℕ, Bool, false, ◌||◌, nat_le, nat_lt, List, []}
use Rattle.std.specs.Prelude.{length, IsTrue, Option, None}
use Rattle.std.specs.List.{AllByRecursion}
use Rattle.peg_name.specs.Name.{Rack}
use Rattle.peg_event.specs.declared.Event.{Event}
use Rattle.peg_event.specs.declared.Line.{Line}
use Rattle.peg_event.specs.declared.Said.{Said}
use Rattle.peg_event.specs.declared.Said.TheVariants as said
use Rattle.peg_event.specs.declared.history.Op.{Op}
use Rattle.peg_model.specs.Register.{IsRegisterHistory}
use Rattle.peg_model.specs.World.{World, start, step}
use Rattle.peg_law.specs.OfRun.{IsWorldOfRun, ShowsRun}
use Rattle.peg_history.specs.declared.KeyOrder.{KeyOrder}
use Rattle.peg_world.specs.Midway.{Midway}
use Rattle.peg_world.specs.Telling.{said_told}
use Rattle.peg_world.specs.declared.Halt.{Halt}
use Rattle.peg_world.specs.declared.Halt.TheVariants as halt

pub record Running : Type 0 where
  pub world : World
  pub events : ℕ
  pub is_over : Bool
  pub line : Line

abbrev pub started : Rack → List (List ℕ) → Running
started rack keys =
    record {
      world = start rack keys;
      events = 0;
      is_over = false;
      line = record { said = said.Rack; sent = None };
    }

abbrev pub stepped : Running → ℕ → Event → Running
stepped r place e =
    let now = step r.world place e in
    record { world = now.0; events = r.events + 1; is_over = false; line = now.1 }

abbrev pub line_of : Option ℕ → World → Said → Option (ℕ × ℕ) → Line
line_of number w s sent = record { said = said_told number w s; sent = sent }

abbrev pub is_past : Running → ℕ → Event → Bool
is_past r place e =
    r.is_over
    || (nat_le 1000000 r.events || nat_lt 200000 (length (step r.world place e).0.packets))

-- the place, the packets and the operations are as before, and it stays over
abbrev pub Halted : Halt → Running → Running → Type 0
Halted halt.OutOfMemory old now = now ≡ old
Halted halt.TooMuch old now =
    IsTrue now.is_over × (now.world.rack ≡ old.world.rack)
    × (now.world.packets ≡ old.world.packets) × (now.world.operations ≡ old.world.operations)
    × (now.world.place ≡ old.world.place)

pub record IsRun (m : Midway) (events : ℕ) (is_over : Bool) : Type 0 where
  pub sent : is_over ≡ false → m.sent ≡ []
  pub counted : length m.world.operations ≤ events
  pub limited : events ≤ 1000000
  pub shows : ShowsRun m.world
  pub of_run : is_over ≡ false → IsWorldOfRun m.world

abbrev pub AreHistories : List Op → List KeyOrder → Type 0
AreHistories ops orders = AllByRecursion (λ o. IsRegisterHistory ops o.key o.ops) orders
