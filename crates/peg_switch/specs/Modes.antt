-- What a switch makes of a packet while it does not forward, and of a part that it collects.
--     idle_packet s p, sealed_packet s target p      a packet at an idle switch, and at a sealed one
--     taken_in s take      the switch with what its collector took in
--     is_short answer      whether parts are still missing, or none was taken
--     IsNumbered answer      the state that was taken is of a command, whose number is at least 1
use Rattle.std.specs.Prelude.{ℕ, ◌==◌, ◌≤◌, Bool, true, false, if◌then◌else◌}
use Rattle.peg_event.specs.declared.SwitchDid.TheVariants as did
use Rattle.peg_model.specs.Words.{refuse}
use Rattle.peg_model.specs.Packet.{Packet, Part, Command}
use Rattle.peg_model.specs.Switch.{Switch, SwitchStep, switch_step, sends_again}
use Rattle.peg_parts.specs.Taking.{Take, stamps_after, entries_after}
use Rattle.peg_parts.specs.declared.Taken.{Taken}
use Rattle.peg_parts.specs.declared.Taken.TheVariants.{Whole}

abbrev pub idle_packet : Switch → Packet → SwitchStep
idle_packet s (Part epoch index count bytes) = switch_step s (Part epoch index count bytes) 0
idle_packet s _ = refuse s (did.NotActive s.epoch)

abbrev pub sealed_packet : Switch → ℕ → Packet → SwitchStep
sealed_packet s target (Part epoch index count bytes) =
    switch_step s (Part epoch index count bytes) 0
sealed_packet s target (Command number what) =
    if number == s.last then sends_again s target else refuse s (did.Skipped number s.last)
sealed_packet s target _ = refuse s (did.NotActive s.epoch)

abbrev pub taken_in : Switch → Take → Switch
taken_in s t = record s {
  collected = t.collected;
  stamps = stamps_after s.stamps t.state;
  entries = entries_after s.entries t.state;
}

abbrev pub is_short : Taken → Bool
is_short (Whole last) = false
is_short _ = true

abbrev pub IsNumbered : Taken → Type 0
IsNumbered (Whole last) = 1 ≤ last
IsNumbered _ = Unit {0}
