-- What a client of a format may ask for, so that each of its requests is a packet.
--     ask_fits format ask      a read, or a write of a content that the format's packets carry
--     pending_fits format pending      the same of a pending operation, whose number is at least 1
use Rattle.std.specs.Prelude.{Bool, true, ◌&&◌, nat_lt, Option, Some, None}
use Rattle.peg_name.specs.declared.Format.{Format}
use Rattle.peg_event.specs.declared.answers.Ask.{Ask}
use Rattle.peg_event.specs.declared.answers.Ask.TheVariants.{Read, Write}
use Rattle.peg_event.specs.declared.answers.Pending.{Pending}
use Rattle.peg_model.specs.Packet.{is_written}

abbrev pub ask_fits : Format → Ask → Bool
ask_fits format Read = true
ask_fits format (Write content) = is_written format content

abbrev pub pending_fits : Format → Option Pending → Bool
pending_fits format None = true
pending_fits format (Some pending) = nat_lt 0 pending.seq && ask_fits format pending.ask
