-- What a world notes of a step beside the node.
--     asked_size ask      how many bytes the content has that is written
--     Note      a write was given a version, or a key was listed, or neither
--     note_by p did, note_of read did      the note of a step on a packet
--     noted w s note      the world with it
use Rattle.std.specs.Prelude.{ℕ, Option, Some, None}
use Rattle.peg_name.specs.declared.Format.{Format}
use Rattle.peg_event.specs.declared.answers.Ask.{Ask}
use Rattle.peg_event.specs.declared.answers.Ask.TheVariants as ask
use Rattle.peg_history.specs.Contents.{size_of}
use Rattle.peg_event.specs.declared.SwitchDid.{SwitchDid}
use Rattle.peg_event.specs.declared.SwitchDid.TheVariants as switch_did
use Rattle.peg_event.specs.declared.Outcome.TheVariants as outcome
use Rattle.peg_model.specs.Packet.{Packet, Write, Command, Promote}
use Rattle.peg_model.specs.Rules.{base_of}
use Rattle.peg_model.specs.Switch.{Switch}
use Rattle.peg_model.specs.World.{World, stamped, promoted}
use Rattle.peg_world.specs.declared.saying.Note.{Note}
use Rattle.peg_world.specs.declared.saying.Note.TheVariants as note

abbrev pub asked_size : Ask → ℕ
asked_size ask.Read = 0
asked_size (ask.Write content) = size_of content

abbrev pub note_by : Packet → SwitchDid → Note
note_by (Write client seq key content) (switch_did.Wrote server written version) =
    note.Stamped client seq version
note_by (Command number (Promote key))
    (switch_did.Applied applied (outcome.Listed listing)) = note.Listed key
note_by _ _ = note.Nothing

abbrev pub note_of : Option (Format × Packet) → SwitchDid → Note
note_of None did = note.Nothing
note_of (Some read) did = note_by read.1 did

abbrev pub noted : World → Switch → Note → World
noted w s (note.Stamped client seq version) = stamped w client seq version
noted w s (note.Listed key) = promoted w key (base_of s.entries key)
noted w s note.Nothing = w
