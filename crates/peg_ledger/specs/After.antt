-- What a step makes of the operations, of the fences and of the promotions.
--     issued_after op issue operations      one more, where it was sent
--     answered_after fences place client did operations      an answer, where the client took one
--     answered_size did      how many bytes the content of the answer has
--     stamped_by packet did      the client, its number and the version of a write that was stamped
--     stamped_after stamped operations      its tag
--     fenced_after did fences      one more, where the server applied it
--     promoted_after key base promotions      one more, where the key was given a version
use Rattle.std.specs.Prelude.{ℕ, Option, Some, None, List, [], ◌∷◌, ◌++◌}
use Rattle.peg_name.specs.declared.Format.{Format}
use Rattle.peg_name.specs.declared.value.Content.TheVariants.{Absent}
use Rattle.peg_event.specs.declared.history.Op.{Op}
use Rattle.peg_event.specs.declared.answers.Issue.{Issue}
use Rattle.peg_event.specs.declared.answers.Issue.TheVariants as issue
use Rattle.peg_event.specs.declared.ClientDid.{ClientDid}
use Rattle.peg_event.specs.declared.ClientDid.TheVariants as client_did
use Rattle.peg_event.specs.declared.SwitchDid.{SwitchDid}
use Rattle.peg_event.specs.declared.SwitchDid.TheVariants as switch_did
use Rattle.peg_history.specs.Contents.{size_of}
use Rattle.peg_model.specs.Packet.{Packet, Write}
use Rattle.peg_model.specs.World.{Operation, changed_at, answered_as, stamped_as, AppliedFence}
use Rattle.peg_model.specs.World.{Promotion, origin_of}
use Rattle.peg_event.specs.declared.ServerDid.{ServerDid}
use Rattle.peg_event.specs.declared.ServerDid.TheVariants as server_did

abbrev pub issued_after : Op → Issue → List Operation → List Operation
issued_after op (issue.Sent seq) operations =
    operations ++ record { op = op; seq = seq; tag = 0 } ∷ []
issued_after op _ operations = operations

abbrev pub answered_after :
    List AppliedFence → ℕ → ℕ → ClientDid → List Operation → List Operation
answered_after fences place client (client_did.Wrote seq version) operations =
    changed_at client seq (answered_as fences place version Absent) operations
answered_after fences place client (client_did.Read seq version content) operations =
    changed_at client seq (answered_as fences place version content) operations
answered_after fences place client _ operations = operations

abbrev pub stamped_by : Packet → SwitchDid → Option (ℕ × ℕ × ℕ)
stamped_by (Write client seq key content) (switch_did.Wrote server written version) =
    Some (client, seq, version)
stamped_by _ _ = None

abbrev pub stamped_of : Option (Format × Packet) → SwitchDid → Option (ℕ × ℕ × ℕ)
stamped_of None did = None
stamped_of (Some read) did = stamped_by read.1 did

abbrev pub stamped_after : Option (ℕ × ℕ × ℕ) → List Operation → List Operation
stamped_after None operations = operations
stamped_after (Some s) operations = changed_at s.0 s.1 (stamped_as s.2) operations

-- the number of the operation that a client's step answers
abbrev pub answered_number : ClientDid → Option ℕ
answered_number (client_did.Wrote seq version) = Some seq
answered_number (client_did.Read seq version content) = Some seq
answered_number _ = None

abbrev pub answered_size : ClientDid → ℕ
answered_size (client_did.Read seq version content) = size_of content
answered_size _ = 0

-- a fence goes back to what the version goes back to that the server held before
abbrev pub fence_of : List AppliedFence → List ℕ → ℕ → ℕ → AppliedFence
fence_of fences key version held =
    record { key = key; version = version; held = held; origin = origin_of fences key held }

abbrev pub fenced_after : ServerDid → List AppliedFence → List AppliedFence
fenced_after (server_did.Fenced key version held) fences =
    fences ++ fence_of fences key version held ∷ []
fenced_after _ fences = fences

abbrev pub promoted_after : List ℕ → Option ℕ → List Promotion → List Promotion
promoted_after key None promotions = promotions
promoted_after key (Some base) promotions =
    promotions ++ record { key = key; version = base } ∷ []
