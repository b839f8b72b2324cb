-- The answers that the lines of a run give, and the operations that they answer.
--     is_answer did      a client took the reply to its pending operation
--     IsGiven did op      what the client did is the answer of this operation: of a write, or of a
--         read that was given the content
--     AnswersOne ops place client did      exactly one operation is answered at the place; it is
--         of the client, and what the client did is its answer
--     AreAnswered lines ops      each line that says of a client that it is answered does so
--     AreTold trace ops      the lines of the trace are the texts of such lines
use Rattle.std.specs.Prelude.{◌≡◌, ◌+◌, ℕ, Bool, true, false, Some, List, slice_get}
use Rattle.peg_event.specs.declared.history.Act.TheVariants as act
use Rattle.peg_event.specs.declared.ClientDid.{ClientDid}
use Rattle.peg_event.specs.declared.ClientDid.TheVariants as client_did
use Rattle.peg_event.specs.declared.Line.{Line}
use Rattle.peg_event.specs.declared.history.Op.{Op}
use Rattle.peg_event.specs.declared.Said.TheVariants as said
use Rattle.peg_trace.specs.Lines.{trace_lines}

abbrev pub is_answer : ClientDid → Bool
is_answer (client_did.Wrote seq version) = true
is_answer (client_did.Read seq version content) = true
is_answer _ = false

abbrev pub IsGiven : ClientDid → Op → Type 0
IsGiven (client_did.Wrote seq version) op = op.act ≡ act.Write
IsGiven (client_did.Read seq version content) op = (op.act ≡ act.Read) × (op.content ≡ content)
IsGiven _ op = ⊥

pub record AnswersOne (ops : List Op) (place client : ℕ) (did : ClientDid) : Type 0 where
  pub number : ℕ
  pub op : Op
  pub there : slice_get ops number ≡ Some op
  pub of_client : op.client ≡ client
  pub at : op.answered ≡ Some place
  pub given : IsGiven did op
  pub only :
      (other : ℕ) (o : Op) → slice_get ops other ≡ Some o → o.answered ≡ Some place
      → other ≡ number

-- the first line behind the rack line has place 2
abbrev pub AreAnswered : List Line → List Op → Type 0
AreAnswered lines ops =
    (i client : ℕ) (line : Line) (did : ClientDid) → slice_get lines i ≡ Some line
    → line.said ≡ said.Client client did → is_answer did ≡ true
    → AnswersOne ops (i + 2) client did

abbrev pub AreTold : List (List ℕ) → List Op → Type 0
AreTold trace ops = (lines : List Line) × (trace ≡ trace_lines lines) × AreAnswered lines ops
