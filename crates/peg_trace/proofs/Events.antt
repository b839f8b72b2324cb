-- What each event makes of the operations, and what its line says then.
use Rattle.std.proofs.Common.{◌≡◌, ◌++◌, ℕ, List, [], ◌∷◌}
use Rattle.std.proofs.Common.{Option, Some, None, slice_get, refl, ap, ◌∙◌, append_assoc}
use Rattle.std.specs.Prelude.{codes, decimal}
use Rattle.peg_name.specs.declared.value.Content.{Content}
use Rattle.peg_name.specs.declared.value.Content.TheVariants.{Absent, Present}
use Rattle.peg_name.specs.declared.Node.{Node}
use Rattle.peg_name.specs.declared.Node.TheVariants as node
use Rattle.peg_event.specs.declared.answers.Ask.{Ask}
use Rattle.peg_event.specs.declared.answers.Ask.TheVariants as ask
use Rattle.peg_event.specs.declared.Event.{Event}
use Rattle.peg_event.specs.declared.Event.TheVariants as event
use Rattle.peg_event.specs.declared.answers.Issue.{Issue}
use Rattle.peg_event.specs.declared.answers.Issue.TheVariants as issue
use Rattle.peg_event.specs.declared.Line.{Line}
use Rattle.peg_event.specs.declared.history.Op.{Op}
use Rattle.peg_event.specs.declared.Outcome.TheVariants as outcome
use Rattle.peg_event.specs.declared.Said.{Said}
use Rattle.peg_event.specs.declared.Said.TheVariants as said
use Rattle.peg_event.specs.declared.SwitchDid.{SwitchDid}
use Rattle.peg_event.specs.declared.SwitchDid.TheVariants as switch_did
use Rattle.peg_event.specs.declared.ServerDid.{ServerDid}
use Rattle.peg_event.specs.declared.ServerDid.TheVariants as server_did
use Rattle.peg_event.specs.declared.ClientDid.{ClientDid}
use Rattle.peg_event.specs.declared.ClientDid.TheVariants as client_did
use Rattle.peg_model.specs.Packet as packet
use Rattle.peg_model.specs.Packet.{Packet}
use Rattle.peg_model.specs.Rules.{base_of}
use Rattle.peg_model.specs.Client.{begin_operation, client_step}
use Rattle.peg_model.specs.Server.{server_step}
use Rattle.peg_model.specs.Switch.{Switch, switch_step}
use Rattle.peg_model.specs.Trace.{said_text, client_text}
use Rattle.peg_model.specs.Text.{content_word}
use Rattle.peg_model.specs.World.{World, Operation, AppliedFence, with_client, with_server}
use Rattle.peg_model.specs.World.{with_switch, client_of, server_of, switch_of, after_issue}
use Rattle.peg_model.specs.World.{after_client, after_server, after_switch, promoted, new_op}
use Rattle.peg_model.specs.World.{changed_at, stamped_as, answered_as}
use Rattle.peg_model.specs.World.{issue_said, issues, delivers, delivers_item, happens}
use Rattle.peg_trace.proofs.Operations.{Says, issued_front, answer_front}

-- what becomes of the operations at a line
pub data Effect (place : ℕ) (os : List Operation) (s : Said) (after : List Operation)
    : Type 0 where
  Same : after ≡ os → Effect place os s after
  Begins :
      (op : Op) (seq : ℕ) → op.issued ≡ place → op.answered ≡ None → Says (issued_front op) s
      → after ≡ os ++ record { op = op; seq = seq; tag = 0 } ∷ [] → Effect place os s after
  Stamps :
      (client seq version : ℕ) → after ≡ changed_at client seq (stamped_as version) os
      → Effect place os s after
  Answers :
      (client seq version : ℕ) (fences : List AppliedFence) (given : Content)
      → Says (answer_front client) s
      → after ≡ changed_at client seq (answered_as fences place version given) os
      → Effect place os s after

-- ---- what the lines say

regrouped : (a b c d e : List ℕ) → a ++ b ++ (c ++ d ++ e) ≡ a ++ (b ++ c) ++ (d ++ e)
regrouped a b c d e = simp append_assoc

-- behind its first word the text of what a client did is any
says_answered :
    (client : ℕ) (seq more : List ℕ) (d : ClientDid)
    → client_text d ≡ codes "answered " ++ seq ++ more
    → Says (answer_front client) (said.Client client d)
unfolding said_text
says_answered client seq more d e =
    let whose = codes "client " ++ decimal client in
    record {
      rest = seq ++ more;
      is =
          ap (λ t. whose ++ codes " " ++ t) e
          ∙ regrouped whose (codes " ") (codes "answered ") seq more;
    }

-- ---- each step

module _ (place : ℕ) (os : List Operation) where
  begins :
      (op : Op) (seq : ℕ) (s : Said) (w : World) → op.issued ≡ place → op.answered ≡ None
      → Says (issued_front op) s → w.operations ≡ os
      → Effect place os s (after_issue w op (issue.Sent seq)).operations
  begins op seq s w at none says e =
      Begins op seq at none says
      (ap (λ (l : List Operation). l ++ record { op = op; seq = seq; tag = 0 } ∷ []) e)

  begun :
      (client : ℕ) (key : List ℕ) (a : Ask) (w : World) (d : Issue) → w.operations ≡ os
      → Effect place os (issue_said client a d)
      (after_issue w (new_op client key a place) d).operations
  unfolding said_text
  begun client key a w (issue.Busy seq) e = Same e
  begun client key a w issue.Spent e = Same e
  begun client key ask.Read w (issue.Sent seq) e =
      begins (new_op client key ask.Read place) seq (said.Read client seq) w refl refl
      (record { rest = decimal seq; is = refl }) e
  begun client key (ask.Write (Present value)) w (issue.Sent seq) e =
      begins (new_op client key (ask.Write (Present value)) place) seq (said.Write client seq) w
      refl refl (record { rest = decimal seq; is = refl }) e
  begun client key (ask.Write Absent) w (issue.Sent seq) e =
      begins (new_op client key (ask.Write Absent) place) seq (said.Delete client seq) w refl refl
      (record { rest = decimal seq; is = refl }) e

  client_takes :
      (w : World) (client : ℕ) (d : ClientDid) → w.place ≡ place → w.operations ≡ os
      → Effect place os (said.Client client d) (after_client w client d).operations
  client_takes w client (client_did.Wrote seq version) at e =
      Answers client seq version w.fences Absent
      (says_answered client (decimal seq) (codes " version " ++ decimal version) _
      (simp append_assoc)) (cc)
  client_takes w client (client_did.Read seq version content) at e =
      Answers client seq version w.fences content
      (says_answered client (decimal seq)
      (codes " version " ++ decimal version ++ codes " " ++ content_word content) _
      (simp append_assoc)) (cc)
  client_takes w client _ at e = Same e

  server_takes :
      (w : World) (s : Said) (d : ServerDid) → w.operations ≡ os
      → Effect place os s (after_server w d).operations
  server_takes w s (server_did.Fenced key version held) e = Same e
  server_takes w s _ e = Same e

  promotes :
      (w : World) (s : Said) (key : List ℕ) (base : Option ℕ) → w.operations ≡ os
      → Effect place os s (promoted w key base).operations
  promotes w s key None e = Same e
  promotes w s key (Some base) e = Same e

  switch_takes :
      (w : World) (state : Switch) (s : Said) (p : Packet) (d : SwitchDid) → w.operations ≡ os
      → Effect place os s (after_switch w state p d).operations
  switch_takes w state s (packet.Write client seq key content)
      (switch_did.Wrote server written version) e =
      Stamps client seq version (ap (changed_at client seq (stamped_as version)) e)
  switch_takes w state s (packet.Command number (packet.Promote key))
      (switch_did.Applied applied (outcome.Listed listing)) e =
      promotes w s key (base_of state.entries key) e
  switch_takes w state s _ _ e = Same e

-- ---- each event

abbrev pub Happens : World → World × Line → Type 0
Happens w r = Effect w.place w.operations r.1.said r.0.operations

issued : (w : World) (client : ℕ) (key : List ℕ) (a : Ask) → Happens w (issues w client key a)
issued w client key a =
    let step = begin_operation (client_of w client) key a in
    begun w.place w.operations client key a (with_client w step.state) step.did refl

delivered : (w : World) (to : Node) (p : Packet) (pick : ℕ) → Happens w (delivers w to p pick)
delivered w (node.Client id) p pick =
    let step = client_step (client_of w id) p in
    client_takes w.place w.operations (with_client w step.state) id step.did refl refl
delivered w (node.Server id) p pick =
    let step = server_step (server_of w id) p in
    server_takes w.place w.operations (with_server w step.state) (said.Server id step.did) step.did
    refl
delivered w (node.Switch id) p pick =
    let step = switch_step (switch_of w id) p pick in
    switch_takes w.place w.operations (with_switch w step.state) step.state
    (said.Switch id step.did) p step.did refl
delivered w node.Controller p pick = Same refl

delivered_item : (w : World) (number : ℕ) (item : Option (Node × Packet)) (pick : ℕ)
    → Happens w (delivers_item w number item pick)
delivered_item w number None pick = Same refl
delivered_item w number (Some item) pick = delivered w item.0 item.1 pick

pub happened : (w : World) (e : Event) → Happens w (happens w e)
unfolding happens
happened w (event.Read client key) = issued w client key ask.Read
happened w (event.Write client key value) = issued w client key (ask.Write (Present value))
happened w (event.Delete client key) = issued w client key (ask.Write Absent)
happened w (event.Deliver number pick) =
    delivered_item w number (slice_get w.packets number) pick
happened w _ = Same refl
