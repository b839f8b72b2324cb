-- Refusals: answers of a node that has changed nothing and sent nothing.
--     LeavesAll s step      the step leaves the node as it is and sends nothing
--     server_refuses, switch_refuses, client_refuses, controller_refuses did      whether what the
--         node did with a datagram is such an answer
--     issue_refuses, order_refuses, plan_refuses did      the same of what it was asked for
use Rattle.std.specs.Prelude.{◌≡◌, Bool, true, false, []}
use Rattle.peg_event.specs.declared.ClientDid.{ClientDid}
use Rattle.peg_event.specs.declared.ClientDid.TheVariants as client_did
use Rattle.peg_event.specs.declared.ControlDid.{ControlDid}
use Rattle.peg_event.specs.declared.ControlDid.TheVariants as control_did
use Rattle.peg_event.specs.declared.answers.Issue.{Issue}
use Rattle.peg_event.specs.declared.answers.Issue.TheVariants as issue
use Rattle.peg_event.specs.declared.answers.Order.{Order}
use Rattle.peg_event.specs.declared.answers.Order.TheVariants as order
use Rattle.peg_event.specs.declared.answers.Plan.{Plan}
use Rattle.peg_event.specs.declared.answers.Plan.TheVariants as plan
use Rattle.peg_event.specs.declared.ServerDid.{ServerDid}
use Rattle.peg_event.specs.declared.ServerDid.TheVariants as server_did
use Rattle.peg_event.specs.declared.SwitchDid.{SwitchDid}
use Rattle.peg_event.specs.declared.SwitchDid.TheVariants as switch_did
use Rattle.peg_model.specs.Words.{Step}

abbrev pub LeavesAll : {S P D : Type 0} → S → Step S P D → Type 0
LeavesAll s step = (step.state ≡ s) × (step.sent ≡ [])

-- bytes that are no packet or are not for it, an order to copy where nothing is held, and a write
-- that a fence bars
abbrev pub server_refuses : ServerDid → Bool
server_refuses server_did.Malformed = true
server_refuses server_did.OutOfPlace = true
server_refuses (server_did.HasNone key) = true
server_refuses (server_did.Barred key version old) = true
server_refuses _ = false

abbrev pub switch_refuses : SwitchDid → Bool
switch_refuses switch_did.Malformed = true
switch_refuses switch_did.OutOfPlace = true
switch_refuses (switch_did.NotActive epoch) = true
switch_refuses (switch_did.OldPart epoch) = true
switch_refuses (switch_did.HasPart index) = true
switch_refuses (switch_did.Skipped number last) = true
switch_refuses (switch_did.Stale last) = true
switch_refuses (switch_did.Exhausted next) = true
switch_refuses (switch_did.VoidSkipped client seq) = true
switch_refuses _ = false

abbrev pub client_refuses : ClientDid → Bool
client_refuses client_did.Ignored = true
client_refuses _ = false

abbrev pub controller_refuses : ControlDid → Bool
controller_refuses control_did.Malformed = true
controller_refuses control_did.OutOfPlace = true
controller_refuses control_did.Ignored = true
controller_refuses _ = false

-- ---- what a node was asked for

abbrev pub issue_refuses : Issue → Bool
issue_refuses (issue.Sent seq) = false
issue_refuses _ = true

abbrev pub order_refuses : Order → Bool
order_refuses (order.Sent number) = false
order_refuses _ = true

abbrev pub plan_refuses : Plan → Bool
plan_refuses (plan.Planned demotes promotes) = false
plan_refuses _ = true
