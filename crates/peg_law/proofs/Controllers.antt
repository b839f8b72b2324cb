-- The controller sends no request.
use Rattle.std.proofs.Common.{◌+◌, ◌-◌, ◌==◌, ◌++◌, ℕ, Bool, true, false, if◌then◌else◌, not}
use Rattle.std.proofs.Common.{nat_lt, List, [], ◌∷◌, Option, Some, None, is_some}
use Rattle.std.specs.Prelude.{take}
use Rattle.std.specs.List.{AllByRecursion}
use Rattle.peg_name.specs.Name.{Rack}
use Rattle.peg_name.specs.declared.Node.TheVariants as node
use Rattle.peg_name.specs.declared.Row.{Row}
use Rattle.peg_event.specs.declared.Outcome.{Outcome}
use Rattle.peg_event.specs.declared.Outcome.TheVariants as outcome
use Rattle.peg_event.specs.declared.Command.{Command}
use Rattle.peg_event.specs.declared.ControlDid.TheVariants as control_did
use Rattle.peg_event.specs.declared.answers.Order.TheVariants as order
use Rattle.peg_event.specs.declared.answers.Plan.TheVariants as plan
use Rattle.peg_model.specs.Words.{refuse, below, last_number}
use Rattle.peg_model.specs.Packet as packet
use Rattle.peg_model.specs.Packet.{Packet}
use Rattle.peg_model.specs.Controller.{Controller, announces, announced, acknowledged, takes}
use Rattle.peg_model.specs.Controller.{sends_all, learned, is_strange, order_command, ordered}
use Rattle.peg_model.specs.Controller.{retry_command, retry_of, make_plan, planned, no_such}
use Rattle.peg_model.specs.Controller.{is_handover_to, sends_command, demotions, promotions}
use Rattle.peg_model.specs.Controller.{controller_step}
use Rattle.peg_law.proofs.Lists.{all_append, all_map}
use Rattle.peg_law.proofs.Known.{IsNoRequest, SendsNone}

none_announced :
    (rack : Rack) (epoch switch : ℕ) → AllByRecursion IsNoRequest (announces rack epoch switch)
none_announced rack epoch switch =
    all_map IsNoRequest (λ client. (node.Client client, packet.Announce epoch switch))
    (below rack.clients) (λ client. tt)

none_activated :
    (rack : Rack) (c : Controller) (o : Outcome) → AllByRecursion IsNoRequest (announced rack c o)
none_activated rack c (outcome.Activated epoch) = none_announced rack c.epoch c.switch
none_activated rack c _ = tt

none_sent_all :
    {D : Type 0} (c : Controller) (commands : List Command) (did : D)
    → SendsNone (sends_all c commands did)
none_sent_all c [] did = tt
none_sent_all c (command ∷ queue) did = (tt, tt)

none_taken :
    (rack : Rack) (c : Controller) (k : Command) (o : Outcome) → SendsNone (takes rack c k o)
none_taken rack c k o =
    let now : Controller = record (learned c k o) { pending = None } in
    all_append IsNoRequest (announced rack now o) (sends_all now c.queue (tt {0})).sent
    (none_activated rack now o) (none_sent_all now c.queue tt)

none_acknowledged :
    (pending : Option Command) (rack : Rack) (c : Controller) (number : ℕ) (o : Outcome)
    → SendsNone (acknowledged pending rack c number o)
none_acknowledged None rack c number o = tt
none_acknowledged (Some k) rack c number o =
    first (not (number == c.last)) (is_strange rack c k o)
  where
    first : (b b' : Bool)
        → SendsNone
        (if b then refuse c control_did.Ignored
        else (if b' then refuse c control_did.OutOfPlace else takes rack c k o))
    first true b' = tt
    first false true = tt
    first false false = none_taken rack c k o

pub controller_sends_none : (c : Controller) (p : Packet) → SendsNone (controller_step c p)
unfolding controller_step
controller_sends_none c (packet.CommandAck number o) = none_acknowledged c.pending c.rack c number o
controller_sends_none c (packet.Report epoch total rows) = tt
controller_sends_none c _ = tt

none_ordered_to :
    (target : Option ℕ) (c : Controller) (k : Command) → SendsNone (ordered target c k)
none_ordered_to (Some target) c k = tt
none_ordered_to None c k = first (is_handover_to c.switch k)
  where
    first : (b : Bool)
        → SendsNone
        (if b then refuse c (order.SameSwitch c.switch)
        else sends_command c k (order.Sent (c.last + 1)))
    first true = tt
    first false = (tt, tt)

pub order_sends_none : (c : Controller) (k : Command) → SendsNone (order_command c k)
order_sends_none c k = first (is_some c.pending) (c.last == last_number - 1)
  where
    first : (b b' : Bool)
        → SendsNone
        (if b then refuse c (order.Busy c.last)
        else (if b' then refuse c (order.Spent c.last) else ordered (no_such c.rack k) c k))
    first true b' = tt
    first false true = tt
    first false false = none_ordered_to (no_such c.rack k) c k

pub retry_sends_none : (c : Controller) → SendsNone (retry_command c)
retry_sends_none c = none_retried c.pending
  where
    none_retried : (pending : Option Command) → SendsNone (retry_of pending c.rack c)
    none_retried (Some k) = (tt, tt)
    none_retried None = none_announced c.rack c.epoch c.switch

none_planned : (rows : Option (List Row)) (c : Controller) (promote_at demote_below : ℕ)
    → SendsNone (planned rows c promote_at demote_below)
none_planned None c promote_at demote_below = tt
none_planned (Some rows) c promote_at demote_below =
    let commands =
    take 64 (demotions c.known rows demote_below ++ promotions c.known rows promote_at) in
    none_sent_all c commands _

pub plan_sends_none :
    (c : Controller) (promote_at demote_below : ℕ) → SendsNone (make_plan c promote_at demote_below)
plan_sends_none c promote_at demote_below =
    first (is_some c.pending) (nat_lt (last_number - 65) c.last)
  where
    first : (b b' : Bool)
        → SendsNone
        (if b then refuse c (plan.Busy c.last)
        else (if b' then refuse c (plan.Spent c.last)
        else planned c.report c promote_at demote_below))
    first true b' = tt
    first false true = tt
    first false false = none_planned c.report c promote_at demote_below
