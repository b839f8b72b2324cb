-- What no step of a node says where its packet is in place.
use Rattle.std.proofs.Common.{◌≡◌, ◌+◌, ◌==◌, ℕ, Bool, true, false, List}
use Rattle.std.proofs.Common.{[], ◌∷◌}
use Rattle.std.proofs.Common.{cond, Option, Some, None, refl}
use Rattle.peg_name.specs.declared.value.Content.{Content}
use Rattle.peg_name.specs.declared.value.Content.TheVariants.{Absent, Present}
use Rattle.peg_name.specs.declared.Format.{Format}
use Rattle.peg_name.specs.declared.Node.{Node}
use Rattle.peg_name.specs.declared.Node.TheVariants as node
use Rattle.peg_event.specs.declared.answers.Ask.{Ask}
use Rattle.peg_event.specs.declared.answers.Ask.TheVariants as ask
use Rattle.peg_event.specs.declared.answers.Apply.{Apply}
use Rattle.peg_event.specs.declared.answers.Apply.TheVariants as apply
use Rattle.peg_event.specs.declared.Command.{Command}
use Rattle.peg_event.specs.declared.answers.CopyFrom.{CopyFrom}
use Rattle.peg_event.specs.declared.answers.CopyFrom.TheVariants as copy_from
use Rattle.peg_event.specs.declared.answers.FenceDid.{FenceDid}
use Rattle.peg_event.specs.declared.answers.FenceDid.TheVariants as fence_did
use Rattle.peg_event.specs.declared.answers.FenceOf.{FenceOf}
use Rattle.peg_event.specs.declared.answers.FenceOf.TheVariants as fence_at
use Rattle.peg_event.specs.declared.answers.Forward.{Forward}
use Rattle.peg_event.specs.declared.answers.Forward.TheVariants as forward
use Rattle.peg_event.specs.declared.answers.Issue.{Issue}
use Rattle.peg_event.specs.declared.answers.Issue.TheVariants as issue
use Rattle.peg_event.specs.declared.answers.Order.{Order}
use Rattle.peg_event.specs.declared.answers.Order.TheVariants as order
use Rattle.peg_event.specs.declared.answers.Plan.{Plan}
use Rattle.peg_event.specs.declared.answers.Plan.TheVariants as plan
use Rattle.peg_event.specs.declared.answers.Retry.{Retry}
use Rattle.peg_event.specs.declared.answers.Retry.TheVariants as retry
use Rattle.peg_event.specs.declared.Said.{Said}
use Rattle.peg_event.specs.declared.Said.TheVariants as said
use Rattle.peg_event.specs.declared.SwitchDid.TheVariants as switch_did
use Rattle.peg_event.specs.declared.ServerDid.TheVariants as server_did
use Rattle.peg_event.specs.declared.answers.Stored.{Stored}
use Rattle.peg_event.specs.declared.answers.WriteDid.{WriteDid}
use Rattle.peg_event.specs.declared.answers.WriteDid.TheVariants as write_did
use Rattle.peg_model.specs.Words.{refuse}
use Rattle.peg_model.specs.Packet as packet
use Rattle.peg_model.specs.Packet.{Packet, What}
use Rattle.peg_model.specs.Rules.{Core}
use Rattle.peg_model.specs.Rules.{copy_source, fence_of}
use Rattle.peg_model.specs.Server.{Server, ServerStep, serve_write, serve_copy}
use Rattle.peg_model.specs.Server.{serve_fence, held}
use Rattle.peg_model.specs.Switch.{Switch, SwitchStep, forwards_read, forwards_write, takes_void}
use Rattle.peg_model.specs.Switch.{core_of, copies, fences, carry_out, on_command, repeats}
use Rattle.peg_model.specs.Switch.{sends_again}
use Rattle.peg_model.specs.World.{issue_said, resend_said, give_up_said, order_said, retry_said}
use Rattle.peg_model.specs.World.{plan_said, junk_said}
use Rattle.peg_model.specs.Moments.{says_out_of_place, says_malformed, is_refused_at}

-- neither out of place nor malformed
abbrev pub IsFine : Said → Type 0
IsFine s = (says_out_of_place s ≡ false) × (says_malformed s ≡ false)

pub issue_fine : (client : ℕ) (k : Ask) (d : Issue) → IsFine (issue_said client k d)
issue_fine client k (issue.Busy seq) = (refl, refl)
issue_fine client k issue.Spent = (refl, refl)
issue_fine client ask.Read (issue.Sent seq) = (refl, refl)
issue_fine client (ask.Write (Present value)) (issue.Sent seq) = (refl, refl)
issue_fine client (ask.Write Absent) (issue.Sent seq) = (refl, refl)

pub resend_fine : (client : ℕ) (o : Option ℕ) → IsFine (resend_said client o)
resend_fine client None = (refl, refl)
resend_fine client (Some seq) = (refl, refl)

pub give_up_fine : (client : ℕ) (o : Option ℕ) → IsFine (give_up_said client o)
give_up_fine client None = (refl, refl)
give_up_fine client (Some seq) = (refl, refl)

pub order_fine : (c : Command) (o : Order) → IsFine (order_said c o)
order_fine c (order.Busy pending) = (refl, refl)
order_fine c (order.Spent last) = (refl, refl)
order_fine c (order.NoSuch target) = (refl, refl)
order_fine c (order.SameSwitch switch) = (refl, refl)
order_fine c (order.Sent number) = (refl, refl)

pub retry_fine : (r : Retry) → IsFine (retry_said r)
retry_fine (retry.Command number) = (refl, refl)
retry_fine (retry.Announced epoch) = (refl, refl)

pub plan_fine : (p : Plan) → IsFine (plan_said p)
plan_fine (plan.Busy pending) = (refl, refl)
plan_fine (plan.Spent last) = (refl, refl)
plan_fine plan.NoReport = (refl, refl)
plan_fine (plan.Planned demotes promotes) = (refl, refl)

pub junk_fine :
    (to : Node) (p : Option (Format × Packet))
    → (says_out_of_place (junk_said to p) ≡ false)
    × (says_malformed (junk_said to p) ≡ is_refused_at to p)
junk_fine (node.Client id) None = (refl, refl)
junk_fine (node.Server id) None = (refl, refl)
junk_fine (node.Switch id) None = (refl, refl)
junk_fine node.Controller None = (refl, refl)
junk_fine (node.Client id) (Some p) = (refl, refl)
junk_fine (node.Server id) (Some p) = (refl, refl)
junk_fine (node.Switch id) (Some p) = (refl, refl)
junk_fine node.Controller (Some p) = (refl, refl)

-- ---- servers

abbrev pub ServerFine : ServerStep → Type 0
ServerFine step = (id : ℕ) → IsFine (said.Server id step.did)

pub write_fine :
    (d : WriteDid) (s : Server) (client seq version switch : ℕ) (key : List ℕ) (content : Content)
    → ServerFine (serve_write d s client seq version switch key content)
write_fine write_did.Applied s client seq version switch key content = λ id. (refl, refl)
write_fine (write_did.Kept held) s client seq version switch key content = λ id. (refl, refl)
write_fine (write_did.Void floor) s client seq version switch key content = λ id. (refl, refl)
write_fine (write_did.Barred old) s client seq version switch key content = λ id. (refl, refl)

pub copy_fine :
    (d : Apply) (s : Server) (version switch : ℕ) (key : List ℕ) (content : Content)
    → ServerFine (serve_copy d s version switch key content)
copy_fine apply.Applied s version switch key content = λ id. (refl, refl)
copy_fine (apply.Kept held) s version switch key content = λ id. (refl, refl)

pub fence_fine :
    (d : FenceDid) (s : Server) (version switch : ℕ) (key : List ℕ)
    → ServerFine (serve_fence d s version switch key)
fence_fine (fence_did.Fenced held) s version switch key = λ id. (refl, refl)
fence_fine (fence_did.Kept held) s version switch key = λ id. (refl, refl)

pub order_copy_fine :
    (b : Bool) (was : Stored) (s : Server) (switch target : ℕ) (key : List ℕ)
    → let step : ServerStep =
    cond b (refuse s (server_did.HasNone key))
    (record {
      state = s;
      sent = (node.Server target, packet.CopyData switch target was.version key was.content) ∷ [];
      did = server_did.Copied key was.version target;
    }) in
    ServerFine step
order_copy_fine true was s switch target key = λ id. (refl, refl)
order_copy_fine false was s switch target key = λ id. (refl, refl)

-- ---- switches

abbrev pub SwitchFine : SwitchStep → Type 0
SwitchFine step = (id : ℕ) → IsFine (said.Switch id step.did)

pub read_fine : (f : Forward) (s : Switch) (client seq : ℕ) (key : List ℕ)
    → SwitchFine (forwards_read f s client seq key)
read_fine (forward.To server version) s client seq key = λ id. (refl, refl)
read_fine (forward.Stale last) s client seq key = λ id. (refl, refl)
read_fine (forward.Exhausted next) s client seq key = λ id. (refl, refl)

pub forward_fine :
    (f : Forward) (c : Core) (s : Switch) (client seq : ℕ) (key : List ℕ) (content : Content)
    → SwitchFine (forwards_write (f, c) s client seq key content)
forward_fine (forward.To server version) c s client seq key content = λ id. (refl, refl)
forward_fine (forward.Stale last) c s client seq key content = λ id. (refl, refl)
forward_fine (forward.Exhausted next) c s client seq key content = λ id. (refl, refl)

pub void_fine : (b : Bool) (c : Core) (s : Switch) (client seq version : ℕ)
    → SwitchFine (takes_void (b, c) s client seq version)
void_fine true c s client seq version = λ id. (refl, refl)
void_fine false c s client seq version = λ id. (refl, refl)

copies_fine : (f : CopyFrom) (s : Switch) (number target : ℕ) (key : List ℕ)
    → SwitchFine (copies f s number target key)
copies_fine copy_from.NotListed s number target key = λ id. (refl, refl)
copies_fine copy_from.Holds s number target key = λ id. (refl, refl)
copies_fine (copy_from.From source) s number target key = λ id. (refl, refl)

fences_fine : (f : FenceOf) (s : Switch) (number : ℕ) (key : List ℕ) →
    SwitchFine (fences f s number key)
fences_fine fence_at.NotListed s number key = λ id. (refl, refl)
fences_fine fence_at.NoBase s number key = λ id. (refl, refl)
fences_fine (fence_at.At home base) s number key = λ id. (refl, refl)

carry_fine : (s : Switch) (number : ℕ) (what : What) → SwitchFine (carry_out s number what)
carry_fine s number (packet.Promote key) = λ id. (refl, refl)
carry_fine s number (packet.Demote key) = λ id. (refl, refl)
carry_fine s number (packet.Copy target key) =
    copies_fine (copy_source (core_of s) key target) s number target key
carry_fine s number (packet.FenceKey key) = fences_fine (fence_of (core_of s) key) s number key
carry_fine s number (packet.Seal target epoch) = λ id. (refl, refl)
carry_fine s number packet.Clear = λ id. (refl, refl)

pub command_fine : (s : Switch) (number : ℕ) (what : What) → SwitchFine (on_command s number what)
command_fine s number what = by_tests (number == s.last + 1) (number == s.last)
  where
    by_tests :
        (a b : Bool)
        → SwitchFine
        (cond a (carry_out s number what)
        (cond b (repeats s) (refuse s (switch_did.Skipped number s.last))))
    by_tests true b = carry_fine s number what
    by_tests false true = λ id. (refl, refl)
    by_tests false false = λ id. (refl, refl)

pub again_fine : (s : Switch) (target number : ℕ) (b : Bool)
    → let step : SwitchStep =
    cond b (sends_again s target) (refuse s (switch_did.Skipped number s.last)) in
    SwitchFine step
again_fine s target number true = λ id. (refl, refl)
again_fine s target number false = λ id. (refl, refl)
