-- A client: at most one operation is pending, and the first reply to it answers it.
--     begin_operation c key ask      an operation is to begin: a read, or a write of a content
--     resend, give_up      what becomes of the pending operation
--     client_step c packet      one step on a packet
use Rattle.std.specs.Prelude.{◌+◌, ℕ, Bool, true, false, not, ◌&&◌, ◌==◌, nat_lt, Option, Some}
use Rattle.std.specs.Prelude.{None, List, [], ◌∷◌, if◌then◌else◌}
use Rattle.std.specs.Str.{bytes_eq}
use Rattle.peg_name.specs.declared.Format.{Format}
use Rattle.peg_name.specs.declared.Node.{Node}
use Rattle.peg_name.specs.declared.Node.TheVariants as node
use Rattle.peg_event.specs.declared.ClientDid.{ClientDid}
use Rattle.peg_event.specs.declared.ClientDid.TheVariants as did
use Rattle.peg_event.specs.declared.answers.Issue.{Issue}
use Rattle.peg_event.specs.declared.answers.Issue.TheVariants as issue
use Rattle.peg_event.specs.declared.answers.Ask.{Ask}
use Rattle.peg_event.specs.declared.answers.Ask.TheVariants as ask
use Rattle.peg_event.specs.declared.answers.Pending.{Pending}
use Rattle.peg_model.specs.Words.{last_number, Step, refuse}
use Rattle.peg_model.specs.Packet.{Packet, Read, Write, ReadReply, WriteReply, Announce}

pub record Client : Type 0 where
  pub format : Format
  pub id : ℕ
  pub next : ℕ
  pub pending : Option Pending
  pub switch : ℕ
  pub epoch : ℕ

abbrev pub new_client : Format → ℕ → ℕ → Client
new_client format id first =
    record { format = format; id = id; next = first; pending = None; switch = 0; epoch = 1 }

abbrev pub request_of : ℕ → ℕ → List ℕ → Ask → Packet
request_of id seq key ask.Read = Read id seq key
request_of id seq key (ask.Write content) = Write id seq key content

-- the pending operation's request, to the client's switch
abbrev pub request : Client → Pending → List (Node × Packet)
request c p = (node.Switch c.switch, request_of c.id p.seq p.key p.ask) ∷ []

abbrev pub issued : Client → Pending → Step Client (Node × Packet) Issue
issued c p =
    if c.next == last_number then refuse c issue.Spent
    else record {
      state = record c { next = c.next + 1; pending = Some p };
      sent = request c p;
      did = issue.Sent c.next;
    }

abbrev pub begin_unless :
    Option Pending → Client → List ℕ → Ask → Step Client (Node × Packet) Issue
begin_unless (Some p) c key ask = refuse c (issue.Busy p.seq)
begin_unless None c key ask = issued c (record { seq = c.next; key = key; ask = ask })

abbrev pub begin_operation : Client → List ℕ → Ask → Step Client (Node × Packet) Issue
begin_operation c key ask = begin_unless c.pending c key ask

abbrev pub resend_of : Option Pending → Client → Step Client (Node × Packet) (Option ℕ)
resend_of (Some p) c = record { state = c; sent = request c p; did = Some p.seq }
resend_of None c = refuse c None

abbrev pub resend : Client → Step Client (Node × Packet) (Option ℕ)
resend c = resend_of c.pending c

abbrev pub give_up_of : Option Pending → Client → Step Client (Node × Packet) (Option ℕ)
give_up_of (Some p) c = record { state = record c { pending = None }; sent = []; did = Some p.seq }
give_up_of None c = refuse c None

abbrev pub give_up : Client → Step Client (Node × Packet) (Option ℕ)
give_up c = give_up_of c.pending c

abbrev pub is_read : Ask → Bool
is_read ask.Read = true
is_read (ask.Write content) = false

-- the numbers and the key are those of the pending operation
abbrev pub matches : Client → Pending → ℕ → ℕ → List ℕ → Bool
matches c p client seq key = client == c.id && seq == p.seq && bytes_eq key p.key

abbrev pub is_read_of : Option Pending → Client → ℕ → ℕ → List ℕ → Bool
is_read_of None c client seq key = false
is_read_of (Some p) c client seq key = is_read p.ask && matches c p client seq key

abbrev pub is_write_of : Option Pending → Client → ℕ → ℕ → List ℕ → Bool
is_write_of None c client seq key = false
is_write_of (Some p) c client seq key = not (is_read p.ask) && matches c p client seq key

abbrev pub awaits_read : Client → ℕ → ℕ → List ℕ → Bool
awaits_read c client seq key = is_read_of c.pending c client seq key

abbrev pub awaits_write : Client → ℕ → ℕ → List ℕ → Bool
awaits_write c client seq key = is_write_of c.pending c client seq key

abbrev pub answered : Client → ClientDid → Step Client (Node × Packet) ClientDid
answered c did = record { state = record c { pending = None }; sent = []; did = did }

unfoldable pub client_step : Client → Packet → Step Client (Node × Packet) ClientDid
client_step c (ReadReply client seq version server switch key content) =
    if awaits_read c client seq key then answered c (did.Read seq version content)
    else refuse c did.Ignored
client_step c (WriteReply client seq version server switch key) =
    if awaits_write c client seq key then answered c (did.Wrote seq version)
    else refuse c did.Ignored
client_step c (Announce epoch switch) =
    if nat_lt c.epoch epoch
    then record {
      state = record c { switch = switch; epoch = epoch };
      sent = [];
      did = did.Moved switch epoch;
    }
    else refuse c did.Ignored
client_step c _ = refuse c did.Ignored
