-- A client stays in its format, and sends to switches.
use Rattle.std.proofs.Common.{◌≡◌, ℕ, Bool, true, false, Option, Some, None, List, refl, nat_lt, ◌==◌}
use Rattle.std.specs.Prelude.{if◌then◌else◌}
use Rattle.peg_name.specs.declared.Format.{Format}
use Rattle.peg_name.specs.declared.Node.{Node}
use Rattle.peg_event.specs.declared.answers.Ask.{Ask}
use Rattle.peg_event.specs.declared.answers.Pending.{Pending}
use Rattle.peg_event.specs.declared.ClientDid.TheVariants as client_did
use Rattle.peg_model.specs.Words.{Step, last_number}
use Rattle.peg_model.specs.Packet.{Packet, ReadReply, WriteReply, Announce}
use Rattle.peg_model.specs.Reading.{packet_of, is_format}
use Rattle.peg_model.specs.Client.{Client, begin_unless, begin_operation, resend_of, resend, give_up_of}
use Rattle.peg_model.specs.Client.{give_up, client_step, awaits_read, awaits_write}
use Rattle.peg_model.specs.Datagrams.{on_bytes, client_on_bytes, spelled}
use Rattle.peg_node.specs.Askers.{AreForSwitches}

either :
    {D : Type 0} (b : Bool) (x y : Step Client (Node × Packet) D) (f : Format)
    → x.state.format ≡ f → y.state.format ≡ f → (if b then x else y).state.format ≡ f
either true x y f is other = is
either false x y f is other = other

begun_format :
    (p : Option Pending) (c : Client) (key : List ℕ) (a : Ask)
    → (begin_unless p c key a).state.format ≡ c.format
begun_format (Some p) c key a = refl
begun_format None c key a = either (c.next == last_number) _ _ c.format refl refl

pub issue_format :
    (c : Client) (key : List ℕ) (a : Ask) → (begin_operation c key a).state.format ≡ c.format
issue_format c key a = begun_format c.pending c key a

resent_format : (p : Option Pending) (c : Client) → (resend_of p c).state.format ≡ c.format
resent_format (Some p) c = refl
resent_format None c = refl

pub resend_format : (c : Client) → (resend c).state.format ≡ c.format
resend_format c = resent_format c.pending c

given_format : (p : Option Pending) (c : Client) → (give_up_of p c).state.format ≡ c.format
given_format (Some p) c = refl
given_format None c = refl

pub give_up_format : (c : Client) → (give_up c).state.format ≡ c.format
give_up_format c = given_format c.pending c

step_format : (c : Client) (p : Packet) → (client_step c p).state.format ≡ c.format
unfolding client_step
step_format c (ReadReply client seq version server switch key content) =
    either (awaits_read c client seq key) _ _ c.format refl refl
step_format c (WriteReply client seq version server switch key) =
    either (awaits_write c client seq key) _ _ c.format refl refl
step_format c (Announce epoch switch) = either (nat_lt c.epoch epoch) _ _ c.format refl refl
step_format c _ = refl

read_format :
    (o : Option (Format × Packet)) (c : Client)
    → (on_bytes o c.format (client_step c) c client_did.Ignored client_did.Ignored).state.format
    ≡ c.format
read_format None c = refl
read_format (Some (other, p)) c =
    either (is_format other c.format) _ _ c.format (step_format c p) refl

pub bytes_format : (c : Client) (bytes : List ℕ) → (client_on_bytes c bytes).state.format ≡ c.format
bytes_format c bytes = read_format (packet_of bytes) c

-- ---- where it sends

either_sent :
    {D : Type 0} (f : Format) (b : Bool) (x y : Step Client (Node × Packet) D)
    → AreForSwitches (spelled f x.sent) → AreForSwitches (spelled f y.sent)
    → AreForSwitches (spelled f (if b then x else y).sent)
either_sent f true x y is other = is
either_sent f false x y is other = other

begun_sent :
    (f : Format) (p : Option Pending) (c : Client) (key : List ℕ) (a : Ask)
    → AreForSwitches (spelled f (begin_unless p c key a).sent)
begun_sent f (Some p) c key a = tt
begun_sent f None c key a = either_sent f (c.next == last_number) _ _ tt (tt, tt)

pub issue_sent :
    (f : Format) (c : Client) (key : List ℕ) (a : Ask)
    → AreForSwitches (spelled f (begin_operation c key a).sent)
issue_sent f c key a = begun_sent f c.pending c key a

resent : (f : Format) (p : Option Pending) (c : Client) → AreForSwitches (spelled f (resend_of p c).sent)
resent f (Some p) c = (tt, tt)
resent f None c = tt

pub resend_sent : (f : Format) (c : Client) → AreForSwitches (spelled f (resend c).sent)
resend_sent f c = resent f c.pending c
