-- A client that begins an operation, sends it again or gives it up.
use Rattle.std.proofs.Common.{◌≡◌, ℕ, ◌<◌, ◌+◌, ◌==◌, true, List, [], refl, ap, ◌∙◌}
use Rattle.std.proofs.Common.{arith, Option, Some, None, nat_lt}
use Rattle.std.specs.Prelude.{◌&&◌}
use Rattle.std.proofs.lemmas.Bool.{cond_both}
use Rattle.std.proofs.lemmas.Bool.Decides.{nat_tests}
use Rattle.peg_name.specs.Name.{Rack}
use Rattle.peg_name.specs.declared.Node.{Node}
use Rattle.peg_event.specs.declared.answers.Ask.{Ask}
use Rattle.peg_event.specs.declared.answers.Ask.TheVariants as ask
use Rattle.peg_event.specs.declared.answers.Issue.{Issue}
use Rattle.peg_event.specs.declared.answers.Issue.TheVariants as issue
use Rattle.peg_event.specs.declared.answers.Pending.{Pending}
use Rattle.peg_model.specs.Words.{Step, refuse, last_number}
use Rattle.peg_model.specs.Packet.{Packet}
use Rattle.peg_model.specs.Client.{Client, request, request_of, begin_operation, begin_unless}
use Rattle.peg_model.specs.Client.{resend, resend_of, give_up, give_up_of}
use Rattle.peg_packet.specs.Nodes.{are_in_rack, announces_in}
use Rattle.peg_world.specs.Sound.{IsClient}

below_test : (a b : ℕ) → a < b → (nat_lt a b && true) ≡ true
below_test a b h = grind (arith, nat_tests, h)

announces_none :
    (rack : Rack) (id seq : ℕ) (key : List ℕ) (a : Ask)
    → announces_in rack (request_of id seq key a) ≡ true
announces_none rack id seq key ask.Read = refl
announces_none rack id seq key (ask.Write content) = refl

request_goes :
    (rack : Rack) (c : Client) (p : Pending)
    → c.switch < rack.switches → are_in_rack rack (request c p) ≡ true
request_goes rack c p small =
    ap (λ b. b && nat_lt c.switch rack.switches && true)
    (announces_none rack c.id p.seq p.key p.ask)
    ∙ below_test c.switch rack.switches small

-- what holds where nothing began, and where an operation did
pub begun_both :
    (P : Step Client (Node × Packet) Issue → Type 0) (c : Client) (key : List ℕ) (a : Ask)
    → ((seq : ℕ) → P (refuse c (issue.Busy seq))) → P (refuse c issue.Spent)
    → ((p : Pending) → p.seq ≡ c.next
    → P (record {
      state = record c { next = c.next + 1; pending = Some p };
      sent = request c p;
      did = issue.Sent c.next;
    }))
    → P (begin_operation c key a)
begun_both P c key a busy spent sends = first c.pending
  where
    p : Pending
    p = record { seq = c.next; key = key; ask = a }

    first : (o : Option Pending) → P (begin_unless o c key a)
    first (Some other) = busy other.seq
    first None =
        cond_both (c.next == last_number) (refuse c issue.Spent)
        (record {
          state = record c { next = c.next + 1; pending = Some p };
          sent = request c p;
          did = issue.Sent c.next;
        }) P (λ e. spent) (λ e. sends p refl)

pub begin_goes :
    (rack : Rack) (c : Client) (key : List ℕ) (a : Ask)
    → c.switch < rack.switches → are_in_rack rack (begin_operation c key a).sent ≡ true
begin_goes rack c key a small =
    begun_both (λ (s : Step Client (Node × Packet) Issue). are_in_rack rack s.sent ≡ true) c key a
    (λ seq. refl) refl (λ p is. request_goes rack c p small)

pub begin_named : (c : Client) (key : List ℕ) (a : Ask) → (begin_operation c key a).state.id ≡ c.id
begin_named c key a =
    begun_both (λ (s : Step Client (Node × Packet) Issue). s.state.id ≡ c.id) c key a
    (λ seq. refl) refl (λ p is. refl)

pub begin_is :
    (rack : Rack) (id : ℕ) (c : Client) (key : List ℕ) (a : Ask)
    → IsClient rack id c → IsClient rack id (begin_operation c key a).state
begin_is rack id c key a is =
    begun_both (λ (s : Step Client (Node × Packet) Issue). IsClient rack id s.state) c key a
    (λ seq. is) is
    (λ p seq. record { named = is.named; speaks = is.speaks; asks = is.asks })

-- ---- sent again

pub resend_goes :
    (rack : Rack) (c : Client) → c.switch < rack.switches → are_in_rack rack (resend c).sent ≡ true
resend_goes rack c small = first c.pending
  where
    first : (o : Option Pending) → are_in_rack rack (resend_of o c).sent ≡ true
    first (Some p) = request_goes rack c p small
    first None = refl

pub resend_keeps : (c : Client) → (resend c).state ≡ c
resend_keeps c = first c.pending
  where
    first : (o : Option Pending) → (resend_of o c).state ≡ c
    first (Some p) = refl
    first None = refl

-- ---- given up

pub give_up_named : (c : Client) → (give_up c).state.id ≡ c.id
give_up_named c = first c.pending
  where
    first : (o : Option Pending) → (give_up_of o c).state.id ≡ c.id
    first (Some p) = refl
    first None = refl

pub give_up_sends : (c : Client) → (give_up c).sent ≡ []
give_up_sends c = first c.pending
  where
    first : (o : Option Pending) → (give_up_of o c).sent ≡ []
    first (Some p) = refl
    first None = refl

pub give_up_is :
    (rack : Rack) (id : ℕ) (c : Client)
    → IsClient rack id c → IsClient rack id (give_up c).state
give_up_is rack id c is = first c.pending
  where
    first : (o : Option Pending) → IsClient rack id (give_up_of o c).state
    first (Some p) = record { named = is.named; speaks = is.speaks; asks = is.asks }
    first None = is
