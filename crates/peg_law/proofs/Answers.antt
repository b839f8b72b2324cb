-- A client that is handed the reply to its pending operation takes it.
use Rattle.std.proofs.Common.{◌≡◌, ◌==◌, ◌&&◌, ℕ, Bool, true, false, not, List}
use Rattle.std.proofs.Common.{Some, None, refl, sym, ap, ◌∙◌, subst, eq-eqb}
use Rattle.std.proofs.lemmas.Bool.{and_from, cond-true, not_from_false}
use Rattle.std.proofs.lemmas.Slice.Eq.{bytes_eq-Decides}
use Rattle.std.specs.Str.{bytes_eq}
use Rattle.peg_name.specs.declared.Node.{Node}
use Rattle.peg_name.specs.declared.Node.TheVariants as node
use Rattle.peg_event.specs.declared.answers.Ask.{Ask}
use Rattle.peg_event.specs.declared.answers.Ask.TheVariants as ask
use Rattle.peg_event.specs.declared.ClientDid.{ClientDid}
use Rattle.peg_event.specs.declared.ClientDid.TheVariants as did
use Rattle.peg_event.specs.declared.Line.{Line}
use Rattle.peg_event.specs.declared.answers.Pending.{Pending}
use Rattle.peg_event.specs.declared.Said.TheVariants as said
use Rattle.peg_model.specs.Words.{refuse}
use Rattle.peg_model.specs.Packet.{Packet}
use Rattle.peg_model.specs.Client.{Client, new_client, request_of, is_read, is_read_of, is_write_of}
use Rattle.peg_model.specs.Client.{matches, awaits_read, awaits_write, answered, client_step}
use Rattle.peg_model.specs.World.{World, client_of, delivers}
use Rattle.peg_model.specs.Moments.{IsAnswer}
use Rattle.peg_law.proofs.Lists.{IsAt, In, Past, at_cases}
use Rattle.peg_law.proofs.Known.{IsKnown, Knows}
use Rattle.peg_law.proofs.Runs.{IsClient, Sound}
use Rattle.peg_law.proofs.Hops.{IsAnswered, SaysRead, SaysWritten}

pub pending_client :
    (w : World) (client : ℕ) (p : Pending) → Sound w → (client_of w client).pending ≡ Some p
    → IsClient w.packets client (client_of w client)
pending_client w client p s e =
    by_place (at_cases w.clients client (new_client w.rack.format client 1))
  where
    by_place :
        IsAt w.clients client (new_client w.rack.format client 1)
        → IsClient w.packets client (client_of w client)
    by_place (In f) = s.clients client (client_of w client) f
    by_place (Past f g) =
        let none : (client_of w client).pending ≡ None = ap (λ (c : Client). c.pending) g in
        absurd (cc)

pub known_request :
    (c : Client) (to : Node) (client seq : ℕ) (key : List ℕ) (a : Ask) → c.id ≡ client
    → Knows c (to, request_of client seq key a) → IsKnown c seq key (is_read a)
known_request c to client seq key ask.Read e k = k (sym e)
known_request c to client seq key (ask.Write content) e k = k (sym e)

-- the reply fits the pending operation
pub record IsFor (c : Client) (client seq : ℕ) (key : List ℕ) (read : Bool) (p : Pending)
    : Type 0 where
  pub pending : c.pending ≡ Some p
  pub client_is : client ≡ c.id
  pub seq_is : seq ≡ p.seq
  pub key_is : key ≡ p.key
  pub kind : is_read p.ask ≡ read

matching :
    (c : Client) (client seq : ℕ) (key : List ℕ) (read : Bool) (p : Pending)
    → IsFor c client seq key read p → matches c p client seq key ≡ true
matching c client seq key read p f =
    and_from (client == c.id && seq == p.seq) (bytes_eq key p.key)
    (and_from (client == c.id) (seq == p.seq) (eq-eqb client c.id f.client_is)
    (eq-eqb seq p.seq f.seq_is))
    ((bytes_eq-Decides key p.key).1 f.key_is)

awaiting_read :
    (c : Client) (client seq : ℕ) (key : List ℕ) (p : Pending) → IsFor c client seq key true p
    → awaits_read c client seq key ≡ true
awaiting_read c client seq key p f =
    ap (λ o. is_read_of o c client seq key) f.pending
    ∙ and_from (is_read p.ask) (matches c p client seq key) f.kind
    (matching c client seq key true p f)

awaiting_write :
    (c : Client) (client seq : ℕ) (key : List ℕ) (p : Pending) → IsFor c client seq key false p
    → awaits_write c client seq key ≡ true
awaiting_write c client seq key p f =
    ap (λ o. is_write_of o c client seq key) f.pending
    ∙ and_from (not (is_read p.ask)) (matches c p client seq key)
    (not_from_false (is_read p.ask) f.kind)
    (matching c client seq key false p f)

abbrev pub Answers : World × Line → ℕ → ℕ → Type 0
Answers r client seq =
    (d : ClientDid) × (r.1.said ≡ said.Client client d) × IsAnswer client seq d

pub answered_by :
    (w : World) (item : Node × Packet) (client seq : ℕ) (key : List ℕ) (read : Bool) (p : Pending)
    (pick : ℕ)
    → IsFor (client_of w client) client seq key read p → IsAnswered client seq key read item
    → Answers (delivers w item.0 item.1 pick) client seq
unfolding client_step
answered_by w item client seq key read p pick f
    (SaysRead version server switch content kind to is) =
    let c = client_of w client in
    let fits : IsFor c client seq key true p =
    subst (λ b. IsFor c client seq key b p) kind f in
    let taken =
    cond-true (awaits_read c client seq key) (answered c (did.Read seq version content))
    (refuse c did.Ignored) (awaiting_read c client seq key p fits) in
    subst (λ n. Answers (delivers w n item.1 pick) client seq) (sym to)
    (subst (λ q. Answers (delivers w (node.Client client) q pick) client seq) (sym is)
    (did.Read seq version content, ap (λ s. said.Client client s.did) taken, refl))
answered_by w item client seq key read p pick f (SaysWritten version server switch kind to is) =
    let c = client_of w client in
    let fits : IsFor c client seq key false p =
    subst (λ b. IsFor c client seq key b p) kind f in
    let taken =
    cond-true (awaits_write c client seq key) (answered c (did.Wrote seq version))
    (refuse c did.Ignored) (awaiting_write c client seq key p fits) in
    subst (λ n. Answers (delivers w n item.1 pick) client seq) (sym to)
    (subst (λ q. Answers (delivers w (node.Client client) q pick) client seq) (sym is)
    (did.Wrote seq version, ap (λ s. said.Client client s.did) taken, refl))
