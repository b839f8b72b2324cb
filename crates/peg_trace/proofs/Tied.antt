-- What ties clients to operations over a run: no number is given twice, and what is pending is
-- unanswered.
use Rattle.std.proofs.Common.{◌≡◌, ◌⊎◌, inl, inr, ◌<◌, ◌+◌, ℕ, Bool, true, false}
use Rattle.std.proofs.Common.{Some, None, List, length, map, refl, sym}
use Rattle.std.proofs.Common.{ap, ◌∙◌, subst, slice_get, arith}
use Rattle.std.specs.Prelude.{slice_set, slice_index_or, if◌then◌else◌, is_none}
use Rattle.peg_event.specs.declared.ClientDid.{ClientDid}
use Rattle.peg_event.specs.declared.Line.{Line}
use Rattle.peg_event.specs.declared.history.Op.{Op}
use Rattle.peg_event.specs.declared.answers.Pending.{Pending}
use Rattle.peg_event.specs.declared.Said.TheVariants as said
use Rattle.peg_model.specs.Client.{Client, new_client}
use Rattle.peg_model.specs.World.{World, Operation}
use Rattle.peg_model.specs.World.{client_of, is_named, stamped_as}
use Rattle.peg_trace.specs.Answers.{is_answer, IsGiven}
use Rattle.peg_trace.proofs.Lists.{IsSet, Here, Else, get_set, length_set, get_within}
use Rattle.peg_trace.proofs.Lists.{get_image}
use Rattle.peg_trace.proofs.Lists.{get_mapped, IsAt, In, Past, at_cases}
use Rattle.peg_trace.proofs.Turns.{act_of, HasMoved}

pub some_same : {A : Type 0} (x y : A) → Some x ≡ Some y → x ≡ y
some_same x y e = cc

-- ---- what ties clients to operations

-- the pending operation is unanswered
pub record Pends (os : List Operation) (id : ℕ) (p : Pending) : Type 0 where
  pub number : ℕ
  pub o : Operation
  pub there : slice_get os number ≡ Some o
  pub of_client : o.op.client ≡ id
  pub seq_is : o.seq ≡ p.seq
  pub is_open : o.op.answered ≡ None
  pub kind : o.op.act ≡ act_of p.ask

pub record IsClient (os : List Operation) (id : ℕ) (c : Client) : Type 0 where
  pub number : c.id ≡ id
  pub below :
      (i : ℕ) (o : Operation) → slice_get os i ≡ Some o → o.op.client ≡ id → o.seq < c.next
  pub pends : (p : Pending) → c.pending ≡ Some p → Pends os id p

abbrev pub AreClients : List Operation → List Client → Type 0
AreClients os clients =
    (id : ℕ) (c : Client) → slice_get clients id ≡ Some c → IsClient os id c

-- no client of the rack gave a number twice
abbrev pub AreNamed : ℕ → List Operation → Type 0
AreNamed most os =
    (i j : ℕ) (o p : Operation) → slice_get os i ≡ Some o → slice_get os j ≡ Some p
    → o.op.client < most → o.op.client ≡ p.op.client → o.seq ≡ p.seq → i ≡ j

-- and what has been answered was answered before this place
abbrev pub AreBefore : ℕ → List Operation → Type 0
AreBefore place os =
    (i at : ℕ) (o : Operation) → slice_get os i ≡ Some o → o.op.answered ≡ Some at → at < place

pub record Tied (place : ℕ) (clients : List Client) (os : List Operation) : Type 0 where
  pub clients_are : AreClients os clients
  pub named : AreNamed (length clients) os
  pub before : AreBefore place os

-- ---- the same of operations, by the line

pub record Gives (os : List Operation) (place client : ℕ) (did : ClientDid) : Type 0 where
  pub number : ℕ
  pub o : Operation
  pub there : slice_get os number ≡ Some o
  pub of_client : o.op.client ≡ client
  pub at : o.op.answered ≡ Some place
  pub given : IsGiven did o.op
  pub only :
      (other : ℕ) (p : Operation) → slice_get os other ≡ Some p → p.op.answered ≡ Some place
      → other ≡ number

abbrev pub AreGiven : List Line → List Operation → Type 0
AreGiven lines os =
    (i client : ℕ) (line : Line) (did : ClientDid) → slice_get lines i ≡ Some line
    → line.said ≡ said.Client client did → is_answer did ≡ true → Gives os (i + 2) client did

-- ---- a change that keeps names

abbrev pub change_of : ℕ → ℕ → (Operation → Operation) → Operation → Operation
change_of client seq change o = if is_named client seq o then change o else o

abbrev pub KeepsNames : (Operation → Operation) → Type 0
KeepsNames change =
    (o : Operation) → ((change o).op.client ≡ o.op.client) × ((change o).seq ≡ o.seq)

pub change_keeps :
    (client seq : ℕ) (change : Operation → Operation) → KeepsNames change
    → KeepsNames (change_of client seq change)
change_keeps client seq change keeps o = by_name (is_named client seq o)
  where
    by_name :
        (b : Bool) → ((if b then change o else o).op.client ≡ o.op.client)
        × ((if b then change o else o).seq ≡ o.seq)
    by_name true = keeps o
    by_name false = (refl, refl)

pub stamp_keeps : (version : ℕ) → KeepsNames (stamped_as version)
stamp_keeps version o = by_answer (is_none o.op.answered)
  where
    by_answer :
        (b : Bool) → ((if b then record o { tag = version } else o).op.client ≡ o.op.client)
        × ((if b then record o { tag = version } else o).seq ≡ o.seq)
    by_answer true = (refl, refl)
    by_answer false = (refl, refl)

pub named_changed :
    (most : ℕ) (f : Operation → Operation) (os : List Operation) → KeepsNames f → AreNamed most os
    → AreNamed most (map f os)
named_changed most f os keeps named i j o p at other small same seq =
    let a = get_image f os i o at in
    let b = get_image f os j p other in
    let ac : o.op.client ≡ a.of.op.client =
    ap (λ (x : Operation). x.op.client) a.is ∙ (keeps a.of).0 in
    let bc : p.op.client ≡ b.of.op.client =
    ap (λ (x : Operation). x.op.client) b.is ∙ (keeps b.of).0 in
    let asq : o.seq ≡ a.of.seq = ap (λ (x : Operation). x.seq) a.is ∙ (keeps a.of).1 in
    let bs : p.seq ≡ b.of.seq = ap (λ (x : Operation). x.seq) b.is ∙ (keeps b.of).1 in
    named i j a.of b.of a.there b.there (omega (arith, ac, small)) (sym ac ∙ same ∙ bc)
    (sym asq ∙ seq ∙ bs)

pub below_changed :
    (f : Operation → Operation) (os : List Operation) (id : ℕ) (c : Client) → KeepsNames f
    → IsClient os id c → (i : ℕ) (o : Operation) → slice_get (map f os) i ≡ Some o
    → o.op.client ≡ id → o.seq < c.next
below_changed f os id c keeps is i o at client =
    let a = get_image f os i o at in
    let ac : o.op.client ≡ a.of.op.client =
    ap (λ (x : Operation). x.op.client) a.is ∙ (keeps a.of).0 in
    let asq : o.seq ≡ a.of.seq = ap (λ (x : Operation). x.seq) a.is ∙ (keeps a.of).1 in
    let less = is.below i a.of a.there (sym ac ∙ client) in omega (arith, asq, less)

pub pends_changed :
    (f : Operation → Operation) (os : List Operation) (id : ℕ) (p : Pending) → KeepsNames f
    → (h : Pends os id p) → (f h.o).op ≡ h.o.op → Pends (map f os) id p
pends_changed f os id p keeps h same =
    record {
      number = h.number;
      o = f h.o;
      there = get_mapped f os h.number h.o h.there;
      of_client = ap (λ (x : Op). x.client) same ∙ h.of_client;
      seq_is = (keeps h.o).1 ∙ h.seq_is;
      is_open = ap (λ (x : Op). x.answered) same ∙ h.is_open;
      kind = ap (λ (x : Op). x.act) same ∙ h.kind;
    }

-- ---- a stamp changes tags alone

pub stamp_same : (client seq version : ℕ) (o : Operation)
    → (change_of client seq (stamped_as version) o).op ≡ o.op
stamp_same client seq version o = by_name (is_named client seq o) (is_none o.op.answered)
  where
    by_name :
        (b d : Bool)
        → (if b then (if d then record o { tag = version } else o) else o).op ≡ o.op
    by_name true true = refl
    by_name true false = refl
    by_name false d = refl

module _ (f : Operation → Operation) (os : List Operation) (keeps : KeepsNames f)
    (same : (o : Operation) → (f o).op ≡ o.op) where
  pub tied_tagged :
      (place : ℕ) (clients : List Client) → Tied place clients os → Tied place clients (map f os)
  tied_tagged place clients t =
      record {
        clients_are = λ id c at.
            let is = t.clients_are id c at in
            record {
              number = is.number;
              below = below_changed f os id c keeps is;
              pends = λ p e.
                  let h = is.pends p e in pends_changed f os id p keeps h (same h.o);
            };
        named = named_changed (length clients) f os keeps t.named;
        before = λ i at o there e.
            let a = get_image f os i o there in
            t.before i at a.of a.there
            (ap (λ (x : Op). x.answered) (sym (same a.of))
            ∙ ap (λ (x : Operation). x.op.answered) (sym a.is) ∙ e);
      }

  pub gives_tagged :
      (place client : ℕ) (did : ClientDid) → Gives os place client did
      → Gives (map f os) place client did
  gives_tagged place client did g =
      record {
        number = g.number;
        o = f g.o;
        there = get_mapped f os g.number g.o g.there;
        of_client = ap (λ (x : Op). x.client) (same g.o) ∙ g.of_client;
        at = ap (λ (x : Op). x.answered) (same g.o) ∙ g.at;
        given = subst (IsGiven did) (sym (same g.o)) g.given;
        only = λ other p there e.
            let a = get_image f os other p there in
            g.only other a.of a.there
            (ap (λ (x : Op). x.answered) (sym (same a.of))
            ∙ ap (λ (x : Operation). x.op.answered) (sym a.is) ∙ e);
      }

-- ---- one client moves

own_number :
    (clients : List Client) (os : List Operation) (id : ℕ) (d : Client) → AreClients os clients
    → d.id ≡ id → (slice_index_or clients id d).id ≡ id
own_number clients os id d are named = by_place (at_cases clients id d)
  where
    by_place : IsAt clients id d → (slice_index_or clients id d).id ≡ id
    by_place (In e) = (are id (slice_index_or clients id d) e).number
    by_place (Past e f) = ap (λ (c : Client). c.id) f ∙ named

-- what holds of the one that moved, if it is in the rack, and of the others
pub one_moved :
    (clients : List Client) (os' : List Operation) (id : ℕ) (d : Client) → d.id ≡ id
    → ((old : Client) → slice_get clients id ≡ Some old → IsClient os' id d)
    →
    ((j : ℕ) (c : Client) → (j ≡ id → ⊥) → slice_get clients j ≡ Some c → IsClient os' j c)
    → AreClients os' (slice_set clients d.id d)
one_moved clients os' id d is here rest j c at = by_place (get_set clients d.id d j c at)
  where
    by_place : IsSet clients d.id d j c → IsClient os' j c
    by_place (Here old same new there) =
        let place : j ≡ id = same ∙ is in
        subst (λ i. IsClient os' i c) (sym place)
        (subst (IsClient os' id) (sym new)
        (here old (subst (λ i. slice_get clients i ≡ Some old) place there)))
    by_place (Else other there) = rest j c (λ e. other (e ∙ sym is)) there

module _ (w : World) (place : ℕ) (t : Tied place w.clients w.operations) where
  abbrev os : List Operation
  os = w.operations

  abbrev c_of : ℕ → Client
  c_of id = client_of w id

  pub number_of : (id : ℕ) → (c_of id).id ≡ id
  number_of id =
      own_number w.clients os id (new_client w.rack.format id 1) t.clients_are refl

  -- a client that is in the rack
  pub found : (id : ℕ) (old : Client) → slice_get w.clients id ≡ Some old → IsClient os id (c_of id)
  found id old at = by_place (at_cases w.clients id (new_client w.rack.format id 1))
    where
      by_place : IsAt w.clients id (new_client w.rack.format id 1) → IsClient os id (c_of id)
      by_place (In e) = t.clients_are id (c_of id) e
      by_place (Past e f) =
          let less = get_within w.clients id old at in absurd (omega (arith, e, less))

  -- one that has something pending is in the rack
  pub within : (id : ℕ) (p : Pending) → (c_of id).pending ≡ Some p
      → slice_get w.clients id ≡ Some (c_of id)
  within id p e = by_place (at_cases w.clients id (new_client w.rack.format id 1))
    where
      by_place :
          IsAt w.clients id (new_client w.rack.format id 1)
          → slice_get w.clients id ≡ Some (c_of id)
      by_place (In f) = f
      by_place (Past f g) =
          let none : (c_of id).pending ≡ None = ap (λ (c : Client). c.pending) g in
          absurd (let x : Some p ≡ None = sym e ∙ none in cc)

  length_moved : (d : Client) → length w.clients ≡ length (slice_set w.clients d.id d)
  length_moved d = sym (length_set w.clients d.id d)

  pub moved_tied :
      (id : ℕ) (d : Client) → HasMoved (c_of id) d → Tied place (slice_set w.clients d.id d) os
  moved_tied id d m =
      record {
        clients_are =
            one_moved w.clients os id d (m.id ∙ number_of id)
            (λ old at.
            let is = found id old at in
            record {
              number = m.id ∙ number_of id;
              below = λ i o there client.
                  let less = is.below i o there client in
                  let next = m.next in omega (arith, less, next);
              pends = λ p e. by_pending is p e m.pending;
            })
            (λ j c other at. t.clients_are j c at);
        named = subst (λ n. AreNamed n os) (length_moved d) t.named;
        before = t.before;
      }
    where
      by_pending :
          IsClient os id (c_of id) → (p : Pending) → d.pending ≡ Some p
          → (d.pending ≡ (c_of id).pending) ⊎ (d.pending ≡ None) → Pends os id p
      by_pending is p e (inl same) = is.pends p (sym same ∙ e)
      by_pending is p e (inr none) = absurd (let x : Some p ≡ None = sym e ∙ none in cc)
