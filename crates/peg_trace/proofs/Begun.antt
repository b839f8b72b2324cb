-- An operation that begins keeps clients and operations tied.
use Rattle.std.proofs.Common.{◌≡◌, ◌<◌, ℕ}
use Rattle.std.proofs.Common.{Some, None, List, [], ◌∷◌, ◌++◌, length, sym}
use Rattle.std.proofs.Common.{ap, ◌∙◌, subst, slice_get, arith}
use Rattle.std.specs.Prelude.{slice_set}
use Rattle.peg_event.specs.declared.ClientDid.{ClientDid}
use Rattle.peg_event.specs.declared.history.Op.{Op}
use Rattle.peg_event.specs.declared.answers.Pending.{Pending}
use Rattle.peg_model.specs.Words.{below}
use Rattle.peg_model.specs.Client.{Client, new_client}
use Rattle.peg_model.specs.World.{World, Operation}
use Rattle.peg_model.specs.World.{client_of}
use Rattle.peg_trace.proofs.Lists.{length_set, get_kept}
use Rattle.peg_trace.proofs.Lists.{get_last, IsPushed, Before, Last, get_pushed}
use Rattle.peg_trace.proofs.Lists.{IsAt, In, Past, at_cases}
use Rattle.peg_trace.proofs.Turns.{HasBegun}
use Rattle.peg_trace.proofs.Tied.{some_same, Pends, IsClient, AreNamed, Tied, Gives, one_moved}
use Rattle.peg_trace.proofs.Tied.{number_of, found}

-- ---- an operation begins

module _ (w : World) (place : ℕ) (t : Tied place w.clients w.operations) (id : ℕ) (d : Client)
    (op : Op) (p : Pending) (b : HasBegun id (client_of w id) d op p) where
  abbrev os1 : List Operation
  os1 = w.operations

  abbrev new : Operation
  new = record { op = op; seq = (client_of w id).next; tag = 0 }

  abbrev os2 : List Operation
  os2 = os1 ++ new ∷ []

  has_number : d.id ≡ id
  has_number = b.id_is ∙ number_of w place t id

  below_new :
      (j n i : ℕ) (o : Operation) → o.op.client ≡ j
      → ((k : ℕ) (q : Operation) → slice_get os1 k ≡ Some q → q.op.client ≡ j → q.seq < n)
      → (op.client ≡ j → (client_of w id).next < n) → IsPushed os1 new i o → o.seq < n
  below_new j n i o client below fresh (Before e) = below i o e client
  below_new j n i o client below fresh (Last at is) =
      let seq : o.seq ≡ (client_of w id).next = ap (λ (x : Operation). x.seq) is in
      let less = fresh (ap (λ (x : Operation). x.op.client) (sym is) ∙ client) in
      omega (arith, seq, less)

  still_pends : (j : ℕ) (q : Pending) → Pends os1 j q → Pends os2 j q
  still_pends j q h =
      record {
        number = h.number;
        o = h.o;
        there = get_kept os1 (new ∷ []) h.number h.o h.there;
        of_client = h.of_client;
        seq_is = h.seq_is;
        is_open = h.is_open;
        kind = h.kind;
      }

  the_one : IsClient os1 id (client_of w id) → IsClient os2 id d
  the_one is =
      record {
        number = has_number;
        below = λ i o there client.
            below_new id d.next i o client
            (λ k q at of.
            let less = is.below k q at of in let next = b.next in omega (arith, less, next))
            (λ same. let next = b.next in omega (arith, next)) (get_pushed os1 new i o there);
        pends = λ q e.
            let same : p ≡ q = some_same p q (sym b.pending ∙ e) in
            subst (Pends os2 id) same
            (record {
              number = length os1;
              o = new;
              there = get_last os1 new;
              of_client = b.client;
              seq_is = sym b.seq;
              is_open = b.is_open;
              kind = b.kind;
            });
      }

  the_other : (j : ℕ) (c : Client) → (j ≡ id → ⊥) → IsClient os1 j c → IsClient os2 j c
  the_other j c other is =
      record {
        number = is.number;
        below = λ i o there client.
            below_new j c.next i o client is.below
            (λ same. absurd (other (sym same ∙ b.client))) (get_pushed os1 new i o there);
        pends = λ q e. still_pends j q (is.pends q e);
      }

  fresh_at :
      (j : ℕ) (q : Operation) → slice_get os1 j ≡ Some q → q.op.client < length w.clients
      → q.op.client ≡ op.client → q.seq ≡ (client_of w id).next
      → IsAt w.clients id (new_client w.rack.format id 1) → ⊥
  fresh_at j q at small same seq (In e) =
      let less = (t.clients_are id (client_of w id) e).below j q at (same ∙ b.client) in
      omega (arith, less, seq)
  fresh_at j q at small same seq (Past e f) =
      let of : q.op.client ≡ id = same ∙ b.client in omega (arith, e, of, small)

  fresh :
      (j : ℕ) (q : Operation) → slice_get os1 j ≡ Some q → q.op.client < length w.clients
      → q.op.client ≡ op.client → q.seq ≡ (client_of w id).next → ⊥
  fresh j q at small same seq =
      fresh_at j q at small same seq (at_cases w.clients id (new_client w.rack.format id 1))

  names_by :
      (i j : ℕ) (o q : Operation) → o.op.client < length w.clients
      → o.op.client ≡ q.op.client → o.seq ≡ q.seq → IsPushed os1 new i o → IsPushed os1 new j q
      → i ≡ j
  names_by i j o q small same seq (Before e) (Before f) = t.named i j o q e f small same seq
  names_by i j o q small same seq (Before e) (Last f is) =
      absurd
      (fresh i o e small (same ∙ ap (λ (x : Operation). x.op.client) is)
      (seq ∙ ap (λ (x : Operation). x.seq) is))
  names_by i j o q small same seq (Last e is) (Before f) =
      let client : q.op.client ≡ op.client =
      sym same ∙ ap (λ (x : Operation). x.op.client) is in
      absurd
      (fresh j q f (omega (arith, small, same)) client
      (sym seq ∙ ap (λ (x : Operation). x.seq) is))
  names_by i j o q small same seq (Last e is) (Last f also) = e ∙ sym f

  before_new :
      (i at : ℕ) (o : Operation) → o.op.answered ≡ Some at → IsPushed os1 new i o → at < place
  before_new i at o e (Before f) = t.before i at o f e
  before_new i at o e (Last f is) =
      let none : o.op.answered ≡ None =
      ap (λ (x : Operation). x.op.answered) is ∙ b.is_open in
      absurd (let x : Some at ≡ None = sym e ∙ none in cc)

  pub begun_tied : Tied place (slice_set w.clients d.id d) os2
  begun_tied =
      record {
        clients_are =
            one_moved w.clients os2 id d has_number
            (λ old at. the_one (found w place t id old at))
            (λ j c other at. the_other j c other (t.clients_are j c at));
        named =
            subst (λ n. AreNamed n os2) (sym (length_set w.clients d.id d))
            (λ i j o q at there small same seq.
            names_by i j o q small same seq (get_pushed os1 new i o at)
            (get_pushed os1 new j q there));
        before = λ i at o there e. before_new i at o e (get_pushed os1 new i o there);
      }

pub gives_begun :
    (os : List Operation) (op : Op) (seq place client : ℕ) (did : ClientDid) → op.answered ≡ None
    → Gives os place client did
    → Gives (os ++ record { op = op; seq = seq; tag = 0 } ∷ []) place client did
gives_begun os op seq place client did is_open g =
    let new : Operation = record { op = op; seq = seq; tag = 0 } in
    record {
      number = g.number;
      o = g.o;
      there = get_kept os (new ∷ []) g.number g.o g.there;
      of_client = g.of_client;
      at = g.at;
      given = g.given;
      only = λ other p there e. by_place other p e (get_pushed os new other p there);
    }
  where
    by_place :
        (other : ℕ) (p : Operation) → p.op.answered ≡ Some place
        → IsPushed os (record { op = op; seq = seq; tag = 0 }) other p → other ≡ g.number
    by_place other p e (Before f) = g.only other p f e
    by_place other p e (Last f same) =
        let none : p.op.answered ≡ None =
        ap (λ (x : Operation). x.op.answered) same ∙ is_open in
        absurd (let x : Some place ≡ None = sym e ∙ none in cc)
