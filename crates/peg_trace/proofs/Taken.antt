-- An operation that is answered keeps clients and operations tied, and its line answers it alone.
use Rattle.std.proofs.Common.{◌≡◌, ◌<◌, ◌+◌, ℕ, Bool, true, false}
use Rattle.std.proofs.Common.{Some, None, List, length, map, refl, sym}
use Rattle.std.proofs.Common.{ap, ◌∙◌, subst, slice_get, arith}
use Rattle.std.specs.Prelude.{slice_set, if◌then◌else◌}
use Rattle.std.proofs.lemmas.Grind.{common_steps}
use Rattle.peg_name.specs.declared.value.Content.{Content}
use Rattle.peg_event.specs.declared.ClientDid.{ClientDid}
use Rattle.peg_event.specs.declared.ClientDid.TheVariants as client_did
use Rattle.peg_event.specs.declared.history.Op.{Op}
use Rattle.peg_event.specs.declared.answers.Pending.{Pending}
use Rattle.peg_model.specs.Client.{Client}
use Rattle.peg_model.specs.World.{World, Operation, AppliedFence}
use Rattle.peg_model.specs.World.{client_of, is_named, answered_as}
use Rattle.peg_model.specs.World.{with_answer, content_answered}
use Rattle.peg_trace.specs.Answers.{IsGiven}
use Rattle.peg_trace.proofs.Lists.{length_set, get_within}
use Rattle.peg_trace.proofs.Lists.{get_image}
use Rattle.peg_trace.proofs.Lists.{get_mapped}
use Rattle.peg_trace.proofs.Operations.{named_client}
use Rattle.peg_trace.proofs.Turns.{act_of, Answers, HasAnswer}
use Rattle.peg_trace.proofs.Tied.{some_same, Pends, AreNamed, Tied, Gives, change_of, KeepsNames}
use Rattle.peg_trace.proofs.Tied.{change_keeps, named_changed, below_changed, pends_changed}
use Rattle.peg_trace.proofs.Tied.{one_moved, number_of, within}

-- ---- an operation is answered

named_seq : (client seq : ℕ) (o : Operation) → is_named client seq o ≡ true → o.seq ≡ seq
named_seq client seq o e = grind (arith, common_steps, e)

named_true :
    (client seq : ℕ) (o : Operation) → o.op.client ≡ client → o.seq ≡ seq
    → is_named client seq o ≡ true
named_true client seq o e f = grind (arith, common_steps, e, f)

unnamed :
    (client seq : ℕ) (change : Operation → Operation) (o : Operation)
    → is_named client seq o ≡ false → change_of client seq change o ≡ o
unnamed client seq change o e = ap (λ b. if b then change o else o) e

renamed :
    (client seq : ℕ) (change : Operation → Operation) (o : Operation)
    → is_named client seq o ≡ true → change_of client seq change o ≡ change o
renamed client seq change o e = ap (λ b. if b then change o else o) e

by_naming :
    {A : Type 0} (client seq : ℕ) (o : Operation) → (is_named client seq o ≡ true → A)
    → (is_named client seq o ≡ false → A) → A
by_naming {A} client seq o named other = by_test (is_named client seq o) refl
  where
    by_test : (b : Bool) → is_named client seq o ≡ b → A
    by_test true e = named e
    by_test false e = other e

gives_answer :
    (did : ClientDid) (p : Pending) (at : ℕ) (given : Content) (op : Op) → op.act ≡ act_of p.ask
    → Answers did p.ask given → IsGiven did (with_answer at given op)
gives_answer (client_did.Wrote seq version) p at given op kind answers = kind ∙ answers
gives_answer (client_did.Read seq version content) p at given op kind (asked, is) = (
  kind ∙ asked,
  ap (λ a. content_answered a op.content given) (kind ∙ asked) ∙ is,
)
gives_answer _ p at given op kind answers = absurd answers

module _ (w : World) (place : ℕ) (t : Tied place w.clients w.operations) (id version : ℕ)
    (d : Client) (p : Pending) (did : ClientDid) (fences : List AppliedFence) (given : Content)
    (a : HasAnswer (client_of w id) d p did given) where
  abbrev f : Operation → Operation
  f = change_of id p.seq (answered_as fences place version given)

  abbrev os0 : List Operation
  os0 = w.operations

  there : slice_get w.clients id ≡ Some (client_of w id)
  there = within w place t id p a.was

  h : Pends os0 id p
  h = (t.clients_are id (client_of w id) there).pends p a.was

  f_keeps : KeepsNames f
  f_keeps = change_keeps id p.seq (answered_as fences place version given) (λ o. (refl, refl))

  hit_number :
      (i : ℕ) (o : Operation) → slice_get os0 i ≡ Some o → is_named id p.seq o ≡ true
      → i ≡ h.number
  hit_number i o at named =
      let client = named_client id p.seq o named in
      let seq = named_seq id p.seq o named in
      let small = get_within w.clients id (client_of w id) there in
      t.named i h.number o h.o at h.there (omega (arith, client, small))
      (client ∙ sym h.of_client) (seq ∙ sym h.seq_is)

  hit_same :
      (i : ℕ) (o : Operation) → slice_get os0 i ≡ Some o → is_named id p.seq o ≡ true → o ≡ h.o
  hit_same i o at named =
      let same : slice_get os0 i ≡ slice_get os0 h.number =
      ap (slice_get os0) (hit_number i o at named) in
      some_same o h.o (sym at ∙ same ∙ h.there)

  -- what was answered stays as it is
  missed :
      (i at : ℕ) (o : Operation) → slice_get os0 i ≡ Some o → o.op.answered ≡ Some at → f o ≡ o
  missed i at o e answered =
      by_naming id p.seq o
      (λ named.
      let none : o.op.answered ≡ None =
      ap (λ (x : Operation). x.op.answered) (hit_same i o e named) ∙ h.is_open in
      absurd (let x : Some at ≡ None = sym answered ∙ none in cc))
      (λ other. unnamed id p.seq (answered_as fences place version given) o other)

  others :
      (j : ℕ) (o : Operation) → (j ≡ id → ⊥) → o.op.client ≡ j → f o ≡ o
  others j o other client =
      by_naming id p.seq o
      (λ named. absurd (other (sym client ∙ named_client id p.seq o named)))
      (λ e. unnamed id p.seq (answered_as fences place version given) o e)

  answered_now :
      (o : Operation) → is_named id p.seq o ≡ true → (f o).op.answered ≡ Some place
  answered_now o named =
      ap (λ (x : Operation). x.op.answered)
      (renamed id p.seq (answered_as fences place version given) o named)

  pub taken_tied : Tied (place + 1) (slice_set w.clients d.id d) (map f os0)
  taken_tied =
      record {
        clients_are =
            one_moved w.clients (map f os0) id d named
            (λ old at.
            record {
              number = named;
              below = λ i o e client.
                  let less =
                  below_changed f os0 id (client_of w id) f_keeps
                  (t.clients_are id (client_of w id) there) i o e client in
                  let next = a.next in omega (arith, less, next);
              pends = λ q e.
                  absurd (let x : Some q ≡ None = sym e ∙ a.pending in cc);
            })
            (λ j c other at.
            let is = t.clients_are j c at in
            record {
              number = is.number;
              below = below_changed f os0 j c f_keeps is;
              pends = λ q e.
                  let k = is.pends q e in
                  pends_changed f os0 j q f_keeps k
                  (ap (λ (x : Operation). x.op) (others j k.o other k.of_client));
            });
        named =
            subst (λ n. AreNamed n (map f os0)) (sym (length_set w.clients d.id d))
            (named_changed (length w.clients) f os0 f_keeps t.named);
        before = λ i at o e answered.
            let m = get_image f os0 i o e in
            by_naming id p.seq m.of
            (λ named.
            let now : Some place ≡ Some at =
            sym (answered_now m.of named)
            ∙ ap (λ (x : Operation). x.op.answered) (sym m.is) ∙ answered in
            let same = some_same place at now in omega (arith, same))
            (λ other.
            let still : o ≡ m.of =
            m.is ∙ unnamed id p.seq (answered_as fences place version given) m.of other in
            let less =
            t.before i at m.of m.there
            (ap (λ (x : Operation). x.op.answered) (sym still) ∙ answered) in
            omega (arith, less));
      }
    where
      named : d.id ≡ id
      named = a.id ∙ number_of w place t id

  pub gives_still :
      (q client : ℕ) (was : ClientDid) → q < place → Gives os0 q client was
      → Gives (map f os0) q client was
  gives_still q client was sooner g =
      let same : f g.o ≡ g.o = missed g.number q g.o g.there g.at in
      record {
        number = g.number;
        o = g.o;
        there = get_mapped f os0 g.number g.o g.there ∙ ap Some same;
        of_client = g.of_client;
        at = g.at;
        given = g.given;
        only = λ other o e answered.
            let m = get_image f os0 other o e in
            by_naming id p.seq m.of
            (λ named.
            let now : Some place ≡ Some q =
            sym (answered_now m.of named)
            ∙ ap (λ (x : Operation). x.op.answered) (sym m.is) ∙ answered in
            let at = some_same place q now in absurd (omega (arith, at, sooner)))
            (λ apart.
            let still : o ≡ m.of =
            m.is ∙ unnamed id p.seq (answered_as fences place version given) m.of apart in
            g.only other m.of m.there
            (ap (λ (x : Operation). x.op.answered) (sym still) ∙ answered));
      }

  pub gives_now : Gives (map f os0) place id did
  gives_now =
      let named : is_named id p.seq h.o ≡ true =
      named_true id p.seq h.o h.of_client h.seq_is in
      let now : f h.o ≡ answered_as fences place version given h.o =
      renamed id p.seq (answered_as fences place version given) h.o named in
      record {
        number = h.number;
        o = answered_as fences place version given h.o;
        there = get_mapped f os0 h.number h.o h.there ∙ ap Some now;
        of_client = h.of_client;
        at = refl;
        given = gives_answer did p place given h.o.op h.kind a.answers;
        only = λ other o e answered.
            let m = get_image f os0 other o e in
            by_naming id p.seq m.of (λ this. hit_number other m.of m.there this)
            (λ apart.
            let still : o ≡ m.of =
            m.is ∙ unnamed id p.seq (answered_as fences place version given) m.of apart in
            let less =
            t.before other place m.of m.there
            (ap (λ (x : Operation). x.op.answered) (sym still) ∙ answered) in
            absurd (omega (arith, less)));
      }
