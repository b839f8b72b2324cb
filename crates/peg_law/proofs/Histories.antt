-- The history of a world and the log of the protocol machine, as operations begin, are stamped and
-- are answered.
use Rattle.std.proofs.Common.{◌≡◌, ◌≤◌, ◌+◌, ◌==◌, ◌&&◌, ℕ, Bool, true, false, List, [], ◌∷◌, ◌++◌}
use Rattle.std.proofs.Common.{cond, Option, Some, None, is_none, refl, sym, ap, ◌∙◌}
use Rattle.std.proofs.Common.{arith, eqb-true, eq-eqb, ne_eqb}
use Rattle.std.proofs.lemmas.Bool.{cond_both, and_parts}
use Rattle.peg_name.specs.declared.value.Content.{Content}
use Rattle.peg_event.specs.declared.history.Act.{Act}
use Rattle.peg_event.specs.declared.history.Act.TheVariants as act
use Rattle.peg_model.specs.World.{Operation, AppliedFence, origin_of, is_named, answered_as}
use Rattle.peg_model.specs.World.{stamped_as, content_answered, changed_at}
use Rattle.peg_law.specs.Codes.{number_of, content_code, act_code, plan_code}
use Rattle.peg_law.specs.Mirrors.{Paired, ReadFits, AnswerFits, OperationFits, IsOperation}
use Rattle.peg_law.proofs.Tables.{paired_push, paired_as, paired_mapped}
use Rattle.peg_protocol.specs.Core.{at_one, at_two}
use Rattle.peg_protocol.specs.Machine as machine
use Rattle.peg_protocol.specs.Machine.{Plan, Answer, Applied, Id, id, Reads, Writes}
use Rattle.peg_protocol.specs.Printed.{tag_of}

-- ---- an operation begins

begun_before :
    (c n : ℕ) (p : Plan) (o : Operation) (i : Id) (issued : ℕ → ℕ) (plans : ℕ → ℕ → Plan)
    (answers : ℕ → ℕ → Option Answer) (stamps : ℕ → ℕ → ℕ) → n ≡ issued c + 1
    → IsOperation issued plans answers stamps o i
    → IsOperation (at_one issued c n) (at_two plans c n p) (at_two answers c n None)
    (at_two stamps c n 0) o i
begun_before c n p o i issued plans answers stamps new f =
    let seq = f.seq_is in let most = f.begun in
    let test : (i.client == c && i.seq == n) ≡ false = by_test (i.client == c) refl in
    let kept : OperationFits o i (issued i.client) (at_two plans c n p i.client i.seq)
    (at_two answers c n None i.client i.seq) (at_two stamps c n 0 i.client i.seq) =
    rw test f in
    record {
      client_is = kept.client_is;
      seq_is = kept.seq_is;
      begun =
          cond_both (i.client == c) n (issued i.client) (λ m. o.seq ≤ m)
          (λ y. let e : issued i.client ≡ issued c = ap issued (eqb-true i.client c y) in
          omega (arith, e, most, new))
          (λ z. most);
      plan_is = kept.plan_is;
      answer_is = kept.answer_is;
      tag_is = kept.tag_is;
    }
  where
    by_test : (b : Bool) → (i.client == c) ≡ b → (b && i.seq == n) ≡ false
    by_test true e =
        let s = f.seq_is in
        let m = f.begun in
        let g : issued i.client ≡ issued c = ap issued (eqb-true i.client c e) in
        ne_eqb i.seq n (λ z. omega (arith, z, s, m, g, new))
    by_test false e = refl

-- an operation as it is issued
pub record IsNew (o : Operation) (c n : ℕ) (p : Plan) : Type 0 where
  pub client : o.op.client ≡ c
  pub seq : o.seq ≡ n
  pub plan : p ≡ plan_code o.op
  pub answered : o.op.answered ≡ None
  pub tag : o.tag ≡ 0

new_fits :
    (c n : ℕ) (p : Plan) (o : Operation) (issued : ℕ → ℕ) (plans : ℕ → ℕ → Plan)
    (answers : ℕ → ℕ → Option Answer) (stamps : ℕ → ℕ → ℕ) → IsNew o c n p
    → IsOperation (at_one issued c n) (at_two plans c n p) (at_two answers c n None)
    (at_two stamps c n 0) o (id c n)
new_fits c n p o issued plans answers stamps new =
    let e : (c == c) ≡ true = eq-eqb c c refl in
    let f : (n == n) ≡ true = eq-eqb n n refl in
    let seq = new.seq in
    rw (e, f)
    (record {
      client_is = sym new.client;
      seq_is = sym new.seq;
      begun = omega (arith, seq);
      plan_is = new.plan;
      answer_is = new.answered;
      tag_is = new.tag ∙ sym (no_tag p.act);
    })
  where
    no_tag : (a : machine.Act) → tag_of None a 0 ≡ 0
    no_tag Reads = refl
    no_tag (Writes x) = refl

pub history_begun :
    (c n : ℕ) (p : Plan) (o : Operation) (os : List Operation) (log : List Id) (issued : ℕ → ℕ)
    (plans : ℕ → ℕ → Plan) (answers : ℕ → ℕ → Option Answer) (stamps : ℕ → ℕ → ℕ)
    → n ≡ issued c + 1 → IsNew o c n p
    → Paired (IsOperation issued plans answers stamps) os log
    → Paired
    (IsOperation (at_one issued c n) (at_two plans c n p) (at_two answers c n None)
    (at_two stamps c n 0))
    (os ++ o ∷ []) (log ++ id c n ∷ [])
history_begun c n p o os log issued plans answers stamps new is h =
    paired_push
    (IsOperation (at_one issued c n) (at_two plans c n p) (at_two answers c n None)
    (at_two stamps c n 0))
    os o log (id c n)
    (paired_as (IsOperation issued plans answers stamps)
    (IsOperation (at_one issued c n) (at_two plans c n p) (at_two answers c n None)
    (at_two stamps c n 0))
    os log (λ x i f. begun_before c n p x i issued plans answers stamps new f) h)
    (new_fits c n p o issued plans answers stamps is)

-- ---- it is answered

answered_plan :
    (at : ℕ) (content : Content) (a : Act) (was : Content)
    → act_code a (content_answered a was content) ≡ act_code a was
answered_plan at content act.Read was = refl
answered_plan at content act.Write was = refl

answered_content :
    (k : Act) (was content : Content) (x : Option ℕ) (a : Answer) → a.content ≡ x
    → (k ≡ act.Read → x ≡ content_code content) → ReadFits k (content_answered k was content) a
answered_content act.Read was content x a e f = e ∙ f refl
answered_content act.Write was content x a e f = tt

answered_one :
    (fences : List AppliedFence) (at version : ℕ) (content : Content) (o : Operation) (i : Id)
    (issued : ℕ) (plan : Plan) (answer : Option Answer) (stamp : ℕ) (a : Answer)
    → OperationFits o i issued plan answer stamp → a.place ≡ at
    → a.tag ≡ origin_of fences o.op.key version
    → (o.op.act ≡ act.Read → a.content ≡ content_code content)
    → OperationFits (answered_as fences at version content o) i issued plan (Some a) stamp
answered_one fences at version content o i issued plan answer stamp a f place tag read =
    record {
      client_is = f.client_is;
      seq_is = f.seq_is;
      begun = f.begun;
      plan_is =
          f.plan_is
          ∙ ap (λ x. record { key = number_of o.op.key; act = x; issue = o.op.issued })
          (sym (answered_plan at content o.op.act o.op.content));
      answer_is = (place, answered_content o.op.act o.op.content content a.content a refl read);
      tag_is = sym tag;
    }

pub history_answered :
    (c n at version : ℕ) (content : Content) (fences : List AppliedFence) (a : Answer)
    (os : List Operation) (log : List Id) (issued : ℕ → ℕ) (plans : ℕ → ℕ → Plan)
    (answers : ℕ → ℕ → Option Answer) (stamps : ℕ → ℕ → ℕ) → a.place ≡ at
    → ((key : List ℕ) → (plans c n).key ≡ number_of key → a.tag ≡ origin_of fences key version)
    → ((plans c n).act ≡ Reads → a.content ≡ content_code content)
    → Paired (IsOperation issued plans answers stamps) os log
    → Paired (IsOperation issued plans (at_two answers c n (Some a)) stamps)
    (changed_at c n (answered_as fences at version content) os) log
history_answered c n at version content fences a os log issued plans answers stamps place tag read h
    =
    paired_mapped (IsOperation issued plans answers stamps)
    (IsOperation issued plans (at_two answers c n (Some a)) stamps)
    (λ o. cond (is_named c n o) (answered_as fences at version content o) o) os log each h
  where
    read_act : (o : Operation) → o.op.act ≡ act.Read → (plan_code o.op).act ≡ Reads
    read_act o e = ap (λ x. act_code x o.op.content) e

    by_test :
        (o : Operation) (i : Id) → IsOperation issued plans answers stamps o i
        → (b : Bool) → (i.client == c && i.seq == n) ≡ b
        → OperationFits (cond b (answered_as fences at version content o) o) i (issued i.client)
        (plans i.client i.seq) (cond b (Some a) (answers i.client i.seq)) (stamps i.client i.seq)
    by_test o i f true e =
        let parts = and_parts (i.client == c) (i.seq == n) e in
        let same : plans i.client i.seq ≡ plans c n =
        ap (λ k. plans k i.seq) (eqb-true i.client c parts.0)
        ∙ ap (plans c) (eqb-true i.seq n parts.1) in
        answered_one fences at version content o i (issued i.client) (plans i.client i.seq)
        (answers i.client i.seq) (stamps i.client i.seq) a f place
        (tag o.op.key (sym (ap (λ (p : Plan). p.key) same) ∙ ap (λ (p : Plan). p.key) f.plan_is))
        (λ r. read
        (sym (ap (λ (p : Plan). p.act) same) ∙ ap (λ (p : Plan). p.act) f.plan_is
        ∙ read_act o r))
    by_test o i f false e = f

    each :
        (o : Operation) (i : Id) → IsOperation issued plans answers stamps o i
        → IsOperation issued plans (at_two answers c n (Some a)) stamps
        (cond (is_named c n o) (answered_as fences at version content o) o) i
    each o i f =
        let same : (o.op.client == c && o.seq == n) ≡ (i.client == c && i.seq == n) =
        ap (λ k. k == c && o.seq == n) (sym f.client_is)
        ∙ ap (λ k. i.client == c && k == n) (sym f.seq_is) in
        rw same (by_test o i f (i.client == c && i.seq == n) refl)

-- ---- it is stamped

stamped_one :
    (version : ℕ) (o : Operation) (i : Id) (issued : ℕ) (plan : Plan) (answer : Option Answer)
    (stamp : ℕ) (x : Option ℕ) → plan.act ≡ Writes x
    → OperationFits o i issued plan answer stamp
    → OperationFits (stamped_as version o) i issued plan answer version
stamped_one version o i issued plan None stamp x write f =
    let none : o.op.answered ≡ None = f.answer_is in
    let test : is_none o.op.answered ≡ true = ap is_none none in
    let tag : version ≡ tag_of None plan.act version =
    ap (λ a. tag_of None a version) (sym write) in
    rw test
    (record {
      client_is = f.client_is;
      seq_is = f.seq_is;
      begun = f.begun;
      plan_is = f.plan_is;
      answer_is = f.answer_is;
      tag_is = tag;
    })
stamped_one version o i issued plan (Some a) stamp x write f =
    let test : is_none o.op.answered ≡ false = some o.op.answered f.answer_is in
    rw test
    (record {
      client_is = f.client_is;
      seq_is = f.seq_is;
      begun = f.begun;
      plan_is = f.plan_is;
      answer_is = f.answer_is;
      tag_is = f.tag_is;
    })
  where
    some : (at : Option ℕ) → AnswerFits at o a → is_none at ≡ false
    some None h = absurd h
    some (Some p) h = refl

pub history_stamped :
    (c n version : ℕ) (x : Option ℕ) (os : List Operation) (log : List Id) (issued : ℕ → ℕ)
    (plans : ℕ → ℕ → Plan) (answers : ℕ → ℕ → Option Answer) (stamps : ℕ → ℕ → ℕ)
    → (plans c n).act ≡ Writes x → Paired (IsOperation issued plans answers stamps) os log
    → Paired (IsOperation issued plans answers (at_two stamps c n version))
    (changed_at c n (stamped_as version) os) log
history_stamped c n version x os log issued plans answers stamps write h =
    paired_mapped (IsOperation issued plans answers stamps)
    (IsOperation issued plans answers (at_two stamps c n version))
    (λ o. cond (is_named c n o) (stamped_as version o) o) os log each h
  where
    by_test :
        (o : Operation) (i : Id) → IsOperation issued plans answers stamps o i
        → (b : Bool) → (i.client == c && i.seq == n) ≡ b
        → OperationFits (cond b (stamped_as version o) o) i (issued i.client)
        (plans i.client i.seq) (answers i.client i.seq) (cond b version (stamps i.client i.seq))
    by_test o i f true e =
        let parts = and_parts (i.client == c) (i.seq == n) e in
        let same : plans i.client i.seq ≡ plans c n =
        ap (λ k. plans k i.seq) (eqb-true i.client c parts.0)
        ∙ ap (plans c) (eqb-true i.seq n parts.1) in
        stamped_one version o i (issued i.client) (plans i.client i.seq)
        (answers i.client i.seq) (stamps i.client i.seq) x (ap (λ (p : Plan). p.act) same ∙ write) f
    by_test o i f false e = f

    each :
        (o : Operation) (i : Id) → IsOperation issued plans answers stamps o i
        → IsOperation issued plans answers (at_two stamps c n version)
        (cond (is_named c n o) (stamped_as version o) o) i
    each o i f =
        let same : (o.op.client == c && o.seq == n) ≡ (i.client == c && i.seq == n) =
        ap (λ k. k == c && o.seq == n) (sym f.client_is)
        ∙ ap (λ k. i.client == c && k == n) (sym f.seq_is) in
        rw same (by_test o i f (i.client == c && i.seq == n) refl)
