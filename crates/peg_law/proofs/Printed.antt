-- The printed order of a key is sorted and chosen alike in both machines.
use Rattle.std.proofs.Common.{◌≡◌, ◌+◌, ◌==◌, ◌&&◌, ◌||◌, ℕ, Bool, true, false, not, List, [], ◌∷◌}
use Rattle.std.proofs.Common.{cond, map, filter, Option, Some, None, is_some, refl, sym, ap, ◌∙◌}
use Rattle.std.proofs.Common.{subst, nat_lt}
use Rattle.std.proofs.Common.{if◌then◌else◌}
use Rattle.std.specs.Prelude.{unwrap_or}
use Rattle.std.specs.List.{list_any}
use Rattle.std.specs.Str.{bytes_eq}
use Rattle.peg_name.specs.declared.value.Content.{Content}
use Rattle.peg_event.specs.declared.history.Act.{Act}
use Rattle.peg_event.specs.declared.history.Act.TheVariants as act
use Rattle.peg_model.specs.Words.{last_number, sorted, placed}
use Rattle.peg_model.specs.Order.{Tagged, tagged, was_read, is_printed, stands_before, lesser, rank}
use Rattle.peg_model.specs.Order as order
use Rattle.peg_model.specs.World.{Operation}
use Rattle.peg_model.specs.World as world
use Rattle.peg_law.specs.Codes.{number_of, content_code, act_code}
use Rattle.peg_law.specs.Mirrors.{Paired, ReadFits, AnswerFits, AnsweredFits, OperationFits}
use Rattle.peg_law.specs.Mirrors.{IsOperation}
use Rattle.peg_law.proofs.Codes.{number_test}
use Rattle.peg_law.proofs.ClientSteps.{top_is}
use Rattle.peg_protocol.specs.Machine as machine
use Rattle.peg_protocol.specs.Machine.{Plan, Answer, Id}
use Rattle.peg_protocol.specs.Printed as law
use Rattle.peg_protocol.specs.Printed.{Book, tagged_from}

-- an operation with its tag, in both
pub record TaggedFits (t : Tagged) (u : law.Tagged) : Type 0 where
  pub name : u.op.name ≡ t.place
  pub key : u.op.key ≡ number_of t.op.key
  pub kind : u.op.act ≡ act_code t.op.act t.op.content
  pub issue : u.op.issue ≡ t.op.issued
  pub answer : u.op.answer ≡ t.op.answered
  pub content :
      (at : ℕ) → t.op.answered ≡ Some at → t.op.act ≡ act.Read
      → u.op.content ≡ content_code t.op.content
  pub tag : u.tag ≡ t.tag

-- ---- the history

tagged_one :
    (place : ℕ) (o : Operation) (i : Id) (b : Book) (issued : ℕ) (plan : Plan)
    (answer : Option Answer) (stamp : ℕ) → b.plans i.client i.seq ≡ plan
    → b.answers i.client i.seq ≡ answer → b.stamps i.client i.seq ≡ stamp
    → OperationFits o i issued plan answer stamp
    → TaggedFits (record { place = place; op = o.op; tag = o.tag }) (law.tagged b place i)
tagged_one place o i b issued plan answer stamp e1 e2 e3 f =
    record {
      name = refl;
      key = ap (λ (p : Plan). p.key) (e1 ∙ f.plan_is);
      kind = ap (λ (p : Plan). p.act) (e1 ∙ f.plan_is);
      issue = ap (λ (p : Plan). p.issue) (e1 ∙ f.plan_is);
      answer = ap law.answer_place e2 ∙ place_is answer o.op.answered f.answer_is refl;
      content = λ at e r. ap law.content_of e2 ∙ content_is answer at e r f.answer_is;
      tag =
          ap (λ a. law.tag_of a (b.plans i.client i.seq).act (b.stamps i.client i.seq)) e2
          ∙ ap (λ (p : Plan). law.tag_of answer p.act (b.stamps i.client i.seq)) e1
          ∙ ap (law.tag_of answer plan.act) e3 ∙ sym f.tag_is;
    }
  where
    place_is :
        (a : Option Answer) (at : Option ℕ) → AnsweredFits o a → o.op.answered ≡ at
        → law.answer_place a ≡ o.op.answered
    place_is None at h e = sym h
    place_is (Some a) None h e = absurd (subst (λ x. AnswerFits x o a) e h)
    place_is (Some a) (Some p) h e =
        ap Some (subst (λ x. AnswerFits x o a) e h).0 ∙ sym e

    content_is :
        (a : Option Answer) (at : ℕ) → o.op.answered ≡ Some at → o.op.act ≡ act.Read
        → AnsweredFits o a → law.content_of a ≡ content_code o.op.content
    content_is None at e r h = absurd (let x : None ≡ Some at = sym h ∙ e in cc)
    content_is (Some a) at e r h =
        let x = (subst (λ y. AnswerFits y o a) e h).1 in
        by_act o.op.act r x
      where
        by_act : (k : Act) → k ≡ act.Read → ReadFits k o.op.content a →
            a.content ≡ content_code o.op.content
        by_act act.Read e' x = x
        by_act act.Write e' x = absurd (cc)

pub all_tagged :
    (place : ℕ) (os : List Operation) (log : List Id) (b : Book) (issued : ℕ → ℕ)
    → Paired (IsOperation issued b.plans b.answers b.stamps) os log
    → Paired TaggedFits (tagged place (map (λ o. o.op) os) (map (λ o. o.tag) os))
    (tagged_from b place log)
all_tagged place [] [] b issued h = tt
all_tagged place [] (i ∷ is) b issued h = absurd h
all_tagged place (o ∷ os) [] b issued h = absurd h
all_tagged place (o ∷ os) (i ∷ is) b issued h = (
  tagged_one place o i b (issued i.client) (b.plans i.client i.seq) (b.answers i.client i.seq)
      (b.stamps i.client i.seq) refl refl refl h.0,
  all_tagged (place + 1) os is b issued h.1,
)

-- ---- what is chosen

write_is : (k : Act) (c : Content) → machine.is_write (act_code k c) ≡ world.is_write k
write_is act.Read c = refl
write_is act.Write c = refl

read_is : (k : Act) (c : Content) → machine.is_read (act_code k c) ≡ not (world.is_write k)
read_is act.Read c = refl
read_is act.Write c = refl

joined : (a b c d : Bool) → (a && (b && (c && d))) ≡ (a && b && c && d)
joined true true true d = refl
joined true true false d = refl
joined true false c d = refl
joined false b c d = refl

seen_one :
    (key : List ℕ) (tag : ℕ) (t : Tagged) (u : law.Tagged) → TaggedFits t u
    → law.is_seen (number_of key) tag u
    ≡ (bytes_eq t.op.key key && not (world.is_write t.op.act) && is_some t.op.answered
    && t.tag == tag)
seen_one key tag t u f =
    ap
    (λ k.
    k == number_of key
    && (machine.is_read u.op.act && (is_some u.op.answer && u.tag == tag)))
    f.key
    ∙ ap (λ x. x && (machine.is_read u.op.act && (is_some u.op.answer && u.tag == tag)))
    (number_test t.op.key key)
    ∙ ap (λ x. bytes_eq t.op.key key
    && (machine.is_read x && (is_some u.op.answer && u.tag == tag)))
    f.kind
    ∙ ap (λ x. bytes_eq t.op.key key && (x && (is_some u.op.answer && u.tag == tag)))
    (read_is t.op.act t.op.content)
    ∙ ap
    (λ x. bytes_eq t.op.key key && (not (world.is_write t.op.act) && (is_some x && u.tag == tag)))
    f.answer
    ∙ ap
    (λ x.
    bytes_eq t.op.key key && (not (world.is_write t.op.act) && (is_some t.op.answered && x == tag)))
    f.tag
    ∙ joined (bytes_eq t.op.key key) (not (world.is_write t.op.act)) (is_some t.op.answered)
    (t.tag == tag)

seen_any :
    (key : List ℕ) (tag : ℕ) (ts : List Tagged) (us : List law.Tagged) → Paired TaggedFits ts us
    → list_any (law.is_seen (number_of key) tag) us ≡ was_read ts key tag
seen_any key tag [] [] h = refl
seen_any key tag [] (u ∷ us) h = absurd h
seen_any key tag (t ∷ ts) [] h = absurd h
seen_any key tag (t ∷ ts) (u ∷ us) h =
    ap (λ b. b || list_any (law.is_seen (number_of key) tag) us) (seen_one key tag t u h.0)
    ∙ ap
    (λ b.
    (bytes_eq t.op.key key && not (world.is_write t.op.act) && is_some t.op.answered
    && t.tag == tag)
    || b)
    (seen_any key tag ts us h.1)

three : (a b c : Bool) → (a && (b && c)) ≡ (a && b && c)
three true b c = refl
three false b c = refl

module _ (key : List ℕ) (all : List Tagged) (all' : List law.Tagged)
    (fit : Paired TaggedFits all all') where
  printed_one :
      (t : Tagged) (u : law.Tagged) → TaggedFits t u
      → law.is_printed (number_of key) all' u ≡ is_printed all key t
  printed_one t u f =
      ap
      (λ k.
      k == number_of key
      && (is_some u.op.answer
      || (machine.is_write u.op.act
      && (nat_lt 0 u.tag && list_any (law.is_seen (number_of key) u.tag) all'))))
      f.key
      ∙ ap
      (λ x.
      x
      && (is_some u.op.answer
      || (machine.is_write u.op.act
      && (nat_lt 0 u.tag && list_any (law.is_seen (number_of key) u.tag) all'))))
      (number_test t.op.key key)
      ∙ ap
      (λ x.
      bytes_eq t.op.key key
      && (is_some x
      || (machine.is_write u.op.act
      && (nat_lt 0 u.tag && list_any (law.is_seen (number_of key) u.tag) all'))))
      f.answer
      ∙ ap
      (λ x.
      bytes_eq t.op.key key
      && (is_some t.op.answered
      || (x && (nat_lt 0 u.tag && list_any (law.is_seen (number_of key) u.tag) all'))))
      (ap machine.is_write f.kind ∙ write_is t.op.act t.op.content)
      ∙ ap
      (λ x.
      bytes_eq t.op.key key
      && (is_some t.op.answered
      || (world.is_write t.op.act
      && (nat_lt 0 x && list_any (law.is_seen (number_of key) x) all'))))
      f.tag
      ∙ ap
      (λ x.
      bytes_eq t.op.key key
      && (is_some t.op.answered || (world.is_write t.op.act && (nat_lt 0 t.tag && x))))
      (seen_any key t.tag all all' fit)
      ∙ ap (λ x. bytes_eq t.op.key key && (is_some t.op.answered || x))
      (three (world.is_write t.op.act) (nat_lt 0 t.tag) (was_read all key t.tag))

  chosen :
      (ts : List Tagged) (us : List law.Tagged) → Paired TaggedFits ts us
      → Paired TaggedFits (filter (is_printed all key) ts)
      (filter (law.is_printed (number_of key) all') us)
  chosen [] [] h = tt
  chosen [] (u ∷ us) h = absurd h
  chosen (t ∷ ts) [] h = absurd h
  chosen (t ∷ ts) (u ∷ us) h =
      rw (printed_one t u h.0) (by_test (is_printed all key t) (chosen ts us h.1))
    where
      by_test :
          (b : Bool)
          → Paired TaggedFits (filter (is_printed all key) ts)
          (filter (law.is_printed (number_of key) all') us)
          → Paired TaggedFits
          (cond b (t ∷ filter (is_printed all key) ts) (filter (is_printed all key) ts))
          (cond b (u ∷ filter (law.is_printed (number_of key) all') us)
          (filter (law.is_printed (number_of key) all') us))
      by_test true rest = (h.0, rest)
      by_test false rest = rest

-- ---- how it is sorted

kind_is : (k : Act) (c : Content) → law.kind (act_code k c) ≡ (if world.is_write k then 0 else 1)
kind_is act.Read c = refl
kind_is act.Write c = refl

place_of : (o : Option ℕ) → law.place o ≡ unwrap_or o (last_number + 1)
place_of None = ap (λ n. n + 1) top_is
place_of (Some p) = refl

before_is :
    (a : Tagged) (a' : law.Tagged) (b : Tagged) (b' : law.Tagged) → TaggedFits a a'
    → TaggedFits b b' → law.goes_first a' b' ≡ stands_before a b
before_is a a' b b' f g =
    ap
    (λ x.
    lesser x b'.tag
    (lesser (law.kind a'.op.act) (law.kind b'.op.act)
    (lesser (law.place a'.op.answer) (law.place b'.op.answer) (nat_lt a'.op.name b'.op.name))))
    f.tag
    ∙ ap
    (λ x.
    lesser a.tag x
    (lesser (law.kind a'.op.act) (law.kind b'.op.act)
    (lesser (law.place a'.op.answer) (law.place b'.op.answer) (nat_lt a'.op.name b'.op.name))))
    g.tag
    ∙ ap
    (λ x.
    lesser a.tag b.tag
    (lesser x (law.kind b'.op.act)
    (lesser (law.place a'.op.answer) (law.place b'.op.answer) (nat_lt a'.op.name b'.op.name))))
    (ap law.kind f.kind ∙ kind_is a.op.act a.op.content)
    ∙ ap
    (λ x.
    lesser a.tag b.tag
    (lesser (rank a.op) x
    (lesser (law.place a'.op.answer) (law.place b'.op.answer) (nat_lt a'.op.name b'.op.name))))
    (ap law.kind g.kind ∙ kind_is b.op.act b.op.content)
    ∙ ap
    (λ x.
    lesser a.tag b.tag
    (lesser (rank a.op) (rank b.op)
    (lesser x (law.place b'.op.answer) (nat_lt a'.op.name b'.op.name))))
    (ap law.place f.answer ∙ place_of a.op.answered)
    ∙ ap
    (λ x.
    lesser a.tag b.tag
    (lesser (rank a.op) (rank b.op)
    (lesser (order.answer_place a.op) x (nat_lt a'.op.name b'.op.name))))
    (ap law.place g.answer ∙ place_of b.op.answered)
    ∙ ap
    (λ x.
    lesser a.tag b.tag
    (lesser (rank a.op) (rank b.op)
    (lesser (order.answer_place a.op) (order.answer_place b.op) (nat_lt x b'.op.name))))
    f.name
    ∙ ap
    (λ x.
    lesser a.tag b.tag
    (lesser (rank a.op) (rank b.op)
    (lesser (order.answer_place a.op) (order.answer_place b.op) (nat_lt a.place x))))
    g.name

inserted :
    (t : Tagged) (u : law.Tagged) (ts : List Tagged) (us : List law.Tagged) → TaggedFits t u
    → Paired TaggedFits ts us
    → Paired TaggedFits (placed stands_before t ts) (law.insert u us)
inserted t u [] [] f h = (f, tt)
inserted t u [] (v ∷ us) f h = absurd h
inserted t u (r ∷ ts) [] f h = absurd h
inserted t u (r ∷ ts) (v ∷ us) f h =
    rw (before_is t u r v f h.0) (by_test (stands_before t r) (inserted t u ts us f h.1))
  where
    by_test :
        (b : Bool) → Paired TaggedFits (placed stands_before t ts) (law.insert u us)
        → Paired TaggedFits (cond b (t ∷ r ∷ ts) (r ∷ placed stands_before t ts))
        (cond b (u ∷ v ∷ us) (v ∷ law.insert u us))
    by_test true rest = (f, h)
    by_test false rest = (h.0, rest)

pub sorted_alike :
    (ts : List Tagged) (us : List law.Tagged) → Paired TaggedFits ts us
    → Paired TaggedFits (sorted stands_before ts) (law.sort us)
sorted_alike [] [] h = tt
sorted_alike [] (u ∷ us) h = absurd h
sorted_alike (t ∷ ts) [] h = absurd h
sorted_alike (t ∷ ts) (u ∷ us) h =
    inserted t u (sorted stands_before ts) (law.sort us) h.0 (sorted_alike ts us h.1)

-- the printed order in both
pub printed_alike :
    (key : List ℕ) (all : List Tagged) (all' : List law.Tagged) → Paired TaggedFits all all'
    → Paired TaggedFits (sorted stands_before (filter (is_printed all key) all))
    (law.sort (filter (law.is_printed (number_of key) all') all'))
printed_alike key all all' fit =
    sorted_alike (filter (is_printed all key) all)
    (filter (law.is_printed (number_of key) all') all') (chosen key all all' fit all all' fit)
