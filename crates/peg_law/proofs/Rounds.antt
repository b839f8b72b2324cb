-- An operation with a full round is answered at its last delivery.
use Rattle.std.proofs.Common.{◌≡◌, ◌<◌, ℕ, Bool, List}
use Rattle.std.proofs.Common.{Option, Some, None, slice_get, refl, sym, ap, ◌∙◌, subst, arith}
use Rattle.std.specs.Prelude.{IsSomeAnd, Contains}
use Rattle.peg_name.specs.Name.{Rack}
use Rattle.peg_name.specs.declared.Node.{Node}
use Rattle.peg_name.specs.declared.Node.TheVariants as node
use Rattle.peg_event.specs.declared.answers.Ask.{Ask}
use Rattle.peg_event.specs.declared.answers.Ask.TheVariants as ask
use Rattle.peg_event.specs.declared.ClientDid.{ClientDid}
use Rattle.peg_event.specs.declared.Event.{Event}
use Rattle.peg_event.specs.declared.Event.TheVariants as event
use Rattle.peg_event.specs.declared.Line.{Line}
use Rattle.peg_event.specs.declared.answers.Pending.{Pending}
use Rattle.peg_event.specs.declared.Said.TheVariants as said
use Rattle.peg_model.specs.Packet.{Packet, Read, Write}
use Rattle.peg_model.specs.Client.{request_of, is_read}
use Rattle.peg_model.specs.Switch.{Active}
use Rattle.peg_model.specs.World.{World, start, step, happens, client_of, switch_of, delivers}
use Rattle.peg_model.specs.World.{delivers_item}
use Rattle.peg_model.specs.Moments.{Moment, moments, IsHandedOn, IsRequestOf, IsReply}
use Rattle.peg_model.specs.Moments.{FullRound, IsAnswer, IsAnsweredAt}
use Rattle.peg_law.proofs.Lists.{get_later, all_at}
use Rattle.peg_law.proofs.Known.{Knows}
use Rattle.peg_law.proofs.Runs.{Sound, sound_start, after, met, between, begins_after}
use Rattle.peg_law.proofs.Hops.{Sends, sent_next, IsForwarded, IsServed, IsAnswered, first_hop}
use Rattle.peg_law.proofs.Hops.{second_hop, third_hop}
use Rattle.peg_law.proofs.Answers.{IsFor, Answers, pending_client, known_request, answered_by}

-- ---- what is at a place

some_is :
    {A : Type 0} (o : Option A) (P : A → Type 0) → IsSomeAnd o P → (x : A) × (o ≡ Some x) × P x
some_is None P h = absurd h
some_is (Some x) P h = (x, refl, h)

so_at :
    {A : Type 0} (o : Option A) (P : A → Type 0) (x : A) → IsSomeAnd o P → o ≡ Some x → P x
so_at o P x h e = subst (λ p. IsSomeAnd p P) e h

record IsRequest (client seq : ℕ) (item : Node × Packet) : Type 0 where
  key : List ℕ
  ask : Ask
  is : item.1 ≡ request_of client seq key ask

abbrev IsOnActive : World → Node × Packet → Type 0
IsOnActive w item = (id : ℕ) × (item.0 ≡ node.Switch id) × ((switch_of w id).mode ≡ Active)

request_is :
    (client seq : ℕ) (item : Node × Packet) → IsRequestOf client seq item
    → IsRequest client seq item
request_is client seq (to, Read c q key) (e, f) =
    record {
      key = key;
      ask = ask.Read;
      is = ap (λ n. Read n q key) e ∙ ap (λ n. Read client n key) f;
    }
request_is client seq (to, Write c q key content) (e, f) =
    record {
      key = key;
      ask = ask.Write content;
      is = ap (λ n. Write n q key content) e ∙ ap (λ n. Write client n key content) f;
    }
request_is client seq _ h = absurd h

-- ---- a delivery

-- the world in which a line's event happens
abbrev at_line : Moment → World
at_line m = record m.before { place = m.place }

delivered_at :
    (m : Moment) (number pick : ℕ) (item : Node × Packet) → m.event ≡ event.Deliver number pick
    → slice_get m.before.packets number ≡ Some item
    → step m.before m.place m.event ≡ delivers (at_line m) item.0 item.1 pick
unfolding happens
delivered_at m number pick item e at =
    ap (λ (v : Event). step m.before m.place v) e
    ∙ ap (λ o. delivers_item (at_line m) number o pick) at

-- what is sent for a packet that was delivered is found at the place that the line says
sent_on :
    (P : Node × Packet → Type 0) (m : Moment) (number next : ℕ) (item : Node × Packet)
    → (h : IsHandedOn m number next) → slice_get m.before.packets number ≡ Some item
    → m.line ≡ (step m.before m.place m.event).1
    → Sends P (at_line m) (delivers (at_line m) item.0 item.1 h.pick)
    → (x : Node × Packet) × (slice_get (after m).packets next ≡ Some x) × P x
sent_on P m number next item h at line sends =
    let is = delivered_at m number h.pick item h.delivered at in
    sent_next P (at_line m) (step m.before m.place m.event) next
    (subst (λ (r : World × Line). Sends P (at_line m) r) (sym is) sends)
    (ap (λ (l : Line). l.sent) (sym line) ∙ h.sent)

-- ---- the whole round

-- what was sent up to a line's end is at its place at a later line
kept_until :
    (w : World) (place : ℕ) (events : List Event) (m n : Moment) (i : ℕ) (x : Node × Packet)
    → Sound w → Contains (moments w place events) m → Contains (moments w place events) n
    → m.place < n.place → slice_get (after m).packets i ≡ Some x
    → slice_get n.before.packets i ≡ Some x
kept_until w place events m n i x s one other sooner e =
    get_later (after m).packets n.before.packets i x
    (between w place events m n s one other sooner) e

-- what a delivery hands on is found where the next one takes it
record Handed (P : Node × Packet → Type 0) (m : Moment) (number : ℕ) : Type 0 where
  item : Node × Packet
  at : slice_get m.before.packets number ≡ Some item
  is : P item

handed_to :
    (w : World) (place : ℕ) (events : List Event) (P : Node × Packet → Type 0) (m n : Moment)
    (number next : ℕ) (item : Node × Packet) (h : IsHandedOn m number next)
    → Sound w → Contains (moments w place events) m → Contains (moments w place events) n
    → m.place < n.place → slice_get m.before.packets number ≡ Some item
    → Sends P (at_line m) (delivers (at_line m) item.0 item.1 h.pick)
    → Handed P n next
handed_to w place events P m n number next item h s one other sooner at sends =
    let x = sent_on P m number next item h at (met w place events m s one).line sends in
    record {
      item = x.0;
      at = kept_until w place events m n next x.0 s one other sooner x.1;
      is = x.2;
    }

module _ (w : World) (place : ℕ) (events : List Event) (client seq : ℕ) (last : Moment)
    (s : Sound w) (f : FullRound (moments w place events) client seq last) where
  record Asked : Type 0 where
    item : Node × Packet
    at : slice_get f.first.before.packets f.request ≡ Some item
    is : IsRequest client seq item

  asked : Asked
  asked =
      let x =
      some_is (slice_get f.first.before.packets f.request) (IsRequestOf client seq) f.is_request in
      record { item = x.0; at = x.1; is = request_is client seq x.0 x.2 }

  to_server :
      (a : Asked) → Handed (IsForwarded client seq a.is.key (is_read a.is.ask)) f.second f.forwarded
  to_server a =
      let m = f.first in
      let P = IsForwarded client seq a.is.key (is_read a.is.ask) in
      let on =
      so_at (slice_get m.before.packets f.request) (IsOnActive m.before) a.item f.at_active.0
      a.at in
      handed_to w place events P m f.second f.request f.forwarded a.item f.hops.0 s f.in_run.0
      f.in_run.1 f.rising.0 a.at
      (first_hop (at_line m) a.item on.0 client seq a.is.key a.is.ask f.hops.0.pick on.1
      a.is.is on.2)

  back :
      (key : List ℕ) (read : Bool) → Handed (IsForwarded client seq key read) f.second f.forwarded
      → Handed (IsServed client seq key read) f.third f.reply
  back key read h =
      let m = f.second in
      handed_to w place events (IsServed client seq key read) m f.third f.forwarded f.reply h.item
      f.hops.1 s f.in_run.1 f.in_run.2 f.rising.1 h.at
      (second_hop (at_line m) h.item client seq key read f.hops.1.pick h.is)

  to_client : (key : List ℕ) (read : Bool) → Handed (IsServed client seq key read) f.third f.reply
      → Handed (IsAnswered client seq key read) last f.answer
  to_client key read h =
      let m = f.third in
      let r = so_at (slice_get m.before.packets f.reply) IsReply h.item f.is_reply h.at in
      let on =
      so_at (slice_get m.before.packets f.reply) (IsOnActive m.before) h.item f.at_active.1 h.at
      in
      handed_to w place events (IsAnswered client seq key read) m last f.reply f.answer h.item
      f.hops.2 s f.in_run.2 f.in_run.3 f.rising.2 h.at
      (third_hop (at_line m) h.item on.0 client seq key read f.hops.2.pick h.is r on.1 on.2)

  -- the request is in flight at the last delivery, and so of the pending operation
  still :
      (a : Asked) (p : Pending) → (client_of last.before client).pending ≡ Some p → p.seq ≡ seq
      → IsFor (client_of last.before client) client seq a.is.key (is_read a.is.ask) p
  still a p e n =
      let c = client_of last.before client in
      let sooner : f.first.place < last.place =
      omega (arith, f.rising.0, f.rising.1, f.rising.2) in
      let at =
      kept_until w place events f.first last f.request a.item s f.in_run.0 f.in_run.3 sooner
      (get_later f.first.before.packets (after f.first).packets f.request a.item
      (begins_after f.first.before f.first.place f.first.event) a.at) in
      let sound = (met w place events last s f.in_run.3).sound in
      let here = pending_client last.before client p sound e in
      let knows = all_at (Knows c) last.before.packets f.request a.item at here.ok.knows in
      let known =
      known_request c a.item.0 client seq a.is.key a.is.ask here.number
      (subst (λ q. Knows c (a.item.0, q)) a.is.is knows) in
      let same = known.same p e n in
      record {
        pending = e;
        client_is = sym here.number;
        seq_is = sym n;
        key_is = sym same.0;
        kind = same.1;
      }

  answer_at :
      (a : Asked) → Handed (IsAnswered client seq a.is.key (is_read a.is.ask)) last f.answer
      → IsAnsweredAt last client seq
  answer_at a h =
      let pending =
      some_is (client_of last.before client).pending (λ p. p.seq ≡ seq) f.is_pending in
      let p = pending.0 in
      let answers =
      answered_by (at_line last) h.item client seq a.is.key (is_read a.is.ask) p f.delivered.0
      (still a p pending.1 pending.2) h.is in
      let is = delivered_at last f.answer f.delivered.0 h.item f.delivered.1 h.at in
      let line = (met w place events last s f.in_run.3).line in
      subst
      (λ (l : Line). (d : ClientDid) × (l.said ≡ said.Client client d) × IsAnswer client seq d)
      (sym line)
      (subst (λ (r : World × Line). Answers r client seq) (sym is) answers)

  round : IsAnsweredAt last client seq
  round =
      let a = asked in
      let key = a.is.key in
      let read = is_read a.is.ask in
      answer_at a (to_client key read (back key read (to_server a)))

pub full_round :
    (rack : Rack) (keys : List (List ℕ)) (events : List Event) (client seq : ℕ) (last : Moment)
    → FullRound (moments (start rack keys) 2 events) client seq last → IsAnsweredAt last client seq
full_round rack keys events client seq last f =
    round (start rack keys) 2 events client seq last (sound_start rack keys) f
