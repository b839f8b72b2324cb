-- What the packets in flight tell of a client: a request with the number of its pending operation
-- is a request of that operation. A client's step keeps that, and asks in its own name alone.
use Rattle.std.proofs.Common.{◌≡◌, ◌≢◌, ◌<◌, ◌+◌, ◌==◌, ℕ, Bool, true, false, if◌then◌else◌, nat_lt}
use Rattle.std.proofs.Common.{List, [], ◌++◌, Option, Some, None, refl, sym, ap, ◌∙◌, subst}
use Rattle.std.proofs.Common.{arith, append-nil}
use Rattle.std.proofs.lemmas.Bool.{cond_both}
use Rattle.std.proofs.lemmas.Option.{same_Some}
use Rattle.std.specs.List.{AllByRecursion}
use Rattle.peg_name.specs.declared.Node.{Node}
use Rattle.peg_name.specs.declared.Node.TheVariants as node
use Rattle.peg_event.specs.declared.answers.Ask.{Ask}
use Rattle.peg_event.specs.declared.answers.Ask.TheVariants as ask
use Rattle.peg_event.specs.declared.answers.Issue.TheVariants as issue
use Rattle.peg_event.specs.declared.ClientDid.{ClientDid}
use Rattle.peg_event.specs.declared.ClientDid.TheVariants as did
use Rattle.peg_event.specs.declared.answers.Pending.{Pending}
use Rattle.peg_model.specs.Words.{last_number, Step, refuse}
use Rattle.peg_model.specs.Packet.{Packet, Read, Write, ReadReply, WriteReply, Announce}
use Rattle.peg_model.specs.Client.{Client, request, request_of, begin_unless, begin_operation}
use Rattle.peg_model.specs.Client.{resend, resend_of, give_up, give_up_of, is_read, answered}
use Rattle.peg_model.specs.Client.{awaits_read, awaits_write, client_step}
use Rattle.peg_law.proofs.Lists.{all_append, all_as}

-- ---- what is kept

-- a request of this number, key and kind is in flight, of the client that it names
pub record IsKnown (c : Client) (seq : ℕ) (key : List ℕ) (read : Bool) : Type 0 where
  pub below : seq < c.next
  pub same :
      (p : Pending) → c.pending ≡ Some p → p.seq ≡ seq → (p.key ≡ key) × (is_read p.ask ≡ read)

abbrev pub Knows : Client → Node × Packet → Type 0
Knows c (to, Read client seq key) = client ≡ c.id → IsKnown c seq key true
Knows c (to, Write client seq key content) = client ≡ c.id → IsKnown c seq key false
Knows c _ = Unit {0}

-- a packet is no request but one of this client, and it is none at all
abbrev pub IsOwn : ℕ → Node × Packet → Type 0
IsOwn id (to, Read client seq key) = client ≡ id
IsOwn id (to, Write client seq key content) = client ≡ id
IsOwn id _ = Unit {0}

abbrev pub IsNoRequest : Node × Packet → Type 0
IsNoRequest (to, Read client seq key) = ⊥
IsNoRequest (to, Write client seq key content) = ⊥
IsNoRequest _ = Unit {0}

-- a step that sends no request
abbrev pub SendsNone : {S D : Type 0} → Step S (Node × Packet) D → Type 0
SendsNone s = AllByRecursion IsNoRequest s.sent

pub record ClientOk (packets : List (Node × Packet)) (c : Client) : Type 0 where
  pub pending_below : (p : Pending) → c.pending ≡ Some p → p.seq < c.next
  pub knows : AllByRecursion (Knows c) packets

-- a client's step from c to d, with what it sent
pub record IsTurn (c d : Client) (sent : List (Node × Packet)) : Type 0 where
  pub id : d.id ≡ c.id
  pub own : AllByRecursion (IsOwn c.id) sent
  pub kept : (packets : List (Node × Packet)) → ClientOk packets c → ClientOk (packets ++ sent) d

-- ---- packets more

knows_none : (c : Client) (item : Node × Packet) → IsNoRequest item → Knows c item
knows_none c (to, Read client seq key) none = absurd none
knows_none c (to, Write client seq key content) none = absurd none
knows_none c _ none = tt

knows_other :
    (c : Client) (id : ℕ) → c.id ≢ id → (item : Node × Packet) → IsOwn id item → Knows c item
knows_other c id other (to, Read client seq key) own = λ e. absurd (other (sym e ∙ own))
knows_other c id other (to, Write client seq key content) own = λ e. absurd (other (sym e ∙ own))
knows_other c id other _ own = tt

pub more_none :
    (c : Client) (packets sent : List (Node × Packet)) → AllByRecursion IsNoRequest sent
    → ClientOk packets c → ClientOk (packets ++ sent) c
more_none c packets sent none ok =
    record {
      pending_below = ok.pending_below;
      knows =
          all_append (Knows c) packets sent ok.knows
          (all_as IsNoRequest (Knows c) sent (knows_none c) none);
    }

pub more_of_other :
    (c : Client) (id : ℕ) (packets sent : List (Node × Packet)) → c.id ≢ id
    → AllByRecursion (IsOwn id) sent → ClientOk packets c → ClientOk (packets ++ sent) c
more_of_other c id packets sent other own ok =
    record {
      pending_below = ok.pending_below;
      knows =
          all_append (Knows c) packets sent ok.knows
          (all_as (IsOwn id) (Knows c) sent (knows_other c id other) own);
    }

-- ---- a client with nothing pending but what was pending

record IsLess (c d : Client) : Type 0 where
  id : d.id ≡ c.id
  next : d.next ≡ c.next
  pending : (p : Pending) → d.pending ≡ Some p → c.pending ≡ Some p

known_less :
    (c d : Client) → IsLess c d → (seq : ℕ) (key : List ℕ) (read : Bool) → IsKnown c seq key read
    → IsKnown d seq key read
known_less c d l seq key read k =
    record {
      below = let e = l.next in let b = k.below in omega (arith, e, b);
      same = λ p e. k.same p (l.pending p e);
    }

knows_less : (c d : Client) → IsLess c d → (item : Node × Packet) → Knows c item → Knows d item
knows_less c d l (to, Read client seq key) k =
    λ e. known_less c d l seq key true (k (e ∙ l.id))
knows_less c d l (to, Write client seq key content) k =
    λ e. known_less c d l seq key false (k (e ∙ l.id))
knows_less c d l _ k = tt

turn_less : (c d : Client) → IsLess c d → IsTurn c d []
turn_less c d l =
    record {
      id = l.id;
      own = tt;
      kept = λ packets ok.
          subst (λ ps. ClientOk ps d) (sym (append-nil packets))
          (record {
            pending_below =
                λ p e.
                let b = ok.pending_below p (l.pending p e) in
                let n = l.next in omega (arith, b, n);
            knows = all_as (Knows c) (Knows d) packets (knows_less c d l) ok.knows;
          });
    }

none_pending : (c : Client) (p : Pending) → None ≡ Some p → c.pending ≡ Some p
none_pending c p e = absurd (cc)

turn_none : (c : Client) → IsTurn c c []
turn_none c = turn_less c c (record { id = refl; next = refl; pending = λ p e. e })

turn_open : (c : Client) → IsTurn c (record c { pending = None }) []
turn_open c =
    turn_less c (record c { pending = None })
    (record { id = refl; next = refl; pending = none_pending c })

-- ---- a request of the pending operation

asks_own : (c : Client) (seq : ℕ) (key : List ℕ) (a : Ask) (to : Node)
    → IsOwn c.id (to, request_of c.id seq key a)
asks_own c seq key ask.Read to = refl
asks_own c seq key (ask.Write content) to = refl

asks_known :
    (c : Client) (seq : ℕ) (key : List ℕ) (a : Ask) (to : Node) → IsKnown c seq key (is_read a)
    → Knows c (to, request_of c.id seq key a)
asks_known c seq key ask.Read to k = λ e. k
asks_known c seq key (ask.Write content) to k = λ e. k

known_pending :
    (c : Client) (p : Pending) → c.pending ≡ Some p → p.seq < c.next
    → IsKnown c p.seq p.key (is_read p.ask)
known_pending c p e b =
    record {
      below = b;
      same = λ q f s.
          let g : q ≡ p = same_Some q p (sym f ∙ e) in
          (ap (λ (r : Pending). r.key) g, ap (λ (r : Pending). is_read r.ask) g);
    }

turn_again : (c : Client) (p : Pending) → c.pending ≡ Some p → IsTurn c c (request c p)
turn_again c p e =
    record {
      id = refl;
      own = (asks_own c p.seq p.key p.ask (node.Switch c.switch), tt);
      kept = λ packets ok. record {
        pending_below = ok.pending_below;
        knows =
            all_append (Knows c) packets (request c p) ok.knows (
              asks_known c p.seq p.key p.ask (node.Switch c.switch)
                  (known_pending c p e (ok.pending_below p e)),
              tt,
            );
      };
    }

-- ---- an operation that begins

abbrev with_new : Client → Pending → Client
with_new c p = record c { next = c.next + 1; pending = Some p }

known_older :
    (c : Client) (p : Pending) → p.seq ≡ c.next → (seq : ℕ) (key : List ℕ) (read : Bool)
    → IsKnown c seq key read → IsKnown (with_new c p) seq key read
known_older c p new seq key read k =
    record {
      below = let b = k.below in omega (arith, b);
      same = λ q f s.
          let g : p ≡ q = same_Some p q f in
          let h : p.seq ≡ q.seq = ap (λ (r : Pending). r.seq) g in
          let b = k.below in absurd (omega (arith, b, h, s, new));
    }

knows_older :
    (c : Client) (p : Pending) → p.seq ≡ c.next → (item : Node × Packet) → Knows c item
    → Knows (with_new c p) item
knows_older c p new (to, Read client seq key) k = λ e. known_older c p new seq key true (k e)
knows_older c p new (to, Write client seq key content) k =
    λ e. known_older c p new seq key false (k e)
knows_older c p new _ k = tt

turn_new : (c : Client) (p : Pending) → p.seq ≡ c.next → IsTurn c (with_new c p) (request c p)
turn_new c p new =
    record {
      id = refl;
      own = (asks_own c p.seq p.key p.ask (node.Switch c.switch), tt);
      kept = λ packets ok. record {
        pending_below = λ q f.
            let h : p.seq ≡ q.seq = ap (λ (r : Pending). r.seq) (same_Some p q f) in
            omega (arith, h, new);
        knows =
            all_append (Knows (with_new c p)) packets (request c p)
            (all_as (Knows c) (Knows (with_new c p)) packets (knows_older c p new) ok.knows) (
              asks_known (with_new c p) p.seq p.key p.ask (node.Switch c.switch)
                  (known_pending (with_new c p) p refl (omega (arith, new))),
              tt,
            );
      };
    }

-- ---- the calls and the step

pub turn_begins : (c : Client) (key : List ℕ) (a : Ask)
    → IsTurn c (begin_operation c key a).state (begin_operation c key a).sent
turn_begins c key a = begins c.pending refl
  where
    begins : (o : Option Pending) → c.pending ≡ o
        → IsTurn c (begin_unless o c key a).state (begin_unless o c key a).sent
    begins (Some p) e = turn_none c
    begins None e =
        let p : Pending = record { seq = c.next; key = key; ask = a } in
        cond_both (c.next == last_number) (refuse c issue.Spent)
        (record { state = with_new c p; sent = request c p; did = issue.Sent c.next })
        (λ s. IsTurn c s.state s.sent) (λ spent. turn_none c) (λ left. turn_new c p refl)

pub turn_resends : (c : Client) → IsTurn c (resend c).state (resend c).sent
turn_resends c = resends c.pending refl
  where
    resends :
        (o : Option Pending) → c.pending ≡ o → IsTurn c (resend_of o c).state (resend_of o c).sent
    resends (Some p) e = turn_again c p e
    resends None e = turn_none c

pub turn_gives_up : (c : Client) → IsTurn c (give_up c).state (give_up c).sent
turn_gives_up c = gives_up c.pending
  where
    gives_up :
        (o : Option Pending) → IsTurn c (give_up_of o c).state (give_up_of o c).sent
    gives_up (Some p) = turn_open c
    gives_up None = turn_none c

IsStep : Client → Step Client (Node × Packet) ClientDid → Type 0
IsStep c s = IsTurn c s.state s.sent

turn_answers :
    (c : Client) (b : Bool) (d : ClientDid)
    → IsStep c (if b then answered c d else refuse c did.Ignored)
unfolding IsStep
turn_answers c true d = turn_open c
turn_answers c false d = turn_none c

pub turn_steps :
    (c : Client) (p : Packet) → IsTurn c (client_step c p).state (client_step c p).sent
unfolding client_step IsStep
turn_steps c (ReadReply client seq version server switch key content) =
    turn_answers c (awaits_read c client seq key) (did.Read seq version content)
turn_steps c (WriteReply client seq version server switch key) =
    turn_answers c (awaits_write c client seq key) (did.Wrote seq version)
turn_steps c (Announce epoch switch) = moves (nat_lt c.epoch epoch)
  where
    moves : (b : Bool) → IsStep c
        (if b
        then record {
          state = record c { switch = switch; epoch = epoch };
          sent = [];
          did = did.Moved switch epoch;
        }
        else refuse c did.Ignored)
    moves true =
        turn_less c (record c { switch = switch; epoch = epoch })
        (record { id = refl; next = refl; pending = λ p e. e })
    moves false = turn_none c
turn_steps c _ = turn_none c
