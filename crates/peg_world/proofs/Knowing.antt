-- What a client's pending operation says of the operations, kept by each step.
use Rattle.std.proofs.Common.{◌≡◌, ℕ, ◌+◌, ◌<◌, ◌≤◌, ◌||◌, true, false, List, [], ◌∷◌}
use Rattle.std.proofs.Common.{refl, ap, sym, ◌∙◌, arith, Some, None}
use Rattle.std.proofs.Common.{length, length-append}
use Rattle.std.specs.Prelude.{is_none, IfSome}
use Rattle.std.specs.List.{AllByRecursion, list_any}
use Rattle.std.proofs.lemmas.Bool.{cond_both}
use Rattle.std.proofs.lemmas.Bool.Decides.{nat_tests}
use Rattle.std.proofs.lemmas.List.{length-map}
use Rattle.peg_name.specs.Name.{Rack}
use Rattle.peg_name.specs.declared.value.Content.{Content}
use Rattle.peg_name.specs.declared.value.Content.TheVariants.{Absent}
use Rattle.peg_name.specs.declared.Node.{Node}
use Rattle.peg_event.specs.declared.answers.Ask.{Ask}
use Rattle.peg_event.specs.declared.answers.Ask.TheVariants as ask
use Rattle.peg_event.specs.declared.ClientDid.{ClientDid}
use Rattle.peg_event.specs.declared.ClientDid.TheVariants as client_did
use Rattle.peg_event.specs.declared.answers.Issue.{Issue}
use Rattle.peg_event.specs.declared.answers.Issue.TheVariants as issue
use Rattle.peg_event.specs.declared.history.Op.{Op}
use Rattle.peg_event.specs.declared.answers.Pending.{Pending}
use Rattle.peg_model.specs.Words.{Step}
use Rattle.peg_model.specs.Packet.{Packet}
use Rattle.peg_model.specs.Client.{Client, begin_operation, client_step, give_up, give_up_of}
use Rattle.peg_model.specs.World.{Operation, AppliedFence, is_named, changed_at, answered_as}
use Rattle.peg_model.specs.World.{stamped_as, new_op}
use Rattle.peg_packet.specs.Nodes.{announces_in}
use Rattle.peg_ledger.specs.After.{issued_after, answered_after, answered_number}
use Rattle.peg_ledger.specs.Kept.{IsOpen, IsFresh}
use Rattle.peg_world.specs.Machine.{Knows, is_pending}
use Rattle.peg_world.proofs.Each.{all_more, all_weaker}
use Rattle.peg_world.proofs.Asking.{begun_both}
use Rattle.peg_world.proofs.Taking.{taken_both}

abbrev pub KnowsAll : List Operation → ℕ → Client → Type 0
KnowsAll os id c = AllByRecursion (Knows id c) os

-- ---- names

named_client :
    (client seq : ℕ) (o : Operation) → is_named client seq o ≡ true → o.op.client ≡ client
named_client client seq o e = grind (arith, nat_tests, e)

named_seq : (client seq : ℕ) (o : Operation) → is_named client seq o ≡ true → o.seq ≡ seq
named_seq client seq o e = grind (arith, nat_tests, e)

not_named :
    (client seq : ℕ) (o : Operation) → (o.op.client ≡ client → o.seq < seq)
    → is_named client seq o ≡ false
not_named client seq o h =
    cond_both (is_named client seq o) true false (λ b. is_named client seq o ≡ false)
    (λ e. absurd (omega (arith, named_seq client seq o e, h (named_client client seq o e))))
    (λ e. e)

all_changed :
    (P Q : Operation → Type 0) (client seq : ℕ) (change : Operation → Operation)
    → (os : List Operation)
    → ((o : Operation) → is_named client seq o ≡ true → P o → Q (change o))
    → ((o : Operation) → is_named client seq o ≡ false → P o → Q o)
    → AllByRecursion P os → AllByRecursion Q (changed_at client seq change os)
all_changed P Q client seq change [] here there all = tt
all_changed P Q client seq change (o ∷ os) here there all = (
  cond_both (is_named client seq o) (change o) o Q (λ e. here o e all.0)
      (λ e. there o e all.0),
  all_changed P Q client seq change os here there all.1,
)

-- ---- an operation is issued

pub op_client :
    (client : ℕ) (key : List ℕ) (a : Ask) (place : ℕ)
    → (new_op client key a place).client ≡ client
op_client client key ask.Read place = refl
op_client client key (ask.Write content) place = refl

pub op_open :
    (client : ℕ) (key : List ℕ) (a : Ask) (place : ℕ)
    → (new_op client key a place).answered ≡ None
op_open client key ask.Read place = refl
op_open client key (ask.Write content) place = refl

pub op_issued :
    (client : ℕ) (key : List ℕ) (a : Ask) (place : ℕ)
    → (new_op client key a place).issued ≡ place
op_issued client key ask.Read place = refl
op_issued client key (ask.Write content) place = refl

fresh_in :
    (id next : ℕ) (c : Client) (os : List Operation)
    → next ≡ c.next → KnowsAll os id c → list_any (is_named id next) os ≡ false
fresh_in id next c [] same knows = refl
fresh_in id next c (o ∷ os) same knows =
    ap (λ b. b || list_any (is_named id next) os)
    (not_named id next o (λ is. omega (arith, same, knows.0.given is)))
    ∙ fresh_in id next c os same knows.1

pub is_fresh :
    (os : List Operation) (id : ℕ) (c : Client) (key : List ℕ) (a : Ask)
    → KnowsAll os id c → IsFresh id (begin_operation c key a).did os
is_fresh os id c key a knows =
    begun_both (λ (s : Step Client (Node × Packet) Issue). IsFresh id s.did os) c key a
    (λ seq. tt) tt (λ p is. fresh_in id c.next c os refl knows)

pending_is : (p : Pending) (seq : ℕ) → is_pending (Some p) seq ≡ true → p.seq ≡ seq
pending_is p seq e = grind (arith, nat_tests, e)

-- the client knows the operations before
pub knows_begun :
    (os : List Operation) (id : ℕ) (c : Client) (key : List ℕ) (a : Ask)
    → KnowsAll os id c → KnowsAll os id (begin_operation c key a).state
knows_begun os id c key a knows =
    begun_both (λ (s : Step Client (Node × Packet) Issue). KnowsAll os id s.state) c key a
    (λ seq. knows) knows
    (λ p is. all_weaker (Knows id c)
    (Knows id (record c { next = c.next + 1; pending = Some p })) os
    (λ o k. record {
      given = λ same. omega (arith, k.given same);
      open_one = λ same e. absurd (omega (arith, pending_is p o.seq e, is, k.given same));
    }) knows)

-- and the new one
pub knows_issued :
    (os : List Operation) (id : ℕ) (c : Client) (key : List ℕ) (a : Ask) (op : Op)
    → op.answered ≡ None → KnowsAll os id c
    → KnowsAll (issued_after op (begin_operation c key a).did os) id
    (begin_operation c key a).state
knows_issued os id c key a op unanswered knows =
    begun_both
    (λ (s : Step Client (Node × Packet) Issue). KnowsAll os id s.state
    → KnowsAll (issued_after op s.did os) id s.state) c key a
    (λ seq h. h) (λ h. h)
    (λ p is h. all_more (Knows id (record c { next = c.next + 1; pending = Some p })) os
    (record { op = op; seq = c.next; tag = 0 }) h
    (record { given = λ same. omega arith; open_one = λ same e. unanswered }))
    (knows_begun os id c key a knows)

-- the others know no more of it
pub others_issued :
    (did : Issue) (os : List Operation) (op : Op) (id j : ℕ) (x : Client)
    → op.client ≡ id → (j ≡ id → ⊥) → KnowsAll os j x → KnowsAll (issued_after op did os) j x
others_issued (issue.Busy seq) os op id j x named other knows = knows
others_issued issue.Spent os op id j x named other knows = knows
others_issued (issue.Sent seq) os op id j x named other knows =
    all_more (Knows j x) os (record { op = op; seq = seq; tag = 0 }) knows
    (record {
      given = λ same. absurd (other (sym same ∙ named));
      open_one = λ same e. absurd (other (sym same ∙ named));
    })

pub issued_more :
    (did : Issue) (os : List Operation) (op : Op) (before place : ℕ)
    → op.issued ≤ place → before ≤ place → AllByRecursion (λ o. o.op.issued ≤ before) os
    → AllByRecursion (λ o. o.op.issued ≤ place) (issued_after op did os)
issued_more (issue.Busy seq) os op before place new later issued =
    all_weaker (λ o. o.op.issued ≤ before) (λ o. o.op.issued ≤ place) os
    (λ o h. omega (arith, h, later)) issued
issued_more issue.Spent os op before place new later issued =
    all_weaker (λ o. o.op.issued ≤ before) (λ o. o.op.issued ≤ place) os
    (λ o h. omega (arith, h, later)) issued
issued_more (issue.Sent seq) os op before place new later issued =
    all_more (λ o. o.op.issued ≤ place) os (record { op = op; seq = seq; tag = 0 })
    (all_weaker (λ o. o.op.issued ≤ before) (λ o. o.op.issued ≤ place) os
    (λ o h. omega (arith, h, later)) issued) new

pub issued_length :
    (did : Issue) (os : List Operation) (op : Op)
    → length (issued_after op did os) ≤ length os + 1
issued_length (issue.Busy seq) os op = omega arith
issued_length issue.Spent os op = omega arith
issued_length (issue.Sent seq) os op =
    omega (arith, length-append os (record { op = op; seq = seq; tag = 0 } ∷ []))

-- ---- a request is sent again, or an operation given up

knows_idle :
    (os : List Operation) (id : ℕ) (c : Client)
    → KnowsAll os id c → KnowsAll os id (record c { pending = None })
knows_idle os id c knows =
    all_weaker (Knows id c) (Knows id (record c { pending = None })) os
    (λ o k. record { given = k.given; open_one = λ same e. absurd cc }) knows

pub knows_given_up :
    (os : List Operation) (id : ℕ) (c : Client)
    → KnowsAll os id c → KnowsAll os id (give_up c).state
knows_given_up os id c knows = first c.pending
  where
    first : (o : _) → KnowsAll os id (give_up_of o c).state
    first (Some p) = knows_idle os id c knows
    first None = knows

-- ---- a stamp

known_stamped :
    (id : ℕ) (x : Client) (o : Operation) (version : ℕ)
    → Knows id x o → Knows id x (stamped_as version o)
known_stamped id x o version k =
    cond_both (is_none o.op.answered) (record o { tag = version }) o (Knows id x)
    (λ e. record { given = k.given; open_one = k.open_one }) (λ e. k)

pub knows_stamped :
    (client seq version : ℕ) (os : List Operation) (id : ℕ) (x : Client)
    → KnowsAll os id x → KnowsAll (changed_at client seq (stamped_as version) os) id x
knows_stamped client seq version os id x knows =
    all_changed (Knows id x) (Knows id x) client seq (stamped_as version) os
    (λ o e k. known_stamped id x o version k) (λ o e k. k) knows

issued_as_stamped :
    (place version : ℕ) (o : Operation)
    → o.op.issued ≤ place → (stamped_as version o).op.issued ≤ place
issued_as_stamped place version o h =
    cond_both (is_none o.op.answered) (record o { tag = version }) o (λ x. x.op.issued ≤ place)
    (λ e. h) (λ e. h)

pub issued_stamped :
    (client seq version place : ℕ) (os : List Operation)
    → AllByRecursion (λ o. o.op.issued ≤ place) os
    → AllByRecursion (λ o. o.op.issued ≤ place) (changed_at client seq (stamped_as version) os)
issued_stamped client seq version place os issued =
    all_changed (λ o. o.op.issued ≤ place) (λ o. o.op.issued ≤ place) client seq
    (stamped_as version) os (λ o e h. issued_as_stamped place version o h) (λ o e h. h) issued

-- ---- an answer

opens_in :
    (os : List Operation) (c : Client) (id seq before place : ℕ)
    → is_pending c.pending seq ≡ true → before < place → KnowsAll os id c
    → AllByRecursion (λ o. o.op.issued ≤ before) os → IsOpen id seq place os
opens_in [] c id seq before place pending later knows issued = tt
opens_in (o ∷ os) c id seq before place pending later knows issued = (
  λ e. (
    knows.0.open_one (named_client id seq o e)
        (ap (is_pending c.pending) (named_seq id seq o e) ∙ pending),
    omega (arith, issued.0, later),
  ),
  opens_in os c id seq before place pending later knows.1 issued.1,
)

-- the operation that a client takes an answer to is open, and was issued before
pub is_open :
    (rack : Rack) (os : List Operation) (id before place : ℕ) (c : Client) (p : Packet)
    → announces_in rack p ≡ true → before < place → KnowsAll os id c
    → AllByRecursion (λ o. o.op.issued ≤ before) os
    → IfSome (answered_number (client_step c p).did) (λ seq. IsOpen id seq place os)
is_open rack os id before place c p goes later knows issued =
    taken_both
    (λ (s : Step Client (Node × Packet) ClientDid).
    IfSome (answered_number s.did) (λ seq. IsOpen id seq place os)) rack c p goes tt
    (λ seq version pending. opens_in os c id seq before place pending later knows issued)
    (λ seq version content pending. opens_in os c id seq before place pending later knows issued)
    (λ epoch switch small. tt)

pub knows_taken :
    (rack : Rack) (os : List Operation) (id : ℕ) (c : Client) (p : Packet)
    → announces_in rack p ≡ true → KnowsAll os id c → KnowsAll os id (client_step c p).state
knows_taken rack os id c p goes knows =
    taken_both (λ (s : Step Client (Node × Packet) ClientDid). KnowsAll os id s.state) rack c p
    goes knows
    (λ seq version e. knows_idle os id c knows) (λ seq version content e. knows_idle os id c knows)
    (λ epoch switch small.
    all_weaker (Knows id c) (Knows id (record c { switch = switch; epoch = epoch })) os
    (λ o k. record { given = k.given; open_one = k.open_one }) knows)

knows_changed :
    (fences : List AppliedFence) (os : List Operation) (id seq place version : ℕ)
    → (content : Content) (c : Client)
    → KnowsAll os id c
    → KnowsAll (changed_at id seq (answered_as fences place version content) os) id
    (record c { pending = None })
knows_changed fences os id seq place version content c knows =
    all_changed (Knows id c) (Knows id (record c { pending = None })) id seq
    (answered_as fences place version content) os
    (λ o e k. record { given = k.given; open_one = λ same f. absurd cc })
    (λ o e k. record { given = k.given; open_one = λ same f. absurd cc }) knows

pub knows_answered :
    (rack : Rack) (fences : List AppliedFence) (os : List Operation) (id place : ℕ)
    → (c : Client) (p : Packet)
    → announces_in rack p ≡ true → KnowsAll os id c
    → KnowsAll (answered_after fences place id (client_step c p).did os) id (client_step c p).state
knows_answered rack fences os id place c p goes knows =
    taken_both
    (λ (s : Step Client (Node × Packet) ClientDid).
    KnowsAll (answered_after fences place id s.did os) id s.state) rack c p goes knows
    (λ seq version e. knows_changed fences os id seq place version Absent c knows)
    (λ seq version given e. knows_changed fences os id seq place version given c knows)
    (λ epoch switch small.
    all_weaker (Knows id c) (Knows id (record c { switch = switch; epoch = epoch })) os
    (λ o k. record { given = k.given; open_one = k.open_one }) knows)

others_changed :
    (fences : List AppliedFence) (os : List Operation) (id seq place version : ℕ)
    → (content : Content) (j : ℕ) (x : Client)
    → (j ≡ id → ⊥) → KnowsAll os j x
    → KnowsAll (changed_at id seq (answered_as fences place version content) os) j x
others_changed fences os id seq place version content j x other knows =
    all_changed (Knows j x) (Knows j x) id seq (answered_as fences place version content) os
    (λ o e k. record {
      given = k.given;
      open_one = λ same f. absurd (other (sym same ∙ named_client id seq o e));
    })
    (λ o e k. k) knows

pub others_answered :
    (did : ClientDid) (fences : List AppliedFence) (os : List Operation) (id place j : ℕ)
    → (x : Client)
    → (j ≡ id → ⊥) → KnowsAll os j x → KnowsAll (answered_after fences place id did os) j x
others_answered (client_did.Wrote seq version) fences os id place j x other knows =
    others_changed fences os id seq place version Absent j x other knows
others_answered (client_did.Read seq version given) fences os id place j x other knows =
    others_changed fences os id seq place version given j x other knows
others_answered (client_did.Moved switch epoch) fences os id place j x other knows = knows
others_answered client_did.Ignored fences os id place j x other knows = knows

pub issued_answered :
    (did : ClientDid) (fences : List AppliedFence) (os : List Operation) (id at place : ℕ)
    → AllByRecursion (λ o. o.op.issued ≤ place) os
    → AllByRecursion (λ o. o.op.issued ≤ place) (answered_after fences at id did os)
issued_answered (client_did.Wrote seq version) fences os id at place issued =
    all_changed (λ o. o.op.issued ≤ place) (λ o. o.op.issued ≤ place) id seq
    (answered_as fences at version Absent) os (λ o e h. h) (λ o e h. h) issued
issued_answered (client_did.Read seq version given) fences os id at place issued =
    all_changed (λ o. o.op.issued ≤ place) (λ o. o.op.issued ≤ place) id seq
    (answered_as fences at version given) os (λ o e h. h) (λ o e h. h) issued
issued_answered (client_did.Moved switch epoch) fences os id at place issued = issued
issued_answered client_did.Ignored fences os id at place issued = issued

pub answered_length :
    (did : ClientDid) (fences : List AppliedFence) (os : List Operation) (id at : ℕ)
    → length (answered_after fences at id did os) ≡ length os
answered_length (client_did.Wrote seq version) fences os id at = length-map os _
answered_length (client_did.Read seq version given) fences os id at = length-map os _
answered_length (client_did.Moved switch epoch) fences os id at = refl
answered_length client_did.Ignored fences os id at = refl

-- ---- the places of issue

pub issued_later :
    (before place : ℕ) (os : List Operation)
    → before ≤ place → AllByRecursion (λ o. o.op.issued ≤ before) os
    → AllByRecursion (λ o. o.op.issued ≤ place) os
issued_later before place os later issued =
    all_weaker (λ o. o.op.issued ≤ before) (λ o. o.op.issued ≤ place) os
    (λ o h. omega (arith, h, later)) issued
