-- What a machine keeps, after a step of a node and what is noted of it.
use Rattle.std.proofs.Common.{◌≡◌, ℕ, ◌<◌, ◌≤◌, List, sym, ◌∙◌, subst, Some, arith}
use Rattle.std.proofs.Common.{slice_get, slice_set, true}
use Rattle.std.specs.List.{AllByRecursion}
use Rattle.peg_name.specs.declared.Node.{Node}
use Rattle.peg_event.specs.declared.answers.Ask.{Ask}
use Rattle.peg_event.specs.declared.ClientDid.{ClientDid}
use Rattle.peg_event.specs.declared.answers.Issue.{Issue}
use Rattle.peg_event.specs.declared.history.Op.{Op}
use Rattle.peg_model.specs.Words.{Step}
use Rattle.peg_model.specs.Packet.{Packet}
use Rattle.peg_model.specs.Client.{Client, begin_operation, client_step, give_up}
use Rattle.peg_model.specs.World.{Operation, AppliedFence, new_op, changed_at, stamped_as}
use Rattle.peg_packet.specs.Nodes.{announces_in}
use Rattle.peg_pool.specs.Flight.{Flight}
use Rattle.peg_ledger.specs.After.{issued_after, answered_after, stamped_after}
use Rattle.peg_world.specs.Acting.{Acting, client_at, client_acts}
use Rattle.peg_world.specs.Machine.{AreKept}
use Rattle.peg_world.specs.Sound.{Each}
use Rattle.peg_world.proofs.Each.{each_set, each_weaker}
use Rattle.peg_world.proofs.Knowing.{KnowsAll, knows_issued, others_issued, issued_more, op_client}
use Rattle.peg_world.proofs.Knowing.{op_open, op_issued, knows_answered, others_answered}
use Rattle.peg_world.proofs.Knowing.{issued_answered, issued_later, knows_begun, knows_given_up}
use Rattle.peg_world.proofs.Knowing.{knows_taken, knows_stamped, issued_stamped}
use Rattle.peg_world.proofs.Asking.{begin_named, give_up_named}
use Rattle.peg_world.proofs.Taking.{taken_named}

-- a client steps
kept_client :
    {D : Type 0} (n0 : Acting) (place : ℕ) (flight : Flight) (os : List Operation) (id : ℕ)
    → (step : Step Client (Node × Packet) D)
    → AreKept n0 place flight os → slice_get n0.clients id ≡ Some (client_at n0 id)
    → step.state.id ≡ id
    → (KnowsAll os id (client_at n0 id) → KnowsAll os id step.state)
    → AreKept (client_acts n0 step) place flight os
kept_client n0 place flight os id step kept held named knows = record {
  format = kept.format;
  flown = kept.flown;
  knows =
      subst (λ i. Each (KnowsAll os) (slice_set n0.clients i step.state)) (sym named)
      (each_set (KnowsAll os) (KnowsAll os) n0.clients id step.state kept.knows
      (knows (kept.knows id (client_at n0 id) held)) (λ j x other h. h));
  issued = kept.issued;
}

-- an operation is issued
pub kept_issued :
    (n0 : Acting) (before place : ℕ) (flight : Flight) (os : List Operation) (id : ℕ)
    → (key : List ℕ) (a : Ask)
    → AreKept n0 before flight os → slice_get n0.clients id ≡ Some (client_at n0 id)
    → (begin_operation (client_at n0 id) key a).state.id ≡ id → before < place
    → AreKept (client_acts n0 (begin_operation (client_at n0 id) key a)) place flight
    (issued_after (new_op id key a place) (begin_operation (client_at n0 id) key a).did os)
kept_issued n0 before place flight os id key a kept held named later =
    let c = client_at n0 id in
    let op : Op = new_op id key a place in
    let step : Step Client (Node × Packet) Issue = begin_operation c key a in
    record {
      format = kept.format;
      flown = kept.flown;
      knows =
          subst (λ i. Each (KnowsAll (issued_after op step.did os))
          (slice_set n0.clients i step.state)) (sym named)
          (each_set (KnowsAll os) (KnowsAll (issued_after op step.did os)) n0.clients id step.state
          kept.knows
          (knows_issued os id c key a op (op_open id key a place) (kept.knows id c held))
          (λ j x other h.
          others_issued step.did os op id j x (op_client id key a place) other h));
      issued =
          issued_more step.did os op before place (omega (arith, op_issued id key a place))
          (omega (arith, later)) kept.issued;
    }

-- an operation is answered
pub kept_answered :
    (n0 : Acting) (before place : ℕ) (flight : Flight) (os : List Operation)
    → (fences : List AppliedFence) (id : ℕ) (p : Packet)
    → AreKept n0 before flight os → slice_get n0.clients id ≡ Some (client_at n0 id)
    → (client_step (client_at n0 id) p).state.id ≡ id → before < place
    → announces_in n0.rack p ≡ true
    → AreKept (client_acts n0 (client_step (client_at n0 id) p)) place flight
    (answered_after fences place id (client_step (client_at n0 id) p).did os)
kept_answered n0 before place flight os fences id p kept held named later goes =
    let c = client_at n0 id in
    let step : Step Client (Node × Packet) ClientDid = client_step c p in
    record {
      format = kept.format;
      flown = kept.flown;
      knows =
          subst (λ i. Each (KnowsAll (answered_after fences place id step.did os))
          (slice_set n0.clients i step.state)) (sym named)
          (each_set (KnowsAll os) (KnowsAll (answered_after fences place id step.did os)) n0.clients
          id step.state kept.knows
          (knows_answered n0.rack fences os id place c p goes (kept.knows id c held))
          (λ j x other h. others_answered step.did fences os id place j x other h));
      issued =
          issued_answered step.did fences os id place place
          (issued_later before place os (omega (arith, later)) kept.issued);
    }

-- ---- each step of a client, before anything is noted of it

pub kept_begun :
    (n0 n1 : Acting) (place : ℕ) (flight : Flight) (os : List Operation) (id : ℕ) (key : List ℕ)
    → (a : Ask)
    → AreKept n0 place flight os → slice_get n0.clients id ≡ Some (client_at n0 id)
    → (client_at n0 id).id ≡ id → n1 ≡ client_acts n0 (begin_operation (client_at n0 id) key a)
    → AreKept n1 place flight os
kept_begun n0 n1 place flight os id key a kept held named acts =
    subst (λ n. AreKept n place flight os) (sym acts)
    (kept_client n0 place flight os id (begin_operation (client_at n0 id) key a) kept held
    (begin_named (client_at n0 id) key a ∙ named)
    (λ knows. knows_begun os id (client_at n0 id) key a knows))

pub kept_given_up :
    (n0 n1 : Acting) (place : ℕ) (flight : Flight) (os : List Operation) (id : ℕ)
    → AreKept n0 place flight os → slice_get n0.clients id ≡ Some (client_at n0 id)
    → (client_at n0 id).id ≡ id → n1 ≡ client_acts n0 (give_up (client_at n0 id))
    → AreKept n1 place flight os
kept_given_up n0 n1 place flight os id kept held named acts =
    subst (λ n. AreKept n place flight os) (sym acts)
    (kept_client n0 place flight os id (give_up (client_at n0 id)) kept held
    (give_up_named (client_at n0 id) ∙ named)
    (λ knows. knows_given_up os id (client_at n0 id) knows))

pub kept_taken :
    (n0 n1 : Acting) (place : ℕ) (flight : Flight) (os : List Operation) (id : ℕ) (p : Packet)
    → AreKept n0 place flight os → slice_get n0.clients id ≡ Some (client_at n0 id)
    → (client_at n0 id).id ≡ id → announces_in n0.rack p ≡ true
    → n1 ≡ client_acts n0 (client_step (client_at n0 id) p)
    → AreKept n1 place flight os
kept_taken n0 n1 place flight os id p kept held named goes acts =
    subst (λ n. AreKept n place flight os) (sym acts)
    (kept_client n0 place flight os id (client_step (client_at n0 id) p) kept held
    (taken_named n0.rack (client_at n0 id) p goes ∙ named)
    (λ knows. knows_taken n0.rack os id (client_at n0 id) p goes knows))

-- a write is given its version
pub kept_stamped :
    (n : Acting) (place : ℕ) (flight : Flight) (os0 os1 : List Operation)
    → (client seq version : ℕ)
    → AreKept n place flight os0 → os1 ≡ stamped_after (Some (client, seq, version)) os0
    → AreKept n place flight os1
kept_stamped n place flight os0 os1 client seq version kept is = record {
  format = kept.format;
  flown = kept.flown;
  knows =
      subst (λ os. Each (KnowsAll os) n.clients) (sym is)
      (each_weaker (KnowsAll os0)
      (KnowsAll (changed_at client seq (stamped_as version) os0)) n.clients
      (λ j x knows. knows_stamped client seq version os0 j x knows) kept.knows);
  issued =
      subst (AllByRecursion (λ (o : Operation). o.op.issued ≤ place)) (sym is)
      (issued_stamped client seq version place os0 kept.issued);
}
