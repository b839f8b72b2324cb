-- A packet that a client takes, and what is noted of it.
use Rattle.std.proofs.Common.{◌≡◌, ℕ, ◌<◌, ◌≤◌, true, List, length, ap, sym, ◌∙◌, refl, subst}
use Rattle.std.proofs.Common.{Some, arith, slice_get, []}
use Rattle.std.specs.Prelude.{Ok, IfSome}
use Rattle.peg_name.specs.declared.Node.{Node}
use Rattle.peg_event.specs.declared.ClientDid.{ClientDid}
use Rattle.peg_event.specs.declared.ClientDid.TheVariants as client_did
use Rattle.peg_event.specs.declared.Said.{Said}
use Rattle.peg_event.specs.declared.Said.TheVariants as said
use Rattle.peg_model.specs.Words.{Step}
use Rattle.peg_model.specs.Packet.{Packet}
use Rattle.peg_model.specs.Client.{Client, client_step}
use Rattle.peg_model.specs.World.{World, Operation, AppliedFence, Promotion, reports, client_stepped}
use Rattle.peg_model.specs.World.{client_of, after_client}
use Rattle.peg_packet.specs.Nodes.{announces_in}
use Rattle.peg_pool.specs.Flight.{Flight}
use Rattle.peg_ledger.specs.After.{answered_after, answered_number}
use Rattle.peg_ledger.specs.Kept.{IsOpen}
use Rattle.peg_world.specs.Acting.{Acting, client_at, client_acts}
use Rattle.peg_world.specs.Machine.{AreKept, world_of}
use Rattle.peg_world.specs.Midway.{Midway, Came, at_place}
use Rattle.peg_world.proofs.Coming.{came}
use Rattle.peg_world.proofs.Kept.{kept_answered}
use Rattle.peg_world.proofs.Knowing.{is_open, answered_length}
use Rattle.peg_world.proofs.Taking.{taken_named}

-- ---- the book's step

answer_noted :
    (did : ClientDid) (n : Acting) (place : ℕ) (packets : List (Node × Packet))
    → (operations : List Operation) (fences : List AppliedFence) (promotions : List Promotion)
    → (id : ℕ)
    → after_client (world_of n place packets operations fences promotions) id did
    ≡ world_of n place packets (answered_after fences place id did operations) fences promotions
answer_noted (client_did.Wrote seq version) n place packets operations fences promotions id = refl
answer_noted (client_did.Read seq version content) n place packets operations fences promotions id =
    refl
answer_noted (client_did.Moved switch epoch) n place packets operations fences promotions id = refl
answer_noted client_did.Ignored n place packets operations fences promotions id = refl

-- ---- what the delivery comes to

module _
    (n0 : Acting) (before place : ℕ) (packets : List (Node × Packet)) (operations : List Operation)
    (fences : List AppliedFence) (promotions : List Promotion) (id : ℕ) (p : Packet)
  where
    abbrev step : Step Client (Node × Packet) ClientDid
    step = client_step (client_at n0 id) p

    abbrev w0 : World
    w0 = world_of n0 before packets operations fences promotions

    answers_are :
        reports (world_of (client_acts n0 step) place packets
        (answered_after fences place id step.did operations) fences promotions) step.sent
        (said.Client id step.did)
        ≡ client_stepped (at_place w0 place) id step
    answers_are =
        ap (λ w. reports w step.sent (said.Client id step.did))
        (sym (answer_noted step.did (client_acts n0 step) place packets operations fences promotions
        id))

    stepped_is :
        (old : World) (q : Packet) → p ≡ q → w0 ≡ old
        → reports (world_of (client_acts n0 step) place packets
        (answered_after fences place id step.did operations) fences promotions) step.sent
        (said.Client id step.did)
        ≡ client_stepped (at_place old place) id (client_step (client_of old id) q)
    stepped_is old q read seen =
        answers_are
        ∙ ap (λ w. client_stepped (at_place w place) id (client_step (client_of w id) p)) seen
        ∙ ap (λ x. client_stepped (at_place old place) id (client_step (client_of old id) x)) read

    pub answer_came :
        (old now : Midway) (n1 : Acting) (operations2 : List Operation)
        → (did : ClientDid) (tells : Said) (q : Packet)
        → p ≡ q → w0 ≡ old.world → n1 ≡ client_acts n0 step
        → now.world ≡ world_of n1 place packets operations2 fences promotions → now.sent ≡ n1.sent
        → operations2 ≡ answered_after fences place id did operations
        → did ≡ step.did → tells ≡ said.Client id did
        → length packets ≤ 200000 → n1.sent ≡ []
        → Came old now place
        (client_stepped (at_place old.world place) id (client_step (client_of old.world id) q))
        (Ok tells)
    answer_came old now n1 operations2 did tells q read seen acts is sent noted answered says within
        none =
        let os : List Operation = answered_after fences place id step.did operations in
        let operations_are : operations2 ≡ os =
        noted ∙ ap (λ d. answered_after fences place id d operations) answered in
        let world_is : now.world
        ≡ world_of (client_acts n0 step) place packets os fences promotions =
        is ∙ ap (λ (n : Acting). world_of n place packets operations2 fences promotions) acts
        ∙ ap (λ xs. world_of (client_acts n0 step) place packets xs fences promotions)
        operations_are in
        let sent_is : now.sent ≡ step.sent = sent ∙ ap (λ (n : Acting). n.sent) acts in
        let empty : now.sent ≡ [] = sent ∙ none in
        came old now place
        (client_stepped (at_place old.world place) id (client_step (client_of old.world id) q))
        tells
        (ap (λ w. reports w now.sent tells) world_is
        ∙ ap (λ xs. reports (world_of (client_acts n0 step) place packets os fences promotions) xs
        tells) sent_is
        ∙ ap (λ s. reports (world_of (client_acts n0 step) place packets os fences promotions)
        step.sent s) (says ∙ ap (said.Client id) answered)
        ∙ stepped_is old.world q read seen)
        (omega (
          arith,
          within,
          ap (λ (w : World). length w.packets) world_is,
          ap length empty,
        ))
        (omega (arith, ap length empty))
        (ap (λ (w : World). w.place) world_is)
        (ap (λ (w : World). w.rack) world_is ∙ ap (λ (w : World). w.rack) seen)
        (ap (λ (w : World). w.packets) world_is ∙ ap (λ (w : World). w.packets) seen)
        (omega (
          arith,
          ap (λ (w : World). length w.operations) world_is,
          answered_length step.did fences operations id place,
          ap (λ (w : World). length w.operations) seen,
        ))

    pub answer_opens :
        (operations2 : List Operation) (flight0 : Flight) (did : ClientDid)
        → AreKept n0 before flight0 operations
        → slice_get n0.clients id ≡ Some (client_at n0 id) → announces_in n0.rack p ≡ true
        → before < place → operations2 ≡ operations → did ≡ step.did
        → IfSome (answered_number did) (λ seq. IsOpen id seq place operations2)
    answer_opens operations2 flight0 did kept held goes later same answered =
        subst (λ os. IfSome (answered_number did) (λ seq. IsOpen id seq place os)) (sym same)
        (subst (λ d. IfSome (answered_number d) (λ seq. IsOpen id seq place operations))
        (sym answered)
        (is_open n0.rack operations id before place (client_at n0 id) p goes later
        (kept.knows id (client_at n0 id) held) kept.issued))

    pub answer_kept :
        (n1 : Acting) (flight : Flight) (operations3 : List Operation) (did : ClientDid)
        → AreKept n0 before flight operations
        → slice_get n0.clients id ≡ Some (client_at n0 id) → (client_at n0 id).id ≡ id
        → announces_in n0.rack p ≡ true → before < place → n1 ≡ client_acts n0 step
        → did ≡ step.did → operations3 ≡ answered_after fences place id did operations
        → AreKept n1 place flight operations3
    answer_kept n1 flight operations3 did kept held named goes later acts answered noted =
        let kept3 = kept_answered n0 before place flight operations fences id p kept held
        (taken_named n0.rack (client_at n0 id) p goes ∙ named) later goes in
        let are : operations3 ≡ answered_after fences place id step.did operations =
        noted ∙ ap (λ d. answered_after fences place id d operations) answered in
        subst (λ n. AreKept n place flight operations3) (sym acts)
        (subst (AreKept (client_acts n0 step) place flight) (sym are) kept3)
