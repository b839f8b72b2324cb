-- An operation that is to begin, and what is noted of it.
use Rattle.std.proofs.Common.{◌≡◌, ℕ, ◌+◌, ◌<◌, ◌≤◌, List, length, ap, sym, ◌∙◌, refl, subst}
use Rattle.std.proofs.Common.{Some, arith, slice_get}
use Rattle.std.specs.Prelude.{Ok}
use Rattle.std.specs.List.{AllByRecursion}
use Rattle.peg_name.specs.declared.Node.{Node}
use Rattle.peg_event.specs.declared.answers.Ask.{Ask}
use Rattle.peg_event.specs.declared.answers.Ask.TheVariants as ask
use Rattle.peg_event.specs.declared.answers.Issue.{Issue}
use Rattle.peg_event.specs.declared.answers.Issue.TheVariants as issue
use Rattle.peg_event.specs.declared.history.Op.{Op}
use Rattle.peg_event.specs.declared.Said.{Said}
use Rattle.peg_model.specs.Words.{Step}
use Rattle.peg_model.specs.Packet.{Packet}
use Rattle.peg_model.specs.Client.{Client, begin_operation}
use Rattle.peg_model.specs.World.{World, Operation, AppliedFence, Promotion, reports, issues, new_op}
use Rattle.peg_model.specs.World.{issue_said, after_issue}
use Rattle.peg_pool.specs.Flight.{Flight}
use Rattle.peg_history.specs.Contents.{size_of}
use Rattle.peg_ledger.specs.After.{issued_after}
use Rattle.peg_ledger.specs.Kept.{IsFresh}
use Rattle.peg_world.specs.Acting.{Acting, client_at, client_acts}
use Rattle.peg_world.specs.Machine.{AreKept, world_of}
use Rattle.peg_world.specs.Midway.{Midway, Came, at_place}
use Rattle.peg_world.specs.Notes.{asked_size}
use Rattle.peg_world.specs.Sound.{Each}
use Rattle.peg_world.proofs.Asking.{begin_named}
use Rattle.peg_world.proofs.Coming.{came}
use Rattle.peg_world.proofs.Kept.{kept_issued}
use Rattle.peg_world.proofs.Knowing.{KnowsAll, is_fresh, issued_length}

-- ---- the book's step

issue_noted :
    (did : Issue) (n : Acting) (place : ℕ) (packets : List (Node × Packet))
    → (operations : List Operation) (fences : List AppliedFence) (promotions : List Promotion)
    → (op : Op)
    → after_issue (world_of n place packets operations fences promotions) op did
    ≡ world_of n place packets (issued_after op did operations) fences promotions
issue_noted (issue.Busy seq) n place packets operations fences promotions op = refl
issue_noted issue.Spent n place packets operations fences promotions op = refl
issue_noted (issue.Sent seq) n place packets operations fences promotions op = refl

pub op_size :
    (id : ℕ) (key : List ℕ) (a : Ask) (place : ℕ)
    → size_of (new_op id key a place).content ≡ asked_size a
op_size id key ask.Read place = refl
op_size id key (ask.Write content) place = refl

-- ---- what the issue comes to

module _
    (n0 : Acting) (before place : ℕ) (packets : List (Node × Packet)) (operations : List Operation)
    (fences : List AppliedFence) (promotions : List Promotion) (id : ℕ) (key : List ℕ) (a : Ask)
  where
    abbrev step : Step Client (Node × Packet) Issue
    step = begin_operation (client_at n0 id) key a

    abbrev w0 : World
    w0 = world_of n0 before packets operations fences promotions

    issues_are :
        reports (world_of (client_acts n0 step) place packets
        (issued_after (new_op id key a place) step.did operations) fences promotions) step.sent
        (issue_said id a step.did)
        ≡ issues (at_place w0 place) id key a
    issues_are =
        ap (λ w. reports w step.sent (issue_said id a step.did))
        (sym (issue_noted step.did (client_acts n0 step) place packets operations fences promotions
        (new_op id key a place)))

    pub issue_came :
        (old now m2 : Midway) (n1 : Acting) (spare notes bytes : ℕ) (operations2 : List Operation)
        → (op : Op) (did : Issue) (said : Said)
        → w0 ≡ old.world → n1 ≡ client_acts n0 step
        → m2 ≡ record {
          world = record (world_of n1 before packets operations fences promotions) {
            place = place;
          };
          sent = n1.sent;
          spare = spare;
          notes = notes;
          room = bytes;
        }
        → now.world ≡ record m2.world { operations = operations2 } → now.sent ≡ m2.sent
        → now.spare ≡ m2.spare
        → operations2 ≡ issued_after op did m2.world.operations → op ≡ new_op id key a place
        → did ≡ step.did → said ≡ issue_said id a did
        → length packets + length n1.sent ≤ 200000 → length n1.sent ≤ spare
        → Came old now place (issues (at_place old.world place) id key a) (Ok said)
    issue_came old now m2 n1 spare notes bytes operations2 op did said seen acts closed is sent room noted
        named answered told within fits =
        let operations_are :
        operations2 ≡ issued_after (new_op id key a place) step.did operations =
        noted ∙ ap (λ (m : Midway). issued_after op did m.world.operations) closed
        ∙ ap (λ o. issued_after o did operations) named
        ∙ ap (λ d. issued_after (new_op id key a place) d operations) answered in
        let world_is : now.world
        ≡ world_of (client_acts n0 step) place packets
        (issued_after (new_op id key a place) step.did operations) fences promotions =
        is ∙ ap (λ (m : Midway). record m.world { operations = operations2 }) closed
        ∙ ap (λ (n : Acting). world_of n place packets operations2 fences promotions) acts
        ∙ ap (λ os. world_of (client_acts n0 step) place packets os fences promotions)
        operations_are in
        let sent_is : now.sent ≡ step.sent =
        sent ∙ ap (λ (m : Midway). m.sent) closed ∙ ap (λ (n : Acting). n.sent) acts in
        came old now place (issues (at_place old.world place) id key a) said
        (ap (λ w. reports w now.sent said) world_is
        ∙ ap (λ xs. reports (world_of (client_acts n0 step) place packets
        (issued_after (new_op id key a place) step.did operations) fences promotions) xs said)
        sent_is
        ∙ ap (λ s. reports (world_of (client_acts n0 step) place packets
        (issued_after (new_op id key a place) step.did operations) fences promotions) step.sent s)
        (told ∙ ap (issue_said id a) answered)
        ∙ issues_are ∙ ap (λ w. issues (at_place w place) id key a) seen)
        (omega (
          arith,
          within,
          ap (λ (w : World). length w.packets) world_is,
          ap length sent_is,
          ap (λ (n : Acting). length n.sent) acts,
        ))
        (omega (
          arith,
          fits,
          room,
          ap (λ (m : Midway). m.spare) closed,
          ap length sent_is,
          ap (λ (n : Acting). length n.sent) acts,
        ))
        (ap (λ (w : World). w.place) world_is)
        (ap (λ (w : World). w.rack) world_is ∙ ap (λ (w : World). w.rack) seen)
        (ap (λ (w : World). w.packets) world_is ∙ ap (λ (w : World). w.packets) seen)
        (omega (
          arith,
          ap (λ (w : World). length w.operations) world_is,
          issued_length step.did operations (new_op id key a place),
          ap (λ (w : World). length w.operations) seen,
        ))

    pub issue_fresh :
        (operations2 : List Operation) (op : Op) (did : Issue)
        → KnowsAll operations id (client_at n0 id) → operations2 ≡ operations → did ≡ step.did
        → op.client ≡ id → IsFresh op.client did operations2
    issue_fresh operations2 op did knows same answered named =
        subst (λ os. IsFresh op.client did os) (sym same)
        (subst (λ d. IsFresh op.client d operations) (sym answered)
        (subst (λ i. IsFresh i step.did operations) (sym named)
        (is_fresh operations id (client_at n0 id) key a knows)))

    pub issue_kept :
        (n2 : Acting) (place2 : ℕ) (flight0 flight2 : Flight)
        → (operations2 operations3 : List Operation) (op : Op) (did : Issue)
        → AreKept n0 before flight0 operations
        → slice_get n0.clients id ≡ Some (client_at n0 id) → (client_at n0 id).id ≡ id
        → before < place → AreKept n2 place2 flight2 operations2
        → n2.clients ≡ (client_acts n0 step).clients → place2 ≡ place → operations2 ≡ operations
        → op ≡ new_op id key a place → did ≡ step.did
        → operations3 ≡ issued_after op did operations2
        → AreKept n2 place2 flight2 operations3
    issue_kept n2 place2 flight0 flight2 operations2 operations3 op did kept held named later kept2
        clients placed same op_is answered noted =
        let kept3 = kept_issued n0 before place flight0 operations id key a kept held
        (begin_named (client_at n0 id) key a ∙ named) later in
        let are : operations3 ≡ issued_after (new_op id key a place) step.did operations =
        noted ∙ ap (issued_after op did) same ∙ ap (λ o. issued_after o did operations) op_is
        ∙ ap (λ d. issued_after (new_op id key a place) d operations) answered in
        record {
          format = kept2.format;
          flown = kept2.flown;
          knows =
              subst (λ cs. Each (KnowsAll operations3) cs) (sym clients)
              (subst (λ os. Each (KnowsAll os) (client_acts n0 step).clients) (sym are)
              kept3.knows);
          issued =
              subst (λ p. AllByRecursion (λ (o : Operation). o.op.issued ≤ p) operations3)
              (sym placed)
              (subst (AllByRecursion (λ (o : Operation). o.op.issued ≤ place)) (sym are)
              kept3.issued);
        }
