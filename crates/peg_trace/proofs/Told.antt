-- Over a whole run each line that says of a client that it is answered answers exactly one
-- operation.
use Rattle.std.proofs.Common.{◌≡◌, ◌<◌, ◌≤◌, ◌+◌, ℕ, true, false}
use Rattle.std.proofs.Common.{Some, None, List, [], ◌∷◌, ◌++◌, length, map, refl, sym}
use Rattle.std.proofs.Common.{ap, ◌∙◌, subst, slice_get, arith, length-append, append-nil}
use Rattle.std.proofs.Common.{append_assoc, zero, suc}
use Rattle.std.specs.Prelude.{slice_set}
use Rattle.peg_name.specs.Name.{Rack}
use Rattle.peg_event.specs.declared.ClientDid.{ClientDid}
use Rattle.peg_event.specs.declared.Event.{Event}
use Rattle.peg_event.specs.declared.Line.{Line}
use Rattle.peg_event.specs.declared.history.Op.{Op}
use Rattle.peg_event.specs.declared.Said.{Said}
use Rattle.peg_event.specs.declared.Said.TheVariants as said
use Rattle.peg_model.specs.Words.{below}
use Rattle.peg_model.specs.Client.{Client, new_client}
use Rattle.peg_model.specs.World.{World, Operation, start, step, run, history}
use Rattle.peg_model.specs.World.{client_of, stamped_as, answered_as}
use Rattle.peg_trace.specs.Answers.{is_answer, AreAnswered}
use Rattle.peg_trace.proofs.Lists.{get_within}
use Rattle.peg_trace.proofs.Lists.{IsPushed, Before, Last, get_pushed, get_image}
use Rattle.peg_trace.proofs.Lists.{get_mapped}
use Rattle.peg_trace.proofs.Turns.{says_answer}
use Rattle.peg_trace.proofs.Turns.{Turn, Rests, Stamps, Moves, Begins, Takes, turn}
use Rattle.peg_trace.proofs.Tied.{Tied, Gives, AreGiven, change_of, change_keeps, stamp_keeps}
use Rattle.peg_trace.proofs.Tied.{stamp_same, tied_tagged, gives_tagged, moved_tied}
use Rattle.peg_trace.proofs.Begun.{begun_tied, gives_begun}
use Rattle.peg_trace.proofs.Taken.{taken_tied, gives_still, gives_now}

-- ---- a line more

next_given :
    (lines : List Line) (line : Line) (os os' : List Operation)
    →
    ((q client : ℕ) (did : ClientDid) → q < length lines + 2 → Gives os q client did
    → Gives os' q client did)
    → AreGiven lines os
    →
    ((client : ℕ) (did : ClientDid) → line.said ≡ said.Client client did → is_answer did ≡ true
    → Gives os' (length lines + 2) client did)
    → AreGiven (lines ++ line ∷ []) os'
next_given lines line os os' keeps given last i client l did there says answers =
    by_place (get_pushed lines line i l there)
  where
    by_place : IsPushed lines line i l → Gives os' (i + 2) client did
    by_place (Before e) =
        let small = get_within lines i l e in
        keeps (i + 2) client did (omega (arith, small)) (given i client l did e says answers)
    by_place (Last at is) =
        subst (λ n. Gives os' (n + 2) client did) (sym at)
        (last client did (ap (λ (x : Line). x.said) (sym is) ∙ says) answers)

quiet_last :
    (s : Said) (os : List Operation) (place : ℕ) → says_answer s ≡ false → (client : ℕ)
    (did : ClientDid) → s ≡ said.Client client did → is_answer did ≡ true → Gives os place client did
quiet_last s os place quiet client did says answers =
    absurd
    (let x : true ≡ false = sym answers ∙ ap says_answer (sym says) ∙ quiet in cc)

same_client :
    (a b : ℕ) (x y : ClientDid) → said.Client a x ≡ said.Client b y → (a ≡ b) × (x ≡ y)
same_client a b x y e = (cc, cc)

tied_later :
    (place more : ℕ) (clients : List Client) (os : List Operation) → place ≤ more
    → Tied place clients os → Tied more clients os
tied_later place more clients os le t =
    record {
      clients_are = t.clients_are;
      named = t.named;
      before = λ i at o e f. let less = t.before i at o e f in omega (arith, less, le);
    }

record Holds (lines : List Line) (clients : List Client) (os : List Operation) : Type 0 where
  tied : Tied (length lines + 2) clients os
  given : AreGiven lines os

longer : (lines : List Line) (line : Line) → length (lines ++ line ∷ []) + 2 ≡ length lines + 2 + 1
longer lines line = let l = length-append lines (line ∷ []) in omega (arith, l)

holds_next :
    (w : World) (lines : List Line) (line : Line) (clients : List Client) (os : List Operation)
    → Holds lines w.clients w.operations → Turn (length lines + 2) w clients os line.said
    → Tied (length lines + 2 + 1) clients os × AreGiven (lines ++ line ∷ []) os
holds_next w lines line clients os h (Rests is same quiet) =
    let place = length lines + 2 in
    subst
    (λ cs. Tied (place + 1) cs os × AreGiven (lines ++ line ∷ []) os) (sym is)
    (subst
    (λ xs. Tied (place + 1) w.clients xs × AreGiven (lines ++ line ∷ []) xs) (sym same) (
      tied_later place (place + 1) w.clients w.operations (omega arith) h.tied,
      next_given lines line w.operations w.operations (λ q client did less g. g) h.given
          (quiet_last line.said w.operations place quiet),
    ))
holds_next w lines line clients os h (Stamps client seq version is same quiet) =
    let place = length lines + 2 in
    let change = change_of client seq (stamped_as version) in
    let keeps = change_keeps client seq (stamped_as version) (stamp_keeps version) in
    let alike = stamp_same client seq version in
    let after = map change w.operations in
    subst
    (λ cs. Tied (place + 1) cs os × AreGiven (lines ++ line ∷ []) os) (sym is)
    (subst
    (λ xs. Tied (place + 1) w.clients xs × AreGiven (lines ++ line ∷ []) xs) (sym same) (
      tied_later place (place + 1) w.clients after (omega arith)
          (tied_tagged change w.operations keeps alike place w.clients h.tied),
      next_given lines line w.operations after
          (λ q other did less g. gives_tagged change w.operations keeps alike q other did g)
          h.given (quiet_last line.said after place quiet),
    ))
holds_next w lines line clients os h (Moves id d is same moved quiet) =
    let place = length lines + 2 in
    let cs' = slice_set w.clients d.id d in
    subst
    (λ cs. Tied (place + 1) cs os × AreGiven (lines ++ line ∷ []) os) (sym is)
    (subst
    (λ xs. Tied (place + 1) cs' xs × AreGiven (lines ++ line ∷ []) xs) (sym same) (
      tied_later place (place + 1) cs' w.operations (omega arith)
          (moved_tied w place h.tied id d moved),
      next_given lines line w.operations w.operations (λ q client did less g. g) h.given
          (quiet_last line.said w.operations place quiet),
    ))
holds_next w lines line clients os h (Begins id d op p is same begun quiet) =
    let place = length lines + 2 in
    let cs' = slice_set w.clients d.id d in
    let seq = (client_of w id).next in
    let after = w.operations ++ record { op = op; seq = seq; tag = 0 } ∷ [] in
    subst
    (λ cs. Tied (place + 1) cs os × AreGiven (lines ++ line ∷ []) os) (sym is)
    (subst
    (λ xs. Tied (place + 1) cs' xs × AreGiven (lines ++ line ∷ []) xs) (sym same) (
      tied_later place (place + 1) cs' after (omega arith)
          (begun_tied w place h.tied id d op p begun),
      next_given lines line w.operations after
          (λ q client did less g. gives_begun w.operations op seq q client did begun.is_open g)
          h.given (quiet_last line.said after place quiet),
    ))
holds_next w lines line clients os h (Takes id version d p did fences given is same a says) =
    let place = length lines + 2 in
    let cs' = slice_set w.clients d.id d in
    let after =
    map (change_of id p.seq (answered_as fences place version given)) w.operations in
    subst
    (λ cs. Tied (place + 1) cs os × AreGiven (lines ++ line ∷ []) os) (sym is)
    (subst
    (λ xs. Tied (place + 1) cs' xs × AreGiven (lines ++ line ∷ []) xs) (sym same) (
      taken_tied w place h.tied id version d p did fences given a,
      next_given lines line w.operations after
          (λ q client was less g.
          gives_still w place h.tied id version d p did fences given a q client was less g)
          h.given
          (λ client was said_so answers.
          let alike = same_client id client did was (sym says ∙ said_so) in
          subst (λ n. Gives after place n was) alike.0
          (subst (Gives after place id) alike.1
          (gives_now w place h.tied id version d p did fences given a))),
    ))

-- ---- a run

holds_after :
    (w : World) (place : ℕ) (e : Event) (lines : List Line) → length lines + 2 ≡ place
    → Holds lines w.clients w.operations
    → let now = step w place e in
    Holds (lines ++ now.1 ∷ []) now.0.clients now.0.operations
holds_after w place e lines at h =
    let now = step w place e in
    let turned = turn (record w { place = place }) e in
    let next =
    holds_next (record w { place = place }) lines now.1 now.0.clients now.0.operations
    (record { tied = h.tied; given = h.given })
    (subst
    (λ n. Turn n (record w { place = place }) now.0.clients now.0.operations now.1.said) (sym at)
    turned) in
    record {
      tied =
          subst (λ n. Tied n now.0.clients now.0.operations) (sym (longer lines now.1)) next.0;
      given = next.1;
    }

holds_run :
    (w : World) (place : ℕ) (events : List Event) (lines : List Line) → length lines + 2 ≡ place
    → Holds lines w.clients w.operations
    → AreGiven (lines ++ (run w place events).1) (run w place events).0.operations
unfolding run
holds_run w place [] lines at h =
    subst (λ l. AreGiven l w.operations) (sym (append-nil lines)) h.given
holds_run w place (e ∷ events) lines at h =
    let now = step w place e in
    let rest = run now.0 (place + 1) events in
    let more : length (lines ++ now.1 ∷ []) + 2 ≡ place + 1 =
    let l = longer lines now.1 in omega (arith, l, at) in
    subst (λ l. AreGiven l rest.0.operations) (append_assoc lines (now.1 ∷ []) rest.1)
    (holds_run now.0 (place + 1) events (lines ++ now.1 ∷ []) more
    (holds_after w place e lines at h))

-- ---- the start

length_below : (n : ℕ) → length (below n) ≡ n
length_below zero = refl
length_below (suc n) =
    let l = length-append (below n) (n ∷ []) in let m = length_below n in omega (arith, l, m)

below_at : (n i x : ℕ) → slice_get (below n) i ≡ Some x → x ≡ i
below_at zero i x e = absurd (cc)
below_at (suc n) i x e =
    by_place (get_pushed (below n) n i x e) (λ f. below_at n i x f)
  where
    by_place :
        IsPushed (below n) n i x → (slice_get (below n) i ≡ Some x → x ≡ i) → x ≡ i
    by_place (Before f) rest = rest f
    by_place (Last at is) rest = is ∙ sym (at ∙ length_below n)

start_holds : (rack : Rack) (keys : List (List ℕ))
    → Holds [] (start rack keys).clients (start rack keys).operations
start_holds rack keys =
    record {
      tied = record {
        clients_are = λ id c at.
            let m = get_image (λ j. new_client rack.format j 1) (below rack.clients) id c at in
            let is : c ≡ new_client rack.format m.of 1 = m.is in
            record {
              number =
                  ap (λ (x : Client). x.id) is ∙ below_at rack.clients id m.of m.there;
              below = λ i o e. absurd (cc);
              pends = λ p e.
                  let none : c.pending ≡ None = ap (λ (x : Client). x.pending) is in
                  absurd (let x : Some p ≡ None = sym e ∙ none in cc);
            };
        named = λ i j o p e. absurd (cc);
        before = λ i at o e. absurd (cc);
      };
      given = λ i client line did e. absurd (cc);
    }

-- ---- and of the history

history_given :
    (lines : List Line) (w : World) → AreGiven lines w.operations → AreAnswered lines (history w)
history_given lines w given i client line did e says answers =
    let g = given i client line did e says answers in
    record {
      number = g.number;
      op = g.o.op;
      there = get_mapped (λ (o : Operation). o.op) w.operations g.number g.o g.there;
      of_client = g.of_client;
      at = g.at;
      given = g.given;
      only = λ other op there at.
          let m = get_image (λ (o : Operation). o.op) w.operations other op there in
          g.only other m.of m.there (ap (λ (x : Op). x.answered) (sym m.is) ∙ at);
    }

pub answers_told :
    (rack : Rack) (keys : List (List ℕ)) (events : List Event)
    → let done = run (start rack keys) 2 events in AreAnswered done.1 (history done.0)
answers_told rack keys events =
    let done = run (start rack keys) 2 events in
    history_given done.1 done.0
    (holds_run (start rack keys) 2 events [] refl (start_holds rack keys))
