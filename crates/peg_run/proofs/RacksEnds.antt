-- How the session of `racks` ended, as `run` says it.
use Rattle.std.proofs.Common.{◌≡◌, ◌+◌, ◌==◌, ℕ, Bool, true, false, zero, suc, Option, Some, None}
use Rattle.std.proofs.Common.{List, [], ◌∷◌, refl, subst, slice_get, length}
use Rattle.std.specs.Prelude.{if◌then◌else◌}
use Rattle.std.specs.List.{AllByRecursion}
use Rattle.peg_name.specs.Name.{Rack}
use Rattle.peg_model.specs.World.{World}
use Rattle.peg_model.specs.Headline.{OrdersAreHistories}
use Rattle.peg_io.specs.Outside.{Tells}
use Rattle.peg_io.proofs.Telling.{Tells_as}
use Rattle.peg_meaning.specs.Session as session
use Rattle.peg_meaning.specs.Session.{Input, Inputs, Answer, IsTaken, IsTurn, after, state_of}
use Rattle.peg_meaning.specs.Session.{text_of, entries_of}
use Rattle.peg_meaning.specs.Roles.{lines_most}
use Rattle.peg_meaning.specs.Racks as word
use Rattle.peg_meaning.specs.Racks.{RacksWord, RacksEntry, Division, plays_racks, racks_start}
use Rattle.peg_meaning.specs.Racks.{racks_want, racks_on, racks_step, is_full, rack_of, happens}
use Rattle.peg_word_law.specs.Runs.{IsRunOf, AreRunsOf, HaveRuns, racks_of}
use Rattle.peg_word_law.specs.Isolated.{Placed, IsIsolated}
use Rattle.peg_word_law.specs.Divided.{PlaysRun, worlds_of, events_from, run_of}
use Rattle.peg_word_law.specs.Homes.{HaveOwnKeys, KeepOwnKeys}
use Rattle.peg_session.specs.Ends.{Told, Ended, MayEnd}
use Rattle.peg_session.specs.declared.End.{End}
use Rattle.peg_session.specs.declared.End.TheVariants as end
use Rattle.peg_session.proofs.Standings.{not_begun}
use Rattle.peg_run.proofs.Unwired as unwired
use Rattle.peg_run.specs.Divided.{DividesKeys, ShowsRacks}
use Rattle.peg_run.specs.Status.{status_of}
use Rattle.peg_run.specs.Verdicts.{EndsAs}
use Rattle.peg_run.specs.declared.Status.TheVariants as status

-- there was no memory to begin
pub racks_not_begun :
    (before : Told) → EndsAs plays_racks racks_start status.OutOfMemory before before
racks_not_begun before = (end.OutOfMemory, refl, not_begun plays_racks _ [] [] before)

-- ---- nothing is bound, and no turn is taken

no_turn : (s : RacksWord) → IsTurn (racks_want s) → ⊥
no_turn word.Starting turn = turn
no_turn (word.Running d) turn = by d.unnamed turn
  where
    by : (n : ℕ) → IsTurn (word.division_want n d) → ⊥
    by zero t = t
    by (suc n) t = t
no_turn (word.Finished d) turn = turn

if_unbound :
    (b : Bool) (s : RacksWord) (a : Answer RacksWord) → (after s a).binds ≡ []
    → (after s (if b then session.Past else a)).binds ≡ []
if_unbound true s a is = refl
if_unbound false s a is = is

unbound : (s : RacksWord) (x : Input RacksEntry) → (after s (racks_on s x)).binds ≡ []
unbound word.Starting (session.Entry (word.Counted racks)) = refl
unbound word.Starting (session.Entry (word.Named rack keys)) = refl
unbound word.Starting (session.Entry (word.Happens e)) = refl
unbound word.Starting (session.Entry word.End) = refl
unbound word.Starting (session.Datagram bytes) = refl
unbound word.Starting session.Quiet = refl
unbound word.Starting session.Tick = refl
unbound (word.Running d) (session.Entry (word.Counted racks)) = refl
unbound (word.Running d) (session.Entry (word.Named rack keys)) = refl
unbound (word.Running d) (session.Entry (word.Happens e)) =
    if_unbound (d.lines == lines_most) (word.Running d) (happens d e)
    (if_unbound
    (is_full
    (slice_get (racks_step d.worlds (d.place + 1) e).0 (rack_of (length d.worlds) e)))
    (word.Running d) _ refl)
unbound (word.Running d) (session.Entry word.End) = refl
unbound (word.Running d) (session.Datagram bytes) = refl
unbound (word.Running d) session.Quiet = refl
unbound (word.Running d) session.Tick = refl
unbound (word.Finished d) (session.Entry e) = refl
unbound (word.Finished d) (session.Datagram bytes) = refl
unbound (word.Finished d) session.Quiet = refl
unbound (word.Finished d) session.Tick = refl

pub no_wire_fault :
    (before now : Told) (e : End) → Ended plays_racks racks_start before now e
    → status_of e ≡ status.WireFault → ⊥
no_wire_fault = unwired.no_wire_fault plays_racks racks_start no_turn unbound refl

-- ---- what was written

abbrev RunsLaw : Type 0
RunsLaw = (inputs : Inputs RacksEntry) → IsTaken plays_racks racks_start inputs
    → HaveRuns (entries_of inputs) (state_of plays_racks racks_start inputs)

abbrev LinesLaw : Type 0
LinesLaw = (inputs : Inputs RacksEntry) → IsTaken plays_racks racks_start inputs
    → PlaysRun (entries_of inputs) (state_of plays_racks racks_start inputs)
    (text_of plays_racks racks_start inputs)

abbrev KeysLaw : Type 0
KeysLaw = (inputs : Inputs RacksEntry) → IsTaken plays_racks racks_start inputs
    → HaveOwnKeys (state_of plays_racks racks_start inputs)

abbrev OrdersLaw : Type 0
OrdersLaw = (rack : Rack) (keys : List (List ℕ)) (w : World) → IsRunOf rack keys w
    → OrdersAreHistories w

abbrev AloneLaw : Type 0
AloneLaw = (worlds : List World) (placed : Placed) (rack : ℕ) (w : World)
    → slice_get worlds rack ≡ Some w → IsIsolated worlds placed rack w

all_histories :
    (racks : List (Rack × List (List ℕ))) (worlds : List World) → AreRunsOf racks worlds
    → OrdersLaw → AllByRecursion OrdersAreHistories worlds
all_histories [] [] runs law = tt
all_histories [] (w ∷ worlds) runs law = absurd runs
all_histories (r ∷ racks) [] runs law = absurd runs
all_histories (r ∷ racks) (w ∷ worlds) runs law =
    (law r.0 r.1 w runs.0, all_histories racks worlds runs.1 law)

not_running : (n : ℕ) (d : Division) → MayEnd (word.division_want n d) → ⊥
not_running zero d over = let never : false ≡ true = over in cc
not_running (suc n) d over = let never : false ≡ true = over in cc

divides :
    (entries : List RacksEntry) (s : RacksWord) (text : List ℕ) → MayEnd (racks_want s)
    → HaveRuns entries s → PlaysRun entries s text → HaveOwnKeys s → OrdersLaw → AloneLaw
    → DividesKeys text
divides entries word.Starting text over runs plays own law alone =
    let never : false ≡ true = over in absurd (cc)
divides entries (word.Running d) text over runs plays own law alone =
    absurd (not_running d.unnamed d over)
divides entries (word.Finished d) text over runs plays own law alone =
    let all : AreRunsOf (racks_of entries) (run_of entries).0 =
    subst (λ (ws : List World). AreRunsOf (racks_of entries) ws) plays.0 runs in
    record {
      entries = entries;
      is = plays.1;
      runs = all;
      histories = all_histories (racks_of entries) (run_of entries).0 all law;
      apart = subst (λ (ws : List World). KeepOwnKeys ws) plays.0 own;
      alone = λ rack w is. alone (worlds_of entries) (events_from 1 entries) rack w is;
    }

pub shows_racks :
    (before now : Told) → RunsLaw → LinesLaw → KeysLaw → OrdersLaw → AloneLaw
    → Ended plays_racks racks_start before now end.Done
    → Tells before.held now.held ShowsRacks
shows_racks before now runs lines own law alone done =
    let inputs = done.inputs in
    Tells_as before.held now.held _ _ (λ held held' appended. (
      text_of plays_racks racks_start inputs,
      appended,
      divides (entries_of inputs) (state_of plays_racks racks_start inputs)
          (text_of plays_racks racks_start inputs) done.over (runs inputs done.taken)
          (lines inputs done.taken) (own inputs done.taken) law alone,
    )) done.written
