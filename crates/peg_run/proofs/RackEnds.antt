-- How the session of `rack` ended, as `run` says it.
use Rattle.std.proofs.Common.{◌≡◌, ◌+◌, ◌==◌, ℕ, Bool, true, false, Option, Some, None, List, []}
use Rattle.std.proofs.Common.{◌∷◌, ◌++◌, length, refl, sym, ap, subst, ◌∙◌, append_assoc, codes}
use Rattle.std.proofs.Common.{decimal, map}
use Rattle.std.specs.Prelude.{if◌then◌else◌, unwrap_or}
use Rattle.peg_name.specs.Name.{Rack}
use Rattle.peg_name.specs.declared.Node.{Node}
use Rattle.peg_event.specs.declared.Event.{Event}
use Rattle.peg_event.specs.declared.Event.TheVariants as event
use Rattle.peg_model.specs.World.{World, history, step}
use Rattle.peg_model.specs.Order.{orders}
use Rattle.peg_model.specs.Headline.{OrdersAreHistories}
use Rattle.peg_model.specs.Schedule.{fed}
use Rattle.peg_model.specs.Trace.{tail_text}
use Rattle.peg_io.specs.Outside.{Tells, Appends}
use Rattle.peg_io.proofs.Telling.{Tells_as}
use Rattle.peg_meaning.specs.Session.{Input, Entry, Datagram, Quiet, Tick, Inputs, Begin, More}
use Rattle.peg_meaning.specs.Session.{Came, Answer, Goes, Past, IsTaken, after, came_of}
use Rattle.peg_meaning.specs.Session.{saying, quietly}
use Rattle.peg_meaning.specs.Session.{state_of, text_of, entries_of}
use Rattle.peg_meaning.specs.Roles.{lines_most}
use Rattle.peg_meaning.specs.RackWord as word
use Rattle.peg_meaning.specs.RackWord.{RackWord, RackEntry, Racked, Taking, serves_rack, rack_start}
use Rattle.peg_meaning.specs.RackWord.{running_want, rack_want, steps, stepped, takes_packet}
use Rattle.peg_meaning.specs.RackWord.{takes_first, passes_first, reads_line, reads_entry, rack_on}
use Rattle.peg_meaning.specs.RackWord.{number_of, is_past_limits, actor_of, end_text, racked}
use Rattle.peg_meaning.specs.RackWord.{rack_named, nodes_of, foreign_text}
use Rattle.peg_word_law.specs.Runs.{IsRunOf, HasRun, IsServed}
use Rattle.peg_session.specs.Ends.{Told, Ended, MayEnd}
use Rattle.peg_session.specs.declared.End.TheVariants as end
use Rattle.peg_session.proofs.Standings.{not_begun}
use Rattle.peg_run.specs.Racked.{PrintsHistories, ShowsHistories}
use Rattle.peg_run.specs.Verdicts.{EndsAs}
use Rattle.peg_run.specs.declared.Status.TheVariants as status

-- there was no memory to begin
pub rack_not_begun :
    (base : ℕ) (before : Told)
    → EndsAs serves_rack (rack_start base) status.OutOfMemory before before
rack_not_begun base before = (end.OutOfMemory, refl, not_begun serves_rack _ [] [] before)

-- ---- where the session is over

not_over : (takes : List Taking) (rack : Rack) → MayEnd (running_want takes rack) → ⊥
not_over [] rack over = let never : false ≡ true = over in cc
not_over (t ∷ takes) rack over = over

-- a state that is over is the finished one, and what was written last is its end
abbrev Finishes : Answer RackWord → Type 0
Finishes Past = Unit {0}
Finishes (Goes came) =
    MayEnd (rack_want came.state)
    → (r : Racked) × (came.state ≡ word.Finished r) × (came.text ≡ end_text r)

runs_on :
    (r : Racked) (came : Came RackWord) → came.state ≡ word.Running r → Finishes (Goes came)
runs_on r came is =
    λ over.
    absurd
    (not_over r.takes r.world.rack (subst (λ (s : RackWord). MayEnd (rack_want s)) is over))

if_past : (b : Bool) (a : Answer RackWord) → Finishes a → Finishes (if b then Past else a)
if_past true a ends = tt
if_past false a ends = ends

steps_end : (r : Racked) (actor : Node) (e : Event) → Finishes (steps r actor e)
steps_end r actor e =
    let now = step r.world (r.place + 1) e in
    if_past (is_past_limits (r.events + 1) now.0) (Goes (stepped r actor now))
    (runs_on
    (record r { world = now.0; place = r.place + 1; events = r.events + 1 })
    (stepped r actor now) refl)

takes_end : (o : Option ℕ) (r : Racked) (taking : Taking) → Finishes (takes_packet o r taking)
takes_end None r (node, pick) =
    let next : Racked = record r { place = r.place + 1; foreign = r.foreign + 1 } in
    runs_on next (saying (word.Running next) (foreign_text (r.place + 1) node)) refl
takes_end (Some number) r (node, pick) =
    steps_end r node (event.Deliver number (unwrap_or pick (length r.world.packets)))

hears_end : (takes : List Taking) (r : Racked) (bytes : List ℕ) → Finishes (takes_first takes r bytes)
hears_end [] r bytes = tt
hears_end (t ∷ takes) r bytes =
    takes_end (number_of r.world.rack.format r.world.packets t.0 bytes)
    (record r { takes = takes }) t

passes_end : (takes : List Taking) (r : Racked) → Finishes (passes_first takes r)
passes_end [] r = tt
passes_end (t ∷ takes) r =
    let next : Racked = record r { takes = takes } in
    runs_on next (quietly (word.Running next)) refl

line_end : (e : RackEntry) (r : Racked) → Finishes (reads_line e r)
line_end (word.Named rack keys) r = tt
line_end (word.Happens e) r = steps_end r (actor_of e) e
line_end (word.Takes node pick) r =
    let next : Racked = record r { takes = (node, Some pick) ∷ [] } in
    runs_on next (quietly (word.Running next)) refl
line_end word.Round r =
    let next : Racked = record r {
      takes = map (λ node. (node, None)) (nodes_of r.world.rack);
    } in
    runs_on next (quietly (word.Running next)) refl
line_end word.End r = tt

counted_end : (e : RackEntry) (r : Racked)
    → Finishes (if r.lines == lines_most then Past
    else reads_line e (record r { lines = r.lines + 1 }))
counted_end e r =
    if_past (r.lines == lines_most) (reads_line e (record r { lines = r.lines + 1 }))
    (line_end e (record r { lines = r.lines + 1 }))

entry_end : (e : RackEntry) (r : Racked) → Finishes (reads_entry e r)
entry_end (word.Named rack keys) r = counted_end (word.Named rack keys) r
entry_end (word.Happens e) r = counted_end (word.Happens e) r
entry_end (word.Takes node pick) r = counted_end (word.Takes node pick) r
entry_end word.Round r = counted_end word.Round r
entry_end word.End r = λ over. (r, refl, refl)

each_end : (s : RackWord) (x : Input RackEntry) → Finishes (rack_on s x)
each_end (word.Starting base) (Entry (word.Named rack keys)) =
    runs_on (racked base rack keys) (rack_named base rack keys) refl
each_end (word.Starting base) (Entry (word.Happens e)) = tt
each_end (word.Starting base) (Entry (word.Takes node pick)) = tt
each_end (word.Starting base) (Entry word.Round) = tt
each_end (word.Starting base) (Entry word.End) = tt
each_end (word.Starting base) (Datagram bytes) = tt
each_end (word.Starting base) Quiet = tt
each_end (word.Starting base) Tick = tt
each_end (word.Running r) (Entry e) = entry_end e r
each_end (word.Running r) (Datagram bytes) = hears_end r.takes r bytes
each_end (word.Running r) Quiet = passes_end r.takes r
each_end (word.Running r) Tick = tt
each_end (word.Finished r) (Entry e) = tt
each_end (word.Finished r) (Datagram bytes) = tt
each_end (word.Finished r) Quiet = tt
each_end (word.Finished r) Tick = tt

finished :
    (s : RackWord) (a : Answer RackWord) (came : Came RackWord) → a ≡ Goes came → Finishes a
    → MayEnd (rack_want (after s a).state)
    → (r : Racked) × ((after s a).state ≡ word.Finished r) × ((after s a).text ≡ end_text r)
finished s (Goes other) came is ends over = ends over
finished s Past came is ends over = let never : Past ≡ Goes came = is in absurd (cc)

-- ---- what was written

abbrev ServesLaw : Type 0
ServesLaw = (base : ℕ) (inputs : Inputs RackEntry)
    → IsTaken serves_rack (rack_start base) inputs
    → HasRun (entries_of inputs) (state_of serves_rack (rack_start base) inputs)

abbrev OrdersLaw : Type 0
OrdersLaw = (rack : Rack) (keys : List (List ℕ)) (w : World) → IsRunOf rack keys w
    → OrdersAreHistories w

ended_with :
    (front text : List ℕ) (r : Racked) (entries : List RackEntry) → text ≡ end_text r
    → IsServed entries r.world → OrdersLaw → PrintsHistories (front ++ text)
ended_with front text r entries is served law =
    let line = fed (decimal (r.place + 1) ++ codes " end foreign " ++ decimal r.foreign) in
    record {
      rack = served.rack;
      keys = served.keys;
      world = r.world;
      run = served.run;
      trace = front ++ line;
      is =
          ap (λ t. front ++ t) is
          ∙ sym (append_assoc front line (tail_text (history r.world) (orders r.world)));
      histories = law served.rack served.keys r.world served.run;
    }

prints :
    (base : ℕ) (inputs : Inputs RackEntry) → IsTaken serves_rack (rack_start base) inputs
    → MayEnd (rack_want (state_of serves_rack (rack_start base) inputs)) → ServesLaw → OrdersLaw
    → PrintsHistories (text_of serves_rack (rack_start base) inputs)
prints base Begin taken over serves law = let never : false ≡ true = over in absurd (cc)
prints base (More inputs x) taken over serves law =
    let s = state_of serves_rack (rack_start base) inputs in
    let got = finished s (rack_on s x) taken.2.0 taken.2.1 (each_end s x) over in
    let run : IsServed (entries_of (More inputs x)) got.0.world =
    subst (λ (t : RackWord). HasRun (entries_of (More inputs x)) t) got.1
    (serves base (More inputs x) taken) in
    ended_with (text_of serves_rack (rack_start base) inputs)
    (came_of serves_rack (rack_start base) (More inputs x)).text got.0
    (entries_of (More inputs x)) got.2 run law

pub shows_histories :
    (base : ℕ) (before now : Told) → ServesLaw → OrdersLaw
    → Ended serves_rack (rack_start base) before now end.Done
    → Tells before.held now.held ShowsHistories
shows_histories base before now serves law done =
    Tells_as before.held now.held _ _ (λ held held' appended. (
      text_of serves_rack (rack_start base) done.inputs,
      appended,
      prints base done.inputs done.taken done.over serves law,
    )) done.written
