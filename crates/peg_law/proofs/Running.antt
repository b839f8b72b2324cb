-- Every run of the book is one of the protocol machine.
use Rattle.std.proofs.Common.{◌≡◌, ◌+◌, ◌++◌, ℕ, List, [], ◌∷◌, refl, sym, ap, ◌∙◌, subst, arith}
use Rattle.std.specs.List.{AllByRecursion}
use Rattle.peg_name.specs.Name.{Rack}
use Rattle.peg_name.specs.declared.value.Content.TheVariants.{Absent, Present}
use Rattle.peg_event.specs.declared.answers.Ask.TheVariants as ask
use Rattle.peg_event.specs.declared.Command.TheVariants as command
use Rattle.peg_event.specs.declared.Event.{Event}
use Rattle.peg_event.specs.declared.Event.TheVariants as event
use Rattle.peg_model.specs.Schedule.{IsStart}
use Rattle.peg_model.specs.World.{World, start, happens, step, run}
use Rattle.peg_law.specs.Mirrors.{Mirrors, rack_code}
use Rattle.peg_law.specs.Lines.{IsLine}
use Rattle.peg_law.proofs.ClientSteps.{Follows, quiet, issued, resent, gave_up}
use Rattle.peg_law.proofs.ControllerSteps.{ordered_now, retried, surveyed, planned_now}
use Rattle.peg_law.proofs.Gathering.{ReadsStates}
use Rattle.peg_law.proofs.Deliveries.{delivered}
use Rattle.peg_law.proofs.Fixed.{Frame, frame, frame_same}
use Rattle.peg_law.proofs.Start.{start_mirrors}
use Rattle.peg_protocol.specs.System as system
use Rattle.peg_protocol.specs.System.{System}
use Rattle.peg_protocol.specs.Told.{Told}

-- ---- an event

pub happened :
    (keys : List (List ℕ)) (w : World) (s : System) → Mirrors keys w s → Told s → ReadsStates →
    (e : Event)
    → IsLine w.rack e → Follows keys s (happens w e)
unfolding happens
happened keys w s m told reads (event.Read client key) x =
    issued keys w s m client x.0 key ask.Read x.1.0
happened keys w s m told reads (event.Write client key value) x =
    issued keys w s m client x.0.0 key (ask.Write (Present value)) x.1.0.0
happened keys w s m told reads (event.Delete client key) x =
    issued keys w s m client x.0.0 key (ask.Write Absent) x.1.0
happened keys w s m told reads (event.Resend client) x = resent keys w s m client x.0
happened keys w s m told reads (event.GiveUp client) x = gave_up keys w s m client x.0
happened keys w s m told reads (event.Deliver number pick) x =
    delivered keys w s m told reads number pick
happened keys w s m told reads (event.Junk to bytes) x = (system.Rest, quiet keys w s m)
happened keys w s m told reads (event.Promote key) x =
    ordered_now keys w s m (command.Promote key) x.1.0
happened keys w s m told reads (event.Demote key) x = ordered_now keys w s m (command.Demote key) tt
happened keys w s m told reads (event.Copy key target) x =
    ordered_now keys w s m (command.Copy key target) tt
happened keys w s m told reads (event.Fence key) x = ordered_now keys w s m (command.Fence key) tt
happened keys w s m told reads (event.Handover target) x =
    ordered_now keys w s m (command.Handover target) tt
happened keys w s m told reads event.Clear x = ordered_now keys w s m command.Clear tt
happened keys w s m told reads event.Retry x = retried keys w s m
happened keys w s m told reads event.Survey x = surveyed keys w s m
happened keys w s m told reads (event.Plan promote_at demote_below) x =
    planned_now keys w s m promote_at demote_below

-- ---- a line: its place first, in both

pub placed :
    (keys : List (List ℕ)) (w : World) (s : System) (place : ℕ) → Mirrors keys w s
    → place ≡ w.place + 1
    → Mirrors keys (record w { place = place }) (record s { place = s.place + 1 })
placed keys w s place m e =
    record {
      limits = m.limits;
      named = m.named;
      rack = m.rack;
      place = ap (λ n. n + 1) m.place ∙ sym e;
      sent = m.sent;
      clients = m.clients;
      servers = m.servers;
      switches = m.switches;
      controller = m.controller;
      history = m.history;
      fences = m.fences;
      promoted = m.promoted;
      lengths = m.lengths;
    }

pub told_later : (s : System) (place : ℕ) → Told s → Told (record s { place = place })
told_later s place t =
    record {
      writes = t.writes;
      rows = t.rows;
      fences = t.fences;
      ranges = t.ranges;
      one_state =
          t.one_state;
      voids = t.voids;
      read_key = t.read_key;
      reply_key = t.reply_key;
      write_key = t.write_key;
    }

pub stepped :
    (keys : List (List ℕ)) (w : World) (s : System) (place : ℕ) (e : Event) → Mirrors keys w s
    → Told s → ReadsStates → place ≡ w.place + 1 → IsLine w.rack e
    → (e' : system.Event) × Mirrors keys (step w place e).0 (system.happens s e')
stepped keys w s place e m told reads at line =
    happened keys (record w { place = place }) (record s { place = s.place + 1 })
    (placed keys w s place m at) (told_later s (s.place + 1) told) reads e line

-- ---- a run, from a state of the protocol machine that has a past

abbrev pub Tells : Rack → List (List ℕ) → Type 0
Tells rack keys =
    (past : List system.Event) → Told (system.run past (system.start (rack_code rack keys)))

pub run_more :
    (past : List system.Event) (e : system.Event) (s : System)
    → system.run (past ++ e ∷ []) s ≡ system.happens (system.run past s) e
run_more [] e s = refl
run_more (d ∷ past) e s = run_more past e (system.happens s d)

pub run_mirrors :
    (rack : Rack) (keys : List (List ℕ)) → Tells rack keys → ReadsStates → (w : World) (place : ℕ)
    (events : List Event) (past : List system.Event)
    → Mirrors keys w (system.run past (system.start (rack_code rack keys))) → w.rack ≡ rack
    → place ≡ w.place + 1 → AllByRecursion (IsLine rack) events
    → (lines : List system.Event)
    × Mirrors keys (run w place events).0 (system.run lines (system.start (rack_code rack keys)))
unfolding run
run_mirrors rack keys tells reads w place [] past m same at lines = (past, m)
run_mirrors rack keys tells reads w place (e ∷ events) past m same at lines =
    let s0 = system.start (rack_code rack keys) in
    let now = step w place e in
    let x =
    stepped keys w (system.run past s0) place e m (tells past) reads at
    (subst (λ r. IsLine r e) (sym same) lines.0) in
    let fixed : frame now.0 ≡ frame (record w { place = place }) =
    frame_same (record w { place = place }) e in
    let is : now.0.place ≡ place = ap (λ (f : Frame). f.place) fixed in
    run_mirrors rack keys tells reads now.0 (place + 1) events (past ++ x.0 ∷ [])
    (subst (Mirrors keys now.0) (sym (run_more past x.0 s0)) x.1)
    (ap (λ (f : Frame). f.rack) fixed ∙ same) (omega (arith, is)) lines.1

pub whole_run :
    (rack : Rack) (keys : List (List ℕ)) (events : List Event) → IsStart rack keys
    → AllByRecursion (IsLine rack) events → Tells rack keys → ReadsStates
    → (lines : List system.Event)
    × Mirrors keys (run (start rack keys) 2 events).0
    (system.run lines (system.start (rack_code rack keys)))
whole_run rack keys events is lines tells reads =
    run_mirrors rack keys tells reads (start rack keys) 2 events [] (start_mirrors rack keys is)
    refl refl
    lines
