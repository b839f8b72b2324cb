-- The world of an audit is the end of a schedule.
use Rattle.std.proofs.Common.{◌≡◌, ◌≤◌, ◌<◌, ◌+◌, ◌^◌, ℕ, Bool, true, false, ◌||◌, not, ◌&&◌, List}
use Rattle.std.proofs.Common.{[], ◌∷◌, ◌++◌, ap, length, Option, Some, None, refl, sym, subst, ◌∙◌}
use Rattle.std.proofs.Common.{inl, inr, if◌then◌else◌, arith}
use Rattle.std.specs.Prelude.{nat_lt, ◌==◌}
use Rattle.std.specs.Str.{bytes_eq}
use Rattle.peg_name.specs.Name.{Rack}
use Rattle.peg_event.specs.declared.Event.{Event}
use Rattle.peg_event.specs.declared.Event.TheVariants as event
use Rattle.peg_model.specs.World.{World, step}
use Rattle.peg_model.specs.Schedule.{IsStart}
use Rattle.peg_law.specs.Lines.{IsLine}
use Rattle.peg_law.specs.Places.{IsReached}
use Rattle.peg_meaning.specs.Session.{Input, Entry, Came, Answer, Goes, Past, Inputs, More, IsTaken}
use Rattle.peg_meaning.specs.Session.{state_of, entries_of, quietly}
use Rattle.peg_meaning.specs.Roles.{lines_most}
use Rattle.peg_meaning.specs.RackWord.{number_of, is_node}
use Rattle.peg_meaning.specs.Records.{AuditEntry, Named, Happens, Took, Sent, Ends, Auditor}
use Rattle.peg_meaning.specs.Records.{Opening, Judging, Closed, Audited, audited, AuditVerdict}
use Rattle.peg_meaning.specs.Records.{Posted, is_yes, unless_judged, all_written, is_written}
use Rattle.peg_meaning.specs.Records.{writes_next, stepped, steps, steps_taken, audits_event}
use Rattle.peg_meaning.specs.Records.{next_line, at_event, audits_line, audits_entry, audit_on}
use Rattle.peg_meaning.specs.Records.{audits, IsEntryLine, is_end, Other, Foreign, audit_start}
use Rattle.peg_meaning.proofs.Keeping.{OnGoes, IsReadable, all_kept_with, lt_tells}
use Rattle.peg_word_law.specs.Runs.{IsAudited, AuditsRun}
use Rattle.peg_word_law.proofs.Reaching.{Reaching}
use Rattle.peg_word_law.proofs.RackReached.{number_within}

-- ---- what changes no world and no place

abbrev SameRun : Audited → Audited → Type 0
SameRun a b = (b.world ≡ a.world) × (b.place ≡ a.place)

judged_same : (a : Audited) (v : AuditVerdict) → SameRun a (unless_judged a v)
judged_same a v = same_if (is_yes a.verdict)
  where
    same_if : (b : Bool) → SameRun a (if b then record a { verdict = v } else a)
    same_if true = (refl, refl)
    same_if false = (refl, refl)

written_same : (a : Audited) → SameRun a (all_written a)
written_same a = same_if (is_written a.unwritten)
  where
    same_if : (b : Bool) → SameRun a (if b then a else unless_judged a (Other a.event_place))
    same_if true = (refl, refl)
    same_if false = judged_same a (Other a.event_place)

next_same :
    (unwritten : List Posted) (a : Audited) (p : Posted)
    → SameRun a (writes_next unwritten a p)
next_same [] a p = judged_same a (Other a.event_place)
next_same (next ∷ unwritten) a p = same_if (is_node next.0 p.0 && bytes_eq next.1 p.1)
  where
    same_if :
        (b : Bool)
        → SameRun a
        (if b then record a { unwritten = unwritten } else unless_judged a (Other a.event_place))
    same_if true = (refl, refl)
    same_if false = judged_same a (Other a.event_place)

-- ---- what is kept

-- events led to the world at places up to this one
record IsKept (rack : Rack) (place : ℕ) (w : World) : Type 0 where
  is_start : IsStart rack []
  reached : IsReached rack [] place w
  begun : 1 ≤ place
  few : length w.packets ≤ 200000

-- behind the rack line
abbrev Keeps : Rack → Auditor → Type 0
Keeps rack Opening = ⊥
Keeps rack (Judging a) = IsKept rack a.place a.world
Keeps rack (Closed a) = IsKept rack a.place a.world

module _ (law : Reaching) (rack : Rack) where
  abbrev KeepsOn : Answer Auditor → Type 0
  KeepsOn answer = OnGoes (Keeps rack) answer

  later : (place : ℕ) (w : World) → IsKept rack place w → IsKept rack (place + 1) w
  later place w kept =
      record {
        is_start = kept.is_start;
        reached = law.waits rack [] place (place + 1) w (omega arith) kept.reached;
        begun = omega arith;
        few = kept.few;
      }

  moved :
      (a b : Audited) → SameRun a b → IsKept rack a.place a.world → IsKept rack b.place b.world
  moved a b same kept =
      subst (λ n. IsKept rack n b.world) (sym same.1)
      (subst (λ w. IsKept rack a.place w) (sym same.0) kept)

  -- the world of the line before, at the place behind it
  carried :
      (a b : Audited) → b.world ≡ a.world → b.place ≡ a.place + 1 → IsKept rack a.place a.world
      → IsKept rack b.place b.world
  carried a b world place kept =
      subst (λ n. IsKept rack n b.world) (sym place)
      (subst (λ w. IsKept rack (a.place + 1) w) (sym world) (later a.place a.world kept))

  -- ---- an event

  or_past :
      (a b : Bool) (came : Came Auditor) → (b ≡ false → Keeps rack came.state)
      → KeepsOn (if a || b then Past else Goes came)
  or_past true b came keeps = tt
  or_past false true came keeps = tt
  or_past false false came keeps = keeps refl

  if_past :
      (b : Bool) (answer : Answer Auditor) → KeepsOn answer → KeepsOn (if b then Past else answer)
  if_past true answer on = tt
  if_past false answer on = on

  if_either :
      (x : Bool) (p q : Answer Auditor) → KeepsOn p → KeepsOn q → KeepsOn (if x then p else q)
  if_either true p q on_p on_q = on_p
  if_either false p q on_p on_q = on_q

  -- the event stands at the place after that up to which the world was kept
  steps_keep :
      (a : Audited) (e : Event) (before : ℕ) → a.place ≡ before + 1
      → IsKept rack before a.world → IsLine rack e → KeepsOn (steps a e)
  steps_keep a e before place kept of_line =
      let now = (step a.world a.place e).0 in
      or_past (nat_lt 1000000 (a.events + 1)) (nat_lt 200000 (length now.packets))
      (quietly (Judging (stepped a now)))
      (λ within. record {
        is_start = kept.is_start;
        reached =
            law.steps rack [] before a.place a.world e kept.reached
            (let first = kept.begun in omega (arith, first, place)) (omega (arith, place)) of_line;
        begun = omega (arith, place);
        few = elim (lt_tells 200000 (length now.packets)) [
          | inl h ↦ let differs : true ≡ false = sym h.0 ∙ within in absurd (cc)
          | inr h ↦ h.1
        ];
      })

  taken_keeps :
      (o : Option ℕ) (a b : Audited) (pick : ℕ) → b.world ≡ a.world → b.place ≡ a.place + 1
      → IsKept rack a.place a.world → pick < 2 ^ 64
      → ((k : ℕ) → o ≡ Some k → k < length b.world.packets) → KeepsOn (steps_taken o b pick)
  taken_keeps None a b pick world place kept small within =
      moved b (unless_judged b (Foreign b.place)) (judged_same b (Foreign b.place))
      (carried a b world place kept)
  taken_keeps (Some number) a b pick world place kept small within =
      let here : IsKept rack a.place b.world =
      subst (λ w. IsKept rack a.place w) (sym world) kept in
      steps_keep b (event.Deliver number pick) a.place place here
      (tt, (let less = within number refl in let few = here.few in omega (arith, less, few), small))

  event_keeps :
      (e : AuditEntry) (a b : Audited) (line : List ℕ) → b.world ≡ a.world → b.place ≡ a.place + 1
      → IsKept rack a.place a.world → IsEntryLine a line e → KeepsOn (audits_event e b)
  event_keeps (Happens e) a b line world place kept is_line =
      if_either (is_yes b.verdict) (steps b e) (Goes (quietly (Judging b)))
      (steps_keep b e a.place place (subst (λ w. IsKept rack a.place w) (sym world) kept)
      (subst (λ k. IsLine k e) (law.of_rack rack [] a.place a.world kept.reached)
      (is_line.0.in_rack, is_line.0.in_range)))
      (carried a b world place kept)
  event_keeps (Took to pick bytes) a b line world place kept is_line =
      let format = b.world.rack.format in
      if_either (is_yes b.verdict) (steps_taken (number_of format b.world.packets to bytes) b pick)
      (Goes (quietly (Judging b)))
      (taken_keeps (number_of format b.world.packets to bytes) a b pick world place kept is_line.1
      (λ k is.
      let less = number_within 0 format b.world.packets to bytes k is in omega (arith, less)))
      (carried a b world place kept)
  event_keeps _ a b line world place kept is_line = carried a b world place kept

  -- ---- a line

  sent_keeps :
      (x : Bool) (a : Audited) (posted : Posted) → IsKept rack a.place a.world
      → KeepsOn (Goes (quietly (Judging (if x then writes_next a.unwritten a posted else a))))
  sent_keeps true a posted kept =
      moved a (writes_next a.unwritten a posted) (next_same a.unwritten a posted) kept
  sent_keeps false a posted kept = kept

  line_keeps :
      (e : AuditEntry) (a : Audited) (line : List ℕ) → IsKept rack a.place a.world
      → IsEntryLine a line e → KeepsOn (audits_line e (next_line a))
  line_keeps (Sent to bytes) a line kept is_line =
      sent_keeps (is_yes a.verdict) (next_line a) (to, bytes) (later a.place a.world kept)
  line_keeps Ends a line kept is_line =
      moved (next_line a) (all_written (next_line a)) (written_same (next_line a))
      (later a.place a.world kept)
  line_keeps (Named other) a line kept is_line = absurd is_line
  line_keeps (Happens e) a line kept is_line =
      let same = written_same (next_line a) in
      event_keeps (Happens e) a (at_event (next_line a)) line same.0 same.1 kept is_line
  line_keeps (Took to pick bytes) a line kept is_line =
      let same = written_same (next_line a) in
      event_keeps (Took to pick bytes) a (at_event (next_line a)) line same.0 same.1 kept is_line

  entry_keeps :
      (e : AuditEntry) (a : Audited) (line : List ℕ) → IsKept rack a.place a.world
      → IsEntryLine a line e → KeepsOn (audits_entry e a)
  entry_keeps e a line kept is_line =
      if_past (not (is_end e) && a.place == lines_most + 1) (audits_line e (next_line a))
      (line_keeps e a line kept is_line)

  begins : IsStart rack [] → IsKept rack 1 (audited rack).world
  begins is_start =
      record {
        is_start = is_start;
        reached = law.begins rack [];
        begun = omega arith;
        few = omega arith;
      }

-- ---- the whole

record IsBehind (entries : List AuditEntry) (s : Auditor) : Type 0 where
  rack : Rack
  rest : List AuditEntry
  named : entries ≡ Named rack ∷ rest
  kept : Keeps rack s

abbrev Reads : Inputs AuditEntry → Auditor → Type 0
Reads inputs Opening = entries_of inputs ≡ []
Reads inputs (Judging a) = IsBehind (entries_of inputs) (Judging a)
Reads inputs (Closed a) = IsBehind (entries_of inputs) (Closed a)

one_more :
    (inputs : Inputs AuditEntry) (e : AuditEntry) (s t : Auditor)
    → (behind : IsBehind (entries_of inputs) s) → Keeps behind.rack t
    → Reads (More inputs (Entry e)) t
one_more inputs e s Opening behind keeps = absurd keeps
one_more inputs e s (Judging a) behind keeps =
    record {
      rack = behind.rack;
      rest = behind.rest ++ e ∷ [];
      named = ap (λ es. es ++ e ∷ []) behind.named;
      kept = keeps;
    }
one_more inputs e s (Closed a) behind keeps =
    record {
      rack = behind.rack;
      rest = behind.rest ++ e ∷ [];
      named = ap (λ es. es ++ e ∷ []) behind.named;
      kept = keeps;
    }

goes_on :
    (inputs : Inputs AuditEntry) (e : AuditEntry) (s : Auditor) (answer : Answer Auditor)
    → (behind : IsBehind (entries_of inputs) s) → OnGoes (Keeps behind.rack) answer
    → OnGoes (Reads (More inputs (Entry e))) answer
goes_on inputs e s Past behind keeps = tt
goes_on inputs e s (Goes came) behind keeps = one_more inputs e s came.state behind keeps

module _ (law : Reaching) where
  one :
      (inputs : Inputs AuditEntry) (s : Auditor) (x : Input AuditEntry) → Reads inputs s
      → IsReadable audits s x → OnGoes (Reads (More inputs x)) (audit_on s x)
  one inputs Opening (Entry (Named rack)) none readable =
      record {
        rack = rack;
        rest = [];
        named = ap (λ es. es ++ Named rack ∷ []) none;
        kept =
            begins law rack (record { limits = readable.1.limits; named = readable.1.named });
      }
  one inputs (Judging a) (Entry e) behind readable =
      goes_on inputs e (Judging a) (audits_entry e a) behind
      (entry_keeps law behind.rack e a readable.0 behind.kept readable.1)
  one inputs s x reads readable = tt

  audited_run :
      (entries : List AuditEntry) (place : ℕ) (w : World) (rack : Rack) (rest : List AuditEntry)
      → entries ≡ Named rack ∷ rest → IsKept rack place w → IsAudited entries w
  audited_run entries place w rack rest named kept =
      record {
        rack = rack;
        rest = rest;
        named = named;
        run =
            record { is_start = kept.is_start; is_end = law.ends rack [] place w kept.reached };
      }

  audits_run :
      (inputs : Inputs AuditEntry) (s : Auditor) → Reads inputs s
      → AuditsRun (entries_of inputs) s
  audits_run inputs Opening none = none
  audits_run inputs (Judging a) b =
      audited_run (entries_of inputs) a.place a.world b.rack b.rest b.named b.kept
  audits_run inputs (Closed a) b =
      audited_run (entries_of inputs) a.place a.world b.rack b.rest b.named b.kept

  pub audited_is_run :
      (inputs : Inputs AuditEntry) → IsTaken audits audit_start inputs
      → AuditsRun (entries_of inputs) (state_of audits audit_start inputs)
  audited_is_run inputs taken =
      audits_run inputs (state_of audits audit_start inputs)
      (all_kept_with audits Reads one audit_start inputs taken refl)
