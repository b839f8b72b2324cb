-- The audit says yes of the record of each run, and of no other lines, where what was taken are
-- lines that stand in its input.
use Rattle.std.proofs.Common.{◌≡◌, ◌+◌, ℕ, Bool, true, false, not, ◌&&◌, List, [], ◌∷◌, ◌++◌}
use Rattle.std.proofs.Common.{length, Option, Some, None, refl, sym, ap, subst, ◌∙◌, if◌then◌else◌}
use Rattle.std.proofs.Common.{arith}
use Rattle.std.specs.Prelude.{◌==◌, slice_index_or, IfSome}
use Rattle.std.specs.List.{AllByRecursion}
use Rattle.peg_name.specs.Name.{Rack}
use Rattle.peg_event.specs.declared.Event.{Event}
use Rattle.peg_event.specs.declared.Event.TheVariants as event
use Rattle.peg_model.specs.World.{World, start, step}
use Rattle.peg_meaning.specs.Session.{Input, Entry, Datagram, Quiet, Tick, Inputs, Came, Answer}
use Rattle.peg_meaning.specs.Session.{Goes, Past, More, quietly, saying, state_of, text_of, IsTurn}
use Rattle.peg_meaning.specs.Session.{IsTurnOf, IsStep, IsWanted, IsTaken, entries_of}
use Rattle.peg_meaning.specs.Roles.{lines_most}
use Rattle.peg_meaning.specs.RackWord.{is_past_limits, number_of}
use Rattle.peg_meaning.specs.Records.{AuditEntry, Named, Happens, Took, Sent, Ends, Auditor}
use Rattle.peg_meaning.specs.Records.{Opening, Judging, Closed, Audited, audited, Yes, is_yes}
use Rattle.peg_meaning.specs.Records.{steps, steps_taken, stepped, unless_judged, Foreign}
use Rattle.peg_meaning.specs.Records.{writes_next, audits_event, all_written, audits_line}
use Rattle.peg_meaning.specs.Records.{audits_entry, at_event, next_line, is_end, audit_on}
use Rattle.peg_meaning.specs.Records.{audit_want, audits, audit_start, audit_text, run_end}
use Rattle.peg_meaning.specs.Records.{recorded_entries, run_entries}
use Rattle.peg_meaning.proofs.Keeping as keeping
use Rattle.peg_meaning.specs.Played.{Played}
use Rattle.peg_meaning.proofs.LinesAlone.{IsEntry, all_read}
use Rattle.peg_word_law.specs.Recorded.{AreRecordable, IsRecord}
use Rattle.peg_word_law.proofs.Lists.{all_push}
use Rattle.peg_word_law.proofs.TakesRecords.{audit_of, takes_record}
use Rattle.peg_word_law.proofs.TakesNoOthers.{IsBetween, takes_no_other}

-- ---- an audit takes lines alone

no_turn : (s : Auditor) → IsTurn (audit_want s) → ⊥
no_turn Opening is = is
no_turn (Judging a) is = is
no_turn (Closed a) is = is

no_turn_of : (s : Auditor) (n : ℕ) → IsTurnOf (audit_want s) n → ⊥
no_turn_of Opening n is = is
no_turn_of (Judging a) n is = is
no_turn_of (Closed a) n is = is

no_step : (s : Auditor) → IsStep (audit_want s) → ⊥
no_step Opening is = is
no_step (Judging a) is = is
no_step (Closed a) is = is

takes_lines : (s : Auditor) (x : Input AuditEntry) → IsWanted audits s x → IsEntry x
takes_lines s (Entry e) is = tt
takes_lines s (Datagram bytes) is = no_turn_of s (length bytes) is
takes_lines s Quiet is = no_turn s is
takes_lines s Tick is = no_step s is

-- ---- a line between writes nothing

-- an answer that goes on judging, or is past a limit
abbrev Stays : Answer Auditor → Type 0
Stays (Goes came) = (b : Audited) × (came ≡ quietly (Judging b))
Stays Past = Unit {0}

if_past : (b : Bool) (answer : Answer Auditor) → Stays answer → Stays (if b then Past else answer)
if_past true answer stays = tt
if_past false answer stays = stays

if_either :
    (b : Bool) (p q : Answer Auditor) → Stays p → Stays q → Stays (if b then p else q)
if_either true p q first second = first
if_either false p q first second = second

steps_stay : (a : Audited) (e : Event) → Stays (steps a e)
steps_stay a e =
    let now = (step a.world a.place e).0 in
    if_past (is_past_limits (a.events + 1) now) (Goes (quietly (Judging (stepped a now))))
    (stepped a now, refl)

taken_stays : (o : Option ℕ) (a : Audited) (pick : ℕ) → Stays (steps_taken o a pick)
taken_stays None a pick = (unless_judged a (Foreign a.place), refl)
taken_stays (Some number) a pick = steps_stay a (event.Deliver number pick)

event_stays : (e : AuditEntry) (a : Audited) → Stays (audits_event e a)
event_stays (Happens e) a =
    if_either (is_yes a.verdict) (steps a e) (Goes (quietly (Judging a))) (steps_stay a e)
    (a, refl)
event_stays (Took node pick bytes) a =
    let taken = number_of a.world.rack.format a.world.packets node bytes in
    if_either (is_yes a.verdict) (steps_taken taken a pick) (Goes (quietly (Judging a)))
    (taken_stays taken a pick) (a, refl)
event_stays (Named rack) a = (a, refl)
event_stays (Sent node bytes) a = (a, refl)
event_stays Ends a = (a, refl)

line_stays : (e : AuditEntry) (a : Audited) → IsBetween e → Stays (audits_line e a)
line_stays (Sent node bytes) a between =
    (if is_yes a.verdict then writes_next a.unwritten a (node, bytes) else a, refl)
line_stays (Happens e) a between = event_stays (Happens e) (at_event a)
line_stays (Took node pick bytes) a between = event_stays (Took node pick bytes) (at_event a)
line_stays _ a between = absurd between

entry_stays : (e : AuditEntry) (a : Audited) → IsBetween e → Stays (audits_entry e a)
entry_stays e a between =
    if_past (not (is_end e) && a.place == lines_most + 1) (audits_line e (next_line a))
    (line_stays e (next_line a) between)

-- ---- what was read

record IsOpen (rack : Rack) (entries : List AuditEntry) (inputs : Inputs AuditEntry)
    (text : List ℕ) : Type 0 where
  read : entries_of inputs ≡ Named rack ∷ entries
  between : AllByRecursion IsBetween entries
  silent : text ≡ []

record IsClosed (rack : Rack) (entries : List AuditEntry) (inputs : Inputs AuditEntry) :
    Type 0 where
  read : entries_of inputs ≡ Named rack ∷ entries ++ Ends ∷ []
  between : AllByRecursion IsBetween entries

abbrev Shape : Inputs AuditEntry → Auditor → List ℕ → Type 0
Shape inputs Opening text = (entries_of inputs ≡ []) × (text ≡ [])
Shape inputs (Judging a) text =
    (rack : Rack) × (entries : List AuditEntry) × IsOpen rack entries inputs text
Shape inputs (Closed a) text =
    (rack : Rack) × (entries : List AuditEntry) × IsClosed rack entries inputs

came_is : (came other : Came Auditor) → Goes came ≡ Goes other → came ≡ other
came_is came other is = cc

went_on : (answer : Answer Auditor) (came : Came Auditor) → Stays answer → answer ≡ Goes came
    → (b : Audited) × (quietly (Judging b) ≡ came)
went_on (Goes other) came (b, stays) is = (b, sym stays ∙ came_is other came is)
went_on Past came stays is = let never : Past ≡ Goes came = is in absurd (cc)

one_between :
    (inputs : Inputs AuditEntry) (a : Audited) (text : List ℕ) (e : AuditEntry)
    (came : Came Auditor) → IsBetween e → Shape inputs (Judging a) text
    → audits_entry e a ≡ Goes came → Shape (More inputs (Entry e)) came.state (text ++ came.text)
one_between inputs a text e came between (rack, entries, read_on) is =
    let on = went_on (audits_entry e a) came (entry_stays e a between) is in
    subst (λ (c : Came Auditor). Shape (More inputs (Entry e)) c.state (text ++ c.text)) on.1 (
      rack,
      entries ++ e ∷ [],
      record {
        read = ap (λ es. es ++ e ∷ []) read_on.read;
        between = all_push IsBetween entries e read_on.between between;
        silent = ap (λ t. t ++ []) read_on.silent;
      },
    )

one :
    (inputs : Inputs AuditEntry) (s : Auditor) (text : List ℕ) (x : Input AuditEntry)
    (came : Came Auditor) → Shape inputs s text → IsWanted audits s x → audit_on s x ≡ Goes came
    → Shape (More inputs x) came.state (text ++ came.text)
one inputs Opening text (Entry (Named rack)) came (none, silent) wanted is =
    subst
    (λ (c : Came Auditor). Shape (More inputs (Entry (Named rack))) c.state (text ++ c.text))
    (came_is (quietly (Judging (audited rack))) came is) (
      rack,
      [],
      record {
        read = ap (λ es. es ++ Named rack ∷ []) none;
        between = tt;
        silent = ap (λ t. t ++ []) silent;
      },
    )
one inputs (Judging a) text (Entry (Happens e)) came shape wanted is =
    one_between inputs a text (Happens e) came wanted.1.only.is.1 shape is
one inputs (Judging a) text (Entry (Took node pick bytes)) came shape wanted is =
    one_between inputs a text (Took node pick bytes) came tt shape is
one inputs (Judging a) text (Entry (Sent node bytes)) came shape wanted is =
    one_between inputs a text (Sent node bytes) came tt shape is
one inputs (Judging a) text (Entry (Named rack)) came shape wanted is = absurd wanted.1.only.is
one inputs (Judging a) text (Entry Ends) came (rack, entries, read_on) wanted is =
    let last = all_written (next_line a) in
    subst (λ (c : Came Auditor). Shape (More inputs (Entry Ends)) c.state (text ++ c.text))
    (came_is (saying (Closed last) (audit_text last.verdict last.world)) came is) (
      rack,
      entries,
      record { read = ap (λ es. es ++ Ends ∷ []) read_on.read; between = read_on.between },
    )
one inputs s text x came shape wanted is = let never : Past ≡ Goes came = is in absurd (cc)

shaped :
    (inputs : Inputs AuditEntry) → IsTaken audits audit_start inputs
    → Shape inputs (state_of audits audit_start inputs) (text_of audits audit_start inputs)
shaped inputs taken = keeping.all_written audits Shape one audit_start inputs taken (refl, refl)

-- ---- the laws

some_read :
    (o : Option (Played Auditor)) (p : Played Auditor) (P : Played Auditor → Type 0) → IfSome o P
    → o ≡ Some p → P p
some_read o p P each is = subst (λ q. IfSome q P) is each

pub takes_records :
    (rack : Rack) (events : List Event) (inputs : Inputs AuditEntry)
    → AreRecordable (start rack []) 2 events → IsTaken audits audit_start inputs
    → entries_of inputs ≡ recorded_entries rack events
    → text_of audits audit_start inputs ≡ audit_text Yes (run_end (start rack []) 2 events)
takes_records rack events inputs recordable taken same =
    let h = all_read audits audit_start takes_lines inputs taken in
    h.text
    ∙ some_read (audit_of (recorded_entries rack events)) h.p
    (λ p. p.text ≡ audit_text Yes (run_end (start rack []) 2 events))
    (takes_record rack events recordable)
    (ap audit_of (sym same) ∙ h.is)

nothing_is_no_yes : (w : World) (text : List ℕ) → text ≡ [] → text ≡ audit_text Yes w → ⊥
nothing_is_no_yes w text silent says =
    let first : 0 ≡ 121 = ap (λ xs. slice_index_or xs 0 0) (sym silent ∙ says) in
    omega (arith, first)

of_shape :
    (s : Auditor) (inputs : Inputs AuditEntry) (text : List ℕ) (w : World) (p : Played Auditor)
    → Shape inputs s text → audit_of (entries_of inputs) ≡ Some p → text ≡ p.text
    → text ≡ audit_text Yes w → IsRecord (entries_of inputs)
of_shape Opening inputs text w p (none, silent) is same says =
    absurd (nothing_is_no_yes w text silent says)
of_shape (Judging a) inputs text w p (rack, entries, read_on) is same says =
    absurd (nothing_is_no_yes w text read_on.silent says)
of_shape (Closed a) inputs text w p (rack, entries, closed) is same says =
    let found =
    some_read (audit_of (Named rack ∷ entries ++ Ends ∷ [])) p
    (λ q. q.text ≡ audit_text Yes w
    → (events : List Event) × AreRecordable (start rack []) 2 events
    × (entries ≡ run_entries (start rack []) 2 events))
    (takes_no_other rack entries w closed.between)
    (ap audit_of (sym closed.read) ∙ is) (sym same ∙ says) in (
      rack,
      found.0,
      found.1,
      closed.read ∙ ap (λ es. Named rack ∷ es ++ Ends ∷ []) found.2,
    )

pub takes_no_others :
    (inputs : Inputs AuditEntry) (w : World) → IsTaken audits audit_start inputs
    → text_of audits audit_start inputs ≡ audit_text Yes w → IsRecord (entries_of inputs)
takes_no_others inputs w taken says =
    let h = all_read audits audit_start takes_lines inputs taken in
    of_shape (state_of audits audit_start inputs) inputs (text_of audits audit_start inputs) w h.p
    (shaped inputs taken) h.is h.text says
