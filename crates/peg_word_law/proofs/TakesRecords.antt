-- The audit says yes of the record of each run whose deliveries have the least numbers.
use Rattle.std.proofs.Common.{◌≡◌, ◌+◌, ◌⊎◌, ℕ, suc, Bool, true, false, ◌&&◌, List, [], ◌∷◌, ◌++◌}
use Rattle.std.proofs.Common.{length, map, Option, Some, None, refl, sym, ap, subst, ◌∙◌, inl, inr}
use Rattle.std.proofs.Common.{if◌then◌else◌, arith, append-nil, append_assoc}
use Rattle.std.specs.Prelude.{◌==◌, slice_get, option_map, option_and_then, IfSome}
use Rattle.std.specs.Str.{bytes_eq}
use Rattle.std.proofs.lemmas.Slice.Eq.{bytes_eq-Decides}
use Rattle.std.proofs.lemmas.Bool.{eq-eqb}
use Rattle.peg_name.specs.Name.{Rack}
use Rattle.peg_name.specs.declared.Format.{Format}
use Rattle.peg_name.specs.declared.Node.{Node}
use Rattle.peg_name.specs.declared.Node.TheVariants as node
use Rattle.peg_event.specs.declared.Event.{Event}
use Rattle.peg_event.specs.declared.Event.TheVariants as event
use Rattle.peg_model.specs.Packet.{Packet, spelling}
use Rattle.peg_model.specs.Datagrams.{spelled}
use Rattle.peg_model.specs.World.{World, step, start}
use Rattle.peg_meaning.specs.Session.{Input, Entry, Came, Goes, Past, quietly}
use Rattle.peg_meaning.specs.Played.{Played, played, comes, played_first, came_if}
use Rattle.peg_meaning.specs.Roles.{lines_most}
use Rattle.peg_meaning.specs.RackWord.{is_node, sent_since, is_past_limits}
use Rattle.peg_meaning.specs.Records.{AuditEntry, Named, Happens, Took, Sent, Ends, Auditor}
use Rattle.peg_meaning.specs.Records.{Opening, Judging, Audited, Yes, Posted, audits, run_entries}
use Rattle.peg_meaning.specs.Records.{run_end, sent_entries, event_entry, delivered_entry}
use Rattle.peg_meaning.specs.Records.{recorded_entries, audit_text, steps_taken, unless_judged}
use Rattle.peg_meaning.specs.Records.{Other}
use Rattle.peg_word_law.specs.Recorded.{AreRecordable, IsRecordable, IsLeast}

-- ---- a step that writes nothing

Gives : Option (Played Auditor) → List ℕ → Type 0
Gives o text = IfSome o (λ p. p.text ≡ text)

-- what comes of an entry: it is past a limit, or leads to this state
Leads : Auditor → AuditEntry → Auditor → Type 0
Leads s e t =
    (comes audits s (Entry e) ≡ None) ⊎ (comes audits s (Entry e) ≡ Some (quietly t))

rest_of : ℕ → Auditor → List (Input AuditEntry) → Option (Came Auditor) → Option (Played Auditor)
rest_of turns s inputs o =
    option_and_then
    (λ came. option_map (played_first (turns + 0) came)
    (played audits (turns + 0) came.state inputs))
    o

mapped :
    (f : Played Auditor → Played Auditor) (o : Option (Played Auditor)) (text : List ℕ)
    → ((p : Played Auditor) → (f p).text ≡ p.text) → Gives o text → Gives (option_map f o) text
unfolding Gives
mapped f None text same gives = tt
mapped f (Some p) text same gives = same p ∙ gives

leads_on :
    (turns : ℕ) (s t : Auditor) (e : AuditEntry) (inputs : List (Input AuditEntry)) (text : List ℕ)
    → Leads s e t → ((n : ℕ) → Gives (played audits n t inputs) text)
    → Gives (played audits turns s (Entry e ∷ inputs)) text
unfolding Gives Leads played rest_of
leads_on turns s t e inputs text (inl past) gives =
    subst (λ o. Gives (rest_of turns s inputs o) text) (sym past) tt
leads_on turns s t e inputs text (inr goes) gives =
    subst (λ o. Gives (rest_of turns s inputs o) text) (sym goes)
    (mapped (played_first (turns + 0) (quietly t)) (played audits (turns + 0) t inputs)
    text (λ p. refl) (gives (turns + 0)))

-- ---- the states on the way

-- the lines so far are right, and so much of the last event isn't written yet
abbrev right : World → ℕ → ℕ → ℕ → List Posted → Auditor
right w place event_place events unwritten =
    Judging (record {
      world = w;
      place = place;
      event_place = event_place;
      events = events;
      unwritten = unwritten;
      verdict = Yes;
    })

same_node : (to : Node) → is_node to to ≡ true
same_node (node.Client id) = eq-eqb id id refl
same_node (node.Server id) = eq-eqb id id refl
same_node (node.Switch id) = eq-eqb id id refl
same_node node.Controller = refl

same_bytes : (bytes : List ℕ) → bytes_eq bytes bytes ≡ true
same_bytes bytes = (bytes_eq-Decides bytes bytes).1 refl

-- ---- the answers

one_of :
    (b : Bool) (t : Auditor)
    → (came_if true (if b then Past else Goes (quietly t)) ≡ None)
    ⊎ (came_if true (if b then Past else Goes (quietly t)) ≡ Some (quietly t))
one_of true t = inl refl
one_of false t = inr refl

one_of_two :
    (b c : Bool) (t : Auditor)
    → (came_if true (if b then Past else (if c then Past else Goes (quietly t))) ≡ None)
    ⊎ (came_if true (if b then Past else (if c then Past else Goes (quietly t)))
    ≡ Some (quietly t))
one_of_two true c t = inl refl
one_of_two false c t = one_of c t

-- the next packet that was sent is written
sent_leads :
    (w : World) (k m n : ℕ) (to : Node) (bytes : List ℕ) (unwritten : List Posted)
    → Leads (right w k m n ((to, bytes) ∷ unwritten)) (Sent to bytes)
    (right w (k + 1) m n unwritten)
unfolding Leads
sent_leads w k m n to bytes unwritten =
    let t = right w (k + 1) m n unwritten in
    let a : Audited =
    record {
      world = w;
      place = k + 1;
      event_place = m;
      events = n;
      unwritten = (to, bytes) ∷ unwritten;
      verdict = Yes;
    } in
    let both : (is_node to to && bytes_eq bytes bytes) ≡ true =
    ap (λ x. x && bytes_eq bytes bytes) (same_node to) ∙ same_bytes bytes in
    let answer : Bool → Option (Came Auditor) =
    λ c. came_if true
    (if k == lines_most + 1 then Past
    else Goes (quietly (Judging
    (if c then record a { unwritten = unwritten } else unless_judged a (Other m))))) in
    subst (λ (c : Bool). (answer c ≡ None) ⊎ (answer c ≡ Some (quietly t))) (sym both)
    (one_of (k == lines_most + 1) t)

-- what was sent is written, packet by packet
sents_lead :
    (format : Format) (sent : List (Node × Packet)) (w : World) (k m n : ℕ)
    (rest : List AuditEntry) (text : List ℕ)
    → ((turns : ℕ)
    → Gives (played audits turns (right w (k + length sent) m n []) (map Entry rest)) text)
    → (turns : ℕ)
    → Gives
    (played audits turns (right w k m n (spelled format sent))
    (map Entry (sent_entries format sent ++ rest)))
    text
sents_lead format [] w k m n rest text gives turns =
    let same : k + 0 ≡ k = omega arith in
    subst (λ j. Gives (played audits turns (right w j m n []) (map Entry rest)) text) same
    (gives turns)
sents_lead format (item ∷ sent) w k m n rest text gives turns =
    let same : k + suc (length sent) ≡ k + 1 + length sent = omega arith in
    leads_on turns (right w k m n (spelled format (item ∷ sent)))
    (right w (k + 1) m n (spelled format sent)) (Sent item.0 (spelling format item.1))
    (map Entry (sent_entries format sent ++ rest)) text
    (sent_leads w k m n item.0 (spelling format item.1) (spelled format sent))
    (sents_lead format sent w (k + 1) m n rest text
    (λ turns.
    subst (λ j. Gives (played audits turns (right w j m n []) (map Entry rest)) text) same
    (gives turns)))

-- ---- an event

abbrev after_event : World → ℕ → ℕ → Event → Auditor
after_event w k n e =
    let now = (step w (k + 1) e).0 in
    right now (k + 1) (k + 1) (n + 1) (spelled w.rack.format (sent_since w now))

FirstEntry : World → ℕ → ℕ → ℕ → Event → Type 0
FirstEntry w k m n e =
    (first : AuditEntry) × (event_entry w e ≡ first ∷ [])
    × Leads (right w k m n []) first (after_event w k n e)

delivered_first :
    (w : World) (k m n number pick : ℕ) (o : Option (Node × Packet))
    → slice_get w.packets number ≡ o
    → IsLeast w o number → FirstEntry w k m n (event.Deliver number pick)
unfolding FirstEntry Leads
delivered_first w k m n number pick None at least = absurd least
delivered_first w k m n number pick (Some item) at least =
    let e = event.Deliver number pick in
    let now = (step w (k + 1) e).0 in
    let bytes = spelling w.rack.format item.1 in
    let b : Audited =
    record {
      world = w;
      place = k + 1;
      event_place = k + 1;
      events = n;
      unwritten = [];
      verdict = Yes;
    } in (
      Took item.0 pick bytes,
      ap (λ o. delivered_entry w.rack.format o pick) at,
      subst
          (λ q.
          (came_if true (if k == lines_most + 1 then Past else steps_taken q b pick) ≡ None)
          ⊎ (came_if true (if k == lines_most + 1 then Past else steps_taken q b pick)
          ≡ Some (quietly (after_event w k n e))))
          (sym least)
          (one_of_two (k == lines_most + 1) (is_past_limits (n + 1) now) (after_event w k n e)),
    )

first_entry :
    (w : World) (k m n : ℕ) (e : Event) → IsRecordable w e → FirstEntry w k m n e
unfolding FirstEntry Leads
first_entry w k m n (event.Deliver number pick) is =
    delivered_first w k m n number pick (slice_get w.packets number) refl is
first_entry w k m n (event.Junk to bytes) is = absurd is
first_entry w k m n e is = (
  Happens e,
  refl,
  one_of_two (k == lines_most + 1) (is_past_limits (n + 1) (step w (k + 1) e).0)
      (after_event w k n e),
)

-- ---- all events

takes :
    (events : List Event) (w : World) (k m n turns place : ℕ) → place ≡ k + 1
    → AreRecordable w place events
    → Gives
    (played audits turns (right w k m n []) (map Entry (run_entries w place events ++ Ends ∷ [])))
    (audit_text Yes (run_end w place events))
unfolding Gives FirstEntry run_entries run_end played
takes [] w k m n turns place is are = append-nil (audit_text Yes w)
takes (e ∷ events) w k m n turns place is are =
    subst
    (λ q. AreRecordable w q (e ∷ events)
    → Gives
    (played audits turns (right w k m n [])
    (map Entry (run_entries w q (e ∷ events) ++ Ends ∷ [])))
    (audit_text Yes (run_end w q (e ∷ events))))
    (sym is)
    (λ are.
    let now = (step w (k + 1) e).0 in
    let format = w.rack.format in
    let sent = sent_since w now in
    let next = k + 1 + 1 + length sent in
    let rest = run_entries now next events in
    let text = audit_text Yes (run_end now next events) in
    let first = first_entry w k m n e are.0 in
    let same : next ≡ k + 1 + length sent + 1 = omega arith in
    subst
    (λ xs. Gives
    (played audits turns (right w k m n [])
    (map Entry (xs ++ sent_entries format sent ++ rest ++ Ends ∷ [])))
    text)
    (sym first.1)
    (leads_on turns (right w k m n []) (after_event w k n e) first.0
    (map Entry (sent_entries format sent ++ rest ++ Ends ∷ [])) text first.2
    (λ t.
    subst
    (λ xs. Gives (played audits t (after_event w k n e) (map Entry xs)) text)
    (sym (append_assoc (sent_entries format sent) rest (Ends ∷ [])))
    (sents_lead format sent now (k + 1) (k + 1) (n + 1) (rest ++ Ends ∷ []) text
    (λ u. takes events now (k + 1 + length sent) (k + 1) (n + 1) u next same are.1) t))))
    are

-- the audit of these entries, the rack line first and the end last
abbrev pub audit_of : List AuditEntry → Option (Played Auditor)
audit_of entries = played audits 0 Opening (map Entry entries)

pub takes_record :
    (rack : Rack) (events : List Event) → AreRecordable (start rack []) 2 events
    → IfSome (audit_of (recorded_entries rack events))
    (λ p. p.text ≡ audit_text Yes (run_end (start rack []) 2 events))
unfolding Gives Leads
takes_record rack events are =
    let from : 2 ≡ 1 + 1 = omega arith in
    leads_on 0 Opening (right (start rack []) 1 0 0 []) (Named rack)
    (map Entry (run_entries (start rack []) 2 events ++ Ends ∷ []))
    (audit_text Yes (run_end (start rack []) 2 events)) (inr refl)
    (λ n. takes events (start rack []) 1 0 0 n 2 from are)
