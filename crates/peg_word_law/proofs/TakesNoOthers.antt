-- The audit says yes of nothing but the record of a run.
use Rattle.std.proofs.Common.{◌≡◌, ◌+◌, ◌⊎◌, ℕ, suc, Bool, true, false, ◌&&◌, List, [], ◌∷◌, ◌++◌}
use Rattle.std.proofs.Common.{length, map, Option, Some, None, refl, sym, ap, subst, ◌∙◌, inl, inr}
use Rattle.std.proofs.Common.{if◌then◌else◌, arith, append-nil}
use Rattle.std.specs.Prelude.{◌==◌, slice_get, slice_index_or, option_map, option_and_then}
use Rattle.std.specs.Prelude.{unwrap_or, IfSome}
use Rattle.std.specs.List.{AllByRecursion}
use Rattle.std.specs.Str.{bytes_eq}
use Rattle.std.proofs.lemmas.Slice.Eq.{bytes_eq-Decides}
use Rattle.std.proofs.lemmas.Bool.{eqb-true}
use Rattle.peg_name.specs.Name.{Rack}
use Rattle.peg_name.specs.declared.Format.{Format}
use Rattle.peg_name.specs.declared.Node.{Node}
use Rattle.peg_name.specs.declared.Node.TheVariants as node
use Rattle.peg_event.specs.declared.Event.{Event}
use Rattle.peg_event.specs.declared.Event.TheVariants as event
use Rattle.peg_model.specs.Packet.{Packet, spelling}
use Rattle.peg_model.specs.Datagrams.{spelled}
use Rattle.peg_model.specs.World.{World, step, start}
use Rattle.peg_meaning.specs.Session.{Input, Entry, Came, Goes, Past, quietly, saying}
use Rattle.peg_meaning.specs.Played.{Played, played, comes, played_first, came_if}
use Rattle.peg_meaning.specs.Roles.{lines_most}
use Rattle.peg_meaning.specs.RackWord.{is_node, sent_since, is_past_limits, number_from, number_of}
use Rattle.peg_meaning.specs.RackWord.{IsOfNodes}
use Rattle.peg_meaning.specs.Records.{AuditEntry, Named, Happens, Took, Sent, Ends, Auditor}
use Rattle.peg_meaning.specs.Records.{Opening, Judging, Closed, Audited, AuditVerdict, Yes, Foreign}
use Rattle.peg_meaning.specs.Records.{Other, Posted, audits, is_yes, run_entries, sent_entries}
use Rattle.peg_meaning.specs.Records.{event_entry, delivered_entry, audit_text, unless_judged}
use Rattle.peg_meaning.specs.Records.{steps_taken}
use Rattle.peg_word_law.specs.Recorded.{AreRecordable, IsRecordable, IsLeast}
use Rattle.peg_word_law.proofs.TakesRecords.{audit_of}
use Rattle.peg_meaning.proofs.Keeping.{unmapped}

-- a line that may stand between the rack line and the end
abbrev pub IsBetween : AuditEntry → Type 0
IsBetween (Named rack) = ⊥
IsBetween (Happens e) = IsOfNodes e
IsBetween (Took node pick bytes) = Unit {0}
IsBetween (Sent node bytes) = Unit {0}
IsBetween Ends = ⊥

-- ---- an input that was played

-- behind the first of the inputs: what it came to, and what the others came to
record IsBehind (turns : ℕ) (s : Auditor) (e : AuditEntry) (inputs : List (Input AuditEntry))
    (p : Played Auditor) : Type 0 where
  came : Came Auditor
  comes_to : comes audits s (Entry e) ≡ Some came
  later : Played Auditor
  played_later : played audits (turns + 0) came.state inputs ≡ Some later
  text : came.text ++ later.text ≡ p.text

behind :
    (turns : ℕ) (s : Auditor) (e : AuditEntry) (inputs : List (Input AuditEntry))
    (p : Played Auditor) → played audits turns s (Entry e ∷ inputs) ≡ Some p
    → IsBehind turns s e inputs p
unfolding played
behind turns s e inputs p is = behind_of (comes audits s (Entry e)) refl is
  where
    rest : Option (Came Auditor) → Option (Played Auditor)
    rest o =
        option_and_then
        (λ came. option_map (played_first (turns + 0) came)
        (played audits (turns + 0) came.state inputs))
        o

    behind_of :
        (o : Option (Came Auditor)) → comes audits s (Entry e) ≡ o
        → rest (comes audits s (Entry e)) ≡ Some p → IsBehind turns s e inputs p
    behind_of None none is =
        let never : None ≡ Some p = sym (ap rest none) ∙ is in absurd (cc)
    behind_of (Some came) some is =
        let later =
        unmapped (played_first (turns + 0) came)
        (played audits (turns + 0) came.state inputs) p (sym (ap rest some) ∙ is) in
        record {
          came = came;
          comes_to = some;
          later = later.0;
          played_later = later.1;
          text = ap (λ q. q.text) later.2;
        }

-- an entry that writes nothing and leads to one state
record IsBehindQuietly (t : Auditor) (inputs : List (Input AuditEntry)) (p : Played Auditor) :
    Type 0 where
  turns : ℕ
  later : Played Auditor
  played_later : played audits turns t inputs ≡ Some later
  text : later.text ≡ p.text

quiet_came :
    (b : Bool) (t : Auditor) (came : Came Auditor)
    → came_if true (if b then Past else Goes (quietly t)) ≡ Some came → quietly t ≡ came
quiet_came true t came is = let never : None ≡ Some came = is in absurd (cc)
quiet_came false t came is = ap (λ o. unwrap_or o (quietly t)) is

quiet_came_of_two :
    (b c : Bool) (t : Auditor) (came : Came Auditor)
    → came_if true (if b then Past else (if c then Past else Goes (quietly t))) ≡ Some came
    → quietly t ≡ came
quiet_came_of_two true c t came is = let never : None ≡ Some came = is in absurd (cc)
quiet_came_of_two false c t came is = quiet_came c t came is

quietly_behind :
    (turns : ℕ) (s t : Auditor) (e : AuditEntry) (inputs : List (Input AuditEntry))
    (p : Played Auditor)
    → ((came : Came Auditor) → comes audits s (Entry e) ≡ Some came → quietly t ≡ came)
    → played audits turns s (Entry e ∷ inputs) ≡ Some p → IsBehindQuietly t inputs p
quietly_behind turns s t e inputs p quiet is =
    let h = behind turns s e inputs p is in
    let same = quiet h.came h.comes_to in
    record {
      turns = turns + 0;
      later = h.later;
      played_later =
          subst (λ c. played audits (turns + 0) c.state inputs ≡ Some h.later) (sym same)
          h.played_later;
      text = subst (λ c. c.text ++ h.later.text ≡ p.text) (sym same) h.text;
    }

-- ---- a no stays a no

abbrev judged : World → ℕ → ℕ → ℕ → List Posted → AuditVerdict → Auditor
judged w place event_place events unwritten verdict =
    Judging (record {
      world = w;
      place = place;
      event_place = event_place;
      events = events;
      unwritten = unwritten;
      verdict = verdict;
    })

no_is_not_yes :
    (v : AuditVerdict) (w w' : World) → is_yes v ≡ false → audit_text v w ≡ audit_text Yes w' → ⊥
no_is_not_yes Yes w w' denied is = let differs : true ≡ false = denied in absurd (cc)
no_is_not_yes (Foreign line) w w' denied is =
    let first : 110 ≡ 121 = ap (λ xs. slice_index_or xs 0 0) is in omega (arith, first)
no_is_not_yes (Other line) w w' denied is =
    let first : 110 ≡ 121 = ap (λ xs. slice_index_or xs 0 0) is in omega (arith, first)

-- what is written at the end
ended :
    (turns : ℕ) (s : Auditor) (p : Played Auditor) (last : Came Auditor)
    → comes audits s (Entry Ends) ≡ Some last → played audits turns s (Entry Ends ∷ []) ≡ Some p
    → p.text ≡ last.text
unfolding played
ended turns s p last to is =
    let h = behind turns s Ends [] p is in
    let same : last ≡ h.came = ap (λ o. unwrap_or o last) (sym to ∙ h.comes_to) in
    let none : [] ≡ h.later.text =
    ap (λ (o : Option (Played Auditor)). (unwrap_or o h.later).text) h.played_later in
    sym h.text
    ∙ ap (λ c. c.text ++ h.later.text) (sym same)
    ∙ ap (λ xs. last.text ++ xs) (sym none)
    ∙ append-nil last.text

no_stays :
    (entries : List AuditEntry) (v : AuditVerdict) (w w' : World) (k m n turns : ℕ)
    (unwritten : List Posted) (p : Played Auditor) → AllByRecursion IsBetween entries
    → is_yes v ≡ false
    → played audits turns (judged w k m n unwritten v) (map Entry (entries ++ Ends ∷ [])) ≡ Some p
    → p.text ≡ audit_text Yes w' → ⊥
no_stays entries Yes w w' k m n turns unwritten p between denied is text =
    let differs : true ≡ false = denied in absurd (cc)
no_stays [] v w w' k m n turns [] p between denied is text =
    no_is_not_yes v w w' denied
    (sym
    (ended turns (judged w k m n [] v) p
    (saying
    (Closed (record {
      world = w;
      place = k + 1;
      event_place = m;
      events = n;
      unwritten = [];
      verdict = v;
    }))
    (audit_text v w))
    refl is)
    ∙ text)
no_stays [] v w w' k m n turns (u ∷ unwritten) p between denied is text =
    no_is_not_yes v w w' denied
    (sym
    (ended turns (judged w k m n (u ∷ unwritten) v) p
    (saying
    (Closed (record {
      world = w;
      place = k + 1;
      event_place = m;
      events = n;
      unwritten = u ∷ unwritten;
      verdict = v;
    }))
    (audit_text v w))
    refl is)
    ∙ text)
no_stays (Named rack ∷ entries) v w w' k m n turns unwritten p between denied is text =
    absurd between.0
no_stays (Ends ∷ entries) v w w' k m n turns unwritten p between denied is text =
    absurd between.0
no_stays (Sent to bytes ∷ entries) v w w' k m n turns unwritten p between denied is text =
    let t = judged w (k + 1) m n unwritten v in
    let h =
    quietly_behind turns (judged w k m n unwritten v) t (Sent to bytes)
    (map Entry (entries ++ Ends ∷ [])) p (λ came. quiet_came (k == lines_most + 1) t came) is in
    no_stays entries v w w' (k + 1) m n h.turns unwritten h.later between.1 denied h.played_later
    (h.text ∙ text)
no_stays (Happens e ∷ entries) v w w' k m n turns [] p between denied is text =
    let t = judged w (k + 1) (k + 1) n [] v in
    let h =
    quietly_behind turns (judged w k m n [] v) t (Happens e) (map Entry (entries ++ Ends ∷ [])) p
    (λ came. quiet_came (k == lines_most + 1) t came) is in
    no_stays entries v w w' (k + 1) (k + 1) n h.turns [] h.later between.1 denied h.played_later
    (h.text ∙ text)
no_stays (Happens e ∷ entries) v w w' k m n turns (u ∷ unwritten) p between denied is text =
    let t = judged w (k + 1) (k + 1) n (u ∷ unwritten) v in
    let h =
    quietly_behind turns (judged w k m n (u ∷ unwritten) v) t (Happens e)
    (map Entry (entries ++ Ends ∷ [])) p (λ came. quiet_came (k == lines_most + 1) t came) is in
    no_stays entries v w w' (k + 1) (k + 1) n h.turns (u ∷ unwritten) h.later between.1 denied
    h.played_later (h.text ∙ text)
no_stays (Took to pick bytes ∷ entries) v w w' k m n turns [] p between denied is text =
    let t = judged w (k + 1) (k + 1) n [] v in
    let h =
    quietly_behind turns (judged w k m n [] v) t (Took to pick bytes)
    (map Entry (entries ++ Ends ∷ [])) p (λ came. quiet_came (k == lines_most + 1) t came) is in
    no_stays entries v w w' (k + 1) (k + 1) n h.turns [] h.later between.1 denied h.played_later
    (h.text ∙ text)
no_stays (Took to pick bytes ∷ entries) v w w' k m n turns (u ∷ unwritten) p between denied is
    text =
    let t = judged w (k + 1) (k + 1) n (u ∷ unwritten) v in
    let h =
    quietly_behind turns (judged w k m n (u ∷ unwritten) v) t (Took to pick bytes)
    (map Entry (entries ++ Ends ∷ [])) p (λ came. quiet_came (k == lines_most + 1) t came) is in
    no_stays entries v w w' (k + 1) (k + 1) n h.turns (u ∷ unwritten) h.later between.1 denied
    h.played_later (h.text ∙ text)

-- ---- the packet of a datagram

and_split : (x y : Bool) → (x && y) ≡ true → (x ≡ true) × (y ≡ true)
and_split true y is = (refl, is)
and_split false y is = let differs : false ≡ true = is in absurd (cc)

node_same : (a b : Node) → is_node a b ≡ true → a ≡ b
node_same (node.Client a) (node.Client b) is = ap node.Client (eqb-true a b is)
node_same (node.Server a) (node.Server b) is = ap node.Server (eqb-true a b is)
node_same (node.Switch a) (node.Switch b) is = ap node.Switch (eqb-true a b is)
node_same node.Controller node.Controller is = refl
node_same _ _ is = let differs : false ≡ true = is in absurd (cc)

finds_if :
    (b : Bool) (n number : ℕ) (rest : Option ℕ) → (if b then Some n else rest) ≡ Some number
    → ((b ≡ true) × (n ≡ number)) ⊎ (rest ≡ Some number)
finds_if true n number rest is = inl (refl, ap (λ o. unwrap_or o n) is)
finds_if false n number rest is = inr is

record IsFound (n : ℕ) (format : Format) (packets : List (Node × Packet)) (to : Node)
    (bytes : List ℕ) (number : ℕ) : Type 0 where
  at : ℕ
  number_is : number ≡ n + at
  item : Node × Packet
  there : slice_get packets at ≡ Some item
  same_node : item.0 ≡ to
  same_bytes : spelling format item.1 ≡ bytes

found :
    (n : ℕ) (format : Format) (packets : List (Node × Packet)) (to : Node) (bytes : List ℕ)
    (number : ℕ) → number_from n format packets to bytes ≡ Some number
    → IsFound n format packets to bytes number
found n format [] to bytes number is = let never : None ≡ Some number = is in absurd (cc)
found n format (item ∷ packets) to bytes number is =
    elim (finds_if (is_node item.0 to && bytes_eq (spelling format item.1) bytes) n number
    (number_from (n + 1) format packets to bytes) is) [
      | inl h ↦
          let both = and_split (is_node item.0 to) (bytes_eq (spelling format item.1) bytes) h.0 in
          record {
            at = 0;
            number_is = let same = h.1 in omega (arith, same);
            item = item;
            there = refl;
            same_node = node_same item.0 to both.0;
            same_bytes = (bytes_eq-Decides (spelling format item.1) bytes).0 both.1;
          }
      | inr h ↦
          let later = found (n + 1) format packets to bytes number h in
          record {
            at = suc later.at;
            number_is = let same = later.number_is in omega (arith, same);
            item = later.item;
            there = later.there;
            same_node = later.same_node;
            same_bytes = later.same_bytes;
          }
    ]

-- ---- entries

abbrev sent_of : Posted → AuditEntry
sent_of posted = Sent posted.0 posted.1

sent_same :
    (format : Format) (sent : List (Node × Packet))
    → map sent_of (spelled format sent) ≡ sent_entries format sent
sent_same format [] = refl
sent_same format (item ∷ sent) =
    ap (λ xs. Sent item.0 (spelling format item.1) ∷ xs) (sent_same format sent)

spelled_length :
    (format : Format) (sent : List (Node × Packet)) → length (spelled format sent) ≡ length sent
spelled_length format [] = refl
spelled_length format (item ∷ sent) = ap suc (spelled_length format sent)

own_entry : (w : World) (e : Event) → IsOfNodes e → event_entry w e ≡ Happens e ∷ []
own_entry w (event.Deliver number pick) own = absurd own
own_entry w (event.Junk to bytes) own = absurd own
own_entry w e own = refl

own_recordable : (w : World) (e : Event) → IsOfNodes e → IsRecordable w e
own_recordable w (event.Deliver number pick) own = absurd own
own_recordable w (event.Junk to bytes) own = absurd own
own_recordable w e own = tt

-- the entries are what is unwritten, and the record of a run from this place on
record IsRest (w : World) (place : ℕ) (unwritten : List Posted) (entries : List AuditEntry) :
    Type 0 where
  events : List Event
  recordable : AreRecordable w place events
  same : entries ≡ map sent_of unwritten ++ run_entries w place events

-- an event, and the record behind it
with_event :
    (w : World) (k : ℕ) (e : Event) (first : AuditEntry) (entries : List AuditEntry)
    → event_entry w e ≡ first ∷ [] → IsRecordable w e
    → IsRest (step w (k + 1) e).0
    (k + 1 + 1 + length (sent_since w (step w (k + 1) e).0))
    (spelled w.rack.format (sent_since w (step w (k + 1) e).0)) entries
    → IsRest w (k + 1) [] (first ∷ entries)
unfolding run_entries
with_event w k e first entries is recordable later =
    let now = (step w (k + 1) e).0 in
    let sent = sent_since w now in
    let format = w.rack.format in
    let rest = run_entries now (k + 1 + 1 + length sent) later.events in
    record {
      events = e ∷ later.events;
      recordable = (recordable, later.recordable);
      same =
          ap (λ xs. first ∷ xs) (later.same ∙ ap (λ xs. xs ++ rest) (sent_same format sent))
          ∙ ap (λ xs. xs ++ sent_entries format sent ++ rest) (sym is);
    }

placed :
    (w : World) (a b : ℕ) (unwritten : List Posted) (entries : List AuditEntry) → a ≡ b
    → IsRest w a unwritten entries → IsRest w b unwritten entries
placed w a b unwritten entries same is = subst (λ q. IsRest w q unwritten entries) same is

-- what is unwritten where the next packet is the one, or another
abbrev written :
    Bool → World → ℕ → ℕ → ℕ → Posted → List Posted → Auditor
written c w k m n next unwritten =
    let a : Audited =
    record {
      world = w;
      place = k + 1;
      event_place = m;
      events = n;
      unwritten = next ∷ unwritten;
      verdict = Yes;
    } in
    Judging (if c then record a { unwritten = unwritten } else unless_judged a (Other m))

sent_case :
    (c : Bool) (entries : List AuditEntry) (w w' : World) (k m n place : ℕ) (to to' : Node)
    (bytes bytes' : List ℕ) (unwritten : List Posted) (p : Played Auditor)
    → (is_node to' to && bytes_eq bytes' bytes) ≡ c → AllByRecursion IsBetween entries
    → IsBehindQuietly (written c w k m n (to', bytes') unwritten)
    (map Entry (entries ++ Ends ∷ [])) p
    → p.text ≡ audit_text Yes w'
    → ((t : ℕ) (q : Played Auditor)
    → played audits t (judged w (k + 1) m n unwritten Yes) (map Entry (entries ++ Ends ∷ []))
    ≡ Some q
    → q.text ≡ audit_text Yes w' → IsRest w place unwritten entries)
    → IsRest w place ((to', bytes') ∷ unwritten) (Sent to bytes ∷ entries)
sent_case true entries w w' k m n place to to' bytes bytes' unwritten p same between h text ih =
    let both = and_split (is_node to' to) (bytes_eq bytes' bytes) same in
    let nodes = node_same to' to both.0 in
    let spelling = (bytes_eq-Decides bytes' bytes).0 both.1 in
    let later = ih h.turns h.later h.played_later (h.text ∙ text) in
    let rest = map sent_of unwritten ++ run_entries w place later.events in
    record {
      events = later.events;
      recordable = later.recordable;
      same =
          ap (λ xs. Sent to bytes ∷ xs) later.same
          ∙ ap (λ a. Sent a bytes ∷ rest) (sym nodes)
          ∙ ap (λ b. Sent to' b ∷ rest) (sym spelling);
    }
sent_case false entries w w' k m n place to to' bytes bytes' unwritten p same between h text ih =
    absurd
    (no_stays entries (Other m) w w' (k + 1) m n h.turns ((to', bytes') ∷ unwritten) h.later between
    refl h.played_later (h.text ∙ text))

-- the least number under which it was sent
least_of :
    (w : World) (to : Node) (bytes : List ℕ) (number : ℕ)
    → number_of w.rack.format w.packets to bytes ≡ Some number
    → (item : Node × Packet) × (slice_get w.packets number ≡ Some item) × (item.0 ≡ to)
    × (spelling w.rack.format item.1 ≡ bytes)
least_of w to bytes number is =
    let f = found 0 w.rack.format w.packets to bytes number is in
    let same : f.at ≡ number = let here = f.number_is in omega (arith, here) in (
      f.item,
      subst (λ k. slice_get w.packets k ≡ Some f.item) same f.there,
      f.same_node,
      f.same_bytes,
    )

took_entry :
    (w : World) (to : Node) (bytes : List ℕ) (number pick : ℕ)
    → number_of w.rack.format w.packets to bytes ≡ Some number
    → event_entry w (event.Deliver number pick) ≡ Took to pick bytes ∷ []
took_entry w to bytes number pick is =
    let least = least_of w to bytes number is in
    ap (λ o. delivered_entry w.rack.format o pick) least.1
    ∙ ap (λ a. Took a pick (spelling w.rack.format least.0.1) ∷ []) least.2
    ∙ ap (λ b. Took to pick b ∷ []) least.3

took_recordable :
    (w : World) (to : Node) (bytes : List ℕ) (number pick : ℕ)
    → number_of w.rack.format w.packets to bytes ≡ Some number
    → IsRecordable w (event.Deliver number pick)
took_recordable w to bytes number pick is =
    let least = least_of w to bytes number is in
    subst (λ o. IsLeast w o number) (sym least.1)
    (subst
    (λ a. number_of w.rack.format w.packets a (spelling w.rack.format least.0.1) ≡ Some number)
    (sym least.2)
    (subst (λ b. number_of w.rack.format w.packets to b ≡ Some number) (sym least.3) is))

abbrev delivered : World → ℕ → ℕ → ℕ → World
delivered w k number pick = (step w (k + 1) (event.Deliver number pick)).0

took_case :
    (o : Option ℕ) (entries : List AuditEntry) (w w' : World) (k m n turns : ℕ) (to : Node)
    (pick : ℕ) (bytes : List ℕ) (p : Played Auditor)
    → number_of w.rack.format w.packets to bytes ≡ o → AllByRecursion IsBetween entries
    → played audits turns (judged w k m n [] Yes)
    (Entry (Took to pick bytes) ∷ map Entry (entries ++ Ends ∷ []))
    ≡ Some p
    → p.text ≡ audit_text Yes w'
    → ((number t : ℕ) (q : Played Auditor)
    → played audits t
    (judged (delivered w k number pick) (k + 1) (k + 1) (n + 1)
    (spelled w.rack.format (sent_since w (delivered w k number pick))) Yes)
    (map Entry (entries ++ Ends ∷ []))
    ≡ Some q
    → q.text ≡ audit_text Yes w'
    → IsRest (delivered w k number pick)
    (k + 1 + 1 + length (sent_since w (delivered w k number pick)))
    (spelled w.rack.format (sent_since w (delivered w k number pick))) entries)
    → IsRest w (k + 1) [] (Took to pick bytes ∷ entries)
took_case None entries w w' k m n turns to pick bytes p at between is text ih =
    let b : Audited =
    record {
      world = w;
      place = k + 1;
      event_place = k + 1;
      events = n;
      unwritten = [];
      verdict = Yes;
    } in
    let t = judged w (k + 1) (k + 1) n [] (Foreign (k + 1)) in
    let h =
    quietly_behind turns (judged w k m n [] Yes) t (Took to pick bytes)
    (map Entry (entries ++ Ends ∷ [])) p
    (λ came c. quiet_came (k == lines_most + 1) t came
    (subst
    (λ q. came_if true (if k == lines_most + 1 then Past else steps_taken q b pick) ≡ Some came)
    at c))
    is in
    absurd
    (no_stays entries (Foreign (k + 1)) w w' (k + 1) (k + 1) n h.turns [] h.later between refl
    h.played_later (h.text ∙ text))
took_case (Some number) entries w w' k m n turns to pick bytes p at between is text ih =
    let b : Audited =
    record {
      world = w;
      place = k + 1;
      event_place = k + 1;
      events = n;
      unwritten = [];
      verdict = Yes;
    } in
    let now = delivered w k number pick in
    let t =
    judged now (k + 1) (k + 1) (n + 1) (spelled w.rack.format (sent_since w now)) Yes in
    let h =
    quietly_behind turns (judged w k m n [] Yes) t (Took to pick bytes)
    (map Entry (entries ++ Ends ∷ [])) p
    (λ came c. quiet_came_of_two (k == lines_most + 1) (is_past_limits (n + 1) now) t came
    (subst
    (λ q. came_if true (if k == lines_most + 1 then Past else steps_taken q b pick) ≡ Some came)
    at c))
    is in
    with_event w k (event.Deliver number pick) (Took to pick bytes) entries
    (took_entry w to bytes number pick at) (took_recordable w to bytes number pick at)
    (ih number h.turns h.later h.played_later (h.text ∙ text))

only_records :
    (entries : List AuditEntry) (w w' : World) (k m n turns place : ℕ) (unwritten : List Posted)
    (p : Played Auditor) → place ≡ k + length unwritten + 1 → AllByRecursion IsBetween entries
    → played audits turns (judged w k m n unwritten Yes) (map Entry (entries ++ Ends ∷ []))
    ≡ Some p
    → p.text ≡ audit_text Yes w' → IsRest w place unwritten entries
unfolding run_entries
only_records [] w w' k m n turns place [] p at between is text =
    record { events = []; recordable = tt; same = refl }
only_records [] w w' k m n turns place (u ∷ unwritten) p at between is text =
    absurd
    (no_is_not_yes (Other m) w w' refl
    (sym
    (ended turns (judged w k m n (u ∷ unwritten) Yes) p
    (saying
    (Closed (record {
      world = w;
      place = k + 1;
      event_place = m;
      events = n;
      unwritten = u ∷ unwritten;
      verdict = Other m;
    }))
    (audit_text (Other m) w))
    refl is)
    ∙ text))
only_records (Named rack ∷ entries) w w' k m n turns place unwritten p at between is text =
    absurd between.0
only_records (Ends ∷ entries) w w' k m n turns place unwritten p at between is text =
    absurd between.0
only_records (Sent to bytes ∷ entries) w w' k m n turns place [] p at between is text =
    let t = judged w (k + 1) m n [] (Other m) in
    let h =
    quietly_behind turns (judged w k m n [] Yes) t (Sent to bytes)
    (map Entry (entries ++ Ends ∷ [])) p (λ came. quiet_came (k == lines_most + 1) t came) is in
    absurd
    (no_stays entries (Other m) w w' (k + 1) m n h.turns [] h.later between.1 refl h.played_later
    (h.text ∙ text))
only_records (Sent to bytes ∷ entries) w w' k m n turns place ((to', bytes') ∷ unwritten) p at
    between is text =
    let c = is_node to' to && bytes_eq bytes' bytes in
    let t = written c w k m n (to', bytes') unwritten in
    sent_case c entries w w' k m n place to to' bytes bytes' unwritten p refl between.1
    (quietly_behind turns (judged w k m n ((to', bytes') ∷ unwritten) Yes) t (Sent to bytes)
    (map Entry (entries ++ Ends ∷ [])) p (λ came. quiet_came (k == lines_most + 1) t came) is)
    text
    (λ t q. only_records entries w w' (k + 1) m n t place unwritten q (omega (arith, at)) between.1)
only_records (Happens e ∷ entries) w w' k m n turns place [] p at between is text =
    let now = (step w (k + 1) e).0 in
    let sent = sent_since w now in
    let t = judged now (k + 1) (k + 1) (n + 1) (spelled w.rack.format sent) Yes in
    let h =
    quietly_behind turns (judged w k m n [] Yes) t (Happens e) (map Entry (entries ++ Ends ∷ [])) p
    (λ came. quiet_came_of_two (k == lines_most + 1) (is_past_limits (n + 1) now) t came) is in
    let size = spelled_length w.rack.format sent in
    let later =
    only_records entries now w' (k + 1) (k + 1) (n + 1) h.turns (k + 1 + 1 + length sent)
    (spelled w.rack.format sent) h.later (omega (arith, size)) between.1 h.played_later
    (h.text ∙ text) in
    placed w (k + 1) place [] (Happens e ∷ entries) (omega (arith, at))
    (with_event w k e (Happens e) entries (own_entry w e between.0)
    (own_recordable w e between.0) later)
only_records (Happens e ∷ entries) w w' k m n turns place (u ∷ unwritten) p at between is text =
    let t = judged w (k + 1) (k + 1) n (u ∷ unwritten) (Other m) in
    let h =
    quietly_behind turns (judged w k m n (u ∷ unwritten) Yes) t (Happens e)
    (map Entry (entries ++ Ends ∷ [])) p (λ came. quiet_came (k == lines_most + 1) t came) is in
    absurd
    (no_stays entries (Other m) w w' (k + 1) (k + 1) n h.turns (u ∷ unwritten) h.later between.1
    refl h.played_later (h.text ∙ text))
only_records (Took to pick bytes ∷ entries) w w' k m n turns place [] p at between is text =
    placed w (k + 1) place [] (Took to pick bytes ∷ entries) (omega (arith, at))
    (took_case (number_of w.rack.format w.packets to bytes) entries w w' k m n turns to pick bytes p
    refl between.1 is text
    (λ number t q.
    let now = delivered w k number pick in
    let size = spelled_length w.rack.format (sent_since w now) in
    only_records entries now w' (k + 1) (k + 1) (n + 1) t
    (k + 1 + 1 + length (sent_since w now)) (spelled w.rack.format (sent_since w now)) q
    (omega (arith, size)) between.1))
only_records (Took to pick bytes ∷ entries) w w' k m n turns place (u ∷ unwritten) p at between is
    text =
    let t = judged w (k + 1) (k + 1) n (u ∷ unwritten) (Other m) in
    let h =
    quietly_behind turns (judged w k m n (u ∷ unwritten) Yes) t (Took to pick bytes)
    (map Entry (entries ++ Ends ∷ [])) p (λ came. quiet_came (k == lines_most + 1) t came) is in
    absurd
    (no_stays entries (Other m) w w' (k + 1) (k + 1) n h.turns (u ∷ unwritten) h.later between.1
    refl h.played_later (h.text ∙ text))

-- ---- the whole

not_missing :
    (o : Option (Played Auditor)) (P : Played Auditor → Type 0)
    → ((p : Played Auditor) → o ≡ Some p → P p) → IfSome o P
not_missing None P each = tt
not_missing (Some p) P each = each p refl

pub takes_no_other :
    (rack : Rack) (entries : List AuditEntry) (w : World) → AllByRecursion IsBetween entries
    → IfSome (audit_of (Named rack ∷ entries ++ Ends ∷ []))
    (λ p. p.text ≡ audit_text Yes w
    → (events : List Event) × AreRecordable (start rack []) 2 events
    × (entries ≡ run_entries (start rack []) 2 events))
takes_no_other rack entries w between =
    not_missing (audit_of (Named rack ∷ entries ++ Ends ∷ []))
    (λ p. p.text ≡ audit_text Yes w
    → (events : List Event) × AreRecordable (start rack []) 2 events
    × (entries ≡ run_entries (start rack []) 2 events))
    (λ p is text.
    let t = judged (start rack []) 1 0 0 [] Yes in
    let h =
    quietly_behind 0 Opening t (Named rack) (map Entry (entries ++ Ends ∷ [])) p
    (λ came c. ap (λ o. unwrap_or o (quietly t)) c) is in
    let r =
    only_records entries (start rack []) w 1 0 0 h.turns 2 [] h.later (omega arith) between
    h.played_later (h.text ∙ text) in
    (r.events, r.recordable, r.same))
