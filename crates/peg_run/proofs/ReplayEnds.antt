-- How the session of a replay ended, as `run` says it.
use Rattle.std.proofs.Common.{◌≡◌, ◌≤◌, ◌<◌, ◌+◌, ℕ, Bool, true, false, Option}
use Rattle.std.proofs.Common.{List, [], ◌++◌, length, codes, refl, sym, ap}
use Rattle.std.proofs.Common.{◌∙◌, subst, arith, append_assoc, inl, inr}
use Rattle.std.specs.Prelude.{if◌then◌else◌}
use Rattle.peg_name.specs.Name.{Rack, line_most}
use Rattle.peg_event.specs.declared.Event.{Event}
use Rattle.peg_model.specs.World.{history}
use Rattle.peg_model.specs.Order.{orders}
use Rattle.peg_model.specs.Schedule.{IsEventLine, fed}
use Rattle.peg_model.specs.Trace.{line_text}
use Rattle.peg_io.specs.Outside.{Tells, Appends, WritesSome, Rose}
use Rattle.peg_meaning.specs.Wire.{Carried}
use Rattle.peg_io.specs.Lines.{line_of, past_line, HasNoFeed, AreFed}
use Rattle.peg_run.specs.Front.{Front, NoLine, Lines, ran, text_of, count_of, limit_of}
use Rattle.peg_run.specs.Front.{IsWithin, AreSpelled, IsRead, IsRefused, HasSchedule}
use Rattle.peg_session.specs.Pages.{AppendsPart, AppendsMore}
use Rattle.peg_session.specs.Ends.{IsNear}
use Rattle.peg_run.specs.Ends.{Ended, HasCause, IsNearLine, IsNearUnwritten}
use Rattle.peg_run.specs.Ends.{IsNearBad, IsCut}
use Rattle.peg_run.specs.declared.Status.TheVariants as status
use Rattle.peg_io.proofs.Telling.{Tells_as}
use Rattle.peg_run.proofs.Runs.{whole_text}
use Rattle.peg_run.proofs.Fronts.{forced_is_read}
use Rattle.peg_run.proofs.Schedules.{past_has_none, refused_has_none, first_has_none}
use Rattle.peg_run.proofs.Limits.{past_more}
use Rattle.peg_meaning.specs.Session as session
use Rattle.peg_meaning.specs.Session.{Inputs, More, Input, after}
use Rattle.peg_meaning.specs.Session.{state_of, lines_of}
use Rattle.peg_session.specs.Ends as ends
use Rattle.peg_meaning.specs.ReplayWord.{ReplayWord, Starting, Running, Finished, ReplayEntry}
use Rattle.peg_meaning.specs.ReplayWord.{Named, Happens, Ends, Ran, stepped, is_past}
use Rattle.peg_meaning.specs.ReplayWord.{IsReplayLine, replay_want, replay_on, replays}
use Rattle.peg_meaning.specs.ReplayWord.{replay_start, says, end_text}
use Rattle.peg_run.specs.Status.{status_of}
use Rattle.peg_session.specs.Ends.{told, MayEnd}
use Rattle.peg_meaning.specs.Session.{IsTaken, IsWanted}
use Rattle.peg_meaning.specs.declared.Want.TheVariants as want
use Rattle.peg_session.specs.declared.End as ending
use Rattle.peg_session.specs.declared.End.TheVariants as end
use Rattle.peg_run.proofs.Replayed.{Played, ReadsOn}
use Rattle.peg_run.proofs.Replayed.{only_event, event_fits, limit_in, spelled_more}
use Rattle.peg_run.proofs.Replayed.{no_turn, no_datagram, no_step, played}
use Rattle.peg_run.proofs.Unwired as unwired

-- ---- the ends

module _ (l l' h h' : Option (List ℕ)) where
  cut_of :
      (W : List ℕ → List ℕ → List ℕ → Type 0) (s : ReplayWord) (text : List ℕ) (lines : ℕ)
      (R : List ℕ → List ℕ → Type 0) → Played s text lines R
      → Tells l l' (λ input rest. (tail : List ℕ) × R input tail)
      → Tells h h' (W text) → IsCut W l l' h h'
  cut_of W Starting text lines R none read written =
      record {
        front = NoLine;
        spelled = tt;
        within = tt;
        is_ended = false;
        read =
            Tells_as l l' (λ input rest. (tail : List ℕ) × R input tail)
            (λ input rest. (tail : List ℕ) × IsRead NoLine input tail
            × (false ≡ true → line_of tail ≡ codes "end"))
            (λ b n is. (is.0, none.2 b is.0 is.1, (λ no. absurd (cc)))) read;
        written = subst (λ xs. Tells h h' (W xs)) none.0 written;
      }
  cut_of W (Running rack keys r) text lines R at read written =
      record {
        front = Lines rack keys at.events;
        spelled = at.spelled;
        within = at.within;
        is_ended = false;
        read =
            Tells_as l l' (λ input rest. (tail : List ℕ) × R input tail)
            (λ input rest. (tail : List ℕ) × IsRead (Lines rack keys at.events) input tail
            × (false ≡ true → line_of tail ≡ codes "end"))
            (λ b n is. (
              is.0,
              forced_is_read rack keys at.events b is.0 (at.forced b is.0 is.1),
              (λ no. absurd (cc)),
            )) read;
        written = subst (λ xs. Tells h h' (W xs)) at.is_text written;
      }
  cut_of W (Finished rack keys r) text lines R at read written =
      record {
        front = Lines rack keys at.events;
        spelled = at.spelled;
        within = at.within;
        is_ended = true;
        read =
            Tells_as l l' (λ input rest. (tail : List ℕ) × R input tail)
            (λ input rest. (tail : List ℕ) × IsRead (Lines rack keys at.events) input tail
            × (true ≡ true → line_of tail ≡ codes "end"))
            (λ b n is. let f = at.forced b is.0 is.1 in (
              f.0,
              forced_is_read rack keys at.events b f.0 f.1,
              (λ _. f.2),
            )) read;
        written = subst (λ xs. Tells h h' (W xs)) at.is_text written;
      }

  near_of :
      (s : ReplayWord) (text : List ℕ) (lines : ℕ) (R : List ℕ → List ℕ → Type 0)
      → Played s text lines R
      → Tells l l'
      (λ input rest. (tail : List ℕ) × R input tail × ends.IsNext (replay_want s) tail rest)
      → Tells h h' (AppendsMore text) → IsNearUnwritten l l' h h'
  near_of Starting text lines R none near written =
      record {
        front = NoLine;
        spelled = tt;
        near =
            Tells_as l l'
            (λ input rest. (tail : List ℕ) × R input tail × IsNear (past_line tail) rest)
            (IsNearLine NoLine) (λ b n is. (is.0, none.2 b is.0 is.1, is.2)) near;
        written = subst (λ xs. Tells h h' (AppendsMore xs)) none.0 written;
      }
  near_of (Running rack keys r) text lines R at near written =
      record {
        front = Lines rack keys at.events;
        spelled = at.spelled;
        near =
            Tells_as l l'
            (λ input rest. (tail : List ℕ) × R input tail × IsNear (past_line tail) rest)
            (IsNearLine (Lines rack keys at.events))
            (λ b n is. (
              is.0,
              forced_is_read rack keys at.events b is.0 (at.forced b is.0 is.1),
              is.2,
            )) near;
        written = subst (λ xs. Tells h h' (AppendsMore xs)) at.is_text written;
      }
  near_of (Finished rack keys r) text lines R at near written =
      let t = text_of (Lines rack keys at.events) in
      let e = end_text (length at.events + 2) (history (ran rack keys at.events).0)
      (orders (ran rack keys at.events).0) in
      record {
        front = Lines rack keys at.events;
        spelled = at.spelled;
        near =
            Tells_as l l'
            (λ input rest. (tail : List ℕ) × R input tail × IsNear tail rest)
            (IsNearLine (Lines rack keys at.events))
            (λ b n is. let f = at.forced b is.0 is.1 in (
              f.0,
              forced_is_read rack keys at.events b f.0 f.1,
              subst (λ xs. IsNear xs n) f.3 is.2,
            )) near;
        written =
            Tells_as h h' (AppendsMore text) (AppendsMore t)
            (λ b n more. (
              e ++ more.0,
              more.1 ∙ ap (λ xs. b ++ (xs ++ more.0)) (at.is_text ∙ whole_text rack keys at.events)
                  ∙ ap (λ xs. b ++ xs) (append_assoc t e more.0),
            )) written;
      }

  done_of :
      (s : ReplayWord) (text : List ℕ) (lines : ℕ) (R : List ℕ → List ℕ → Type 0)
      → Played s text lines R → MayEnd (replay_want s)
      → Tells l l' (λ input rest. (tail : List ℕ) × R input tail
      × ends.IsEnd (replay_want s) tail × IsNear tail rest)
      → Tells h h' (Appends text) → Ended status.Done l l' h h'
  done_of Starting text lines R at may read written = absurd (cc may)
  done_of (Running rack keys r) text lines R at may read written = absurd (cc may)
  done_of (Finished rack keys r) text lines R at may read written = (
    record {
      rack = rack;
      keys = keys;
      events = at.events;
      spelled = at.spelled;
      within = at.within;
      read =
          Tells_as l l' (λ input rest. (tail : List ℕ) × R input tail × Unit {0} × IsNear tail rest)
          (λ input rest. (tail : List ℕ) × IsRead (Lines rack keys at.events) input tail
          × (line_of tail ≡ codes "end"))
          (λ b n is. let f = at.forced b is.0 is.1 in
          (f.0, forced_is_read rack keys at.events b f.0 f.1, f.2)) read;
      written = subst (λ xs. Tells h h' (Appends xs)) at.is_text written;
    },
    record {
      front = Lines rack keys at.events;
      near =
          Tells_as l l' (λ input rest. (tail : List ℕ) × R input tail × Unit {0} × IsNear tail rest)
          (λ input rest. (tail : List ℕ) × IsRead (Lines rack keys at.events) input tail
          × (line_of tail ≡ codes "end") × IsNear (past_line tail) rest)
          (λ b n is. let f = at.forced b is.0 is.1 in (
            f.0,
            forced_is_read rack keys at.events b f.0 f.1,
            f.2,
            subst (λ xs. IsNear xs n) f.3 is.3,
          )) read;
    },
  )

  unread_of :
      (s : ReplayWord) (text : List ℕ) (lines : ℕ) (R : List ℕ → List ℕ → Type 0)
      → Played s text lines R → (limit : ℕ) (optional : Bool)
      → replay_want s ≡ want.Line limit optional
      → Tells l l' (λ input rest. (part : List ℕ) × R input (part ++ rest) × HasNoFeed part)
      → Tells l l' (λ input rest. AreFed lines input)
      → Tells h h' (Appends text) → Ended status.ReadFault l l' h h'
  unread_of Starting text lines R none limit optional wants read fed written =
      record {
        front = NoLine;
        spelled = tt;
        within = tt;
        read =
            Tells_as l l'
            (λ input rest. (part : List ℕ) × R input (part ++ rest) × HasNoFeed part)
            (λ input rest. (part : List ℕ) × IsRead NoLine input (part ++ rest) × HasNoFeed part)
            (λ b n is. (is.0, none.2 b (is.0 ++ n) is.1, is.2)) read;
        fed = subst (λ n. Tells l l' (λ input rest. AreFed n input)) none.1 fed;
        written = subst (λ xs. Tells h h' (Appends xs)) none.0 written;
      }
  unread_of (Running rack keys r) text lines R at limit optional wants read fed written =
      record {
        front = Lines rack keys at.events;
        spelled = at.spelled;
        within = at.within;
        read =
            Tells_as l l'
            (λ input rest. (part : List ℕ) × R input (part ++ rest) × HasNoFeed part)
            (λ input rest. (part : List ℕ) × IsRead (Lines rack keys at.events) input (part ++ rest)
            × HasNoFeed part)
            (λ b n is. (
              is.0,
              forced_is_read rack keys at.events b (is.0 ++ n) (at.forced b (is.0 ++ n) is.1),
              is.2,
            )) read;
        fed = subst (λ n. Tells l l' (λ input rest. AreFed n input)) at.place fed;
        written = subst (λ xs. Tells h h' (Appends xs)) at.is_text written;
      }
  unread_of (Finished rack keys r) text lines R at limit optional wants read fed written =
      absurd (cc wants)

  -- the line behind these
  abbrev Refusal : ReplayWord → ℕ → Bool → (List ℕ → List ℕ → Type 0) → List ℕ → List ℕ → Type 0
  Refusal s limit optional R input rest =
      (tail : List ℕ) × R input tail × ends.IsRefused replays s limit optional tail
      × ends.IsNearRefused limit tail rest

  refused_first :
      (limit : ℕ) (optional : Bool) (tail : List ℕ) → limit ≡ 2048
      → ends.IsRefused replays Starting limit optional tail → IsRefused NoLine tail
  refused_first limit optional tail is (inl none) = inl none.0
  refused_first limit optional tail is (inr (inl long)) =
      inr (inl (subst (λ n. n < length (line_of tail)) is long))
  refused_first limit optional tail is (inr (inr refused)) =
      inr (inr (λ rack keys line. refused.1 (Named rack keys) line))

  refused_later :
      (rack : Rack) (keys : List (List ℕ)) (r : Ran) (events : List Event) (limit : ℕ)
      (optional : Bool) (tail : List ℕ) → limit ≡ line_most rack.format
      → ends.IsRefused replays (Running rack keys r) limit optional tail
      → IsRefused (Lines rack keys events) tail
  refused_later rack keys r events limit optional tail is (inl none) = inl none.0
  refused_later rack keys r events limit optional tail is (inr (inl long)) =
      inr (inl (subst (λ n. n < length (line_of tail)) is long))
  refused_later rack keys r events limit optional tail is (inr (inr refused)) =
      inr (inr ((λ ended. refused.1 Ends ended), (λ e line. refused.1 (Happens e) line)))

  -- the first line that isn't accepted, behind this front
  bad_at :
      (front : Front) (line : ℕ) (text : List ℕ) (limit : ℕ) (T : List ℕ → List ℕ → Type 0)
      → line ≡ count_of front + 1 → AreSpelled front → IsWithin front → text ≡ text_of front
      → limit ≡ limit_of front
      → ((b n : List ℕ) → T b n → (tail : List ℕ) × IsRead front b tail × IsRefused front tail
      × ends.IsNearRefused limit tail n)
      → ((b n : List ℕ) → T b n → HasSchedule b → ⊥)
      → Tells l l' T → Tells h h' (Appends text) → Ended (status.BadInput line) l l' h h'
  bad_at front line text limit T place spelled within is_text is_limit reads none told written = (
    record {
      front = front;
      place = place;
      spelled = spelled;
      within = within;
      read =
          Tells_as l l' T
          (λ input rest. (tail : List ℕ) × IsRead front input tail × IsRefused front tail)
          (λ b n t. let is = reads b n t in (is.0, is.1, is.2)) told;
      written = subst (λ xs. Tells h h' (Appends xs)) is_text written;
    },
    record {
      front = front;
      place = place;
      near =
          Tells_as l l' T (IsNearBad front)
          (λ b n t. let is = reads b n t in
          let near = subst (λ k. ends.IsNearRefused k is.0 n) is_limit is.3 in
          (is.0, is.1, near.0, near.1)) told;
    },
    Tells_as l l' T (λ input rest. HasSchedule input → ⊥) none told,
  )

  bad_of :
      (s : ReplayWord) (line : ℕ) (text : List ℕ) (lines : ℕ) (R : List ℕ → List ℕ → Type 0)
      → Played s text lines R → (limit : ℕ) (optional : Bool)
      → replay_want s ≡ want.Line limit optional → line ≡ lines + 1
      → Tells l l' (Refusal s limit optional R) → Tells h h' (Appends text)
      → Ended (status.BadInput line) l l' h h'
  unfolding limit_in
  bad_of Starting line text lines R none limit optional wants place read written =
      let limit_is : limit ≡ 2048 = sym (ap limit_in wants) in
      bad_at NoLine line text limit (Refusal Starting limit optional R)
      (omega (arith, place, none.1)) tt tt none.0 limit_is
      (λ b n t. (t.0, none.2 b t.0 t.1, refused_first limit optional t.0 limit_is t.2, t.3))
      (λ b n t has. first_has_none b
      (subst (IsRefused NoLine) (sym (none.2 b t.0 t.1))
      (refused_first limit optional t.0 limit_is t.2)) has)
      read written
  bad_of (Running rack keys r) line text lines R at limit optional wants place read written =
      let limit_is : limit ≡ line_most rack.format = sym (ap limit_in wants) in
      bad_at (Lines rack keys at.events) line text limit
      (Refusal (Running rack keys r) limit optional R)
      (omega (arith, place, at.place)) at.spelled at.within at.is_text limit_is
      (λ b n t. (
        t.0,
        forced_is_read rack keys at.events b t.0 (at.forced b t.0 t.1),
        refused_later rack keys r at.events limit optional t.0 limit_is t.2,
        t.3,
      ))
      (λ b n t has. refused_has_none rack keys at.events b t.0 (at.forced b t.0 t.1)
      (refused_later rack keys r at.events limit optional t.0 limit_is t.2) has)
      read written
  bad_of (Finished rack keys r) line text lines R at limit optional wants place read written =
      absurd (cc wants)

  -- ---- past a limit

  is_past_of :
      (b : Bool) (s : ReplayWord) (text : List ℕ)
      → (if b then session.Past else says s text) ≡ session.Past → b ≡ true
  is_past_of true s text e = refl
  is_past_of false s text e = absurd (cc e)

  past_of :
      (s : ReplayWord) (says : ReplayEntry) (line : ℕ) (text : List ℕ) (lines : ℕ)
      (R : List ℕ → List ℕ → Type 0) → Played s text lines R → (some : List ℕ)
      → IsReplayLine s some says
      → replay_on s (session.Entry says) ≡ session.Past → line ≡ lines + 1
      → Tells l l' (λ input rest. (tail : List ℕ) × ReadsOn s says R input tail × IsNear tail rest)
      → Tells h h' (Appends text) → Ended (status.TooMuch line) l l' h h'
  past_of Starting (Named rack keys) line text lines R at some reads past place read written =
      absurd (cc past)
  past_of Starting (Happens e) line text lines R at some reads past place read written =
      absurd reads
  past_of Starting Ends line text lines R at some reads past place read written = absurd reads
  past_of (Running rack keys r) (Named rack' keys') line text lines R at some reads past place read
      written =
      absurd reads
  past_of (Running rack keys r) Ends line text lines R at some reads past place read written =
      absurd (cc past)
  past_of (Running rack keys r) (Happens e) line text lines R at some reads past place read written =
      let s = Running rack keys r in
      let T : List ℕ → List ℕ → Type 0 =
      λ input rest. (tail : List ℕ) × ReadsOn s (Happens e) R input tail × IsNear tail rest in
      let is : is_past r e ≡ true =
      is_past_of (is_past r e) (Running rack keys (stepped r e).0)
      (fed (line_text (r.events + 2) (stepped r e).1)) past in
      let over = past_more rack keys at.events e
      (subst (λ (q : Ran). is_past q e ≡ true) at.is_world is) in (
        record {
          rack = rack;
          keys = keys;
          events = at.events;
          e = e;
          place = omega (arith, place, at.place);
          spelled = spelled_more rack keys at.events e some at.spelled reads;
          within = at.within;
          past = over;
          read =
              Tells_as l l' T
              (λ input rest. (tail : List ℕ) × IsRead (Lines rack keys at.events) input tail
              × IsEventLine rack (line_of tail) e
              × (length (line_of tail) ≤ line_most rack.format))
              (λ b n t. (
                t.1.0,
                forced_is_read rack keys at.events b t.1.0 (at.forced b t.1.0 t.1.1),
                t.1.2.1.only.is,
                event_fits rack keys r (line_of t.1.0) e t.1.2.1,
              )) read;
          written = subst (λ xs. Tells h h' (Appends xs)) at.is_text written;
        },
        record {
          front = Lines rack keys at.events;
          place = omega (arith, place, at.place);
          near =
              Tells_as l l' T (IsNearLine (Lines rack keys at.events))
              (λ b n t. (
                t.1.0,
                forced_is_read rack keys at.events b t.1.0 (at.forced b t.1.0 t.1.1),
                subst (λ xs. IsNear xs n) t.1.2.2 t.2,
              )) read;
        },
        Tells_as l l' T (λ input rest. HasSchedule input → ⊥)
            (λ b n t. past_has_none rack keys at.events e b t.1.0 (at.forced b t.1.0 t.1.1)
            (only_event rack keys r (line_of t.1.0) e t.1.2.1) over) read,
      )
  past_of (Finished rack keys r) says line text lines R at some reads past place read written =
      absurd reads

-- ---- nothing is bound

event_unbound :
    (b : Bool) (s s' : ReplayWord) (text : List ℕ)
    → (after s (if b then session.Past else says s' text)).binds ≡ []
event_unbound true s s' text = refl
event_unbound false s s' text = refl

unbound : (s : ReplayWord) (x : Input ReplayEntry) → (after s (replay_on s x)).binds ≡ []
unbound Starting (session.Entry (Named rack keys)) = refl
unbound Starting (session.Entry (Happens e)) = refl
unbound Starting (session.Entry Ends) = refl
unbound Starting (session.Datagram bytes) = refl
unbound Starting session.Quiet = refl
unbound Starting session.Tick = refl
unbound (Running rack keys r) (session.Entry (Named rack' keys')) = refl
unbound (Running rack keys r) (session.Entry (Happens e)) =
    event_unbound (is_past r e) (Running rack keys r) (Running rack keys (stepped r e).0)
    (fed (line_text (r.events + 2) (stepped r e).1))
unbound (Running rack keys r) (session.Entry Ends) = refl
unbound (Running rack keys r) (session.Datagram bytes) = refl
unbound (Running rack keys r) session.Quiet = refl
unbound (Running rack keys r) session.Tick = refl
unbound (Finished rack keys r) x = refl

-- ---- the whole

module _ (l l' h h' : Option (List ℕ)) (c c' : Option Carried) (n n' : ℕ) where
  past_from :
      (inputs : Inputs ReplayEntry) (x : Input ReplayEntry) (line : ℕ)
      → IsTaken replays replay_start inputs
      → IsWanted replays (state_of replays replay_start inputs) x
      → replay_on (state_of replays replay_start inputs) x ≡ session.Past
      → line ≡ lines_of (More inputs x)
      → Tells l l'
      (λ input rest. (tail : List ℕ)
      × ends.IsRead replays replay_start (More inputs x) input tail × IsNear tail rest)
      → Tells h h' (Appends (session.text_of replays replay_start inputs))
      → Ended (status.TooMuch line) l l' h h'
  past_from inputs (session.Entry says) line taken wanted past place read written =
      past_of l l' h h' (state_of replays replay_start inputs) says line
      (session.text_of replays replay_start inputs) (lines_of inputs)
      (ends.IsRead replays replay_start inputs) (played inputs taken) wanted.0
      wanted.1.only.is past place read written
  past_from inputs (session.Datagram bytes) line taken wanted past place read written =
      absurd (no_datagram (state_of replays replay_start inputs) (length bytes) wanted)
  past_from inputs session.Quiet line taken wanted past place read written =
      absurd (no_turn (state_of replays replay_start inputs) wanted)
  past_from inputs session.Tick line taken wanted past place read written =
      absurd (no_step (state_of replays replay_start inputs) wanted)

  pub ended_as_replay :
      (e : ending.End) → ends.Ended replays replay_start (told l h c n) (told l' h' c' n') e
      → Ended (status_of e) l l' h h'
  ended_as_replay end.Done done =
      done_of l l' h h' (state_of replays replay_start done.inputs)
      (session.text_of replays replay_start done.inputs) (lines_of done.inputs)
      (ends.IsRead replays replay_start done.inputs) (played done.inputs done.taken) done.over
      done.read done.written
  ended_as_replay end.OutOfMemory cut =
      cut_of l l' h h' AppendsPart (state_of replays replay_start cut.inputs)
      (session.text_of replays replay_start cut.inputs) (lines_of cut.inputs)
      (ends.IsRead replays replay_start cut.inputs) (played cut.inputs cut.taken)
      cut.read cut.written
  ended_as_replay end.ReadFault part =
      unread_of l l' h h' (state_of replays replay_start part.inputs)
      (session.text_of replays replay_start part.inputs) (lines_of part.inputs)
      (ends.IsRead replays replay_start part.inputs) (played part.inputs part.taken)
      part.limit part.optional part.wanted part.read part.fed part.written
  ended_as_replay end.WriteFault ended = (
    cut_of l l' h h' WritesSome (state_of replays replay_start ended.0.inputs)
        (session.text_of replays replay_start ended.0.inputs) (lines_of ended.0.inputs)
        (ends.IsRead replays replay_start ended.0.inputs)
        (played ended.0.inputs ended.0.taken) ended.0.read ended.0.written,
    near_of l l' h h' (state_of replays replay_start ended.1.front)
        (session.text_of replays replay_start ended.1.front) (lines_of ended.1.front)
        (ends.IsRead replays replay_start ended.1.front)
        (played ended.1.front ended.1.taken) ended.1.near ended.1.written,
  )
  ended_as_replay end.WireFault unheard =
      absurd
      (unwired.unheard replays replay_start no_turn unbound refl (told l h c n) (told l' h' c' n')
      unheard)
  ended_as_replay (end.BadInput line) bad =
      bad_of l l' h h' (state_of replays replay_start bad.inputs) line
      (session.text_of replays replay_start bad.inputs) (lines_of bad.inputs)
      (ends.IsRead replays replay_start bad.inputs) (played bad.inputs bad.taken)
      bad.limit bad.optional bad.wanted bad.place bad.read bad.written
  ended_as_replay (end.TooMuch line) past =
      past_from past.inputs past.x line past.taken past.wanted past.past past.place past.read
      past.written

-- ---- causes

pub cause_of :
    (e : ending.End) (reads reads' writes writes' : ℕ)
    → (e ≡ end.ReadFault → Rose reads reads') → (e ≡ end.WriteFault → Rose writes writes')
    → HasCause (status_of e) reads reads' writes writes'
cause_of end.ReadFault reads reads' writes writes' read write = read refl
cause_of end.WriteFault reads reads' writes writes' read write = write refl
cause_of end.Done reads reads' writes writes' read write = tt
cause_of end.OutOfMemory reads reads' writes writes' read write = tt
cause_of end.WireFault reads reads' writes writes' read write = tt
cause_of (end.BadInput line) reads reads' writes writes' read write = tt
cause_of (end.TooMuch line) reads reads' writes writes' read write = tt
