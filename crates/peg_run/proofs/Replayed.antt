-- What a replay took, by where it stands.
use Rattle.std.proofs.Common.{◌≡◌, ◌≤◌, ◌+◌, ℕ, Bool, true, false}
use Rattle.std.proofs.Common.{List, [], ◌∷◌, ◌++◌, length, codes, refl, sym, ap}
use Rattle.std.proofs.Common.{◌∙◌, subst, arith}
use Rattle.std.specs.Prelude.{if◌then◌else◌}
use Rattle.peg_name.specs.Name.{Rack, line_most}
use Rattle.peg_event.specs.declared.Event.{Event}
use Rattle.peg_model.specs.World.{history, run}
use Rattle.peg_model.specs.Order.{orders}
use Rattle.peg_model.specs.Schedule.{IsRackLine, IsEventLine, fed}
use Rattle.peg_model.specs.Trace.{line_text}
use Rattle.peg_law.specs.Lines.{IsLine}
use Rattle.peg_io.specs.Lines.{line_of, past_line}
use Rattle.peg_run.specs.Front.{Lines, text_of, whole_of}
use Rattle.peg_run.specs.Front.{IsWithin, AreSpelled}
use Rattle.peg_run.specs.Forced.{reached, IsOnlyRack, IsOnlyEvent, IsForced}
use Rattle.peg_run.proofs.Runs.{reached_more, text_more, whole_text, length_more}
use Rattle.peg_run.proofs.Fronts.{all_more, forced_more}
use Rattle.peg_run.proofs.Limits.{within_more}
use Rattle.peg_meaning.specs.Session as session
use Rattle.peg_meaning.specs.Session.{Inputs, Begin, More, Came, Answer, after}
use Rattle.peg_meaning.specs.Session.{state_of, lines_of}
use Rattle.peg_meaning.specs.Session.{Spells, IsTurn, IsStep}
use Rattle.peg_session.specs.Ends as ends
use Rattle.peg_meaning.specs.ReplayWord.{ReplayWord, Starting, Running, Finished, ReplayEntry}
use Rattle.peg_meaning.specs.ReplayWord.{Named, Happens, Ends, Ran, started, stepped, is_past}
use Rattle.peg_meaning.specs.ReplayWord.{IsReplayLine, replay_want, replay_on, replays}
use Rattle.peg_meaning.specs.ReplayWord.{replay_start, says, end_text}
use Rattle.peg_session.specs.Ends.{IsReadBy}
use Rattle.peg_meaning.specs.Session.{IsTaken, DoesGo}
use Rattle.peg_meaning.specs.declared.Want.{Want}
use Rattle.peg_meaning.specs.declared.Want.TheVariants as want

-- ---- what was taken, by where it stands. R says which input begins with it, and what is past it

-- between two lines: these events
pub record IsAlong (rack : Rack) (keys : List (List ℕ)) (r : Ran) (text : List ℕ) (lines : ℕ)
    (R : List ℕ → List ℕ → Type 0) : Type 0 where
  pub events : List Event
  pub is_world : r ≡ reached rack keys events
  pub within : IsWithin (Lines rack keys events)
  pub spelled : AreSpelled (Lines rack keys events)
  pub is_text : text ≡ text_of (Lines rack keys events)
  pub place : lines ≡ length events + 1
  pub forced : (input tail : List ℕ) → R input tail → IsForced rack keys events input tail

-- behind the line end
pub record IsOver (rack : Rack) (keys : List (List ℕ)) (text : List ℕ) (lines : ℕ)
    (R : List ℕ → List ℕ → Type 0) : Type 0 where
  pub events : List Event
  pub within : IsWithin (Lines rack keys events)
  pub spelled : AreSpelled (Lines rack keys events)
  pub is_text : text ≡ whole_of (Lines rack keys events)
  pub place : lines ≡ length events + 2
  pub forced : (input tail : List ℕ) → R input tail
      → (mid : List ℕ) × IsForced rack keys events input mid × (line_of mid ≡ codes "end")
      × (tail ≡ past_line mid)

abbrev pub Played : ReplayWord → List ℕ → ℕ → (List ℕ → List ℕ → Type 0) → Type 0
Played Starting text lines R =
    (text ≡ []) × (lines ≡ 0) × ((input tail : List ℕ) → R input tail → input ≡ tail)
Played (Running rack keys r) text lines R = IsAlong rack keys r text lines R
Played (Finished rack keys r) text lines R = IsOver rack keys text lines R

abbrev pub PlayedOn : ReplayWord → Answer ReplayWord → List ℕ → ℕ → (List ℕ → List ℕ → Type 0) → Type 0
PlayedOn s a text lines R = Played (after s a).state (text ++ (after s a).text) lines R

-- one line more is read
abbrev pub ReadsOn : ReplayWord → ReplayEntry → (List ℕ → List ℕ → Type 0) → List ℕ → List ℕ → Type 0
ReadsOn s says R input tail =
    (mid : List ℕ) × R input mid × IsReadBy replays s (session.Entry says) mid tail

pub only_rack :
    (line : List ℕ) (rack : Rack) (keys : List (List ℕ))
    → Spells replays Starting line (Named rack keys) → IsOnlyRack line rack keys
only_rack line rack keys spells =
    record {
      is = spells.only.is;
      only = λ r k is.
          let e : Named r k ≡ Named rack keys = spells.only.only (Named r k) is in
          (cc e, cc e);
    }

pub only_event :
    (rack : Rack) (keys : List (List ℕ)) (r : Ran) (line : List ℕ) (e : Event)
    → Spells replays (Running rack keys r) line (Happens e) → IsOnlyEvent rack line e
only_event rack keys r line e spells =
    record {
      is = spells.only.is;
      only = λ other is.
          let eq : Happens other ≡ Happens e = spells.only.only (Happens other) is in cc eq;
      no_end = λ ended.
          let eq : Ends ≡ Happens e = spells.only.only Ends ended in absurd (cc eq);
    }

unfoldable pub limit_in : Want → ℕ
limit_in (want.Line limit optional) = limit
limit_in (want.Turn slot room) = 0
limit_in want.Step = 0
limit_in want.Over = 0

pub fits :
    (s : ReplayWord) (line : List ℕ) (says : ReplayEntry) → Spells replays s line says
    → length line ≤ limit_in (replay_want s)
unfolding limit_in
fits s line says spells =
    subst (λ n. length line ≤ n) (sym (ap limit_in spells.wanted)) spells.short

pub event_fits :
    (rack : Rack) (keys : List (List ℕ)) (r : Ran) (line : List ℕ) (e : Event)
    → Spells replays (Running rack keys r) line (Happens e)
    → length line ≤ line_most rack.format
unfolding limit_in
event_fits rack keys r line e spells = fits (Running rack keys r) line (Happens e) spells

rack_played :
    (rack : Rack) (keys : List (List ℕ)) (line text : List ℕ) (lines : ℕ)
    (R : List ℕ → List ℕ → Type 0) → IsRackLine line rack keys → Played Starting text lines R
    → IsAlong rack keys (started rack keys) (text ++ fed (codes "1 rack")) (lines + 1)
    (ReadsOn Starting (Named rack keys) R)
unfolding run limit_in
rack_played rack keys line text lines R is none =
    record {
      events = [];
      is_world = refl;
      within = (omega arith, omega arith);
      spelled = (record { limits = is.limits; named = is.named }, tt);
      is_text = ap (λ xs. xs ++ fed (codes "1 rack")) none.0;
      place = omega (arith, none.1);
      forced = λ input tail reads.
          let e : input ≡ reads.0 = none.2 input reads.0 reads.1 in (
            subst (λ xs. IsOnlyRack (line_of xs) rack keys) (sym e)
                (only_rack (line_of reads.0) rack keys reads.2.1),
            subst (λ xs. length (line_of xs) ≤ 2048) (sym e)
                (fits Starting (line_of reads.0) (Named rack keys) reads.2.1),
            ap past_line e ∙ sym reads.2.2,
          );
    }

-- an event that a line spells is in the rack and in range
pub spelled_more :
    (rack : Rack) (keys : List (List ℕ)) (events : List Event) (e : Event) (line : List ℕ)
    → AreSpelled (Lines rack keys events) → IsEventLine rack line e
    → AreSpelled (Lines rack keys (events ++ e ∷ []))
spelled_more rack keys events e line spelled says =
    (spelled.0, all_more (IsLine rack) events e spelled.1 (says.in_rack, says.in_range))

event_played :
    (b : Bool) (rack : Rack) (keys : List (List ℕ)) (r : Ran) (e : Event) (line text : List ℕ)
    (lines : ℕ) (R : List ℕ → List ℕ → Type 0) (came : Came ReplayWord)
    → b ≡ is_past r e → IsEventLine rack line e
    → IsAlong rack keys r text lines R
    → (if b then session.Past
    else
    says (Running rack keys (stepped r e).0)
    (fed (line_text (r.events + 2) (stepped r e).1)))
    ≡ session.Goes came
    → PlayedOn (Running rack keys r)
    (if b then session.Past
    else
    says (Running rack keys (stepped r e).0)
    (fed (line_text (r.events + 2) (stepped r e).1))) text (lines + 1)
    (ReadsOn (Running rack keys r) (Happens e) R)
event_played true rack keys r e line text lines R came is says at goes = absurd (cc)
event_played false rack keys r e line text lines R came is says at goes =
    record {
      events = at.events ++ e ∷ [];
      is_world =
          ap (λ (q : Ran). (stepped q e).0) at.is_world
          ∙ reached_more rack keys at.events e;
      within =
          within_more rack keys at.events e
          (sym (is ∙ ap (λ (q : Ran). is_past q e) at.is_world));
      spelled = spelled_more rack keys at.events e line at.spelled says;
      is_text =
          ap (λ xs. xs ++ fed (line_text (r.events + 2) (stepped r e).1)) at.is_text
          ∙ ap (λ (q : Ran). text_of (Lines rack keys at.events)
          ++ fed (line_text (q.events + 2) (stepped q e).1)) at.is_world
          ∙ sym (text_more rack keys at.events e);
      place = omega (arith, at.place, length_more at.events e);
      forced = λ input tail reads.
          subst (IsForced rack keys (at.events ++ e ∷ []) input) (sym reads.2.2)
          (forced_more rack keys at.events e input reads.0 (at.forced input reads.0 reads.1)
          (only_event rack keys r (line_of reads.0) e reads.2.1)
          (event_fits rack keys r (line_of reads.0) e reads.2.1));
    }

end_played :
    (rack : Rack) (keys : List (List ℕ)) (r : Ran) (text : List ℕ) (lines : ℕ)
    (R : List ℕ → List ℕ → Type 0) → IsAlong rack keys r text lines R
    → IsOver rack keys (text ++ end_text (r.events + 2) (history r.world) (orders r.world))
    (lines + 1) (ReadsOn (Running rack keys r) Ends R)
end_played rack keys r text lines R at =
    record {
      events = at.events;
      within = at.within;
      spelled = at.spelled;
      is_text =
          ap (λ xs. xs ++ end_text (r.events + 2) (history r.world) (orders r.world)) at.is_text
          ∙ ap (λ (q : Ran). text_of (Lines rack keys at.events)
          ++ end_text (q.events + 2) (history q.world) (orders q.world)) at.is_world
          ∙ sym (whole_text rack keys at.events);
      place = omega (arith, at.place);
      forced = λ input tail reads. (
        reads.0,
        at.forced input reads.0 reads.1,
        reads.2.1.only.is,
        reads.2.2,
      );
    }

entry_played :
    (s : ReplayWord) (says : ReplayEntry) (text : List ℕ) (lines : ℕ) (R : List ℕ → List ℕ → Type 0)
    → Played s text lines R → (line : List ℕ) → IsReplayLine s line says
    → DoesGo replays s (session.Entry says)
    → PlayedOn s (replay_on s (session.Entry says)) text (lines + 1) (ReadsOn s says R)
entry_played Starting (Named rack keys) text lines R played line reads goes =
    rack_played rack keys line text lines R reads played
entry_played Starting (Happens e) text lines R played line reads goes = absurd reads
entry_played Starting Ends text lines R played line reads goes = absurd reads
entry_played (Running rack keys r) (Named rack' keys') text lines R played line reads goes =
    absurd reads
entry_played (Running rack keys r) (Happens e) text lines R played line reads goes =
    event_played (is_past r e) rack keys r e line text lines R goes.0 refl reads
    played goes.1
entry_played (Running rack keys r) Ends text lines R played line reads goes =
    end_played rack keys r text lines R played
entry_played (Finished rack keys r) says text lines R played line reads goes =
    absurd reads

pub no_turn : (s : ReplayWord) → IsTurn (replay_want s) → ⊥
no_turn Starting turn = turn
no_turn (Running rack keys r) turn = turn
no_turn (Finished rack keys r) turn = turn

pub no_datagram : (s : ReplayWord) (n : ℕ) → session.IsTurnOf (replay_want s) n → ⊥
no_datagram Starting n turn = turn
no_datagram (Running rack keys r) n turn = turn
no_datagram (Finished rack keys r) n turn = turn

pub no_step : (s : ReplayWord) → IsStep (replay_want s) → ⊥
no_step Starting step = step
no_step (Running rack keys r) step = step
no_step (Finished rack keys r) step = step

pub played :
    (inputs : Inputs ReplayEntry) → IsTaken replays replay_start inputs
    → Played (state_of replays replay_start inputs)
    (session.text_of replays replay_start inputs) (lines_of inputs)
    (ends.IsRead replays replay_start inputs)
played Begin taken = (refl, refl, (λ input tail e. e))
played (More inputs (session.Entry says)) taken =
    entry_played (state_of replays replay_start inputs) says
    (session.text_of replays replay_start inputs) (lines_of inputs)
    (ends.IsRead replays replay_start inputs) (played inputs taken.0) taken.1.0
    taken.1.1.only.is taken.2
played (More inputs (session.Datagram bytes)) taken =
    absurd (no_datagram (state_of replays replay_start inputs) (length bytes) taken.1)
played (More inputs session.Quiet) taken =
    absurd (no_turn (state_of replays replay_start inputs) taken.1)
played (More inputs session.Tick) taken =
    absurd (no_step (state_of replays replay_start inputs) taken.1)
