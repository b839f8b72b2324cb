-- A schedule within the limits ends with no refusal.
use Rattle.std.proofs.Common.{◌≡◌, ◌<◌, ◌+◌, ℕ, List, [], ◌∷◌, ◌++◌, length}
use Rattle.std.proofs.Common.{refl, sym, ap, ◌∙◌, subst, arith, codes, inl, inr, append_assoc}
use Rattle.std.proofs.Common.{length-append}
use Rattle.peg_name.specs.Name.{Rack, InLimits, line_most}
use Rattle.peg_name.specs.declared.Format.{Format}
use Rattle.peg_name.specs.declared.Format.TheVariants.{One, Two}
use Rattle.peg_event.specs.declared.Event.{Event}
use Rattle.peg_model.specs.World.{World, start}
use Rattle.peg_model.specs.Schedule.{IsRackLine, IsEventLine, EventsThenEnd, Schedule, fed}
use Rattle.peg_io.specs.Lines.{line_of, past_line, HasNoFeed}
use Rattle.peg_run.specs.Front.{NoLine, Lines, ran, IsWithin, IsRefused}
use Rattle.peg_run.specs.Front.{HasSchedule, AreLinesOf}
use Rattle.peg_run.specs.Forced.{IsForced, IsOnlyEvent}
use Rattle.peg_run.proofs.Feeds.{rack_feeds, event_feeds, line_of_fed, past_line_fed, plain_feeds}
use Rattle.peg_run.proofs.Grows.{run_packets_more, run_append}

-- ---- a line and its line feed

line_first :
    (input line rest : List ℕ) → input ≡ fed line ++ rest → HasNoFeed line → line_of input ≡ line
line_first input line rest e part =
    ap line_of (e ∙ append_assoc line (10 ∷ []) rest) ∙ line_of_fed line rest part

past_first :
    (input line rest : List ℕ) → input ≡ fed line ++ rest → HasNoFeed line
    → past_line input ≡ rest
past_first input line rest e part =
    ap past_line (e ∙ append_assoc line (10 ∷ []) rest) ∙ past_line_fed line rest part

fed_is_more : (input line rest : List ℕ) → input ≡ fed line ++ rest → input ≡ [] → ⊥
fed_is_more input line rest e none =
    omega (
      arith,
      ap length e,
      ap length none,
      length-append (fed line) rest,
      length-append line
          (10 ∷ []),
    )

-- the line end stands there
ends_here :
    (rack : Rack) (input : List ℕ) → EventsThenEnd rack [] input → line_of input ≡ codes "end"
ends_here rack input (inl e) = ap line_of e ∙ refl
ends_here rack input (inr more) =
    line_first input (codes "end") more.0 more.1 (plain_feeds (codes "end") refl)

ends_is_more : (rack : Rack) (input : List ℕ) → EventsThenEnd rack [] input → input ≡ [] → ⊥
ends_is_more rack input (inl e) none = cc
ends_is_more rack input (inr more) none =
    fed_is_more input (codes "end") more.0 more.1 none

end_is_short : (format : Format) → line_most format < length (codes "end") → ⊥
end_is_short One long = absurd (omega arith)
end_is_short Two long = absurd (omega arith)

-- ---- the events that were read are those of the schedule

pub record Follows (rack : Rack) (events all : List Event) (tail : List ℕ) : Type 0 where
  pub more : List Event
  pub split : all ≡ events ++ more
  pub rest : EventsThenEnd rack more tail

events_follow :
    (rack : Rack) (limits : InLimits rack) (events all : List Event) (input tail : List ℕ)
    → AreLinesOf (IsOnlyEvent rack) (line_most rack.format) events input tail
    → EventsThenEnd rack all input → Follows rack events all tail
events_follow rack limits [] all input tail read whole =
    record {
      more = all;
      split = refl;
      rest = subst (EventsThenEnd rack all) read whole;
    }
events_follow rack limits (e ∷ events) [] input tail read whole =
    absurd (read.0.no_end (ends_here rack input whole))
events_follow rack limits (e ∷ events) (d ∷ all) input tail read whole =
    let part = event_feeds rack whole.0 d limits whole.2 in
    let first = line_first input whole.0 whole.1 whole.4 part in
    let past = past_first input whole.0 whole.1 whole.4 part in
    let same : d ≡ e =
    read.0.only d (subst (λ xs. IsEventLine rack xs d) (sym first) whole.2) in
    let more =
    events_follow rack limits events all (past_line input) tail read.2
    (subst (EventsThenEnd rack all) (sym past) whole.5) in
    record {
      more = more.more;
      split = ap (λ x. x ∷ all) same ∙ ap (λ xs. e ∷ xs) more.split;
      rest = more.rest;
    }

pub record FollowsAll (rack : Rack) (keys : List (List ℕ)) (events : List Event) (tail : List ℕ) :
    Type 0 where
  pub limits : InLimits rack
  pub all : List Event
  pub follows : Follows rack events all tail
  pub within : IsWithin (Lines rack keys all)

record Whole (input : List ℕ) (rack : Rack) (keys : List (List ℕ)) (events : List Event) : Type 0
  where
    schedule : Schedule input rack keys events
    within : IsWithin (Lines rack keys events)

whole_follows :
    (rack : Rack) (keys : List (List ℕ)) (events all : List Event) (input tail : List ℕ)
    → IsForced rack keys events input tail → Whole input rack keys all
    → FollowsAll rack keys events tail
whole_follows rack keys events all input tail forced whole =
    let s = whole.schedule in
    let part = rack_feeds s.0 rack keys s.2 in
    let past = past_first input s.0 s.1 s.4 part in
    record {
      limits = s.2.limits;
      all = all;
      follows =
          events_follow rack s.2.limits events all (past_line input) tail forced.2
          (subst (EventsThenEnd rack all) (sym past) s.5);
      within = whole.within;
    }

follow :
    (rack : Rack) (keys : List (List ℕ)) (events : List Event) (input tail : List ℕ)
    → IsForced rack keys events input tail → HasSchedule input → FollowsAll rack keys events tail
follow rack keys events input tail forced has =
    let s = has.3 in
    let part = rack_feeds s.0 has.0 has.1 s.2 in
    let first = line_first input s.0 s.1 s.4 part in
    let only =
    forced.0.only has.0 has.1 (subst (λ xs. IsRackLine xs has.0 has.1) (sym first) s.2) in
    whole_follows rack keys events has.2 input tail forced
    (subst (λ (ks : List (List ℕ)). Whole input rack ks has.2) only.1
    (subst (λ (r : Rack). Whole input r has.1 has.2) only.0
    (record { schedule = has.3; within = has.4 })))

-- ---- no refusal

refused_by :
    (rack : Rack) (keys : List (List ℕ)) (events more : List Event) (tail : List ℕ)
    → InLimits rack → EventsThenEnd rack more tail → IsRefused (Lines rack keys events) tail → ⊥
refused_by rack keys events [] tail limits rest (inl none) = ends_is_more rack tail rest none
refused_by rack keys events [] tail limits rest (inr (inl long)) =
    end_is_short rack.format
    (subst (λ xs. line_most rack.format < length xs) (ends_here rack tail rest) long)
refused_by rack keys events [] tail limits rest (inr (inr refused)) =
    refused.0 (ends_here rack tail rest)
refused_by rack keys events (d ∷ more) tail limits rest (inl none) =
    fed_is_more tail rest.0 rest.1 rest.4 none
refused_by rack keys events (d ∷ more) tail limits rest (inr (inl long)) =
    let part = event_feeds rack rest.0 d limits rest.2 in
    omega (arith, rest.3, long, ap length (line_first tail rest.0 rest.1 rest.4 part))
refused_by rack keys events (d ∷ more) tail limits rest (inr (inr refused)) =
    let part = event_feeds rack rest.0 d limits rest.2 in
    refused.1 d
    (subst (λ xs. IsEventLine rack xs d) (sym (line_first tail rest.0 rest.1 rest.4 part)) rest.2)

pub refused_has_none :
    (rack : Rack) (keys : List (List ℕ)) (events : List Event) (input tail : List ℕ)
    → IsForced rack keys events input tail → IsRefused (Lines rack keys events) tail
    → HasSchedule input → ⊥
refused_has_none rack keys events input tail forced refused has =
    let f = follow rack keys events input tail forced has in
    refused_by rack keys events f.follows.more tail f.limits f.follows.rest refused

pub first_has_none : (input : List ℕ) → IsRefused NoLine input → HasSchedule input → ⊥
first_has_none input (inl none) has =
    fed_is_more input has.3.0 has.3.1 has.3.4 none
first_has_none input (inr (inl long)) has =
    let s = has.3 in
    let part = rack_feeds s.0 has.0 has.1 s.2 in
    omega (arith, s.3, long, ap length (line_first input s.0 s.1 s.4 part))
first_has_none input (inr (inr refused)) has =
    let s = has.3 in
    let part = rack_feeds s.0 has.0 has.1 s.2 in
    refused has.0 has.1
    (subst (λ xs. IsRackLine xs has.0 has.1) (sym (line_first input s.0 s.1 s.4 part)) s.2)

-- ---- no limit is passed

within_front :
    (rack : Rack) (keys : List (List ℕ)) (events more : List Event)
    → IsWithin (Lines rack keys (events ++ more)) → IsWithin (Lines rack keys events)
within_front rack keys events more within = (
  omega (arith, within.0, length-append events more),
  omega (
    arith,
    within.1,
    ap (λ (w : World). length w.packets)
        (run_append (start rack keys) 2 events more),
    run_packets_more (ran rack keys events).0
        (2 + length events) more,
  ),
)

past_by_all :
    (rack : Rack) (keys : List (List ℕ)) (events more : List Event) (e : Event) (tail : List ℕ)
    → InLimits rack → EventsThenEnd rack more tail → IsOnlyEvent rack (line_of tail) e
    → IsWithin (Lines rack keys (events ++ more)) → IsWithin (Lines rack keys (events ++ e ∷ []))
past_by_all rack keys events [] e tail limits rest only within =
    absurd (only.no_end (ends_here rack tail rest))
past_by_all rack keys events (d ∷ more) e tail limits rest only within =
    let part = event_feeds rack rest.0 d limits rest.2 in
    let same : d ≡ e =
    only.only d
    (subst (λ xs. IsEventLine rack xs d) (sym (line_first tail rest.0 rest.1 rest.4 part)) rest.2)
    in
    within_front rack keys (events ++ e ∷ []) more
    (subst (λ (xs : List Event). IsWithin (Lines rack keys xs))
    (ap (λ (x : Event). events ++ (x ∷ more)) same ∙ sym (append_assoc events (e ∷ []) more))
    within)

pub past_has_none :
    (rack : Rack) (keys : List (List ℕ)) (events : List Event) (e : Event) (input tail : List ℕ)
    → IsForced rack keys events input tail → IsOnlyEvent rack (line_of tail) e
    → (IsWithin (Lines rack keys (events ++ e ∷ [])) → ⊥) → HasSchedule input → ⊥
past_has_none rack keys events e input tail forced only past has =
    let f = follow rack keys events input tail forced has in
    past
    (past_by_all rack keys events f.follows.more e tail f.limits f.follows.rest only
    (subst (λ (xs : List Event). IsWithin (Lines rack keys xs)) f.follows.split f.within))
