-- The word `racks` plays the run of all racks that its lines name, and writes its text.
use Rattle.std.proofs.Common.{◌≡◌, ◌+◌, ◌-◌, ◌⊎◌, inl, inr, ℕ, zero, suc, Bool, true, false, Option}
use Rattle.std.proofs.Common.{Some, None, List, [], ◌∷◌, ◌++◌, length, map, flat_map, refl, sym, ap}
use Rattle.std.proofs.Common.{subst, ◌∙◌, if◌then◌else◌, arith, append-nil, append_assoc}
use Rattle.std.specs.Prelude.{◌==◌, slice_get, codes}
use Rattle.std.proofs.lemmas.List.{length_push, map-append}
use Rattle.std.proofs.lemmas.Grind.{flat_map-append}
use Rattle.peg_name.specs.Name.{Rack}
use Rattle.peg_event.specs.declared.Line.{Line}
use Rattle.peg_model.specs.World.{World, start}
use Rattle.peg_meaning.specs.Session.{Input, Entry, Inputs, More, Came, Answer, Goes, Past, saying}
use Rattle.peg_meaning.specs.Session.{state_of, text_of, IsWanted, IsTaken, entries_of}
use Rattle.peg_meaning.specs.Roles.{lines_most}
use Rattle.peg_meaning.specs.Racks.{RacksEvent, RacksEntry, Counted, Named, Happens, End, RacksWord}
use Rattle.peg_meaning.specs.Racks.{Starting, Running, Finished, Division, counted, named, happens}
use Rattle.peg_meaning.specs.Racks.{is_full, racks_step, rack_of, line_of, at_place, end_text}
use Rattle.peg_meaning.specs.Racks.{tails_text, division_on, racks_on, plays_racks, racks_start}
use Rattle.peg_meaning.specs.Racks.{IsDivisionLine}
use Rattle.peg_meaning.proofs.Keeping.{all_written}
use Rattle.peg_word_law.specs.Isolated.{Placed, with_line, run_racks}
use Rattle.peg_word_law.specs.Runs.{racks_of}
use Rattle.peg_word_law.proofs.RacksReached.{racks_append}
use Rattle.peg_word_law.specs.Divided.{worlds_of, events_from, run_of, head_text, heads_from}
use Rattle.peg_word_law.specs.Divided.{racks_line, lines_text, PlaysRun}

-- ---- one line more

worlds_append :
    (xs ys : List RacksEntry) → worlds_of (xs ++ ys) ≡ worlds_of xs ++ worlds_of ys
worlds_append xs ys =
    let began : Rack × List (List ℕ) → World = λ r. start r.0 r.1 in
    ap (map began) (racks_append xs ys) ∙ map-append began (racks_of xs) (racks_of ys)

-- the place behind a list and one more
behind_more : (place n : ℕ) → place + 1 + n ≡ place + suc n
behind_more place n = omega arith

events_append :
    (place : ℕ) (xs ys : List RacksEntry)
    → events_from place (xs ++ ys)
    ≡ events_from place xs ++ events_from (place + length xs) ys
events_append place [] ys =
    let same : place ≡ place + 0 = omega arith in ap (λ n. events_from n ys) same
events_append place (Happens e ∷ xs) ys =
    ap (λ placed. (place, e) ∷ placed)
    (events_append (place + 1) xs ys
    ∙ ap (λ n. events_from (place + 1) xs ++ events_from n ys) (behind_more place (length xs)))
events_append place (_ ∷ xs) ys =
    events_append (place + 1) xs ys
    ∙ ap (λ n. events_from (place + 1) xs ++ events_from n ys) (behind_more place (length xs))

heads_append :
    (place : ℕ) (xs ys : List RacksEntry)
    → heads_from place (xs ++ ys) ≡ heads_from place xs ++ heads_from (place + length xs) ys
heads_append place [] ys =
    let same : place ≡ place + 0 = omega arith in ap (λ n. heads_from n ys) same
heads_append place (x ∷ xs) ys =
    ap (λ text. head_text place x ++ text)
    (heads_append (place + 1) xs ys
    ∙ ap (λ n. heads_from (place + 1) xs ++ heads_from n ys) (behind_more place (length xs)))
    ∙ sym
    (append_assoc (head_text place x) (heads_from (place + 1) xs)
    (heads_from (place + suc (length xs)) ys))

with_line_append :
    (o : Option Line) (rack place : ℕ) (xs ys : List (ℕ × ℕ × Line))
    → with_line o rack place (xs ++ ys) ≡ with_line o rack place xs ++ ys
with_line_append None rack place xs ys = refl
with_line_append (Some line) rack place xs ys = refl

line_written :
    (o : Option Line) (rack place : ℕ)
    → flat_map racks_line (with_line o rack place []) ≡ line_of o place rack
line_written None rack place = refl
line_written (Some line) rack place = append-nil (line_of (Some line) place rack)

-- what one more event makes of a run
abbrev stepped_on :
    List World × List (ℕ × ℕ × Line) → ℕ → RacksEvent → List World × List (ℕ × ℕ × Line)
stepped_on run place e =
    let now = racks_step run.0 place e in
    (now.0, run.1 ++ with_line now.1 (rack_of (length run.0) e) place [])

run_push :
    (worlds : List World) (placed : Placed) (place : ℕ) (e : RacksEvent)
    → run_racks worlds (placed ++ (place, e) ∷ []) ≡ stepped_on (run_racks worlds placed) place e
unfolding run_racks
run_push worlds [] place e = refl
run_push worlds ((at, first) ∷ placed) place e =
    let now = racks_step worlds at first in
    let rack = rack_of (length worlds) first in
    let rest = run_racks now.0 placed in
    let next = racks_step rest.0 place e in
    let more = with_line next.1 (rack_of (length rest.0) e) place [] in
    ap (λ (r : List World × List (ℕ × ℕ × Line)). (r.0, with_line now.1 rack at r.1))
    (run_push now.0 placed place e)
    ∙ ap (λ lines. (next.0, lines)) (with_line_append now.1 rack at rest.1 more)

-- ---- what is kept

record IsDivided (entries : List RacksEntry) (d : Division) (text : List ℕ) : Type 0 where
  place : d.place ≡ length entries
  lines : List (ℕ × ℕ × Line)
  run : run_of entries ≡ (d.worlds, lines)
  written : text ≡ heads_from 1 entries ++ flat_map racks_line lines
  first_named : (d.unnamed ≡ 0) ⊎ (events_from 1 entries ≡ [])

abbrev Keeps : Inputs RacksEntry → RacksWord → List ℕ → Type 0
Keeps inputs Starting text = (entries_of inputs ≡ []) × (text ≡ [])
Keeps inputs (Running d) text = IsDivided (entries_of inputs) d text
Keeps inputs (Finished d) text = PlaysRun (entries_of inputs) (Finished d) text

counted_keeps :
    (racks : ℕ)
    → IsDivided (Counted racks ∷ []) (counted racks) (head_text 1 (Counted racks))
unfolding run_racks
counted_keeps racks =
    record {
      place = refl;
      lines = [];
      run = refl;
      written =
          sym
          (append-nil (head_text 1 (Counted racks) ++ [])
          ∙ append-nil (head_text 1 (Counted racks)));
      first_named = inr refl;
    }

named_keeps :
    (unnamed : ℕ) (entries : List RacksEntry) (d : Division) (text : List ℕ) (rack : Rack)
    (keys : List (List ℕ)) → d.unnamed ≡ suc unnamed → IsDivided entries d text
    → IsDivided (entries ++ Named rack keys ∷ [])
    (record d {
      worlds = d.worlds ++ start rack keys ∷ [];
      unnamed = unnamed;
      place = d.place + 1;
    })
    (text ++ at_place (d.place + 1) (codes "rack"))
unfolding run_racks
named_keeps unnamed entries d text rack keys more kept =
    let name = Named rack keys in
    let size = length_push entries name in
    let at = kept.place in
    let next : d.place + 1 ≡ 1 + length entries = omega (arith, at) in
    let place : d.place + 1 ≡ length (entries ++ name ∷ []) = omega (arith, at, size) in
    let none : events_from 1 entries ≡ [] = elim kept.first_named [
      | inl zero_left ↦ absurd (omega (arith, zero_left, more))
      | inr none ↦ none
    ] in
    let none_yet : events_from 1 (entries ++ name ∷ []) ≡ [] =
    events_append 1 entries (name ∷ []) ∙ append-nil (events_from 1 entries) ∙ none in
    let so_far : (worlds_of entries, []) ≡ (d.worlds, kept.lines) =
    ap (λ placed. run_racks (worlds_of entries) placed) (sym none) ∙ kept.run in
    let worlds : worlds_of entries ≡ d.worlds = ap (λ r. r.0) so_far in
    let no_lines : [] ≡ kept.lines = ap (λ r. r.1) so_far in
    record {
      place = place;
      lines = [];
      run =
          ap (λ placed. run_racks (worlds_of (entries ++ name ∷ [])) placed) none_yet
          ∙ ap (λ ws. (ws, []))
          (worlds_append entries (name ∷ []) ∙ ap (λ ws. ws ++ start rack keys ∷ []) worlds);
      written =
          ap (λ t. t ++ at_place (d.place + 1) (codes "rack"))
          (kept.written
          ∙ ap (λ lines. heads_from 1 entries ++ flat_map racks_line lines) (sym no_lines)
          ∙ append-nil (heads_from 1 entries))
          ∙ ap (λ n. heads_from 1 entries ++ at_place n (codes "rack")) next
          ∙ ap (λ t. heads_from 1 entries ++ t)
          (sym (append-nil (at_place (1 + length entries) (codes "rack"))))
          ∙ sym (heads_append 1 entries (name ∷ []))
          ∙ sym (append-nil (heads_from 1 (entries ++ name ∷ [])));
      first_named = inr none_yet;
    }

-- a line that names no rack is no head, and no event is more
plain_heads :
    (entries : List RacksEntry) (x : RacksEntry) → head_text (1 + length entries) x ≡ []
    → heads_from 1 (entries ++ x ∷ []) ≡ heads_from 1 entries
plain_heads entries x plain =
    heads_append 1 entries (x ∷ [])
    ∙ ap (λ t. heads_from 1 entries ++ (t ++ [])) plain
    ∙ append-nil (heads_from 1 entries)

happens_keeps :
    (entries : List RacksEntry) (d : Division) (text : List ℕ) (e : RacksEvent)
    → d.unnamed ≡ 0 → IsDivided entries d text
    → let now = racks_step d.worlds (d.place + 1) e in
    IsDivided (entries ++ Happens e ∷ [])
    (record d { worlds = now.0; place = d.place + 1; lines = d.lines + 1 })
    (text ++ line_of now.1 (d.place + 1) (rack_of (length d.worlds) e))
happens_keeps entries d text e all_named kept =
    let rack = rack_of (length d.worlds) e in
    let now = racks_step d.worlds (d.place + 1) e in
    let size = length_push entries (Happens e) in
    let at = kept.place in
    let next : 1 + length entries ≡ d.place + 1 = omega (arith, at) in
    let more = with_line now.1 rack (d.place + 1) [] in
    record {
      place = omega (arith, at, size);
      lines = kept.lines ++ more;
      run =
          ap (λ ws. run_racks ws (events_from 1 (entries ++ Happens e ∷ [])))
          (worlds_append entries (Happens e ∷ []) ∙ append-nil (worlds_of entries))
          ∙ ap (λ placed. run_racks (worlds_of entries) placed)
          (events_append 1 entries (Happens e ∷ []))
          ∙ run_push (worlds_of entries) (events_from 1 entries) (1 + length entries) e
          ∙ ap (λ r. stepped_on r (1 + length entries) e) kept.run
          ∙ ap (λ n. stepped_on (d.worlds, kept.lines) n e) next;
      written =
          ap (λ t. t ++ line_of now.1 (d.place + 1) rack) kept.written
          ∙ append_assoc (heads_from 1 entries) (flat_map racks_line kept.lines)
          (line_of now.1 (d.place + 1) rack)
          ∙ ap (λ t. heads_from 1 entries ++ (flat_map racks_line kept.lines ++ t))
          (sym (line_written now.1 rack (d.place + 1)))
          ∙ ap (λ t. heads_from 1 entries ++ t) (sym (flat_map-append racks_line kept.lines more))
          ∙ ap (λ t. t ++ flat_map racks_line (kept.lines ++ more))
          (sym (plain_heads entries (Happens e) refl));
      first_named = inl all_named;
    }

end_keeps :
    (entries : List RacksEntry) (d : Division) (text : List ℕ) → IsDivided entries d text
    → PlaysRun (entries ++ End ∷ []) (Finished d) (text ++ end_text d)
end_keeps entries d text kept =
    let size = length_push entries End in
    let at = kept.place in
    let last : d.place + 1 ≡ length (entries ++ End ∷ []) = omega (arith, at, size) in
    let run : run_of (entries ++ End ∷ []) ≡ (d.worlds, kept.lines) =
    ap (λ ws. run_racks ws (events_from 1 (entries ++ End ∷ [])))
    (worlds_append entries (End ∷ []) ∙ append-nil (worlds_of entries))
    ∙ ap (λ placed. run_racks (worlds_of entries) placed)
    (events_append 1 entries (End ∷ []) ∙ append-nil (events_from 1 entries))
    ∙ kept.run in
    let written : text ≡ lines_text (entries ++ End ∷ []) =
    kept.written
    ∙ ap (λ t. t ++ flat_map racks_line kept.lines) (sym (plain_heads entries End refl))
    ∙ ap
    (λ (r : List World × List (ℕ × ℕ × Line)).
    heads_from 1 (entries ++ End ∷ []) ++ flat_map racks_line r.1)
    (sym run) in (
      ap (λ (r : List World × List (ℕ × ℕ × Line)). r.0) (sym run),
      ap (λ t. t ++ end_text d) written
          ∙ ap
          (λ n. lines_text (entries ++ End ∷ [])
          ++ (at_place n (codes "end") ++ tails_text 0 d.worlds))
          last
          ∙ ap
          (λ (r : List World × List (ℕ × ℕ × Line)).
          lines_text (entries ++ End ∷ [])
          ++ (at_place (length (entries ++ End ∷ [])) (codes "end") ++ tails_text 0 r.0))
          (sym run),
    )

-- ---- a step

came_is : (came other : Came RacksWord) → Goes came ≡ Goes other → came ≡ other
came_is came other is = cc

went_on :
    (b : Bool) (answer : Answer RacksWord) (came : Came RacksWord)
    → (if b then Past else answer) ≡ Goes came → answer ≡ Goes came
went_on true answer came is = let never : Past ≡ Goes came = is in absurd (cc)
went_on false answer came is = is

line_keeps :
    (unnamed : ℕ) (inputs : Inputs RacksEntry) (d : Division) (text line : List ℕ)
    (e : RacksEntry) (came : Came RacksWord) → d.unnamed ≡ unnamed
    → IsDivided (entries_of inputs) d text → IsDivisionLine unnamed d line e
    → division_on d e ≡ Goes came
    → Keeps (More inputs (Entry e)) came.state (text ++ came.text)
line_keeps zero inputs d text line (Happens e) came left kept is_line is =
    let now = racks_step d.worlds (d.place + 1) e in
    let rack = rack_of (length d.worlds) e in
    let goes = went_on (d.lines == lines_most) (happens d e) came is in
    let here =
    went_on (is_full (slice_get now.0 rack))
    (Goes (saying
    (Running (record d { worlds = now.0; place = d.place + 1; lines = d.lines + 1 }))
    (line_of now.1 (d.place + 1) rack)))
    came goes in
    subst (λ (c : Came RacksWord). Keeps (More inputs (Entry (Happens e))) c.state (text ++ c.text))
    (came_is
    (saying (Running (record d { worlds = now.0; place = d.place + 1; lines = d.lines + 1 }))
    (line_of now.1 (d.place + 1) rack))
    came here)
    (happens_keeps (entries_of inputs) d text e left kept)
line_keeps zero inputs d text line End came left kept is_line is =
    subst (λ (c : Came RacksWord). Keeps (More inputs (Entry End)) c.state (text ++ c.text))
    (came_is (saying (Finished d) (end_text d)) came is)
    (end_keeps (entries_of inputs) d text kept)
line_keeps (suc unnamed) inputs d text line (Named rack keys) came left kept is_line is =
    subst
    (λ (c : Came RacksWord). Keeps (More inputs (Entry (Named rack keys))) c.state (text ++ c.text))
    (came_is (named d rack keys) came is)
    (let one_less : unnamed ≡ d.unnamed - 1 = omega (arith, left) in
    subst
    (λ n. IsDivided (entries_of inputs ++ Named rack keys ∷ [])
    (record d {
      worlds = d.worlds ++ start rack keys ∷ [];
      unnamed = n;
      place = d.place + 1;
    })
    (text ++ at_place (d.place + 1) (codes "rack")))
    one_less
    (named_keeps unnamed (entries_of inputs) d text rack keys left kept))
line_keeps _ inputs d text line e came left kept is_line is = absurd is_line

one :
    (inputs : Inputs RacksEntry) (s : RacksWord) (text : List ℕ) (x : Input RacksEntry)
    (came : Came RacksWord) → Keeps inputs s text → IsWanted plays_racks s x
    → racks_on s x ≡ Goes came → Keeps (More inputs x) came.state (text ++ came.text)
one inputs Starting text (Entry (Counted racks)) came (none, silent) wanted is =
    subst
    (λ (c : Came RacksWord). Keeps (More inputs (Entry (Counted racks))) c.state (text ++ c.text))
    (came_is (saying (Running (counted racks)) (head_text 1 (Counted racks))) came is)
    (subst
    (λ es. IsDivided (es ++ Counted racks ∷ []) (counted racks)
    (text ++ head_text 1 (Counted racks)))
    (sym none)
    (subst (λ t. IsDivided (Counted racks ∷ []) (counted racks) (t ++ head_text 1 (Counted racks)))
    (sym silent) (counted_keeps racks)))
one inputs (Running d) text (Entry e) came kept wanted is =
    line_keeps d.unnamed inputs d text wanted.0 e came refl kept wanted.1.only.is is
one inputs s text x came kept wanted is = let never : Past ≡ Goes came = is in absurd (cc)

-- ---- the whole

plays : (inputs : Inputs RacksEntry) (s : RacksWord) (text : List ℕ) → Keeps inputs s text
    → PlaysRun (entries_of inputs) s text
plays inputs Starting text (none, silent) = silent
plays inputs (Running d) text kept = (
  ap (λ (r : List World × List (ℕ × ℕ × Line)). r.0) (sym kept.run),
  kept.written
      ∙ ap
      (λ (r : List World × List (ℕ × ℕ × Line)).
      heads_from 1 (entries_of inputs) ++ flat_map racks_line r.1)
      (sym kept.run),
)
plays inputs (Finished d) text kept = kept

pub divided_plays :
    (inputs : Inputs RacksEntry) → IsTaken plays_racks racks_start inputs
    → PlaysRun (entries_of inputs) (state_of plays_racks racks_start inputs)
    (text_of plays_racks racks_start inputs)
divided_plays inputs taken =
    plays inputs (state_of plays_racks racks_start inputs) (text_of plays_racks racks_start inputs)
    (all_written plays_racks Keeps one racks_start inputs taken (refl, refl))
