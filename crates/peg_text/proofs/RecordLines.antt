-- The function that reads a line of a process that records reads just the lines that spell an
-- entry.
use Rattle.std.proofs.Common.{◌≡◌, ◌<◌, ◌^◌, ◌⊎◌, inl, inr, ℕ, zero, suc, Bool, true, false, cond}
use Rattle.std.proofs.Common.{Option, Some, None, List, [], ◌∷◌, ◌++◌, refl, arith, ap, sym, ◌∙◌}
use Rattle.std.proofs.Common.{subst}
use Rattle.std.specs.Prelude.{decimal, codes, Contains, ◌==◌, IfSome, option_map}
use Rattle.std.specs.Str.{bytes_eq}
use Rattle.std.proofs.lemmas.Option.{none-some, same_Some}
use Rattle.peg_name.specs.Name.{Rack, InLimits}
use Rattle.peg_event.specs.declared.Event.{Event}
use Rattle.peg_meaning.specs.Records.{RecordEntry, Calls, Takes, End, take_lines}
use Rattle.peg_text.specs.Reading.{words_of, whole_of}
use Rattle.peg_text.specs.Events.{read_as, read_pick, event_by, event_in}
use Rattle.peg_text.specs.declared.recording.RecordEntry as said
use Rattle.peg_text.specs.Recordings.{entry_in, IsRecordedLine, entry_by, entry_from, entry_of}
use Rattle.peg_text.proofs.Readers.{by_test, from_bytes_eq, then_some}
use Rattle.peg_text.proofs.Spaces.{decimal_spaceless}
use Rattle.peg_text.proofs.Lines.{two_words, cut, joined, only_one, one_holds}
use Rattle.peg_text.proofs.EventLines.{number_read, pick_sound, whole_some, is_zero, not_zero}
use Rattle.peg_text.proofs.EventLines.{event_sound, event_complete}
use Rattle.peg_text.proofs.TakeLines.{one_word, not_verb}

-- ---- the words of a take

abbrev AreTakeWords : ℕ → List (List ℕ) → Type 0
AreTakeWords pick ws =
    (ws ≡ codes "take" ∷ decimal pick ∷ []) ⊎ ((pick ≡ 0) × (ws ≡ codes "take" ∷ []))

abbrev lines_by : Bool → ℕ → List (List ℕ)
lines_by t pick =
    let long = codes "take " ++ decimal pick in cond t (codes "take" ∷ long ∷ []) (long ∷ [])

words_taken :
    (pick : ℕ) (t : Bool) (line : List ℕ) → (pick == 0) ≡ t → AreTakeWords pick (words_of line)
    → Contains (lines_by t pick) line
words_taken pick true line t (inl long) =
    (1, omega arith, sym (joined _ line long ∙ sym (two_words (codes "take") (decimal pick))))
words_taken pick true line t (inr short) = (0, omega arith, sym (joined _ line short.1))
words_taken pick false line t (inl long) =
    one_holds _ _ (joined _ line long ∙ sym (two_words (codes "take") (decimal pick)))
words_taken pick false line t (inr short) = absurd (not_zero pick t short.0)

taken_words :
    (pick : ℕ) (t : Bool) (line : List ℕ) → (pick == 0) ≡ t → pick < 2 ^ 64
    → Contains (lines_by t pick) line → AreTakeWords pick (words_of line)
taken_words pick true line t small (zero, less, e) =
    inr (is_zero pick t, cut (codes "take") [] line (refl, tt) (sym e))
taken_words pick true line t small (suc zero, less, e) =
    inl (cut (codes "take") (decimal pick ∷ []) line (refl, (decimal_spaceless pick small, tt))
    (sym e ∙ two_words (codes "take") (decimal pick)))
taken_words pick true line t small (suc (suc k), less, e) = absurd (omega arith)
taken_words pick false line t small has =
    inl (cut (codes "take") (decimal pick ∷ []) line (refl, (decimal_spaceless pick small, tt))
    (only_one _ _ has ∙ two_words (codes "take") (decimal pick)))

-- what was chosen where two tests failed
second_chosen :
    {A : Type 0} (a b : Bool) (x y z : A) → a ≡ false → b ≡ false → cond a x (cond b y z) ≡ z
second_chosen true b x y z first second = absurd cc
second_chosen false true x y z first second = absurd cc
second_chosen false false x y z first second = refl

module _ (rack : Rack) (limits : InLimits rack) where
  -- ---- what is read is spelled

  take_sound :
      (line verb : List ℕ) (ws : List (List ℕ)) (e : RecordEntry Event) (left : List (List ℕ))
      → words_of line ≡ verb ∷ ws → left ≡ [] → bytes_eq verb (codes "take") ≡ true
      → read_as {Y = RecordEntry Event} (λ pick. Takes pick) (read_pick ws) ≡ Some (e, left)
      → IsRecordedLine rack line e
  take_sound line verb ws e left words none same is =
      let got = then_some (read_pick ws) _ (e, left) is in
      let pair : (Takes got.0.0, got.0.1) ≡ (e, left) = same_Some _ _ got.2 in
      let pick = pick_sound rack limits ws got.0.0 got.0.1 got.1 (ap (λ p. p.1) pair ∙ none) in
      let front : words_of line ≡ codes "take" ∷ ws =
      words ∙ ap (λ v. v ∷ ws) (from_bytes_eq verb (codes "take") same) in
      let spelled : AreTakeWords got.0.0 (words_of line) = take_words got.0.0 ws front pick.1 in
      subst (λ (k : RecordEntry Event). IsRecordedLine rack line k) (ap (λ p. p.0) pair)
      (pick.0, words_taken got.0.0 (got.0.0 == 0) line refl spelled)
    where
      take_words :
          (pick : ℕ) (ws : List (List ℕ)) → words_of line ≡ codes "take" ∷ ws
          → (ws ≡ decimal pick ∷ []) ⊎ ((pick ≡ 0) × (ws ≡ []))
          → AreTakeWords pick (words_of line)
      take_words pick ws front (inl long) = inl (front ∙ ap (λ t. codes "take" ∷ t) long)
      take_words pick ws front (inr short) =
          inr (short.0, front ∙ ap (λ t. codes "take" ∷ t) short.1)

  calls_sound :
      (line verb : List ℕ) (ws : List (List ℕ)) (e : RecordEntry Event) (left : List (List ℕ))
      → words_of line ≡ verb ∷ ws → left ≡ []
      → read_as {Y = RecordEntry Event} (λ k. Calls k) (event_by rack verb ws) ≡ Some (e, left)
      → IsRecordedLine rack line e
  calls_sound line verb ws e left words none is =
      let got = then_some (event_by rack verb ws) _ (e, left) is in
      let pair : (Calls got.0.0, got.0.1) ≡ (e, left) = same_Some _ _ got.2 in
      let end : got.0.1 ≡ [] = ap (λ p. p.1) pair ∙ none in
      let read : event_in rack (words_of line) ≡ Some got.0.0 =
      ap (event_in rack) words ∙ ap whole_of got.1
      ∙ ap (λ l. whole_of (Some (got.0.0, l))) end in
      subst (λ (k : RecordEntry Event). IsRecordedLine rack line k) (ap (λ p. p.0) pair)
      (event_sound rack limits line got.0.0 read)

  from_sound :
      (line : List ℕ) (ws : List (List ℕ)) (e : RecordEntry Event) → words_of line ≡ ws
      → entry_from rack ws ≡ Some e → IsRecordedLine rack line e
  from_sound line [] e words is = absurd (none-some e is)
  from_sound line (verb ∷ ws) e words is =
      let got = whole_some (entry_by rack verb ws) e is in
      by_test (bytes_eq verb (codes "take")) _ _ (e, got.0) got.2
      (λ same at. take_sound line verb ws e got.0 words got.1 same at)
      (λ no1 e1.
      by_test (bytes_eq verb (codes "end")) _ _ (e, got.0) e1
      (λ same at.
      let one = one_word (codes "end") End line verb ws e got.0 words same got.1 at in
      subst (λ (k : RecordEntry Event). IsRecordedLine rack line k) one.1 one.0)
      (λ no2 e2.
      calls_sound line verb ws e got.0 words got.1 e2))

  -- ---- what is spelled is read

  take_complete :
      (pick : ℕ) (ws : List (List ℕ)) → pick < 2 ^ 64 → AreTakeWords pick ws
      → entry_from rack ws ≡ Some (Takes pick)
  take_complete pick ws small (inl e) =
      ap (entry_from rack) e
      ∙ ap (λ r. whole_of (read_as {Y = RecordEntry Event} (λ p. Takes p) r))
      (number_read.complete pick [] small)
  take_complete pick ws small (inr e) =
      ap (entry_from rack) e.1 ∙ ap (λ p. Some (Takes p)) (sym e.0)

  event_from :
      (ws : List (List ℕ)) (e : Event) → event_in rack ws ≡ Some e
      → entry_from rack ws ≡ Some (Calls e)
  event_from [] e is = absurd (none-some e is)
  event_from (verb ∷ ws) e is =
      let got = whole_some (event_by rack verb ws) e is in
      ap whole_of
      (second_chosen (bytes_eq verb (codes "take")) (bytes_eq verb (codes "end")) _ _
      (read_as (λ k. Calls k) (event_by rack verb ws))
      (not_verb rack limits verb (codes "take") ws (e, got.0) _ refl got.2 refl)
      (not_verb rack limits verb (codes "end") ws (e, got.0) _ refl got.2 refl)
      ∙ ap (λ r. read_as (λ k. Calls k) r) got.2)
      ∙ ap (λ l. whole_of (Some (Calls e, l))) got.1

  pub entry_complete :
      (line : List ℕ) (e : RecordEntry Event) → IsRecordedLine rack line e
      → entry_of rack line ≡ Some e
  entry_complete line (Calls e) is =
      event_from (words_of line) e (event_complete rack limits line e is)
  entry_complete line (Takes pick) is =
      take_complete pick (words_of line) is.0
      (taken_words pick (pick == 0) line refl is.0 is.1)
  entry_complete line End is = ap (entry_of rack) is

  -- ---- what the function answers

  pub read_sound :
      (line : List ℕ) (r : Option said.RecordEntry)
      → option_map entry_in r ≡ entry_of rack line
      → IfSome r (λ e. IsRecordedLine rack line (entry_in e))
  read_sound line None is = tt
  read_sound line (Some e) is = from_sound line (words_of line) (entry_in e) refl (sym is)
