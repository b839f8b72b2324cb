-- What the judge has read when it comes to the line done is a history with the orders of its keys.
use Rattle.std.proofs.Common.{◌≡◌, ◌≤◌, ◌<◌, ◌+◌, ◌^◌, ◌⊎◌, ℕ, zero, suc, Bool, true, false, List}
use Rattle.std.proofs.Common.{[], ◌∷◌, ◌++◌, length, map, take, Option, Some, None, refl, sym, ap}
use Rattle.std.proofs.Common.{subst, ◌∙◌, inl, inr, if◌then◌else◌, arith}
use Rattle.std.specs.Prelude.{slice_get, unwrap_or, ◌==◌}
use Rattle.std.specs.List.{AllByRecursion}
use Rattle.peg_event.specs.declared.history.Op.{Op}
use Rattle.peg_model.specs.Order.{keys_in}
use Rattle.peg_model.specs.Judge.{OpInRange, IssuedAfter, verdict_of, verdict_text}
use Rattle.peg_meaning.specs.Session.{Input, Entry, Came, Goes, Past, Inputs, More, IsWanted}
use Rattle.peg_meaning.specs.Session.{IsTaken, state_of, text_of, entries_of, saying}
use Rattle.peg_meaning.specs.CheckWord.{CheckEntry, Skipped, History, Operation, Order, At, Done}
use Rattle.peg_meaning.specs.CheckWord.{Checked, Stage, Skipping, Reading, Finished, Checker}
use Rattle.peg_meaning.specs.CheckWord.{last_issued, next_key, IsCheckedLine, IsStageLine}
use Rattle.peg_meaning.specs.CheckWord.{IsPlaceLine, IsOrderLine, with_place, checked_on, stage_on}
use Rattle.peg_meaning.specs.CheckWord.{check_on, judges, check_start, judged_text}
use Rattle.peg_word_law.specs.Judged.{IsWellFormed, HasJudged}
use Rattle.peg_word_law.proofs.Told.{Tells, NoneYet, line_told, with_place_length}
use Rattle.peg_model.specs.Schedule.{fed}
use Rattle.peg_word_law.proofs.Lists.{all_push}
use Rattle.std.proofs.lemmas.List.{length_push, map_push}
use Rattle.peg_meaning.proofs.Keeping.{all_written}

-- ---- lists

-- one more of a list's first
take_more :
    {X : Type 0} (xs : List X) (n : ℕ) (x : X) → slice_get xs n ≡ Some x
    → take n xs ++ x ∷ [] ≡ take (suc n) xs
take_more [] n x is = let never : None ≡ Some x = is in absurd (cc)
take_more (y ∷ xs) zero x is =
    let same : y ≡ x = ap (λ o. unwrap_or o y) is in ap (λ z. z ∷ []) (sym same)
take_more (y ∷ xs) (suc n) x is = ap (λ ys. y ∷ ys) (take_more xs n x is)

take_all : {X : Type 0} (xs : List X) (n : ℕ) → slice_get xs n ≡ None → take n xs ≡ xs
take_all [] zero is = refl
take_all [] (suc n) is = refl
take_all (y ∷ xs) zero is = let never : Some y ≡ None = is in absurd (cc)
take_all (y ∷ xs) (suc n) is = ap (λ ys. y ∷ ys) (take_all xs n is)

issued_push :
    (before : ℕ) (ops : List Op) (op : Op) → IssuedAfter before ops
    → (ops ≡ [] → before < op.issued) → last_issued ops < op.issued
    → IssuedAfter before (ops ++ op ∷ [])
issued_push before [] op rising first later = (first refl, tt)
issued_push before (a ∷ []) op rising first later = (rising.0, (later, tt))
issued_push before (a ∷ b ∷ ops) op rising first later =
    (rising.0, issued_push a.issued (b ∷ ops) op rising.1 (λ none. absurd (cc)) later)

-- ---- what is kept

abbrev ArePlaces : List (List ℕ × List ℕ) → Type 0
ArePlaces key_orders = AllByRecursion (λ o. AllByRecursion (λ place. place < 2 ^ 32) o.1) key_orders

abbrev keys_of : List (List ℕ × List ℕ) → List (List ℕ)
keys_of key_orders = map (λ o. o.0) key_orders

record IsKept (c : Checked) : Type 0 where
  few : length c.ops + c.unread ≤ 200000
  in_range : AllByRecursion OpInRange c.ops
  rising : IssuedAfter 1 c.ops
  none_yet : (c.unread ≡ 0) ⊎ (c.key_orders ≡ [])
  keys : keys_of c.key_orders ≡ take (length c.key_orders) (keys_in c.ops)
  places : ArePlaces c.key_orders

abbrev KeepsStage : Stage → Type 0
KeepsStage Skipping = Unit {0}
KeepsStage (Reading c) = IsKept c
KeepsStage (Finished c) = IsWellFormed c.ops c.key_orders

operation_keeps :
    (unread : ℕ) (c : Checked) (line : List ℕ) (number : ℕ) (op : Op) → c.unread ≡ suc unread
    → IsKept c → IsCheckedLine (suc unread) c line (Operation number op)
    → IsKept (checked_on c (Operation number op))
operation_keeps unread c line number op is kept line_is =
    let few = kept.few in
    let more = length_push c.ops op in
    let none : c.key_orders ≡ [] = elim kept.none_yet [
      | inl zero_left ↦ absurd (omega (arith, zero_left, is))
      | inr none ↦ none
    ] in
    record {
      few = omega (arith, few, more, is);
      in_range = all_push OpInRange c.ops op kept.in_range line_is.0.in_range;
      rising =
          issued_push 1 c.ops op kept.rising
          (λ empty. subst (λ o. last_issued o < op.issued) empty line_is.2) line_is.2;
      none_yet = inr none;
      keys =
          subst (λ os. keys_of os ≡ take (length os) (keys_in (c.ops ++ op ∷ []))) (sym none) refl;
      places = kept.places;
    }

order_keeps :
    (o : Option (List ℕ)) (c : Checked) (line key : List ℕ) (count : ℕ) → next_key c ≡ o
    → c.unread ≡ 0 → IsKept c → IsOrderLine o line (Order key count)
    → IsKept (checked_on c (Order key count))
order_keeps None c line key count is read kept line_is = absurd line_is
order_keeps (Some next) c line key count is read kept line_is =
    let more = length_push c.key_orders (key, []) in
    let size : suc (length c.key_orders) ≡ length (c.key_orders ++ (key, []) ∷ []) =
    omega (arith, more) in
    record {
      few = kept.few;
      in_range = kept.in_range;
      rising = kept.rising;
      none_yet = inl read;
      keys =
          map_push (λ o. o.0) c.key_orders (key, [])
          ∙ ap (λ ks. ks ++ key ∷ []) kept.keys
          ∙ ap (λ k. take (length c.key_orders) (keys_in c.ops) ++ k ∷ []) line_is.0
          ∙ take_more (keys_in c.ops) (length c.key_orders) next is
          ∙ ap (λ n. take n (keys_in c.ops)) size;
      places =
          all_push (λ o. AllByRecursion (λ place. place < 2 ^ 32) o.1) c.key_orders (key, [])
          kept.places tt;
    }

with_place_keys :
    (place : ℕ) (key_orders : List (List ℕ × List ℕ))
    → keys_of (with_place place key_orders) ≡ keys_of key_orders
with_place_keys place [] = refl
with_place_keys place ((key, order) ∷ []) = refl
with_place_keys place (o ∷ q ∷ key_orders) =
    ap (λ ks. o.0 ∷ ks) (with_place_keys place (q ∷ key_orders))

with_place_places :
    (place : ℕ) (key_orders : List (List ℕ × List ℕ)) → place < 2 ^ 32 → ArePlaces key_orders
    → ArePlaces (with_place place key_orders)
with_place_places place [] small all = tt
with_place_places place ((key, order) ∷ []) small all =
    (all_push (λ p. p < 2 ^ 32) order place all.0 small, tt)
with_place_places place (o ∷ q ∷ key_orders) small all =
    (all.0, with_place_places place (q ∷ key_orders) small all.1)

place_keeps :
    (c : Checked) (place : ℕ) → c.unread ≡ 0 → place < 2 ^ 32 → IsKept c
    → IsKept (checked_on c (At place))
place_keeps c place read small kept =
    record {
      few = kept.few;
      in_range = kept.in_range;
      rising = kept.rising;
      none_yet = inl read;
      keys =
          with_place_keys place c.key_orders
          ∙ kept.keys
          ∙ ap (λ n. take n (keys_in c.ops)) (sym (with_place_length place c.key_orders));
      places = with_place_places place c.key_orders small kept.places;
    }

done_keeps :
    (o : Option (List ℕ)) (c : Checked) (line : List ℕ) → next_key c ≡ o → c.unread ≡ 0
    → IsKept c → IsOrderLine o line Done → IsWellFormed c.ops c.key_orders
done_keeps (Some next) c line is read kept line_is = absurd line_is
done_keeps None c line is read kept line_is =
    let few = kept.few in
    record {
      few = omega (arith, few);
      in_range = kept.in_range;
      rising = kept.rising;
      keys = kept.keys ∙ take_all (keys_in c.ops) (length c.key_orders) is;
      places = kept.places;
    }

-- ---- a line

order_line_keeps :
    (o : Option (List ℕ)) (c : Checked) (line : List ℕ) (e : CheckEntry) → next_key c ≡ o
    → c.unread ≡ 0 → IsKept c → IsOrderLine o line e → KeepsStage (stage_on (Reading c) e)
order_line_keeps (Some next) c line (Order key count) is read kept line_is =
    order_keeps (Some next) c line key count is read kept line_is
order_line_keeps None c line Done is read kept line_is =
    done_keeps None c line is read kept line_is
order_line_keeps _ c line e is read kept line_is = absurd line_is

place_line_keeps :
    (unplaced : ℕ) (c : Checked) (line : List ℕ) (e : CheckEntry) → c.unread ≡ 0 → IsKept c
    → IsPlaceLine unplaced c line e → KeepsStage (stage_on (Reading c) e)
place_line_keeps (suc unplaced) c line (At place) read kept line_is =
    place_keeps c place read line_is.0 kept
place_line_keeps zero c line e read kept line_is =
    order_line_keeps (next_key c) c line e refl read kept line_is
place_line_keeps _ c line e read kept line_is = absurd line_is

checked_line_keeps :
    (unread : ℕ) (c : Checked) (line : List ℕ) (e : CheckEntry) → c.unread ≡ unread → IsKept c
    → IsCheckedLine unread c line e → KeepsStage (stage_on (Reading c) e)
checked_line_keeps (suc unread) c line (Operation number op) is kept line_is =
    operation_keeps unread c line number op is kept line_is
checked_line_keeps zero c line e is kept line_is =
    place_line_keeps c.unplaced c line e is kept line_is
checked_line_keeps _ c line e is kept line_is = absurd line_is

stage_keeps :
    (s : Stage) (line : List ℕ) (e : CheckEntry) → KeepsStage s → IsStageLine s line e
    → KeepsStage (stage_on s e)
stage_keeps Skipping line (Skipped other) keeps line_is = tt
stage_keeps Skipping line (History count) keeps line_is =
    let few = line_is.0 in
    record {
      few = omega (arith, few);
      in_range = tt;
      rising = tt;
      none_yet = inr refl;
      keys = refl;
      places = tt;
    }
stage_keeps (Reading c) line e keeps line_is =
    checked_line_keeps c.unread c line e refl keeps line_is
stage_keeps _ line e keeps line_is = absurd line_is

-- ---- the whole

-- what is written: nothing but the verdict, with the line done
abbrev Says : Stage → List ℕ → Type 0
Says (Finished c) text =
    text
    ≡ fed (verdict_text (verdict_of c.ops c.key_orders) (length c.ops) (length c.key_orders))
Says stage text = text ≡ []

says :
    (s : Stage) (line text : List ℕ) (e : CheckEntry) → Says s text → IsStageLine s line e
    → Says (stage_on s e) (text ++ judged_text s e)
says Skipping line text (History count) silent line_is = ap (λ t. t ++ []) silent
says Skipping line text (Skipped other) silent line_is = ap (λ t. t ++ []) silent
says (Reading c) line text Done silent line_is =
    ap (λ t. t ++ judged_text (Reading c) Done) silent
says (Reading c) line text (Operation number op) silent line_is = ap (λ t. t ++ []) silent
says (Reading c) line text (Order key count) silent line_is = ap (λ t. t ++ []) silent
says (Reading c) line text (At place) silent line_is = ap (λ t. t ++ []) silent
says (Reading c) line text (History count) silent line_is = ap (λ t. t ++ []) silent
says (Reading c) line text (Skipped other) silent line_is = ap (λ t. t ++ []) silent
says _ line text e silent line_is = absurd line_is

record Keeps (inputs : Inputs CheckEntry) (s : Checker) (text : List ℕ) : Type 0 where
  stage : KeepsStage s.stage
  lines : Tells (entries_of inputs) s.stage
  written : Says s.stage text

none_yet : (s : Stage) → KeepsStage s → NoneYet s
none_yet Skipping keeps = tt
none_yet (Reading c) kept = kept.none_yet
none_yet (Finished c) keeps = tt

came_is :
    (b : Bool) (came other : Came Checker) → (if b then Past else Goes came) ≡ Goes other
    → came ≡ other
came_is true came other is = let never : Past ≡ Goes other = is in absurd (cc)
came_is false came other is = cc

one :
    (inputs : Inputs CheckEntry) (s : Checker) (text : List ℕ) (x : Input CheckEntry)
    (came : Came Checker) → Keeps inputs s text → IsWanted judges s x → check_on s x ≡ Goes came
    → Keeps (More inputs x) came.state (text ++ came.text)
one inputs s text (Entry e) came keeps wanted is =
    let line = wanted.0 in
    let line_is = wanted.1.only.is in
    subst (λ (c : Came Checker). Keeps (More inputs (Entry e)) c.state (text ++ c.text))
    (came_is (s.lines == 2000000)
    (saying (record { lines = s.lines + 1; stage = stage_on s.stage e }) (judged_text s.stage e))
    came is)
    (record {
      stage = stage_keeps s.stage line e keeps.stage line_is;
      lines =
          line_told s.stage (entries_of inputs) line e (none_yet s.stage keeps.stage) keeps.lines
          line_is;
      written = says s.stage line text e keeps.written line_is;
    })
one inputs s text x came keeps wanted is = let never : Past ≡ Goes came = is in absurd (cc)

judged :
    (s : Stage) (entries : List CheckEntry) (text : List ℕ) → KeepsStage s → Tells entries s
    → Says s text → HasJudged entries s text
judged (Finished c) entries text well_formed lines written =
    record { lines = lines; well_formed = well_formed; written = written }
judged Skipping entries text keeps lines written = written
judged (Reading c) entries text keeps lines written = written

pub has_judged :
    (inputs : Inputs CheckEntry) → IsTaken judges check_start inputs
    → HasJudged (entries_of inputs) (state_of judges check_start inputs).stage
    (text_of judges check_start inputs)
has_judged inputs taken =
    let kept =
    all_written judges Keeps one check_start inputs taken
    (record { stage = tt; lines = ([], refl); written = refl }) in
    judged (state_of judges check_start inputs).stage (entries_of inputs)
    (text_of judges check_start inputs) kept.stage kept.lines kept.written
