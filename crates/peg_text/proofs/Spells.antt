-- A word spells bytes just where it is their spelling.
use Rattle.std.proofs.Common.{◌≡◌, ◌<◌, ◌≤◌, ◌/◌, ◌%◌, ℕ, zero, suc, Bool, true, false, cond, not}
use Rattle.std.proofs.Common.{◌&&◌, Option, Some, None, List, [], ◌∷◌, ◌++◌, length, take, drop}
use Rattle.std.proofs.Common.{get_or, option_map, refl, arith, ap, sym, ◌∙◌, subst}
use Rattle.std.specs.Prelude.{option_and_then, flat_map, codes, ◌==◌, if◌then◌else◌}
use Rattle.std.specs.Str.{bytes_eq}
use Rattle.std.proofs.lemmas.List.{take-append-drop, take_at, drop_at}
use Rattle.std.proofs.lemmas.Option.{none-some, same_Some}
use Rattle.std.proofs.lemmas.Slice.Eq.{bytes_eq-Decides}
use Rattle.std.proofs.lemmas.Bool.Decides.{nat_tests}
use Rattle.peg_name.specs.Limits.{is_between}
use Rattle.peg_name.specs.declared.value.Content.{Content}
use Rattle.peg_name.specs.declared.value.Content.TheVariants.{Absent, Present}
use Rattle.peg_model.specs.Text.{hex_digit, plain_or_escaped, key_word, value_word, content_word}
use Rattle.peg_model.specs.Text.{hex_word}
use Rattle.peg_model.specs.Schedule.{AreBytes, IsKeyOfBytes}
use Rattle.peg_model.specs.Judge.{ContentOfBytes}
use Rattle.peg_text.specs.declared.spelling.Form.{Form}
use Rattle.peg_text.specs.declared.spelling.Form.TheVariants.{Word, Hex}
use Rattle.peg_text.specs.Reading.{spelling_of, digit_value, pair_value, first_byte, is_begun_by}
use Rattle.peg_text.specs.Reading.{next_byte, spelled, if_any, key_of, behind, value_of}
use Rattle.peg_text.specs.Reading.{content_of}
use Rattle.peg_text.specs.Reading.{hex_of}
use Rattle.peg_text.proofs.Readers.{if_passed, if_failed, by_test, map_some, and_then_some}
use Rattle.peg_text.proofs.Readers.{from_bytes_eq, WordLaw}

-- ---- one byte

digit_value_upper : (n : ℕ) → n < 16 → digit_value (hex_digit 65 n) ≡ n
digit_value_upper n small = grind (arith, nat_tests)

digit_value_lower : (n : ℕ) → n < 16 → digit_value (hex_digit 97 n) ≡ n
digit_value_lower n small = grind (arith, nat_tests)

pair_value_upper :
    (b : ℕ) → b < 256 → pair_value (hex_digit 65 (b / 16)) (hex_digit 65 (b % 16)) ≡ b
pair_value_upper b small =
    omega
    (arith, digit_value_upper (b / 16) (omega arith), digit_value_upper (b % 16) (omega arith))

pair_value_lower :
    (b : ℕ) → b < 256 → pair_value (hex_digit 97 (b / 16)) (hex_digit 97 (b % 16)) ≡ b
pair_value_lower b small =
    omega
    (arith, digit_value_lower (b / 16) (omega arith), digit_value_lower (b % 16) (omega arith))

digit_value_small : (c : ℕ) → digit_value c < 16
digit_value_small c = grind (arith, nat_tests)

-- a plain byte isn't the sign of an escape
first_plain :
    (b : ℕ) (t : Bool) (rest : List ℕ) → t ≡ (is_between 33 126 b && not (b == 37)) → b < 256
    → first_byte Word
    ((if t then b ∷ [] else 37 ∷ hex_digit 65 (b / 16) ∷ hex_digit 65 (b % 16) ∷ [])
    ++ rest)
    ≡ b
first_plain b true rest plain small = grind (arith, nat_tests)
first_plain b false rest plain small = pair_value_upper b small

pub first_spelled :
    (form : Form) (b : ℕ) (rest : List ℕ) → b < 256
    → first_byte form (spelling_of form b ++ rest) ≡ b
first_spelled Word b rest small =
    first_plain b (is_between 33 126 b && not (b == 37)) rest refl small
first_spelled Hex b rest small = pair_value_lower b small

pub begun_law :
    (w front : List ℕ) → is_begun_by w front ≡ true → w ≡ front ++ drop (length front) w
begun_law w front e =
    sym (take-append-drop (length front) w) ∙ ap (λ t. t ++ drop (length front) w)
    (from_bytes_eq (take (length front) w) front e)

pub begun_by_front : (front rest : List ℕ) → is_begun_by (front ++ rest) front ≡ true
begun_by_front front rest =
    (bytes_eq-Decides (take (length front) (front ++ rest)) front).1
    (take_at front rest (length front) refl)

-- what a byte above 255 is spelled by begins with the sign of an escape
escaped_first : (b : ℕ) (rest : List ℕ) → 256 ≤ b → get_or (plain_or_escaped b ++ rest) 0 0 ≡ 37
escaped_first b rest big =
    let plain : (is_between 33 126 b && not (b == 37)) ≡ false = grind (arith, nat_tests) in
    rw plain refl

not_big : (x : ℕ) → (256 ≤ x → x ≡ 37) → x < 256
not_big x sign = grind (arith, sign)

first_word_small :
    (t : Bool) (w rest : List ℕ)
    → w
    ≡ plain_or_escaped (if t then pair_value (get_or w 1 0) (get_or w 2 0) else get_or w 0 0)
    ++ rest
    → (if t then pair_value (get_or w 1 0) (get_or w 2 0) else get_or w 0 0) < 256
first_word_small true w rest e =
    omega (arith, digit_value_small (get_or w 1 0), digit_value_small (get_or w 2 0))
first_word_small false w rest e =
    not_big (get_or w 0 0)
    (λ big. ap (λ v. get_or v 0 0) e ∙ escaped_first (get_or w 0 0) rest big)

first_small :
    (form : Form) (w rest : List ℕ) → w ≡ spelling_of form (first_byte form w) ++ rest
    → first_byte form w < 256
first_small Word w rest e = first_word_small (get_or w 0 0 == 37) w rest e
first_small Hex w rest e =
    omega (arith, digit_value_small (get_or w 0 0), digit_value_small (get_or w 1 0))

pub next_byte_sound :
    (form : Form) (w : List ℕ) (b : ℕ) (after : List ℕ) → next_byte form w ≡ Some (b, after)
    → (w ≡ spelling_of form b ++ after) × (b < 256)
next_byte_sound form w b after e =
    let passed =
    if_passed (is_begun_by w (spelling_of form (first_byte form w)))
    (Some (first_byte form w, drop (length (spelling_of form (first_byte form w))) w))
    (b, after) e in
    let same :
    (first_byte form w, drop (length (spelling_of form (first_byte form w))) w)
    ≡ (b, after) = same_Some _ _ passed.1 in
    let is : first_byte form w ≡ b = ap (λ p. p.0) same in
    let begun = begun_law w (spelling_of form (first_byte form w)) passed.0 in (
      begun ∙ ap (λ t. spelling_of form (first_byte form w) ++ t) (ap (λ p. p.1) same) ∙ ap
          (λ k. spelling_of form k ++ after) is,
      subst (λ (k : ℕ). k < 256) is (first_small form w _ begun),
    )

pub next_byte_complete :
    (form : Form) (b : ℕ) (after : List ℕ) → b < 256
    → next_byte form (spelling_of form b ++ after) ≡ Some (b, after)
next_byte_complete form b after small =
    rw (
      first_spelled form b after small,
      begun_by_front (spelling_of form b) after,
      drop_at
          (spelling_of form b) after (length (spelling_of form b)) refl,
    )
    refl

-- ---- all bytes

pub spelled_sound :
    (form : Form) (n : ℕ) (w bytes : List ℕ) → spelled form n w ≡ Some bytes
    → (w ≡ flat_map (spelling_of form) bytes) × AreBytes bytes × (length bytes ≤ n)
unfolding spelled
spelled_sound form n [] bytes e =
    subst (λ (k : List ℕ). ([] ≡ flat_map (spelling_of form) k) × AreBytes k × (length k ≤ n))
    (same_Some [] bytes e) (refl, tt, omega arith)
spelled_sound form zero (c ∷ w) bytes e = absurd (none-some bytes e)
spelled_sound form (suc n) (c ∷ w) bytes e =
    let one =
    and_then_some (λ next. option_map (λ rest. next.0 ∷ rest) (spelled form n next.1))
    (next_byte form (c ∷ w)) bytes e in
    let more = map_some (λ rest. one.0.0 ∷ rest) (spelled form n one.0.1) bytes one.2 in
    let first = next_byte_sound form (c ∷ w) one.0.0 one.0.1 one.1 in
    let rest = spelled_sound form n one.0.1 more.0 more.1 in
    subst
    (λ (k : List ℕ). ((c ∷ w) ≡ flat_map (spelling_of form) k) × AreBytes k ×
    (length k ≤ suc n))
    more.2 (
      first.0 ∙ ap (λ t. spelling_of form one.0.0 ++ t) rest.0,
      (first.1, rest.1),
      omega
          (arith, rest.2),
    )

-- one more byte, where there is room for it
spelled_next :
    (form : Form) (n b : ℕ) (w rest : List ℕ) (answer : Option (List ℕ))
    → next_byte form w ≡ Some (b, rest) → 0 < length w → spelled form n rest ≡ answer
    → spelled form (suc n) w ≡ option_map (λ bytes. b ∷ bytes) answer
unfolding spelled
spelled_next form n b [] rest answer next some e = absurd (omega arith)
spelled_next form n b (c ∷ w) rest answer next some e =
    ap (option_and_then (λ p. option_map (λ bytes. p.0 ∷ bytes) (spelled form n p.1))) next ∙ ap
    (option_map (λ bytes. b ∷ bytes)) e

some_plain :
    (t : Bool) (b : ℕ) (rest : List ℕ)
    → 0
    < length
    ((if t then b ∷ [] else 37 ∷ hex_digit 65 (b / 16) ∷ hex_digit 65 (b % 16) ∷ [])
    ++ rest)
some_plain true b rest = omega arith
some_plain false b rest = omega arith

some_spelled : (form : Form) (b : ℕ) (rest : List ℕ) → 0 < length (spelling_of form b ++ rest)
some_spelled Word b rest = some_plain (is_between 33 126 b && not (b == 37)) b rest
some_spelled Hex b rest = omega arith

pub spelled_complete :
    (form : Form) (n : ℕ) (bytes : List ℕ) → AreBytes bytes → length bytes ≤ n
    → spelled form n (flat_map (spelling_of form) bytes) ≡ Some bytes
unfolding spelled
spelled_complete form n [] all few = refl
spelled_complete form zero (b ∷ bytes) all few = absurd (omega arith)
spelled_complete form (suc n) (b ∷ bytes) all few =
    spelled_next form n b (spelling_of form b ++ flat_map (spelling_of form) bytes)
    (flat_map (spelling_of form) bytes) (Some bytes)
    (next_byte_complete form b (flat_map (spelling_of form) bytes) all.0) (some_spelled form b _)
    (spelled_complete form n bytes all.1 (omega arith))

-- ---- words

pub key_law : WordLaw key_of key_word IsKeyOfBytes
key_law = record {
  sound = λ w key e.
      let got = and_then_some if_any (spelled Word 32 w) key e in
      let some = if_failed (length got.0 == 0) (Some got.0) key got.2 in
      let said = spelled_sound Word 32 w got.0 got.1 in
      let long : 1 ≤ length got.0 = grind (arith, nat_tests, some.0) in
      subst (λ (k : List ℕ). (w ≡ key_word k) × IsKeyOfBytes k) (same_Some got.0 key some.1)
      (said.0, ((long, said.2), said.1));
  complete = λ key ok.
      let some : (length key == 0) ≡ false = grind (arith, nat_tests, ok.0.0) in
      ap (option_and_then if_any) (spelled_complete Word 32 key ok.1 ok.0.1) ∙ ap
      (λ b. cond b None (Some key)) some;
}

pub behind_sound : (letter : ℕ) (w rest : List ℕ) → behind letter w ≡ Some rest → w ≡ letter ∷ rest
behind_sound letter [] rest e = absurd (none-some rest e)
behind_sound letter (b ∷ w) rest e =
    let passed = if_passed (b == letter) (Some w) rest e in
    let same : b ≡ letter = grind (arith, nat_tests, passed.0) in
    ap (λ c. c ∷ w) same ∙ ap (λ t. letter ∷ t) (same_Some w rest passed.1)

behind_letter :
    (form : Form) (letter most : ℕ) (w bytes : List ℕ)
    → option_and_then (spelled form most) (behind letter w) ≡ Some bytes
    → (w ≡ letter ∷ flat_map (spelling_of form) bytes) × AreBytes bytes × (length bytes ≤ most)
behind_letter form letter most w bytes e =
    let got = and_then_some (spelled form most) (behind letter w) bytes e in
    let said = spelled_sound form most got.0 bytes got.2 in
    (behind_sound letter w got.0 got.1 ∙ ap (λ t. letter ∷ t) said.0, said.1, said.2)

pub value_law :
    (most : ℕ)
    → WordLaw (value_of most) value_word (λ value. (length value ≤ most) × AreBytes value)
value_law most = record {
  sound =
      λ w value e. let said = behind_letter Word 61 most w value e in (said.0, (said.2, said.1));
  complete = λ value ok. spelled_complete Word most value ok.1 ok.0;
}

pub hex_law :
    (most : ℕ)
    → WordLaw (hex_of most) hex_word (λ bytes. (length bytes ≤ most) × AreBytes bytes)
hex_law most = record {
  sound =
      λ w bytes e. let said = behind_letter Hex 120 most w bytes e in (said.0, (said.2, said.1));
  complete = λ bytes ok. spelled_complete Hex most bytes ok.1 ok.0;
}

content_sound :
    (w : List ℕ) (content : Content) → content_of w ≡ Some content
    → (w ≡ content_word content) × ContentOfBytes content
content_sound w content e =
    by_test (bytes_eq w (codes "-")) (Some Absent) (option_map Present (value_of 1024 w)) content e
    (λ absent is. subst (λ (k : Content). (w ≡ content_word k) × ContentOfBytes k)
    (same_Some Absent content is) (from_bytes_eq w (codes "-") absent, tt))
    (λ other is.
    let got = map_some Present (value_of 1024 w) content is in
    let said = (value_law 1024).sound w got.0 got.1 in
    subst (λ (k : Content). (w ≡ content_word k) × ContentOfBytes k) got.2 (said.0, said.1))

content_complete :
    (content : Content) → ContentOfBytes content → content_of (content_word content) ≡ Some content
content_complete Absent ok = refl
content_complete (Present value) ok = ap (option_map Present) ((value_law 1024).complete value ok)

pub content_law : WordLaw content_of content_word ContentOfBytes
content_law = record { sound = content_sound; complete = content_complete }
