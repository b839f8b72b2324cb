-- A word whose bytes spell themselves.
use Rattle.std.proofs.Common.{◌≡◌, ◌≤◌, ◌/◌, ◌%◌, ◌&&◌, ℕ, zero, suc, Bool, true, false, Option}
use Rattle.std.proofs.Common.{Some, None, List, [], ◌∷◌, length, drop, get_or, option_map, refl, arith, ap, ◌∙◌}
use Rattle.std.proofs.Common.{◌<◌, ◌-◌, ◌++◌, nat_eq, take, eq-eqb, sym}
use Rattle.std.specs.Str.{bytes_eq}
use Rattle.std.specs.Prelude.{option_and_then, ◌==◌, if◌then◌else◌, slice_index}
use Rattle.std.proofs.lemmas.List.{take_all, length-drop}
use Rattle.std.proofs.lemmas.Bool.{and_parts}
use Rattle.std.proofs.lemmas.Bool.Decides.{nat_tests}
use Rattle.peg_model.specs.Text.{hex_digit, key_word}
use Rattle.peg_text.specs.declared.spelling.Form.TheVariants.{Word, Hex}
use Rattle.peg_text.specs.Reading.{pair_value, first_byte, is_begun_by, next_byte, spelled}
use Rattle.peg_text.specs.Reading.{spelling_of, is_plain, are_plain, escaped}

no_escape : (b : ℕ) → is_plain b ≡ true → (b == 37) ≡ false
no_escape b plain = grind (arith, nat_tests, plain)

pub plain_word : (w : List ℕ) → are_plain w ≡ true → key_word w ≡ w
plain_word [] plain = refl
plain_word (b ∷ w) plain =
    let parts = and_parts (is_plain b) (are_plain w) plain in
    ap (λ t. (if t then b ∷ [] else escaped b) ++ key_word w) parts.0
    ∙ ap (λ bytes. b ∷ bytes) (plain_word w parts.1)

-- ---- the first byte of a word, by what stands there

abbrev begun : ℕ → List ℕ → List ℕ → Option (ℕ × List ℕ)
begun b w s = if is_begun_by w s then Some (b, drop (length s) w) else None

never : (t : Bool) → (t && false) ≡ false
never true = refl
never false = refl

both_then :
    (o : Option (ℕ × List ℕ)) (u v : Bool)
    → (if u && (v && true) then o else None) ≡ (if u && v then o else None)
both_then o true true = refl
both_then o true false = refl
both_then o false v = refl

sign_apart : (b : ℕ) → true ≡ is_plain b → nat_eq 37 b ≡ false
sign_apart b plain = grind (arith, nat_tests, plain)

escaped_next :
    (t : Bool) (b high low : ℕ) (after : List ℕ) → t ≡ is_plain b
    → begun b (37 ∷ high ∷ low ∷ after) (if t then b ∷ [] else escaped b)
    ≡ (if t then None
    else
    (if high == hex_digit 65 (b / 16) && low == hex_digit 65 (b % 16) then Some (b, after)
    else None))
escaped_next true b high low after plain =
    ap (λ u. if u && true then Some (b, high ∷ low ∷ after) else None) (sign_apart b plain)
escaped_next false b high low after plain =
    both_then (Some (b, after)) (high == hex_digit 65 (b / 16)) (low == hex_digit 65 (b % 16))

pub next_escaped :
    (text : List ℕ) → 2 ≤ length text
    → next_byte Word (37 ∷ text)
    ≡ (if is_plain (pair_value (slice_index text 0) (slice_index text 1)) then None
    else
    (if slice_index text 0
    == hex_digit 65 (pair_value (slice_index text 0) (slice_index text 1) / 16)
    && slice_index text 1
    == hex_digit 65 (pair_value (slice_index text 0) (slice_index text 1) % 16)
    then Some (pair_value (slice_index text 0) (slice_index text 1), drop 2 text)
    else None))
next_escaped [] long = absurd (omega (arith, long))
next_escaped (high ∷ []) long = absurd (omega (arith, long))
next_escaped (high ∷ low ∷ after) long =
    escaped_next (is_plain (pair_value high low)) (pair_value high low) high low after refl

-- what stands behind two bytes, as it is cut
behind_two : (text : List ℕ) → take (length text - 2) (drop 2 text) ≡ drop 2 text
behind_two text = take_all (length text - 2) (drop 2 text) (omega (arith, length-drop 2 text))

pub escaped_is :
    (text : List ℕ) (byte : ℕ) → 2 ≤ length text
    → byte ≡ pair_value (slice_index text 0) (slice_index text 1) → is_plain byte ≡ false
    → (slice_index text 0 == hex_digit 65 (byte / 16)
    && slice_index text 1 == hex_digit 65 (byte % 16))
    ≡ true
    → Some (byte, take (length text - 2) (drop 2 text)) ≡ next_byte Word (37 ∷ text)
escaped_is text byte long is plain digits =
    let when : ℕ → Option (ℕ × List ℕ) =
    λ k. if slice_index text 0 == hex_digit 65 (k / 16)
    && slice_index text 1 == hex_digit 65 (k % 16) then Some (k, drop 2 text) else None in
    ap (λ rest. Some (byte, rest)) (behind_two text)
    ∙ sym
    (next_escaped text long ∙ ap (λ k. if is_plain k then None else when k) (sym is)
    ∙ ap (λ t. if t then None else when byte) plain
    ∙ ap (λ t. if t then Some (byte, drop 2 text) else None) digits)

short_next :
    (t : Bool) (b high : ℕ) → t ≡ is_plain b
    → begun b (37 ∷ high ∷ []) (if t then b ∷ [] else escaped b) ≡ None
short_next true b high plain =
    ap (λ u. if u && true then Some (b, high ∷ []) else None) (sign_apart b plain)
short_next false b high plain =
    ap (λ u. if u then Some (b, []) else None) (never (high == hex_digit 65 (b / 16)))

pub next_cut : (text : List ℕ) → length text < 2 → next_byte Word (37 ∷ text) ≡ None
next_cut [] short = refl
next_cut (high ∷ []) short =
    short_next (is_plain (pair_value high 0)) (pair_value high 0) high refl
next_cut (high ∷ low ∷ after) short = absurd (omega (arith, short))

odd_next :
    (t : Bool) (b : ℕ) (w : List ℕ) → t ≡ is_plain b → nat_eq b 37 ≡ false
    → begun b (b ∷ w) (if t then b ∷ [] else escaped b) ≡ (if t then Some (b, w) else None)
odd_next true b w plain other =
    ap (λ u. if u && true then Some (b, w) else None) (eq-eqb b b refl)
odd_next false b w plain other =
    ap
    (λ u. if u && bytes_eq (take 2 w) (hex_digit 65 (b / 16) ∷ hex_digit 65 (b % 16) ∷ [])
    then Some (b, drop 2 w) else None) other

pub next_unescaped :
    (b : ℕ) (w : List ℕ) → nat_eq b 37 ≡ false
    → next_byte Word (b ∷ w) ≡ (if is_plain b then Some (b, w) else None)
next_unescaped b w other =
    let first : first_byte Word (b ∷ w) ≡ b =
    ap (λ t. if t then pair_value (get_or (b ∷ w) 1 0) (get_or (b ∷ w) 2 0) else b) other in
    ap (λ x. begun x (b ∷ w) (spelling_of Word x)) first
    ∙ odd_next (is_plain b) b w refl other

pub next_pair :
    (text : List ℕ) → 2 ≤ length text
    → next_byte Hex text
    ≡ (if slice_index text 0
    == hex_digit 97 (pair_value (slice_index text 0) (slice_index text 1) / 16)
    && slice_index text 1
    == hex_digit 97 (pair_value (slice_index text 0) (slice_index text 1) % 16)
    then Some (pair_value (slice_index text 0) (slice_index text 1), drop 2 text)
    else None)
next_pair [] long = absurd (omega (arith, long))
next_pair (high ∷ []) long = absurd (omega (arith, long))
next_pair (high ∷ low ∷ after) long =
    both_then (Some (pair_value high low, after)) (high == hex_digit 97 (pair_value high low / 16))
    (low == hex_digit 97 (pair_value high low % 16))

pub pair_is :
    (text : List ℕ) (byte : ℕ) → 2 ≤ length text
    → byte ≡ pair_value (slice_index text 0) (slice_index text 1)
    → (slice_index text 0 == hex_digit 97 (byte / 16)
    && slice_index text 1 == hex_digit 97 (byte % 16))
    ≡ true
    → Some (byte, take (length text - 2) (drop 2 text)) ≡ next_byte Hex text
pair_is text byte long is digits =
    ap (λ rest. Some (byte, rest)) (behind_two text)
    ∙ sym
    (next_pair text long ∙ ap
    (λ k. if slice_index text 0 == hex_digit 97 (k / 16)
    && slice_index text 1 == hex_digit 97 (k % 16) then Some (k, drop 2 text) else None) (sym is)
    ∙ ap (λ t. if t then Some (byte, drop 2 text) else None) digits)

pub no_pair : (text : List ℕ) → length text < 2 → next_byte Hex text ≡ None
no_pair [] short = refl
no_pair (high ∷ []) short =
    ap (λ u. if u then Some (pair_value high 0, []) else None)
    (never (high == hex_digit 97 (pair_value high 0 / 16)))
no_pair (high ∷ low ∷ after) short = absurd (omega (arith, short))

-- ---- whole words

next_plain :
    (b : ℕ) (w : List ℕ) → is_plain b ≡ true → next_byte Word (b ∷ w) ≡ Some (b, w)
next_plain b w plain =
    next_unescaped b w (no_escape b plain) ∙ ap (λ t. if t then Some (b, w) else None) plain

pub plain_spelled :
    (n : ℕ) (w : List ℕ) → are_plain w ≡ true → length w ≤ n → spelled Word n w ≡ Some w
unfolding spelled
plain_spelled n [] plain few = refl
plain_spelled zero (b ∷ w) plain few = absurd (omega (arith, few))
plain_spelled (suc n) (b ∷ w) plain few =
    let parts = and_parts (is_plain b) (are_plain w) plain in
    ap (option_and_then (λ next. option_map (λ bytes. next.0 ∷ bytes) (spelled Word n next.1)))
    (next_plain b w parts.0)
    ∙ ap (option_map (λ bytes. b ∷ bytes)) (plain_spelled n w parts.1 (omega (arith, few)))
