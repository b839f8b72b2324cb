-- What a word says, as a function. A line is cut into words at each space.
--     words_of line      its words
--     number_of w, number_below limit w      the number that a word is
--     spelled form most w      the bytes that a word spells, at most so many of them
--     are_plain w      each byte of a word spells itself
--     escaped b      % and two digits
--     key_of, value_of most, content_of, hex_of most      a key, a value, a content and handed bytes
--     next_by f, both_by first second      what the next word says, and what two readers say in
--         turn
--     whole_of r      what was read, if no word is left
use Rattle.std.specs.Prelude.{◌+◌, ◌-◌, ◌*◌, ◌/◌, ◌%◌, ◌^◌, ℕ, zero, suc, Bool, true, not, ◌&&◌}
use Rattle.std.specs.Prelude.{◌||◌, ◌==◌}
use Rattle.std.specs.Prelude.{nat_lt, Option, Some, None, option_and_then, option_map, List, []}
use Rattle.std.specs.Prelude.{◌∷◌, length, take, drop, slice_index, if◌then◌else◌, codes}
use Rattle.std.specs.List.{slice_split}
use Rattle.std.specs.Str.{bytes_eq}
use Rattle.peg_name.specs.Limits.{is_between}
use Rattle.peg_name.specs.declared.value.Content.{Content}
use Rattle.peg_name.specs.declared.value.Content.TheVariants.{Absent, Present}
use Rattle.peg_model.specs.Text.{hex_digit, plain_or_escaped}
use Rattle.peg_text.specs.declared.spelling.Form.{Form}
use Rattle.peg_text.specs.declared.spelling.Form.TheVariants.{Word, Hex}

abbrev pub is_space : ℕ → Bool
is_space b = b == 32

abbrev pub words_of : List ℕ → List (List ℕ)
words_of line = slice_split is_space line

-- ---- numbers

-- a number is read on, digit by digit
abbrev pub number_on : ℕ → List ℕ → Option ℕ
number_on n [] = Some n
number_on n (b ∷ bs) =
    if is_between 48 57 b && nat_lt (n * 10 + (b - 48)) (2 ^ 64)
    then number_on (n * 10 + (b - 48)) bs
    else None

-- nothing, or a zero with more behind it
abbrev pub is_ill_begun : List ℕ → Bool
is_ill_begun w = length w == 0 || nat_lt 1 (length w) && slice_index w 0 == 48

abbrev pub number_of : List ℕ → Option ℕ
number_of w = if is_ill_begun w then None else number_on 0 w

abbrev pub below : ℕ → ℕ → Option ℕ
below limit n = if nat_lt n limit then Some n else None

abbrev pub number_below : ℕ → List ℕ → Option ℕ
number_below limit w = option_and_then (below limit) (number_of w)

-- ---- spelled bytes

abbrev pub lower_pair : ℕ → List ℕ
lower_pair b = hex_digit 97 (b / 16) ∷ hex_digit 97 (b % 16) ∷ []

abbrev pub spelling_of : Form → ℕ → List ℕ
spelling_of Word b = plain_or_escaped b
spelling_of Hex b = lower_pair b

-- the value of a digit of base 16, in letters of either case
abbrev pub digit_value : ℕ → ℕ
digit_value c =
    if is_between 48 57 c then c - 48
    else (if is_between 65 70 c then c - 55 else (if is_between 97 102 c then c - 87 else 0))

abbrev pub pair_value : ℕ → ℕ → ℕ
pair_value high low = 16 * digit_value high + digit_value low

-- the byte that a text begins with, if it begins with one
abbrev pub first_byte : Form → List ℕ → ℕ
first_byte Word w =
    if slice_index w 0 == 37 then pair_value (slice_index w 1) (slice_index w 2)
    else slice_index w 0
first_byte Hex w = pair_value (slice_index w 0) (slice_index w 1)

abbrev pub is_begun_by : List ℕ → List ℕ → Bool
is_begun_by w front = bytes_eq (take (length front) w) front

-- the first byte, and what stands behind its spelling
abbrev pub next_byte : Form → List ℕ → Option (ℕ × List ℕ)
next_byte form w =
    let b = first_byte form w in
    if is_begun_by w (spelling_of form b) then Some (b, drop (length (spelling_of form b)) w)
    else None

unfoldable pub spelled : Form → ℕ → List ℕ → Option (List ℕ)
spelled form n [] = Some []
spelled form zero (c ∷ w) = None
spelled form (suc n) (c ∷ w) =
    option_and_then (λ next. option_map (λ bytes. next.0 ∷ bytes) (spelled form n next.1))
    (next_byte form (c ∷ w))

abbrev pub is_plain : ℕ → Bool
is_plain b = is_between 33 126 b && not (b == 37)

-- how a byte is spelled that doesn't spell itself
abbrev pub escaped : ℕ → List ℕ
escaped b = 37 ∷ hex_digit 65 (b / 16) ∷ hex_digit 65 (b % 16) ∷ []

abbrev pub are_plain : List ℕ → Bool
are_plain [] = true
are_plain (b ∷ w) = is_plain b && are_plain w

-- ---- words

abbrev pub if_any : List ℕ → Option (List ℕ)
if_any bytes = if length bytes == 0 then None else Some bytes

abbrev pub key_of : List ℕ → Option (List ℕ)
key_of w = option_and_then if_any (spelled Word 32 w)

-- the word behind this letter
abbrev pub behind : ℕ → List ℕ → Option (List ℕ)
behind letter [] = None
behind letter (b ∷ w) = if b == letter then Some w else None

abbrev pub value_of : ℕ → List ℕ → Option (List ℕ)
value_of most w = option_and_then (spelled Word most) (behind 61 w)

abbrev pub content_of : List ℕ → Option Content
content_of w = if bytes_eq w (codes "-") then Some Absent else option_map Present (value_of 1024 w)

abbrev pub hex_of : ℕ → List ℕ → Option (List ℕ)
hex_of most w = option_and_then (spelled Hex most) (behind 120 w)

-- ---- the words that are left: each reader gives what it read and the words behind that

abbrev pub then_by :
    {X Y : Type 0} → Option (X × List (List ℕ)) → (X → List (List ℕ) → Option (Y × List (List ℕ)))
    → Option (Y × List (List ℕ))
then_by None f = None
then_by (Some r) f = f r.0 r.1

-- one word
abbrev pub next_by :
    {X : Type 0} → (List ℕ → Option X) → List (List ℕ) → Option (X × List (List ℕ))
next_by f [] = None
next_by f (w ∷ ws) = option_map (λ x. (x, ws)) (f w)

-- one after the other
abbrev pub both_by :
    {X Y : Type 0} → (List (List ℕ) → Option (X × List (List ℕ)))
    → (List (List ℕ) → Option (Y × List (List ℕ))) → List (List ℕ)
    → Option ((X × Y) × List (List ℕ))
both_by first second ws =
    then_by (first ws) (λ x left. then_by (second left) (λ y end. Some ((x, y), end)))

-- what was read, if no word is left
abbrev pub whole_of : {X : Type 0} → Option (X × List (List ℕ)) → Option X
whole_of None = None
whole_of (Some r) = if length r.1 == 0 then Some r.0 else None
