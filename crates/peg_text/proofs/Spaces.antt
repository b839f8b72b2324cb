-- Words without spaces: a line that joins them is cut into them again.
use Rattle.std.proofs.Common.{◌≡◌, ◌<◌, ◌≤◌, ◌/◌, ◌%◌, ◌^◌, ℕ, zero, suc, Bool, true, false, not}
use Rattle.std.proofs.Common.{◌&&◌, List, [], ◌∷◌, ◌++◌, refl, arith, ap, ◌∙◌}
use Rattle.std.specs.Prelude.{decimal, flat_map, ◌==◌, if◌then◌else◌, All}
use Rattle.std.specs.List.{list_all, join_with_byte, AllByRecursion}
use Rattle.std.specs.Str.{all_ascii_digits}
use Rattle.std.proofs.lemmas.List.Splits.{slice_split_none, slice_split_at}
use Rattle.std.proofs.lemmas.List.Splits.{join_with_byte-slice_split}
use Rattle.std.proofs.lemmas.Bool.Decides.{nat_tests}
use Rattle.peg_name.specs.Limits.{is_between}
use Rattle.peg_name.specs.declared.value.Content.{Content}
use Rattle.peg_name.specs.declared.value.Content.TheVariants.{Absent, Present}
use Rattle.peg_model.specs.Text.{hex_digit, key_word, value_word, content_word, hex_word}
use Rattle.peg_text.specs.declared.spelling.Form.{Form}
use Rattle.peg_text.specs.declared.spelling.Form.TheVariants.{Word, Hex}
use Rattle.peg_text.specs.Reading.{is_space, words_of, spelling_of}
use Rattle.peg_text.proofs.Numbers.{decimal_digits}
use Rattle.peg_text.proofs.Readers.{both_true}

abbrev pub is_spaceless : List ℕ → Bool
is_spaceless w = list_all (λ b. not (is_space b)) w

abbrev pub AreSpaceless : List (List ℕ) → Type 0
AreSpaceless ws = AllByRecursion (λ w. is_spaceless w ≡ true) ws

both_hold : (a b : Bool) → a ≡ true → b ≡ true → (a && b) ≡ true
both_hold a b e f = ap (λ t. t && b) e ∙ f

spaced : (t : Bool) → not t ≡ true → t ≡ false
spaced true e = absurd (cc)
spaced false e = refl

spaceless_all : (w : List ℕ) → is_spaceless w ≡ true → All (λ b. is_space b ≡ false) w
spaceless_all [] e k d less = absurd (omega arith)
spaceless_all (b ∷ w) e zero d less =
    spaced (is_space b) (both_true (not (is_space b)) (is_spaceless w) e).0
spaceless_all (b ∷ w) e (suc k) d less =
    spaceless_all w (both_true (not (is_space b)) (is_spaceless w) e).1 k d (omega arith)

pub spaceless_more :
    (v w : List ℕ) → is_spaceless v ≡ true → is_spaceless w ≡ true → is_spaceless (v ++ w) ≡ true
spaceless_more [] w e f = f
spaceless_more (b ∷ v) w e f =
    let parts = both_true (not (is_space b)) (is_spaceless v) e in
    both_hold _ _ parts.0 (spaceless_more v w parts.1 f)

digits_spaceless : (w : List ℕ) → all_ascii_digits w ≡ true → is_spaceless w ≡ true
digits_spaceless [] e = refl
digits_spaceless (b ∷ w) e =
    let parts = both_true (is_between 48 57 b) (all_ascii_digits w) e in
    both_hold _ _ (grind (arith, nat_tests, parts.0)) (digits_spaceless w parts.1)

pub decimal_spaceless : (n : ℕ) → n < 2 ^ 64 → is_spaceless (decimal n) ≡ true
decimal_spaceless n small = digits_spaceless (decimal n) (decimal_digits n small)

digit_spaceless : (letter n : ℕ) → 33 ≤ letter → not (is_space (hex_digit letter n)) ≡ true
digit_spaceless letter n big = grind (arith, nat_tests)

plain_spaceless :
    (t : Bool) (b : ℕ) → t ≡ (is_between 33 126 b && not (b == 37))
    → is_spaceless
    (if t then b ∷ [] else 37 ∷ hex_digit 65 (b / 16) ∷ hex_digit 65 (b % 16) ∷ [])
    ≡ true
plain_spaceless true b e = grind (arith, nat_tests)
plain_spaceless false b e =
    both_hold _ _ (digit_spaceless 65 (b / 16) (omega arith))
    (both_hold _ _ (digit_spaceless 65 (b % 16) (omega arith)) refl)

byte_spaceless : (form : Form) (b : ℕ) → is_spaceless (spelling_of form b) ≡ true
byte_spaceless Word b = plain_spaceless (is_between 33 126 b && not (b == 37)) b refl
byte_spaceless Hex b =
    both_hold _ _ (digit_spaceless 97 (b / 16) (omega arith))
    (both_hold _ _ (digit_spaceless 97 (b % 16) (omega arith)) refl)

spelled_spaceless :
    (form : Form) (bytes : List ℕ) → is_spaceless (flat_map (spelling_of form) bytes) ≡ true
spelled_spaceless form [] = refl
spelled_spaceless form (b ∷ bytes) =
    spaceless_more (spelling_of form b) (flat_map (spelling_of form) bytes) (byte_spaceless form b)
    (spelled_spaceless form bytes)

pub key_spaceless : (key : List ℕ) → is_spaceless (key_word key) ≡ true
key_spaceless key = spelled_spaceless Word key

pub value_spaceless : (value : List ℕ) → is_spaceless (value_word value) ≡ true
value_spaceless value = spelled_spaceless Word value

pub hex_spaceless : (bytes : List ℕ) → is_spaceless (hex_word bytes) ≡ true
hex_spaceless bytes = spelled_spaceless Hex bytes

pub content_spaceless : (content : Content) → is_spaceless (content_word content) ≡ true
content_spaceless Absent = refl
content_spaceless (Present value) = value_spaceless value

-- the first word, and those behind it
pub words_of-cons :
    (w line : List ℕ) → is_spaceless w ≡ true → words_of (w ++ 32 ∷ line) ≡ w ∷ words_of line
words_of-cons w line e = slice_split_at is_space w 32 line (spaceless_all w e) refl

pub words_of-join :
    (w : List ℕ) (ws : List (List ℕ)) → AreSpaceless (w ∷ ws)
    → words_of (join_with_byte 32 (w ∷ ws)) ≡ w ∷ ws
words_of-join w [] all = slice_split_none is_space w (spaceless_all w all.0)
words_of-join w (v ∷ ws) all =
    slice_split_at is_space w 32 (join_with_byte 32 (v ∷ ws)) (spaceless_all w all.0) refl ∙ ap
    (λ t. w ∷ t) (words_of-join v ws all.1)

pub join-words_of : (line : List ℕ) → join_with_byte 32 (words_of line) ≡ line
join-words_of line = join_with_byte-slice_split 32 line
