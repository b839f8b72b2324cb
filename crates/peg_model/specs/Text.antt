-- The words of texts: numbers, keys, values and contents.
--     key_word key      the bytes of a key, each as it is or as % and two digits
--     value_word, content_word      a value behind =, and - where there is none
--     hex_word bytes      x and two digits for each byte
use Rattle.std.specs.Prelude.{◌+◌, ◌-◌, ◌/◌, ◌%◌, ℕ, not, ◌&&◌, ◌==◌, nat_lt, List, [], ◌∷◌, ◌++◌}
use Rattle.std.specs.Prelude.{flat_map, if◌then◌else◌, codes, decimal}
use Rattle.peg_name.specs.Limits.{is_between}
use Rattle.peg_name.specs.declared.value.Content.{Content}
use Rattle.peg_name.specs.declared.value.Content.TheVariants.{Absent, Present}

-- a digit of base 16, with its letters from this one on
abbrev pub hex_digit : ℕ → ℕ → ℕ
hex_digit letter n = if nat_lt n 10 then 48 + n else letter + (n - 10)

abbrev pub plain_or_escaped : ℕ → List ℕ
plain_or_escaped b =
    if is_between 33 126 b && not (b == 37) then b ∷ []
    else 37 ∷ hex_digit 65 (b / 16) ∷ hex_digit 65 (b % 16) ∷ []

abbrev pub key_word : List ℕ → List ℕ
key_word bytes = flat_map plain_or_escaped bytes

abbrev pub value_word : List ℕ → List ℕ
value_word bytes = 61 ∷ key_word bytes

abbrev pub content_word : Content → List ℕ
content_word Absent = codes "-"
content_word (Present value) = value_word value

abbrev pub hex_word : List ℕ → List ℕ
hex_word bytes = 120 ∷ flat_map (λ b. hex_digit 97 (b / 16) ∷ hex_digit 97 (b % 16) ∷ []) bytes

-- a word and a number behind it
abbrev pub with_number : List ℕ → ℕ → List ℕ
with_number word n = word ++ decimal n
