-- A number behind the head of a line, and the line of an order.
use Rattle.std.proofs.Common.{◌≡◌, ◌<◌, ◌^◌, ◌++◌, ℕ, true, false, Option, Some, None, IfSome, List}
use Rattle.std.proofs.Common.{length, take, drop, bytes_eq, decimal, codes, sym, ap, ◌∙◌, arith, ◌-◌}
use Rattle.std.proofs.Common.{[], ◌∷◌}
use Rattle.std.proofs.lemmas.Fmt.{decimal_digit}
use Rattle.std.proofs.lemmas.List.{length-append}
use Rattle.peg_model.specs.Text.{key_word}
use Rattle.peg_model.specs.Trace.{order_text}
use Rattle.std.proofs.Math.Seq.{take-append_seam, drop-append_seam}
use Rattle.std.proofs.lemmas.List.{take-append-drop}
use Rattle.std.specs.Cmp.Lexicographic.{nat_list_eq_equiv}
use Rattle.peg_text.specs.Reading.{number_of}
use Rattle.peg_text.proofs.Numbers.{number_law}
use Rattle.peg_history.proofs.Grouping.{same}

pub behind_sound :
    (head line rest : List ℕ) (r : Option ℕ) → bytes_eq (take (length head) line) head ≡ true
    → rest ≡ drop (length head) line → r ≡ number_of rest
    → IfSome r (λ n. line ≡ head ++ decimal n)
behind_sound head line rest None begins is read = tt
behind_sound head line rest (Some n) begins is read =
    sym (take-append-drop (length head) line)
    ∙ ap (λ xs. xs ++ drop (length head) line) (same (take (length head) line) head begins)
    ∙ ap (λ xs. head ++ xs) (sym is ∙ (number_law.sound rest n (sym read)).0)

pub behind_complete :
    (head line rest : List ℕ) (r : Option ℕ) → rest ≡ drop (length head) line
    → r ≡ number_of rest → (n : ℕ) → n < 2 ^ 64 → line ≡ head ++ decimal n → r ≡ Some n
behind_complete head line rest r is read n small spelled =
    read
    ∙ ap number_of
    (is ∙ ap (drop (length head)) spelled ∙ drop-append_seam head (decimal n))
    ∙ number_law.complete n small

pub behind_none :
    (head line : List ℕ) (r : Option ℕ) → bytes_eq (take (length head) line) head ≡ false
    → (n : ℕ) → n < 2 ^ 64 → line ≡ head ++ decimal n → r ≡ Some n
behind_none head line r begins n small spelled =
    let front : take (length head) line ≡ head =
    ap (take (length head)) spelled ∙ take-append_seam head (decimal n) in
    let yes : bytes_eq (take (length head) line) head ≡ true =
    ap (λ xs. bytes_eq xs head) front ∙ nat_list_eq_equiv.refl head in
    let clash : true ≡ false = sym yes ∙ begins in
    absurd (cc clash)

-- ---- the line of an order

head_of : List ℕ → List ℕ
head_of key = codes "order " ++ key_word key ++ codes " "

-- what is printed of no place, without its last byte
head_is :
    (key shown : List ℕ) → shown ≡ order_text key 0 → take (length shown - 1) shown ≡ head_of key
unfolding head_of
head_is key shown is =
    let whole : shown ≡ head_of key ++ 48 ∷ [] =
    is ∙ ap (λ xs. head_of key ++ xs) (decimal_digit 0 (omega arith)) in
    let count : length shown - 1 ≡ length (head_of key) =
    omega (arith, ap length whole, length-append (head_of key) (48 ∷ [])) in
    ap (λ n. take n shown) count ∙ ap (take (length (head_of key))) whole
    ∙ take-append_seam (head_of key) (48 ∷ [])

pub count_sound :
    (key shown line head : List ℕ) (r : Option ℕ) → shown ≡ order_text key 0
    → IfSome r (λ n. line ≡ head ++ decimal n) → head ≡ take (length shown - 1) shown
    → IfSome r (λ n. line ≡ order_text key n)
unfolding head_of
count_sound key shown line head None is found same = tt
count_sound key shown line head (Some n) is found same =
    found ∙ ap (λ xs. xs ++ decimal n) (same ∙ head_is key shown is)

pub count_complete :
    (key shown line head : List ℕ) (r : Option ℕ) → shown ≡ order_text key 0
    → ((n : ℕ) → n < 2 ^ 64 → line ≡ head ++ decimal n → r ≡ Some n)
    → head ≡ take (length shown - 1) shown → (n : ℕ) → n < 2 ^ 64 → line ≡ order_text key n
    → r ≡ Some n
unfolding head_of
count_complete key shown line head r is found same n small spelled =
    found n small (spelled ∙ ap (λ xs. xs ++ decimal n) (sym (same ∙ head_is key shown is)))
