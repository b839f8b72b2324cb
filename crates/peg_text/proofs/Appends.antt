-- One text printed behind another.
use Rattle.std.proofs.Common.{◌≡◌, ℕ, List, ◌++◌, append_assoc, ◌∙◌, ap, sym}

-- behind a, first x, and then a word and what follows it
pub then_word : (w m a b c x : List ℕ) → b ≡ a ++ x → c ≡ b ++ (w ++ m) → c ≡ a ++ (x ++ w ++ m)
then_word w m a b c x first second =
    second ∙ ap (λ t. t ++ (w ++ m)) first ∙ append_assoc a x (w ++ m) ∙ ap (λ t. a ++ t)
    (sym (append_assoc x w m))

-- behind a, first x, and then y
pub then_text : (a b c x y : List ℕ) → b ≡ a ++ x → c ≡ b ++ y → c ≡ a ++ (x ++ y)
then_text a b c x y first second = second ∙ ap (λ t. t ++ y) first ∙ append_assoc a x y
