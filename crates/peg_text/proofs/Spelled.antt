-- A word is read byte by byte: what is read so far, and what the rest spells.
use Rattle.std.proofs.Common.{◌≡◌, ◌<◌, ◌-◌, ℕ, zero, suc, Option, Some, None, List, [], ◌∷◌, ◌++◌}
use Rattle.std.proofs.Common.{length, option_map, refl, arith, ap, sym, ◌∙◌, append_assoc}
use Rattle.std.proofs.Common.{length-append}
use Rattle.std.proofs.lemmas.List.{append-nil}
use Rattle.std.specs.Prelude.{option_and_then}
use Rattle.peg_text.specs.declared.spelling.Form.{Form}
use Rattle.peg_text.specs.Reading.{next_byte, spelled}

-- what the bytes so far and the rest come to
abbrev pub Comes : Form → ℕ → List ℕ → List ℕ → Option (List ℕ) → Type 0
Comes form most held rest answer =
    option_map (λ bytes. held ++ bytes) (spelled form (most - length held) rest) ≡ answer

spelled_begun :
    (form : Form) (n : ℕ) (rest : List ℕ) → length rest ≡ 0 → spelled form n rest ≡ Some []
unfolding spelled
spelled_begun form n [] e = refl
spelled_begun form n (c ∷ rest) e = absurd (omega arith)

-- with no room for one more byte
spelled_full :
    (form : Form) (n : ℕ) (rest : List ℕ) → n ≡ 0 → 0 < length rest → spelled form n rest ≡ None
unfolding spelled
spelled_full form zero [] e some = absurd (omega arith)
spelled_full form zero (c ∷ rest) e some = refl
spelled_full form (suc n) rest e some = absurd (omega arith)

spelled_more :
    (form : Form) (n m : ℕ) (rest : List ℕ) → m ≡ suc n → 0 < length rest
    → spelled form m rest
    ≡ option_and_then (λ next. option_map (λ bytes. next.0 ∷ bytes) (spelled form n next.1))
    (next_byte form rest)
unfolding spelled
spelled_more form n zero rest e some = absurd (omega arith)
spelled_more form n (suc m) [] e some = absurd (omega arith)
spelled_more form n (suc m) (c ∷ rest) e some =
    let same : m ≡ n = omega arith in
    ap
    (λ k. option_and_then (λ next. option_map (λ bytes. next.0 ∷ bytes)
    (spelled form k next.1)) (next_byte form (c ∷ rest)))
    same

onto_nothing : (o : Option (List ℕ)) → option_map (λ bytes. [] ++ bytes) o ≡ o
onto_nothing None = refl
onto_nothing (Some bytes) = refl

onto_more :
    (held : List ℕ) (b : ℕ) (o : Option (List ℕ))
    → option_map (λ bytes. (held ++ b ∷ []) ++ bytes) o
    ≡ option_map (λ bytes. held ++ bytes) (option_map (λ bytes. b ∷ bytes) o)
onto_more held b None = refl
onto_more held b (Some bytes) = ap Some (append_assoc held (b ∷ []) bytes)

module _ (form : Form) (most : ℕ) where
  pub begun : (word : List ℕ) → Comes form most [] word (spelled form most word)
  begun word =
      ap (λ n. option_map (λ bytes. [] ++ bytes) (spelled form n word)) (omega arith) ∙
      onto_nothing (spelled form most word)

  pub whole :
      (held rest : List ℕ) (answer : Option (List ℕ)) → Comes form most held rest answer
      → length rest ≡ 0 → Some held ≡ answer
  whole held rest answer comes none =
      sym
      (ap (option_map (λ bytes. held ++ bytes)) (spelled_begun form (most - length held) rest
      none) ∙ ap Some (append-nil held))
      ∙ comes

  pub full :
      (held rest : List ℕ) (answer : Option (List ℕ)) → Comes form most held rest answer
      → 0 < length rest → length held ≡ most → None ≡ answer
  full held rest answer comes some e =
      sym
      (ap (option_map (λ bytes. held ++ bytes)) (spelled_full form (most - length held) rest
      (omega arith) some))
      ∙ comes

  pub stopped :
      (held rest : List ℕ) (answer : Option (List ℕ)) → Comes form most held rest answer
      → 0 < length rest → length held < most → next_byte form rest ≡ None → None ≡ answer
  stopped held rest answer comes some room none =
      sym
      (ap (option_map (λ bytes. held ++ bytes)) (spelled_more form (most - length held - 1)
      (most - length held) rest (omega arith) some ∙ ap
      (option_and_then (λ next. option_map (λ bytes. next.0 ∷ bytes)
      (spelled form (most - length held - 1) next.1))) none))
      ∙ comes

  pub went_on :
      (held rest : List ℕ) (answer : Option (List ℕ)) (b : ℕ) (after : List ℕ)
      → Comes form most held rest answer → 0 < length rest → length held < most
      → next_byte form rest ≡ Some (b, after) → Comes form most (held ++ b ∷ []) after answer
  went_on held rest answer b after comes some room is =
      let left :
      most - length (held ++ b ∷ [])
      ≡ most - length held - 1 = simp length-append (omega arith) in
      ap (λ n. option_map (λ bytes. (held ++ b ∷ []) ++ bytes) (spelled form n after)) left
      ∙ onto_more held b (spelled form (most - length held - 1) after)
      ∙ sym
      (ap (option_map (λ bytes. held ++ bytes)) (spelled_more form (most - length held - 1)
      (most - length held) rest (omega arith) some ∙ ap
      (option_and_then (λ next. option_map (λ bytes. next.0 ∷ bytes)
      (spelled form (most - length held - 1) next.1))) is))
      ∙ comes
