-- An index of packets is one of more packets, too.
use Rattle.std.proofs.Common.{◌≡◌, ℕ, zero, suc, ◌≤◌, List, ◌++◌, length, refl, ap, sym, ◌∙◌, arith}
use Rattle.std.proofs.Common.{subst, take, drop}
use Rattle.std.specs.Prelude.{slice_index}
use Rattle.std.proofs.lemmas.List.{get_or_append_left, take-append-le, length-append, take-append-drop}
use Rattle.peg_name.specs.declared.Node.{Node}
use Rattle.peg_index.specs.Chain.{search, nowhere, number_of, place_of, IsIndexOf, Chains}

wider :
    (n : ℕ) (ps more : List (Node × List ℕ)) (older : List ℕ) (link : ℕ) (to : Node)
    (bytes : List ℕ)
    → n ≤ length ps
    → search n (ps ++ more) older link to bytes ≡ search n ps older link to bytes
unfolding search
wider zero ps more older link to bytes within = refl
wider (suc n) ps more older link to bytes within =
    rw (
      get_or_append_left ps more nowhere n (omega (arith, within)),
      wider n ps more older (slice_index older n) to bytes (omega (arith, within)),
      wider n ps more older link to bytes (omega (arith, within)),
    )
    refl

pub grown :
    (ps more : List (Node × List ℕ)) (c : Chains) → IsIndexOf ps c → IsIndexOf (ps ++ more) c
grown ps more c is =
    record {
      within = omega (arith, is.within, length-append ps more);
      size = is.size;
      heads = is.heads;
      back = is.back;
      finds = λ to bytes.
          wider (length c.older) ps more c.older (slice_index c.heads (place_of to bytes)) to bytes
          is.within
          ∙ is.finds to bytes
          ∙ sym
          (ap (λ xs. number_of xs to bytes)
          (take-append-le (length c.older) ps more is.within));
    }

pub stays :
    (ps now : List (Node × List ℕ)) (c : Chains) → take (length ps) now ≡ ps → IsIndexOf ps c
    → IsIndexOf now c
stays ps now c begins is =
    subst (λ (xs : List (Node × List ℕ)). IsIndexOf xs c)
    (ap (λ xs. xs ++ drop (length ps) now) (sym begins) ∙ take-append-drop (length ps) now)
    (grown ps (drop (length ps) now) c is)
