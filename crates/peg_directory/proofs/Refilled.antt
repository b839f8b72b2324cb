-- Entries of distinct keys that are put one behind the other.
use Rattle.std.proofs.Common.{◌≡◌, ℕ, suc, true, false, List, [], ◌∷◌, ◌++◌, if◌then◌else◌, take}
use Rattle.std.proofs.Common.{drop, slice_get, Some, None, refl, sym, ap, ◌∙◌}
use Rattle.std.proofs.lemmas.Option.{slice_get_within, get_or_from_slice_get}
use Rattle.std.proofs.Math.Seq.{split_at}
use Rattle.std.specs.Cmp.Lexicographic.{nat_list_eq_equiv}
use Rattle.std.specs.Map.{keys_of}
use Rattle.std.specs.Str.{bytes_eq}
use Rattle.peg_event.specs.declared.answers.Listing.{Listing}
use Rattle.peg_model.specs.Words.{is_in}
use Rattle.peg_model.specs.Packet.{are_distinct}
use Rattle.peg_model.specs.Rules.{Directory, entry_of}
use Rattle.peg_directory.proofs.Kept.{not_first, not_second, first_of, second_of, negated}

misses :
    (key : List ℕ) (before : Directory) (e : List ℕ × Listing) (after : Directory)
    → is_in key (keys_of (before ++ e ∷ after)) ≡ false → bytes_eq key e.0 ≡ false
misses key [] e after h = not_first _ _ h
misses key (x ∷ xs) e after h = misses key xs e after (not_second _ _ h)

not_before :
    (before : Directory) (e : List ℕ × Listing) (after : Directory)
    → are_distinct (keys_of (before ++ e ∷ after)) ≡ true → entry_of before e.0 ≡ None
not_before [] e after d = refl
not_before (x ∷ xs) e after d =
    let other = misses x.0 xs e after (negated _ (first_of _ _ d)) in
    ap (λ b. if b then Some x.1 else entry_of xs e.0) (nat_list_eq_equiv.symm e.0 x.0 ∙ other)
    ∙ not_before xs e after (second_of _ _ d)

-- an entry is not among those before it
pub not_yet :
    (es : Directory) (i : ℕ) (e : List ℕ × Listing) → are_distinct (keys_of es) ≡ true
    → slice_get es i ≡ Some e → entry_of (take i es) e.0 ≡ None
not_yet es i e distinct at =
    not_before (take i es) e (drop (suc i) es)
    (sym (ap (λ l. are_distinct (keys_of l))
    (split_at es i e (slice_get_within es i e at)
    ∙ ap (λ x. take i es ++ x ∷ drop (suc i) es) (get_or_from_slice_get es i e e at)))
    ∙ distinct)
