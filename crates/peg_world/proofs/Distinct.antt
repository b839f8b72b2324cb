-- Keys that differ, as a rack line and as a directory say it.
use Rattle.std.proofs.Common.{◌≡◌, ◌≢◌, ℕ, ◌||◌, ◌&&◌, not, true, false, List, [], ◌∷◌, ap, refl, ◌∙◌}
use Rattle.std.specs.Prelude.{AllPairs}
use Rattle.std.specs.List.{AllByRecursion, IsDistinct}
use Rattle.std.specs.Str.{bytes_eq}
use Rattle.std.proofs.lemmas.Map.Made.{IsDistinct-from_AllPairs}
use Rattle.std.proofs.lemmas.Slice.Eq.{bytes_eq-Decides}
use Rattle.peg_model.specs.Packet.{are_distinct}
use Rattle.peg_model.specs.Words.{is_in}

none_is :
    (key : List ℕ) (keys : List (List ℕ))
    → AllByRecursion (λ other. bytes_eq key other ≡ false) keys → is_in key keys ≡ false
none_is key [] all = refl
none_is key (other ∷ keys) all =
    ap (λ b. b || is_in key keys) all.0 ∙ none_is key keys all.1

distinct_are : (keys : List (List ℕ)) → IsDistinct bytes_eq keys → are_distinct keys ≡ true
unfolding IsDistinct
distinct_are [] all = refl
distinct_are (key ∷ keys) all =
    ap (λ b. not b && are_distinct keys) (none_is key keys all.0) ∙ distinct_are keys all.1

pub keys_differ :
    (keys : List (List ℕ)) → AllPairs (λ key other. key ≢ other) keys → are_distinct keys ≡ true
keys_differ keys all = distinct_are keys (IsDistinct-from_AllPairs bytes_eq-Decides keys all)
