-- The place of a key's entry, as its index in the map.
use Rattle.std.proofs.Common.{◌≡◌, ◌+◌, ℕ, suc, Bool, true, false, not, if◌then◌else◌, List, [], ◌∷◌}
use Rattle.std.proofs.Common.{Some, position, refl, sym, ap, ◌∙◌, arith}
use Rattle.std.specs.List.{position_or_len}
use Rattle.std.specs.Map.{keys_of, set_value}
use Rattle.std.specs.Str.{bytes_eq}
use Rattle.indexmap.specs.IndexMap.{set_value_at}
use Rattle.indexmap.proofs.MapLemmas.{Found-position}
use Rattle.peg_event.specs.declared.answers.Listing.{Listing}
use Rattle.peg_model.specs.Rules.{Directory, entry_of}
use Rattle.peg_directory.specs.Table.{IsAt}

-- a value that is set by a test is set at the first place that passes it, if there is one
set_first :
    (test : List ℕ → Bool) (now : Listing) (es : Directory)
    → set_value test es now ≡ set_value_at es (position_or_len test (keys_of es)) now
set_first test now [] = refl
set_first test now (x ∷ xs) = by (test x.0) refl (set_first test now xs)
  where
    next : (n : ℕ) → 1 + n ≡ suc n
    next n = omega arith

    by :
        (b : Bool) → test x.0 ≡ b
        → set_value test xs now ≡ set_value_at xs (position_or_len test (keys_of xs)) now
        → (if b then (x.0, now) ∷ xs else x ∷ set_value test xs now)
        ≡ set_value_at (x ∷ xs)
        (if not b then 1 + position_or_len test (keys_of xs) else 0) now
    by true is rest = refl
    by false is rest =
        ap (λ l. x ∷ l) rest
        ∙ ap (λ n. set_value_at (x ∷ xs) n now)
        (sym (next (position_or_len test (keys_of xs))))

pub at_place :
    (key : List ℕ) (es : Directory) (i : ℕ) (e : Listing)
    → position (bytes_eq key) (keys_of es) ≡ Some i → entry_of es key ≡ Some e
    → IsAt key es i e
at_place key es i e here found =
    let at = Found-position (bytes_eq key) es i here in
    record {
      within = at.within;
      found = found;
      put = λ now. set_first (bytes_eq key) now es ∙ ap (λ n. set_value_at es n now) at.or_len;
    }
