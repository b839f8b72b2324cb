-- What is held of a key once a key of the store has something new.
use Rattle.std.proofs.Common.{◌≡◌, ℕ, Bool, true, false, List, [], ◌∷◌}
use Rattle.std.proofs.Common.{cond, Option, Some, None, refl, sym, ap, ◌∙◌}
use Rattle.std.proofs.lemmas.Map.Text.{is_eq-slice_cmp}
use Rattle.std.proofs.lemmas.Slice.Eq.{bytes_eq-Decides}
use Rattle.std.specs.Prelude.{unwrap_or}
use Rattle.std.specs.Str.{bytes_eq}
use Rattle.std.specs.Map.{lookup}
use Rattle.std.specs.BTreeMap.{insert_entry, is_at}
use Rattle.std.specs.declared.cmp.Ordering.{Ordering}
use Rattle.std.specs.declared.cmp.Ordering.TheVariants.{Less, Equal, Greater}
use Rattle.std.specs.Ordering.{is_eq, match_ordering}
use Rattle.peg_name.specs.Name.{key_cmp}
use Rattle.peg_event.specs.declared.answers.Stored.{Stored}
use Rattle.peg_model.specs.Server.{Store, held, with_stored, nothing_held}

abbrev found : List ℕ → Store → Option Stored
found key store = lookup (is_at (key_cmp key)) store

test_is : (q k : List ℕ) → is_at (key_cmp q) k ≡ bytes_eq q k
test_is q k = is_eq-slice_cmp q k

found_after :
    (q key : List ℕ) (now : Stored) (store : Store)
    → found q (insert_entry key_cmp store key now)
    ≡ cond (bytes_eq q key) (Some now) (found q store)
found_after q key now [] = ap (λ t. cond t (Some now) None) (test_is q key)
found_after q key now (e ∷ es) = by_order (key_cmp key e.0) refl (found_after q key now es)
  where
    by_order :
        (o : Ordering) → key_cmp key e.0 ≡ o
        → found q (insert_entry key_cmp es key now) ≡ cond (bytes_eq q key) (Some now) (found q es)
        → found q
        (match_ordering o ((key, now) ∷ e ∷ es) ((e.0, now) ∷ es)
        (e ∷ insert_entry key_cmp es key now))
        ≡ cond (bytes_eq q key) (Some now) (found q (e ∷ es))
    by_order Less r rest = ap (λ t. cond t (Some now) (found q (e ∷ es))) (test_is q key)
    by_order Equal r rest =
        let same : key ≡ e.0 = (bytes_eq-Decides key e.0).0 (sym (test_is key e.0) ∙ ap is_eq r) in
        let here = test_is q e.0 ∙ ap (bytes_eq q) (sym same) in
        rw here (twice (bytes_eq q key))
      where
        twice : (b : Bool) → cond b (Some now) (found q es)
            ≡ cond b (Some now) (cond b (Some e.1) (found q es))
        twice true = refl
        twice false = refl
    by_order Greater r rest =
        let apart : bytes_eq key e.0 ≡ false = sym (test_is key e.0) ∙ ap is_eq r in
        rw rest (turn (is_at (key_cmp q) e.0) refl (bytes_eq q key) refl apart)
      where
        turn :
            (a : Bool) → is_at (key_cmp q) e.0 ≡ a → (b : Bool) → bytes_eq q key ≡ b
            → bytes_eq key e.0 ≡ false
            → cond a (Some e.1) (cond b (Some now) (found q es))
            ≡ cond b (Some now) (cond a (Some e.1) (found q es))
        turn true x true y apart =
            let s : q ≡ e.0 = (bytes_eq-Decides q e.0).0 (sym (test_is q e.0) ∙ x) in
            let z : q ≡ key = (bytes_eq-Decides q key).0 y in
            let f : bytes_eq key e.0 ≡ true = (bytes_eq-Decides key e.0).1 (sym z ∙ s) in
            absurd (cc)
        turn true x false y apart = refl
        turn false x true y apart = refl
        turn false x false y apart = refl

pub held_after :
    (store : Store) (key : List ℕ) (now : Stored) (q : List ℕ)
    → held (with_stored store key now) q ≡ cond (bytes_eq q key) now (held store q)
held_after store key now q =
    ap (λ o. unwrap_or o nothing_held) (found_after q key now store) ∙ out (bytes_eq q key)
  where
    out : (b : Bool)
        → unwrap_or (cond b (Some now) (found q store)) nothing_held
        ≡ cond b now (unwrap_or (found q store) nothing_held)
    out true = refl
    out false = refl
