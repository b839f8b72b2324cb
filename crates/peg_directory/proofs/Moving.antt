-- The entries but for a key, as a loop over them makes them.
use Rattle.std.proofs.Common.{◌≡◌, ◌+◌, ℕ, suc, Bool, true, false, not, cond, filter, List, [], ◌∷◌}
use Rattle.std.proofs.Common.{◌++◌, take, drop, slice_get, Some, None, refl, sym, ap, subst, ◌∙◌}
use Rattle.std.proofs.Common.{append-nil}
use Rattle.std.proofs.lemmas.Option.{slice_get_within, get_or_from_slice_get}
use Rattle.std.proofs.Math.Seq.{split_at}
use Rattle.std.proofs.lemmas.List.{take_more}
use Rattle.std.proofs.lemmas.List.Elements.{filter-append}
use Rattle.std.proofs.lemmas.Map.Made.{IsDistinct-keys_filter}
use Rattle.std.specs.Cmp.{IsEquivalence}
use Rattle.std.specs.List.{IsDistinct, AllByRecursion}
use Rattle.std.specs.Map.{keys_of, lookup, remove_entry}
use Rattle.indexmap.proofs.MapLemmas.{absent_before}

-- an entry that is equal to the key is apart from the later ones, and so is the key
same_apart :
    {K : Type 0} (eq : K → K → Bool) (key : K) → IsEquivalence eq → (k : K) → eq key k ≡ true
    → (ks : List K) → AllByRecursion (λ y. eq k y ≡ false) ks
    → AllByRecursion (λ y. eq key y ≡ false) ks
same_apart eq key laws k same [] h = tt
same_apart eq key laws k same (y ∷ ks) h =
    (laws.congr key k y same ∙ h.0, same_apart eq key laws k same ks h.1)

module _ {K X : Type 0} (eq : K → K → Bool) (key : K) where
  abbrev pub is_other : K × X → Bool
  is_other e = not (eq key e.0)

  -- one more entry was looked at
  one_more :
      (es : List (K × X)) (i : ℕ) (e : K × X) → slice_get es i ≡ Some e
      → filter is_other (take (i + 1) es)
      ≡ filter is_other (take i es) ++ cond (is_other e) (e ∷ []) []
  one_more es i e at =
      ap (filter is_other)
      (take_more es i e (slice_get_within es i e at)
      ∙ ap (λ x. take i es ++ x ∷ []) (get_or_from_slice_get es i e e at))
      ∙ filter-append is_other (take i es) (e ∷ [])

  -- an entry that stays is moved behind those before it
  pub moved :
      (es : List (K × X)) (i : ℕ) (e : K × X) → slice_get es i ≡ Some e → eq key e.0 ≡ false
      → filter is_other (take (i + 1) es) ≡ filter is_other (take i es) ++ e ∷ []
  moved es i e at stays =
      one_more es i e at
      ∙ ap (λ b. filter is_other (take i es) ++ cond (not b) (e ∷ []) []) stays

  -- the key's entry is passed over
  pub passed :
      (es : List (K × X)) (i : ℕ) (e : K × X) → slice_get es i ≡ Some e → eq key e.0 ≡ true
      → filter is_other (take (i + 1) es) ≡ filter is_other (take i es)
  passed es i e at goes =
      one_more es i e at
      ∙ ap (λ b. filter is_other (take i es) ++ cond (not b) (e ∷ []) []) goes
      ∙ append-nil (filter is_other (take i es))

  -- an entry that stays is not yet among those that were moved
  pub absent :
      IsEquivalence eq → (es : List (K × X)) (i : ℕ) (e : K × X) → IsDistinct eq (keys_of es)
      → slice_get es i ≡ Some e → eq key e.0 ≡ false
      → lookup (eq e.0) (filter is_other (take i es)) ≡ None
  absent laws es i e distinct at stays =
      let rest = filter is_other (drop (suc i) es) in
      let whole : filter is_other es ≡ filter is_other (take i es) ++ e ∷ rest =
      ap (filter is_other)
      (split_at es i e (slice_get_within es i e at)
      ∙ ap (λ x. take i es ++ x ∷ drop (suc i) es) (get_or_from_slice_get es i e e at))
      ∙ filter-append is_other (take i es) (e ∷ drop (suc i) es)
      ∙ ap (λ b. filter is_other (take i es) ++ cond (not b) (e ∷ rest) rest) stays in
      absent_before laws (filter is_other (take i es)) rest e
      (subst (λ l. IsDistinct eq (keys_of l)) whole
      (IsDistinct-keys_filter eq is_other es distinct))

  -- where no entry has the key, all stay
  all_others :
      (es : List (K × X)) → AllByRecursion (λ k. eq key k ≡ false) (keys_of es)
      → filter is_other es ≡ es
  all_others [] h = refl
  all_others (e ∷ es) h =
      ap (λ b. cond (not b) (e ∷ filter is_other es) (filter is_other es)) h.0
      ∙ ap (λ l. e ∷ l) (all_others es h.1)

  -- all in all the key is taken out
  pub others :
      IsEquivalence eq → (es : List (K × X)) → IsDistinct eq (keys_of es)
      → filter is_other es ≡ remove_entry (eq key) es
  unfolding IsDistinct
  others laws [] d = refl
  others laws (e ∷ es) d = by (eq key e.0) refl (others laws es d.1)
    where
      by :
          (b : Bool) → eq key e.0 ≡ b → filter is_other es ≡ remove_entry (eq key) es
          → filter is_other (e ∷ es) ≡ remove_entry (eq key) (e ∷ es)
      by true h rest =
          ap (λ b. cond (not b) (e ∷ filter is_other es) (filter is_other es)) h
          ∙ all_others es (same_apart eq key laws e.0 h (keys_of es) d.0)
          ∙ sym (ap (λ b. cond b es (e ∷ remove_entry (eq key) es)) h)
      by false h rest =
          ap (λ b. cond (not b) (e ∷ filter is_other es) (filter is_other es)) h
          ∙ ap (λ l. e ∷ l) rest
          ∙ sym (ap (λ b. cond b es (e ∷ remove_entry (eq key) es)) h)
