-- Entries of a map: looked up, inserted and set, also where their values are read as others.
use Rattle.std.proofs.Common.{◌≡◌, Bool, true, false, List, [], ◌∷◌}
use Rattle.std.proofs.Common.{cond, map, Some, refl, sym, ap, ◌∙◌, subst}
use Rattle.std.proofs.lemmas.Map.{lookup-none}
use Rattle.std.proofs.lemmas.Map.Entries.{none_below_head}
use Rattle.std.proofs.lemmas.Map.Keys.{sorted_tail}
use Rattle.std.proofs.lemmas.Option.{none-some}
use Rattle.std.specs.Prelude.{unwrap_or, option_map}
use Rattle.std.specs.Cmp.{IsTotalOrder}
use Rattle.std.specs.List.{AllByRecursion}
use Rattle.std.specs.List.Sorted.{IsStrictlySortedBy}
use Rattle.std.specs.Map.{keys_of, lookup, set_value}
use Rattle.std.specs.BTreeMap.{insert_entry, is_at}
use Rattle.std.specs.Ordering.{is_eq, match_ordering}
use Rattle.std.specs.declared.cmp.Ordering.{Ordering}
use Rattle.std.specs.declared.cmp.Ordering.TheVariants.{Less, Equal, Greater}

module _ {K X : Type 0} where
  -- what holds of each value holds of the one that is found
  pub found_has :
      (P : X → Type 0) (test : K → Bool) (es : List (K × X)) (x : X)
      → AllByRecursion (λ e. P e.1) es → lookup test es ≡ Some x → P x
  found_has P test [] x all is = absurd (none-some x is)
  found_has P test (e ∷ es) x (here, all) is = at (test e.0) (found_has P test es x all) is
    where
      at : (b : Bool) → (lookup test es ≡ Some x → P x)
          → cond b (Some e.1) (lookup test es) ≡ Some x → P x
      at true later is = subst P (ap (λ o. unwrap_or o e.1) is) here
      at false later is = later is

  pub all_inserted :
      (P : X → Type 0) (cmp : K → K → Ordering) (es : List (K × X)) (k : K) (x : X)
      → AllByRecursion (λ e. P e.1) es → P x → AllByRecursion (λ e. P e.1) (insert_entry cmp es k x)
  all_inserted P cmp [] k x all here = (here, tt)
  all_inserted P cmp (e ∷ es) k x (first, all) here =
      at (cmp k e.0) (all_inserted P cmp es k x all here)
    where
      at : (o : Ordering) → AllByRecursion (λ e. P e.1) (insert_entry cmp es k x)
          → AllByRecursion (λ e. P e.1)
          (match_ordering o ((k, x) ∷ e ∷ es) ((e.0, x) ∷ es) (e ∷ insert_entry cmp es k x))
      at Less rest = (here, (first, all))
      at Equal rest = (here, all)
      at Greater rest = (first, rest)

  -- at a key that is there, to insert is to set
  pub insert_found :
      (cmp : K → K → Ordering) → IsTotalOrder cmp → (es : List (K × X)) (k : K) (was x : X)
      → IsStrictlySortedBy cmp (keys_of es) → lookup (is_at (cmp k)) es ≡ Some was
      → insert_entry cmp es k x ≡ set_value (is_at (cmp k)) es x
  insert_found cmp laws [] k was x sorted is = absurd (none-some was is)
  insert_found cmp laws (e ∷ es) k was x sorted is =
      at (cmp k e.0) refl
      (insert_found cmp laws es k was x (sorted_tail cmp e.0 (keys_of es) sorted)) is
    where
      at :
          (o : Ordering) → cmp k e.0 ≡ o
          → (lookup (is_at (cmp k)) es ≡ Some was
          → insert_entry cmp es k x ≡ set_value (is_at (cmp k)) es x)
          → cond (is_eq o) (Some e.1) (lookup (is_at (cmp k)) es) ≡ Some was
          → match_ordering o ((k, x) ∷ e ∷ es) ((e.0, x) ∷ es) (e ∷ insert_entry cmp es k x)
          ≡ cond (is_eq o) ((e.0, x) ∷ es) (e ∷ set_value (is_at (cmp k)) es x)
      at Less below later found =
          absurd (none-some was (sym (lookup-none (is_at (cmp k)) (e ∷ es)
          (none_below_head laws k e es sorted below)) ∙ is))
      at Equal below later found = refl
      at Greater below later found = ap (λ rest. e ∷ rest) (later found)

-- ---- values read as others

abbrev pub read : {K X Y : Type 0} → (X → Y) → List (K × X) → List (K × Y)
read f es = map (λ e. (e.0, f e.1)) es

module _ {K X Y : Type 0} (f : X → Y) where
  pub lookup-read :
      (test : K → Bool) (es : List (K × X))
      → lookup test (read f es) ≡ option_map f (lookup test es)
  lookup-read test [] = refl
  lookup-read test (e ∷ es) = at (test e.0) (lookup-read test es)
    where
      at : (b : Bool) → lookup test (read f es) ≡ option_map f (lookup test es)
          → cond b (Some (f e.1)) (lookup test (read f es))
          ≡ option_map f (cond b (Some e.1) (lookup test es))
      at true rest = refl
      at false rest = rest

  pub insert-read :
      (cmp : K → K → Ordering) (es : List (K × X)) (k : K) (x : X)
      → read f (insert_entry cmp es k x) ≡ insert_entry cmp (read f es) k (f x)
  insert-read cmp [] k x = refl
  insert-read cmp (e ∷ es) k x = at (cmp k e.0) (insert-read cmp es k x)
    where
      at : (o : Ordering) → read f (insert_entry cmp es k x) ≡ insert_entry cmp (read f es) k (f x)
          → read f
          (match_ordering o ((k, x) ∷ e ∷ es) ((e.0, x) ∷ es) (e ∷ insert_entry cmp es k x))
          ≡ match_ordering o ((k, f x) ∷ (e.0, f e.1) ∷ read f es) ((e.0, f x) ∷ read f es)
          ((e.0, f e.1) ∷ insert_entry cmp (read f es) k (f x))
      at Less rest = refl
      at Equal rest = refl
      at Greater rest = ap (λ r. (e.0, f e.1) ∷ r) rest

  pub set-read :
      (test : K → Bool) (es : List (K × X)) (x : X)
      → read f (set_value test es x) ≡ set_value test (read f es) (f x)
  set-read test [] x = refl
  set-read test (e ∷ es) x = at (test e.0) (set-read test es x)
    where
      at : (b : Bool) → read f (set_value test es x) ≡ set_value test (read f es) (f x)
          → read f (cond b ((e.0, x) ∷ es) (e ∷ set_value test es x))
          ≡ cond b ((e.0, f x) ∷ read f es) ((e.0, f e.1) ∷ set_value test (read f es) (f x))
      at true rest = refl
      at false rest = ap (λ r. (e.0, f e.1) ∷ r) rest

  pub read_alike :
      (g : X → Y) (es : List (K × X)) → AllByRecursion (λ e. g e.1 ≡ f e.1) es
      → read g es ≡ read f es
  read_alike g [] all = refl
  read_alike g (e ∷ es) (here, all) = λ i. (e.0, here i) ∷ read_alike g es all i
