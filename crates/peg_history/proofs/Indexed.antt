-- The keys of the groups, in the places of these.
use Rattle.std.proofs.Common.{◌≡◌, ◌<◌, ℕ, zero, suc, Bool, true, false, not, ◌+◌, cond, ◌||◌, nat_lt, if◌then◌else◌}
use Rattle.std.proofs.Common.{Option, Some, None, option_map, List, [], ◌∷◌, ◌++◌, length, get_or}
use Rattle.std.proofs.Common.{set, map, refl, sym, ap, ◌∙◌, arith}
use Rattle.std.proofs.lemmas.List.{map_push}
use Rattle.std.specs.Option.{option_to_list}
use Rattle.std.specs.Str.{bytes_eq}
use Rattle.std.specs.List.{list_any, position, position_or_len}
use Rattle.std.proofs.lemmas.Bool.Decides.{nat_tests}
use Rattle.peg_history.specs.declared.Entry.{Entry}
use Rattle.peg_history.specs.declared.group.Group.{Group}
use Rattle.peg_history.specs.Entries.{added}
use Rattle.peg_history.specs.Groups.{group_of, index_in, IsIndex, extended}
use Rattle.peg_history.proofs.Grouping.{turned}

pub index_within :
    (key : List ℕ) (gs : List (List ℕ × List Entry)) (i : ℕ) → index_in key gs ≡ Some i
    → i < length gs
index_within key [] i h = cc
index_within key (g ∷ gs) i h =
    within_if (bytes_eq g.0 key) (index_in key gs) refl (λ j e. index_within key gs j e) h
  where
    within_if :
        (b : Bool) (o : Option ℕ) → index_in key gs ≡ o
        → ((j : ℕ) → index_in key gs ≡ Some j → j < length gs)
        → (if b then Some 0 else option_map suc o) ≡ Some i → i < suc (length gs)
    within_if true o e rest h' = let k : 0 ≡ i = cc in omega arith
    within_if false None e rest h' = cc
    within_if false (Some j) e rest h' = let k : suc j ≡ i = cc in let l = rest j e in omega arith

pub added-index :
    (key : List ℕ) (gs : List (List ℕ × List Entry)) (i : ℕ) (e : Option Entry)
    → index_in key gs ≡ Some i → added gs key e ≡ extended gs i e
added-index key [] i e h = cc
added-index key (g ∷ gs) i e h =
    added_if (bytes_eq g.0 key) (index_in key gs) refl (λ j k. added-index key gs j e k) i h
  where
    added_if :
        (b : Bool) (o : Option ℕ) → index_in key gs ≡ o
        → ((j : ℕ) → index_in key gs ≡ Some j → added gs key e ≡ extended gs j e)
        → (n : ℕ) → (if b then Some 0 else option_map suc o) ≡ Some n
        → (if b then (g.0, g.1 ++ option_to_list e) ∷ gs else g ∷ added gs key e)
        ≡ extended (g ∷ gs) n e
    added_if true o k rest zero h' = refl
    added_if true o k rest (suc n) h' = cc
    added_if false None k rest n h' = cc
    added_if false (Some j) k rest zero h' = cc
    added_if false (Some j) k rest (suc n) h' =
        let l : j ≡ n = cc in ap (λ xs. g ∷ xs) (rest j k ∙ ap (λ m. extended gs m e) l)

pub added-none :
    (key : List ℕ) (gs : List (List ℕ × List Entry)) (e : Option Entry) → index_in key gs ≡ None
    → added gs key e ≡ gs ++ (key, option_to_list e) ∷ []
added-none key [] e h = refl
added-none key (g ∷ gs) e h =
    none_if (bytes_eq g.0 key) (index_in key gs) refl (λ k. added-none key gs e k) h
  where
    none_if :
        (b : Bool) (o : Option ℕ) → index_in key gs ≡ o
        → (index_in key gs ≡ None → added gs key e ≡ gs ++ (key, option_to_list e) ∷ [])
        → (if b then Some 0 else option_map suc o) ≡ None
        → (if b then (g.0, g.1 ++ option_to_list e) ∷ gs else g ∷ added gs key e)
        ≡ g ∷ (gs ++ (key, option_to_list e) ∷ [])
    none_if true o k rest h' = cc
    none_if false None k rest h' = ap (λ xs. g ∷ xs) (rest k)
    none_if false (Some j) k rest h' = cc

-- ---- the keys of the groups

lifted : (n : ℕ) (b : Bool) → cond b (Some (suc n)) None ≡ option_map suc (cond b (Some n) None)
lifted n true = refl
lifted n false = refl

position-cons :
    (p : List ℕ → Bool) (x : List ℕ) (xs : List (List ℕ))
    → position p (x ∷ xs) ≡ (if p x then Some 0 else option_map suc (position p xs))
position-cons p x xs = by (position_or_len p xs) (p x)
  where
    by : (n : ℕ) (b : Bool)
        → cond (nat_lt (cond (not b) (1 + n) 0) (suc (length xs)))
        (Some (cond (not b) (1 + n) 0)) None
        ≡ (if b then Some 0 else option_map suc (cond (nat_lt n (length xs)) (Some n) None))
    by n true =
        let some : nat_lt 0 (suc (length xs)) ≡ true = grind (arith, nat_tests) in
        ap (λ t. cond t (Some 0) None) some
    by n false =
        let same : nat_lt (suc n) (suc (length xs)) ≡ nat_lt n (length xs) =
        grind (arith, nat_tests) in
        let next : 1 + n ≡ suc n = omega arith in
        ap (λ k. cond (nat_lt k (suc (length xs))) (Some k) None) next
        ∙ ap (λ t. cond t (Some (suc n)) None) same
        ∙ lifted n (nat_lt n (length xs))

pub keys_found :
    (key : List ℕ) (gs : List (List ℕ × List Entry))
    → position (bytes_eq key) (map (λ g. g.0) gs) ≡ index_in key gs
keys_found key [] = refl
keys_found key (g ∷ gs) =
    position-cons (bytes_eq key) g.0 (map (λ g. g.0) gs)
    ∙ ap (λ t. if t then Some 0 else option_map suc (position (bytes_eq key) (map (λ g. g.0) gs)))
    (turned key g.0)
    ∙ ap (λ o. if bytes_eq g.0 key then Some 0 else option_map suc o) (keys_found key gs)

pub keys_extended :
    (gs : List (List ℕ × List Entry)) (i : ℕ) (e : Option Entry)
    → map (λ g. g.0) (extended gs i e) ≡ map (λ g. g.0) gs
keys_extended [] i e = refl
keys_extended (g ∷ gs) zero e = refl
keys_extended (g ∷ gs) (suc i) e = ap (λ ks. g.0 ∷ ks) (keys_extended gs i e)

keys_pushed :
    (gs : List (List ℕ × List Entry)) (key : List ℕ) (es : List Entry)
    → map (λ g. g.0) (gs ++ (key, es) ∷ []) ≡ map (λ g. g.0) gs ++ key ∷ []
keys_pushed [] key es = refl
keys_pushed (g ∷ gs) key es = ap (λ ks. g.0 ∷ ks) (keys_pushed gs key es)

not_among :
    (key : List ℕ) (gs : List (List ℕ × List Entry)) → index_in key gs ≡ None
    → list_any (bytes_eq key) (map (λ g. g.0) gs) ≡ false
not_among key [] none = refl
not_among key (g ∷ gs) none =
    ap (λ b. b || list_any (bytes_eq key) (map (λ g. g.0) gs)) (turned key g.0)
    ∙ by (bytes_eq g.0 key) (index_in key gs) (not_among key gs) refl none
  where
    by : (b : Bool) (o : Option ℕ)
        → (index_in key gs ≡ None → list_any (bytes_eq key) (map (λ g. g.0) gs) ≡ false)
        → index_in key gs ≡ o → (if b then Some 0 else option_map suc o) ≡ None
        → (b || list_any (bytes_eq key) (map (λ g. g.0) gs)) ≡ false
    by true o rest is h = cc
    by false None rest is h = rest is
    by false (Some i) rest is h = cc

-- a key that had no group gets the next place
pub IsIndex-push :
    (old new : List (List ℕ)) (key : List ℕ) (es : List Entry) (gs : List (List ℕ × List Entry))
    → IsIndex old gs → index_in key gs ≡ None
    → new ≡ (if list_any (bytes_eq key) old then old else old ++ key ∷ [])
    → IsIndex new (gs ++ (key, es) ∷ [])
IsIndex-push old new key es gs index none is =
    is
    ∙ ap (λ t. if t then old else old ++ key ∷ [])
    (ap (list_any (bytes_eq key)) index ∙ not_among key gs none)
    ∙ ap (λ ks. ks ++ key ∷ []) index ∙ sym (keys_pushed gs key es)

-- the group at a place, with a further entry
pub map-extended :
    (gs : List Group) (i : ℕ) (new old : Group) (e : Option Entry) → i < length gs
    → old ≡ get_or gs i old → group_of new ≡ (old.key, old.entries.items ++ option_to_list e)
    → map group_of (set gs i new) ≡ extended (map group_of gs) i e
map-extended [] i new old e lt is h = absurd (omega arith)
map-extended (g ∷ gs) zero new old e lt is h =
    ap (λ x. x ∷ map group_of gs)
    (h ∙ ap (λ (x : Group). (x.key, x.entries.items ++ option_to_list e)) is)
map-extended (g ∷ gs) (suc i) new old e lt is h =
    ap (λ xs. group_of g ∷ xs) (map-extended gs i new old e (omega arith) is h)

-- a further group
pub map-pushed :
    (gs all : List Group) (new : Group) (key : List ℕ) (e : Option Entry) → all ≡ gs ++ new ∷ []
    → group_of new ≡ (key, option_to_list e)
    → map group_of all ≡ map group_of gs ++ (key, option_to_list e) ∷ []
map-pushed gs all new key e is h =
    ap (map group_of) is ∙ map_push group_of gs new ∙ ap (λ g. map group_of gs ++ g ∷ []) h
