-- Each fence's origin is found by its key and its version.
use Rattle.std.proofs.Common.{◌≡◌, ℕ, Bool, true, false, ◌&&◌, ◌==◌, Option, Some, None, List, []}
use Rattle.std.proofs.Common.{◌∷◌, ◌++◌, refl, ap, sym, ◌∙◌, arith, if◌then◌else◌}
use Rattle.std.specs.Prelude.{unwrap_or, is_some}
use Rattle.std.specs.Map.{lookup}
use Rattle.std.specs.Str.{bytes_eq}
use Rattle.peg_model.specs.World.{AppliedFence, origin_of}
use Rattle.peg_ledger.specs.declared.fences.FenceName.{FenceName}
use Rattle.peg_ledger.specs.Fenced.{found_origin, is_fence, AreIndexed, Remembers, first_of}
use Rattle.std.specs.Cmp.Lexicographic.{nat_list_eq_equiv}
use Rattle.std.proofs.lemmas.Slice.Eq.{bytes_eq-Decides}
use Rattle.std.proofs.lemmas.Bool.Decides.{nat_tests}

pub origin_found :
    (fences : List AppliedFence) (key : List ℕ) (version : ℕ)
    → origin_of fences key version ≡ unwrap_or (found_origin fences key version) version
origin_found [] key version = refl
origin_found (f ∷ fences) key version =
    by (bytes_eq f.key key && f.version == version) (origin_found fences key version)
  where
    by : (b : Bool)
        → origin_of fences key version ≡ unwrap_or (found_origin fences key version) version
        → (if b then f.origin else origin_of fences key version)
        ≡ unwrap_or (if b then Some f.origin else found_origin fences key version) version
    by true rest = refl
    by false rest = rest

-- ---- one more fence

found_more :
    (fences : List AppliedFence) (f : AppliedFence) (key : List ℕ) (version : ℕ)
    → found_origin (fences ++ f ∷ []) key version
    ≡ first_of (found_origin fences key version)
    (if bytes_eq f.key key && f.version == version then Some f.origin else None)
found_more [] f key version = refl
found_more (g ∷ fences) f key version =
    by (bytes_eq g.key key && g.version == version) (found_more fences f key version)
  where
    by : (b : Bool)
        → found_origin (fences ++ f ∷ []) key version
        ≡ first_of (found_origin fences key version)
        (if bytes_eq f.key key && f.version == version then Some f.origin else None)
        → (if b then Some g.origin else found_origin (fences ++ f ∷ []) key version)
        ≡ first_of (if b then Some g.origin else found_origin fences key version)
        (if bytes_eq f.key key && f.version == version then Some f.origin else None)
    by true rest = refl
    by false rest = rest

turned :
    (a b : List ℕ) (m n : ℕ) → (bytes_eq a b && m == n) ≡ (bytes_eq b a && n == m)
turned a b m n =
    ap (λ x. x && m == n) (nat_list_eq_equiv.symm a b) ∙ ap (λ x. bytes_eq b a && x) (same m n)
  where
    same : (m n : ℕ) → (m == n) ≡ (n == m)
    same m n = grind (arith, nat_tests)

pub indexed_more :
    (fences : List AppliedFence) (old new : List (FenceName × ℕ)) (f : AppliedFence)
    (name : FenceName)
    → AreIndexed fences old → Remembers old new name f.origin
    → f.key ≡ name.key → f.version ≡ name.version
    → AreIndexed (fences ++ f ∷ []) new
indexed_more fences old new f name are more same version_is = λ key version.
    let test : is_fence key version name ≡ (bytes_eq f.key key && f.version == version) =
    turned key name.key version name.version
    ∙ ap (λ k. bytes_eq k key && name.version == version) (sym same)
    ∙ ap (λ v. bytes_eq f.key key && v == version) (sym version_is) in
    more key version
    ∙ ap (λ o. first_of o (if is_fence key version name then Some f.origin else None))
    (are key version)
    ∙ ap (λ b. first_of (found_origin fences key version) (if b then Some f.origin else None)) test
    ∙ sym (found_more fences f key version)

-- ---- a name that is new, and one that is held

looked_up :
    (test : FenceName → Bool) (entries : List (FenceName × ℕ)) (name : FenceName) (origin : ℕ)
    → lookup test (entries ++ (name, origin) ∷ [])
    ≡ first_of (lookup test entries) (if test name then Some origin else None)
looked_up test [] name origin = refl
looked_up test (e ∷ entries) name origin = by (test e.0) (looked_up test entries name origin)
  where
    by : (b : Bool)
        → lookup test (entries ++ (name, origin) ∷ [])
        ≡ first_of (lookup test entries) (if test name then Some origin else None)
        → (if b then Some e.1 else lookup test (entries ++ (name, origin) ∷ []))
        ≡ first_of (if b then Some e.1 else lookup test entries)
        (if test name then Some origin else None)
    by true rest = refl
    by false rest = rest

pub new_remembered :
    (old new : List (FenceName × ℕ)) (name : FenceName) (origin : ℕ)
    → new ≡ old ++ (name, origin) ∷ [] → Remembers old new name origin
new_remembered old new name origin is = λ key version.
    ap (λ (es : List (FenceName × ℕ)). lookup (is_fence key version) es) is
    ∙ looked_up (is_fence key version) old name origin

first_stays : (a : Option ℕ) → first_of a None ≡ a
first_stays None = refl
first_stays (Some x) = refl

first_held : (a b : Option ℕ) (x : ℕ) → a ≡ Some x → a ≡ first_of a b
first_held None b x e = cc
first_held (Some y) b x e = refl

and_left : (a b : Bool) → (a && b) ≡ true → a ≡ true
and_left true b e = refl
and_left false b e = cc

and_right : (a b : Bool) → (a && b) ≡ true → b ≡ true
and_right true b e = e
and_right false b e = cc

equal : (m n : ℕ) → (m == n) ≡ true → m ≡ n
equal m n e = grind (arith, nat_tests)

pub held_remembered :
    (old : List (FenceName × ℕ)) (name : FenceName) (origin x : ℕ)
    → lookup (is_fence name.key name.version) old ≡ Some x → Remembers old old name origin
held_remembered old name origin x held = λ key version.
    by key version (is_fence key version name) refl
  where
    by : (key : List ℕ) (version : ℕ) (b : Bool) → is_fence key version name ≡ b
        → lookup (is_fence key version) old
        ≡ first_of (lookup (is_fence key version) old) (if b then Some origin else None)
    by key version false e = sym (first_stays (lookup (is_fence key version) old))
    by key version true e =
        let same : key ≡ name.key =
        (bytes_eq-Decides key name.key).0
        (and_left (bytes_eq key name.key) (version == name.version) e) in
        let one : version ≡ name.version =
        equal version name.version
        (and_right (bytes_eq key name.key) (version == name.version) e) in
        first_held (lookup (is_fence key version) old) (Some origin) x
        (ap (λ k. lookup (is_fence k version) old) same
        ∙ ap (λ v. lookup (is_fence name.key v) old) one ∙ held)

pub none_of : {A : Type 0} → (a : Option A) → is_some a ≡ false → a ≡ None
none_of None e = refl
none_of (Some x) e = cc
