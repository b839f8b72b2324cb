-- The groups that are made in one pass are those of the keys in the order of first issue.
use Rattle.std.proofs.Common.{◌≡◌, ◌+◌, ℕ, Bool, true, false, ◌||◌, if◌then◌else◌, Option, List}
use Rattle.std.proofs.Common.{[], ◌∷◌, ◌++◌, length, map, refl, sym, ap, ◌∙◌, subst, arith}
use Rattle.std.proofs.Common.{append_assoc}
use Rattle.std.proofs.lemmas.List.{append-nil}
use Rattle.std.specs.Option.{option_to_list}
use Rattle.std.specs.List.{AllByRecursion}
use Rattle.std.specs.Str.{bytes_eq}
use Rattle.std.specs.Cmp.Lexicographic.{nat_list_eq_equiv}
use Rattle.std.proofs.lemmas.Slice.Eq.{bytes_eq-Decides}
use Rattle.peg_event.specs.declared.history.Op.{Op}
use Rattle.peg_model.specs.Words.{is_in}
use Rattle.peg_model.specs.Order.{Tagged, tagged, first_keys, keys_in}
use Rattle.peg_history.specs.declared.Entry.{Entry}
use Rattle.peg_history.specs.Entries.{entry_if, entries_of, added, grouped}

pub turned : (a b : List ℕ) → bytes_eq a b ≡ bytes_eq b a
turned a b = nat_list_eq_equiv.symm a b

pub same : (a b : List ℕ) → bytes_eq a b ≡ true → a ≡ b
same a b e = (bytes_eq-Decides a b).0 e

-- these keys with their entries
unfoldable pub listed : List (List ℕ) → (List ℕ → List Entry) → List (List ℕ × List Entry)
listed keys entries = map (λ key. (key, entries key)) keys

listed_same :
    (keys : List (List ℕ)) (E D : List ℕ → List Entry) → ((key : List ℕ) → E key ≡ D key)
    → listed keys E ≡ listed keys D
unfolding listed
listed_same [] E D h = refl
listed_same (k ∷ keys) E D h =
    ap (λ es. (k, es) ∷ listed keys E) (h k) ∙ ap (λ gs. (k, D k) ∷ gs) (listed_same keys E D h)

Others : List ℕ → List (List ℕ) → Type 0
Others key keys = AllByRecursion (λ k. bytes_eq k key ≡ false) keys

Apart : List (List ℕ) → Type 0
Apart [] = Unit {0}
Apart (k ∷ keys) = Others k keys × Apart keys

plus : (List ℕ → List Entry) → List ℕ → Option Entry → List ℕ → List Entry
plus E key e k = if bytes_eq k key then E k ++ option_to_list e else E k

plus_yes :
    (E : List ℕ → List Entry) (key : List ℕ) (e : Option Entry) (k : List ℕ)
    → bytes_eq k key ≡ true → plus E key e k ≡ E k ++ option_to_list e
unfolding plus
plus_yes E key e k h = ap (λ b. if b then E k ++ option_to_list e else E k) h

plus_no :
    (E : List ℕ → List Entry) (key : List ℕ) (e : Option Entry) (k : List ℕ)
    → bytes_eq k key ≡ false → plus E key e k ≡ E k
unfolding plus
plus_no E key e k h = ap (λ b. if b then E k ++ option_to_list e else E k) h

plus_others :
    (keys : List (List ℕ)) (E : List ℕ → List Entry) (key : List ℕ) (e : Option Entry)
    → Others key keys → listed keys (plus E key e) ≡ listed keys E
unfolding listed Others
plus_others [] E key e others = refl
plus_others (k ∷ keys) E key e (differs, others) =
    ap (λ es. (k, es) ∷ listed keys (plus E key e)) (plus_no E key e k differs) ∙ ap
    (λ gs. (k, E k) ∷ gs) (plus_others keys E key e others)

added_new :
    (keys : List (List ℕ)) (E : List ℕ → List Entry) (key : List ℕ) (e : Option Entry)
    → Others key keys
    → added (listed keys E) key e ≡ listed keys E ++ (key, option_to_list e) ∷ []
unfolding listed Others
added_new [] E key e others = refl
added_new (k ∷ keys) E key e (differs, others) =
    ap
    (λ b. if b then (k, E k ++ option_to_list e) ∷ listed keys E else (k, E k) ∷ added
    (listed keys E) key e)
    differs
    ∙ ap (λ gs. (k, E k) ∷ gs) (added_new keys E key e others)

added_known :
    (keys : List (List ℕ)) (E : List ℕ → List Entry) (key : List ℕ) (e : Option Entry) → Apart keys
    → is_in key keys ≡ true
    → added (listed keys E) key e ≡ listed keys (plus E key e)
unfolding listed Others Apart
added_known [] E key e apart found = cc
added_known (k ∷ keys) E key e (others, apart) found =
    known_if (λ more. added_known keys E key e apart more) (bytes_eq k key) refl
  where
    known_if :
        (is_in key keys ≡ true → added (listed keys E) key e ≡ listed keys (plus E key e))
        → (b : Bool) → bytes_eq k key ≡ b
        → (if b then (k, E k ++ option_to_list e) ∷ listed keys E else (k, E k)
        ∷ added (listed keys E) key e)
        ≡ (k, plus E key e k) ∷ listed keys (plus E key e)
    known_if rest true h =
        ap (λ es. (k, es) ∷ listed keys E) (sym (plus_yes E key e k h))
        ∙ ap (λ gs. (k, plus E key e k) ∷ gs)
        (sym (plus_others keys E key e
        (subst (λ x. AllByRecursion (λ j. bytes_eq j x ≡ false) keys) (same k key h) others)))
    known_if rest false h =
        let more :
        is_in key keys
        ≡ true = sym (ap (λ b. b || is_in key keys) (turned key k ∙ h)) ∙ found in
        ap (λ es. (k, es) ∷ added (listed keys E) key e) (sym (plus_no E key e k h)) ∙ ap
        (λ gs. (k, plus E key e k) ∷ gs) (rest more)

others_of : (key : List ℕ) (keys : List (List ℕ)) → is_in key keys ≡ false → Others key keys
unfolding Others
others_of key [] h = tt
others_of key (k ∷ keys) h = others_if (λ more. others_of key keys more) (bytes_eq key k) refl
  where
    others_if :
        (is_in key keys ≡ false → AllByRecursion (λ j. bytes_eq j key ≡ false) keys) → (b : Bool)
        → bytes_eq key k ≡ b
        → (bytes_eq k key ≡ false) × AllByRecursion (λ j. bytes_eq j key ≡ false) keys
    others_if rest true e = let f = sym (ap (λ b. b || is_in key keys) e) ∙ h in cc
    others_if rest false e = (turned k key ∙ e, rest (sym (ap (λ b. b || is_in key keys) e) ∙ h))

others_push :
    (key k : List ℕ) (keys : List (List ℕ)) → Others key keys → bytes_eq k key ≡ false
    → Others key (keys ++ k ∷ [])
unfolding Others
others_push key k [] others differs = (differs, tt)
others_push key k (j ∷ keys) (other, others) differs =
    (other, others_push key k keys others differs)

apart_push :
    (key : List ℕ) (keys : List (List ℕ)) → Apart keys → Others key keys → Apart (keys ++ key ∷ [])
unfolding Apart Others
apart_push key [] apart others = (tt, tt)
apart_push key (k ∷ keys) (other, apart) (differs, others) =
    (others_push k key keys other (turned key k ∙ differs), apart_push key keys apart others)

listed_push :
    (keys : List (List ℕ)) (E : List ℕ → List Entry) (key : List ℕ)
    → listed (keys ++ key ∷ []) E ≡ listed keys E ++ (key, E key) ∷ []
unfolding listed
listed_push [] E key = refl
listed_push (k ∷ keys) E key = ap (λ gs. (k, E k) ∷ gs) (listed_push keys E key)

-- the known keys and those of further operations
keys_after : List (List ℕ) → List Tagged → List (List ℕ)
keys_after known [] = known
keys_after known (t ∷ ts) =
    keys_after (if is_in t.op.key known then known else known ++ t.op.key ∷ []) ts

-- a key that isn't known has no entry
Fresh : List (List ℕ) → (List ℕ → List Entry) → Type 0
Fresh keys E = (key : List ℕ) → Others key keys → E key ≡ []

in_others : (key : List ℕ) (keys : List (List ℕ)) → is_in key keys ≡ true → Others key keys → ⊥
unfolding Others
in_others key [] h others = let f = h in cc
in_others key (k ∷ keys) h (differs, others) =
    in_others key keys (sym (ap (λ b. b || is_in key keys) (turned key k ∙ differs)) ∙ h) others

fresh_known :
    (keys : List (List ℕ)) (E : List ℕ → List Entry) (key : List ℕ) (e : Option Entry)
    → Fresh keys E → is_in key keys ≡ true → Fresh keys (plus E key e)
unfolding Fresh
fresh_known keys E key e fresh found k others = fresh_if (bytes_eq k key) refl
  where
    fresh_if : (b : Bool) → bytes_eq k key ≡ b → plus E key e k ≡ []
    fresh_if true h =
        absurd (in_others key keys found (subst (λ x. Others x keys) (same k key h) others))
    fresh_if false h = plus_no E key e k h ∙ fresh k others

others_front :
    (key k : List ℕ) (keys : List (List ℕ)) → Others key (keys ++ k ∷ [])
    → Others key keys × (bytes_eq k key ≡ false)
unfolding Others
others_front key k [] (differs, none) = (tt, differs)
others_front key k (j ∷ keys) (other, others) =
    let rest = others_front key k keys others in ((other, rest.0), rest.1)

fresh_new :
    (keys : List (List ℕ)) (E : List ℕ → List Entry) (key : List ℕ) (e : Option Entry)
    → Fresh keys E → Fresh (keys ++ key ∷ []) (plus E key e)
unfolding Fresh
fresh_new keys E key e fresh k others =
    let front = others_front k key keys others in
    plus_no E key e k (turned k key ∙ front.1) ∙ fresh k front.0

plus_more : (E : List ℕ → List Entry) (t : Tagged) (ts : List Tagged) (key : List ℕ)
    → plus E t.op.key (entry_if t) key ++ entries_of key ts ≡ E key ++ entries_of key (t ∷ ts)
plus_more E t ts key = more_if (bytes_eq t.op.key key) refl
  where
    more_if : (b : Bool) → bytes_eq t.op.key key ≡ b
        → plus E t.op.key (entry_if t) key ++ entries_of key ts
        ≡ E key
        ++ (if b then option_to_list (entry_if t) ++ entries_of key ts else entries_of key ts)
    more_if true h =
        ap (λ es. es ++ entries_of key ts)
        (plus_yes E t.op.key (entry_if t) key (turned key t.op.key ∙ h)) ∙ append_assoc (E key)
        (option_to_list (entry_if t)) (entries_of key ts)
    more_if false h =
        ap (λ es. es ++ entries_of key ts)
        (plus_no E t.op.key (entry_if t) key (turned key t.op.key ∙ h))

none_yet :
    (keys : List (List ℕ)) (E : List ℕ → List Entry) (key : List ℕ) → Fresh keys E
    → Others key keys → E key ≡ []
unfolding Fresh
none_yet keys E key fresh others = fresh key others

-- the first entry of a key
added_first :
    (keys : List (List ℕ)) (E : List ℕ → List Entry) (key : List ℕ) (e : Option Entry)
    → Others key keys → E key ≡ []
    → added (listed keys E) key e ≡ listed (keys ++ key ∷ []) (plus E key e)
added_first keys E key e others none =
    let mine :
    plus E key e key
    ≡ option_to_list e = plus_yes E key e key (nat_list_eq_equiv.refl key) ∙ ap
    (λ es. es ++ option_to_list e) none in
    added_new keys E key e others
    ∙ ap (λ es. listed keys E ++ (key, es) ∷ []) (sym mine)
    ∙ ap (λ gs. gs ++ (key, plus E key e key) ∷ []) (sym (plus_others keys E key e others))
    ∙ sym (listed_push keys (plus E key e) key)

grouped_from :
    (ts : List Tagged) (keys : List (List ℕ)) (E : List ℕ → List Entry) → Apart keys → Fresh keys E
    → grouped (listed keys E) ts ≡ listed (keys_after keys ts) (λ key. E key ++ entries_of key ts)
unfolding keys_after
grouped_from [] keys E apart fresh =
    listed_same keys E (λ key. E key ++ []) (λ key. sym (append-nil (E key)))
grouped_from (t ∷ ts) keys E apart fresh =
    step (λ more D apart' fresh'. grouped_from ts more D apart' fresh') (is_in t.op.key keys) refl
  where
    step :
        ((more : List (List ℕ)) (D : List ℕ → List Entry) → Apart more → Fresh more D
        → grouped (listed more D) ts ≡ listed (keys_after more ts) (λ k. D k ++ entries_of k ts))
        → (b : Bool) → is_in t.op.key keys ≡ b
        → grouped (added (listed keys E) t.op.key (entry_if t)) ts
        ≡ listed (keys_after (if b then keys else keys ++ t.op.key ∷ []) ts)
        (λ k. E k ++ entries_of k (t ∷ ts))
    step rest true h =
        ap (λ gs. grouped gs ts) (added_known keys E t.op.key (entry_if t) apart h)
        ∙ rest keys (plus E t.op.key (entry_if t)) apart
        (fresh_known keys E t.op.key (entry_if t) fresh h)
        ∙ listed_same (keys_after keys ts) (λ k. plus E t.op.key (entry_if t) k ++ entries_of k ts)
        (λ k. E k ++ entries_of k (t ∷ ts)) (plus_more E t ts)
    step rest false h =
        let others = others_of t.op.key keys h in
        ap (λ gs. grouped gs ts)
        (added_first keys E t.op.key (entry_if t) others (none_yet keys E t.op.key fresh others))
        ∙ rest (keys ++ t.op.key ∷ []) (plus E t.op.key (entry_if t))
        (apart_push t.op.key keys apart others) (fresh_new keys E t.op.key (entry_if t) fresh)
        ∙ listed_same (keys_after (keys ++ t.op.key ∷ []) ts)
        (λ k. plus E t.op.key (entry_if t) k ++ entries_of k ts)
        (λ k. E k ++ entries_of k (t ∷ ts)) (plus_more E t ts)

keys_after-tagged :
    (known : List (List ℕ)) (ops : List Op) (tags : List ℕ) (place : ℕ) → length ops ≡ length tags
    → keys_after known (tagged place ops tags) ≡ first_keys known ops
unfolding keys_after
keys_after-tagged known [] tags place same' = refl
keys_after-tagged known (op ∷ ops) [] place same' = absurd (omega arith)
keys_after-tagged known (op ∷ ops) (tag ∷ tags) place same' =
    keys_after-tagged (if is_in op.key known then known else known ++ op.key ∷ []) ops tags
    (place + 1) (omega arith)

pub grouped-all : (ops : List Op) (tags : List ℕ) → length ops ≡ length tags
    → grouped [] (tagged 0 ops tags)
    ≡ listed (keys_in ops) (λ key. entries_of key (tagged 0 ops tags))
unfolding listed Fresh Apart
grouped-all ops tags even =
    grouped_from (tagged 0 ops tags) [] (λ key. []) tt (λ key others. refl)
    ∙ ap (λ keys. listed keys (λ key. entries_of key (tagged 0 ops tags)))
    (keys_after-tagged [] ops tags 0 even)
