-- The places of the answered operations of each key, listed in one pass.
use Rattle.std.proofs.Common.{◌≡◌, ◌<◌, ◌≤◌, ◌+◌, ◌&&◌, ℕ, Bool, true, false, if◌then◌else◌, is_some}
use Rattle.std.proofs.Common.{List, [], ◌∷◌, ◌++◌, length, get_or, drop, refl, sym, ap, ◌∙◌}
use Rattle.std.proofs.Common.{append_assoc, Option, Some, None, unwrap_or, cond}
use Rattle.std.proofs.lemmas.List.{drop_more, drop_all, append-nil}
use Rattle.std.specs.Prelude.{Vec}
use Rattle.std.specs.Ordering.{nat_cmp}
use Rattle.std.specs.Cmp.Lexicographic.{slice_cmp}
use Rattle.std.specs.BTreeMap.{BTreeMap, get, is_at}
use Rattle.std.proofs.lemmas.Map.Text.{is_eq-slice_cmp}
use Rattle.std.specs.Str.{bytes_eq}
use Rattle.peg_event.specs.declared.history.Op.{Op}
use Rattle.peg_history.specs.Walking.{answered_from, items_of, places_in, place_if}
use Rattle.peg_history.proofs.Grouping.{same}

pub record IsListedTo {A : Type 0} (ops : List Op) (place : ℕ)
    (known : BTreeMap (List ℕ) (Vec ℕ A)) : Type 0 where
  pub is :
      (key : List ℕ)
      → answered_from ops 0 key ≡ places_in known key ++ answered_from (drop place ops) place key

at_place :
    (ops : List Op) (place : ℕ) (op : Op) (key : List ℕ) → place < length ops
    → op ≡ get_or ops place op
    → answered_from (drop place ops) place key
    ≡ (if bytes_eq op.key key && is_some op.answered
    then place ∷ answered_from (drop (place + 1) ops) (place + 1) key
    else answered_from (drop (place + 1) ops) (place + 1) key)
at_place ops place op key lt is =
    ap (λ os. answered_from os place key) (drop_more ops place op lt)
    ∙ ap (λ o. answered_from (o ∷ drop (place + 1) ops) place key) (sym is)

pub listed_more :
    {A : Type 0} (ops : List Op) (place : ℕ) (op : Op) (known new : BTreeMap (List ℕ) (Vec ℕ A))
    → place < length ops → op ≡ get_or ops place op → is_some op.answered ≡ true
    → ((q : List ℕ) → places_in new q ≡ places_in known q ++ place_if (bytes_eq op.key q) place)
    → IsListedTo ops place known → IsListedTo ops (place + 1) new
listed_more ops place op known new lt is some now done =
    record {
      is = λ key.
          let rest = answered_from (drop (place + 1) ops) (place + 1) key in
          done.is key
          ∙ ap (λ ps. places_in known key ++ ps)
          (at_place ops place op key lt is
          ∙ ap (λ b. if bytes_eq op.key key && b then place ∷ rest else rest) some
          ∙ split (bytes_eq op.key key) rest)
          ∙ sym (append_assoc (places_in known key) (place_if (bytes_eq op.key key) place) rest)
          ∙ ap (λ ps. ps ++ rest) (sym (now key));
    }
  where
    split : (b : Bool) (rest : List ℕ)
        → (if b && true then place ∷ rest else rest) ≡ place_if b place ++ rest
    split true rest = refl
    split false rest = refl

pub listed_skip :
    {A : Type 0} (ops : List Op) (place : ℕ) (op : Op) (known : BTreeMap (List ℕ) (Vec ℕ A))
    → place < length ops → op ≡ get_or ops place op → is_some op.answered ≡ false
    → IsListedTo ops place known → IsListedTo ops (place + 1) known
listed_skip ops place op known lt is none done =
    record {
      is = λ key.
          let rest = answered_from (drop (place + 1) ops) (place + 1) key in
          done.is key
          ∙ ap (λ ps. places_in known key ++ ps)
          (at_place ops place op key lt is
          ∙ ap (λ b. if bytes_eq op.key key && b then place ∷ rest else rest) none
          ∙ skip (bytes_eq op.key key) rest);
    }
  where
    skip : (b : Bool) (rest : List ℕ) → (if b && false then place ∷ rest else rest) ≡ rest
    skip true rest = refl
    skip false rest = refl

pub listed_all :
    {A : Type 0} (ops : List Op) (place : ℕ) (known : BTreeMap (List ℕ) (Vec ℕ A))
    → length ops ≤ place → IsListedTo ops place known → (key : List ℕ)
    → places_in known key ≡ answered_from ops 0 key
listed_all ops place known all done key =
    sym
    (done.is key
    ∙ ap (λ os. places_in known key ++ answered_from os place key) (drop_all place ops all)
    ∙ append-nil (places_in known key))

-- ---- one more place at a key

items_held :
    {A : Type 0} (found : Option (Vec ℕ A)) (fresh : Vec ℕ A) → fresh.items ≡ []
    → (unwrap_or found fresh).items ≡ items_of found
items_held None fresh none = none
items_held (Some held) fresh none = refl

pub added_place :
    {A : Type 0} (known between new : BTreeMap (List ℕ) (Vec ℕ A)) (key : List ℕ) (place : ℕ)
    (fresh held one : Vec ℕ A) (found : Option (Vec ℕ A))
    → found ≡ get (slice_cmp nat_cmp) known key → held ≡ unwrap_or found fresh → fresh.items ≡ []
    → one.items ≡ held.items ++ place ∷ [] → (q : List ℕ)
    → get (slice_cmp nat_cmp) between q
    ≡ cond (is_at (slice_cmp nat_cmp key) q) None (get (slice_cmp nat_cmp) known q)
    → get (slice_cmp nat_cmp) new q
    ≡ cond (is_at (slice_cmp nat_cmp key) q) (Some one) (get (slice_cmp nat_cmp) between q)
    → places_in new q ≡ places_in known q ++ place_if (bytes_eq key q) place
added_place {A = A} known between new key place fresh held one found found_is held_is none one_is q taken put =
    by_key (bytes_eq key q) refl
  where
    by_key : (b : Bool) → bytes_eq key q ≡ b
        → places_in new q ≡ places_in known q ++ place_if b place
    by_key true h =
        ap items_of (put ∙ ap (λ b. cond b (Some one) (get (slice_cmp nat_cmp) between q))
        (is_eq-slice_cmp key q ∙ h))
        ∙ one_is
        ∙ ap (λ ps. ps ++ place ∷ [])
        (ap (λ (v : Vec ℕ A). v.items) held_is ∙ items_held found fresh none ∙ ap items_of found_is
        ∙ ap (places_in known) (same key q h))
    by_key false h =
        ap items_of
        (put ∙ ap (λ b. cond b (Some one) (get (slice_cmp nat_cmp) between q))
        (is_eq-slice_cmp key q ∙ h) ∙ taken
        ∙ ap (λ b. cond b None (get (slice_cmp nat_cmp) known q)) (is_eq-slice_cmp key q ∙ h))
        ∙ sym (append-nil (places_in known q))
