-- One pass over the history makes the groups, and the orders of the groups are those of the keys.
use Rattle.std.proofs.Common.{◌≡◌, ◌<◌, ◌≤◌, ◌+◌, ◌^◌, ℕ, Option, IfSome, List, [], ◌∷◌, ◌++◌}
use Rattle.std.proofs.Common.{length, map, refl, sym, ap, ◌∙◌, subst, append_assoc}
use Rattle.std.proofs.lemmas.List.{append-nil, nil_from_length}
use Rattle.std.specs.List.{AllByRecursion}
use Rattle.peg_event.specs.declared.history.Op.{Op}
use Rattle.peg_model.specs.Order.{tagged, order_of, keys_in}
use Rattle.peg_history.specs.declared.Entry.{Entry}
use Rattle.peg_history.specs.declared.KeyOrder.{KeyOrder}
use Rattle.peg_history.specs.declared.group.Group.{Group}
use Rattle.peg_history.specs.Entries.{InRange, entry_if, entries_of, added, grouped, printed}
use Rattle.peg_history.specs.Groups.{group_of, IsIndex, key_orders, order_in_book}
use Rattle.peg_history.proofs.Grouping.{listed, grouped-all}
use Rattle.peg_history.proofs.Orders.{rest_of, rest_none, printed_is}

pub record IsPassed (ops : List Op) (tags : List ℕ) (place : ℕ) (known : List (List ℕ))
    (gs : List (List ℕ × List Entry)) : Type 0 where
  pub index : IsIndex known gs
  pub split : grouped [] (tagged 0 ops tags) ≡ grouped gs (rest_of ops tags place)
  pub range :
      AllByRecursion InRange (rest_of ops tags place) → AllByRecursion InRange (tagged 0 ops tags)

pub none_passed :
    (ops : List Op) (tags : List ℕ) (known : List (List ℕ)) (gs : List (List ℕ × List Entry))
    → gs ≡ [] → known ≡ []
    → IsPassed ops tags 0 known gs
unfolding rest_of
none_passed ops tags known gs none empty =
    record {
      index = empty ∙ ap (λ (xs : List (List ℕ × List Entry)). map (λ g. g.0) xs) (sym none);
      split = ap (λ (xs : List (List ℕ × List Entry)). grouped xs (tagged 0 ops tags)) (sym none);
      range = λ h. h;
    }

pub more_passed :
    (ops : List Op) (tags : List ℕ) (place : ℕ) (op : Op) (tag : ℕ) (e : Option Entry)
    (old known : List (List ℕ)) (gs new : List (List ℕ × List Entry))
    → rest_of ops tags place ≡ record {
      place = place;
      op = op;
      tag = tag;
    } ∷ rest_of ops tags (place + 1)
    → IfSome op.answered (λ at. at < 2 ^ 64)
    → e ≡ entry_if (record { place = place; op = op; tag = tag })
    → new ≡ added gs op.key e → IsIndex known new → IsPassed ops tags place old gs
    → IsPassed ops tags (place + 1) known new
more_passed ops tags place op tag e old known gs new rest range is now index done =
    record {
      index = index;
      split = done.split ∙ ap (λ ts. grouped gs ts) rest
          ∙ ap (λ o. grouped (added gs op.key o) (rest_of ops tags (place + 1))) (sym is) ∙ ap
          (λ xs. grouped xs (rest_of ops tags (place + 1))) (sym now);
      range = λ h. done.range (subst (λ ts. AllByRecursion InRange ts) (sym rest) (range, h));
    }

pub all_groups :
    (ops : List Op) (tags : List ℕ) (place : ℕ) (known : List (List ℕ))
    (gs : List (List ℕ × List Entry))
    → length ops ≤ place
    → IsPassed ops tags place known gs → gs ≡ grouped [] (tagged 0 ops tags)
all_groups ops tags place known gs past done =
    sym (done.split ∙ ap (λ ts. grouped gs ts) (rest_none ops tags place past))

pub all_range :
    (ops : List Op) (tags : List ℕ) (place : ℕ) (known : List (List ℕ))
    (gs : List (List ℕ × List Entry))
    → length ops ≤ place
    → IsPassed ops tags place known gs → AllByRecursion InRange (tagged 0 ops tags)
all_range ops tags place known gs past done =
    done.range (subst (λ ts. AllByRecursion InRange ts) (sym (rest_none ops tags place past)) tt)

-- ---- the orders of the groups

abbrev pub order_of_group : Group → KeyOrder
order_of_group g = record { key = g.key; ops = printed g.entries.items }

order_of_pair : List ℕ × List Entry → KeyOrder
order_of_pair g = record { key = g.0; ops = printed g.1 }

pairs : (gs : List Group) → map order_of_group gs ≡ map order_of_pair (map group_of gs)
unfolding order_of_pair
pairs [] = refl
pairs (g ∷ gs) = ap (λ os. record { key = g.key; ops = printed g.entries.items } ∷ os) (pairs gs)

orders_listed :
    (ops : List Op) (tags : List ℕ) → AllByRecursion InRange (tagged 0 ops tags)
    → (keys : List (List ℕ))
    → map order_of_pair (listed keys (λ key. entries_of key (tagged 0 ops tags)))
    ≡ map (order_in_book ops tags) keys
unfolding listed order_of_pair
orders_listed ops tags range [] = refl
orders_listed ops tags range (key ∷ keys) =
    let here :
    printed (entries_of key (tagged 0 ops tags))
    ≡ order_of ops tags key = printed_is key ops tags (entries_of key (tagged 0 ops tags))
    refl range in
    λ i. record { key = key; ops = here i } ∷ orders_listed ops tags range keys i

pub key_orders_are :
    (ops : List Op) (tags : List ℕ) (gs : List Group) → length tags ≡ length ops
    → map group_of gs ≡ grouped [] (tagged 0 ops tags)
    → AllByRecursion InRange (tagged 0 ops tags) → map order_of_group gs ≡ key_orders ops tags
key_orders_are ops tags gs even is range =
    pairs gs ∙ ap (λ xs. map order_of_pair xs) (is ∙ grouped-all ops tags (sym even)) ∙
    orders_listed ops tags range (keys_in ops)

pub one_more :
    (orders new : List KeyOrder) (o : KeyOrder) (g : Group) (rest its : List Group)
    (whole : List KeyOrder)
    → new ≡ orders ++ o ∷ [] → o ≡ order_of_group g
    → its ≡ g ∷ rest → orders ++ map order_of_group its ≡ whole
    → new ++ map order_of_group rest ≡ whole
one_more orders new o g rest its whole is here next done =
    ap (λ os. os ++ map order_of_group rest) is ∙ append_assoc orders (o ∷ [])
    (map order_of_group rest)
    ∙ ap (λ x. orders ++ (x ∷ map order_of_group rest)) here ∙ ap
    (λ xs. orders ++ map order_of_group xs) (sym next) ∙ done

pub no_more :
    (orders : List KeyOrder) (its : List Group) (whole : List KeyOrder) → length its ≡ 0
    → orders ++ map order_of_group its ≡ whole → orders ≡ whole
no_more orders its whole none done =
    sym (append-nil orders) ∙ ap (λ xs. orders ++ map order_of_group xs)
    (sym (nil_from_length its none)) ∙ done
