-- The orders that a world answers are the printed orders of the book.
use Rattle.std.proofs.Common.{◌≡◌, ℕ, List, [], ◌∷◌, map, refl, ap, ◌∙◌}
use Rattle.peg_event.specs.declared.history.Op.{Op}
use Rattle.peg_model.specs.World.{World, history}
use Rattle.peg_model.specs.Order.{orders, order_of, keys_in}
use Rattle.peg_history.specs.declared.KeyOrder.{KeyOrder}
use Rattle.peg_history.specs.Groups.{key_orders, order_in_book}
use Rattle.peg_print.specs.Tail.{key_order}

-- the orders of a history, as pairs
pairs_of :
    (ops : List Op) (tags : List ℕ) (keys : List (List ℕ))
    → map key_order (map (order_in_book ops tags) keys)
    ≡ map (λ key. (key, order_of ops tags key)) keys
pairs_of ops tags [] = refl
pairs_of ops tags (key ∷ keys) =
    ap (λ os. (key, order_of ops tags key) ∷ os) (pairs_of ops tags keys)

pub orders_as :
    (w : World) (os : List KeyOrder) → os ≡ key_orders (history w) (map (λ o. o.tag) w.operations)
    → map key_order os ≡ orders w
orders_as w os is =
    ap (map key_order) is
    ∙ pairs_of (history w) (map (λ o. o.tag) w.operations) (keys_in (history w))
