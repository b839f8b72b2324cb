-- The orders that a world answers are register histories, since the book's are.
use Rattle.std.proofs.Common.{◌≡◌, ℕ, List, [], ◌∷◌, map, sym, subst}
use Rattle.std.specs.Prelude.{Result, Ok, Err, IfOk}
use Rattle.std.specs.List.{AllByRecursion}
use Rattle.peg_event.specs.declared.history.Op.{Op}
use Rattle.peg_model.specs.Headline.{OrdersAreHistories}
use Rattle.peg_model.specs.Order.{order_of, keys_in}
use Rattle.peg_model.specs.Register.{IsRegisterHistory}
use Rattle.peg_model.specs.World.{World, history}
use Rattle.peg_history.specs.declared.KeyOrder.{KeyOrder}
use Rattle.peg_history.specs.Groups.{key_orders, order_in_book}
use Rattle.peg_world.specs.Running.{AreHistories}

each_order :
    (ops : List Op) (tags : List ℕ) (keys : List (List ℕ))
    → AllByRecursion {X = List ℕ × List ℕ} (λ o. IsRegisterHistory ops o.0 o.1)
    (map (λ key. (key, order_of ops tags key)) keys)
    → AreHistories ops (map (order_in_book ops tags) keys)
each_order ops tags [] all = tt
each_order ops tags (key ∷ keys) all = (all.0, each_order ops tags keys all.1)

pub orders_are :
    (w : World) (orders : List KeyOrder)
    → orders ≡ key_orders (history w) (map (λ o. o.tag) w.operations) → OrdersAreHistories w
    → AreHistories (history w) orders
orders_are w orders is histories =
    subst (AreHistories (history w)) (sym is)
    (each_order (history w) (map (λ o. o.tag) w.operations) (keys_in (history w)) histories)

pub orders_if :
    {X E : Type 0} (w : World) (items : X → List KeyOrder) (r : Result X E)
    → IfOk r (λ o. items o ≡ key_orders (history w) (map (λ o. o.tag) w.operations))
    → OrdersAreHistories w → IfOk r (λ o. AreHistories (history w) (items o))
orders_if w items (Ok o) is histories = orders_are w (items o) is histories
orders_if w items (Err e) is histories = tt
