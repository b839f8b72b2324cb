-- The texts behind the event lines, an item at a time.
use Rattle.std.proofs.Common.{◌≡◌, ◌<◌, ◌+◌, ℕ, suc, List, ◌∷◌, ◌++◌, length, get_or, drop}
use Rattle.std.proofs.Common.{flat_map, map, Some, None, slice_get, codes, decimal, sym, ap}
use Rattle.std.proofs.Common.{◌∙◌, arith, drop-cons}
use Rattle.std.proofs.Common.{append_assoc}
use Rattle.std.proofs.lemmas.Option.{get_or_from_slice_get, slice_get_within}
use Rattle.peg_event.specs.declared.history.Op.{Op}
use Rattle.peg_event.specs.declared.Said.TheVariants as said
use Rattle.peg_event.specs.declared.Line.{Line}
use Rattle.peg_model.specs.Schedule.{fed}
use Rattle.peg_model.specs.Trace.{ops_text, op_text, line_text, said_text, key_order_text}
use Rattle.peg_history.specs.declared.KeyOrder.{KeyOrder}
use Rattle.peg_model.specs.Order.{orders}
use Rattle.peg_print.specs.Tail.{key_order}

-- the items from a place on
pub items_from :
    {A : Type 0} (n : ℕ) (xs : List A) (x : A) → n < length xs → x ≡ get_or xs n x
    → drop n xs ≡ x ∷ drop (n + 1) xs
items_from n xs x within is =
    let k : suc n ≡ n + 1 = omega arith in
    drop-cons xs n x within ∙ ap (λ y. y ∷ drop (suc n) xs) (sym is) ∙ ap (λ m. x ∷ drop m xs) k

pub ops_from :
    (n : ℕ) (ops : List Op) (op : Op) → n < length ops → op ≡ get_or ops n op
    → ops_text n (drop n ops) ≡ fed (op_text n op) ++ ops_text (n + 1) (drop (n + 1) ops)
ops_from n ops op within is = ap (λ os. ops_text n os) (items_from n ops op within is)

pub flat_map_from :
    {A : Type 0} (f : A → List ℕ) (n : ℕ) (xs : List A) (x : A) → n < length xs
    → x ≡ get_or xs n x
    → flat_map f (drop n xs) ≡ f x ++ flat_map f (drop (n + 1) xs)
flat_map_from f n xs x within is = ap (λ ys. flat_map f ys) (items_from n xs x within is)

-- the line end
pub end_line :
    (place : ℕ) (line : Line) → line ≡ record { said = said.End; sent = None }
    → fed (line_text place line) ≡ fed (decimal place ++ codes " end")
unfolding said_text
end_line place line is =
    ap (λ (l : Line). fed (line_text place l)) is ∙ ap fed
    (append_assoc (decimal place) (codes " ") (codes "end"))

-- an item by its place
pub flat_map_at :
    (f : ℕ → List ℕ) (n : ℕ) (xs : List ℕ) (x : ℕ) → Some x ≡ slice_get xs n
    → flat_map f (drop n xs) ≡ f x ++ flat_map f (drop (n + 1) xs)
flat_map_at f n xs x is =
    flat_map_from f n xs x (slice_get_within xs n x (sym is))
    (sym (get_or_from_slice_get xs n x x (sym is)))

pub orders_from :
    (n : ℕ) (orders : List KeyOrder) (o : KeyOrder) → n < length orders → o ≡ get_or orders n o
    → flat_map key_order_text (map key_order (drop n orders))
    ≡ key_order_text (key_order o)
    ++ flat_map key_order_text (map key_order (drop (n + 1) orders))
orders_from n orders o within is =
    ap (λ os. flat_map key_order_text (map key_order os)) (items_from n orders o within is)

pub ops_at :
    (n : ℕ) (ops : List Op) (op : Op) → Some op ≡ slice_get ops n
    → ops_text n (drop n ops) ≡ fed (op_text n op) ++ ops_text (n + 1) (drop (n + 1) ops)
ops_at n ops op is =
    ops_from n ops op (slice_get_within ops n op (sym is))
    (sym (get_or_from_slice_get ops n op op (sym is)))
