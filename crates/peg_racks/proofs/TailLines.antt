-- The text behind the line end, a rack at a time.
use Rattle.std.proofs.Common.{◌≡◌, ◌+◌, ◌<◌, ◌⊎◌, inl, inr, ℕ, suc, Bool, true, false, Option, Some}
use Rattle.std.proofs.Common.{None, List, [], ◌∷◌, ◌++◌, length, map, drop, slice_get, codes}
use Rattle.std.proofs.Common.{decimal, refl, sym, ap, ◌∙◌, subst, arith, append_assoc, length-append, drop-cons}
use Rattle.std.specs.Prelude.{option_map}
use Rattle.std.proofs.lemmas.Option.{slice_get_within, get_or_from_slice_get}
use Rattle.std.proofs.lemmas.List.{map-append}
use Rattle.peg_event.specs.declared.Line.{Line}
use Rattle.peg_event.specs.declared.Said.TheVariants as said
use Rattle.peg_event.specs.declared.history.Op.{Op}
use Rattle.peg_model.specs.World.{World, history}
use Rattle.peg_model.specs.Order.{orders}
use Rattle.peg_model.specs.Schedule.{fed}
use Rattle.peg_model.specs.Trace.{line_text, said_text, tail_text}
use Rattle.peg_meaning.specs.Racks.{at_place, tails_text}
use Rattle.peg_history.specs.declared.KeyOrder.{KeyOrder}
use Rattle.peg_history.specs.Groups.{key_orders}
use Rattle.peg_world.specs.Running.{Running}
use Rattle.peg_session.specs.Pages.{Passes}
use Rattle.peg_session.proofs.Passing.{passes_then, passes_none}
use Rattle.peg_print.specs.Tail.{key_order}
use Rattle.peg_racks.specs.Worlds.{worlds_of, AreOrdersOf}
use Rattle.peg_racks.specs.Tails.{tail_of, tail_in, AreOrders}
use Rattle.peg_racks.proofs.Steps.{world_at, get_pushed, get_within}

-- ---- one line

pub rack_text :
    (place : ℕ) (line : Line) → line ≡ record { said = said.Rack; sent = None }
    → fed (line_text place line) ≡ at_place place (codes "rack")
unfolding said_text
rack_text place line is = ap (λ (l : Line). fed (line_text place l)) is

pub end_text_is : (place : ℕ) → fed (decimal place ++ codes " end") ≡ at_place place (codes "end")
end_text_is place = ap fed (sym (append_assoc (decimal place) (codes " ") (codes "end")))

-- ---- the tails

items_from :
    {A : Type 0} (n : ℕ) (xs : List A) (x : A) → slice_get xs n ≡ Some x
    → drop n xs ≡ x ∷ drop (n + 1) xs
items_from n xs x is =
    let k : suc n ≡ n + 1 = omega arith in
    drop-cons xs n x (slice_get_within xs n x is)
    ∙ ap (λ y. y ∷ drop (suc n) xs) (get_or_from_slice_get xs n x x is)
    ∙ ap (λ m. x ∷ drop m xs) k

pub tails_from :
    (n : ℕ) (ws : List World) (w : World) → slice_get ws n ≡ Some w
    → tails_text n (drop n ws) ≡ tail_of n w ++ tails_text (n + 1) (drop (n + 1) ws)
tails_from n ws w is =
    ap (tails_text n) (items_from n ws w is)

-- a rack's text, and those behind it
pub tails_at :
    (rs : List Running) (n : ℕ) → n < length rs
    → tails_text n (drop n (worlds_of rs))
    ≡ tail_in (slice_get (worlds_of rs) n) n ++ tails_text (n + 1) (drop (n + 1) (worlds_of rs))
tails_at rs n within =
    let r = get_within rs n within in
    let at = world_at rs n r.0 r.1 in
    tails_from n (worlds_of rs) r.0.world at
    ∙ ap (λ (o : Option World). tail_in o n ++ tails_text (n + 1) (drop (n + 1) (worlds_of rs)))
    (sym at)

-- a rack's text begins with its number
pub tail_begun :
    (rs : List Running) (rack : ℕ) → rack < length rs
    → (rest : List ℕ)
    × (tail_in (slice_get (worlds_of rs) rack) rack
    ≡ fed (codes "rack " ++ decimal rack) ++ rest)
tail_begun rs rack within =
    let r = get_within rs rack within in (
      tail_text (history r.0.world) (orders r.0.world),
      ap (λ (w : Option World). tail_in w rack) (world_at rs rack r.0 r.1),
    )

-- a rack's history and orders, as they were made
module _ (law : (w : World) (os : List KeyOrder)
    → os ≡ key_orders (history w) (map (λ o. o.tag) w.operations) → map key_order os ≡ orders w) where
  tail_at :
      (rs : List Running) (rack : ℕ) (ops : List Op) (os : List KeyOrder) (o : Option Running)
      → slice_get rs rack ≡ o → Some ops ≡ option_map (λ (r : Running). history r.world) o
      → AreOrdersOf o os
      → tail_in (slice_get (worlds_of rs) rack) rack
      ≡ fed (codes "rack " ++ decimal rack) ++ tail_text ops (map key_order os)
  tail_at rs rack ops os None at is are = absurd are
  tail_at rs rack ops os (Some r) at is are =
      let front = fed (codes "rack " ++ decimal rack) in
      let same : history r.world ≡ ops = cc (sym is) in
      ap (λ (w : Option World). tail_in w rack) (world_at rs rack r at)
      ∙ ap (λ (h : List Op). front ++ tail_text h (orders r.world)) same
      ∙ ap (λ (ks : List (List ℕ × List ℕ)). front ++ tail_text ops ks) (sym (law r.world os are.0))

  pub tail_is :
      (rs : List Running) (rack : ℕ) (ops : List Op) (os : List KeyOrder)
      → Some ops ≡ option_map (λ (r : Running). history r.world) (slice_get rs rack)
      → AreOrdersOf (slice_get rs rack) os
      → tail_in (slice_get (worlds_of rs) rack) rack
      ≡ fed (codes "rack " ++ decimal rack) ++ tail_text ops (map key_order os)
  tail_is rs rack ops os is are = tail_at rs rack ops os (slice_get rs rack) refl is are

-- ---- the line end and the tails

module _ (place : ℕ) (ws : List World) (page mid : List ℕ) (h h1 : Option (List ℕ)) where
  end_part :
      (b : Bool) → Passes b (fed (decimal place ++ codes " end")) page mid h h1
      → Passes b (at_place place (codes "end")) page mid h h1
  end_part b one = subst (λ xs. Passes b xs page mid h h1) (end_text_is place) one

  pub end_then :
      (b : Bool) (page' : List ℕ) (h2 : Option (List ℕ))
      → Passes true (fed (decimal place ++ codes " end")) page mid h h1
      → Passes b (tails_text 0 ws) mid page' h1 h2
      → Passes b (at_place place (codes "end") ++ tails_text 0 ws) page page' h h2
  end_then b page' h2 one two =
      passes_then b (at_place place (codes "end")) (tails_text 0 ws) page mid page' h h1 h2
      (end_part true one) two

  pub end_none :
      Passes false (fed (decimal place ++ codes " end")) page mid h h1
      → Passes false (at_place place (codes "end") ++ tails_text 0 ws) page mid h h1
  end_none one =
      passes_none (at_place place (codes "end")) (tails_text 0 ws) page mid mid h h1
      (end_part false one)

-- ---- the orders of each rack

pub record AreOrdersBefore (rs : List Running) (n : ℕ) (all : List (List KeyOrder)) : Type 0 where
  pub count : length all ≡ n
  pub each :
      (i : ℕ) (orders_at : List KeyOrder) → slice_get all i ≡ Some orders_at
      → AreOrdersOf (slice_get rs i) orders_at

pub orders_none : (rs : List Running) → AreOrdersBefore rs 0 []
orders_none rs = record { count = refl; each = λ i os e. absurd cc }

pub orders_more :
    (rs : List Running) (n : ℕ) (all : List (List KeyOrder)) (os : List KeyOrder)
    → AreOrdersBefore rs n all → AreOrdersOf (slice_get rs n) os
    → AreOrdersBefore rs (n + 1) (all ++ os ∷ [])
orders_more rs n all os are new = record {
  count = length-append all (os ∷ []) ∙ ap (λ k. k + 1) are.count;
  each = λ i orders_at e. at_last i orders_at (get_pushed all os orders_at i e);
}
  where
    at_last :
        (i : ℕ) (orders_at : List KeyOrder)
        → (slice_get all i ≡ Some orders_at) ⊎ ((i ≡ length all) × (os ≡ orders_at))
        → AreOrdersOf (slice_get rs i) orders_at
    at_last i orders_at (inl e) = are.each i orders_at e
    at_last i orders_at (inr e) =
        subst (λ k. AreOrdersOf (slice_get rs k) orders_at) (sym (e.0 ∙ are.count))
        (subst (λ (xs : List KeyOrder). AreOrdersOf (slice_get rs n) xs) e.1 new)

-- the same where the orders are kept in something else
pub orders_pushed :
    {V : Type 0} (f : V → List KeyOrder) (rs : List Running) (n : ℕ) (all now : List V) (v : V)
    → now ≡ all ++ v ∷ [] → AreOrdersBefore rs n (map f all) → AreOrdersOf (slice_get rs n) (f v)
    → AreOrdersBefore rs (n + 1) (map f now)
orders_pushed f rs n all now v is are new =
    subst (λ (xs : List (List KeyOrder)). AreOrdersBefore rs (n + 1) xs)
    (sym (ap (map f) is ∙ map-append f all (v ∷ [])))
    (orders_more rs n (map f all) (f v) are new)

pub orders_all :
    (rs : List Running) (all : List (List KeyOrder)) → AreOrdersBefore rs (length rs) all
    → AreOrders rs all
orders_all rs all are = record { count = are.count; each = are.each }
