-- What the check of an order keeps while it walks along it.
--     order_pair o      an order as its key and its places
--     AreHistories ops orders      each order is a register history of its key
--     walked_of ops order      the operations at these places, each with its place
--     latest_issue walked      the greatest issue place of them
--     held_at ops last      the content of the last write, given by its place
--     last_write last place op      the place of the last write after an operation
--     own_fault key held is_walked place op      a fault that doesn't depend on answer places
--     answered_from ops place key      the places of the answered operations of a key
--     places_in known key      the places that a map has of a key
--     first_unmarked marks mark places      the first of these places that hasn't this mark
use Rattle.std.specs.Prelude.{◌+◌, ℕ, Bool, not, ◌&&◌, ◌||◌, max, is_some, nat_eq}
use Rattle.std.specs.Prelude.{Option, Some, None, option_map, List, [], ◌∷◌, slice_get}
use Rattle.std.specs.Prelude.{slice_index, if◌then◌else◌}
use Rattle.std.specs.Prelude.{Vec}
use Rattle.std.specs.List.{filter_map, AllByRecursion}
use Rattle.std.specs.Ordering.{nat_cmp}
use Rattle.std.specs.Cmp.Lexicographic.{slice_cmp}
use Rattle.std.specs.BTreeMap.{BTreeMap, get}
use Rattle.std.specs.Str.{bytes_eq}
use Rattle.peg_name.specs.declared.value.Content.{Content}
use Rattle.peg_name.specs.declared.value.Content.TheVariants.{Absent}
use Rattle.peg_event.specs.declared.history.Op.{Op}
use Rattle.peg_event.specs.declared.history.Fault.{Fault}
use Rattle.peg_event.specs.declared.history.Fault.TheVariants as fault
use Rattle.peg_model.specs.World.{is_write}
use Rattle.peg_model.specs.Register.{IsRegisterHistory}
use Rattle.peg_model.specs.Judge.{is_unseen_read, is_wrong_read}
use Rattle.peg_history.specs.declared.KeyOrder.{KeyOrder}

abbrev pub order_pair : KeyOrder → List ℕ × List ℕ
order_pair o = (o.key, o.ops)

abbrev pub AreHistories : List Op → List KeyOrder → Type 0
AreHistories ops orders = AllByRecursion (λ o. IsRegisterHistory ops o.key o.ops) orders

abbrev pub placed_op : List Op → ℕ → Option (ℕ × Op)
placed_op ops place = option_map (λ op. (place, op)) (slice_get ops place)

abbrev pub walked_of : List Op → List ℕ → List (ℕ × Op)
walked_of ops order = filter_map (placed_op ops) order

abbrev pub latest_issue : List (ℕ × Op) → ℕ
latest_issue [] = 0
latest_issue (w ∷ walked) = max w.1.issued (latest_issue walked)

abbrev pub content_of : Option Op → Content
content_of None = Absent
content_of (Some op) = op.content

abbrev pub held_at : List Op → Option ℕ → Content
held_at ops None = Absent
held_at ops (Some last) = content_of (slice_get ops last)

abbrev pub last_write : Option ℕ → ℕ → Op → Option ℕ
last_write last place op = if is_write op.act then Some place else last

abbrev pub own_fault : List ℕ → Content → Bool → ℕ → Op → Option Fault
own_fault key held is_walked place op =
    if not (bytes_eq op.key key) || is_unseen_read op then Some (fault.Strange place)
    else (if is_walked then Some (fault.Twice place)
    else (if is_wrong_read held op then Some (fault.Illegal place) else None))

abbrev pub answered_from : List Op → ℕ → List ℕ → List ℕ
answered_from [] place key = []
answered_from (op ∷ ops) place key =
    if bytes_eq op.key key && is_some op.answered then place ∷ answered_from ops (place + 1) key
    else answered_from ops (place + 1) key

abbrev pub items_of : {A : Type 0} → Option (Vec ℕ A) → List ℕ
items_of None = []
items_of (Some places) = places.items

abbrev pub places_in : {A : Type 0} → BTreeMap (List ℕ) (Vec ℕ A) → List ℕ → List ℕ
places_in known key = items_of (get (slice_cmp nat_cmp) known key)

-- one more place at a key
abbrev pub place_if : Bool → ℕ → List ℕ
place_if is_in place = if is_in then place ∷ [] else []

abbrev pub first_unmarked : List ℕ → ℕ → List ℕ → Option Fault
first_unmarked marks mark [] = None
first_unmarked marks mark (place ∷ places) =
    if nat_eq (slice_index marks place) mark then first_unmarked marks mark places
    else Some (fault.Missing place)
