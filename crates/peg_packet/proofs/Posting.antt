-- The used slots of an outbox, as what it holds.
use Rattle.std.proofs.Common.{◌≡◌, ℕ, zero, suc, ◌+◌, ◌<◌, ◌≤◌, List, [], ◌∷◌, ◌++◌, length}
use Rattle.std.proofs.Common.{take, map, ap, sym, ◌∙◌, arith, length-take-le, subst, Some}
use Rattle.std.specs.Prelude.{slice_set, slice_get, slice_index_or}
use Rattle.std.specs.List.{AllByRecursion}
use Rattle.std.specs.Vec.{with_item}
use Rattle.std.proofs.lemmas.List.{length-map, length-set, take_more_set, map-append}
use Rattle.peg_name.specs.Name.{packet_most}
use Rattle.peg_name.specs.declared.Format.{Format}
use Rattle.peg_name.specs.declared.Format.TheVariants.{One, Two}
use Rattle.peg_name.specs.declared.Node.{Node}
use Rattle.peg_packet.specs.Outbox.{Outbox}
use Rattle.peg_packet.specs.Posted.{item_of, outbox_of, FitsSlot, IsPost}
use Rattle.peg_packet.specs.declared.post.Slot.{Slot}
use Rattle.peg_packet.specs.declared.post.Post.TheInside.{Inside}

pub length_items : (post : Inside) → IsPost post → length (outbox_of post).items ≡ post.used
length_items post is =
    length-map (take post.used post.slots.items) item_of ∙ length-take-le post.used
    post.slots.items is.room

-- ---- room, and one packet more

pub room_left :
    (post : Inside) (now : Outbox)
    → IsPost post → outbox_of post ≡ now → length now.items < now.slots
    → post.used < length post.slots.items
room_left post now is seen more =
    let used : length now.items ≡ post.used =
    ap (λ o. length o.items) (sym seen) ∙ length_items post is in
    let slots : now.slots ≡ length post.slots.items = ap (λ o. o.slots) (sym seen) in
    omega (arith, used, slots, more)

fits_set :
    (format : Format) (slots : List Slot) (i : ℕ) (slot : Slot)
    → AllByRecursion (FitsSlot format) slots → FitsSlot format slot
    → AllByRecursion (FitsSlot format) (slice_set slots i slot)
fits_set format [] i slot all new = tt
fits_set format (s ∷ slots) zero slot all new = (new, all.1)
fits_set format (s ∷ slots) (suc i) slot all new = (all.0, fits_set format slots i slot all.1 new)

pub put_in :
    (post : Inside) (slot : Slot)
    → IsPost post → post.used < length post.slots.items → FitsSlot post.format slot
    → IsPost (record post { slots = with_item post.slots post.used slot; used = post.used + 1 })
put_in post slot is more new = record {
  room = rw (length-set post.slots.items post.used slot) (omega (arith, more));
  fits = fits_set post.format post.slots.items post.used slot is.fits new;
}

more_items :
    (slots : List Slot) (used : ℕ) (slot : Slot)
    → used < length slots
    → map item_of (take (used + 1) (slice_set slots used slot))
    ≡ map item_of (take used slots) ++ item_of slot ∷ []
more_items slots used slot more =
    ap (map item_of) (take_more_set slots used slot more)
    ∙ map-append item_of (take used slots) (slot ∷ [])

pub put_seen :
    (post : Inside) (now : Outbox) (slot : Slot) (item : Node × List ℕ)
    → outbox_of post ≡ now → post.used < length post.slots.items → item_of slot ≡ item
    → outbox_of (record post { slots = with_item post.slots post.used slot; used = post.used + 1 })
    ≡ record now { items = now.items ++ item ∷ [] }
put_seen post now slot item seen more is = λ i. record {
  format = (seen i).format;
  slots = (length-set post.slots.items post.used slot ∙ ap (λ o. o.slots) seen) i;
  items =
      (more_items post.slots.items post.used slot more
      ∙ (λ j. (seen j).items ++ is j ∷ [])) i;
}

-- ---- what is at a place

fits_at_place :
    (format : Format) (slots : List Slot) (i : ℕ) (slot : Slot)
    → AllByRecursion (FitsSlot format) slots → i < length slots
    → slot ≡ slice_index_or slots i slot
    → FitsSlot format slot
fits_at_place format [] i slot all below is = absurd (omega arith)
fits_at_place format (s ∷ slots) zero slot all below is =
    let P : Slot → Type 0 = FitsSlot format in subst P (sym is) all.0
fits_at_place format (s ∷ slots) (suc i) slot all below is =
    fits_at_place format slots i slot all.1 (omega (arith, below)) is

pub fits_there :
    (post : Inside) (i : ℕ) (slot : Slot)
    → IsPost post → i < length post.slots.items
    → slot ≡ slice_index_or post.slots.items i slot
    → FitsSlot post.format slot
fits_there post i slot is below there =
    fits_at_place post.format post.slots.items i slot is.fits below there

item_there :
    (slots : List Slot) (used i : ℕ) (slot : Slot)
    → i < used → used ≤ length slots → slot ≡ slice_index_or slots i slot
    → slice_get (map item_of (take used slots)) i ≡ Some (item_of slot)
item_there [] used i slot below room is = absurd (omega (arith, below, room))
item_there (s ∷ slots) zero i slot below room is = absurd (omega arith)
item_there (s ∷ slots) (suc used) zero slot below room is = ap (λ x. Some (item_of x)) (sym is)
item_there (s ∷ slots) (suc used) (suc i) slot below room is =
    item_there slots used i slot (omega (arith, below)) (omega (arith, room)) is

pub item_seen :
    (post : Inside) (now : Outbox) (i : ℕ) (slot : Slot)
    → IsPost post → outbox_of post ≡ now → i < post.used
    → slot ≡ slice_index_or post.slots.items i slot
    → slice_get now.items i ≡ Some (item_of slot)
item_seen post now i slot is seen below there =
    ap (λ o. slice_get o.items i) (sym seen)
    ∙ item_there post.slots.items post.used i slot below is.room there

-- ---- slots that are made

pub fits_more :
    (format : Format) (slots : List Slot) (slot : Slot)
    → AllByRecursion (FitsSlot format) slots → FitsSlot format slot
    → AllByRecursion (FitsSlot format) (slots ++ slot ∷ [])
fits_more format [] slot all new = (new, tt)
fits_more format (s ∷ slots) slot all new = (all.0, fits_more format slots slot all.1 new)

pub most_in_slot : (format : Format) (n : ℕ) → n ≤ packet_most format → n ≤ 1152
most_in_slot One n h = omega (arith, h)
most_in_slot Two n h = h

pub item_used :
    (post : Inside) (now : Outbox) (i : ℕ)
    → IsPost post → outbox_of post ≡ now → i < length now.items → i < post.used
item_used post now i is seen below =
    let used : length now.items ≡ post.used =
    ap (λ o. length o.items) (sym seen) ∙ length_items post is in
    omega (arith, used, below)
