-- The fields of an outbox, seen as what it holds.
--     outbox_of post      the outbox that they are
--     IsPost post      the used slots are slots, and each holds at most a packet
use Rattle.std.specs.Prelude.{ℕ, ◌≡◌, ◌≤◌, List, length, take, map}
use Rattle.std.specs.List.{AllByRecursion}
use Rattle.peg_name.specs.Name.{packet_most}
use Rattle.peg_name.specs.declared.Format.{Format}
use Rattle.peg_name.specs.declared.Node.{Node}
use Rattle.peg_packet.specs.Outbox.{Outbox}
use Rattle.peg_packet.specs.declared.post.Slot.{Slot}
use Rattle.peg_packet.specs.declared.post.Post.TheInside.{Inside}

abbrev pub item_of : Slot → Node × List ℕ
item_of slot = (slot.to, take slot.len slot.bytes)

abbrev pub outbox_of : Inside → Outbox
outbox_of post =
    record {
      format = post.format;
      slots = length post.slots.items;
      items = map item_of (take post.used post.slots.items);
    }

abbrev pub FitsSlot : Format → Slot → Type 0
FitsSlot format slot = (slot.len ≤ packet_most format) × (length slot.bytes ≡ 1152)

pub record IsPost (post : Inside) : Type 0 where
  pub room : post.used ≤ length post.slots.items
  pub fits : AllByRecursion (FitsSlot post.format) post.slots.items
