-- The fields of a soup, seen as the packets in flight.
--     content_of short long place      what the slot at a place holds
--     IsLive short long sent      the slot of a packet holds something
--     items_of short long rows      each packet as its node and its bytes
--     flight_of soup      what the fields hold
--     IsSoup soup      the room of the slots, and that each packet has one
use Rattle.std.specs.Prelude.{ℕ, ◌-◌, ◌≡◌, ◌≤◌, List, [], map, min, Option, IsSome, unwrap_or}
use Rattle.std.specs.Prelude.{vec_len, vec_capacity}
use Rattle.std.specs.List.{AllByRecursion}
use Rattle.peg_name.specs.Name.{packet_most}
use Rattle.peg_name.specs.declared.Node.{Node}
use Rattle.peg_pool.specs.Flight.{Flight}
use Rattle.peg_pool.specs.Slots.{Slots, bytes_of}
use Rattle.peg_pool.specs.declared.soup.Place.{Place}
use Rattle.peg_pool.specs.declared.soup.Place.TheVariants.{Short, Long}
use Rattle.peg_pool.specs.declared.soup.Sent.{Sent}
use Rattle.peg_pool.specs.declared.soup.Soup.TheInside.{Inside}

abbrev pub content_of : Slots → Slots → Place → Option (List ℕ)
content_of short long (Short slot) = bytes_of short slot
content_of short long (Long slot) = bytes_of long slot

abbrev pub IsLive : Slots → Slots → Sent → Type 0
IsLive short long sent = IsSome (content_of short long sent.place)

abbrev pub items_of : Slots → Slots → List Sent → List (Node × List ℕ)
items_of short long rows =
    map (λ sent. (sent.to, unwrap_or (content_of short long sent.place) [])) rows

abbrev pub flight_of : Inside → Flight
flight_of soup =
    record {
      format = soup.format;
      items = items_of soup.short.slots soup.long.slots soup.rows.items;
      spare = min (min (vec_capacity soup.rows) 4000000000 - vec_len soup.rows)
          (min soup.short.spare soup.long.spare);
    }

pub record IsSoup (soup : Inside) : Type 0 where
  pub short : soup.short.slots.size ≡ 128
  pub long : soup.long.slots.size ≡ packet_most soup.format
  pub live : AllByRecursion (IsLive soup.short.slots soup.long.slots) soup.rows.items
  pub few : vec_len soup.rows ≤ 4000000000
