-- Packets that were sent are those that are read from their bytes.
use Rattle.std.proofs.Common.{◌≡◌, ℕ, ◌≤◌, ◌<◌, List, [], ◌∷◌, ◌++◌, map, ap, sym, ◌∙◌, refl, subst}
use Rattle.std.proofs.Common.{Some, Bool, true, false, ◌&&◌}
use Rattle.std.proofs.Common.{length}
use Rattle.std.specs.List.{AllByRecursion}
use Rattle.std.proofs.lemmas.List.{map-append, length-map}
use Rattle.peg_name.specs.Name.{Rack}
use Rattle.peg_name.specs.declared.Format.{Format}
use Rattle.peg_name.specs.declared.Node.{Node}
use Rattle.peg_model.specs.Packet.{Packet, Spells, spelling, in_range}
use Rattle.peg_model.specs.Reading.{packet_of}
use Rattle.peg_model.specs.Datagrams.{spelled, are_packets}
use Rattle.peg_packet.specs.Nodes.{are_in_rack, is_in_rack, announces_in}
use Rattle.peg_packet.specs.Outbox.{Outbox, posted}
use Rattle.peg_world.specs.Acting.{read_or, packet_read}
use Rattle.peg_world.specs.Sound.{IsFlown, IsOutbox, packet_in}
use Rattle.peg_world.proofs.Each.{all_append}

pub and_left : (a b : Bool) → (a && b) ≡ true → a ≡ true
and_left true b e = refl
and_left false b e = e

pub and_right : (a b : Bool) → (a && b) ≡ true → b ≡ true
and_right true b e = e
and_right false b e = absurd cc

-- the law of reading, as its contract says it
abbrev pub Reads : Type 0
Reads = (bytes : List ℕ) (format : Format) (p : Packet)
    → Spells bytes format p → packet_of bytes ≡ Some (format, p)

read_sent :
    (format : Format) (p : Packet)
    → Reads → in_range format p ≡ true → packet_of (spelling format p) ≡ Some (format, p)
read_sent format p law fits = law (spelling format p) format p
    (record { in_range = fits; spelled = refl })

packets_sent :
    (format : Format) (sent : List (Node × Packet))
    → Reads → are_packets format sent ≡ true → map packet_in (spelled format sent) ≡ sent
packets_sent format [] law fits = refl
packets_sent format (item ∷ sent) law fits =
    let read = read_sent format item.1 law
    (and_left (in_range format item.1) (are_packets format sent) fits) in
    ap (λ r. (item.0, read_or r) ∷ map packet_in (spelled format sent)) read
    ∙ ap (λ rest. item ∷ rest) (packets_sent format sent law
    (and_right (in_range format item.1) (are_packets format sent) fits))

flown_one :
    (rack : Rack) (to : Node) (p : Packet)
    → Reads → in_range rack.format p ≡ true → (announces_in rack p && is_in_rack rack to) ≡ true
    → IsFlown rack (to, spelling rack.format p)
flown_one rack to p law fits goes =
    let read = read_sent rack.format p law fits in
    let is = ap read_or read in
    record {
      reads = read ∙ ap (λ q. Some (rack.format, q)) (sym is);
      goes = ap (λ q. announces_in rack q && is_in_rack rack to) is ∙ goes;
    }

flown_sent :
    (rack : Rack) (sent : List (Node × Packet))
    → Reads → are_packets rack.format sent ≡ true → are_in_rack rack sent ≡ true
    → AllByRecursion (IsFlown rack) (spelled rack.format sent)
flown_sent rack [] law fits goes = tt
flown_sent rack (item ∷ sent) law fits goes = (
  flown_one rack item.0 item.1 law
      (and_left (in_range rack.format item.1) (are_packets rack.format sent) fits)
      (and_left (announces_in rack item.1 && is_in_rack rack item.0) (are_in_rack rack sent) goes),
  flown_sent rack sent law
      (and_right (in_range rack.format item.1) (are_packets rack.format sent) fits)
      (and_right (announces_in rack item.1 && is_in_rack rack item.0) (are_in_rack rack sent) goes),
)

none_in :
    (items : List (Node × List ℕ)) → map packet_in items ≡ [] → items ≡ []
none_in [] e = refl
none_in (item ∷ items) e = absurd cc

pub spelled_in_flight :
    (rack : Rack) (items : List (Node × List ℕ))
    → ((bytes : List ℕ) (format : Format) (p : Packet)
    → packet_of bytes ≡ Some (format, p) → Spells bytes format p)
    → AllByRecursion (IsFlown rack) items
    → spelled rack.format (map packet_in items) ≡ items
spelled_in_flight rack [] law all = refl
spelled_in_flight rack (item ∷ items) law all =
    ap (λ bytes. (item.0, bytes) ∷ spelled rack.format (map packet_in items))
    (sym (law item.1 rack.format (packet_read item.1) all.0.reads).spelled)
    ∙ ap (λ rest. item ∷ rest) (spelled_in_flight rack items law all.1)

pub nodes_in_flight :
    (rack : Rack) (items : List (Node × List ℕ))
    → AllByRecursion (IsFlown rack) items
    → AllByRecursion (λ item. is_in_rack rack item.0 ≡ true) items
nodes_in_flight rack [] all = tt
nodes_in_flight rack (item ∷ items) all = (
  and_right (announces_in rack (packet_read item.1)) (is_in_rack rack item.0) all.0.goes,
  nodes_in_flight rack items all.1,
)

-- ---- an outbox before and after a step

pub record Posted (rack : Rack) (sent : List (Node × Packet)) (post0 post1 : Outbox) : Type 0 where
  pub empty : map packet_in post0.items ≡ []
  pub put : post1 ≡ posted post0 sent
  pub fits : are_packets rack.format sent ≡ true
  pub goes : are_in_rack rack sent ≡ true

items_after :
    (rack : Rack) (sent : List (Node × Packet)) (post0 post1 : Outbox)
    → IsOutbox rack post0 → Posted rack sent post0 post1 → post1.items ≡ spelled rack.format sent
items_after rack sent post0 post1 is p =
    ap (λ (o : Outbox). o.items) p.put
    ∙ ap (λ xs. xs ++ spelled post0.format sent) (none_in post0.items p.empty)
    ∙ ap (λ f. spelled f sent) is.format

pub sent_after :
    (rack : Rack) (sent : List (Node × Packet)) (post0 post1 : Outbox)
    → Reads → IsOutbox rack post0 → Posted rack sent post0 post1
    → map packet_in post1.items ≡ sent
sent_after rack sent post0 post1 law is p =
    ap (map packet_in) (items_after rack sent post0 post1 is p)
    ∙ packets_sent rack.format sent law p.fits

pub outbox_after :
    (rack : Rack) (sent : List (Node × Packet)) (post0 post1 : Outbox)
    → Reads → IsOutbox rack post0 → Posted rack sent post0 post1 → IsOutbox rack post1
outbox_after rack sent post0 post1 law is p = record {
  format = ap (λ (o : Outbox). o.format) p.put ∙ is.format;
  parts = subst (λ (o : Outbox). 64 ≤ o.slots) (sym p.put) is.parts;
  announces = subst (λ (o : Outbox). rack.clients < o.slots) (sym p.put) is.announces;
  flown =
      subst (AllByRecursion (IsFlown rack)) (sym (items_after rack sent post0 post1 is p))
      (flown_sent rack sent law p.fits p.goes);
}

-- ---- what an outbox has goes into flight

pub count_of :
    (items : List (Node × List ℕ)) → length (map packet_in items) ≡ length items
count_of items = length-map items packet_in

pub flight_after :
    (items0 items1 items : List (Node × List ℕ)) → items1 ≡ items0 ++ items
    → map packet_in items1 ≡ map packet_in items0 ++ map packet_in items
flight_after items0 items1 items is =
    ap (map packet_in) is ∙ map-append packet_in items0 items

pub flown_after :
    (rack : Rack) (items0 items1 items : List (Node × List ℕ))
    → items1 ≡ items0 ++ items → AllByRecursion (IsFlown rack) items
    → AllByRecursion (IsFlown rack) items0 → AllByRecursion (IsFlown rack) items1
flown_after rack items0 items1 items is new old =
    subst (AllByRecursion (IsFlown rack)) (sym is)
    (all_append (IsFlown rack) items0 items old new)

pub count_after :
    (post0 post1 : Outbox) (sent : List (Node × Packet))
    → map packet_in post0.items ≡ [] → post1 ≡ posted post0 sent
    → length (map packet_in post1.items) ≡ length sent
count_after post0 post1 sent empty put =
    count_of post1.items
    ∙ ap (λ (o : Outbox). length o.items) put
    ∙ ap (λ xs. length (xs ++ spelled post0.format sent)) (none_in post0.items empty)
    ∙ length-map sent (λ item. (item.0, spelling post0.format item.1))
