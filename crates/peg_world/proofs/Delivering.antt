-- The packet of a number, as bytes and as it is read.
use Rattle.std.proofs.Common.{◌≡◌, ◌<◌, ℕ, zero, suc, true, List, [], ◌∷◌, Some, ap}
use Rattle.std.proofs.Common.{sym, ◌∙◌, map, slice_get}
use Rattle.std.proofs.Common.{arith, nat_lt}
use Rattle.std.proofs.lemmas.Bool.Decides.{nat_tests}
use Rattle.std.specs.List.{AllByRecursion}
use Rattle.peg_name.specs.Name.{Rack}
use Rattle.peg_name.specs.declared.Node.{Node}
use Rattle.peg_name.specs.declared.Node.TheVariants as node
use Rattle.peg_model.specs.Packet.{Packet}
use Rattle.peg_model.specs.Reading.{packet_of}
use Rattle.peg_packet.specs.Nodes.{announces_in, is_in_rack}
use Rattle.peg_world.specs.Acting.{packet_read}
use Rattle.peg_world.specs.Sound.{IsFlown, packet_in}
use Rattle.peg_world.proofs.Each.{all_at, some_is}
use Rattle.peg_world.proofs.Flying.{and_left, and_right}

in_flight :
    (items : List (Node × List ℕ)) (number : ℕ) (item : Node × List ℕ)
    → slice_get items number ≡ Some item
    → slice_get (map packet_in items) number ≡ Some (packet_in item)
in_flight [] number item e = absurd cc
in_flight (x ∷ items) zero item e = ap (λ y. Some (packet_in y)) (some_is x item e)
in_flight (x ∷ items) (suc number) item e = in_flight items number item e

pub announced_at :
    (rack : Rack) (items : List (Node × List ℕ)) (number : ℕ) (item : Node × List ℕ)
    → AllByRecursion (IsFlown rack) items → slice_get items number ≡ Some item
    → announces_in rack (packet_read item.1) ≡ true
announced_at rack items number item all at =
    and_left (announces_in rack (packet_read item.1)) (is_in_rack rack item.0)
    (all_at (IsFlown rack) items number item all at).goes

pub read_at :
    (items : List (Node × List ℕ)) (number : ℕ) (item : Node × List ℕ) (to : Node) (p : Packet)
    → slice_get items number ≡ Some item
    → slice_get (map packet_in items) number ≡ Some (to, p) → packet_read item.1 ≡ p
read_at items number item to p at has =
    ap (λ (x : Node × Packet). x.1)
    (some_is (packet_in item) (to, p) (sym (in_flight items number item at) ∙ has))

pub reads_at :
    (rack : Rack) (items : List (Node × List ℕ)) (number : ℕ) (item : Node × List ℕ)
    → AllByRecursion (IsFlown rack) items → slice_get items number ≡ Some item
    → packet_of item.1 ≡ Some (rack.format, packet_read item.1)
reads_at rack items number item all at = (all_at (IsFlown rack) items number item all at).reads

-- the switch that a packet is for
pub switch_at_rack :
    (rack : Rack) (items : List (Node × List ℕ)) (number : ℕ) (item : Node × List ℕ) (id : ℕ)
    → (p : Packet)
    → AllByRecursion (IsFlown rack) items → slice_get items number ≡ Some item
    → slice_get (map packet_in items) number ≡ Some (node.Switch id, p) → id < rack.switches
switch_at_rack rack items number item id p all at has =
    let to : item.0 ≡ node.Switch id =
    ap (λ (x : Node × Packet). x.0)
    (some_is (packet_in item) (node.Switch id, p) (sym (in_flight items number item at) ∙ has)) in
    let within : is_in_rack rack item.0 ≡ true =
    and_right (announces_in rack (packet_read item.1)) (is_in_rack rack item.0)
    (all_at (IsFlown rack) items number item all at).goes in
    let small : nat_lt id rack.switches ≡ true = ap (is_in_rack rack) (sym to) ∙ within in
    grind (arith, nat_tests, small)
