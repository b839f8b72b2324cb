-- The least number of a packet, and an index that finds it.
--     is_packet packet node bytes      whether it is a packet to the node with these bytes
--     number_of packets node bytes      the least number of such a packet
--     Chains      for each list the link of its last packet, for each packet the link of the one
--         before it in its list, and how many more there is memory for; a link is a number and one,
--         or 0 at the end
--     place_of node bytes      the list that a packet is in
--     search n packets older link node bytes      what a walk from a link finds, among the first n
--     IsIndexOf packets c      c is the index of the first packets, as many as it has links
use Rattle.std.specs.Prelude.{ℕ, suc, zero, ◌≡◌, ◌≤◌, ◌<◌, ◌+◌, ◌*◌, ◌%◌, Bool, true, false, ◌&&◌, ◌==◌}
use Rattle.std.specs.Prelude.{Option, Some, None, List, [], ◌∷◌, length, take, if◌then◌else◌}
use Rattle.std.specs.Prelude.{slice_index, slice_index_or, slice_get}
use Rattle.std.specs.Str.{bytes_eq}
use Rattle.std.specs.Hash.FoldHasher as folding
use Rattle.peg_name.specs.declared.Node.{Node}
use Rattle.peg_name.specs.declared.Node.TheVariants as node
use Rattle.peg_meaning.specs.RackWord.{is_node}

unfoldable pub is_packet : Node × List ℕ → Node → List ℕ → Bool
is_packet packet node bytes = is_node packet.0 node && bytes_eq packet.1 bytes

unfoldable pub number_from : ℕ → List (Node × List ℕ) → Node → List ℕ → Option ℕ
number_from number [] node bytes = None
number_from number (packet ∷ packets) node bytes =
    if is_packet packet node bytes then Some number
    else number_from (number + 1) packets node bytes

abbrev pub number_of : List (Node × List ℕ) → Node → List ℕ → Option ℕ
number_of packets node bytes = number_from 0 packets node bytes

-- packet i is to the node with these bytes, and none before is
pub record IsLeast (packets : List (Node × List ℕ)) (to : Node) (bytes : List ℕ) (i : ℕ) :
    Type 0 where
  pub there : slice_get packets i ≡ Some (to, bytes)
  pub before : (k : ℕ) → k < i → slice_get packets k ≡ Some (to, bytes) → ⊥

-- no packet is
abbrev pub IsNone : List (Node × List ℕ) → Node → List ℕ → Type 0
IsNone packets to bytes = (k : ℕ) → slice_get packets k ≡ Some (to, bytes) → ⊥

pub record Chains : Type 0 where
  pub heads : List ℕ
  pub older : List ℕ
  pub spare : ℕ

abbrev pub seed_of : Node → ℕ
seed_of (node.Client id) = 4 * id
seed_of (node.Server id) = 4 * id + 1
seed_of (node.Switch id) = 4 * id + 2
seed_of node.Controller = 3

unfoldable pub place_of : Node → List ℕ → ℕ
place_of node bytes =
    (folding.finish (folding.write folding.initial bytes) % 131072 + seed_of node) % 131072

abbrev pub nowhere : Node × List ℕ
nowhere = (node.Controller, [])

abbrev pub is_at : List (Node × List ℕ) → ℕ → Node → List ℕ → Bool
is_at packets number node bytes = is_packet (slice_index_or packets number nowhere) node bytes

unfoldable pub search :
    ℕ → List (Node × List ℕ) → List ℕ → ℕ → Node → List ℕ → Option ℕ
search zero packets older link node bytes = None
search (suc n) packets older link node bytes =
    if link == suc n then
    (if is_at packets n node bytes then Some n
    else search n packets older (slice_index older n) node bytes)
    else search n packets older link node bytes

-- links lead back
abbrev pub LeadBack : List ℕ → Type 0
LeadBack older = (n : ℕ) → n < length older → slice_index older n ≤ n

pub record IsIndexOf (packets : List (Node × List ℕ)) (c : Chains) : Type 0 where
  pub within : length c.older ≤ length packets
  pub size : length c.heads ≡ 131072
  pub heads : (place : ℕ) → place < 131072 → slice_index c.heads place ≤ length c.older
  pub back : LeadBack c.older
  pub finds : (to : Node) (bytes : List ℕ) →
      search (length c.older) packets c.older (slice_index c.heads (place_of to bytes)) to bytes
      ≡ number_of (take (length c.older) packets) to bytes
