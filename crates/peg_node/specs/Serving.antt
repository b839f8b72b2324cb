-- A node that takes turns, as the program keeps it.
--     AreInRack rack items      each goes to a node of the rack
--     IsServing      what holds between its steps
--     binds_of_first is_first base name      the port that it begins by binding
--     rank_of is_over left      how many steps are left
use Rattle.std.specs.Prelude.{◌≡◌, ◌≤◌, ◌<◌, ◌+◌, ◌^◌, ℕ, Bool, true, List, [], ◌∷◌, if◌then◌else◌}
use Rattle.std.specs.List.{AllByRecursion}
use Rattle.peg_name.specs.Name.{Rack}
use Rattle.peg_name.specs.declared.Node.{Node}
use Rattle.peg_meaning.specs.Session.{port_of}
use Rattle.peg_packet.specs.Nodes.{is_in_rack}
use Rattle.peg_packet.specs.Outbox.{Outbox}

abbrev pub AreInRack : Rack → List (Node × List ℕ) → Type 0
AreInRack rack items = AllByRecursion (λ item. is_in_rack rack item.0 ≡ true) items

-- the rack and the most packets of a step are those of the node
pub record IsServing (rack : Rack) (most : ℕ) (config : Rack) (name : Node) (post : Outbox)
    (base left datagrams : ℕ) : Type 0 where
  pub same_rack : rack ≡ config
  pub same_format : post.format ≡ config.format
  pub room : most ≤ post.slots
  pub in_rack : is_in_rack config name ≡ true
  pub low : base ≤ 60000
  pub few : datagrams + left < 2 ^ 32
  pub nodes : AreInRack config post.items

abbrev pub binds_of_first : Bool → ℕ → Node → List ℕ
binds_of_first is_first base name = if is_first then port_of base name ∷ [] else []

abbrev pub rank_of : Bool → ℕ → ℕ
rank_of is_over left = if is_over then 0 else left + 1
