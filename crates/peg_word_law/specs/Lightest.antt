-- Requests that have a choice, and where they go.
--     IsLightest loads server servers      a server of these than which none is lighter
--     HaveWeights loads servers      each of them has a weight
--     GoesToLightest loads servers turn      a turn that sends one packet, to such a server of
--         these, and charges it
--     SpreadsRequests b bytes turn      so is a turn of a balanced switch where a request may go to
--         more servers than one
use Rattle.std.specs.Prelude.{◌≡◌, ◌≤◌, ℕ, false, List, [], ◌∷◌, length, Contains}
use Rattle.std.specs.List.{AllByRecursion}
use Rattle.peg_name.specs.declared.Node.{Node}
use Rattle.peg_name.specs.declared.Node.TheVariants as node
use Rattle.peg_model.specs.Words.{below}
use Rattle.peg_model.specs.Packet.{Packet}
use Rattle.peg_meaning.specs.Balance.{Loads, weight_of, is_lighter, charged, Holders, Any, allowed}
use Rattle.peg_meaning.specs.Balance.{Balanced}

-- a server that is the lightest of these
pub record IsLightest (l : Loads) (server : ℕ) (servers : List ℕ) : Type 0 where
  pub there : Contains servers server
  pub none_lighter : AllByRecursion (λ t. is_lighter l t server ≡ false) servers

abbrev pub HaveWeights : Loads → List ℕ → Type 0
HaveWeights l servers = AllByRecursion (λ s. 1 ≤ weight_of l s) servers

-- the switch after the turn, and what it sent
pub record GoesToLightest (l : Loads) (servers : List ℕ)
    (turn : Balanced × List (Node × Packet)) : Type 0 where
  pub server : ℕ
  pub packet : Packet
  pub sent : turn.1 ≡ (node.Server server, packet) ∷ []
  pub lightest : IsLightest l server servers
  pub loads : turn.0.loads ≡ charged l server

-- a read may go to each holder of its key, and a write maybe to each server of the rack
pub record SpreadsRequests (b : Balanced) (bytes : List ℕ)
    (turn : Balanced × List (Node × Packet)) : Type 0 where
  pub read :
      (servers : List ℕ) → allowed b.switch bytes ≡ Holders servers → 1 ≤ length servers
      → HaveWeights b.loads servers → GoesToLightest b.loads servers turn
  pub write :
      allowed b.switch bytes ≡ Any → 1 ≤ b.switch.rack.servers
      → HaveWeights b.loads (below b.switch.rack.servers)
      → GoesToLightest b.loads (below b.switch.rack.servers) turn
