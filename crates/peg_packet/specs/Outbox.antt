-- An outbox, and the packets that a node sent as an outbox has them.
--     Outbox      the format, the slots that it has, and each packet as its node and its bytes
--     posted outbox sent      the outbox with these packets put in last
use Rattle.std.specs.Prelude.{ℕ, List, ◌++◌}
use Rattle.peg_name.specs.declared.Format.{Format}
use Rattle.peg_name.specs.declared.Node.{Node}
use Rattle.peg_model.specs.Packet.{Packet}
use Rattle.peg_model.specs.Datagrams.{spelled}

pub record Outbox : Type 0 where
  pub format : Format
  pub slots : ℕ
  pub items : List (Node × List ℕ)

-- the outbox with what was sent put in last
abbrev pub posted : Outbox → List (Node × Packet) → Outbox
posted outbox sent = record outbox { items = outbox.items ++ spelled outbox.format sent }
