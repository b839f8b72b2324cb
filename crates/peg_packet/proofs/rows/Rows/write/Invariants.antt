use Rattle.std.proofs.Common.{◌≡◌, ◌≤◌, ◌*◌, take}
use Rattle.std.specs.List.{flat_map}
use Rattle.peg_model.specs.Packet.{row_bytes}
use Rattle.peg_packet.proofs.rows.Rows.write.Given as goal

abbrev pub invariant-loop-row : goal.invariant-loop-row
invariant-loop-row l =
    (l.end ≤ 49 * l.row-index)
    × (take l.end l.out ≡ flat_map row_bytes (take l.row-index l.rows))
