use Rattle.std.proofs.Common.{◌≡◌, drop}
use Rattle.peg_rules.proofs.Starting.{listed_each}
use Rattle.peg_rules.proofs.list_at_start.Given as goal

abbrev pub invariant-loop-key : goal.invariant-loop-key
invariant-loop-key l = record {
  rack : l.directory.rack ≡ l.fn.directory.rack;
  entries :
      listed_each l.fn.directory.rack l.directory.entries (drop l.key-index l.keys)
      ≡ listed_each l.fn.directory.rack l.fn.directory.entries l.keys;
}
