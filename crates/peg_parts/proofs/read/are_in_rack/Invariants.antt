use Rattle.std.proofs.Common.{◌≡◌, take, true, nat_lt}
use Rattle.std.specs.List.{list_all}
use Rattle.peg_parts.proofs.read.are_in_rack.Given as goal

abbrev pub invariant-loop-place : goal.invariant-loop-place
invariant-loop-place l =
    list_all (λ server. nat_lt server l.config.servers) (take l.place l.holders) ≡ true
