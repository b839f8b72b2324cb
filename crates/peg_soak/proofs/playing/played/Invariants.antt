use Rattle.peg_soak.proofs.Played.{IsPlayed}
use Rattle.peg_soak.proofs.playing.played.Given as goal

abbrev pub invariant-loop-done : goal.invariant-loop-done
invariant-loop-done l = IsPlayed l.start l.done l.world l.generator
