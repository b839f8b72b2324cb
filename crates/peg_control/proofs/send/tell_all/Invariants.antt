use Rattle.std.proofs.Common.{◌≡◌}
use Rattle.peg_model.specs.Words.{below}
use Rattle.peg_packet.specs.Outbox.{posted}
use Rattle.peg_control.proofs.Sending.{told}
use Rattle.peg_control.proofs.send.tell_all.Given as goal

abbrev pub invariant-loop-client : goal.invariant-loop-client
invariant-loop-client l =
    l.post ≡ posted l.initial.post (told l.fn.epoch l.fn.switch (below l.client))
