use Rattle.std.proofs.Common.{sym}
use Rattle.peg_directory.proofs.Places.{at_place}
use Rattle.peg_directory.proofs.look_up.Goals as goal

pub returns-clause-found : goal.returns-clause-found
returns-clause-found c =
    at_place c.args.key.now c.args.entries.now.entries c.in_ok-place.place c.in_ok-place.entry.now
    (sym c.in_ok-place.ensures.index) (sym c.in_ok-place.ensures.value)
