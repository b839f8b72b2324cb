use Rattle.std.proofs.Common.{◌≡◌, ◌<◌, Some, None, true, ap, sym, subst, arith, length, slice_get}
use Rattle.std.proofs.Common.{nat_lt, if◌then◌else◌}
use Rattle.std.proofs.lemmas.Bool.Decides.{nat_tests}
use Rattle.peg_model.specs.World.{delivers_item}
use Rattle.peg_world.specs.Midway.{Midway, Came, at_place}
use Rattle.peg_world.specs.Telling.{told, number_at}
use Rattle.peg_world.proofs.machine.Machine.deliver.Goals as goal

pub returns : goal.returns
returns c =
    let old : Midway = c.args.self.now in
    let number = c.args.number in
    let there : number < length old.world.packets = omega arith in
    let small : nat_lt number (length old.world.packets) ≡ true = grind (arith, nat_tests, there) in
    let found : number_at old.world number ≡ Some number =
    ap (λ t. if t then Some number else None) small in
    subst (λ n. Came old c.hand.new.self c.args.place
    (delivers_item (at_place old.world c.args.place) number (slice_get old.world.packets number)
    c.args.pick) (told n old.world c.hand.result)) (sym found) c.hand.ensures
