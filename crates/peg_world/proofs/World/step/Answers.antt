use Rattle.std.proofs.Common.{◌<◌, ◌+◌, Bool, false, ℕ, Option, Some, None, ap, sym, subst, arith}
use Rattle.std.specs.Prelude.{Err}
use Rattle.peg_model.specs.Schedule.{EventInRack}
use Rattle.peg_event.specs.declared.Line.{Line}
use Rattle.peg_model.specs.World.{World, step}
use Rattle.peg_world.specs.Midway.{Midway, Comes, Stopped}
use Rattle.peg_world.specs.Running.{Running, IsRun}
use Rattle.peg_world.specs.Telling.{told}
use Rattle.peg_world.specs.declared.Halt.{Halt}
use Rattle.peg_world.proofs.OfRun.{run_stepped, run_same}
use Rattle.peg_world.proofs.World.step.Goals as goal

pub invariant_of-self-in-Ok : goal.invariant_of-self-in-Ok
invariant_of-self-in-Ok c =
    let i = c.self.inside in
    let e = c.args.event.now in
    let r : IsRun i.machine i.events false =
    subst (λ (b : Bool). IsRun i.machine i.events b) c.if-self.false c.self.invariant in
    let place = ap (λ (w : Running). w.world.place) c.self.view_is in
    let later : i.machine.world.place < c.args.place = omega (arith, place, c.requires.later) in
    let in_rack : EventInRack i.machine.world.rack e =
    subst (λ (w : Running). EventInRack w.world.rack e) (sym c.self.view_is) c.requires.in_rack in
    subst (λ (b : Bool). IsRun c.send.new.self (i.events + 1) b) (sym c.if-self.false)
    (run_stepped i.machine c.happen.new.self c.send.new.self c.args.place i.events e c.in-Ok.said
    c.steps_along_runs.ensures.steps r later in_rack c.event_is_in_range.ensures
    c.in-Ok.ensures c.in_ok-self-inside-in-Ok.ensures.world c.in_ok-self-inside-in-Ok.ensures.sent
    (omega (arith, c.if-self-ge-EVENTS_MOST.false)))

-- a halt is told as it is
halted :
    (old now : Midway) (after : World × Line) (n : Option ℕ) (w : World) (h : Halt)
    → Comes old now after (told n w (Err h)) → Stopped h old now after
halted old now after None w h comes = comes
halted old now after (Some n) w h comes = comes

pub invariant_of-self-in-Err-OutOfMemory : goal.invariant_of-self-in-Err-OutOfMemory
invariant_of-self-in-Err-OutOfMemory c =
    let i = c.self.inside in
    let r : IsRun i.machine i.events false =
    subst (λ (b : Bool). IsRun i.machine i.events b) c.if-self.false c.self.invariant in
    let after = step i.machine.world c.args.place c.args.event.now in
    let stopped = subst (λ (h : Halt). Stopped h i.machine c.happen.new.self after)
    c.in-Err-OutOfMemory.field-0-is
    (halted i.machine c.happen.new.self after _ _ _ c.in-Err-OutOfMemory.ensures.comes) in
    subst (λ (b : Bool). IsRun c.happen.new.self i.events b) (sym c.if-self.false)
    (run_same i.machine c.happen.new.self i.events stopped.0 stopped.1 r)
