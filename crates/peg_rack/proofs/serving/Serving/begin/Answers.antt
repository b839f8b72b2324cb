use Rattle.std.proofs.Common.{◌∙◌, codes, refl, ap, sym, subst, arith, length}
use Rattle.peg_meaning.specs.Session.{Goes}
use Rattle.peg_meaning.specs.RackWord.{Named}
use Rattle.peg_model.specs.Schedule.{fed}
use Rattle.peg_rack.specs.declared.rig.Rig.{Rig}
use Rattle.peg_rack.specs.Racking.{word_of, binds_of, letters_of, IsTied}
use Rattle.peg_model.specs.Datagrams.{spelled}
use Rattle.peg_world.specs.Running.{Running}
use Rattle.peg_rack.proofs.Stepping.{only_rack, begin_on}
use Rattle.peg_rack.proofs.serving.Serving.begin.Goals as goal

pub returns-then-not-push-clause-took : goal.returns-then-not-push-clause-took
returns-then-not-push-clause-took g c =
    let r = c.in-Some.rack in
    let base = c.args.self.now.base in (
      Named r.0 r.1,
      only_rack base c.rack_of.result c.args.line.now r.0 r.1 c.in-Some.is
          c.rack_of.ensures.complete c.in-Some.ensures.sound,
      record {
        came = _;
        is =
            begin_on base r.0 c.config.result.now r.1 c.keys.result.now c.in-Ok.world
            c.in-Ok.ensures c.config.ensures c.keys.ensures;
        over = c.if-not-push.ensures.content;
      },
    )

pub returns-clause-took : goal.returns-clause-took
returns-clause-took g c =
    let r = c.in-Some.rack in
    let base = c.args.self.now.base in (
      Named r.0 r.1,
      only_rack base c.rack_of.result c.args.line.now r.0 r.1 c.in-Some.is
          c.rack_of.ensures.complete c.in-Some.ensures.sound,
      record {
        text = _;
        is =
            begin_on base r.0 c.config.result.now r.1 c.keys.result.now c.in-Ok.world
            c.in-Ok.ensures c.config.ensures c.keys.ensures
            ∙ ap (λ (r : Rig). Goes (record {
              state = word_of r;
              text = fed (codes "1 rack");
              binds = binds_of r;
              letters = letters_of r;
            })) (sym c.insert.ensures.value);
        over = c.if-not-push.ensures.content;
      },
    )

pub returns-clause-tied : goal.returns-clause-tied
returns-clause-tied g c =
    λ goes.
    let w = c.in-Ok.world in
    let config = c.config.result.now in
    let first = c.in-Ok.ensures in
    let none = ap (λ (d : Running). d.world.packets) first in
    subst (λ (r : Rig). IsTied r) (sym c.insert.ensures.value)
    (record {
      low = c.requires.low;
      is_rack = ap (λ (d : Running). d.world.rack) first;
      goes_on = ap (λ (d : Running). d.is_over) first;
      behind = omega (arith, ap (λ (d : Running). d.world.place) first);
      few = omega arith;
      bounded = omega arith;
      counted = omega arith;
      index = c.in-Ok-make.ensures.index (spelled config.format w.world.packets);
      known = ap length c.in-Ok-make.ensures.none ∙ sym (ap length none);
      actor = refl;
      sent = omega arith;
      in_rack = tt;
    })
