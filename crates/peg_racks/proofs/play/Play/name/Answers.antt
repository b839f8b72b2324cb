use Rattle.std.proofs.Common.{◌∙◌, [], ◌∷◌, length, ap, arith}
use Rattle.std.proofs.lemmas.List.{length-append}
use Rattle.peg_meaning.specs.Racks.{Named}
use Rattle.peg_racks.specs.Worlds.{begun}
use Rattle.peg_racks.proofs.Stepping.{only_rack, named_on, each_with_new}
use Rattle.peg_racks.proofs.play.Play.name.Goals as goal

pub returns-then-push_rack-clause-took : goal.returns-then-push_rack-clause-took
returns-then-push_rack-clause-took g c =
    let s = c.args.self.now in
    let r = c.in-Some.rack in (
      Named r.0 r.1,
      only_rack s.is_over s.racks s.unnamed s.place s.lines c.requires.on c.args.line.now
          c.requires.some c.rack_of.result c.rack_of.ensures.complete r.0 r.1 c.in-Some.is
          c.in-Some.ensures.sound,
      record {
        text = _;
        is =
            named_on s.is_over s.racks c.add.new.self s.unnamed s.place s.lines r.0 r.1
            c.requires.on c.in-Ok.ensures.added;
        over = c.if-push_rack.ensures.content;
      },
    )

pub returns-then-push_rack-clause-tied : goal.returns-then-push_rack-clause-tied
returns-then-push_rack-clause-tied g c =
    λ goes.
    let s = c.args.self.now in
    let t = c.requires.tied in
    let r = c.in-Some.rack in
    let added = c.in-Ok.ensures.added in
    let count = ap length added ∙ length-append s.racks (begun r ∷ []) in
    record {
      each =
          each_with_new s.racks c.add.new.self s.place s.lines r added
          (omega (arith, t.counted)) t.each;
      counted = omega (arith, t.counted, count);
      some = omega (arith, t.some, count);
      most = omega (arith, t.most, count, c.requires.some);
      few = t.few;
    }

pub returns-else-push_rack-clause-took : goal.returns-else-push_rack-clause-took
returns-else-push_rack-clause-took g c =
    let s = c.args.self.now in
    let r = c.in-Some.rack in (
      Named r.0 r.1,
      only_rack s.is_over s.racks s.unnamed s.place s.lines c.requires.on c.args.line.now
          c.requires.some c.rack_of.result c.rack_of.ensures.complete r.0 r.1 c.in-Some.is
          c.in-Some.ensures.sound,
      record {
        came = _;
        is =
            named_on s.is_over s.racks c.add.new.self s.unnamed s.place s.lines r.0 r.1
            c.requires.on c.in-Ok.ensures.added;
        over = c.if-push_rack.ensures.content;
      },
    )
