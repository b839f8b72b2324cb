use Rattle.std.proofs.Common.{refl, []}
use Rattle.peg_meaning.specs.Racks.{Counted}
use Rattle.peg_racks.proofs.Stepping.{only_count, counted_on}
use Rattle.peg_racks.proofs.playing.Playing.begin.Goals as goal

pub returns-then-not-push_count-clause-took : goal.returns-then-not-push_count-clause-took
returns-then-not-push_count-clause-took g c =
    let racks = c.in-Some.racks in (
      Counted racks,
      only_count c.racks_of.result c.args.line.now racks c.in-Some.is c.racks_of.ensures.complete
          c.in-Some.ensures.sound,
      record {
        came = _;
        is = counted_on racks [] refl;
        over = c.if-not-push_count.ensures.content;
      },
    )

pub returns-clause-took : goal.returns-clause-took
returns-clause-took g c =
    let racks = c.in-Some.racks in (
      Counted racks,
      only_count c.racks_of.result c.args.line.now racks c.in-Some.is c.racks_of.ensures.complete
          c.in-Some.ensures.sound,
      record {
        text = _;
        is = counted_on racks c.none.result c.none.ensures;
        over = c.if-not-push_count.ensures.content;
      },
    )
