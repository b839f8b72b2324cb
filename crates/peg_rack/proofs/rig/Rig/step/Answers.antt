use Rattle.std.proofs.Common.{◌+◌, ◌∙◌}
use Rattle.peg_rack.specs.Racking.{takes_of}
use Rattle.peg_rack.proofs.Stepping.{step_on, still_index}
use Rattle.peg_rack.proofs.rig.Rig.step.Goals as goal

pub catch_up-requires : goal.catch_up-requires
catch_up-requires g c =
    let s = c.args.self.now in
    record {
      index =
          still_index c.stays_an_index.ensures s.config c.step.new.self.world.rack
          s.world.world.packets c.step.new.self.world.packets c.soup.result.now.items s.index
          (c.in-Ok.ensures.rack ∙ c.requires.tied.is_rack) c.in-Ok.ensures.grows
          c.soup.ensures.items c.requires.tied.index;
    }

pub returns-then-push_line-clause-comes : goal.returns-then-push_line-clause-comes
returns-then-push_line-clause-comes g c =
    let s = c.args.self.now in
    record {
      text = _;
      is =
          step_on s.is_over s.base s.place s.foreign s.lines (takes_of s.config s.takes) s.world
          c.step.new.self s.config c.args.actor c.args.event.now c.line.result
          c.packets-sent_from.result c.requires.on c.requires.tied.goes_on
          c.requires.tied.is_rack c.packets-sent_from.ensures c.in-Ok.ensures.ok
          c.in-Ok.ensures.within c.line.ensures;
      over = c.if-push_line.ensures.content;
    }
