use Rattle.std.proofs.Common.{[]}
use Rattle.peg_name.specs.declared.Node.TheVariants as node
use Rattle.peg_model.specs.Switch.{new_switch}
use Rattle.peg_meaning.specs.Balance.{unloaded, balanced_turn}
use Rattle.peg_session.specs.declared.End.TheVariants as end
use Rattle.peg_session.proofs.Alike.{ended_at}
use Rattle.peg_node.proofs.Served.{done_served, cut_served, ends_served}
use Rattle.peg_node.proofs.balanced.serve_balanced.Goals as goal

pub returns-clause-ends : goal.returns-clause-ends
returns-clause-ends g c =
    ends_served balanced_turn c.args.base (node.Switch c.args.id)
    (record {
      switch = new_switch c.args.config.now [] c.args.id;
      loads = unloaded c.args.weights.now;
    })
    c.args.config.now.format c.args.turns _ _ c.run.result
    c.run.ensures.ended

pub returns-clause-done : goal.returns-clause-done
returns-clause-done g c =
    λ is.
    done_served balanced_turn c.args.base (node.Switch c.args.id)
    (record {
      switch = new_switch c.args.config.now [] c.args.id;
      loads = unloaded c.args.weights.now;
    })
    c.args.config.now.format c.args.turns _ _
    (ended_at _ _ _ _ c.run.result end.Done c.run.ensures.ended is)

pub returns-clause-memory : goal.returns-clause-memory
returns-clause-memory g c =
    λ is.
    cut_served balanced_turn c.args.base (node.Switch c.args.id)
    (record {
      switch = new_switch c.args.config.now [] c.args.id;
      loads = unloaded c.args.weights.now;
    })
    c.args.config.now.format c.args.turns _ _
    (ended_at _ _ _ _ c.run.result end.OutOfMemory c.run.ensures.ended is)
