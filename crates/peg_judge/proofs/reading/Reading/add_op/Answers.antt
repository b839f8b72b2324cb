use Rattle.std.proofs.Common.{[], ◌∷◌, length, ap, arith}
use Rattle.std.proofs.lemmas.List.{length-append}
use Rattle.peg_judge.proofs.Stepping.{keys_more, latest_more}
use Rattle.peg_judge.proofs.reading.Reading.add_op.Goals as goal

pub returns-clause-tied : goal.returns-clause-tied
returns-clause-tied c =
    let ops = c.args.self.now.history.ops in
    let op = c.args.op.now in
    record {
      keys =
          keys_more ops c.push.new.self.ops op c.args.self.now.keys.keys c.insert.new.self.keys
          c.requires.tied.keys c.in_ok-push.ensures.ok c.in_ok-insert.ensures.keys;
      few =
          omega (
            arith,
            c.requires.tied.few,
            c.requires.unread,
            ap length c.in_ok-push.ensures.ok,
            length-append ops (op ∷ []),
          );
      latest = latest_more ops c.push.new.self.ops op c.in_ok-push.ensures.ok;
    }
