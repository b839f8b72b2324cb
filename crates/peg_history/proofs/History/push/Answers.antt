use Rattle.std.proofs.Common.{◌∷◌, ◌++◌, [], ◌∙◌, ap}
use Rattle.peg_history.specs.Contents.{bytes_in}
use Rattle.peg_history.specs.Ledger.{Ledger}
use Rattle.peg_history.specs.declared.Row.{Row}
use Rattle.peg_history.proofs.Shelved.{pushed}
use Rattle.peg_history.proofs.History.push.Goals as goal

pub returns-clause-ok : goal.returns-clause-ok
returns-clause-ok c =
    let op = c.args.op.now in
    let row : Row = record {
      client = op.client;
      key = op.key;
      act = op.act;
      content = c.in_ok-content.content;
      issued = op.issued;
      answered = op.answered;
    } in
    pushed c.self.inside.contents.bytes.items (bytes_in op.content) c.put.new.self.bytes.items
    c.self.inside.rows.items c.push_reserved.new.self.items row op c.self.invariant.1
    c.in_ok-content.ensures.more
    (c.push_reserved.ensures.items ∙ ap (λ rows. rows ++ row ∷ []) c.in_ok-reserve.ensures.items)
    (ap (λ content. record {
      client = op.client;
      key = op.key;
      act = op.act;
      content = content;
      issued = op.issued;
      answered = op.answered;
    }) c.in_ok-content.ensures.lies)
    ∙ ap (λ (l : Ledger). l.ops ++ op ∷ []) c.self.view_is
