use Rattle.std.proofs.Common.{◌++◌, codes, decimal}
use Rattle.peg_model.specs.Trace.{note_text}
use Rattle.peg_text.proofs.Appends.{then_word, then_text}
use Rattle.peg_text.proofs.print.push_answer.Goals as goal

pub returns-clause-text : goal.returns-clause-text
returns-clause-text c =
    let out = c.args.out.now in
    let front =
    codes "answers client " ++ decimal c.args.client.now ++ codes " seq "
    ++ decimal c.args.seq.now in
    let known = front ++ codes " version " ++ decimal c.args.version.now in
    let at_version =
    then_word (codes " version ") (decimal c.args.version.now) out c.push_client_seq.new.self
    c.push_version.new.self front c.push_client_seq.ensures.text
    c.push_version.ensures.text in
    let at_space =
    then_text out c.push_version.new.self c.push_bytes.new.self known (codes " ") at_version
    c.push_bytes.ensures.text in
    then_text out c.push_bytes.new.self c.push_note.new.out (known ++ codes " ")
    (note_text c.args.note.now) at_space c.push_note.ensures.text
