use Rattle.std.proofs.Common.{◌+◌, length, arith, sym}
use Rattle.std.proofs.lemmas.Slice.{between_to_end}
use Rattle.peg_text.proofs.Cuts.{left_cut, left_one}
use Rattle.peg_text.proofs.words.Words.next.Goals as goal

pub returns-in-Some : goal.returns-in-Some
returns-in-Some c =
    let rest = c.self.inside.rest.now in
    left_cut c.args.self.now c.self.inside.done rest _ c.in-Some.end c.self.view_is c.if-self.false
    (sym c.in-Some.ensures)
    (between_to_end rest (c.in-Some.end + 1) (length rest) (omega arith))

pub returns-in-None : goal.returns-in-None
returns-in-None c =
    left_one c.args.self.now c.self.inside.done c.self.inside.rest.now c.self.view_is
    c.if-self.false (sym c.in-None.ensures)
