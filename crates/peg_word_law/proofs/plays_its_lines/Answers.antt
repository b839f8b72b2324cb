use Rattle.peg_word_law.proofs.Divided.{divided_plays}
use Rattle.peg_word_law.proofs.plays_its_lines.Goals as goal

pub returns : goal.returns
returns c = divided_plays
