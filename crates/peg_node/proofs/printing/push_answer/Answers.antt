use Rattle.peg_node.proofs.ClientTexts.{long_enough}
use Rattle.peg_node.proofs.printing.push_answer.Goals as goal

pub push_behind-requires : goal.push_behind-requires
push_behind-requires g c = long_enough c.args.did _ c.said_text.ensures
