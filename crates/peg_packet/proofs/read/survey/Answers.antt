use Rattle.std.proofs.Common.{refl}
use Rattle.peg_grammar.proofs.Parts.{survey_says, survey_whole}
use Rattle.peg_packet.proofs.read.survey.Goals as goal

pub returns-else-bytes-eq4 : goal.returns-else-bytes-eq4
returns-else-bytes-eq4 c =
    λ format begun ranges spelled. c.if-bytes-eq4.false
    (survey_says format c.args.bytes.now spelled)

pub returns-then-bytes-eq4 : goal.returns-then-bytes-eq4
returns-then-bytes-eq4 c =
    λ format begun. (refl, survey_whole format c.args.bytes.now begun c.if-bytes-eq4.true)
