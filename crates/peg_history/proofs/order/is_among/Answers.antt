use Rattle.std.proofs.Common.{◌∙◌}
use Rattle.peg_history.proofs.Tags.{among}
use Rattle.peg_history.proofs.order.is_among.Goals as goal

pub returns : goal.returns
returns c = c.is_ok.ensures.value ∙ among c.args.tags.now c.args.tag c.binary_search.result c.binary_search.ensures.position c.requires
