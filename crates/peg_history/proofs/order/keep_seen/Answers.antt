use Rattle.std.proofs.Common.{◌==◌, ◌||◌, not, rules}
use Rattle.std.specs.List.{list_any}
use Rattle.std.proofs.lemmas.Fn.{filter_same}
use Rattle.peg_history.specs.declared.Entry.{Entry}
use Rattle.peg_history.proofs.order.keep_seen.Goals as goal

pub returns : goal.returns
returns c =
    filter_same _ (λ (e : Entry). not e.is_open || list_any (λ t. t == e.tag) c.args.tags.now) _ (λ x b g r. search rules)
    c.args.entries.now.items c.retain.new.self.items c.retain.ensures.filtered
