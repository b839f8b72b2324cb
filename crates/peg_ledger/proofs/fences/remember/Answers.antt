use Rattle.std.proofs.Common.{ap, sym, ◌∙◌}
use Rattle.std.specs.Option.{option_copied}
use Rattle.indexmap.proofs.CallerLemmas.{insert_entry-new}
use Rattle.peg_ledger.proofs.Origins.{new_remembered, none_of}
use Rattle.peg_ledger.proofs.fences.remember.Goals as goal

pub returns-clause-ok : goal.returns-clause-ok
returns-clause-ok c =
    let none = none_of c.get.result (sym c.is_some.ensures ∙ c.if-is_some.false) in
    new_remembered c.args.origins.now.entries c.insert.new.self.entries c.args.name c.args.origin
    (c.in_ok-insert.ensures.entries
    ∙ insert_entry-new _ c.args.origins.now c.args.name c.args.origin
    (sym c.get.ensures.value ∙ ap option_copied none))
