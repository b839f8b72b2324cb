use Rattle.std.proofs.Common.{◌≡◌, true, subst}
use Rattle.peg_model.specs.Handover.{is_entry}
use Rattle.peg_directory.specs.Table.{Table}
use Rattle.peg_directory.proofs.Kept.{found_within, is_held, held_in_rack}
use Rattle.peg_directory.proofs.Directory.find.Goals as goal

pub returns-clause-within : goal.returns-clause-within
returns-clause-within c =
    let key = c.args.key.now in
    subst (λ (t : Table). is_entry t.rack (key, c.in_ok-entry.entry) ≡ true) c.self.view_is
    (found_within c.self.inside.config key c.self.inside.entries.entries c.in_ok-entry.entry
    c.self.invariant.0.within c.in_ok-entry.ensures.found.found)

pub returns-clause-held : goal.returns-clause-held
returns-clause-held c =
    is_held c.args.self.now.rack c.args.key.now c.in_ok-entry.entry (returns-clause-within c)

pub returns-clause-servers : goal.returns-clause-servers
returns-clause-servers c =
    held_in_rack c.args.self.now.rack c.args.key.now c.in_ok-entry.entry (returns-clause-within c)
