-- To which servers a request may go.
--     allowed_seen allowed      the same in the book's words
--     allowed_in core write key client seq      those of a request, by the stamps and the entries
use Rattle.std.specs.Prelude.{ℕ, Bool, List, if◌then◌else◌}
use Rattle.peg_model.specs.Rules.{Core, stamp, entry_of}
use Rattle.peg_meaning.specs.Balance as book
use Rattle.peg_meaning.specs.Balance.{read_allowed, stamped_allowed}
use Rattle.peg_rules.specs.declared.choices.Allowed.{Allowed}
use Rattle.peg_rules.specs.declared.choices.Allowed.TheVariants as allowed

abbrev pub allowed_seen : Allowed → book.Allowed
allowed_seen (allowed.Holders servers) = book.Holders servers
allowed_seen allowed.Any = book.Any
allowed_seen (allowed.Home server) = book.Home server
allowed_seen allowed.Nothing = book.Nothing

abbrev pub allowed_in : Core → Bool → List ℕ → ℕ → ℕ → book.Allowed
allowed_in core write key client seq =
    let entry = entry_of core.entries key in
    if write then stamped_allowed (stamp core.stamps client seq).0 entry core.rack key
    else read_allowed entry core.rack key
