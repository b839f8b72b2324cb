use Rattle.std.proofs.Common.{ap, sym, ◌∙◌, nat_eq}
use Rattle.std.specs.List.{list_any}
use Rattle.std.proofs.lemmas.Bool.{le-ltb}
use Rattle.peg_name.proofs.Servers.{is_in, none_above}
use Rattle.peg_name.proofs.holders.Holders.has.Goals as goal

pub returns-then-server-lt64 : goal.returns-then-server-lt64
returns-then-server-lt64 c =
    sym (is_in c.self.inside.0 c.server.inside.0 c.if-server-lt64.true)
    ∙ ap (list_any (nat_eq c.server.inside.0)) c.self.view_is
    ∙ ap (λ s. list_any (nat_eq s) c.args.self.now) c.server.view_is

pub returns-else-server-lt64 : goal.returns-else-server-lt64
returns-else-server-lt64 c =
    le-ltb c.server.inside.0 64 c.if-server-lt64.false
    ∙ sym (none_above c.self.inside.0 c.server.inside.0 c.if-server-lt64.false)
    ∙ ap (list_any (nat_eq c.server.inside.0)) c.self.view_is
    ∙ ap (λ s. list_any (nat_eq s) c.args.self.now) c.server.view_is
