use Rattle.std.proofs.Common.{arith, ap, sym, ◌∙◌, nat_eq, ◌+◌, ◌^◌, ◌<◌}
use Rattle.std.specs.List.{list_any}
use Rattle.peg_name.specs.Holders.{servers_of, with_holder}
use Rattle.peg_name.proofs.Servers.{with_kept, with_put, with_fits}
use Rattle.peg_name.proofs.holders.Holders.with.Goals as goal

pub returns-then-has : goal.returns-then-has
returns-then-has c =
    sym (with_kept c.self.inside.0 c.args.server c.requires
    (ap (list_any (nat_eq c.args.server)) c.self.view_is ∙ sym c.has.ensures ∙ c.if-has.true))
    ∙ ap (with_holder c.args.server) c.self.view_is

pub overflow_add-result : goal.overflow_add-result
overflow_add-result c =
    let fits : c.self.inside.0 + 2 ^ c.args.server < 2 ^ 64 =
    with_fits c.self.inside.0 c.args.server c.requires c.self.invariant
    (ap (list_any (nat_eq c.args.server)) c.self.view_is ∙ sym c.has.ensures ∙ c.if-has.false) in
    rw c.bit.ensures (omega (arith, fits))

pub invariant_of-result-2 : goal.invariant_of-result-2
invariant_of-result-2 c =
    rw c.bit.ensures
    (with_fits c.self.inside.0 c.args.server c.requires c.self.invariant
    (ap (list_any (nat_eq c.args.server)) c.self.view_is ∙ sym c.has.ensures ∙ c.if-has.false))

pub returns : goal.returns
returns c =
    ap (λ n. servers_of (c.self.inside.0 + n)) c.bit.ensures
    ∙ sym (with_put c.self.inside.0 c.args.server c.requires
    (ap (list_any (nat_eq c.args.server)) c.self.view_is ∙ sym c.has.ensures ∙ c.if-has.false))
    ∙ ap (with_holder c.args.server) c.self.view_is
