use Rattle.std.proofs.Common.{◌≡◌, ◌<◌, ◌+◌, ◌∙◌, Option, true, [], arith, sym, ap, subst}
use Rattle.peg_io.specs.Outside.{Tells}
use Rattle.peg_meaning.specs.Wire.{Carried}
use Rattle.peg_meaning.specs.Session.{bound_more}
use Rattle.peg_session.specs.Pages.{Passes}
use Rattle.peg_session.specs.declared.End.TheVariants as end
use Rattle.peg_session.proofs.Standings.{stopped, unbound_closes, unsent_ends, carried_stands}
use Rattle.peg_session.proofs.Standings.{page_same, desk_same, ready_same}
use Rattle.peg_session.proofs.desk.carry_out.Goals as goal

pub returns-then-not-bind_all-clause-steps : goal.returns-then-not-bind_all-clause-steps
returns-then-not-bind_all-clause-steps g c =
    λ start before inputs left waits.
    let h = g.K.Sink.held c.args.sink.now in
    let w = g.W.Wire.carried c.bind_all.new.wire in
    let n = g.W.Wire.slots c.bind_all.new.wire in
    stopped g.T.Session.meaning start before left h (g.K.Sink.held c.stop.new.sink) w n
    c.bind_all.new.desk.page end.WireFault c.stop.result
    (unbound_closes g.T.Session.meaning start before left h inputs
    (g.T.Session.state c.args.session.now) c.args.desk.now (g.T.Session.binds c.args.session.now)
    (g.T.Session.letters c.args.session.now) (g.W.Wire.carried c.args.wire.now)
    (g.W.Wire.slots c.args.wire.now) waits w n c.bind_all.new.desk.page
    (page_same c.args.desk.now c.bind_all.new.desk c.bind_all.new.desk.base
    c.bind_all.new.desk.bound c.if-not-bind_all.ensures.same)
    c.if-not-bind_all.ensures.some c.if-not-bind_all.ensures.content) c.stop.ensures.content

pub returns-then-not-post-clause-steps : goal.returns-then-not-post-clause-steps
returns-then-not-post-clause-steps g c =
    λ start before inputs left waits.
    let desk = c.bind_all.new.desk in
    let same = page_same c.args.desk.now desk desk.base desk.bound c.if-not-bind_all.ensures.same in
    unsent_ends g.T.Session.meaning start before left (g.K.Sink.held c.args.sink.now) inputs
    (g.T.Session.state c.args.session.now) c.args.desk.now (g.T.Session.binds c.args.session.now)
    (g.T.Session.letters c.args.session.now) (g.W.Wire.carried c.args.wire.now)
    (g.W.Wire.slots c.args.wire.now) waits (g.W.Wire.carried c.post.new.wire)
    (g.W.Wire.slots c.post.new.wire) (g.K.Sink.held c.post.new.sink) desk.page same
    (λ none. cc (c.post.ensures.nothing none))
    (subst
    (λ (x : Option Carried). Tells (g.W.Wire.carried c.args.wire.now) x
    (λ k n. n ≡ bound_more (g.T.Session.binds c.args.session.now) k))
    (sym (ap (g.W.Wire.carried) c.if-not-post.ensures.unsent))
    c.if-not-bind_all.ensures.content) c.if-not-post.ensures.content

pub returns-clause-steps : goal.returns-clause-steps
returns-clause-steps g c =
    λ start before inputs left waits.
    let did = c.if-not-bind_all.ensures in
    let sent = c.if-not-post.ensures in
    let mid = c.bind_all.new.desk in
    let now = g.W.Wire.slots c.bind_all.new.wire in
    let slots : now ≡ before.slots + mid.bound = omega (arith, did.slots, waits.at.slots) in
    let from : 0 < g.T.Session.ports c.args.session.now → mid.base ≡ before.slots =
    λ some. omega (
      arith,
      (did.moored (omega (arith, some, did.bound, c.requires.fit.all_ports))).0,
      slots,
    ) in
    let same : mid.page ≡ c.args.desk.now.page =
    page_same c.args.desk.now mid mid.base mid.bound did.same in (
      inputs,
      carried_stands g.T.Session.meaning start before left (g.K.Sink.held c.args.sink.now) inputs
          (g.T.Session.state c.args.session.now) c.args.desk.now
          (g.T.Session.binds c.args.session.now) (g.T.Session.letters c.args.session.now)
          (g.W.Wire.carried c.args.wire.now) (g.W.Wire.slots c.args.wire.now) waits
          (g.W.Wire.carried c.bind_all.new.wire) (g.W.Wire.carried c.post.new.wire)
          (g.K.Sink.held c.post.new.sink) (g.W.Wire.slots c.post.new.wire) mid.base mid.bound
          c.post.new.desk.page c.post.new.desk
          (desk_same c.args.desk.now mid c.post.new.desk did.same sent.same)
          (sent.slots ∙ slots) did.content (sent.sent before.slots from)
          (subst
          (λ xs. Passes true [] xs c.post.new.desk.page (g.K.Sink.held c.args.sink.now)
          (g.K.Sink.held c.post.new.sink)) same sent.content)
          (ready_same (g.T.Session.letters c.args.session.now) c.args.desk.now.page mid.page
          c.post.new.desk.page same sent.ready),
    )
