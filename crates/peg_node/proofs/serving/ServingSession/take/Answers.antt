use Rattle.std.proofs.Common.{◌+◌, ◌-◌, ◌∙◌, [], List, ℕ, map, true, ap, subst, sym, refl}
use Rattle.peg_model.specs.Datagrams.{spelled}
use Rattle.peg_meaning.specs.Roles.{Serving, serves}
use Rattle.peg_meaning.specs.Session.{letter_to}
use Rattle.peg_packet.specs.Outbox.{Outbox}
use Rattle.peg_session.specs.Took.{Takes}
use Rattle.peg_session.specs.declared.Taken.{Taken}
use Rattle.peg_session.specs.declared.Stepped.TheVariants as stepped
use Rattle.peg_session.proofs.Passing.{passes_nothing}
use Rattle.peg_node.specs.Serving.{binds_of_first}
use Rattle.peg_node.proofs.Turns.{datagram_serves, pause_serves, items_posted}
use Rattle.peg_node.proofs.serving.ServingSession.take.Goals as goal

pub returns-then-not-push_datagrams-clause-took : goal.returns-then-not-push_datagrams-clause-took
returns-then-not-push_datagrams-clause-took g c =
    let s : Serving g.N.Turning.Seen = record {
      node = g.N.Turning.seen c.args.self.now.node;
      base = c.args.self.now.base;
      format = c.args.self.now.config.format;
      left = c.args.self.now.left;
      datagrams = c.args.self.now.datagrams;
      is_over = c.args.self.now.is_over;
    } in
    subst
    (λ (t : Taken). Takes (serves g.N.Turning.turn) s t stepped.Unwritten s
    (binds_of_first c.args.self.now.is_first c.args.self.now.base c.args.self.now.name)
    (map (letter_to 0 c.args.self.now.base) c.clear.new.self.items) c.args.page.now
    c.push_datagrams.new.page (g.K.Sink.held c.args.sink.now)
    (g.K.Sink.held c.push_datagrams.new.sink))
    (sym c.in-Step.is)
    (record { came = _; is = refl; over = c.if-not-push_datagrams.ensures.content })

pub returns-in-Ok-clause-took : goal.returns-in-Ok-clause-took
returns-in-Ok-clause-took g c =
    let s : Serving g.N.Turning.Seen = record {
      node = g.N.Turning.seen c.args.self.now.node;
      base = c.args.self.now.base;
      format = c.args.self.now.config.format;
      left = c.args.self.now.left;
      datagrams = c.args.self.now.datagrams;
      is_over = c.args.self.now.is_over;
    } in
    let after : Serving g.N.Turning.Seen = record s {
      node = g.N.Turning.seen c.take.new.self;
      left = s.left - 1;
      datagrams = s.datagrams + 1;
    } in
    let sent = (g.N.Turning.turn s.node c.in-Datagram.bytes.now s.datagrams).1 in
    let held = g.K.Sink.held c.args.sink.now in
    subst
    (λ (t : Taken). Takes (serves g.N.Turning.turn) s t stepped.Goes after []
    (map (letter_to 0 c.args.self.now.base) c.take.new.post.items) c.args.page.now
    c.args.page.now held held)
    (sym c.in-Datagram.is)
    (record {
      text = [];
      is =
          datagram_serves g.N.Turning.turn s (g.N.Turning.seen c.take.new.self)
          c.in-Datagram.bytes.now c.take.new.post.items c.in-Ok.ensures.after
          (items_posted c.args.self.now.post c.clear.new.self c.take.new.post sent
          c.clear.ensures c.in-Ok.ensures.sent
          ∙ ap (λ f. spelled f sent) c.requires.holds.same_format);
      over = passes_nothing c.args.page.now held;
    })

pub returns-in-Pause-clause-took : goal.returns-in-Pause-clause-took
returns-in-Pause-clause-took g c =
    let s : Serving g.N.Turning.Seen = record {
      node = g.N.Turning.seen c.args.self.now.node;
      base = c.args.self.now.base;
      format = c.args.self.now.config.format;
      left = c.args.self.now.left;
      datagrams = c.args.self.now.datagrams;
      is_over = c.args.self.now.is_over;
    } in
    let after : Serving g.N.Turning.Seen = record s { left = s.left - 1 } in
    let held = g.K.Sink.held c.args.sink.now in
    subst
    (λ (t : Taken). Takes (serves g.N.Turning.turn) s t stepped.Goes after []
    (map (letter_to 0 c.args.self.now.base) c.clear.new.self.items) c.args.page.now
    c.args.page.now held held)
    (sym c.in-Pause.is)
    (record {
      text = [];
      is =
          pause_serves g.N.Turning.turn s c.clear.new.self.items
          (ap (λ (o : Outbox). o.items) c.clear.ensures);
      over = passes_nothing c.args.page.now held;
    })
