use Rattle.std.proofs.Common.{◌≡◌, ◌<◌, true, false, length, get_or, None, ap}
use Rattle.std.proofs.Common.{sym, ◌∙◌, subst, arith, refl}
use Rattle.std.specs.Option.{is_some}
use Rattle.std.proofs.lemmas.List.{length-replicate}
use Rattle.peg_model.specs.Handover.{Collected, begun, with_part, has_part}
use Rattle.peg_parts.specs.declared.Taken.TheVariants.{Old, Malformed, Repeated}
use Rattle.peg_parts.specs.Taking.{Collection, Take, TakesAs, take_part, adds, leaves}
use Rattle.peg_parts.proofs.Taking.{takes_past, takes_below, takes_other_count, takes_again}
use Rattle.peg_parts.proofs.Taking.{takes_added, unchanged, begun_same, begun_anew, fresh_free}
use Rattle.peg_parts.proofs.collector.Collector.take.Goals as goal
use Rattle.peg_parts.proofs.collector.Collector.take.Goals.{then-epoch-own-via-then-epoch-own, then-epoch-own-via-else-epoch-own+then-epoch-self}

pub returns-then-epoch-own : goal.returns-then-epoch-own
returns-then-epoch-own c =
    let epoch : c.self.inside.epoch ≡ c.args.self.now.collected.epoch =
    ap (λ (k : Collection). k.collected.epoch) c.self.view_is
    in
    let old :
    take_part c.args.self.now.rack c.args.own c.args.self.now.collected c.args.epoch c.args.index
    c.args.count c.args.bytes.now
    ≡ leaves Old c.args.self.now.collected =
    elim c.then-epoch-own.branch [
      | then-epoch-own-via-then-epoch-own w ↦
          takes_past c.args.self.now.rack c.args.own c.args.self.now.collected c.args.epoch
          c.args.index c.args.count c.args.bytes.now w.if-epoch-own.true
      | then-epoch-own-via-else-epoch-own+then-epoch-self w ↦
          takes_below c.args.self.now.rack c.args.own c.args.self.now.collected c.args.epoch
          c.args.index c.args.count c.args.bytes.now (omega (arith, w.if-epoch-own.false))
          (omega (arith, epoch, w.if-epoch-self.true))
    ]
    in
    let k = unchanged _ Old c.args.self.now c.args.stamper.now c.args.directory.now old in
    record {
      answer = k.answered;
      collected = k.collects;
      stamps = k.stamped;
      entries = k.listed;
      clients = refl;
    }

pub returns-then-epoch-self-2 : goal.returns-then-epoch-self-2
returns-then-epoch-self-2 c =
    let collected = c.args.self.now.collected in
    let epoch : c.self.inside.epoch ≡ collected.epoch =
    ap (λ (k : Collection). k.collected.epoch) c.self.view_is
    in
    let above : collected.epoch < c.args.epoch = omega (arith, epoch, c.if-epoch-self-2.true) in
    let anew = begun_anew collected c.args.epoch c.args.count above in
    let all :
    take_part c.args.self.now.rack c.args.own collected c.args.epoch c.args.index c.args.count
    c.args.bytes.now
    ≡ adds c.args.self.now.rack collected
    (with_part (begun collected c.args.epoch c.args.count) c.args.index c.args.bytes.now) =
    takes_added c.args.self.now.rack c.args.own collected c.args.epoch c.args.index c.args.count
    c.args.bytes.now (omega (arith, c.if-epoch-own.false)) (omega (arith, above))
    (ap (λ (k : Collected). length k.parts) anew ∙ length-replicate c.args.count None)
    (ap (λ k. has_part k c.args.index) anew ∙ fresh_free c.args.count c.args.index)
    in
    let k =
    subst
    (λ (t : Take). TakesAs t c.take_first.result c.args.self.now c.take_first.new.self
    c.args.stamper.now c.take_first.new.stamper c.args.directory.now c.take_first.new.directory)
    (sym all) c.take_first.ensures.takes
    in
    record {
      answer = k.answered;
      collected = k.collects;
      stamps = k.stamped;
      entries = k.listed;
      clients = c.take_first.ensures.clients;
    }

pub returns-then-len-from : goal.returns-then-len-from
returns-then-len-from c =
    let collected = c.args.self.now.collected in
    let epoch : c.self.inside.epoch ≡ collected.epoch =
    ap (λ (k : Collection). k.collected.epoch) c.self.view_is
    in
    let same = begun_same collected c.args.epoch c.args.count (omega (arith, epoch, c.if-epoch-self-2.false)) in
    let places : length (begun collected c.args.epoch c.args.count).parts ≡ length c.self.inside.parts.items =
    ap (λ (k : Collected). length k.parts) same
    ∙ sym (ap (λ (k : Collection). length k.collected.parts) c.self.view_is)
    in
    let all =
    takes_other_count c.args.self.now.rack c.args.own collected c.args.epoch c.args.index
    c.args.count c.args.bytes.now (omega (arith, c.if-epoch-own.false))
    (omega (arith, epoch, c.if-epoch-self.false))
    (λ is. omega (arith, is, places, c.if-len-from.true, c.len.ensures, c.from.ensures))
    in
    let k = unchanged _ Malformed c.args.self.now c.args.stamper.now c.args.directory.now all in
    record {
      answer = k.answered;
      collected = k.collects;
      stamps = k.stamped;
      entries = k.listed;
      clients = refl;
    }

pub returns-then-has : goal.returns-then-has
returns-then-has c =
    let collected = c.args.self.now.collected in
    let epoch : c.self.inside.epoch ≡ collected.epoch =
    ap (λ (k : Collection). k.collected.epoch) c.self.view_is
    in
    let same = begun_same collected c.args.epoch c.args.count (omega (arith, epoch, c.if-epoch-self-2.false)) in
    let places : length (begun collected c.args.epoch c.args.count).parts ≡ length c.self.inside.parts.items =
    ap (λ (k : Collected). length k.parts) same
    ∙ sym (ap (λ (k : Collection). length k.collected.parts) c.self.view_is)
    in
    let held : has_part (begun collected c.args.epoch c.args.count) c.args.index ≡ true =
    ap (λ k. has_part k c.args.index) same
    ∙ sym (ap (λ (k : Collection). has_part k.collected c.args.index) c.self.view_is)
    ∙ sym (ap (λ parts. is_some (get_or parts c.args.index None)) c.deref.ensures.value)
    ∙ sym c.has.ensures
    ∙ c.if-has.true
    in
    let all =
    takes_again c.args.self.now.rack c.args.own collected c.args.epoch c.args.index
    c.args.count c.args.bytes.now (omega (arith, c.if-epoch-own.false))
    (omega (arith, epoch, c.if-epoch-self.false))
    (omega (arith, places, c.if-len-from.false, c.len.ensures, c.from.ensures)) held
    in
    let k = unchanged _ Repeated c.args.self.now c.args.stamper.now c.args.directory.now all in
    record {
      answer = k.answered;
      collected = k.collects;
      stamps = k.stamped;
      entries = k.listed;
      clients = refl;
    }

pub returns : goal.returns
returns c =
    let collected = c.args.self.now.collected in
    let epoch : c.self.inside.epoch ≡ collected.epoch =
    ap (λ (k : Collection). k.collected.epoch) c.self.view_is
    in
    let same = begun_same collected c.args.epoch c.args.count (omega (arith, epoch, c.if-epoch-self-2.false)) in
    let places : length (begun collected c.args.epoch c.args.count).parts ≡ length c.self.inside.parts.items =
    ap (λ (k : Collected). length k.parts) same
    ∙ sym (ap (λ (k : Collection). length k.collected.parts) c.self.view_is)
    in
    let free : has_part (begun collected c.args.epoch c.args.count) c.args.index ≡ false =
    ap (λ k. has_part k c.args.index) same
    ∙ sym (ap (λ (k : Collection). has_part k.collected c.args.index) c.self.view_is)
    ∙ sym (ap (λ parts. is_some (get_or parts c.args.index None)) c.deref.ensures.value)
    ∙ sym c.has.ensures
    ∙ c.if-has.false
    in
    let all =
    takes_added c.args.self.now.rack c.args.own collected c.args.epoch c.args.index
    c.args.count c.args.bytes.now (omega (arith, c.if-epoch-own.false))
    (omega (arith, epoch, c.if-epoch-self.false))
    (omega (arith, places, c.if-len-from.false, c.len.ensures, c.from.ensures)) free
    ∙ ap (λ k. adds c.args.self.now.rack collected (with_part k c.args.index c.args.bytes.now)) same
    in
    let k =
    subst
    (λ (t : Take). TakesAs t c.take_next.result c.args.self.now c.take_next.new.self
    c.args.stamper.now c.take_next.new.stamper c.args.directory.now c.take_next.new.directory)
    (sym all) c.take_next.ensures.takes
    in
    record {
      answer = k.answered;
      collected = k.collects;
      stamps = k.stamped;
      entries = k.listed;
      clients = c.take_next.ensures.clients;
    }
