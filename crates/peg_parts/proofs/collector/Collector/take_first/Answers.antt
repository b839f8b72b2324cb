use Rattle.std.proofs.Common.{◌≡◌, ◌<◌, ◌++◌, ℕ, List, Some, None, replicate, set, ap, sym, ◌∙◌}
use Rattle.std.proofs.Common.{arith, length, length-set}
use Rattle.std.proofs.lemmas.List.{length-replicate}
use Rattle.peg_model.specs.Handover.{Collected, begun, with_part, state_of, bytes_of, held_count}
use Rattle.peg_parts.specs.Taking.{Collection}
use Rattle.peg_parts.proofs.Taking.{begun_anew, count_first, bytes_alone, takes_more, takes_none}
use Rattle.peg_parts.proofs.Taking.{takes_whole}
use Rattle.peg_parts.proofs.collector.Collector.take_first.Goals as goal

-- the parts with the first of the epoch
abbrev first : ℕ → ℕ → ℕ → List ℕ → Collected
first epoch count index bytes =
    with_part (record { epoch = epoch; parts = replicate count None }) index bytes

anew :
    (c : Collected) (epoch count index : ℕ) (bytes : List ℕ) → c.epoch < epoch
    → with_part (begun c epoch count) index bytes ≡ first epoch count index bytes
anew c epoch count index bytes above =
    ap (λ now. with_part now index bytes) (begun_anew c epoch count above)

places : (epoch count index : ℕ) (bytes : List ℕ) → length (first epoch count index bytes).parts ≡ count
places epoch count index bytes =
    length-set (replicate count None) index (Some bytes) ∙ length-replicate count None

pub returns-then-count-gt1-clause-takes : goal.returns-then-count-gt1-clause-takes
returns-then-count-gt1-clause-takes c =
    let now = with_part (begun c.args.self.now.collected c.args.epoch c.args.count) c.args.index c.args.bytes.now in
    let alone = anew c.args.self.now.collected c.args.epoch c.args.count c.args.index c.args.bytes.now c.requires.epoch in
    let one : held_count now ≡ 1 =
    ap held_count alone
    ∙ count_first c.args.epoch c.args.count c.args.index c.args.bytes.now c.requires.index
    in
    let count : length now.parts ≡ c.args.count =
    ap (λ (k : Collected). length k.parts) alone
    ∙ places c.args.epoch c.args.count c.args.index c.args.bytes.now
    in
    let held : c.hold.new.parts.items ≡ (first c.args.epoch c.args.count c.args.index c.args.bytes.now).parts =
    c.hold.ensures.items ∙ ap (λ parts. set parts c.args.index (Some c.args.bytes.now)) c.begin.ensures.items
    in
    let collected : record { epoch = c.args.epoch; parts = c.hold.new.parts.items } ≡ now =
    ap (λ parts. record { epoch = c.args.epoch; parts = parts }) held ∙ sym alone
    in
    takes_more c.args.self.now.rack c.args.self.now.collected now c.args.self.now _ c.args.stamper.now
    c.args.directory.now 1 (sym one) (omega (arith, one, count))
    (λ j. record { rack = (ap (λ (k : Collection). k.rack) c.self.view_is) j; collected = collected j })

pub returns-in_default-clause-takes : goal.returns-in_default-clause-takes
returns-in_default-clause-takes c =
    let now = with_part (begun c.args.self.now.collected c.args.epoch c.args.count) c.args.index c.args.bytes.now in
    let alone = anew c.args.self.now.collected c.args.epoch c.args.count c.args.index c.args.bytes.now c.requires.epoch in
    let one : held_count now ≡ 1 =
    ap held_count alone
    ∙ count_first c.args.epoch c.args.count c.args.index c.args.bytes.now c.requires.index
    in
    let count : length now.parts ≡ c.args.count =
    ap (λ (k : Collected). length k.parts) alone
    ∙ places c.args.epoch c.args.count c.args.index c.args.bytes.now
    in
    let rack : c.self.inside.reader.rack ≡ c.args.self.now.rack =
    c.self.invariant.same ∙ ap (λ (k : Collection). k.rack) c.self.view_is
    in
    let bytes : c.deref.result.now ≡ bytes_of now =
    c.deref.ensures.value
    ∙ c.put.ensures.items
    ∙ ap (λ front. front ++ c.args.bytes.now) c.clear.ensures.items
    ∙ sym (ap bytes_of alone
    ∙ bytes_alone c.args.epoch c.args.count c.args.index c.args.bytes.now c.requires.index c.if-count-gt1.false)
    in
    let read :
    state_of c.self.inside.reader.rack c.deref.result.now
    ≡ state_of c.args.self.now.rack (bytes_of now) =
    (λ j. state_of (rack j) (bytes j))
    in
    takes_none c.args.self.now.rack c.args.self.now.collected now c.args.self.now _ c.args.stamper.now
    c.args.directory.now c.take.new.stamper c.take.new.directory
    (omega (arith, one, count, c.if-count-gt1.false, c.requires.index))
    (sym read ∙ c.in_default.ensures.none)
    c.self.view_is c.in_default.ensures.stamps c.in_default.ensures.entries

pub returns-clause-takes : goal.returns-clause-takes
returns-clause-takes c =
    let now = with_part (begun c.args.self.now.collected c.args.epoch c.args.count) c.args.index c.args.bytes.now in
    let alone = anew c.args.self.now.collected c.args.epoch c.args.count c.args.index c.args.bytes.now c.requires.epoch in
    let one : held_count now ≡ 1 =
    ap held_count alone
    ∙ count_first c.args.epoch c.args.count c.args.index c.args.bytes.now c.requires.index
    in
    let count : length now.parts ≡ c.args.count =
    ap (λ (k : Collected). length k.parts) alone
    ∙ places c.args.epoch c.args.count c.args.index c.args.bytes.now
    in
    let rack : c.self.inside.reader.rack ≡ c.args.self.now.rack =
    c.self.invariant.same ∙ ap (λ (k : Collection). k.rack) c.self.view_is
    in
    let bytes : c.deref.result.now ≡ bytes_of now =
    c.deref.ensures.value
    ∙ c.put.ensures.items
    ∙ ap (λ front. front ++ c.args.bytes.now) c.clear.ensures.items
    ∙ sym (ap bytes_of alone
    ∙ bytes_alone c.args.epoch c.args.count c.args.index c.args.bytes.now c.requires.index c.if-count-gt1.false)
    in
    let read :
    state_of c.self.inside.reader.rack c.deref.result.now
    ≡ state_of c.args.self.now.rack (bytes_of now) =
    (λ j. state_of (rack j) (bytes j))
    in
    takes_whole c.args.self.now.rack c.args.self.now.collected now c.args.self.now _ c.args.stamper.now
    c.args.directory.now c.in-Some.last c.take.new.stamper c.take.new.directory
    (omega (arith, one, count, c.if-count-gt1.false, c.requires.index))
    (sym read ∙ c.in-Some.ensures.state)
    c.in-Some.ensures.table
    (λ j. record { rack = (ap (λ (k : Collection). k.rack) c.self.view_is) j; collected = record { epoch = 0; parts = c.clear-2.ensures.items j } })
