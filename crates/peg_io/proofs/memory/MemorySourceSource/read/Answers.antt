use Rattle.std.proofs.Common.{◌≡◌, ◌-◌, ◌∙◌, length, take, drop, ap}
use Rattle.std.proofs.lemmas.List.{take_rest}
use Rattle.peg_io.specs.Memory.{Feed}
use Rattle.peg_io.proofs.Telling.{gives_front}
use Rattle.peg_io.proofs.memory.MemorySourceSource.read.Goals as goal

pub returns-clause-content : goal.returns-clause-content
returns-clause-content c =
    let at = c.self.inside.at in
    let items = c.deref-2.result.now in
    let seen : drop at c.self.inside.bytes.items ≡ c.args.self.now.left = ap (λ (s : Feed). s.left) c.self.view_is in
    let same : take (length items - at) (drop at items) ≡ c.args.self.now.left = take_rest items at ∙ ap (λ xs. drop at xs) c.deref-2.ensures.value ∙ seen in
    let more = rw same at c.if-is_empty.ensures in
    let count = rw same at c.copy_front-count.ensures.count in
    let bytes = rw same at c.copy_front-count.ensures.bytes in
    gives_front c.copy_front-count.result at c.self.inside.step (length c.args.buf.now) c.self.inside.bytes.items c.copy_front-count.new.buf c.args.self.now.left
    seen c.self.invariant.1 c.requires c.copy_front-count.ensures.len more count bytes
