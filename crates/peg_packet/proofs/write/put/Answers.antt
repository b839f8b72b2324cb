use Rattle.std.proofs.Common.{◌++◌, refl, ap, sym, ◌∙◌}
use Rattle.peg_model.specs.Packet.{spelling, family, content_bytes}
use Rattle.peg_packet.specs.Seen.{seen, content_seen}
use Rattle.peg_packet.proofs.Putting.{puts_same}
use Rattle.peg_packet.proofs.Fitting.{fits_at}
use Rattle.peg_packet.proofs.write.put.Goals as goal

pub slice_bounds-put_family-end : goal.slice_bounds-put_family-end
slice_bounds-put_family-end c =
    refl

pub put_family-requires : goal.put_family-requires
put_family-requires c =
    fits_at c.args.format c.args.packet.now _ c.requires c.in-Read.is

pub slice_bounds-put_with_content-end : goal.slice_bounds-put_with_content-end
slice_bounds-put_with_content-end c =
    refl

pub put_with_content-requires-clause-key : goal.put_with_content-requires-clause-key
put_with_content-requires-clause-key c =
    (fits_at c.args.format c.args.packet.now _ c.requires c.in-Write.is).0

pub put_with_content-requires-clause-content : goal.put_with_content-requires-clause-content
put_with_content-requires-clause-content c =
    (fits_at c.args.format c.args.packet.now _ c.requires c.in-Write.is).1

pub slice_bounds-put_family-end-in-ToServerRead : goal.slice_bounds-put_family-end-in-ToServerRead
slice_bounds-put_family-end-in-ToServerRead c =
    refl

pub put_family-requires-in-ToServerRead : goal.put_family-requires-in-ToServerRead
put_family-requires-in-ToServerRead c =
    fits_at c.args.format c.args.packet.now _ c.requires c.in-ToServerRead.is

pub slice_bounds-put_with_content-end-in-ToServerWrite :
    goal.slice_bounds-put_with_content-end-in-ToServerWrite
slice_bounds-put_with_content-end-in-ToServerWrite c =
    refl

pub put_with_content-requires-in-ToServerWrite-clause-key :
    goal.put_with_content-requires-in-ToServerWrite-clause-key
put_with_content-requires-in-ToServerWrite-clause-key c =
    (fits_at c.args.format c.args.packet.now _ c.requires c.in-ToServerWrite.is).0

pub put_with_content-requires-in-ToServerWrite-clause-content :
    goal.put_with_content-requires-in-ToServerWrite-clause-content
put_with_content-requires-in-ToServerWrite-clause-content c =
    (fits_at c.args.format c.args.packet.now _ c.requires c.in-ToServerWrite.is).1

pub returns-in-Read : goal.returns-in-Read
unfolding spelling
returns-in-Read c =
    puts_same c.put_family.ensures
    ((λ i. family c.args.format 1 (c.of_request-header.ensures i).client
    (c.of_request-header.ensures i).seq 0 (c.of_request-header.ensures i).server
    (c.of_request-header.ensures i).switch c.in-Read.key.now)
    ∙ ap (λ p. spelling c.args.format (seen p)) (sym c.in-Read.is))

pub returns-in-Write : goal.returns-in-Write
unfolding spelling
returns-in-Write c =
    puts_same c.put_with_content.ensures
    ((λ i. family c.args.format 2 (c.of_request-header-in-Write.ensures i).client
    (c.of_request-header-in-Write.ensures i).seq 0 (c.of_request-header-in-Write.ensures i).server
    (c.of_request-header-in-Write.ensures i).switch c.in-Write.key.now
    ++ content_bytes (content_seen c.in-Write.content))
    ∙ ap (λ p. spelling c.args.format (seen p)) (sym c.in-Write.is))

pub returns-in-ToServerRead : goal.returns-in-ToServerRead
unfolding spelling
returns-in-ToServerRead c =
    puts_same c.put_family-in-ToServerRead.ensures
    (ap (λ p. spelling c.args.format (seen p)) (sym c.in-ToServerRead.is))

pub returns-in-ToServerWrite : goal.returns-in-ToServerWrite
unfolding spelling
returns-in-ToServerWrite c =
    puts_same c.put_with_content-in-ToServerWrite.ensures
    (ap (λ p. spelling c.args.format (seen p)) (sym c.in-ToServerWrite.is))
