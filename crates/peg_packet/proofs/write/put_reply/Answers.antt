use Rattle.std.proofs.Common.{refl, ap, sym}
use Rattle.peg_model.specs.Packet.{spelling}
use Rattle.peg_packet.specs.Seen.{seen}
use Rattle.peg_packet.proofs.Putting.{puts_same}
use Rattle.peg_packet.proofs.Fitting.{fits_at}
use Rattle.peg_packet.proofs.write.put_reply.Goals as goal

pub slice_bounds-put_family-end : goal.slice_bounds-put_family-end
slice_bounds-put_family-end c =
    refl

pub put_family-requires : goal.put_family-requires
put_family-requires c =
    fits_at c.args.format c.args.packet.now _ c.requires.in_range c.in-WriteReply.is

pub slice_bounds-put_family-end-in-Void : goal.slice_bounds-put_family-end-in-Void
slice_bounds-put_family-end-in-Void c =
    refl

pub put_family-requires-in-Void : goal.put_family-requires-in-Void
put_family-requires-in-Void c =
    fits_at c.args.format c.args.packet.now _ c.requires.in_range c.in-Void.is

pub slice_bounds-put_with_content-end :
    goal.slice_bounds-put_with_content-end
slice_bounds-put_with_content-end c =
    refl

pub put_with_content-requires-clause-key :
    goal.put_with_content-requires-clause-key
put_with_content-requires-clause-key c =
    (fits_at c.args.format c.args.packet.now _ c.requires.in_range c.in-ReadReply.is).0

pub put_with_content-requires-clause-content :
    goal.put_with_content-requires-clause-content
put_with_content-requires-clause-content c =
    (fits_at c.args.format c.args.packet.now _ c.requires.in_range c.in-ReadReply.is).1

pub returns-in-ReadReply : goal.returns-in-ReadReply
unfolding spelling
returns-in-ReadReply c =
    puts_same c.put_with_content.ensures
    (ap (λ p. spelling c.args.format (seen p)) (sym c.in-ReadReply.is))

pub returns-in-WriteReply : goal.returns-in-WriteReply
unfolding spelling
returns-in-WriteReply c =
    puts_same c.put_family.ensures
    (ap (λ p. spelling c.args.format (seen p)) (sym c.in-WriteReply.is))

pub returns-in-Void : goal.returns-in-Void
unfolding spelling
returns-in-Void c =
    puts_same c.put_family-in-Void.ensures
    (ap (λ p. spelling c.args.format (seen p)) (sym c.in-Void.is))
