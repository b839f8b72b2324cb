use Rattle.std.proofs.Common.{◌++◌, refl, ap, sym, ◌∙◌}
use Rattle.peg_model.specs.Packet.{spelling, begin, eight}
use Rattle.peg_packet.specs.Seen.{seen}
use Rattle.peg_packet.proofs.Putting.{puts_same}
use Rattle.peg_packet.proofs.Fitting.{fits_at, outcome_spelled}
use Rattle.peg_packet.proofs.write.put_other.Goals as goal

pub put_command-requires : goal.put_command-requires
put_command-requires c =
    fits_at c.args.format c.args.packet.now _ c.requires.in_range c.in-Command.is

pub slice_bounds-put_part-end : goal.slice_bounds-put_part-end
slice_bounds-put_part-end c =
    refl

pub put_part-requires : goal.put_part-requires
put_part-requires c =
    fits_at c.args.format c.args.packet.now _ c.requires.in_range c.in-Part.is

pub put_report-requires : goal.put_report-requires
put_report-requires c =
    let fits =
    fits_at c.args.format c.args.packet.now _ c.requires.in_range c.in-Report.is in record {
      few = fits.0;
      short = fits.1;
    }

pub returns-in-Command : goal.returns-in-Command
unfolding spelling
returns-in-Command c =
    puts_same c.put_command.ensures
    (ap (λ p. spelling c.args.format (seen p)) (sym c.in-Command.is))

pub returns-in-Part : goal.returns-in-Part
unfolding spelling
returns-in-Part c =
    puts_same c.put_part.ensures (ap (λ p. spelling c.args.format (seen p)) (sym c.in-Part.is))

pub returns-in-Announce : goal.returns-in-Announce
unfolding spelling
returns-in-Announce c =
    puts_same c.put_announce.ensures
    (ap (λ p. spelling c.args.format (seen p)) (sym c.in-Announce.is))

pub returns-in-Survey : goal.returns-in-Survey
unfolding spelling
returns-in-Survey c =
    puts_same c.put_begin.ensures (ap (λ p. spelling c.args.format (seen p)) (sym c.in-Survey.is))

pub returns-in-Report : goal.returns-in-Report
unfolding spelling
returns-in-Report c =
    puts_same c.put_report.ensures (ap (λ p. spelling c.args.format (seen p)) (sym c.in-Report.is))

pub returns-in-CommandAck : goal.returns-in-CommandAck
unfolding spelling
returns-in-CommandAck c =
    let spelled =
    outcome_spelled c.args.format c.args.packet.now c.in-CommandAck.number
    c.in-CommandAck.outcome c.in-CommandAck.value c.requires.in_range (ap seen c.in-CommandAck.is)
    in
    puts_same c.put_acknowledgement.ensures
    (ap (λ t. begin c.args.format 8 ++ eight c.in-CommandAck.number ++ t) (sym spelled) ∙ ap
    (λ p. spelling c.args.format (seen p)) (sym c.in-CommandAck.is))
