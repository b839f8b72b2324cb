use Rattle.std.proofs.Common.{refl, arith}
use Rattle.peg_model.specs.Reading.{one_at}
use Rattle.peg_packet.proofs.Maybe.{some_arm, any_arm}
use Rattle.peg_grammar.proofs.Read.{kind_range}
use Rattle.peg_packet.proofs.read.packet.Goals as goal

pub returns-in-1 : goal.returns-in-1
returns-in-1 c =
    some_arm c.args.bytes.now 1 (one_at c.args.bytes.now 3) _ c.read.result c.in-1.is refl
    c.read.ensures

pub returns-in-2 : goal.returns-in-2
returns-in-2 c =
    some_arm c.args.bytes.now 2 (one_at c.args.bytes.now 3) _ c.write.result c.in-2.is refl
    c.write.ensures

pub returns-in-3 : goal.returns-in-3
returns-in-3 c =
    some_arm c.args.bytes.now 3 (one_at c.args.bytes.now 3) _ c.to_server_read.result c.in-3.is
    refl c.to_server_read.ensures

pub returns-in-4 : goal.returns-in-4
returns-in-4 c =
    some_arm c.args.bytes.now 4 (one_at c.args.bytes.now 3) _ c.to_server_write.result c.in-4.is
    refl c.to_server_write.ensures

pub returns-in-5 : goal.returns-in-5
returns-in-5 c =
    some_arm c.args.bytes.now 5 (one_at c.args.bytes.now 3) _ c.read_reply.result c.in-5.is refl
    c.read_reply.ensures

pub returns-in-6 : goal.returns-in-6
returns-in-6 c =
    some_arm c.args.bytes.now 6 (one_at c.args.bytes.now 3) _ c.write_reply.result c.in-6.is refl
    c.write_reply.ensures

pub returns-in-7 : goal.returns-in-7
returns-in-7 c =
    any_arm c.args.bytes.now 7 (one_at c.args.bytes.now 3) _ c.command.result c.in-7.is refl
    c.command.ensures

pub returns-in-8 : goal.returns-in-8
returns-in-8 c =
    any_arm c.args.bytes.now 8 (one_at c.args.bytes.now 3) _ c.acknowledgement.result c.in-8.is
    refl c.acknowledgement.ensures

pub returns-in-9 : goal.returns-in-9
returns-in-9 c =
    some_arm c.args.bytes.now 9 (one_at c.args.bytes.now 3) _ c.copy_order.result c.in-9.is refl
    c.copy_order.ensures

pub returns-in-10 : goal.returns-in-10
returns-in-10 c =
    some_arm c.args.bytes.now 10 (one_at c.args.bytes.now 3) _ c.copy_data.result c.in-10.is refl
    c.copy_data.ensures

pub returns-in-11 : goal.returns-in-11
returns-in-11 c =
    some_arm c.args.bytes.now 11 (one_at c.args.bytes.now 3) _ c.held.result c.in-11.is refl
    c.held.ensures

pub returns-in-12 : goal.returns-in-12
returns-in-12 c =
    some_arm c.args.bytes.now 12 (one_at c.args.bytes.now 3) _ c.part.result c.in-12.is refl
    c.part.ensures

pub returns-in-13 : goal.returns-in-13
returns-in-13 c =
    some_arm c.args.bytes.now 13 (one_at c.args.bytes.now 3) _ c.announce.result c.in-13.is refl
    c.announce.ensures

pub returns-in-14 : goal.returns-in-14
returns-in-14 c =
    some_arm c.args.bytes.now 14 (one_at c.args.bytes.now 3) _ c.survey.result c.in-14.is refl
    c.survey.ensures

pub returns-in-15 : goal.returns-in-15
returns-in-15 c =
    some_arm c.args.bytes.now 15 (one_at c.args.bytes.now 3) _ c.report.result c.in-15.is refl
    c.report.ensures

pub returns-in-16 : goal.returns-in-16
returns-in-16 c =
    some_arm c.args.bytes.now 16 (one_at c.args.bytes.now 3) _ c.fence.result c.in-16.is refl
    c.fence.ensures

pub returns-in-17 : goal.returns-in-17
returns-in-17 c =
    some_arm c.args.bytes.now 17 (one_at c.args.bytes.now 3) _ c.void.result c.in-17.is refl
    c.void.ensures

pub returns-in_default : goal.returns-in_default
returns-in_default c =
    λ format begun p is ranges spelled.
    let range = kind_range format p c.args.bytes.now spelled in omega (arith, range.0, range.1)
