use Rattle.std.proofs.Common.{refl, ap, arith}
use Rattle.rand_pcg.specs.Pcg.{pcg64}
use Rattle.peg_event.specs.declared.Event.TheVariants as event
use Rattle.peg_meaning.specs.Workload.{of_client, of_key, of_client_and_key, plainly, writes, junks}
use Rattle.peg_meaning.specs.Workload.{copies, handovers, delivers}
use Rattle.peg_gen.proofs.Table.{reads, is_write, resends, gives_up, is_junk, promotes, demotes, is_copy}
use Rattle.peg_gen.proofs.Table.{is_handover, surveys, plans, clears, retries, is_delivery, event_by, after_by}
use Rattle.peg_gen.proofs.Gen.next.Goals as goal

pub returns-in-0-to-3-clause-event : goal.returns-in-0-to-3-clause-event
returns-in-0-to-3-clause-event c =
    event_by pcg64 c.args.number c.args.sent c.args.self.now c.range.result c.range.ensures.word
    (of_client_and_key pcg64 event.Read) c.range.new.self c.read.result
    (reads pcg64 c.args.number c.args.sent c.args.self.now c.range.result c.range.ensures.word (omega arith)) c.range.ensures.after c.read.ensures.event

pub returns-in-0-to-3-clause-after : goal.returns-in-0-to-3-clause-after
returns-in-0-to-3-clause-after c =
    after_by pcg64 c.args.number c.args.sent c.args.self.now c.range.result c.range.ensures.word
    (of_client_and_key pcg64 event.Read) c.range.new.self c.read.new.self
    (reads pcg64 c.args.number c.args.sent c.args.self.now c.range.result c.range.ensures.word (omega arith)) c.range.ensures.after c.read.ensures.after

pub returns-in-4-to-6-clause-event : goal.returns-in-4-to-6-clause-event
returns-in-4-to-6-clause-event c =
    event_by pcg64 c.args.number c.args.sent c.args.self.now c.range.result c.range.ensures.word
    (writes pcg64 c.args.number) c.range.new.self c.write.result
    (is_write pcg64 c.args.number c.args.sent c.args.self.now c.range.result c.range.ensures.word (omega arith) (omega arith)) c.range.ensures.after c.write.ensures.event

pub returns-in-4-to-6-clause-after : goal.returns-in-4-to-6-clause-after
returns-in-4-to-6-clause-after c =
    after_by pcg64 c.args.number c.args.sent c.args.self.now c.range.result c.range.ensures.word
    (writes pcg64 c.args.number) c.range.new.self c.write.new.self
    (is_write pcg64 c.args.number c.args.sent c.args.self.now c.range.result c.range.ensures.word (omega arith) (omega arith)) c.range.ensures.after c.write.ensures.after

pub returns-in-7-clause-event : goal.returns-in-7-clause-event
returns-in-7-clause-event c =
    event_by pcg64 c.args.number c.args.sent c.args.self.now c.range.result c.range.ensures.word
    (of_client pcg64 event.Resend) c.range.new.self (event.Resend c.client.result)
    (resends pcg64 c.args.number c.args.sent c.args.self.now c.range.result c.range.ensures.word c.in-7.is) c.range.ensures.after (ap event.Resend c.client.ensures.client)

pub returns-in-7-clause-after : goal.returns-in-7-clause-after
returns-in-7-clause-after c =
    after_by pcg64 c.args.number c.args.sent c.args.self.now c.range.result c.range.ensures.word
    (of_client pcg64 event.Resend) c.range.new.self c.client.new.self
    (resends pcg64 c.args.number c.args.sent c.args.self.now c.range.result c.range.ensures.word c.in-7.is) c.range.ensures.after c.client.ensures.after

pub returns-in-8-clause-event : goal.returns-in-8-clause-event
returns-in-8-clause-event c =
    event_by pcg64 c.args.number c.args.sent c.args.self.now c.range.result c.range.ensures.word
    (of_client pcg64 event.GiveUp) c.range.new.self (event.GiveUp c.client-in-8.result)
    (gives_up pcg64 c.args.number c.args.sent c.args.self.now c.range.result c.range.ensures.word c.in-8.is) c.range.ensures.after (ap event.GiveUp c.client-in-8.ensures.client)

pub returns-in-8-clause-after : goal.returns-in-8-clause-after
returns-in-8-clause-after c =
    after_by pcg64 c.args.number c.args.sent c.args.self.now c.range.result c.range.ensures.word
    (of_client pcg64 event.GiveUp) c.range.new.self c.client-in-8.new.self
    (gives_up pcg64 c.args.number c.args.sent c.args.self.now c.range.result c.range.ensures.word c.in-8.is) c.range.ensures.after c.client-in-8.ensures.after

pub returns-in-9-clause-event : goal.returns-in-9-clause-event
returns-in-9-clause-event c =
    event_by pcg64 c.args.number c.args.sent c.args.self.now c.range.result c.range.ensures.word
    (junks pcg64) c.range.new.self c.junk.result
    (is_junk pcg64 c.args.number c.args.sent c.args.self.now c.range.result c.range.ensures.word c.in-9.is) c.range.ensures.after c.junk.ensures.event

pub returns-in-9-clause-after : goal.returns-in-9-clause-after
returns-in-9-clause-after c =
    after_by pcg64 c.args.number c.args.sent c.args.self.now c.range.result c.range.ensures.word
    (junks pcg64) c.range.new.self c.junk.new.self
    (is_junk pcg64 c.args.number c.args.sent c.args.self.now c.range.result c.range.ensures.word c.in-9.is) c.range.ensures.after c.junk.ensures.after

pub returns-in-10-clause-event : goal.returns-in-10-clause-event
returns-in-10-clause-event c =
    event_by pcg64 c.args.number c.args.sent c.args.self.now c.range.result c.range.ensures.word
    (of_key pcg64 event.Promote) c.range.new.self (event.Promote c.key.result)
    (promotes pcg64 c.args.number c.args.sent c.args.self.now c.range.result c.range.ensures.word c.in-10.is) c.range.ensures.after (ap event.Promote c.key.ensures.key)

pub returns-in-10-clause-after : goal.returns-in-10-clause-after
returns-in-10-clause-after c =
    after_by pcg64 c.args.number c.args.sent c.args.self.now c.range.result c.range.ensures.word
    (of_key pcg64 event.Promote) c.range.new.self c.key.new.self
    (promotes pcg64 c.args.number c.args.sent c.args.self.now c.range.result c.range.ensures.word c.in-10.is) c.range.ensures.after c.key.ensures.after

pub returns-in-11-clause-event : goal.returns-in-11-clause-event
returns-in-11-clause-event c =
    event_by pcg64 c.args.number c.args.sent c.args.self.now c.range.result c.range.ensures.word
    (of_key pcg64 event.Demote) c.range.new.self (event.Demote c.key-in-11.result)
    (demotes pcg64 c.args.number c.args.sent c.args.self.now c.range.result c.range.ensures.word c.in-11.is) c.range.ensures.after (ap event.Demote c.key-in-11.ensures.key)

pub returns-in-11-clause-after : goal.returns-in-11-clause-after
returns-in-11-clause-after c =
    after_by pcg64 c.args.number c.args.sent c.args.self.now c.range.result c.range.ensures.word
    (of_key pcg64 event.Demote) c.range.new.self c.key-in-11.new.self
    (demotes pcg64 c.args.number c.args.sent c.args.self.now c.range.result c.range.ensures.word c.in-11.is) c.range.ensures.after c.key-in-11.ensures.after

pub returns-in-12-clause-event : goal.returns-in-12-clause-event
returns-in-12-clause-event c =
    event_by pcg64 c.args.number c.args.sent c.args.self.now c.range.result c.range.ensures.word
    (copies pcg64) c.range.new.self c.copy.result
    (is_copy pcg64 c.args.number c.args.sent c.args.self.now c.range.result c.range.ensures.word c.in-12.is) c.range.ensures.after c.copy.ensures.event

pub returns-in-12-clause-after : goal.returns-in-12-clause-after
returns-in-12-clause-after c =
    after_by pcg64 c.args.number c.args.sent c.args.self.now c.range.result c.range.ensures.word
    (copies pcg64) c.range.new.self c.copy.new.self
    (is_copy pcg64 c.args.number c.args.sent c.args.self.now c.range.result c.range.ensures.word c.in-12.is) c.range.ensures.after c.copy.ensures.after

pub returns-in-13-clause-event : goal.returns-in-13-clause-event
returns-in-13-clause-event c =
    event_by pcg64 c.args.number c.args.sent c.args.self.now c.range.result c.range.ensures.word
    (handovers pcg64) c.range.new.self (event.Handover c.range-in-13.result)
    (is_handover pcg64 c.args.number c.args.sent c.args.self.now c.range.result c.range.ensures.word c.in-13.is) c.range.ensures.after (ap event.Handover c.range-in-13.ensures.word)

pub returns-in-13-clause-after : goal.returns-in-13-clause-after
returns-in-13-clause-after c =
    after_by pcg64 c.args.number c.args.sent c.args.self.now c.range.result c.range.ensures.word
    (handovers pcg64) c.range.new.self c.range-in-13.new.self
    (is_handover pcg64 c.args.number c.args.sent c.args.self.now c.range.result c.range.ensures.word c.in-13.is) c.range.ensures.after c.range-in-13.ensures.after

pub returns-in-14-clause-event : goal.returns-in-14-clause-event
returns-in-14-clause-event c =
    event_by pcg64 c.args.number c.args.sent c.args.self.now c.range.result c.range.ensures.word
    (plainly pcg64 event.Survey) c.range.new.self event.Survey
    (surveys pcg64 c.args.number c.args.sent c.args.self.now c.range.result c.range.ensures.word c.in-14.is) c.range.ensures.after refl

pub returns-in-14-clause-after : goal.returns-in-14-clause-after
returns-in-14-clause-after c =
    after_by pcg64 c.args.number c.args.sent c.args.self.now c.range.result c.range.ensures.word
    (plainly pcg64 event.Survey) c.range.new.self c.range.new.self
    (surveys pcg64 c.args.number c.args.sent c.args.self.now c.range.result c.range.ensures.word c.in-14.is) c.range.ensures.after refl

pub returns-in-15-clause-event : goal.returns-in-15-clause-event
returns-in-15-clause-event c =
    event_by pcg64 c.args.number c.args.sent c.args.self.now c.range.result c.range.ensures.word
    (plainly pcg64 (event.Plan 8 2)) c.range.new.self (event.Plan 8 2)
    (plans pcg64 c.args.number c.args.sent c.args.self.now c.range.result c.range.ensures.word c.in-15.is) c.range.ensures.after refl

pub returns-in-15-clause-after : goal.returns-in-15-clause-after
returns-in-15-clause-after c =
    after_by pcg64 c.args.number c.args.sent c.args.self.now c.range.result c.range.ensures.word
    (plainly pcg64 (event.Plan 8 2)) c.range.new.self c.range.new.self
    (plans pcg64 c.args.number c.args.sent c.args.self.now c.range.result c.range.ensures.word c.in-15.is) c.range.ensures.after refl

pub returns-in-16-clause-event : goal.returns-in-16-clause-event
returns-in-16-clause-event c =
    event_by pcg64 c.args.number c.args.sent c.args.self.now c.range.result c.range.ensures.word
    (plainly pcg64 event.Clear) c.range.new.self event.Clear
    (clears pcg64 c.args.number c.args.sent c.args.self.now c.range.result c.range.ensures.word c.in-16.is) c.range.ensures.after refl

pub returns-in-16-clause-after : goal.returns-in-16-clause-after
returns-in-16-clause-after c =
    after_by pcg64 c.args.number c.args.sent c.args.self.now c.range.result c.range.ensures.word
    (plainly pcg64 event.Clear) c.range.new.self c.range.new.self
    (clears pcg64 c.args.number c.args.sent c.args.self.now c.range.result c.range.ensures.word c.in-16.is) c.range.ensures.after refl

pub returns-in-17-clause-event : goal.returns-in-17-clause-event
returns-in-17-clause-event c =
    event_by pcg64 c.args.number c.args.sent c.args.self.now c.range.result c.range.ensures.word
    (plainly pcg64 event.Retry) c.range.new.self event.Retry
    (retries pcg64 c.args.number c.args.sent c.args.self.now c.range.result c.range.ensures.word c.in-17.is) c.range.ensures.after refl

pub returns-in-17-clause-after : goal.returns-in-17-clause-after
returns-in-17-clause-after c =
    after_by pcg64 c.args.number c.args.sent c.args.self.now c.range.result c.range.ensures.word
    (plainly pcg64 event.Retry) c.range.new.self c.range.new.self
    (retries pcg64 c.args.number c.args.sent c.args.self.now c.range.result c.range.ensures.word c.in-17.is) c.range.ensures.after refl

pub returns-in_default-clause-event : goal.returns-in_default-clause-event
returns-in_default-clause-event c =
    event_by pcg64 c.args.number c.args.sent c.args.self.now c.range.result c.range.ensures.word
    (delivers pcg64 c.args.sent) c.range.new.self c.deliver.result
    (is_delivery pcg64 c.args.number c.args.sent c.args.self.now c.range.result c.range.ensures.word (omega arith) c.range.ensures.below) c.range.ensures.after c.deliver.ensures.event

pub returns-in_default-clause-after : goal.returns-in_default-clause-after
returns-in_default-clause-after c =
    after_by pcg64 c.args.number c.args.sent c.args.self.now c.range.result c.range.ensures.word
    (delivers pcg64 c.args.sent) c.range.new.self c.deliver.new.self
    (is_delivery pcg64 c.args.number c.args.sent c.args.self.now c.range.result c.range.ensures.word (omega arith) c.range.ensures.below) c.range.ensures.after c.deliver.ensures.after
