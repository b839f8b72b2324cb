use Rattle.std.proofs.Common.{◌++◌, codes, decimal}
use Rattle.peg_model.specs.Trace.{said_text, control_text, command_text}
use Rattle.peg_text.proofs.Appends.{then_text}
use Rattle.peg_text.proofs.print.push_control_said.Goals as goal

pub returns-in-ControlBusy-clause-text : goal.returns-in-ControlBusy-clause-text
unfolding said_text
returns-in-ControlBusy-clause-text c =
    rw c.in-ControlBusy.is c.push_word_number-in-ControlBusy.ensures.text

pub returns-in-ControlSpent-clause-text : goal.returns-in-ControlSpent-clause-text
unfolding said_text
returns-in-ControlSpent-clause-text c =
    rw c.in-ControlSpent.is c.push_word_number-in-ControlSpent.ensures.text

pub returns-in-NoSuch-clause-text : goal.returns-in-NoSuch-clause-text
unfolding said_text
returns-in-NoSuch-clause-text c =
    rw (c.in-NoSuch.is, ← c.from.ensures) c.push_word_number-in-NoSuch.ensures.text

pub returns-in-SameSwitch-clause-text : goal.returns-in-SameSwitch-clause-text
unfolding said_text
returns-in-SameSwitch-clause-text c = rw c.in-SameSwitch.is c.push_switch.ensures.text

pub returns-in-Retries-clause-text : goal.returns-in-Retries-clause-text
unfolding said_text
returns-in-Retries-clause-text c = rw c.in-Retries.is c.push_word_number-in-Retries.ensures.text

pub returns-in-Announces-clause-text : goal.returns-in-Announces-clause-text
unfolding said_text
returns-in-Announces-clause-text c =
    rw c.in-Announces.is c.push_word_number-in-Announces.ensures.text

pub returns-in-Surveys-clause-text : goal.returns-in-Surveys-clause-text
unfolding said_text
returns-in-Surveys-clause-text c = rw c.in-Surveys.is c.push_bytes-in-Surveys.ensures.text

pub returns-in-NoReport-clause-text : goal.returns-in-NoReport-clause-text
unfolding said_text
returns-in-NoReport-clause-text c = rw c.in-NoReport.is c.push_bytes-in-NoReport.ensures.text

pub returns-in-Controller-clause-text : goal.returns-in-Controller-clause-text
unfolding said_text
returns-in-Controller-clause-text c =
    rw c.in-Controller.is
    (then_text _ _ _ (codes "controller ") (control_text c.in-Controller.did)
    c.push_bytes.ensures.text c.push_control_did.ensures.text)

pub returns-in-Orders-clause-text : goal.returns-in-Orders-clause-text
unfolding said_text
returns-in-Orders-clause-text c =
    let front = codes "controller orders " ++ decimal c.in-Orders.number in
    rw c.in-Orders.is (
    then_text c.args.out.now c.push_bytes-in-Orders.new.self _ (front ++ codes " ")
    (command_text c.in-Orders.command)
    (then_text c.args.out.now c.push_word_number.new.self _ front (codes " ")
    c.push_word_number.ensures.text c.push_bytes-in-Orders.ensures.text)
    c.push_command.ensures.text
    )

pub returns-in-Plans-clause-text : goal.returns-in-Plans-clause-text
unfolding said_text
returns-in-Plans-clause-text c =
    let front =
    codes "controller plans " ++ decimal c.in-Plans.demotes ++ codes " demote "
    ++ decimal c.in-Plans.promotes in
    rw c.in-Plans.is
    (then_text c.args.out.now c.push_numbers.new.self _ front (codes " promote")
    c.push_numbers.ensures.text c.push_bytes-in-Plans.ensures.text)
