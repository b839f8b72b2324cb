-- Which outcomes each function prints, and the end of an operation's line.
--     IsOwnDid did      a switch passed no packet on
--     IsControlSaid said      the controller says it
--     end_text answered      when it was answered, and without what a read was given
--     rest_text op      all behind the client
use Rattle.std.specs.Prelude.{ℕ, Option, Some, None, List, ◌++◌, codes, decimal}
use Rattle.peg_event.specs.declared.history.Op.{Op}
use Rattle.peg_event.specs.declared.SwitchDid.{SwitchDid}
use Rattle.peg_event.specs.declared.SwitchDid.TheVariants as switch_did
use Rattle.peg_event.specs.declared.Said.{Said}
use Rattle.peg_event.specs.declared.Said.TheVariants as said
use Rattle.peg_model.specs.Trace.{act_text, answered_text}

abbrev pub end_text : Option ℕ → List ℕ
end_text None = codes " open"
end_text (Some at) = codes " answered " ++ decimal at

abbrev pub rest_text : Op → List ℕ
rest_text op =
    act_text op.act op ++ codes " issued " ++ decimal op.issued ++ answered_text op.answered op

abbrev pub IsOwnDid : SwitchDid → Type 0
IsOwnDid (switch_did.Read server key) = ⊥
IsOwnDid (switch_did.Wrote server key version) = ⊥
IsOwnDid (switch_did.Answered client seq version note) = ⊥
IsOwnDid (switch_did.Noted server version note) = ⊥
IsOwnDid (switch_did.Voided client seq version) = ⊥
IsOwnDid (switch_did.VoidSkipped client seq) = ⊥
IsOwnDid _ = Unit {0}

abbrev pub IsControlSaid : Said → Type 0
IsControlSaid (said.Controller did) = Unit {0}
IsControlSaid (said.Orders number command) = Unit {0}
IsControlSaid (said.ControlBusy pending) = Unit {0}
IsControlSaid (said.ControlSpent last) = Unit {0}
IsControlSaid (said.NoSuch target) = Unit {0}
IsControlSaid (said.SameSwitch switch) = Unit {0}
IsControlSaid (said.Retries number) = Unit {0}
IsControlSaid (said.Announces epoch) = Unit {0}
IsControlSaid said.Surveys = Unit {0}
IsControlSaid (said.Plans demotes promotes) = Unit {0}
IsControlSaid said.NoReport = Unit {0}
IsControlSaid _ = ⊥
