-- A session that takes no turn and binds no port ends with no fault of the wire.
use Rattle.std.proofs.Common.{◌≡◌, ◌≢◌, ◌⊎◌, List, [], inl, inr}
use Rattle.peg_io.specs.Outside.{Tells}
use Rattle.peg_meaning.specs.Session.{Meaning, Came, Input, Inputs, Begin, More, IsTurn, after}
use Rattle.peg_meaning.specs.Session.{came_of, state_of, heard_of}
use Rattle.peg_session.specs.Ends.{Told, Ended, IsCarried, BindsSome}
use Rattle.peg_session.specs.declared.End.{End}
use Rattle.peg_session.specs.declared.End.TheVariants as end
use Rattle.peg_run.specs.Status.{status_of}
use Rattle.peg_run.specs.declared.Status.TheVariants as status

abbrev pub TakesNoTurn : {S E : Type 0} → Meaning S E → Type 0
TakesNoTurn {S} m = (s : S) → IsTurn (m.want s) → ⊥

abbrev pub BindsNone : {S E : Type 0} → Meaning S E → Type 0
BindsNone {S} {E} m = (s : S) (x : Input E) → (after s (m.on s x)).binds ≡ []

module _ {S E : Type 0} (m : Meaning S E) (start : Came S) (no_turn : TakesNoTurn m)
    (none : BindsNone m) (at_first : start.binds ≡ []) where
  unbound : (inputs : Inputs E) → (came_of m start inputs).binds ≡ []
  unbound Begin = at_first
  unbound (More inputs x) = none (state_of m start inputs) x

  pub unheard : (before now : Told) → Ended m start before now end.WireFault → ⊥
  unheard before now fault = by_cases fault.carried
    where
      by_cases :
          (IsTurn (m.want (state_of m start fault.inputs))
          × IsCarried m start before now fault.inputs)
          ⊎ (((came_of m start fault.inputs).binds ≢ [])
          × Tells before.carried now.carried
          (λ c n. BindsSome (came_of m start fault.inputs).binds
          (heard_of m start before.slots c fault.inputs) n))
          → ⊥
      by_cases (inl turn) = no_turn (state_of m start fault.inputs) turn.0
      by_cases (inr some) = some.0 (unbound fault.inputs)

  pub no_wire_fault :
      (before now : Told) (e : End) → Ended m start before now e
      → status_of e ≡ status.WireFault → ⊥
  no_wire_fault before now end.Done ended is = cc
  no_wire_fault before now end.OutOfMemory ended is = cc
  no_wire_fault before now end.ReadFault ended is = cc
  no_wire_fault before now end.WriteFault ended is = cc
  no_wire_fault before now end.WireFault ended is = unheard before now ended
  no_wire_fault before now (end.BadInput line) ended is = cc
  no_wire_fault before now (end.TooMuch line) ended is = cc
