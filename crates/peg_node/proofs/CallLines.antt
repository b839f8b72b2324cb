-- The lines of the controller are those of a schedule.
use Rattle.std.proofs.Common.{◌≡◌, ℕ, Option, Some, None, List, refl, ap, subst, ◌∙◌}
use Rattle.std.specs.Prelude.{Contains}
use Rattle.std.proofs.lemmas.Option.{none-some, same_Some}
use Rattle.peg_name.specs.Name.{Rack}
use Rattle.peg_event.specs.declared.Command.TheVariants as command
use Rattle.peg_event.specs.declared.Event.{Event}
use Rattle.peg_event.specs.declared.Event.TheVariants as event
use Rattle.peg_model.specs.Schedule.{IsEventLine, event_lines, EventInRack, EventInRange}
use Rattle.peg_meaning.specs.Roles.{Call, Orders, Retries, Surveys, Plans, call_event, IsCallLine}
use Rattle.peg_text.specs.declared.event.Entry.{Entry}
use Rattle.peg_text.specs.declared.event.Entry.TheVariants as entry
use Rattle.peg_node.specs.Calls.{call_by, entry_calls}

pub by_event : (e : Event) (c : Call) → call_by e ≡ Some c → e ≡ call_event c
by_event (event.Promote key) c is = ap (λ (k : Call). call_event k) (same_Some _ _ is)
by_event (event.Demote key) c is = ap (λ (k : Call). call_event k) (same_Some _ _ is)
by_event (event.Copy key target) c is = ap (λ (k : Call). call_event k) (same_Some _ _ is)
by_event (event.Fence key) c is = ap (λ (k : Call). call_event k) (same_Some _ _ is)
by_event (event.Handover target) c is = ap (λ (k : Call). call_event k) (same_Some _ _ is)
by_event event.Clear c is = ap (λ (k : Call). call_event k) (same_Some _ _ is)
by_event event.Retry c is = ap (λ (k : Call). call_event k) (same_Some _ _ is)
by_event event.Survey c is = ap (λ (k : Call). call_event k) (same_Some _ _ is)
by_event (event.Plan promote_at demote_below) c is =
    ap (λ (k : Call). call_event k) (same_Some _ _ is)
by_event (event.Read client key) c is = absurd (none-some _ is)
by_event (event.Write client key value) c is = absurd (none-some _ is)
by_event (event.Delete client key) c is = absurd (none-some _ is)
by_event (event.Resend client) c is = absurd (none-some _ is)
by_event (event.GiveUp client) c is = absurd (none-some _ is)
by_event (event.Deliver number pick) c is = absurd (none-some _ is)
by_event (event.Junk to bytes) c is = absurd (none-some _ is)

pub by_call : (c : Call) → call_by (call_event c) ≡ Some c
by_call (Orders (command.Promote key)) = refl
by_call (Orders (command.Demote key)) = refl
by_call (Orders (command.Copy key target)) = refl
by_call (Orders (command.Fence key)) = refl
by_call (Orders (command.Handover target)) = refl
by_call (Orders command.Clear) = refl
by_call Retries = refl
by_call Surveys = refl
by_call (Plans promote_at demote_below) = refl

in_any : (rack : Rack) (c : Call) → EventInRack rack (call_event c)
in_any rack (Orders (command.Promote key)) = tt
in_any rack (Orders (command.Demote key)) = tt
in_any rack (Orders (command.Copy key target)) = tt
in_any rack (Orders (command.Fence key)) = tt
in_any rack (Orders (command.Handover target)) = tt
in_any rack (Orders command.Clear) = tt
in_any rack Retries = tt
in_any rack Surveys = tt
in_any rack (Plans promote_at demote_below) = tt

module _ (rack : Rack) (line : List ℕ) where
  pub sound_call :
      (e : Event) (c : Call) → IsEventLine rack line e → call_by e ≡ Some c → IsCallLine line c
  sound_call e c is by =
      let same = by_event e c by in
      record {
        in_range = subst (λ (k : Event). EventInRange k) same is.in_range;
        spelled = subst (λ (k : Event). Contains (event_lines k) line) same is.spelled;
      }

  pub complete_call :
      (read : Option Entry)
      → ((e : Event) → IsEventLine rack line e → read ≡ Some (entry.Event e))
      → (c : Call) → IsCallLine line c → entry_calls read ≡ Some c
  complete_call read event c is =
      ap (λ (o : Option Entry). entry_calls o) (event (call_event c)
      (record { in_rack = in_any rack c; in_range = is.in_range; spelled = is.spelled }))
      ∙ by_call c
