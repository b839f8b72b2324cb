-- What is written of a summary.
use Rattle.std.proofs.Common.{◌≡◌, ◌∙◌, ℕ, List, Option, ap, refl, subst}
use Rattle.peg_model.specs.World.{World}
use Rattle.peg_meaning.specs.Workload.{summary_text, soak_text, soak_world}
use Rattle.peg_io.specs.Outside.{Tells, Appends, WritesSome}
use Rattle.peg_session.specs.declared.End.{End}
use Rattle.peg_session.specs.declared.End.TheVariants as end
use Rattle.peg_soak.specs.Soaked.{SaysYes, Stopped, IsDone, Ended}

module _ (events number : ℕ) (w : World) (bytes : List ℕ) (held held' : Option (List ℕ))
    (played : w ≡ soak_world events number) (text : bytes ≡ summary_text events w) where
  is_text : bytes ≡ soak_text events number
  is_text = text ∙ ap (summary_text events) played

  pub done_by : SaysYes events w → Tells held held' (Appends bytes) → IsDone events number held held'
  done_by says written =
      record {
        written = subst (λ b. Tells held held' (Appends b)) is_text written;
        yes = subst (SaysYes events) played says;
      }

  pub cut_by : Tells held held' (WritesSome bytes)
      → Tells held held' (WritesSome (soak_text events number))
  cut_by written = subst (λ b. Tells held held' (WritesSome b)) is_text written

-- why a run was not played to its end is all that holds then
pub stopped_as :
    (events number : ℕ) (e : End) (held : Option (List ℕ)) → Stopped events number e
    → Ended events number e held held
stopped_as events number end.Done held why = absurd why
stopped_as events number end.OutOfMemory held why = (tt, refl)
stopped_as events number end.ReadFault held why = absurd why
stopped_as events number end.WriteFault held why = absurd why
stopped_as events number end.WireFault held why = absurd why
stopped_as events number (end.BadInput line) held why = absurd why
stopped_as events number (end.TooMuch line) held why = (why, refl)

pub stopped_before :
    (events number : ℕ) (e : End) → Stopped events number e → e ≡ end.WriteFault → ⊥
stopped_before events number end.Done why is = why
stopped_before events number end.OutOfMemory why is = cc
stopped_before events number end.ReadFault why is = why
stopped_before events number end.WriteFault why is = why
stopped_before events number end.WireFault why is = why
stopped_before events number (end.BadInput line) why is = why
stopped_before events number (end.TooMuch line) why is = cc
