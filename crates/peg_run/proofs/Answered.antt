-- What each status says, of how the replay ended.
use Rattle.std.proofs.Common.{◌≡◌, ◌⊎◌, ℕ, Option, Some, None, List, refl, subst, inl, inr}
use Rattle.peg_model.specs.Trace.{RunText, replay_text}
use Rattle.peg_io.specs.Outside.{Tells, WritesSome, Rose}
use Rattle.peg_session.specs.Pages.{AppendsPart}
use Rattle.peg_run.specs.Front.{HasSchedule}
use Rattle.peg_session.specs.Alike.{WhereTold}
use Rattle.peg_run.specs.Ends.{IsDone, IsCut, IsUnread, IsAhead, Ended, HasCause}
use Rattle.peg_run.specs.declared.Status.{Status}
use Rattle.peg_run.specs.declared.Status.TheVariants as status
use Rattle.peg_io.proofs.Telling.{Tells_as}
use Rattle.peg_run.proofs.Fronts.{schedule_of}

module _ (left left' held held' : Option (List ℕ)) where
  pub ended_as :
      (s t : Status) → s ≡ t → Ended s left left' held held' → Ended t left left' held held'
  ended_as s t e ended = subst (λ (r : Status). Ended r left left' held held') e ended

  pub ahead_of : (s : Status) → Ended s left left' held held' → IsAhead s left left' held held'
  ahead_of status.Done ended = ended.1
  ahead_of status.OutOfMemory ended = tt
  ahead_of status.Usage ended = tt
  ahead_of status.ReadFault ended = tt
  ahead_of status.WriteFault ended = ended.1
  ahead_of status.WireFault ended = tt
  ahead_of (status.BadInput line) ended = ended.1
  ahead_of (status.TooMuch line) ended = ended.1

-- the appended text, where all is told
pub done_text :
    (left left' held held' : Option (List ℕ)) → IsDone left left' held held'
    → WhereTold left left' held held' RunText
done_text (Some input) (Some rest) (Some before) (Some after) done = (
  replay_text done.rack done.keys done.events,
  done.written,
  (
    done.rack,
    done.keys,
    done.events,
    schedule_of done.rack done.keys done.events input done.read.0 done.read.1 done.read.2,
    refl,
  ),
)
done_text (Some input) (Some rest) (Some before) None done = tt
done_text (Some input) (Some rest) None held' done = tt
done_text (Some input) None held held' done = tt
done_text None left' held held' done = tt

-- a source that doesn't tell before a call doesn't tell after it

abbrev Whatever : List ℕ → List ℕ → Type 0
Whatever input rest = Unit {0}

done_tells :
    (left left' held held' : Option (List ℕ)) → IsDone left left' held held'
    → Tells left left' Whatever
done_tells left None held held' done = tt
done_tells None (Some rest) held held' done = absurd done.read
done_tells (Some input) (Some rest) held held' done = tt

cut_tells :
    (W : List ℕ → List ℕ → List ℕ → Type 0) (left left' held held' : Option (List ℕ))
    → IsCut W left left' held held' → Tells left left' Whatever
cut_tells W left None held held' cut = tt
cut_tells W None (Some rest) held held' cut = absurd cut.read
cut_tells W (Some input) (Some rest) held held' cut = tt

unread_tells :
    (left left' held held' : Option (List ℕ)) → IsUnread left left' held held'
    → Tells left left' Whatever
unread_tells left None held held' unread = tt
unread_tells None (Some rest) held held' unread = absurd unread.read
unread_tells (Some input) (Some rest) held held' unread = tt

-- a schedule within the limits ends with no other status, where nothing fails
abbrev pub IsComplete : Status → ℕ → ℕ → ℕ → ℕ → List ℕ → List ℕ → Type 0
IsComplete s reads reads' writes writes' input rest =
    HasSchedule input → (Rose reads reads' → ⊥) → (Rose writes writes' → ⊥)
    → (s ≡ status.Done) ⊎ (s ≡ status.OutOfMemory)

pub complete_of :
    (left left' held held' : Option (List ℕ)) (s : Status) (reads reads' writes writes' : ℕ)
    → Ended s left left' held held' → HasCause s reads reads' writes writes'
    → Tells left left' (IsComplete s reads reads' writes writes')
complete_of left left' held held' status.Done reads reads' writes writes' ended cause =
    Tells_as left left' Whatever (IsComplete status.Done reads reads' writes writes')
    (λ b n _ has r w. inl refl) (done_tells left left' held held' ended.0)
complete_of left left' held held' status.OutOfMemory reads reads' writes writes' ended cause =
    Tells_as left left' Whatever (IsComplete status.OutOfMemory reads reads' writes writes')
    (λ b n _ has r w. inr refl) (cut_tells AppendsPart left left' held held' ended)
complete_of left left' held held' status.Usage reads reads' writes writes' ended cause =
    absurd ended
complete_of left left' held held' status.ReadFault reads reads' writes writes' ended cause =
    Tells_as left left' Whatever (IsComplete status.ReadFault reads reads' writes writes')
    (λ b n _ has r w. absurd (r cause)) (unread_tells left left' held held' ended)
complete_of left left' held held' status.WriteFault reads reads' writes writes' ended cause =
    Tells_as left left' Whatever (IsComplete status.WriteFault reads reads' writes writes')
    (λ b n _ has r w. absurd (w cause)) (cut_tells WritesSome left left' held held' ended.0)
complete_of left left' held held' status.WireFault reads reads' writes writes' ended cause =
    absurd ended
complete_of left left' held held' (status.BadInput line) reads reads' writes writes' ended cause =
    Tells_as left left' (λ input rest. HasSchedule input → ⊥)
    (IsComplete (status.BadInput line) reads reads' writes writes')
    (λ b n none has r w. absurd (none has)) ended.2
complete_of left left' held held' (status.TooMuch line) reads reads' writes writes' ended cause =
    Tells_as left left' (λ input rest. HasSchedule input → ⊥)
    (IsComplete (status.TooMuch line) reads reads' writes writes')
    (λ b n none has r w. absurd (none has)) ended.2

-- ---- no other answers

pub no_usage :
    (left left' held held' : Option (List ℕ)) (s : Status) → Ended s left left' held held'
    → s ≡ status.Usage → ⊥
no_usage left left' held held' s ended e = ended_as left left' held held' s status.Usage e ended

pub no_wire :
    (left left' held held' : Option (List ℕ)) (s : Status) → Ended s left left' held held'
    → s ≡ status.WireFault → ⊥
no_wire left left' held held' s ended e = ended_as left left' held held' s status.WireFault e ended

pub cause_as :
    (s t : Status) (reads reads' writes writes' : ℕ) → s ≡ t
    → HasCause s reads reads' writes writes' → HasCause t reads reads' writes writes'
cause_as s t reads reads' writes writes' e cause =
    subst (λ (r : Status). HasCause r reads reads' writes writes') e cause

-- done, with the text of the run
pub text_told :
    (left left' held held' : Option (List ℕ)) (s : Status) → Ended s left left' held held'
    → s ≡ status.Done → WhereTold left left' held held' RunText
text_told left left' held held' s ended e =
    done_text left left' held held' (ended_as left left' held held' s status.Done e ended).0
