-- How a made workload ended, as `run` says it.
use Rattle.std.proofs.Common.{◌≡◌, ℕ, Option, Some, List, refl, sym, subst, ◌∙◌}
use Rattle.peg_session.specs.declared.End.{End}
use Rattle.peg_session.specs.declared.End.TheVariants as end
use Rattle.peg_words.specs.declared.Job.{Job}
use Rattle.peg_words.specs.declared.Job.TheVariants as job
use Rattle.peg_soak.specs.Soaked.{Ended}
use Rattle.peg_run.specs.Status.{status_of}
use Rattle.peg_run.specs.Soaks.{Soaks}
use Rattle.peg_run.specs.declared.Status.{Status}
use Rattle.peg_run.specs.declared.Status.TheVariants as status

pub soaks_by :
    (events number : ℕ) (e : End) (held held' : Option (List ℕ)) → Ended events number e held held'
    → Soaks events number (status_of e) held held'
soaks_by events number end.Done held held' ended = ended
soaks_by events number end.OutOfMemory held held' ended = ended.1
soaks_by events number end.ReadFault held held' ended = absurd ended.0
soaks_by events number end.WriteFault held held' ended = ended
soaks_by events number end.WireFault held held' ended = absurd ended.0
soaks_by events number (end.BadInput line) held held' ended = absurd ended.0
soaks_by events number (end.TooMuch line) held held' ended = ended

pub write_fault_by : (e : End) → status_of e ≡ status.WriteFault → e ≡ end.WriteFault
write_fault_by end.WriteFault is = refl
write_fault_by end.Done is = cc
write_fault_by end.OutOfMemory is = cc
write_fault_by end.ReadFault is = cc
write_fault_by end.WireFault is = cc
write_fault_by (end.BadInput line) is = cc
write_fault_by (end.TooMuch line) is = cc

-- the job has these numbers and no others
pub soaks_as :
    (events number n s : ℕ) (o : Option Job) (is : Status) (held held' : Option (List ℕ))
    → o ≡ Some (job.Soak events number) → Soaks events number is held held'
    → o ≡ Some (job.Soak n s) → Soaks n s is held held'
soaks_as events number n s o is held held' one soaks other =
    let both : Some (job.Soak events number) ≡ Some (job.Soak n s) = sym one ∙ other in
    let same_events : events ≡ n = cc in
    let same_number : number ≡ s = cc in
    subst (λ k. Soaks n k is held held') same_number
    (subst (λ k. Soaks k number is held held') same_events soaks)
