-- How the session of `check` ended, as `run` says it.
use Rattle.std.proofs.Common.{◌≡◌, ℕ, Bool, true, false, Option, None, List, []}
use Rattle.std.proofs.Common.{refl, sym, subst}
use Rattle.std.proofs.Common.{◌∷◌, ◌++◌, length, ap, arith, codes, decimal, slice_index}
use Rattle.std.specs.Prelude.{◌==◌, ◌↔◌, if◌then◌else◌}
use Rattle.std.specs.List.{AllByRecursion}
use Rattle.peg_event.specs.declared.history.Op.{Op}
use Rattle.peg_event.specs.declared.history.Verdict.{Verdict}
use Rattle.peg_event.specs.declared.history.Verdict.TheVariants as verdict
use Rattle.peg_model.specs.Judge.{verdict_of, verdict_text}
use Rattle.peg_model.specs.Register.{IsRegisterHistory}
use Rattle.peg_model.specs.Schedule.{fed}
use Rattle.peg_io.specs.Outside.{Tells}
use Rattle.peg_io.proofs.Telling.{Tells_as}
use Rattle.peg_meaning.specs.Session as session
use Rattle.peg_meaning.specs.Session.{Inputs, Input, IsTaken, IsTurn, after}
use Rattle.peg_meaning.specs.Session.{state_of, text_of, entries_of, saying}
use Rattle.peg_meaning.specs.CheckWord.{CheckEntry, Checked, Checker, Stage, Skipping, Reading}
use Rattle.peg_meaning.specs.CheckWord.{Finished, judges, check_start, check_on, check_want}
use Rattle.peg_word_law.specs.Judged.{IsJudged, HasJudged}
use Rattle.peg_session.specs.Ends.{Told, told, Ended, MayEnd, IsRead, IsNear}
use Rattle.peg_session.specs.declared.End.{End}
use Rattle.peg_session.specs.declared.End.TheVariants as end
use Rattle.peg_session.proofs.Standings.{not_begun}
use Rattle.peg_run.proofs.Unwired as unwired
use Rattle.peg_run.specs.Status.{status_of}
use Rattle.peg_run.specs.Verdicts.{EndsAs, IsYes, IsVerdict}
use Rattle.peg_run.specs.declared.Status.TheVariants as status

-- there was no memory to begin
pub begins_not : (before : Told) → EndsAs judges check_start status.OutOfMemory before before
begins_not before = (end.OutOfMemory, refl, not_begun judges _ [] [] before)

-- ---- what was written

unlike : ◌≡◌ {A = ℕ} 110 121 → ⊥
unlike same = omega arith

says_yes : (v : Verdict) (operations keys : ℕ)
    → IsYes (fed (verdict_text v operations keys)) ↔ (v ≡ verdict.Yes)
says_yes verdict.Yes operations keys = (
  λ y. refl,
  λ is. (
    (decimal operations ++ codes " operations " ++ decimal keys ++ codes " keys") ++ 10 ∷ [],
    refl,
  ),
)
says_yes (verdict.No f) operations keys = (
  λ y. absurd (unlike (ap (λ t. slice_index t 0) y.1)),
  λ is. absurd (cc),
)

abbrev YesLaw : Type 0
YesLaw = (ops : List Op) (key_orders : List (List ℕ × List ℕ))
    → (verdict_of ops key_orders ≡ verdict.Yes)
    ↔ AllByRecursion (λ o. IsRegisterHistory ops o.0 o.1) key_orders

yes_in : (c : Checked) (text : List ℕ)
    → text
    ≡ fed (verdict_text (verdict_of c.ops c.key_orders) (length c.ops) (length c.key_orders))
    → YesLaw
    → IsYes text ↔ AllByRecursion (λ o. IsRegisterHistory c.ops o.0 o.1) c.key_orders
yes_in c text is law =
    let v = verdict_of c.ops c.key_orders in
    let line = says_yes v (length c.ops) (length c.key_orders) in
    let exactly = law c.ops c.key_orders in (
      λ y. exactly.0 (line.0 (subst IsYes is y)),
      λ all. subst IsYes (sym is) (line.1 (exactly.1 all)),
    )

judged_by :
    (stage : Stage) (entries : List CheckEntry) (text : List ℕ) → MayEnd (check_want stage)
    → HasJudged entries stage text → (c : Checked) × IsJudged entries c text
judged_by Skipping entries text over judged = let never : false ≡ true = over in absurd (cc)
judged_by (Reading c) entries text over judged = let never : false ≡ true = over in absurd (cc)
judged_by (Finished c) entries text over judged = (c, judged)

abbrev Law : Type 0
Law = (inputs : Inputs CheckEntry) → IsTaken judges check_start inputs
    → HasJudged (entries_of inputs) (state_of judges check_start inputs).stage
    (text_of judges check_start inputs)

module _ (l l' h h' : Option (List ℕ)) where
  pub verdict_of_done :
      Law → YesLaw → Ended judges check_start (told l h None 0) (told l' h' None 0) end.Done
      → IsVerdict l l' h h'
  verdict_of_done law exactly done =
      let inputs = done.inputs in
      let judged = judged_by (state_of judges check_start inputs).stage (entries_of inputs)
      (text_of judges check_start inputs) done.over (law inputs done.taken) in
      record {
        inputs = inputs;
        checked = judged.0;
        text = text_of judges check_start inputs;
        read = Tells_as l l' _ _ (λ b n r. (r.0, r.1, r.3)) done.read;
        judged = judged.1;
        yes = yes_in judged.0 _ judged.1.written exactly;
        written = done.written;
      }

-- ---- nothing is bound, and no turn is taken

no_turn : (stage : Stage) → IsTurn (check_want stage) → ⊥
no_turn Skipping turn = turn
no_turn (Reading c) turn = turn
no_turn (Finished c) turn = turn

line_unbound :
    (b : Bool) (s s' : Checker) (text : List ℕ)
    → (after s (if b then session.Past else session.Goes (saying s' text))).binds ≡ []
line_unbound true s s' text = refl
line_unbound false s s' text = refl

step_unbound : (s : Checker) (x : Input CheckEntry) → (after s (check_on s x)).binds ≡ []
step_unbound s (session.Entry e) = line_unbound (s.lines == 2000000) s _ _
step_unbound s (session.Datagram bytes) = refl
step_unbound s session.Quiet = refl
step_unbound s session.Tick = refl

pub no_wire_fault :
    (before now : Told) (e : End) → Ended judges check_start before now e
    → status_of e ≡ status.WireFault → ⊥
no_wire_fault =
    unwired.no_wire_fault judges check_start (λ s. no_turn s.stage) step_unbound refl

pub no_usage : (e : End) → status_of e ≡ status.Usage → ⊥
no_usage end.Done is = cc
no_usage end.OutOfMemory is = cc
no_usage end.ReadFault is = cc
no_usage end.WriteFault is = cc
no_usage end.WireFault is = cc
no_usage (end.BadInput line) is = cc
no_usage (end.TooMuch line) is = cc

pub done_by : (e : End) → status_of e ≡ status.Done → e ≡ end.Done
done_by end.Done is = refl
done_by end.OutOfMemory is = cc
done_by end.ReadFault is = cc
done_by end.WriteFault is = cc
done_by end.WireFault is = cc
done_by (end.BadInput line) is = cc
done_by (end.TooMuch line) is = cc
