-- What holds where a word that is a session ends with a status, and what `check` has then written.
--     EndsAs m start status before now      the session ended as the status says
--     IsYes text      a verdict that says yes
--     IsVerdict left left' held held'      the lines that were read are a history with the orders of
--         its keys, and the verdict on these was appended: it says yes exactly where each order is a
--         register history of its key
use Rattle.std.specs.Prelude.{◌≡◌, ◌↔◌, Option, List, ℕ, ◌++◌, codes}
use Rattle.std.specs.List.{AllByRecursion}
use Rattle.peg_model.specs.Register.{IsRegisterHistory}
use Rattle.peg_io.specs.Outside.{Tells, Appends}
use Rattle.peg_meaning.specs.Session.{Meaning, Came, Inputs, entries_of}
use Rattle.peg_meaning.specs.CheckWord.{CheckEntry, Checked, judges, check_start}
use Rattle.peg_word_law.specs.Judged.{IsJudged}
use Rattle.peg_session.specs.Ends.{Told, Ended, IsRead, IsNear}
use Rattle.peg_session.specs.declared.End.{End}
use Rattle.peg_run.specs.Status.{status_of}
use Rattle.peg_run.specs.declared.Status.{Status}

abbrev pub EndsAs : {S E : Type 0} → Meaning S E → Came S → Status → Told → Told → Type 0
EndsAs m start status before now =
    (end : End) × (status ≡ status_of end) × Ended m start before now end

abbrev pub IsYes : List ℕ → Type 0
IsYes text = (counts : List ℕ) × (text ≡ codes "yes " ++ counts)

pub record IsVerdict (left left' held held' : Option (List ℕ)) : Type 0 where
  pub inputs : Inputs CheckEntry
  pub checked : Checked
  pub text : List ℕ
  pub read : Tells left left'
      (λ input rest. (tail : List ℕ) × IsRead judges check_start inputs input tail
      × IsNear tail rest)
  pub judged : IsJudged (entries_of inputs) checked text
  pub yes :
      IsYes text
      ↔ AllByRecursion (λ o. IsRegisterHistory checked.ops o.0 o.1) checked.key_orders
  pub written : Tells held held' (Appends text)
