-- What a session's methods do.
--     WantFits want ports      what is wanted can be had
--     Took m s x stepped ..      what was made of an input
--     TookLine m s line stepped ..      the same of a line
--     MayTake want taken      this is what is wanted
--     Takes m s taken stepped ..      what was made of what was taken
--     Hands taken x      what was taken is this input, and no line
use Rattle.std.specs.Prelude.{◌≡◌, ◌≤◌, ◌<◌, ℕ, true, false, Option, List, length}
use Rattle.peg_meaning.specs.Session.{Meaning, Letter, Came, Goes, Past, Input, Entry, IsOnly}
use Rattle.peg_meaning.specs.Session.{Datagram, Quiet, Tick, IsLineOf, IsTurn, IsTurnOf, IsStep}
use Rattle.peg_session.specs.declared.Taken.{Taken}
use Rattle.peg_session.specs.declared.Taken.TheVariants as kind
use Rattle.peg_session.specs.Pages.{Passes}
use Rattle.peg_meaning.specs.declared.Want.{Want}
use Rattle.peg_meaning.specs.declared.Want.TheVariants as want
use Rattle.peg_session.specs.declared.Stepped.{Stepped}
use Rattle.peg_session.specs.declared.Stepped.TheVariants as stepped

abbrev pub WantFits : Want → ℕ → Type 0
WantFits (want.Line limit optional) ports = limit ≤ 4096
WantFits (want.Turn slot room) ports = (slot < ports) × (1 ≤ room) × (room ≤ 1153)
WantFits want.Step ports = Unit {0}
WantFits want.Over ports = Unit {0}

-- the step was made
pub record DidGo {S E : Type 0} (m : Meaning S E) (s : S) (x : Input E) (s' : S)
    (binds : List ℕ) (letters : List Letter) (page page' : List ℕ)
    (held held' : Option (List ℕ)) : Type 0 where
  pub text : List ℕ
  pub is : m.on s x ≡ Goes (record { state = s'; text = text; binds = binds; letters = letters })
  pub over : Passes true text page page' held held'

-- the sink failed while the text was written
pub record WasCut {S E : Type 0} (m : Meaning S E) (s : S) (x : Input E) (page page' : List ℕ)
    (held held' : Option (List ℕ)) : Type 0 where
  pub came : Came S
  pub is : m.on s x ≡ Goes came
  pub over : Passes false came.text page page' held held'

-- nothing was written
pub record Kept (page page' : List ℕ) (held held' : Option (List ℕ)) : Type 0 where
  pub same_page : page' ≡ page
  pub same_held : held' ≡ held

abbrev pub Took :
    {S E : Type 0} → Meaning S E → S → Input E → Stepped → S → List ℕ → List Letter → List ℕ
    → List ℕ → Option (List ℕ) → Option (List ℕ) → Type 0
Took m s x stepped.Goes s' binds letters page page' held held' =
    DidGo m s x s' binds letters page page' held held'
Took m s x stepped.Refused s' binds letters page page' held held' = ⊥
Took m s x stepped.Past s' binds letters page page' held held' =
    (m.on s x ≡ Past) × Kept page page' held held'
Took m s x stepped.OutOfMemory s' binds letters page page' held held' =
    Kept page page' held held'
Took m s x stepped.Unwritten s' binds letters page page' held held' =
    WasCut m s x page page' held held'

abbrev pub TookLine :
    {S E : Type 0} → Meaning S E → S → List ℕ → Stepped → S → List ℕ → List Letter → List ℕ
    → List ℕ → Option (List ℕ) → Option (List ℕ) → Type 0
TookLine {S} {E} m s line stepped.Goes s' binds letters page page' held held' =
    (e : E) × IsOnly m s line e
    × Took m s (Entry e) stepped.Goes s' binds letters page page' held held'
TookLine {S} {E} m s line stepped.Refused s' binds letters page page' held held' =
    ((e : E) → m.Reads s line e → ⊥) × Kept page page' held held'
TookLine {S} {E} m s line stepped.Past s' binds letters page page' held held' =
    (e : E) × IsOnly m s line e
    × Took m s (Entry e) stepped.Past s' binds letters page page' held held'
TookLine {S} {E} m s line stepped.OutOfMemory s' binds letters page page' held held' =
    Kept page page' held held'
TookLine {S} {E} m s line stepped.Unwritten s' binds letters page page' held held' =
    (e : E) × IsOnly m s line e
    × Took m s (Entry e) stepped.Unwritten s' binds letters page page' held held'

-- ---- whatever was taken

abbrev pub MayTake : Want → Taken → Type 0
MayTake w (kind.Line line) = IsLineOf w (length line.now)
MayTake w (kind.Datagram bytes) = IsTurnOf w (length bytes.now)
MayTake w kind.Pause = IsTurn w
MayTake w kind.Step = IsStep w

abbrev pub Takes :
    {S E : Type 0} → Meaning S E → S → Taken → Stepped → S → List ℕ → List Letter → List ℕ
    → List ℕ → Option (List ℕ) → Option (List ℕ) → Type 0
Takes m s (kind.Line line) stepped s' binds letters page page' held held' =
    TookLine m s line.now stepped s' binds letters page page' held held'
Takes m s (kind.Datagram bytes) stepped s' binds letters page page' held held' =
    Took m s (Datagram bytes.now) stepped s' binds letters page page' held held'
Takes m s kind.Pause stepped s' binds letters page page' held held' =
    Took m s Quiet stepped s' binds letters page page' held held'
Takes m s kind.Step stepped s' binds letters page page' held held' =
    Took m s Tick stepped s' binds letters page page' held held'

abbrev pub Hands : {E : Type 0} → Taken → Input E → Type 0
Hands (kind.Line line) x = ⊥
Hands (kind.Datagram bytes) x = x ≡ Datagram bytes.now
Hands kind.Pause x = x ≡ Quiet
Hands kind.Step x = x ≡ Tick
