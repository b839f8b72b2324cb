-- One register: operations, legal lists, and lists that keep time. Nothing here knows of versions
-- or packets.
use Rattle.std.specs.Prelude.{◌≡◌, ℕ, ◌<◌, ◌≤◌, ◌⊎◌, ◌==◌, List, [], ◌∷◌, Option, Some, None, All}
use Rattle.std.specs.Prelude.{Contains, IsSome, ◌+◌, if◌then◌else◌}
use Rattle.std.specs.List.{AllByRecursion}
use Rattle.peg_protocol.specs.Machine.{Act, Reads, Writes}

pub record Operation : Type 0 where
  pub name : ℕ  -- its place in the history
  pub client : ℕ
  pub key : ℕ
  pub act : Act
  pub issue : ℕ
  pub answer : Option ℕ  -- the place of the answer
  pub content : Option ℕ  -- what an answered read was given; None is absent

-- each read has the content of the last write before it
abbrev pub LegalStep : Act → Option ℕ → Option ℕ → Type 0
LegalStep Reads last content = content ≡ last
LegalStep (Writes x) last content = Unit {0}

abbrev pub last_after : Act → Option ℕ → Option ℕ
last_after Reads last = last
last_after (Writes x) last = x

abbrev pub LegalFrom : Option ℕ → List Operation → Type 0
LegalFrom last [] = Unit {0}
LegalFrom last (o ∷ os) = LegalStep o.act last o.content × LegalFrom (last_after o.act last) os

abbrev pub Legal : List Operation → Type 0
Legal os = LegalFrom None os

abbrev pub AnsweredBefore : Option ℕ → ℕ → Type 0
AnsweredBefore None place = ⊥
AnsweredBefore (Some p) place = p < place

-- no operation was answered before the issue of one that stands earlier
abbrev pub KeepsTime : List Operation → Type 0
KeepsTime [] = Unit {0}
KeepsTime (o ∷ os) = AllByRecursion (λ p. AnsweredBefore p.answer o.issue → ⊥) os × KeepsTime os

abbrev pub IsWriteAct : Act → Type 0
IsWriteAct Reads = ⊥
IsWriteAct (Writes x) = Unit {0}

abbrev pub times : ℕ → List Operation → ℕ
times name [] = 0
times name (o ∷ os) = (if o.name == name then 1 else 0) + times name os

pub record IsRegisterHistory (key : ℕ) (history order : List Operation) : Type 0 where
  -- each answered operation of the key once
  pub answered : All (λ o. o.key ≡ key → IsSome o.answer → times o.name order ≡ 1) history
  -- besides only unanswered writes of the key, each at most once
  pub only : All (λ o. Contains history o × (o.key ≡ key) × (IsSome o.answer ⊎ IsWriteAct o.act))
      order
  pub once : (name : ℕ) → times name order ≤ 1
  pub legal : Legal order
  pub time : KeepsTime order
