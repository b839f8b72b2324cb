-- The operations of a run as they are kept: the history, the name of each operation and its tag.
--     Kept      the operations, for how many more there is memory, and for how many more bytes of
--         contents
--     operations_of ops names tags      the operations that they are
--     AreOf ops names tags      they are of the same operations, and no two have one name
--     IsOpen client seq place operations      the operations of that name have no answer, and were
--         issued before this place
--     IsFresh client issue operations      no operation has the number that was sent
use Rattle.std.specs.Prelude.{ℕ, ◌≡◌, ◌<◌, Bool, true, false, ◌&&◌, ◌==◌, None, List, []}
use Rattle.std.specs.Prelude.{◌∷◌, ◌≤◌, length}
use Rattle.std.specs.List.{AllByRecursion, IsDistinct, list_any}
use Rattle.peg_event.specs.declared.history.Op.{Op}
use Rattle.peg_event.specs.declared.answers.Issue.{Issue}
use Rattle.peg_event.specs.declared.answers.Issue.TheVariants as issue
use Rattle.peg_model.specs.World.{Operation, is_named}
use Rattle.peg_ledger.specs.declared.operations.Name.{Name}

pub record Kept : Type 0 where
  pub operations : List Operation
  pub spare : ℕ
  pub room : ℕ

abbrev pub operations_of : List Op → List Name → List ℕ → List Operation
operations_of (op ∷ ops) (name ∷ names) (tag ∷ tags) =
    record { op = op; seq = name.seq; tag = tag } ∷ operations_of ops names tags
operations_of _ _ _ = []

abbrev pub are_named : List Op → List Name → Bool
are_named [] [] = true
are_named (op ∷ ops) (name ∷ names) = op.client == name.client && are_named ops names
are_named _ _ = false

-- whether a name is this one
abbrev pub is_name : ℕ → ℕ → Name → Bool
is_name client seq name = client == name.client && seq == name.seq

abbrev pub same_name : Name → Name → Bool
same_name a b = is_name a.client a.seq b

-- the history, the names and the tags are of the same operations
pub record AreOf (ops : List Op) (names : List Name) (tags : List ℕ) : Type 0 where
  pub named : are_named ops names ≡ true
  pub tagged : length tags ≡ length ops
  pub distinct : IsDistinct same_name names
  pub few : length ops ≤ 4000000000

abbrev pub IsOpen : ℕ → ℕ → ℕ → List Operation → Type 0
IsOpen client seq place operations =
    AllByRecursion
    (λ o. is_named client seq o ≡ true → (o.op.answered ≡ None) × (o.op.issued < place))
    operations

-- no operation has the number that was sent
abbrev pub IsFresh : ℕ → Issue → List Operation → Type 0
IsFresh client (issue.Sent seq) operations =
    list_any (is_named client seq) operations ≡ false
IsFresh client _ operations = Unit {0}
