-- What is gathered before it is written.
--     Moves text page page' before now      the text went onto the page, and what didn't fit was
--         written
--     Passes all text page page' held held'      the same of what a sink told; where all is false,
--         fewer than all bytes of the page and the text were written
use Rattle.std.specs.Prelude.{◌≡◌, ℕ, Bool, true, false, Option, List, ◌++◌}
use Rattle.peg_io.specs.Outside.{Tells, WritesSome}

-- some first part of the text was appended
abbrev pub AppendsPart : List ℕ → List ℕ → List ℕ → Type 0
AppendsPart text before now =
    (part : List ℕ) × (unwritten : List ℕ) × (text ≡ part ++ unwritten) × (now ≡ before ++ part)

-- the whole text was appended, and maybe more
abbrev pub AppendsMore : List ℕ → List ℕ → List ℕ → Type 0
AppendsMore text before now = (more : List ℕ) × (now ≡ before ++ (text ++ more))

abbrev pub Moves : List ℕ → List ℕ → List ℕ → List ℕ → List ℕ → Type 0
Moves text page page' before now =
    (written : List ℕ) × (page ++ text ≡ written ++ page') × (now ≡ before ++ written)

abbrev pub Passes :
    Bool → List ℕ → List ℕ → List ℕ → Option (List ℕ) → Option (List ℕ) → Type 0
Passes true text page page' held held' = Tells held held' (Moves text page page')
Passes false text page page' held held' = Tells held held' (WritesSome (page ++ text))
