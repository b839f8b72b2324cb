-- What the parser of command lines is told.
--     is_dashed word      a hyphen stands first
--     parser      a parser of no arguments
--     parser_of count      a parser of so many
use Rattle.std.specs.Prelude.{ℕ, Bool, true, false, List, [], ◌∷◌, ◌==◌, codes, Some, if◌then◌else◌}
use Rattle.clap.specs.Walk.{Rule}
use Rattle.clap.specs.Simple.{App, on_top, new_app, new_rule, with_rule}

-- a hyphen (45) stands first
abbrev pub is_dashed : List ℕ → Bool
is_dashed [] = false
is_dashed (x ∷ xs) = x == 45

-- it has no help and no name of the program among its words
abbrev pub parser : App
parser =
    on_top (λ s. record s { no_binary_name = true; disable_help_flag = true })
    (new_app (codes "peg"))

-- one argument that is required, of so many values
abbrev pub values : ℕ → Rule
values count =
    record (new_rule (codes "arguments")) {
      required = true;
      range = Some (record { start_inclusive = count; end_inclusive = count });
    }

abbrev pub parser_of : ℕ → App
parser_of count = if count == 0 then parser else with_rule parser (values count)
