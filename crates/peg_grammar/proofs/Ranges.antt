-- What the ranges of a packet say of its numbers: each fits its bytes.
use Rattle.std.proofs.Common.{◌≡◌, ℕ, ◌^◌, ◌<◌, true, List, [], ◌∷◌, length, arith}
use Rattle.std.specs.List.{AllByRecursion, list_all}
use Rattle.std.proofs.lemmas.Bool.{and_parts}
use Rattle.std.proofs.lemmas.Bool.Decides.{nat_tests}
use Rattle.peg_name.specs.declared.Format.{Format}
use Rattle.peg_name.specs.declared.Format.TheVariants.{One, Two}
use Rattle.peg_name.specs.declared.value.Content.{Content}
use Rattle.peg_name.specs.declared.value.Content.TheVariants.{Absent, Present}
use Rattle.peg_name.specs.declared.Row.{Row}
use Rattle.peg_event.specs.declared.Outcome.{Outcome}
use Rattle.peg_event.specs.declared.Outcome.TheVariants as outcome
use Rattle.peg_model.specs.Packet.{What, Promote, Demote, Copy, Seal, Clear, FenceKey}
use Rattle.peg_model.specs.Packet.{family_in_range, is_positive, is_number, is_content, is_written}
use Rattle.peg_model.specs.Packet.{is_read_content, what_in_range, outcome_in_range, row_in_range}
use Rattle.peg_model.specs.Packet.{part_in_range}
use Rattle.peg_grammar.proofs.Places.{IsSmall}
use Rattle.peg_grammar.proofs.Rows.{FitsRow}
use Rattle.peg_grammar.proofs.Others.{FitsWhat, FitsOutcome}

pub record FamilyRanges (client seq version : ℕ) : Type 0 where
  pub client_fits : client < 2 ^ 16
  pub seq_fits : seq < 2 ^ 64
  pub version_fits : version < 2 ^ 64

pub family_ranges :
    (format : Format) (client seq version server switch : ℕ) (key : List ℕ)
    → family_in_range format client seq version server switch key ≡ true
    → FamilyRanges client seq version
family_ranges One client seq version server switch key h = grind (arith, nat_tests)
family_ranges Two client seq version server switch key h = grind (arith, nat_tests)

pub number_fits : (n : ℕ) → is_number n ≡ true → n < 2 ^ 64
number_fits n h = grind (arith, nat_tests)

pub positive_fits : (n : ℕ) → is_positive n ≡ true → n < 2 ^ 64
positive_fits n h = grind (arith, nat_tests)

pub content_small :
    (format : Format) (content : Content) → is_content format content ≡ true → IsSmall content
content_small format Absent h = tt
content_small One (Present value) h = grind (arith, nat_tests)
content_small Two (Present value) h = grind (arith, nat_tests)

pub written_small :
    (format : Format) (content : Content) → is_written format content ≡ true → IsSmall content
written_small format Absent h = tt
written_small One (Present value) h = grind (arith, nat_tests)
written_small Two (Present value) h = grind (arith, nat_tests)

pub read_small :
    (format : Format) (version : ℕ) (content : Content)
    → is_read_content format version content ≡ true → IsSmall content
read_small format version Absent h = tt
read_small One version (Present value) h = grind (arith, nat_tests)
read_small Two version (Present value) h = grind (arith, nat_tests)

pub what_fits : (format : Format) (what : What) → what_in_range format what ≡ true → FitsWhat what
what_fits format (Promote key) h = tt
what_fits format (Demote key) h = tt
what_fits format (Copy target key) h = tt
what_fits format (Seal target epoch) h = grind (arith, nat_tests)
what_fits format Clear h = tt
what_fits format (FenceKey key) h = tt

pub outcome_fits :
    (format : Format) (o : Outcome) → outcome_in_range format o ≡ true → FitsOutcome o
outcome_fits format (outcome.Listed value) h = grind (arith, nat_tests)
outcome_fits format (outcome.Already value) h = grind (arith, nat_tests)
outcome_fits format (outcome.Full value) h = grind (arith, nat_tests)
outcome_fits format (outcome.Marked value) h = grind (arith, nat_tests)
outcome_fits format outcome.NotListed h = tt
outcome_fits format (outcome.AlreadyMarked value) h = grind (arith, nat_tests)
outcome_fits One (outcome.Ordered value) h = grind (arith, nat_tests)
outcome_fits Two (outcome.Ordered value) h = grind (arith, nat_tests)
outcome_fits format outcome.Holds h = tt
outcome_fits format (outcome.Activated value) h = grind (arith, nat_tests)
outcome_fits format outcome.Cleared h = tt
outcome_fits format (outcome.Fenced value) h = grind (arith, nat_tests)
outcome_fits format outcome.NoBase h = tt
outcome_fits format (outcome.NoVersion value) h = grind (arith, nat_tests)

row_fits : (row : Row) → row_in_range row ≡ true → FitsRow row
row_fits row h = grind (arith, nat_tests)

pub rows_fit : (rows : List Row) → list_all row_in_range rows ≡ true → AllByRecursion FitsRow rows
rows_fit [] h = tt
rows_fit (row ∷ rows) h =
    let both = and_parts (row_in_range row) (list_all row_in_range rows) h in
    (row_fits row both.0, rows_fit rows both.1)

pub part_small :
    (format : Format) (index count : ℕ) (bytes : List ℕ)
    → part_in_range format index count bytes ≡ true → length bytes < 2 ^ 16
part_small One index count bytes h = grind (arith, nat_tests)
part_small Two index count bytes h = grind (arith, nat_tests)
