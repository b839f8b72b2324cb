-- The kinds that may be read as nothing, and the choice of the kind.
use Rattle.std.proofs.Common.{◌≡◌, ℕ, ◌-◌, Option, Some, None, List, ◌∷◌}
use Rattle.std.proofs.Common.{◌++◌, length, drop, slice_get, true, subst, refl, ap, sym, ◌∙◌}
use Rattle.std.proofs.Common.{arith}
use Rattle.std.specs.Option.{option_and_then, MatchOption}
use Rattle.peg_name.specs.declared.Format.{Format}
use Rattle.peg_event.specs.declared.Outcome.{Outcome}
use Rattle.peg_event.specs.declared.Outcome.TheVariants as outcome
use Rattle.peg_model.specs.Packet as model
use Rattle.peg_model.specs.Packet.{Command, CommandAck, eight, outcome_bytes, what_bytes, spelling}
use Rattle.peg_model.specs.Packet.{in_range}
use Rattle.peg_model.specs.Reading.{one_at, eight_at, what_at, outcome_with, candidates}
use Rattle.std.proofs.lemmas.List.{drop_all}
use Rattle.peg_grammar.proofs.Lay.{one_then}
use Rattle.peg_grammar.proofs.Parts.{Begun, EightOn, command_says, command_whole}
use Rattle.peg_grammar.proofs.Parts.{acknowledgement_says, acknowledgement_whole}
use Rattle.peg_packet.specs.Seen.{outcome_seen}
use Rattle.peg_packet.specs.Shapes.{command_at, acknowledged_at, Reads, ReadsKind, ReadsAny}
use Rattle.peg_packet.specs.declared.Packet.{Packet}
use Rattle.peg_packet.specs.Seen.{seen}

-- ---- commands

command_by :
    (number : ℕ) (x : Option model.What) (p : model.Packet)
    → option_and_then (λ what. Some (Command number what)) x ≡ Some p
    → (w : model.What) × (x ≡ Some w) × (p ≡ Command number w)
command_by number None p e = absurd cc
command_by number (Some w) p e = (w, refl, cc)

pub command_none :
    (format : Format) (bytes : List ℕ) (p : model.Packet)
    → ((w : model.What) → what_at bytes 12 ≡ Some w → drop 12 bytes ≡ what_bytes w → ⊥)
    → command_at bytes ≡ Some p → bytes ≡ spelling format p → ⊥
command_none format bytes p never is spelled =
    let by = command_by (eight_at bytes 4) (what_at bytes 12) p is in
    never by.0 by.1
    (command_says format (eight_at bytes 4) by.0 bytes (spelled ∙ ap (spelling format) by.2))

pub command_found :
    (format : Format) (bytes : List ℕ) (w : model.What) (number : ℕ) → Begun format 7 bytes
    → what_at bytes 12 ≡ Some w → EightOn bytes 4
    → drop 12 bytes ≡ what_bytes w → number ≡ eight_at bytes 4
    → (command_at bytes ≡ Some (Command number w)) × (bytes ≡ spelling format (Command number w))
command_found format bytes w number begun read e whole is = (
  ap (option_and_then (λ what. Some (Command (eight_at bytes 4) what))) read ∙ ap
      (λ n. Some (Command n w)) (sym is),
  command_whole format bytes w begun e whole ∙ ap (λ n. spelling format (Command n w)) (sym is),
)

-- ---- acknowledgements

acknowledged_by :
    (number : ℕ) (x : Option Outcome) (p : model.Packet)
    → option_and_then (λ o. Some (CommandAck number o)) x ≡ Some p
    → (o : Outcome) × (x ≡ Some o) × (p ≡ CommandAck number o)
acknowledged_by number None p e = absurd cc
acknowledged_by number (Some o) p e = (o, refl, cc)

nine : (o : Outcome) → length (outcome_bytes o) ≡ 9
nine (outcome.Listed value) = refl
nine (outcome.Already value) = refl
nine (outcome.Full value) = refl
nine (outcome.Marked value) = refl
nine outcome.NotListed = refl
nine (outcome.AlreadyMarked value) = refl
nine (outcome.Ordered value) = refl
nine outcome.Holds = refl
nine (outcome.Activated value) = refl
nine outcome.Cleared = refl
nine (outcome.Fenced value) = refl
nine outcome.NoBase = refl
nine (outcome.NoVersion value) = refl

acknowledgement_long :
    (format : Format) (number : ℕ) (o : Outcome) (bytes : List ℕ)
    → bytes ≡ spelling format (CommandAck number o) → length bytes ≡ 21
unfolding spelling
acknowledgement_long format number o bytes e =
    let long :
    length bytes
    ≡ length (spelling format (CommandAck number o)) = ap length e in omega
    (arith, long, nine o)

pub acknowledged_long :
    (format : Format) (bytes : List ℕ) (p : model.Packet) → acknowledged_at bytes ≡ Some p
    → bytes ≡ spelling format p → (length bytes ≡ 21 → ⊥) → ⊥
acknowledged_long format bytes p is spelled other =
    let by =
    acknowledged_by (eight_at bytes 4) (outcome_with (one_at bytes 12) (eight_at bytes 13)) p
    is in
    other
    (acknowledgement_long format (eight_at bytes 4) by.0 bytes
    (spelled ∙ ap (spelling format) by.2))

-- the number and the value of an outcome at their places
pair_on :
    (bytes : List ℕ) (value : ℕ) → value ≡ eight_at bytes 13 → length bytes ≡ 21 → EightOn bytes 13
    → drop 12 bytes ≡ one_at bytes 12 ∷ eight value
pair_on bytes value is long e =
    one_then bytes (eight (eight_at bytes 13)) 12 (omega (arith, long))
    (e ∙ ap (λ t. eight (eight_at bytes 13) ++ t) (drop_all 21 bytes (omega (arith, long))))
    ∙ ap (λ n. one_at bytes 12 ∷ eight n) (sym is)

pub acknowledged_none :
    (format : Format) (bytes : List ℕ) (value : ℕ) (p : model.Packet) → value ≡ eight_at bytes 13
    → length bytes ≡ 21 → EightOn bytes 13
    →
    ((o : Outcome) → outcome_with (one_at bytes 12) value ≡ Some o
    → outcome_bytes o ≡ one_at bytes 12 ∷ eight value → ⊥)
    → acknowledged_at bytes ≡ Some p → bytes ≡ spelling format p → ⊥
acknowledged_none format bytes value p vis long e never is spelled =
    let by =
    acknowledged_by (eight_at bytes 4) (outcome_with (one_at bytes 12) (eight_at bytes 13)) p
    is in
    let says =
    acknowledgement_says format (eight_at bytes 4) by.0 bytes
    (spelled ∙ ap (spelling format) by.2) in
    never by.0 (ap (outcome_with (one_at bytes 12)) vis ∙ by.1)
    (sym says ∙ pair_on bytes value vis long e)

pub acknowledged_found :
    (format : Format) (bytes : List ℕ) (value number : ℕ) (o : Outcome) → Begun format 8 bytes
    → value ≡ eight_at bytes 13 → number ≡ eight_at bytes 4
    → length bytes ≡ 21 → EightOn bytes 13 → EightOn bytes 4
    → outcome_with (one_at bytes 12) value ≡ Some o
    → outcome_bytes o ≡ one_at bytes 12 ∷ eight value
    → o ≡ outcome_seen (one_at bytes 12) value
    → (acknowledged_at bytes ≡ Some (CommandAck number (outcome_seen (one_at bytes 12) value)))
    × (bytes ≡ spelling format (CommandAck number (outcome_seen (one_at bytes 12) value)))
acknowledged_found format bytes value number o begun vis nis long e f read spelled seen = (
  ap (option_and_then (λ q. Some (CommandAck (eight_at bytes 4) q)))
      (ap (outcome_with (one_at bytes 12)) (sym vis) ∙ read)
      ∙ (λ i. Some (CommandAck (sym nis i) (seen i))),
  acknowledgement_whole format bytes o begun f (pair_on bytes value vis long e ∙ sym spelled) ∙
      (λ i. spelling format (CommandAck (sym nis i) (seen i))),
)

-- ---- the choice of the kind

reads_any :
    (bytes : List ℕ) (format : Format) (p : model.Packet) (result : Option Packet)
    → Reads bytes format p result
    → MatchOption result
    ((q : model.Packet) → Some p ≡ Some q → in_range format q ≡ true → bytes ≡ spelling format q
    → ⊥)
    (λ q. (Some p ≡ Some (seen q)) × (bytes ≡ spelling format (seen q)))
reads_any bytes format p None never =
    λ q is ranges spelled.
    let same : p ≡ q = cc in
    never (ap (in_range format) same ∙ ranges) (spelled ∙ ap (spelling format) (sym same))
reads_any bytes format p (Some r) found =
    (ap (λ q. Some q) (sym found.0), found.1 ∙ ap (spelling format) (sym found.0))

abbrev pub option_of : Option (Option model.Packet) → Option model.Packet
option_of o = option_and_then (λ packet. packet) o

arm_at :
    (bytes : List ℕ) (k kind : ℕ) (o : Option model.Packet) (result : Option Packet) → kind ≡ k
    → option_of (slice_get (candidates bytes) (k - 1)) ≡ o → ReadsAny bytes k o result
    → ReadsAny bytes kind (option_of (slice_get (candidates bytes) (kind - 1))) result
arm_at bytes k kind o result is read reads =
    let P :
    ℕ
    → Type 0 = λ n. ReadsAny bytes n (option_of (slice_get (candidates bytes) (n - 1)))
    result in
    let Q : Option model.Packet → Type 0 = λ x. ReadsAny bytes k x result in
    subst P (sym is) (subst Q (sym read) reads)

pub some_arm : (bytes : List ℕ) (k kind : ℕ) (p : model.Packet) (result : Option Packet) → kind ≡ k
    → option_of (slice_get (candidates bytes) (k - 1)) ≡ Some p → ReadsKind bytes k p result
    → ReadsAny bytes kind (option_of (slice_get (candidates bytes) (kind - 1))) result
some_arm bytes k kind p result is read reads =
    arm_at bytes k kind (Some p) result is read
    (λ format begun. reads_any bytes format p result (reads format begun))

pub any_arm :
    (bytes : List ℕ) (k kind : ℕ) (o : Option model.Packet) (result : Option Packet) → kind ≡ k
    → option_of (slice_get (candidates bytes) (k - 1)) ≡ o → ReadsAny bytes k o result
    → ReadsAny bytes kind (option_of (slice_get (candidates bytes) (kind - 1))) result
any_arm bytes k kind o result is read reads = arm_at bytes k kind o result is read reads
