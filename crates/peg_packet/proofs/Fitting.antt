-- What the ranges of a lent packet say of its parts.
use Rattle.std.proofs.Common.{◌≡◌, ℕ, Bool, true, false, Option, Some, None, ◌∷◌}
use Rattle.std.proofs.Common.{if◌then◌else◌, refl, ap, sym, ◌∙◌, subst}
use Rattle.std.specs.Str.{bytes_eq}
use Rattle.std.proofs.lemmas.Bool.{and_parts}
use Rattle.std.proofs.lemmas.Slice.Eq.{bytes_eq-Decides}
use Rattle.peg_name.specs.declared.Format.{Format}
use Rattle.peg_event.specs.declared.Outcome.{Outcome}
use Rattle.peg_model.specs.Packet.{CommandAck, eight, outcome_bytes, outcome_in_range, in_range}
use Rattle.peg_model.specs.Packet.{is_positive}
use Rattle.peg_model.specs.Reading.{outcome_with}
use Rattle.peg_grammar.specs.Fits.{FitsPacket}
use Rattle.peg_grammar.proofs.Most.{packet_fits}
use Rattle.peg_packet.specs.declared.Packet.{Packet}
use Rattle.peg_packet.specs.Seen.{seen, no_outcome, if_so_spelled, outcome_seen}

pub fits_at :
    (format : Format) (packet value : Packet) → in_range format (seen packet) ≡ true
    → packet ≡ value → FitsPacket (seen value)
fits_at format packet value h is =
    let P :
    Packet
    → Type 0 = λ p. FitsPacket (seen p) in subst P is (packet_fits format (seen packet) h)

chosen :
    (format : Format) (code value : ℕ) (o : Outcome) (b : Bool)
    → (b ≡ true → outcome_bytes o ≡ code ∷ eight value)
    → outcome_in_range format (if b then o else no_outcome) ≡ true
    → outcome_bytes (if b then o else no_outcome) ≡ code ∷ eight value
chosen format code value o true spelled h = spelled refl
chosen format code value o false spelled h = absurd cc

so_spelled :
    (format : Format) (code value : ℕ) (x : Option Outcome)
    → outcome_in_range format (if_so_spelled code value x) ≡ true
    → outcome_bytes (if_so_spelled code value x) ≡ code ∷ eight value
so_spelled format code value None h = absurd cc
so_spelled format code value (Some o) h =
    chosen format code value o (bytes_eq (outcome_bytes o) (code ∷ eight value))
    (bytes_eq-Decides (outcome_bytes o) (code ∷ eight value)).0 h

pub outcome_spelled :
    (format : Format) (packet : Packet) (number code value : ℕ)
    → in_range format (seen packet) ≡ true
    → seen packet ≡ CommandAck number (outcome_seen code value)
    → outcome_bytes (outcome_seen code value) ≡ code ∷ eight value
unfolding in_range
outcome_spelled format packet number code value h is =
    let ranges :
    in_range format (CommandAck number (outcome_seen code value))
    ≡ true = ap (in_range format) (sym is) ∙ h in
    so_spelled format code value (outcome_with code value)
    (and_parts (is_positive number) (outcome_in_range format (outcome_seen code value))
    ranges).1
