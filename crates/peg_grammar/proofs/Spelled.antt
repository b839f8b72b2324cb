-- What is read is in its ranges, and the bytes spell it.
use Rattle.std.proofs.Common.{◌≡◌, ℕ, Bool, true, false, ◌&&◌, Option, Some, None, List}
use Rattle.std.proofs.Common.{if◌then◌else◌, refl, subst}
use Rattle.std.specs.Str.{bytes_eq}
use Rattle.std.proofs.lemmas.Bool.{and_parts}
use Rattle.std.proofs.lemmas.Slice.Eq.{bytes_eq-Decides}
use Rattle.peg_name.specs.Limits.{format_of}
use Rattle.peg_name.specs.declared.Format.{Format}
use Rattle.peg_model.specs.Packet.{Packet, Spells, in_range, spelling}
use Rattle.peg_model.specs.Reading.{packet_of, if_spelled, one_at, candidate}

pub if_some :
    {A : Type 0} (b : Bool) (a x : A) → (if b then Some a else None) ≡ Some x
    → (b ≡ true) × (a ≡ x)
if_some true a x e = (refl, cc)
if_some false a x e = absurd cc

if_spelled-Spells :
    (bytes : List ℕ) (o : Option Format) (c : Option Packet) (format : Format) (p : Packet)
    → if_spelled bytes o c ≡ Some (format, p) → Spells bytes format p
if_spelled-Spells bytes (Some f) (Some q) format p e =
    let read : Format × Packet = (f, q) in
    let wanted : Format × Packet = (format, p) in
    let parts = if_some (in_range f q && bytes_eq bytes (spelling f q)) read wanted e in
    let both = and_parts (in_range f q) (bytes_eq bytes (spelling f q)) parts.0 in
    let spells : Spells bytes f q =
    record {
      in_range = both.0;
      spelled = (bytes_eq-Decides bytes (spelling f q)).0 both.1;
    }
    in
    subst (λ r. Spells bytes r.0 r.1) parts.1 spells
if_spelled-Spells bytes (Some f) None format p e = absurd cc
if_spelled-Spells bytes None c format p e = absurd cc

pub packet_of-Spells :
    (bytes : List ℕ) (format : Format) (p : Packet) → packet_of bytes ≡ Some (format, p)
    → Spells bytes format p
unfolding packet_of
packet_of-Spells bytes format p e =
    if_spelled-Spells bytes (format_of (one_at bytes 2)) (candidate bytes) format p e
