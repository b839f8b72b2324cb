-- What is read at a place behind a front of known length.
use Rattle.std.proofs.Common.{◌≡◌, ℕ, ◌+◌, ◌^◌, ◌<◌, ◌==◌, List, ◌∷◌, ◌++◌, length, take, drop}
use Rattle.std.proofs.Common.{Some, if◌then◌else◌, ap, ◌∙◌}
use Rattle.std.specs.Int.{w16, w64, from_be_bytes}
use Rattle.std.proofs.lemmas.Nat.{from_be_bytes-to_be_bytes_2, from_be_bytes-to_be_bytes_8}
use Rattle.std.proofs.Math.Seq.{drop-append-add, get_or-append_seam, take-append_seam}
use Rattle.peg_name.specs.declared.Format.{Format}
use Rattle.peg_name.specs.declared.value.Content.{Content}
use Rattle.peg_name.specs.declared.value.Content.TheVariants.{Absent, Present}
use Rattle.peg_model.specs.Packet.{Packet, two, eight, content_bytes, spelling}
use Rattle.peg_model.specs.Reading.{two_at, content_at, candidate}

-- two and eight bytes give their number back, whatever follows
pub two_back : (n : ℕ) (rest : List ℕ) → n < 2 ^ 16 → from_be_bytes w16 (two n ++ rest) ≡ n
two_back n rest small = from_be_bytes-to_be_bytes_2 n small

pub eight_back : (n : ℕ) (rest : List ℕ) → n < 2 ^ 64 → from_be_bytes w64 (eight n ++ rest) ≡ n
eight_back n rest small = from_be_bytes-to_be_bytes_8 n small

-- the value of a content fits two bytes
abbrev pub IsSmall : Content → Type 0
IsSmall Absent = Unit {0}
IsSmall (Present value) = length value < 2 ^ 16

-- the bytes of a packet are read as it, whatever follows them
abbrev pub IsReadBefore : List ℕ → Format → Packet → Type 0
IsReadBefore rest format p = candidate (spelling format p ++ rest) ≡ Some p

-- the content behind a front, whatever follows it
pub content_behind :
    (front : List ℕ) (content : Content) (rest : List ℕ) → IsSmall content
    → content_at (front ++ (content_bytes content ++ rest)) (length front) ≡ content
content_behind front Absent rest small =
    let bytes : List ℕ = front ++ 0 ∷ rest in
    let value : List ℕ = take (two_at bytes (length front + 1)) (drop (length front + 3) bytes) in
    ap (λ t. if t == 0 then Absent else Present value) (get_or-append_seam front 0 rest 0)
content_behind front (Present value) rest small =
    let tail : List ℕ = content_bytes (Present value) ++ rest in
    let bytes : List ℕ = front ++ tail in
    let read : List ℕ = take (two_at bytes (length front + 1)) (drop (length front + 3) bytes) in
    let size : two_at bytes (length front + 1) ≡ length value =
    ap (from_be_bytes w16) (drop-append-add front tail 1)
    ∙ two_back (length value) (value ++ rest) small
    in
    let after : drop (length front + 3) bytes ≡ value ++ rest = drop-append-add front tail 3 in
    ap (λ t. if t == 0 then Absent else Present read)
    (get_or-append_seam front 1 (two (length value) ++ value ++ rest) 0)
    ∙ (λ i. Present (take (size i) (after i)))
    ∙ ap Present (take-append_seam value rest)
