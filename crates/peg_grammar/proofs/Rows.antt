-- The rows of a report, behind a front.
use Rattle.std.proofs.Common.{◌≡◌, ℕ, ◌+◌, ◌^◌, ◌<◌, List, [], ◌∷◌, ◌++◌, length, take, drop, refl}
use Rattle.std.proofs.Common.{ap, sym, ◌∙◌, arith, append_assoc, length-append}
use Rattle.std.specs.List.{flat_map, AllByRecursion}
use Rattle.std.specs.Int.{w64, from_be_bytes}
use Rattle.std.proofs.Math.Seq.{take-append_seam, drop-append_seam, drop-append-add}
use Rattle.std.proofs.Math.Seq.{get_or-append_seam}
use Rattle.peg_name.specs.declared.Row.{Row}
use Rattle.peg_model.specs.Packet.{eight, key_bytes, row_bytes}
use Rattle.peg_model.specs.Reading.{one_at, eight_at, key_at, past_key, rows_at}
use Rattle.peg_grammar.proofs.Places.{eight_back}

abbrev pub FitsRow : Row → Type 0
FitsRow row = (row.count < 2 ^ 64) × (row.error < 2 ^ 64)

-- a key behind a front, with more behind it
pub key_behind :
    (front key tail : List ℕ) → key_at (front ++ (key_bytes key ++ tail)) (length front) ≡ key
key_behind front key tail =
    let bytes : List ℕ = front ++ (key_bytes key ++ tail) in
    let size : one_at bytes (length front) ≡ length key =
    get_or-append_seam front (length key) (key ++ tail) 0
    in
    let rest : drop (length front + 1) bytes ≡ key ++ tail =
    drop-append-add front (key_bytes key ++ tail) 1
    in
    (λ i. take (size i) (rest i)) ∙ take-append_seam key tail

pub past_behind :
    (front key tail : List ℕ)
    → past_key (front ++ (key_bytes key ++ tail)) (length front) ≡ length (front ++ key_bytes key)
past_behind front key tail =
    let size : one_at (front ++ (key_bytes key ++ tail)) (length front) ≡ length key =
    get_or-append_seam front (length key) (key ++ tail) 0
    in
    omega (arith, size, length-append front (key_bytes key))

pub eight_behind :
    (front tail : List ℕ) (n : ℕ) → n < 2 ^ 64
    → eight_at (front ++ (eight n ++ tail)) (length front) ≡ n
eight_behind front tail n small =
    ap (from_be_bytes w64) (drop-append_seam front (eight n ++ tail)) ∙ eight_back n tail small

-- the rows behind a front, whatever follows them
pub rows_behind :
    (front : List ℕ) (rows : List Row) (last : List ℕ) → AllByRecursion FitsRow rows
    → rows_at (front ++ (flat_map row_bytes rows ++ last)) (length rows) (length front) ≡ rows
rows_behind front [] last fits = refl
rows_behind front (row ∷ rows) last (fits, later) =
    let key : List ℕ = key_bytes row.key in
    let count : List ℕ = eight row.count in
    let error : List ℕ = eight row.error in
    let tail : List ℕ = flat_map row_bytes rows ++ last in
    let bytes : List ℕ = front ++ (flat_map row_bytes (row ∷ rows) ++ last) in
    let keyed : List ℕ = front ++ key in
    let counted : List ℕ = keyed ++ count in
    let errors : List ℕ = counted ++ error in
    let to_key : bytes ≡ front ++ (key ++ (count ++ (error ++ tail))) =
    ap (λ b. front ++ b) (
    append_assoc (row_bytes row) (flat_map row_bytes rows) last
    ∙ append_assoc (key ++ count) error tail
    ∙ append_assoc key count (error ++ tail)
    )
    in
    let to_count : bytes ≡ keyed ++ (count ++ (error ++ tail)) =
    to_key ∙ sym (append_assoc front key (count ++ (error ++ tail)))
    in
    let to_error : bytes ≡ counted ++ (error ++ tail) =
    to_count ∙ sym (append_assoc keyed count (error ++ tail))
    in
    let to_rest : bytes ≡ errors ++ tail = to_error ∙ sym (append_assoc counted error tail) in
    let its_key : key_at bytes (length front) ≡ row.key =
    ap (λ b. key_at b (length front)) to_key
    ∙ key_behind front row.key (count ++ (error ++ tail))
    in
    let past : past_key bytes (length front) ≡ length keyed =
    ap (λ b. past_key b (length front)) to_key
    ∙ past_behind front row.key (count ++ (error ++ tail))
    in
    let its_count : eight_at bytes (past_key bytes (length front)) ≡ row.count =
    (λ i. eight_at (to_count i) (past i)) ∙ eight_behind keyed (error ++ tail) row.count fits.0
    in
    let eight_on : past_key bytes (length front) + 8 ≡ length counted =
    omega (arith, past, length-append keyed count)
    in
    let its_error : eight_at bytes (past_key bytes (length front) + 8) ≡ row.error =
    (λ i. eight_at (to_error i) (eight_on i)) ∙ eight_behind counted tail row.error fits.1
    in
    let sixteen_on : past_key bytes (length front) + 16 ≡ length errors =
    omega (arith, eight_on, length-append counted error)
    in
    let rest : rows_at bytes (length rows) (past_key bytes (length front) + 16) ≡ rows =
    (λ i. rows_at (to_rest i) (length rows) (sixteen_on i)) ∙ rows_behind errors rows last later
    in
    λ i. record { key = its_key i; count = its_count i; error = its_error i } ∷ rest i
