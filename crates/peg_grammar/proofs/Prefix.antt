-- No spelling is a proper prefix of another: bytes that spell a packet, with more bytes behind
-- them, spell none.
use Rattle.std.proofs.Common.{◌≡◌, ℕ, true, Some, List, [], ◌∷◌, ◌++◌, length, refl, ap, sym, ◌∙◌}
use Rattle.std.proofs.Common.{arith, length-append, append-nil}
use Rattle.peg_name.specs.declared.Format.{Format}
use Rattle.peg_model.specs.Packet.{Packet, Spells, format_byte, in_range, spelling}
use Rattle.peg_model.specs.Reading.{one_at, candidate}
use Rattle.peg_grammar.proofs.Read.{begins, same_format}
use Rattle.peg_grammar.proofs.Whole.{candidate_back}

-- two packets of which one's spelling begins with the other's are one, and nothing is behind it
pub record IsSame (f g : Format) (p q : Packet) (rest : List ℕ) : Type 0 where
  pub format : f ≡ g
  pub packet : p ≡ q
  pub nothing : rest ≡ []

-- the third byte is that of the format, whatever follows
byte_of :
    (f : Format) (p : Packet) (rest : List ℕ) → one_at (spelling f p ++ rest) 2 ≡ format_byte f
byte_of f p rest = ap (λ bytes. one_at (bytes ++ rest) 2) (begins f p)

nothing_more : (xs rest : List ℕ) → xs ≡ xs ++ rest → rest ≡ []
nothing_more xs [] e = refl
nothing_more xs (x ∷ rest) e =
    absurd (omega (arith, ap length e, length-append xs (x ∷ rest)))

pub prefix_is_whole :
    (f g : Format) (p q : Packet) (rest : List ℕ) → in_range f p ≡ true → in_range g q ≡ true
    → spelling g q ≡ spelling f p ++ rest → IsSame f g p q rest
prefix_is_whole f g p q rest mine its begun =
    let whole : spelling f p ++ rest ≡ spelling g q ++ [] =
    sym begun ∙ sym (append-nil (spelling g q))
    in
    let read : Some p ≡ Some q =
    sym (candidate_back rest f p mine) ∙ ap candidate whole ∙ candidate_back [] g q its
    in
    let packet : p ≡ q = cc in
    let byte : format_byte f ≡ format_byte g =
    sym (byte_of f p rest) ∙ ap (λ bytes. one_at bytes 2) whole ∙ byte_of g q []
    in
    let format : f ≡ g = same_format f g byte in
    record {
      format = format;
      packet = packet;
      nothing = nothing_more (spelling f p) rest ((λ i. spelling (format i) (packet i)) ∙ begun);
    }

pub no_proper_prefix :
    (f g : Format) (p q : Packet) (rest : List ℕ) → in_range f p ≡ true → in_range g q ≡ true
    → spelling g q ≡ spelling f p ++ rest → rest ≡ []
no_proper_prefix f g p q rest mine its begun =
    (prefix_is_whole f g p q rest mine its begun).nothing

pub one_packet :
    (bytes : List ℕ) (f g : Format) (p q : Packet) → Spells bytes f p → Spells bytes g q
    → (f ≡ g) × (p ≡ q)
one_packet bytes f g p q mine its =
    let begun : spelling g q ≡ spelling f p ++ [] =
    sym its.spelled ∙ mine.spelled ∙ sym (append-nil (spelling f p))
    in
    let same = prefix_is_whole f g p q [] mine.in_range its.in_range begun in
    (same.format, same.packet)
