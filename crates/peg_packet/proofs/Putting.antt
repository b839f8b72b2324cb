-- Bytes that were put behind one another.
use Rattle.std.proofs.Common.{◌≡◌, ℕ, ◌+◌, List, ◌++◌, length, take, ap, refl, ◌∙◌, arith}
use Rattle.std.proofs.Common.{append_assoc, length-append}
use Rattle.peg_name.specs.declared.Format.{Format}
use Rattle.peg_name.specs.declared.Format.TheVariants.{One, Two}
use Rattle.peg_name.specs.Limits.{number_of}
use Rattle.peg_model.specs.Packet.{format_byte}
use Rattle.peg_packet.specs.Puts.{Puts}

pub puts_then :
    {a b d : List ℕ} {i j k : ℕ} {xs ys : List ℕ} → Puts a b i j xs → Puts b d j k ys
    → Puts a d i k (xs ++ ys)
puts_then {a} {b} {d} {i} {j} {k} {xs} {ys} p q =
    record {
      next = omega (arith, p.next, q.next, length-append xs ys);
      written = q.written ∙ ap (λ t. t ++ ys) p.written ∙ append_assoc (take i a) xs ys;
    }

pub puts_same :
    {a b : List ℕ} {i j : ℕ} {xs ys : List ℕ} → Puts a b i j xs → xs ≡ ys → Puts a b i j ys
puts_same {a} {b} {i} {j} {xs} {ys} p e =
    record {
      next = p.next ∙ ap (λ t. i + length t) e;
      written = p.written ∙ ap (λ t. take i a ++ t) e;
    }

-- a format is spelled by its number
pub format_byte-number : (format : Format) → number_of format ≡ format_byte format
format_byte-number One = refl
format_byte-number Two = refl
