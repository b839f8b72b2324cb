-- A switch's stamps, number and entries are a state of the rack, and what it spells has its place
-- in packets.
use Rattle.std.proofs.Common.{min, ◌≡◌, ℕ, ◌-◌, ◌*◌, ◌<◌, ◌≤◌, ◌^◌, ◌⊎◌, inl, inr, true, take, drop, get_or, ap, nat_le, List, []}
use Rattle.std.proofs.Common.{◌∷◌, ◌++◌, length, ◌∙◌, sym, arith, append_assoc}
use Rattle.std.specs.List.{flat_map, list_all}
use Rattle.std.specs.Cmp.Derive.{both_true}
use Rattle.std.proofs.lemmas.Bool.{eq-eqb, cases_lt}
use Rattle.std.proofs.lemmas.List.{length-drop, take_all}
use Rattle.std.proofs.lemmas.Bool.Decides.{nat_tests}
use Rattle.peg_name.specs.Name.{Rack, InLimits, parts_most}
use Rattle.peg_name.specs.declared.Format.{Format}
use Rattle.peg_name.specs.declared.Format.TheVariants.{One, Two}
use Rattle.peg_model.specs.Packet.{two, eight, is_number, is_positive}
use Rattle.peg_model.specs.Rules.{Stamps, Directory}
use Rattle.peg_model.specs.Handover.{State, stamp_bytes, entry_bytes, state_bytes, is_stamp_row}
use Rattle.peg_model.specs.Handover.{parts}
use Rattle.peg_directory.specs.Table.{IsDirectory}
use Rattle.peg_grammar.specs.State.{SpellsState, is_rising}
use Rattle.peg_grammar.proofs.Cut.{get_part}
use Rattle.peg_grammar.proofs.StateSize.{few_parts, part_in_packet}
use Rattle.peg_parts.specs.Sealed.{IsSealed, state_with}

positive : (n : ℕ) → 1 ≤ n → is_number n ≡ true → is_positive n ≡ true
positive n least number = grind (arith, nat_tests)

pub number : (n : ℕ) → n < 2 ^ 64 → is_number n ≡ true
number n small = grind (arith, nat_tests)

pub record IsSpelled (rack : Rack) (stamps : Stamps) (last : ℕ) (entries : Directory)
    (bytes : List ℕ) : Type 0 where
  pub first : 1 ≤ stamps.next
  pub next_number : is_number stamps.next ≡ true
  pub least : 1 ≤ last
  pub last_number : is_number last ≡ true
  pub clients : length stamps.rows ≡ rack.clients
  pub rows : list_all is_stamp_row stamps.rows ≡ true
  pub whole : IsDirectory (record { rack = rack; entries = entries })
  pub rising : list_all (λ item. is_rising item.1.holders) entries ≡ true
  pub spelled :
      bytes
      ≡ (eight stamps.next ++ eight last ++ two (length stamps.rows)
      ++ flat_map stamp_bytes stamps.rows ++ length entries ∷ [])
      ++ flat_map (entry_bytes rack.format) entries

few_entries : (rack : Rack) (n : ℕ) → n ≤ rack.listed → nat_le n rack.listed ≡ true
few_entries rack n few = grind (arith, nat_tests)

pub spelled :
    (rack : Rack) (stamps : Stamps) (last : ℕ) (entries : Directory) (bytes : List ℕ)
    → IsSpelled rack stamps last entries bytes
    → SpellsState rack bytes (state_with stamps last entries)
unfolding state_bytes
spelled rack stamps last entries bytes is =
    let front : List ℕ =
    eight stamps.next ++ eight last ++ two (length stamps.rows)
    ++ flat_map stamp_bytes stamps.rows
    in
    record {
      in_range =
          both_true
          (both_true
          (both_true
          (both_true
          (both_true
          (both_true (positive stamps.next is.first is.next_number)
          (positive last is.least is.last_number))
          (eq-eqb (length stamps.rows) rack.clients is.clients))
          is.rows)
          (few_entries rack (length entries) is.whole.few))
          is.whole.within)
          is.whole.distinct;
      sets = is.rising;
      spelled =
          is.spelled
          ∙ append_assoc front (length entries ∷ []) (flat_map (entry_bytes rack.format) entries);
    }

pub sealed :
    (rack : Rack) (bytes : List ℕ) (s : State) → InLimits rack → SpellsState rack bytes s
    → IsSealed (record { rack = rack; bytes = bytes })
sealed rack bytes s limits spells = record {
  few = (few_parts rack bytes s limits spells).1;
  packets = λ epoch index second small within.
      part_in_packet rack bytes s epoch index limits spells second small within;
}

pub most_parts : (format : Format) → parts_most format ≤ 64
most_parts One = omega arith
most_parts Two = omega arith

up_to :
    (rest : List ℕ) (least : ℕ) → (512 < length rest) ⊎ (length rest ≤ 512)
    → least ≡ min (length rest) 512 → take least rest ≡ take 512 rest
up_to rest least (inl before) is =
    let whole : least ≡ 512 = omega arith in
    ap (λ n. take n rest) whole
up_to rest least (inr past) is =
    take_all least rest (omega arith) ∙ sym (take_all 512 rest past)

-- what is left from a part's place on, and no more than 512 bytes of it
pub cut_part :
    (bytes : List ℕ) (i least : ℕ) → i < length (parts bytes)
    → least ≡ min (length (take (length bytes - 512 * i) (drop (512 * i) bytes))) 512
    → take least (take (length bytes - 512 * i) (drop (512 * i) bytes)) ≡ get_or (parts bytes) i []
cut_part bytes i least within is =
    let rest : List ℕ = drop (512 * i) bytes in
    let all : take (length bytes - 512 * i) rest ≡ rest =
    take_all (length bytes - 512 * i) rest (omega (arith, length-drop (512 * i) bytes))
    in
    let same : least ≡ min (length rest) 512 = is ∙ ap (λ t. min (length t) 512) all in
    ap (take least) all
    ∙ up_to rest least (cases_lt 512 (length rest)) same
    ∙ sym (get_part bytes i [] within)
