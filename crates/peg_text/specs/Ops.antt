-- What an operation line says, as a function of its words.
--     op_of line      the number and the operation
use Rattle.std.specs.Prelude.{ℕ, Bool, true, ◌&&◌, nat_lt, nat_le, Option, Some, None}
use Rattle.std.specs.Prelude.{option_and_then, List, [], ◌∷◌, if◌then◌else◌, codes}
use Rattle.std.specs.Str.{bytes_eq}
use Rattle.peg_name.specs.declared.value.Content.{Content}
use Rattle.peg_name.specs.declared.value.Content.TheVariants.{Absent}
use Rattle.peg_event.specs.declared.history.Act.TheVariants as act
use Rattle.peg_event.specs.declared.history.Op.{Op}
use Rattle.peg_text.specs.Reading.{words_of, number_below, content_of, then_by, next_by, both_by}
use Rattle.peg_text.specs.Reading.{whole_of}
use Rattle.peg_text.specs.Events.{Read, read_as, read_key, read_number}
use Rattle.peg_text.specs.Racks.{literal}

abbrev pub read_content : List (List ℕ) → Read Content
read_content ws = next_by content_of ws

-- the line at which it was issued
abbrev pub read_issued : List (List ℕ) → Read (Unit {0} × ℕ)
read_issued ws = both_by (next_by (literal (codes "issued"))) read_number ws

-- the line at which it was answered, and what a read was given
abbrev pub given_by : List ℕ → List (List ℕ) → Read (Option (ℕ × Content))
given_by word ws =
    if bytes_eq word (codes "open") then Some (None, ws)
    else
    (if bytes_eq word (codes "answered") then read_as Some (both_by read_number read_content ws)
    else None)

abbrev pub read_given : List (List ℕ) → Read (Option (ℕ × Content))
read_given [] = None
read_given (word ∷ ws) = given_by word ws

abbrev pub end_by : List ℕ → List (List ℕ) → Read (Option ℕ)
end_by word ws =
    if bytes_eq word (codes "open") then Some (None, ws)
    else (if bytes_eq word (codes "answered") then read_as Some (read_number ws)
    else None)

abbrev pub read_end : List (List ℕ) → Read (Option ℕ)
read_end [] = None
read_end (word ∷ ws) = end_by word ws

abbrev pub read_made : ℕ → List ℕ → ℕ → Option (ℕ × Content) → Op
read_made client key issued None =
    record {
      client = client;
      key = key;
      act = act.Read;
      content = Absent;
      issued = issued;
      answered = None;
    }
read_made client key issued (Some given) =
    record {
      client = client;
      key = key;
      act = act.Read;
      content = given.1;
      issued = issued;
      answered = Some given.0;
    }

abbrev pub write_made : ℕ → List ℕ → Content → ℕ → Option ℕ → Op
write_made client key content issued answered =
    record {
      client = client;
      key = key;
      act = act.Write;
      content = content;
      issued = issued;
      answered = answered;
    }

abbrev pub op_by : ℕ → List ℕ → List (List ℕ) → Read Op
op_by client verb ws =
    if bytes_eq verb (codes "read") then read_as (λ p. read_made client p.0 p.1.0.1 p.1.1)
    (both_by read_key (both_by read_issued read_given) ws)
    else
    (if bytes_eq verb (codes "write") then read_as (λ p. write_made client p.0 p.1.0 p.1.1.0.1
    p.1.1.1) (both_by read_key (both_by read_content (both_by read_issued read_end)) ws)
    else None)

abbrev pub read_tail : ℕ → List (List ℕ) → Read Op
read_tail client [] = None
read_tail client (verb ∷ ws) = op_by client verb ws

-- its number, and its client
abbrev pub read_head : List (List ℕ) → Read ((Unit {0} × ℕ) × (Unit {0} × ℕ))
read_head ws =
    both_by (both_by (next_by (literal (codes "op"))) (next_by (number_below 4294967296)))
    (both_by (next_by (literal (codes "client"))) (next_by (number_below 1024))) ws

abbrev pub read_op : List (List ℕ) → Read (ℕ × Op)
read_op ws =
    then_by (read_head ws) (λ head left. read_as (λ op. (head.0.1, op)) (read_tail head.1.1 left))

abbrev pub is_after : ℕ → Option ℕ → Bool
is_after issued None = true
is_after issued (Some at) = nat_lt issued at

abbrev pub is_timed : Op → Bool
is_timed op = nat_le 2 op.issued && is_after op.issued op.answered

abbrev pub timed : ℕ × Op → Option (ℕ × Op)
timed p = if is_timed p.1 then Some p else None

abbrev pub op_of : List ℕ → Option (ℕ × Op)
op_of line = option_and_then timed (whole_of (read_op (words_of line)))
