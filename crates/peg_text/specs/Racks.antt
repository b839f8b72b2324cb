-- What a rack line says, as a function of its words.
--     rack_of line      the rack and its keys
use Rattle.std.specs.Prelude.{ℕ, Bool, not, true, false, ◌&&◌, nat_lt, Option, Some, None}
use Rattle.std.specs.Prelude.{option_and_then, option_map, List, [], ◌∷◌, ◌++◌, length, drop}
use Rattle.std.specs.Prelude.{if◌then◌else◌, codes}
use Rattle.std.specs.List.{list_any}
use Rattle.std.specs.Result.{result_ok}
use Rattle.std.specs.Str.{bytes_eq}
use Rattle.peg_name.specs.Name.{Rack}
use Rattle.peg_name.specs.Limits.{config_of}
use Rattle.peg_name.specs.declared.Format.TheVariants.{One}
use Rattle.peg_text.specs.Reading.{words_of, number_of, is_begun_by, key_of, behind, then_by}
use Rattle.peg_text.specs.Reading.{next_by, both_by}
use Rattle.peg_text.specs.Events.{Read}

-- just this word
abbrev pub literal : List ℕ → List ℕ → Option (Unit {0})
literal lit w = if bytes_eq w lit then Some tt else None

-- a number behind its name
abbrev pub field_of : List ℕ → List ℕ → Option ℕ
field_of name w = if is_begun_by w name then number_of (drop (length name) w) else None

-- whether the next word is this one, and the words behind it if it is
abbrev pub taken : List ℕ → List (List ℕ) → Bool × List (List ℕ)
taken lit [] = (false, [])
taken lit (w ∷ ws) = if bytes_eq w lit then (true, ws) else (false, w ∷ ws)

-- the numbers of a rack, in the order of its line
abbrev pub Numbers : Type 0
Numbers = ℕ × (ℕ × (ℕ × (ℕ × (ℕ × ℕ))))

abbrev pub field : List ℕ → List (List ℕ) → Read ℕ
field name ws = next_by (field_of name) ws

abbrev pub read_numbers : List (List ℕ) → Read Numbers
read_numbers ws =
    both_by (field (codes "servers="))
    (both_by (field (codes "clients=")) (both_by (field (codes "switches="))
    (both_by (field (codes "listed=")) (both_by (field (codes "hot="))
    (field (codes "first="))))))
    ws

abbrev pub numbered : Numbers → Rack
numbered n =
    record {
      format = One;
      servers = n.0;
      clients = n.1.0;
      switches = n.1.1.0;
      listed = n.1.1.1.0;
      hot = n.1.1.1.1.0;
      first = n.1.1.1.1.1;
    }

abbrev pub format_number : Bool → ℕ
format_number two = if two then 2 else 1

abbrev pub rack_with : Numbers → Bool × List (List ℕ) → Read Rack
rack_with n two =
    option_map (λ rack. (rack, two.1)) (result_ok (config_of (format_number two.0) (numbered n)))

abbrev pub read_rack : List (List ℕ) → Read Rack
read_rack ws =
    then_by (next_by (literal (codes "rack")) ws)
    (λ _ left. then_by (read_numbers left) (λ n end. rack_with n
    (taken (codes "format=2") end)))

abbrev pub plus_key_of : List ℕ → Option (List ℕ)
plus_key_of w = option_and_then key_of (behind 43 w)

abbrev pub is_held : List ℕ → List (List ℕ) → Bool
is_held key held = list_any (λ k. bytes_eq k key) held

-- the keys with one more, which is another, and with which they are so many at most
abbrev pub added : ℕ → List ℕ → List (List ℕ) → Option (List (List ℕ))
added listed key held =
    if nat_lt (length held) listed && not (is_held key held) then Some (held ++ key ∷ []) else None

-- the keys held so far and those that the words name
abbrev pub keys_on : ℕ → List (List ℕ) → List (List ℕ) → Option (List (List ℕ))
keys_on listed held [] = Some held
keys_on listed held (w ∷ ws) =
    option_and_then
    (λ key. option_and_then (λ more. keys_on listed more ws) (added listed key held))
    (plus_key_of w)

abbrev pub with_keys : Rack × List (List ℕ) → Option (Rack × List (List ℕ))
with_keys r = option_map (λ keys. (r.0, keys)) (keys_on r.0.listed [] r.1)

abbrev pub rack_of : List ℕ → Option (Rack × List (List ℕ))
rack_of line = option_and_then with_keys (read_rack (words_of line))
