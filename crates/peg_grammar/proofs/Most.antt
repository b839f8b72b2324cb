-- How long a packet in its ranges is, and its parts.
use Rattle.std.proofs.Common.{◌≡◌, ℕ, ◌+◌, ◌*◌, ◌≤◌, true, ◌&&◌, List, [], ◌∷◌, ◌++◌, length}
use Rattle.std.proofs.Common.{nat_lt, nat_le, refl, lit≤, arith, length-append}
use Rattle.std.specs.List.{list_all, flat_map}
use Rattle.std.proofs.lemmas.Bool.{and_parts}
use Rattle.std.proofs.lemmas.Bool.Decides.{nat_tests}
use Rattle.peg_name.specs.Name.{packet_most}
use Rattle.peg_name.specs.declared.Format.{Format}
use Rattle.peg_name.specs.declared.Format.TheVariants.{One, Two}
use Rattle.peg_name.specs.declared.value.Content.{Content}
use Rattle.peg_name.specs.declared.value.Content.TheVariants.{Absent, Present}
use Rattle.peg_name.specs.declared.Row.{Row}
use Rattle.peg_event.specs.declared.Outcome.{Outcome}
use Rattle.peg_event.specs.declared.Outcome.TheVariants as outcome
use Rattle.peg_model.specs.Packet.{What, Promote, Demote, Copy, Seal, Clear, FenceKey, Packet}
use Rattle.peg_model.specs.Packet.{Read, Write, ToServerRead, ToServerWrite, ReadReply, WriteReply}
use Rattle.peg_model.specs.Packet.{Command, CommandAck, CopyOrder, CopyData, Held, Part, Announce}
use Rattle.peg_model.specs.Packet.{Survey, Report, Fence, Void, eight, family}
use Rattle.peg_model.specs.Packet.{key_bytes, content_bytes, what_bytes, outcome_bytes, row_bytes}
use Rattle.peg_model.specs.Packet.{in_range, spelling, family_in_range, is_positive, is_number}
use Rattle.peg_model.specs.Packet.{is_switch, is_server, is_key, is_content, is_written}
use Rattle.peg_model.specs.Packet.{is_read_content, what_in_range, row_in_range}
use Rattle.peg_model.specs.Packet.{part_in_range, are_distinct, keys_of_rows}
use Rattle.peg_grammar.specs.Fits.{FitsKey, FitsContent, FitsWhat, FitsPacket}

-- ---- the parts

pub key_fits : (key : List ℕ) → is_key key ≡ true → FitsKey key
key_fits key h = grind (arith, nat_tests)

pub family_key_fits :
    (format : Format) (client seq version server switch : ℕ) (key : List ℕ)
    → family_in_range format client seq version server switch key ≡ true → FitsKey key
family_key_fits One client seq version server switch key h = grind (arith, nat_tests)
family_key_fits Two client seq version server switch key h = grind (arith, nat_tests)

pub what_fits : (format : Format) (what : What) → what_in_range format what ≡ true → FitsWhat what
what_fits format (Promote key) h = key_fits key h
what_fits format (Demote key) h = key_fits key h
what_fits format (Copy target key) h =
    key_fits key (and_parts (is_server format target) (is_key key) h).1
what_fits format (Seal target epoch) h = tt
what_fits format Clear h = tt
what_fits format (FenceKey key) h = key_fits key h

pub content_fits :
    (format : Format) (content : Content) → is_content format content ≡ true → FitsContent content
content_fits format Absent h = tt
content_fits One (Present value) h = grind (arith, nat_tests)
content_fits Two (Present value) h = grind (arith, nat_tests)

pub written_is_content :
    (format : Format) (content : Content) → is_written format content ≡ true
    → is_content format content ≡ true
written_is_content One Absent h = absurd cc
written_is_content Two Absent h = refl
written_is_content One (Present value) h = h
written_is_content Two (Present value) h = h

pub read_is_content :
    (format : Format) (version : ℕ) (content : Content)
    → is_read_content format version content ≡ true → is_content format content ≡ true
read_is_content format version Absent h = refl
read_is_content format version (Present value) h =
    (and_parts (nat_lt 0 version) (is_content format (Present value)) h).1

-- ---- the whole

length_content :
    (format : Format) (content : Content) → is_content format content ≡ true
    → 60 + length (content_bytes content) ≤ packet_most format
length_content One Absent h = lit≤ tt
length_content Two Absent h = lit≤ tt
length_content One (Present value) h = grind (arith, nat_tests)
length_content Two (Present value) h = grind (arith, nat_tests)

length_rows :
    (rows : List Row) → list_all row_in_range rows ≡ true
    → length (flat_map row_bytes rows) ≤ 49 * length rows
length_rows [] h = omega arith
length_rows (row ∷ rows) h =
    let both = and_parts (row_in_range row) (list_all row_in_range rows) h in
    let numbers =
    and_parts (is_key row.key && is_positive row.count) (nat_le row.error row.count) both.0
    in
    let key = key_fits row.key (and_parts (is_key row.key) (is_positive row.count) numbers.0).0 in
    let rest = length_rows rows both.1 in
    let outer = length-append (row_bytes row) (flat_map row_bytes rows) in
    let middle = length-append (key_bytes row.key ++ eight row.count) (eight row.error) in
    let inner = length-append (key_bytes row.key) (eight row.count) in
    omega (arith, key, rest, outer, middle, inner)

some_room : (format : Format) (n : ℕ) → n ≤ 640 → n ≤ packet_most format
some_room One n h = h
some_room Two n h = omega arith

family_most :
    (format : Format) (kind client seq version server switch : ℕ) (key : List ℕ) → FitsKey key
    → length (family format kind client seq version server switch key) ≤ packet_most format
family_most format kind client seq version server switch key k =
    some_room format (length (family format kind client seq version server switch key))
    (omega arith)

family_content_most :
    (format : Format) (kind client seq version server switch : ℕ) (key : List ℕ)
    (content : Content)
    → FitsKey key → is_content format content ≡ true
    → length (family format kind client seq version server switch key ++ content_bytes content)
    ≤ packet_most format
family_content_most format kind client seq version server switch key content k c =
    let front : List ℕ = family format kind client seq version server switch key in
    omega (arith, length_content format content c, length-append front (content_bytes content))

what_most : (what : What) → FitsWhat what → length (what_bytes what) ≤ 40
what_most (Promote key) h = omega arith
what_most (Demote key) h = omega arith
what_most (Copy target key) h = omega arith
what_most (Seal target epoch) h = omega arith
what_most Clear h = omega arith
what_most (FenceKey key) h = omega arith

outcome_most : (o : Outcome) → length (outcome_bytes o) ≤ 9
outcome_most (outcome.Listed value) = lit≤ tt
outcome_most (outcome.Already value) = lit≤ tt
outcome_most (outcome.Full value) = lit≤ tt
outcome_most (outcome.Marked value) = lit≤ tt
outcome_most outcome.NotListed = lit≤ tt
outcome_most (outcome.AlreadyMarked value) = lit≤ tt
outcome_most (outcome.Ordered value) = lit≤ tt
outcome_most outcome.Holds = lit≤ tt
outcome_most (outcome.Activated value) = lit≤ tt
outcome_most outcome.Cleared = lit≤ tt
outcome_most (outcome.Fenced value) = lit≤ tt
outcome_most outcome.NoBase = lit≤ tt
outcome_most (outcome.NoVersion value) = lit≤ tt

pub part_fits :
    (format : Format) (index count : ℕ) (bytes : List ℕ)
    → part_in_range format index count bytes ≡ true → length bytes ≤ 512
part_fits One index count bytes h = grind (arith, nat_tests)
part_fits Two index count bytes h = grind (arith, nat_tests)

at_most : (a b : ℕ) → nat_le a b ≡ true → a ≤ b
at_most a b h = grind (arith, nat_tests)

-- what the ranges of a report say of its rows
pub record ReportFits (rows : List Row) : Type 0 where
  pub few : length rows ≤ 12
  pub short : length (flat_map row_bytes rows) ≤ 588

pub report_fits :
    (format : Format) (epoch total : ℕ) (rows : List Row)
    → in_range format (Report epoch total rows) ≡ true → ReportFits rows
unfolding in_range
report_fits format epoch total rows h =
    let distinct =
    and_parts
    (is_number epoch && is_number total && nat_le (length rows) 12 && list_all row_in_range rows)
    (are_distinct (keys_of_rows rows)) h
    in
    let fit =
    and_parts (is_number epoch && is_number total && nat_le (length rows) 12)
    (list_all row_in_range rows) distinct.0
    in
    let few = and_parts (is_number epoch && is_number total) (nat_le (length rows) 12) fit.0 in
    let twelve : length rows ≤ 12 = at_most (length rows) 12 few.1 in
    record { few = twelve; short = omega (arith, twelve, length_rows rows fit.1) }

pub length-spelling :
    (format : Format) (p : Packet) → in_range format p ≡ true
    → length (spelling format p) ≤ packet_most format
unfolding spelling in_range
length-spelling format (Read client seq key) h =
    family_most format 1 client seq 0 0 0 key (family_key_fits format client seq 0 0 0 key h)
length-spelling format (Write client seq key content) h =
    let both =
    and_parts (family_in_range format client seq 0 0 0 key) (is_written format content) h
    in
    family_content_most format 2 client seq 0 0 0 key content
    (family_key_fits format client seq 0 0 0 key both.0)
    (written_is_content format content both.1)
length-spelling format (ToServerRead client seq server switch key) h =
    family_most format 3 client seq 0 server switch key
    (family_key_fits format client seq 0 server switch key h)
length-spelling format (ToServerWrite client seq version server switch key content) h =
    let outer =
    and_parts (family_in_range format client seq version server switch key && nat_lt 0 version)
    (is_written format content) h
    in
    let both =
    and_parts (family_in_range format client seq version server switch key) (nat_lt 0 version)
    outer.0
    in
    family_content_most format 4 client seq version server switch key content
    (family_key_fits format client seq version server switch key both.0)
    (written_is_content format content outer.1)
length-spelling format (ReadReply client seq version server switch key content) h =
    let both =
    and_parts (family_in_range format client seq version server switch key)
    (is_read_content format version content) h
    in
    family_content_most format 5 client seq version server switch key content
    (family_key_fits format client seq version server switch key both.0)
    (read_is_content format version content both.1)
length-spelling format (WriteReply client seq version server switch key) h =
    let both =
    and_parts (family_in_range format client seq version server switch key) (nat_lt 0 version) h
    in
    family_most format 6 client seq version server switch key
    (family_key_fits format client seq version server switch key both.0)
length-spelling format (Command number what) h =
    let both = and_parts (is_positive number) (what_in_range format what) h in
    some_room format (length (spelling format (Command number what)))
    (omega (arith, what_most what (what_fits format what both.1)))
length-spelling format (CommandAck number o) h =
    some_room format (length (spelling format (CommandAck number o)))
    (omega (arith, outcome_most o))
length-spelling format (CopyOrder switch server target key) h =
    let k : FitsKey key =
    key_fits key
    (and_parts (is_switch switch && is_server format server && is_server format target)
    (is_key key) h).1
    in
    some_room format (length (spelling format (CopyOrder switch server target key))) (omega arith)
length-spelling format (CopyData switch server version key content) h =
    let outer =
    and_parts (is_switch switch && is_server format server && is_positive version && is_key key)
    (is_content format content) h
    in
    let k : FitsKey key =
    key_fits key
    (and_parts (is_switch switch && is_server format server && is_positive version) (is_key key)
    outer.0).1
    in
    omega (arith, length_content format content outer.1, length-append key (content_bytes content))
length-spelling format (Held server version key) h =
    let k : FitsKey key =
    key_fits key (and_parts (is_server format server && is_positive version) (is_key key) h).1
    in
    some_room format (length (spelling format (Held server version key))) (omega arith)
length-spelling format (Part epoch index count bytes) h =
    let b =
    part_fits format index count bytes
    (and_parts (nat_le 2 epoch && is_number epoch) (part_in_range format index count bytes) h).1
    in
    some_room format (length (spelling format (Part epoch index count bytes))) (omega arith)
length-spelling format (Announce epoch switch) h =
    some_room format (length (spelling format (Announce epoch switch))) (lit≤ tt)
length-spelling format Survey h = some_room format (length (spelling format Survey)) (lit≤ tt)
length-spelling format (Report epoch total rows) h =
    let r = report_fits format epoch total rows h in
    some_room format (length (spelling format (Report epoch total rows))) (omega (arith, r.short))
length-spelling format (Fence switch server version key) h =
    let k : FitsKey key =
    key_fits key
    (and_parts (is_switch switch && is_server format server && is_positive version) (is_key key)
    h).1
    in
    some_room format (length (spelling format (Fence switch server version key))) (omega arith)
length-spelling format (Void client seq version server switch key) h =
    let both =
    and_parts (family_in_range format client seq version server switch key) (nat_lt 0 version) h
    in
    family_most format 17 client seq version server switch key
    (family_key_fits format client seq version server switch key both.0)

-- each part of a packet in its ranges has a place in it
pub packet_fits : (format : Format) (p : Packet) → in_range format p ≡ true → FitsPacket p
unfolding in_range
packet_fits format (Read client seq key) h = family_key_fits format client seq 0 0 0 key h
packet_fits format (Write client seq key content) h =
    let both =
    and_parts (family_in_range format client seq 0 0 0 key) (is_written format content) h
    in
    let fits = written_is_content format content both.1 in
    (family_key_fits format client seq 0 0 0 key both.0, content_fits format content fits)
packet_fits format (ToServerRead client seq server switch key) h =
    family_key_fits format client seq 0 server switch key h
packet_fits format (ToServerWrite client seq version server switch key content) h =
    let outer =
    and_parts (family_in_range format client seq version server switch key && nat_lt 0 version)
    (is_written format content) h
    in
    let both =
    and_parts (family_in_range format client seq version server switch key) (nat_lt 0 version)
    outer.0
    in
    let its_key = family_key_fits format client seq version server switch key both.0 in
    (its_key, content_fits format content (written_is_content format content outer.1))
packet_fits format (ReadReply client seq version server switch key content) h =
    let both =
    and_parts (family_in_range format client seq version server switch key)
    (is_read_content format version content) h
    in
    let its_key = family_key_fits format client seq version server switch key both.0 in
    (its_key, content_fits format content (read_is_content format version content both.1))
packet_fits format (WriteReply client seq version server switch key) h =
    family_key_fits format client seq version server switch key
    (and_parts (family_in_range format client seq version server switch key)
    (nat_lt 0 version) h).0
packet_fits format (Command number what) h =
    what_fits format what (and_parts (is_positive number) (what_in_range format what) h).1
packet_fits format (CommandAck number o) h = tt
packet_fits format (CopyOrder switch server target key) h =
    key_fits key
    (and_parts (is_switch switch && is_server format server && is_server format target)
    (is_key key) h).1
packet_fits format (CopyData switch server version key content) h =
    let outer =
    and_parts (is_switch switch && is_server format server && is_positive version && is_key key)
    (is_content format content) h
    in
    let both =
    and_parts (is_switch switch && is_server format server && is_positive version) (is_key key)
    outer.0
    in
    (key_fits key both.1, content_fits format content outer.1)
packet_fits format (Held server version key) h =
    key_fits key (and_parts (is_server format server && is_positive version) (is_key key) h).1
packet_fits format (Part epoch index count bytes) h =
    part_fits format index count bytes
    (and_parts (nat_le 2 epoch && is_number epoch) (part_in_range format index count bytes) h).1
packet_fits format (Announce epoch switch) h = tt
packet_fits format Survey h = tt
packet_fits format (Report epoch total rows) h =
    let r = report_fits format epoch total rows h in (r.few, r.short)
packet_fits format (Fence switch server version key) h =
    key_fits key
    (and_parts (is_switch switch && is_server format server && is_positive version)
    (is_key key) h).1
packet_fits format (Void client seq version server switch key) h =
    family_key_fits format client seq version server switch key
    (and_parts (family_in_range format client seq version server switch key)
    (nat_lt 0 version) h).0
