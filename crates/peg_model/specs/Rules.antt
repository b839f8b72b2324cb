-- The rules of the directory: stamps, where a request goes, what a reply changes, and how a key is
-- listed, marked, copied and fenced.
--     Stamps      the next version, and each client's last stamped sequence number with its
--         version
--     Listing      of peg_event: what is kept of a listed key, its holders in rising order
--     Directory      the listed keys in the order of listing
--     Core      the numbers of the rack, the stamps and the directory
--     stamp, void, take_version      what a write is stamped with, a stamp that is taken back, and
--         a version for a promotion
--     read_request, write_request, request      where a request goes
--     note_reply      what a reply or Held of a server notes, and the entries after it
--     list_key, mark_key      an entry that is put last, and one that is marked
--     promote, demote, copy_source, fence_of      the answers to commands
use Rattle.std.specs.Prelude.{◌+◌, ◌%◌, ℕ, Bool, true, false, not, ◌&&◌, ◌==◌, nat_lt, nat_le}
use Rattle.std.specs.Prelude.{nat_eq, Option, Some, None, is_some, option_map, List, [], ◌∷◌, ◌++◌}
use Rattle.std.specs.Prelude.{length, slice_index, slice_index_or, slice_set, if◌then◌else◌}
use Rattle.std.specs.List.{list_any}
use Rattle.std.specs.Map.{lookup, set_value, remove_entry}
use Rattle.std.specs.Str.{bytes_eq}
use Rattle.peg_name.specs.Name.{Rack, home_of}
use Rattle.peg_name.specs.Holders.{with_holder}
use Rattle.peg_name.specs.declared.Note.{Note}
use Rattle.peg_name.specs.declared.Note.TheVariants.{Unlisted, Kept, Raised, Added, Removed}
use Rattle.peg_event.specs.declared.answers.Listing.{Listing}
use Rattle.peg_event.specs.declared.answers.Stamp.{Stamp}
use Rattle.peg_event.specs.declared.answers.Stamp.TheVariants.{New, Same, Stale, Exhausted}
use Rattle.peg_event.specs.declared.answers.Forward.{Forward}
use Rattle.peg_event.specs.declared.answers.Forward.TheVariants as forward
use Rattle.peg_event.specs.declared.answers.Promoted.{Promoted}
use Rattle.peg_event.specs.declared.answers.Promoted.TheVariants as promoted
use Rattle.peg_event.specs.declared.answers.MarkDid.{MarkDid}
use Rattle.peg_event.specs.declared.answers.MarkDid.TheVariants as mark_did
use Rattle.peg_event.specs.declared.answers.CopyFrom.{CopyFrom}
use Rattle.peg_event.specs.declared.answers.CopyFrom.TheVariants as copy_from
use Rattle.peg_event.specs.declared.answers.FenceOf.{FenceOf}
use Rattle.peg_event.specs.declared.answers.FenceOf.TheVariants as fence_at
use Rattle.peg_model.specs.Words.{last_number}

-- ---- stamps

pub record Stamps : Type 0 where
  pub next : ℕ
  pub rows : List (ℕ × ℕ)

-- the client's last stamped sequence number and its version, (0, 0) at first; a row of version 0
-- is open
abbrev pub row_of : Stamps → ℕ → ℕ × ℕ
row_of s client = slice_index_or s.rows client (0, 0)

abbrev pub with_row : Stamps → ℕ → ℕ → ℕ → Stamps
with_row s client seq version = record s { rows = slice_set s.rows client (seq, version) }

-- a greater sequence number gets the next version, and so does an equal one whose row is open
abbrev pub stamp_over : ℕ × ℕ → Stamps → ℕ → ℕ → Stamp × Stamps
stamp_over row s client seq =
    if nat_lt seq row.0 then (Stale row.0, s)
    else (if seq == row.0 && nat_lt 0 row.1 then (Same row.1, s)
    else (if s.next == last_number then (Exhausted, s)
    else (New s.next, record { next = s.next + 1; rows = slice_set s.rows client (seq, s.next) })))

abbrev pub stamp : Stamps → ℕ → ℕ → Stamp × Stamps
stamp s client seq = stamp_over (row_of s client) s client seq

-- whether the row was that pair; it is open then
abbrev pub void_over : ℕ × ℕ → Stamps → ℕ → ℕ → ℕ → Bool × Stamps
void_over row s client seq version =
    if row.0 == seq && row.1 == version then (true, with_row s client seq 0) else (false, s)

abbrev pub void : Stamps → ℕ → ℕ → ℕ → Bool × Stamps
void s client seq version = void_over (row_of s client) s client seq version

abbrev pub past_next : Stamps → Stamps
past_next s = record s { next = s.next + 1 }

-- the next version, for a promotion
abbrev pub take_version : Stamps → Option ℕ × Stamps
take_version s = if s.next == last_number then (None, s) else (Some s.next, past_next s)

-- ---- the directory

abbrev pub Directory : Type 0
Directory = List (List ℕ × Listing)

abbrev pub entry_of : Directory → List ℕ → Option Listing
entry_of entries key = lookup (bytes_eq key) entries

-- the base of a listed key
abbrev pub base_of : Directory → List ℕ → Option ℕ
base_of entries key = option_map (λ entry. entry.base) (entry_of entries key)

abbrev pub is_held_by : Listing → ℕ → Bool
is_held_by entry server = list_any (nat_eq server) entry.holders

-- an entry as it begins: nothing is completed above its base, and the home server is its holder
abbrev pub new_listing : ℕ → ℕ → ℕ → Listing
new_listing listing home base =
    record { listing = listing; base = base; completed = base; holders = home ∷ []; mark = None }

abbrev pub list_unless : Option Listing → ℕ → Directory → List ℕ → Listing → Promoted × Directory
list_unless (Some old) room entries key new = (promoted.Already old.listing, entries)
list_unless None room entries key new =
    if length entries == room then (promoted.Full (length entries), entries)
    else (promoted.Listed, entries ++ (key, new) ∷ [])

-- the key goes last with these numbers, unless it is listed or there is no room
abbrev pub list_key : ℕ → Directory → List ℕ → ℕ → ℕ → ℕ → Promoted × Directory
list_key room entries key listing home base =
    list_unless (entry_of entries key) room entries key (new_listing listing home base)

abbrev pub mark_over : Option ℕ → Directory → List ℕ → Listing → ℕ → MarkDid × Directory
mark_over None entries key entry next =
    (mark_did.Marked next, set_value (bytes_eq key) entries (record entry { mark = Some next }))
mark_over (Some mark) entries key entry next = (mark_did.AlreadyMarked mark, entries)

abbrev pub mark_of : Option Listing → Directory → List ℕ → ℕ → MarkDid × Directory
mark_of None entries key next = (mark_did.NotListed, entries)
mark_of (Some entry) entries key next = mark_over entry.mark entries key entry next

-- the key's entry is to go once its home server reports this version
abbrev pub mark_key : Directory → List ℕ → ℕ → MarkDid × Directory
mark_key entries key next = mark_of (entry_of entries key) entries key next

-- ---- replies

abbrev pub held_also_by : Listing → ℕ → Listing
held_also_by entry server = record entry { holders = with_holder server entry.holders }

-- what a report that the server has the version makes of the entry
abbrev pub reported : Listing → ℕ → ℕ → Note × Listing
reported entry server version =
    if nat_lt entry.completed version then
    (Raised, record entry { completed = version; holders = server ∷ [] })
    else (if version == entry.completed then
    (if is_held_by entry server then Kept else Added, held_also_by entry server)
    else (Kept, entry))

-- whether the report ends the entry: a mark is reached at the home server
abbrev pub ends : ℕ → Option ℕ → ℕ → ℕ → Bool
ends home None server version = false
ends home (Some mark) server version = server == home && nat_le mark version

abbrev pub note_of : Option Listing → Directory → List ℕ → ℕ → ℕ → ℕ → Note × Directory
note_of None entries key home server version = (Unlisted, entries)
note_of (Some entry) entries key home server version =
    let now = reported entry server version in
    if ends home entry.mark server version then
    (Removed entry.listing, remove_entry (bytes_eq key) entries)
    else (now.0, set_value (bytes_eq key) entries now.1)

abbrev pub note_reply : Directory → List ℕ → ℕ → ℕ → ℕ → Note × Directory
note_reply entries key home server version =
    note_of (entry_of entries key) entries key home server version

-- ---- the core of a switch

pub record Core : Type 0 where
  pub rack : Rack
  pub stamps : Stamps
  pub entries : Directory

abbrev pub home_in : Core → List ℕ → ℕ
home_in core key = home_of core.rack.servers key

-- a read goes to the holder that the pick names, and home where the key isn't listed
abbrev pub server_of_read : Rack → Option Listing → List ℕ → ℕ → ℕ
server_of_read rack None key pick = home_of rack.servers key
server_of_read rack (Some entry) key pick = slice_index entry.holders (pick % length entry.holders)

-- a write of a listed key without a mark, above its base and its completed version, goes to any
-- server, and each other write goes home
abbrev pub server_of_write : Rack → Option Listing → List ℕ → ℕ → ℕ → ℕ
server_of_write rack None key version pick = home_of rack.servers key
server_of_write rack (Some entry) key version pick =
    if not (is_some entry.mark) && nat_lt entry.base version && nat_lt entry.completed version
    then pick % rack.servers
    else home_of rack.servers key

abbrev pub read_request : Core → List ℕ → ℕ → Forward
read_request core key pick =
    forward.To (server_of_read core.rack (entry_of core.entries key) key pick) 0

abbrev pub to_server : Core → List ℕ → ℕ → ℕ → Forward
to_server core key version pick =
    forward.To (server_of_write core.rack (entry_of core.entries key) key version pick) version

abbrev pub stamped_request : Stamp × Stamps → Core → List ℕ → ℕ → Forward × Core
stamped_request (New version, stamps) core key pick =
    (to_server core key version pick, record core { stamps = stamps })
stamped_request (Same version, stamps) core key pick = (to_server core key version pick, core)
stamped_request (Stale last, stamps) core key pick = (forward.Stale last, core)
stamped_request (Exhausted, stamps) core key pick = (forward.Exhausted core.stamps.next, core)

-- a write is stamped first
abbrev pub write_request : Core → List ℕ → ℕ → ℕ → ℕ → Forward × Core
write_request core key client seq pick =
    stamped_request (stamp core.stamps client seq) core key pick

abbrev pub request : Core → Bool → List ℕ → ℕ → ℕ → ℕ → Forward × Core
request core write key client seq pick =
    if write then write_request core key client seq pick else (read_request core key pick, core)

abbrev pub on_report : Core → ℕ → List ℕ → ℕ → Note × Core
on_report core server key version =
    let noted = note_reply core.entries key (home_in core key) server version in
    (noted.0, record core { entries = noted.1 })

abbrev pub on_void : Core → ℕ → ℕ → ℕ → Bool × Core
on_void core client seq version =
    let voided = void core.stamps client seq version in
    (voided.0, record core { stamps = voided.1 })

-- ---- commands

-- a promotion takes the next version as the base of the entry, which goes last
abbrev pub listed_also : Core → List ℕ → ℕ → Core
listed_also core key listing =
    let entry = new_listing listing (home_in core key) core.stamps.next in
    record core { stamps = past_next core.stamps; entries = core.entries ++ (key, entry) ∷ [] }

abbrev pub promote_unless : Option Listing → Core → List ℕ → ℕ → Promoted × Core
promote_unless (Some old) core key listing = (promoted.Already old.listing, core)
promote_unless None core key listing =
    if length core.entries == core.rack.listed then (promoted.Full (length core.entries), core)
    else (if core.stamps.next == last_number then (promoted.NoVersion core.stamps.next, core)
    else (promoted.Listed, listed_also core key listing))

abbrev pub promote : Core → List ℕ → ℕ → Promoted × Core
promote core key listing = promote_unless (entry_of core.entries key) core key listing

abbrev pub demote : Core → List ℕ → MarkDid × Core
demote core key =
    let marked = mark_key core.entries key core.stamps.next in
    (marked.0, record core { entries = marked.1 })

-- who is to copy the key to the target: its least holder
abbrev pub copy_source_of : Option Listing → ℕ → CopyFrom
copy_source_of None target = copy_from.NotListed
copy_source_of (Some entry) target =
    if is_held_by entry target then copy_from.Holds
    else copy_from.From (slice_index entry.holders 0)

abbrev pub copy_source : Core → List ℕ → ℕ → CopyFrom
copy_source core key target = copy_source_of (entry_of core.entries key) target

-- where the key is to be fenced, and at which version: at home, at its base
abbrev pub fence_of_entry : Option Listing → ℕ → FenceOf
fence_of_entry None home = fence_at.NotListed
fence_of_entry (Some entry) home =
    if entry.base == 0 then fence_at.NoBase else fence_at.At home entry.base

abbrev pub fence_of : Core → List ℕ → FenceOf
fence_of core key = fence_of_entry (entry_of core.entries key) (home_in core key)
