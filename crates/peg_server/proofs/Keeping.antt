-- A store that fits its format goes on doing so, and what it holds can be sent.
use Rattle.std.proofs.Common.{◌≡◌, ℕ, Bool, true, false, ◌&&◌, List, [], ◌∷◌, refl, cond, nat_lt}
use Rattle.std.proofs.Common.{arith, ◌≤◌, Option, Some, unwrap_or, if◌then◌else◌}
use Rattle.std.specs.Map.{lookup}
use Rattle.std.specs.Cmp.Derive.{both_true}
use Rattle.std.specs.Ordering.{match_ordering}
use Rattle.std.specs.BTreeMap.{insert_entry, is_at}
use Rattle.std.specs.declared.cmp.Ordering.{Ordering}
use Rattle.std.specs.declared.cmp.Ordering.TheVariants.{Less, Equal, Greater}
use Rattle.std.proofs.lemmas.Bool.{lt-ltb}
use Rattle.peg_name.specs.Name.{key_cmp}
use Rattle.peg_name.specs.declared.Format.{Format}
use Rattle.peg_name.specs.declared.Format.TheVariants.{One, Two}
use Rattle.peg_name.specs.declared.value.Content.{Content}
use Rattle.peg_name.specs.declared.value.Content.TheVariants.{Absent, Present}
use Rattle.peg_event.specs.declared.answers.Stored.{Stored}
use Rattle.peg_model.specs.Packet.{is_content, is_written, is_read_content}
use Rattle.peg_model.specs.Server.{Store, held, nothing_held, applied, fenced}
use Rattle.peg_server.specs.Fits.{stored_fits, store_fits}

-- ---- tests of pairs

pub left : (a b : Bool) → (a && b) ≡ true → a ≡ true
left true b h = refl
left false b h = cc

pub right : (a b : Bool) → (a && b) ≡ true → b ≡ true
right true b h = h
right false b h = cc

-- ---- what goes in

inserted_at :
    (format : Format) (o : Ordering) (e : List ℕ × Stored) (es rest : Store) (key : List ℕ)
    (now : Stored)
    → stored_fits format e.1 ≡ true → store_fits format es ≡ true
    → stored_fits format now ≡ true → store_fits format rest ≡ true
    → store_fits format
    (match_ordering o ((key, now) ∷ e ∷ es) ((e.0, now) ∷ es) (e ∷ rest)) ≡ true
inserted_at format Less e es rest key now first others new more =
    both_true new (both_true first others)
inserted_at format Equal e es rest key now first others new more = both_true new others
inserted_at format Greater e es rest key now first others new more = both_true first more

pub fits_inserted :
    (format : Format) (store : Store) (key : List ℕ) (now : Stored)
    → store_fits format store ≡ true → stored_fits format now ≡ true
    → store_fits format (insert_entry key_cmp store key now) ≡ true
fits_inserted format [] key now all new = both_true new refl
fits_inserted format (e ∷ es) key now all new =
    let first : stored_fits format e.1 ≡ true =
    left (stored_fits format e.1) (store_fits format es) all in
    let others : store_fits format es ≡ true =
    right (stored_fits format e.1) (store_fits format es) all in
    inserted_at format (key_cmp key e.0) e es (insert_entry key_cmp es key now) key now first others
    new (fits_inserted format es key now others new)

if_fits :
    (format : Format) (t : Bool) (a b : Store)
    → store_fits format a ≡ true → store_fits format b ≡ true
    → store_fits format (if t then a else b) ≡ true
if_fits format true a b ha hb = ha
if_fits format false a b ha hb = hb

-- ---- what is held

-- what is held may be sent in the reply to a read
abbrev pub is_sendable : Format → Stored → Bool
is_sendable format stored = is_read_content format stored.version stored.content

sendable_from :
    (format : Format) (version : ℕ) (content : Content)
    → (nat_lt 0 version && is_content format content) ≡ true
    → is_read_content format version content ≡ true
sendable_from format version Absent fits = refl
sendable_from format version (Present value) fits = fits

looked_up :
    (format : Format) (t : Bool) (stored : Stored) (rest : Option Stored)
    → stored_fits format stored ≡ true
    → is_sendable format (unwrap_or rest nothing_held) ≡ true
    → is_sendable format (unwrap_or (cond t (Some stored) rest) nothing_held) ≡ true
looked_up format true stored rest fits others = sendable_from format stored.version stored.content
    fits
looked_up format false stored rest fits others = others

found_sendable :
    (format : Format) (store : Store) (test : List ℕ → Bool)
    → store_fits format store ≡ true
    → is_sendable format (unwrap_or (lookup test store) nothing_held) ≡ true
found_sendable format [] test all = refl
found_sendable format (e ∷ es) test all =
    looked_up format (test e.0) e.1 (lookup test es)
    (left (stored_fits format e.1) (store_fits format es) all)
    (found_sendable format es test (right (stored_fits format e.1) (store_fits format es) all))

pub held_sendable :
    (format : Format) (store : Store) (key : List ℕ)
    → store_fits format store ≡ true → is_sendable format (held store key) ≡ true
held_sendable format store key all = found_sendable format store (is_at (key_cmp key)) all

content_from :
    (format : Format) (version : ℕ) (content : Content)
    → is_read_content format version content ≡ true → is_content format content ≡ true
content_from format version Absent fits = refl
content_from format version (Present value) fits =
    right (nat_lt 0 version) (is_content format (Present value)) fits

pub held_content :
    (format : Format) (store : Store) (key : List ℕ)
    → store_fits format store ≡ true → is_content format (held store key).content ≡ true
held_content format store key all =
    content_from format (held store key).version (held store key).content
    (held_sendable format store key all)

-- what a write may carry is a content
pub written_content :
    (format : Format) (content : Content)
    → is_written format content ≡ true → is_content format content ≡ true
written_content One Absent w = refl
written_content Two Absent w = refl
written_content One (Present value) w = w
written_content Two (Present value) w = w

-- ---- what is kept after a step

pub fits_applied :
    (format : Format) (store : Store) (key : List ℕ) (version : ℕ) (content : Content)
    → store_fits format store ≡ true → 1 ≤ version → is_content format content ≡ true
    → store_fits format (applied store key version content) ≡ true
fits_applied format store key version content all some fits =
    let now : Stored = record (held store key) { version = version; content = content } in
    if_fits format (nat_lt (held store key).version version)
    (insert_entry key_cmp store key now) store
    (fits_inserted format store key now all (both_true (lt-ltb 0 version (omega arith)) fits)) all

pub fits_fenced :
    (format : Format) (store : Store) (key : List ℕ) (version : ℕ)
    → store_fits format store ≡ true → 1 ≤ version
    → store_fits format (fenced store key version) ≡ true
fits_fenced format store key version all some =
    let was : Stored = held store key in
    let now : Stored = record {
      version = version;
      content = was.content;
      low = was.version;
      floor = version;
      old = was.floor;
    } in
    if_fits format (nat_lt was.version version) (insert_entry key_cmp store key now) store
    (fits_inserted format store key now all
    (both_true (lt-ltb 0 version (omega arith)) (held_content format store key all))) all
