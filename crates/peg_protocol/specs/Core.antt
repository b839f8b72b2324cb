-- The switch core: stamps, the directory, and the rules for requests, replies and listings.
use Rattle.std.specs.Prelude.{ℕ, ◌+◌, ◌-◌, ◌%◌, ◌^◌, Bool, false, not, ◌&&◌, ◌||◌, if◌then◌else◌}
use Rattle.std.specs.Prelude.{nat_lt, nat_le, ◌==◌, List, [], ◌∷◌, ◌++◌, length, slice_index}
use Rattle.std.specs.Prelude.{Option, Some, None, is_none, option_to_list}

-- a finite map is a function; a change at one place
abbrev pub at_one : {A : Type 0} → (ℕ → A) → ℕ → A → ℕ → A
at_one f a x = λ b. if b == a then x else f b

abbrev pub at_two : {A : Type 0} → (ℕ → ℕ → A) → ℕ → ℕ → A → ℕ → ℕ → A
at_two f a b x = λ c d. if c == a && d == b then x else f c d

-- the greatest number that a counter has
unfoldable pub top : ℕ
top = 2 ^ 64 - 1

-- a row of version 0 is open: its version was voided, or none was given
pub record Row : Type 0 where
  pub seq : ℕ
  pub version : ℕ

pub record Entry : Type 0 where
  pub key : ℕ
  pub listing : ℕ
  pub base : ℕ
  pub completed : ℕ
  pub holders : List ℕ
  pub mark : Option ℕ

pub record Core : Type 0 where
  pub next : ℕ
  pub rows : ℕ → Row
  pub entries : List Entry
  pub last : ℕ

pub record Rack : Type 0 where
  pub home : ℕ → ℕ
  pub servers : ℕ
  pub room : ℕ  -- how many keys may be listed
  pub keys : List ℕ  -- the keys that are listed at the start
  pub first : ℕ
  pub parts : Core → ℕ  -- in how many parts a state is sent
  pub clients : ℕ

abbrev pub entry_of : ℕ → List Entry → Option Entry
entry_of k [] = None
entry_of k (e ∷ es) = if e.key == k then Some e else entry_of k es

-- the entry of k becomes this one, or is removed
abbrev pub put : ℕ → Option Entry → List Entry → List Entry
put k o [] = []
put k o (e ∷ es) = if e.key == k then option_to_list o ++ put k o es else e ∷ put k o es

-- the stamp rule
pub data Stamp : Type 0 where
  New : ℕ → Stamp
  Same : ℕ → Stamp
  Stale : Stamp
  Exhausted : Stamp

abbrev pub stamp : Core → ℕ → ℕ → Stamp
stamp core c n =
    if nat_lt (core.rows c).seq n || (n == (core.rows c).seq && (core.rows c).version == 0)
    then (if core.next == top then Exhausted else New core.next)
    else (if n == (core.rows c).seq then Same (core.rows c).version else Stale)

-- a Void of this version came: its row is opened, where it still has that version
abbrev pub voided_row : Row → ℕ → ℕ → Row
voided_row r n u = if r.seq == n && r.version == u then record { seq = n; version = 0 } else r

abbrev pub open_row : Core → ℕ → ℕ → ℕ → Core
open_row core c n u = record core { rows = at_one core.rows c (voided_row (core.rows c) n u) }

-- the request rule
abbrev pub read_server : Rack → ℕ → ℕ → Option Entry → ℕ
read_server rack k pick None = rack.home k
read_server rack k pick (Some e) = slice_index e.holders (pick % length e.holders)

abbrev pub write_server : Rack → ℕ → ℕ → ℕ → Option Entry → ℕ
write_server rack k version pick None = rack.home k
write_server rack k version pick (Some e) =
    if is_none e.mark && (nat_lt e.base version && nat_lt e.completed version) then
    pick % rack.servers else rack.home k

-- a holder more, in rising order
abbrev pub add_holder : ℕ → List ℕ → List ℕ
add_holder s [] = s ∷ []
add_holder s (t ∷ ts) = if nat_lt s t then s ∷ t ∷ ts else
    (if s == t then t ∷ ts else t ∷ add_holder s ts)

-- the reply rule
abbrev pub raised : ℕ → ℕ → Entry → Entry
raised s u e =
    if nat_lt e.completed u
    then record e { completed = u; holders = s ∷ [] }
    else (if u == e.completed then record e { holders = add_holder s e.holders } else e)

abbrev pub reaches : Option ℕ → ℕ → Bool
reaches None u = false
reaches (Some m) u = nat_le m u

abbrev pub noted : ℕ → ℕ → ℕ → Entry → Option Entry
noted home s u e = if s == home && reaches e.mark u then None else Some (raised s u e)

abbrev pub note : Rack → ℕ → ℕ → ℕ → Option Entry → Core → Core
note rack s u k None core = core
note rack s u k (Some e) core =
    record core { entries = put k (noted (rack.home k) s u e) core.entries }

-- the listing rule: a promotion takes a version of its own as the base
abbrev pub fresh : Rack → ℕ → Core → Entry
fresh rack k core = record {
  key = k;
  listing = core.last + 1;
  base = core.next;
  completed = core.next;
  holders =
      rack.home k ∷ [];
  mark = None;
}

-- whether a promotion lists a key that has no entry
abbrev pub lists : Rack → Core → Bool
lists rack core = not (length core.entries == rack.room) && not (core.next == top)

abbrev pub promote : Rack → ℕ → Option Entry → Core → Core
promote rack k (Some e) core = record core { last = core.last + 1 }
promote rack k None core =
    if lists rack core
    then record core {
      next = core.next + 1;
      last = core.last + 1;
      entries =
          core.entries ++ fresh rack k core ∷ [];
    }
    else record core { last = core.last + 1 }

-- the versions given to promotions
abbrev pub promotions : Rack → Option Entry → Core → List ℕ → List ℕ
promotions rack (Some e) core given = given
promotions rack None core given = if lists rack core then core.next ∷ given else given

-- the entries at the start
abbrev pub first_entries : Rack → List ℕ → List Entry
first_entries rack [] = []
first_entries rack (k ∷ ks) =
    record {
      key = k;
      listing = 0;
      base = rack.first - 1;
      completed = rack.first - 1;
      holders =
          rack.home k ∷ [];
      mark = None;
    } ∷ first_entries rack ks

abbrev pub marked : ℕ → Entry → Option ℕ → Option Entry
marked next e None = Some (record e { mark = Some next })
marked next e (Some m) = Some e

abbrev pub demote : ℕ → Option Entry → Core → Core
demote k None core = record core { last = core.last + 1 }
demote k (Some e) core =
    record core { last = core.last + 1; entries = put k (marked core.next e e.mark) core.entries }
