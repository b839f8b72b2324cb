-- The forms in memory, exactly.
--     Feed, Basin, Script      what a source, a sink and a wire in memory are seen as
--     is_failing fails calls      whether the call after so many is one that fails
--     gives, takes, hears      what the next call answers
--     after_read      the source after a call
--     HasWritten, HasBound, HasHeard, HasSent      the sink and the wire after a call
use Rattle.std.specs.Prelude.{◌≡◌, ◌+◌, ◌-◌, ◌^◌, ◌⊎◌, ℕ, Bool, false, ◌&&◌, ◌==◌, nat_lt, min}
use Rattle.std.specs.Prelude.{Option, Some, None, List, [], ◌∷◌, ◌++◌, length, take, drop}
use Rattle.std.specs.Prelude.{if◌then◌else◌, IsTrue}
use Rattle.std.specs.List.{list_any}
use Rattle.peg_io.specs.Outside.{counted, with_port}
use Rattle.peg_meaning.specs.Wire.{Carried, Datagram, Pause, with_turn}
use Rattle.peg_io.specs.Outside.{with_send}
use Rattle.peg_io.specs.declared.Got.{Got}
use Rattle.peg_io.specs.declared.Got.TheVariants as got
use Rattle.peg_io.specs.declared.Took.{Took}
use Rattle.peg_io.specs.declared.Took.TheVariants as took
use Rattle.peg_io.specs.declared.Heard.{Heard}
use Rattle.peg_io.specs.declared.Heard.TheVariants as heard

-- the calls are numbered from 1, and one past the last number of 64 bits doesn't fail
abbrev pub is_failing : List ℕ → ℕ → Bool
is_failing fails calls = nat_lt calls (2 ^ 64 - 1) && list_any (λ n. n == calls + 1) fails

-- ---- a source

pub record Feed : Type 0 where
  pub left : List ℕ
  pub step : ℕ
  pub fails : List ℕ
  pub calls : ℕ
  pub faults : ℕ

abbrev pub gives : Feed → ℕ → Got
gives s room =
    if is_failing s.fails s.calls then got.Failed
    else
    (if length s.left == 0 then got.End else got.Bytes (min s.step (min room (length s.left))))

abbrev pub after_read : Feed → Got → Feed
after_read s (got.Bytes n) = record s { left = drop n s.left; calls = counted s.calls }
after_read s got.End = record s { calls = counted s.calls }
after_read s got.Failed = record s { calls = counted s.calls; faults = counted s.faults }

-- the buffer begins with the bytes that were given
abbrev pub HasGiven : Feed → Got → List ℕ → Type 0
HasGiven s (got.Bytes n) buf = take n buf ≡ take n s.left
HasGiven s got.End buf = Unit {0}
HasGiven s got.Failed buf = Unit {0}

-- ---- a sink

-- the bytes that are kept, and whether they are all that was written
pub record Basin : Type 0 where
  pub kept : List ℕ
  pub tells : Bool
  pub step : ℕ
  pub fails : List ℕ
  pub calls : ℕ
  pub faults : ℕ

abbrev pub told_of : Basin → Option (List ℕ)
told_of s = if s.tells then Some s.kept else None

abbrev pub takes : Basin → ℕ → Took
takes s count = if is_failing s.fails s.calls then took.Failed else took.Bytes (min s.step count)

-- a form that tells has grown, or for want of memory nothing was added and it tells no more
abbrev pub Became : {A : Type 0} → Bool → A → A → A → Type 0
Became tells grown hidden now = (IsTrue tells × (now ≡ grown)) ⊎ (now ≡ hidden)

abbrev pub HasWritten : Basin → Basin → Took → List ℕ → Type 0
HasWritten s now (took.Bytes n) bytes =
    Became s.tells (record s { kept = s.kept ++ take n bytes; calls = counted s.calls })
    (record s { tells = false; calls = counted s.calls }) now
HasWritten s now took.Failed bytes =
    now ≡ record s { calls = counted s.calls; faults = counted s.faults }

-- ---- a wire

-- what a wire is to hear
pub data Coming : Type 0 where
  Carries : (bytes : List ℕ) → Coming
  Pauses : Coming
  Fails : Coming

pub record Script : Type 0 where
  pub carried : Carried
  pub tells : Bool
  pub slots : ℕ
  pub coming : List Coming
  pub fails : List ℕ
  pub sends : ℕ
  pub faults : ℕ
  pub lost : ℕ

abbrev pub carried_of : Script → Option Carried
carried_of w = if w.tells then Some w.carried else None

abbrev pub binds : Script → Option ℕ
binds w = if nat_lt w.slots 4000000000 then Some w.slots else None

abbrev pub hears : List Coming → ℕ → Heard
hears [] room = heard.Nothing
hears (Carries bytes ∷ coming) room = heard.Bytes (min (length bytes) room)
hears (Pauses ∷ coming) room = heard.Nothing
hears (Fails ∷ coming) room = heard.Failed

abbrev pub HasBound : Script → Script → Option ℕ → ℕ → Type 0
HasBound w now None port = now ≡ record w { faults = counted w.faults }
HasBound w now (Some slot) port =
    Became w.tells (record w { carried = with_port w.carried port; slots = w.slots + 1 })
    (record w { tells = false; slots = w.slots + 1 }) now

abbrev pub HasHeard : Script → Script → Heard → ℕ → List ℕ → Type 0
HasHeard w now (heard.Bytes n) slot buf =
    Became w.tells
    (record w {
      carried = with_turn w.carried (Datagram slot (take n buf));
      coming = drop 1 w.coming;
    })
    (record w { tells = false; coming = drop 1 w.coming }) now
HasHeard w now heard.Nothing slot buf =
    Became w.tells
    (record w { carried = with_turn w.carried (Pause slot); coming = drop 1 w.coming })
    (record w { tells = false; coming = drop 1 w.coming }) now
HasHeard w now heard.Failed slot buf =
    now ≡ record w { coming = drop 1 w.coming; faults = counted w.faults }

abbrev pub lost_after : Bool → ℕ → ℕ
lost_after carries lost = if carries then lost else counted lost

abbrev pub HasSent : Script → Script → Bool → ℕ → ℕ → List ℕ → Type 0
HasSent w now carries slot port bytes =
    Became w.tells
    (record w {
      carried = with_send w.carried slot port bytes;
      sends = counted w.sends;
      lost = lost_after carries w.lost;
    })
    (record w { tells = false; sends = counted w.sends; lost = lost_after carries w.lost }) now

-- a datagram that was carried stands in the buffer, cut to it
abbrev pub HasCarried : List Coming → Heard → List ℕ → Type 0
HasCarried (Carries bytes ∷ coming) (heard.Bytes n) buf = take n buf ≡ take n bytes
HasCarried _ _ buf = Unit {0}
