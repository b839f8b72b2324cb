-- The lines at the front of an input.
use Rattle.std.proofs.Common.{◌≡◌, ◌⊎◌, ◌≤◌, ◌<◌, ℕ, List, [], ◌∷◌, ◌++◌}
use Rattle.std.proofs.Common.{length, refl, sym, ap, ◌∙◌, subst, arith, codes, inl, inr, true}
use Rattle.std.proofs.Common.{false}
use Rattle.std.proofs.Common.{Bool, ◌==◌, if◌then◌else◌, append_assoc}
use Rattle.std.proofs.lemmas.Bool.Decides.{nat_tests}
use Rattle.std.specs.List.{AllByRecursion}
use Rattle.peg_name.specs.Name.{Rack, line_most}
use Rattle.peg_event.specs.declared.Event.{Event}
use Rattle.peg_model.specs.Schedule.{IsEventLine, Schedule, EventsThenEnd, fed}
use Rattle.peg_io.specs.Lines.{line_of, past_line}
use Rattle.peg_run.specs.Front.{Lines, AreLinesOf, IsRead}
use Rattle.peg_run.specs.Forced.{IsOnlyEvent, IsForced}

-- ---- one line more

pub all_more :
    (P : Event → Type 0) (events : List Event) (e : Event) → AllByRecursion P events → P e
    → AllByRecursion P (events ++ e ∷ [])
all_more P [] e all is = (is, tt)
all_more P (d ∷ events) e all is = (all.0, all_more P events e all.1 is)

pub lines_more :
    (P : List ℕ → Event → Type 0) (limit : ℕ) (events : List Event) (e : Event)
    (input tail : List ℕ) → AreLinesOf P limit events input tail → P (line_of tail) e
    → length (line_of tail) ≤ limit
    → AreLinesOf P limit (events ++ e ∷ []) input (past_line tail)
lines_more P limit [] e input tail read is short =
    let e1 : input ≡ tail = read in (
      subst (λ xs. P (line_of xs) e) (sym e1) is,
      subst (λ xs. length (line_of xs) ≤ limit) (sym e1) short,
      ap past_line e1,
    )
lines_more P limit (d ∷ events) e input tail read is short =
    (read.0, read.1, lines_more P limit events e (past_line input) tail read.2 is short)

pub lines_as :
    (P Q : List ℕ → Event → Type 0) (limit : ℕ) (events : List Event) (input tail : List ℕ)
    → ((line : List ℕ) (e : Event) → P line e → Q line e) → AreLinesOf P limit events input tail
    → AreLinesOf Q limit events input tail
lines_as P Q limit [] input tail weaken read = read
lines_as P Q limit (e ∷ events) input tail weaken read = (
  weaken (line_of input) e read.0,
  read.1,
  lines_as P Q limit events (past_line input) tail weaken read.2,
)

-- what is forced is read
pub forced_is_read :
    (rack : Rack) (keys : List (List ℕ)) (events : List Event) (input tail : List ℕ)
    → IsForced rack keys events input tail → IsRead (Lines rack keys events) input tail
forced_is_read rack keys events input tail read = (
  read.0.is,
  read.1,
  lines_as (IsOnlyEvent rack) (IsEventLine rack) (line_most rack.format) events (past_line input)
      tail (λ line e only. only.is) read.2,
)

pub forced_more :
    (rack : Rack) (keys : List (List ℕ)) (events : List Event) (e : Event) (input tail : List ℕ)
    → IsForced rack keys events input tail → IsOnlyEvent rack (line_of tail) e
    → length (line_of tail) ≤ line_most rack.format
    → IsForced rack keys (events ++ e ∷ []) input (past_line tail)
forced_more rack keys events e input tail read is short = (
  read.0,
  read.1,
  lines_more (IsOnlyEvent rack) (line_most rack.format) events e (past_line input) tail read.2 is
      short,
)

-- ---- the bytes of a line that something follows

fed_cases :
    (t : Bool) (b : ℕ) (line past : List ℕ) (input : List ℕ)
    → 0 < length (if t then input else past)
    → (b == 10) ≡ t
    → ((0 < length past) → input ≡ line ++ 10 ∷ past)
    → b ∷ input ≡ (if t then [] else b ∷ line) ++ 10 ∷ (if t then input else past)
fed_cases true b line past input more is rest =
    let e : b ≡ 10 = grind (arith, nat_tests) in ap (λ n. n ∷ input) e
fed_cases false b line past input more is rest = ap (λ xs. b ∷ xs) (rest more)

pub line_and_past :
    (input : List ℕ) → 0 < length (past_line input)
    → input ≡ line_of input ++ 10 ∷ past_line input
line_and_past [] more = absurd (omega arith)
line_and_past (b ∷ input) more =
    fed_cases (b == 10) b (line_of input) (past_line input) input more refl (line_and_past input)

-- the line was fed, where something follows
pub is_fed :
    (input : List ℕ) → 0 < length (past_line input) → input ≡ fed (line_of input) ++ past_line input
is_fed input more =
    line_and_past input more ∙ sym (append_assoc (line_of input) (10 ∷ []) (past_line input))

-- lines that something follows follow something
pub lines_more_left :
    (P : List ℕ → Event → Type 0) (limit : ℕ) (events : List Event) (input tail : List ℕ)
    → AreLinesOf P limit events input tail → 0 < length tail → 0 < length input
lines_more_left P limit [] input tail read more = omega (arith, ap length read)
lines_more_left P limit (e ∷ events) input tail read more =
    past_is_more input (lines_more_left P limit events (past_line input) tail read.2 more)
  where
    past_is_more : (xs : List ℕ) → 0 < length (past_line xs) → 0 < length xs
    past_is_more [] m = absurd (omega arith)
    past_is_more (b ∷ xs) m = omega arith

last_cases :
    (t : Bool) (b : ℕ) (line past input : List ℕ) → (b == 10) ≡ t
    → ((input ≡ line) ⊎ (input ≡ line ++ 10 ∷ past))
    → (b ∷ input ≡ (if t then [] else b ∷ line))
    ⊎ (b ∷ input ≡ (if t then [] else b ∷ line) ++ 10 ∷ (if t then input else past))
last_cases true b line past input is rest =
    let e : b ≡ 10 = grind (arith, nat_tests) in inr (ap (λ n. n ∷ input) e)
last_cases false b line past input is (inl e) = inl (ap (λ xs. b ∷ xs) e)
last_cases false b line past input is (inr e) = inr (ap (λ xs. b ∷ xs) e)

-- an input is its first line, or that line with its line feed and what is past it
pub last_or_fed :
    (input : List ℕ)
    → (input ≡ line_of input) ⊎ (input ≡ line_of input ++ 10 ∷ past_line input)
last_or_fed [] = inl refl
last_or_fed (b ∷ input) =
    last_cases (b == 10) b (line_of input) (past_line input) input refl (last_or_fed input)

-- ---- a whole schedule

end_of :
    (tail : List ℕ) → line_of tail ≡ codes "end"
    → ((tail ≡ line_of tail) ⊎ (tail ≡ line_of tail ++ 10 ∷ past_line tail))
    → (tail ≡ codes "end") ⊎ ((rest : List ℕ) × (tail ≡ fed (codes "end") ++ rest))
end_of tail is (inl e) = inl (e ∙ is)
end_of tail is (inr e) =
    inr (past_line tail, e ∙ ap (λ xs. xs ++ 10 ∷ past_line tail) is)

pub ends_after :
    (rack : Rack) (events : List Event) (input tail : List ℕ)
    → AreLinesOf (IsEventLine rack) (line_most rack.format) events input tail
    → line_of tail ≡ codes "end" → 0 < length tail → EventsThenEnd rack events input
ends_after rack [] input tail read is more =
    subst (EventsThenEnd rack []) (sym read) (end_of tail is (last_or_fed tail))
ends_after rack (e ∷ events) input tail read is more = (
  line_of input,
  past_line input,
  read.0,
  read.1,
  is_fed input (lines_more_left (IsEventLine rack) (line_most rack.format) events
      (past_line input) tail read.2 more),
  ends_after rack events (past_line input) tail read.2 is more,
)

end_is_more : (tail : List ℕ) → line_of tail ≡ codes "end" → 0 < length tail
end_is_more [] is = absurd (cc)
end_is_more (b ∷ tail) is = omega arith

pub schedule_of :
    (rack : Rack) (keys : List (List ℕ)) (events : List Event) (input tail : List ℕ)
    → IsRead (Lines rack keys events) input tail → line_of tail ≡ codes "end"
    → Schedule input rack keys events
schedule_of rack keys events input tail read is =
    let more = end_is_more tail is in (
      line_of input,
      past_line input,
      read.0,
      read.1,
      is_fed input
          (lines_more_left (IsEventLine rack) (line_most rack.format) events (past_line input)
          tail read.2 more),
      ends_after rack events (past_line input) tail read.2 is more,
    )
