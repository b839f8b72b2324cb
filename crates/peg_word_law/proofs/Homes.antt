-- All operations on a key stand in its one rack.
use Rattle.std.proofs.Common.{◌≡◌, ◌+◌, ◌⊎◌, inl, inr, ℕ, zero, suc, Bool, true, false, Option}
use Rattle.std.proofs.Common.{Some, None, List, [], ◌∷◌, ◌++◌, length, map, slice_get, refl, sym}
use Rattle.std.proofs.Common.{ap, subst, if◌then◌else◌, arith}
use Rattle.std.specs.Prelude.{◌==◌, slice_set, unwrap_or, IfSome}
use Rattle.std.specs.List.{AllByRecursion}
use Rattle.std.proofs.lemmas.List.{length-set}
use Rattle.peg_name.specs.Name.{Rack}
use Rattle.peg_event.specs.declared.Event.{Event}
use Rattle.peg_event.specs.declared.Event.TheVariants as event
use Rattle.peg_event.specs.declared.history.Op.{Op}
use Rattle.peg_model.specs.World.{World, Operation, start, step}
use Rattle.peg_meaning.specs.Session.{Input, Entry, Inputs, Answer, Goes, Past, saying, IsTaken}
use Rattle.peg_meaning.specs.Session.{state_of}
use Rattle.peg_meaning.specs.Roles.{lines_most}
use Rattle.peg_meaning.specs.Racks.{RacksEvent, Routed, Within, RacksEntry, Counted, Named, Happens}
use Rattle.peg_meaning.specs.Racks.{End, RacksWord, Starting, Running, Finished, Division, rack_for}
use Rattle.peg_meaning.specs.Racks.{key_of, routed, rack_of, event_in, racks_step, stepped, is_full}
use Rattle.peg_meaning.specs.Racks.{happens, division_on, named, racks_on, plays_racks, racks_start}
use Rattle.peg_meaning.specs.Racks.{IsRouted, IsRacksEventLine, IsDivisionLine, line_of}
use Rattle.peg_meaning.proofs.Keeping.{OnGoes, IsReadable, all_kept}
use Rattle.peg_word_law.specs.Homes.{KeepOwnKeys, HaveOwnKeys}
use Rattle.peg_word_law.proofs.Lists.{all_push}
use Rattle.peg_word_law.proofs.Keys.{HasKeys, stepped_keys}

-- a key goes to this one of so many racks
abbrev GoesTo : ℕ → ℕ → List ℕ → Type 0
GoesTo racks rack key = rack_for key racks ≡ rack

-- the worlds from this rack on
abbrev OwnFrom : ℕ → ℕ → List World → Type 0
OwnFrom racks rack [] = Unit {0}
OwnFrom racks rack (w ∷ worlds) =
    HasKeys (GoesTo racks rack) w × OwnFrom racks (rack + 1) worlds

own_at :
    (racks rack i : ℕ) (worlds : List World) (w : World) → OwnFrom racks rack worlds
    → slice_get worlds i ≡ Some w → HasKeys (GoesTo racks (rack + i)) w
own_at racks rack i [] w own is = let never : None ≡ Some w = is in absurd (cc)
own_at racks rack zero (v ∷ worlds) w own is =
    let same : v ≡ w = ap (λ (o : Option World). unwrap_or o v) is in
    let here : rack ≡ rack + 0 = omega arith in
    subst (λ n. HasKeys (GoesTo racks n) w) here
    (subst (λ u. HasKeys (GoesTo racks rack) u) same own.0)
own_at racks rack (suc i) (v ∷ worlds) w own is =
    let next : rack + 1 + i ≡ rack + suc i = omega arith in
    subst (λ n. HasKeys (GoesTo racks n) w) next (own_at racks (rack + 1) i worlds w own.1 is)

own_set :
    (racks rack i : ℕ) (worlds : List World) (w : World) → OwnFrom racks rack worlds
    → HasKeys (GoesTo racks (rack + i)) w → OwnFrom racks rack (slice_set worlds i w)
own_set racks rack i [] w own has = tt
own_set racks rack zero (v ∷ worlds) w own has =
    let here : rack + 0 ≡ rack = omega arith in
    (subst (λ n. HasKeys (GoesTo racks n) w) here has, own.1)
own_set racks rack (suc i) (v ∷ worlds) w own has =
    let next : rack + suc i ≡ rack + 1 + i = omega arith in (
      own.0,
      own_set racks (rack + 1) i worlds w own.1
          (subst (λ n. HasKeys (GoesTo racks n) w) next has),
    )

IsEmpty : World → Type 0
IsEmpty w = w.operations ≡ []

empty_own :
    (racks rack : ℕ) (worlds : List World) → AllByRecursion IsEmpty worlds
    → OwnFrom racks rack worlds
unfolding IsEmpty
empty_own racks rack [] all = tt
empty_own racks rack (w ∷ worlds) all = (
  subst (λ (ops : List Operation). AllByRecursion (λ o. GoesTo racks rack o.op.key) ops) (sym all.0)
      tt,
  empty_own racks (rack + 1) worlds all.1,
)

-- ---- an event

abbrev Owned : List World → Type 0
Owned worlds = OwnFrom (length worlds) 0 worlds

owns_stepped :
    (o : Option World) (worlds : List World) (rack place : ℕ) (e : Event)
    → slice_get worlds rack ≡ o → Owned worlds
    → IfSome (key_of e) (GoesTo (length worlds) rack)
    → Owned (stepped o worlds rack place e).0
owns_stepped None worlds rack place e at own key = own
owns_stepped (Some w) worlds rack place e at own key =
    let racks = length worlds in
    let now = (step w place e).0 in
    let has = own_at racks 0 rack worlds w own at in
    let same : 0 + rack ≡ rack = omega arith in
    let next = stepped_keys (GoesTo racks rack) w place e
    (subst (λ n. HasKeys (GoesTo racks n) w) same has) key in
    subst (λ n. OwnFrom n 0 (slice_set worlds rack now)) (sym (length-set worlds rack now))
    (own_set racks 0 rack worlds now own
    (subst (λ n. HasKeys (GoesTo racks n) now) (sym same) next))

goes_home :
    (o : Option (List ℕ)) (racks : ℕ) → IfSome o (GoesTo racks (routed o racks))
goes_home None racks = tt
goes_home (Some key) racks = refl

no_key : (e : Event) (racks rack : ℕ) → (IsRouted e → ⊥) → IfSome (key_of e) (GoesTo racks rack)
no_key (event.Read client key) racks rack never = absurd (never tt)
no_key (event.Write client key value) racks rack never = absurd (never tt)
no_key (event.Delete client key) racks rack never = absurd (never tt)
no_key _ racks rack never = tt

goes_right :
    (worlds : List World) (line : List ℕ) (e : RacksEvent) → IsRacksEventLine worlds line e
    → IfSome (key_of (event_in e)) (GoesTo (length worlds) (rack_of (length worlds) e))
goes_right worlds line (Routed e) is_line = goes_home (key_of e) (length worlds)
goes_right worlds line (Within rack e) is_line = no_key e (length worlds) rack is_line.0

-- ---- what is kept

record IsDivided (d : Division) : Type 0 where
  own : Owned d.worlds
  first_named : (d.unnamed ≡ 0) ⊎ AllByRecursion IsEmpty d.worlds

abbrev Keeps : RacksWord → Type 0
Keeps Starting = Unit {0}
Keeps (Running d) = IsDivided d
Keeps (Finished d) = IsDivided d

if_past :
    (b : Bool) (answer : Answer RacksWord) → OnGoes Keeps answer
    → OnGoes Keeps (if b then Past else answer)
if_past true answer on = tt
if_past false answer on = on

happens_keeps :
    (d : Division) (line : List ℕ) (e : RacksEvent) → d.unnamed ≡ 0 → IsDivided d
    → IsRacksEventLine d.worlds line e → OnGoes Keeps (happens d e)
happens_keeps d line e all_named kept is_line =
    let place = d.place + 1 in
    let rack = rack_of (length d.worlds) e in
    let now = racks_step d.worlds place e in
    if_past (is_full (slice_get now.0 rack))
    (Goes (saying (Running (record d { worlds = now.0; place = place; lines = d.lines + 1 }))
    (line_of now.1 place rack)))
    (record {
      own =
          owns_stepped (slice_get d.worlds rack) d.worlds rack place (event_in e) refl kept.own
          (goes_right d.worlds line e is_line);
      first_named = inl all_named;
    })

named_keeps :
    (unnamed : ℕ) (d : Division) (rack : Rack) (keys : List (List ℕ)) → d.unnamed ≡ suc unnamed
    → IsDivided d → Keeps (named d rack keys).state
unfolding IsEmpty
named_keeps unnamed d rack keys more kept =
    let none : AllByRecursion IsEmpty d.worlds = elim kept.first_named [
      | inl zero_left ↦ absurd (omega (arith, zero_left, more))
      | inr none ↦ none
    ] in
    let worlds = d.worlds ++ start rack keys ∷ [] in
    let still = all_push IsEmpty d.worlds (start rack keys) none refl in
    record { own = empty_own (length worlds) 0 worlds still; first_named = inr still }

line_keeps :
    (unnamed : ℕ) (d : Division) (line : List ℕ) (e : RacksEntry) → d.unnamed ≡ unnamed
    → IsDivided d → IsDivisionLine unnamed d line e → OnGoes Keeps (division_on d e)
line_keeps zero d line (Happens e) left kept is_line =
    if_past (d.lines == lines_most) (happens d e) (happens_keeps d line e left kept is_line)
line_keeps zero d line End left kept is_line = kept
line_keeps (suc unnamed) d line (Named rack keys) left kept is_line =
    named_keeps unnamed d rack keys left kept
line_keeps _ d line e left kept is_line = absurd is_line

on_keeps :
    (s : RacksWord) (input : Input RacksEntry) → Keeps s → IsReadable plays_racks s input
    → OnGoes Keeps (racks_on s input)
on_keeps Starting (Entry (Counted racks)) keeps readable =
    record { own = tt; first_named = inr tt }
on_keeps (Running d) (Entry e) keeps readable =
    line_keeps d.unnamed d readable.0 e refl keeps readable.1
on_keeps s input keeps readable = tt

-- ---- the whole

all_map :
    (P : Op → Type 0) (operations : List Operation)
    → AllByRecursion (λ (o : Operation). P o.op) operations
    → AllByRecursion P (map (λ (o : Operation). o.op) operations)
all_map P [] all = tt
all_map P (o ∷ operations) all = (all.0, all_map P operations all.1)

keep_own : (worlds : List World) → Owned worlds → KeepOwnKeys worlds
keep_own worlds own rack w at =
    let racks = length worlds in
    let same : 0 + rack ≡ rack = omega arith in
    all_map (λ op. rack_for op.key racks ≡ rack) w.operations
    (subst (λ n. HasKeys (GoesTo racks n) w) same (own_at racks 0 rack worlds w own at))

have_own : (s : RacksWord) → Keeps s → HaveOwnKeys s
have_own Starting keeps = tt
have_own (Running d) kept = keep_own d.worlds kept.own
have_own (Finished d) kept = keep_own d.worlds kept.own

pub divided_have_own :
    (inputs : Inputs RacksEntry) → IsTaken plays_racks racks_start inputs
    → HaveOwnKeys (state_of plays_racks racks_start inputs)
divided_have_own inputs taken =
    have_own (state_of plays_racks racks_start inputs)
    (all_kept plays_racks Keeps (λ s input. on_keeps s input) racks_start inputs taken tt)
