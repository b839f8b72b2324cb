-- The function that reads a line of several racks reads just the lines that spell an entry.
use Rattle.std.proofs.Common.{◌≡◌, ◌<◌, ◌≤◌, ◌⊎◌, inl, inr, ℕ, Bool, true, false}
use Rattle.std.proofs.Common.{Option, Some, None, List, [], ◌∷◌, ◌++◌, length, map, refl, arith, ap}
use Rattle.std.proofs.Common.{sym, ◌∙◌, subst, slice_get, codes, decimal}
use Rattle.std.specs.Prelude.{All, IfSome, option_map, option_and_then, nat_lt, if◌then◌else◌}
use Rattle.std.specs.Str.{bytes_eq}
use Rattle.std.specs.List.{slice_split, onto_first, join_with_byte}
use Rattle.std.proofs.lemmas.Bool.Decides.{nat_tests}
use Rattle.std.proofs.lemmas.List.{length-map}
use Rattle.std.proofs.lemmas.Option.{none-some, same_Some, slice_get-map, slice_get_within}
use Rattle.std.proofs.lemmas.Option.{get_or_from_slice_get}
use Rattle.peg_name.specs.Name.{Rack, InLimits, line_most}
use Rattle.peg_event.specs.declared.Event.{Event}
use Rattle.peg_event.specs.declared.Event.TheVariants as event
use Rattle.peg_model.specs.World.{World}
use Rattle.peg_model.specs.Schedule.{IsEventLine}
use Rattle.peg_meaning.specs.Racks as book
use Rattle.peg_meaning.specs.Racks.{RacksEntry, Counted, Named, Happens, End, Routed, Within}
use Rattle.peg_meaning.specs.Racks.{rack_for, IsRouted, IsLineOf, Division, IsDivisionLine}
use Rattle.peg_meaning.specs.Racks.{IsRacksWordLine, Starting}
use Rattle.peg_text.specs.declared.dividing.RacksLine as said_line
use Rattle.peg_text.specs.Reading.{words_of, whole_of, next_by, number_below, is_space}
use Rattle.peg_text.specs.Events.{Read, event_in}
use Rattle.peg_text.specs.Racks.{literal, taken}
use Rattle.peg_text.specs.Divides.{entry_in, is_routed, third_key, rack_named, event_for, as_routed}
use Rattle.peg_text.specs.Divides.{as_within, routed, behind_number, within, line_from, line_in}
use Rattle.peg_text.specs.Divides.{at_least_one, count_from, count_in}
use Rattle.peg_text.proofs.Readers.{by_test, if_passed, if_failed, map_some, and_then_some}
use Rattle.peg_text.proofs.Readers.{from_bytes_eq}
use Rattle.peg_text.proofs.Spaces.{decimal_spaceless, words_of-cons}
use Rattle.peg_text.proofs.Spells.{key_law}
use Rattle.peg_text.proofs.Lines.{two_words, three_words, cut, joined}
use Rattle.peg_text.proofs.EventLines.{Says, event_in_sound, event_sound, event_complete}
use Rattle.peg_text.proofs.EventLines.{below_read, whole_some}
use Rattle.peg_text.proofs.RackLines.{literal_read}

-- ---- what an event is

-- an operation, whose key stands third among its words
record IsOperation (ws : List (List ℕ)) (e : Event) : Type 0 where
  key : List ℕ
  named : book.key_of e ≡ Some key
  third : third_key ws ≡ Some key
  routes : is_routed e ≡ true
  holds : IsRouted e

record IsOther (e : Event) : Type 0 where
  stays : is_routed e ≡ false
  fails : IsRouted e → ⊥

kind_said : (rack : Rack) (ws : List (List ℕ)) (e : Event) → Says rack ws e → IsOperation ws e ⊎ IsOther e
kind_said rack ws (event.Read client key) says =
    inl (record {
      key = key;
      named = refl;
      third = ap third_key says.spelled ∙ key_law.complete key says.in_range;
      routes = refl;
      holds = tt;
    })
kind_said rack ws (event.Write client key value) says =
    inl (record {
      key = key;
      named = refl;
      third = ap third_key says.spelled ∙ key_law.complete key says.in_range.0;
      routes = refl;
      holds = tt;
    })
kind_said rack ws (event.Delete client key) says =
    inl (record {
      key = key;
      named = refl;
      third = ap third_key says.spelled ∙ key_law.complete key says.in_range;
      routes = refl;
      holds = tt;
    })
kind_said rack ws (event.Resend client) says = inr (record { stays = refl; fails = λ is. is })
kind_said rack ws (event.GiveUp client) says = inr (record { stays = refl; fails = λ is. is })
kind_said rack ws (event.Deliver number pick) says = inr (record { stays = refl; fails = λ is. is })
kind_said rack ws (event.Junk to bytes) says = inr (record { stays = refl; fails = λ is. is })
kind_said rack ws (event.Promote key) says = inr (record { stays = refl; fails = λ is. is })
kind_said rack ws (event.Demote key) says = inr (record { stays = refl; fails = λ is. is })
kind_said rack ws (event.Copy key target) says = inr (record { stays = refl; fails = λ is. is })
kind_said rack ws (event.Fence key) says = inr (record { stays = refl; fails = λ is. is })
kind_said rack ws (event.Handover target) says = inr (record { stays = refl; fails = λ is. is })
kind_said rack ws event.Clear says = inr (record { stays = refl; fails = λ is. is })
kind_said rack ws event.Retry says = inr (record { stays = refl; fails = λ is. is })
kind_said rack ws event.Survey says = inr (record { stays = refl; fails = λ is. is })
kind_said rack ws (event.Plan promote_at demote_below) says =
    inr (record { stays = refl; fails = λ is. is })

kind_of :
    (rack : Rack) (limits : InLimits rack) (ws : List (List ℕ)) (e : Event)
    → event_in rack ws ≡ Some e → IsOperation ws e ⊎ IsOther e
kind_of rack limits ws e is = kind_said rack ws e (event_in_sound rack limits ws e is)

not_both : (b : Bool) → b ≡ true → b ≡ false → ⊥
not_both true is_true is_false = cc
not_both false is_true is_false = cc

-- ---- the parts of a reading

not_more : (n most : ℕ) → nat_lt most n ≡ false → n ≤ most
not_more n most e = grind (arith, nat_tests)

is_not_more : (n most : ℕ) → n ≤ most → nat_lt most n ≡ false
is_not_more n most e = grind (arith, nat_tests)

record IsEventFor (o : Option Rack) (count : ℕ) (ws : List (List ℕ)) (e : Event) : Type 0 where
  config : Rack
  at : o ≡ Some config
  short : count ≤ line_most config.format
  read : event_in config ws ≡ Some e

for_some :
    (o : Option Rack) (count : ℕ) (ws : List (List ℕ)) (e : Event)
    → event_for o count ws ≡ Some e → IsEventFor o count ws e
for_some None count ws e is = absurd (none-some e is)
for_some (Some config) count ws e is =
    let passed = if_failed (nat_lt (line_most config.format) count) (event_in config ws) e is in
    record {
      config = config;
      at = refl;
      short = not_more count (line_most config.format) passed.0;
      read = passed.1;
    }

for_is :
    (o : Option Rack) (count : ℕ) (ws : List (List ℕ)) (e : Event) → IsEventFor o count ws e
    → event_for o count ws ≡ Some e
for_is o count ws e is =
    ap (λ (r : Option Rack). event_for r count ws) is.at
    ∙ ap (λ (b : Bool). if b then None else event_in is.config ws)
    (is_not_more count (line_most is.config.format) is.short)
    ∙ is.read

routed_some :
    (o : Option Event) (x : RacksEntry) → as_routed o ≡ Some x
    → (e : Event) × (o ≡ Some e) × (is_routed e ≡ true) × (Happens (Routed e) ≡ x)
routed_some None x is = absurd (none-some x is)
routed_some (Some e) x is =
    let passed = if_passed (is_routed e) (Some (Happens (Routed e))) x is in
    (e, refl, passed.0, same_Some _ x passed.1)

within_some :
    (rack : ℕ) (o : Option Event) (x : RacksEntry) → as_within rack o ≡ Some x
    → (e : Event) × (o ≡ Some e) × (is_routed e ≡ false) × (Happens (Within rack e) ≡ x)
within_some rack None x is = absurd (none-some x is)
within_some rack (Some e) x is =
    let passed = if_failed (is_routed e) (Some (Happens (Within rack e))) x is in
    (e, refl, passed.0, same_Some _ x passed.1)

behind_some :
    (racks : List Rack) (count : ℕ) (r : Read ℕ) (x : RacksEntry)
    → behind_number racks count r ≡ Some x
    → (p : ℕ × List (List ℕ)) × (r ≡ Some p)
    × (as_within p.0 (event_for (slice_get racks p.0) count p.1) ≡ Some x)
behind_some racks count None x is = absurd (none-some x is)
behind_some racks count (Some p) x is = (p, refl, is)

-- ---- the words behind the first

-- the words behind the first are those of what stands behind it
module _ (p : ℕ → Bool) where
  grown :
      (x : ℕ) (parts : List (List ℕ)) (a b : List ℕ) (ws : List (List ℕ))
      → onto_first x parts ≡ a ∷ b ∷ ws → (part : List ℕ) × (parts ≡ part ∷ b ∷ ws)
  grown x [] a b ws e = absurd cc
  grown x (part ∷ parts) a b ws e = (part, ap (λ ps. part ∷ ps) (tail_is e))
    where
      tail_is : (x ∷ part) ∷ parts ≡ a ∷ b ∷ ws → parts ≡ b ∷ ws
      tail_is e = cc

  split_from :
      (t : Bool) (x : ℕ) (line a b : List ℕ) (ws : List (List ℕ))
      → ((part : List ℕ) → slice_split p line ≡ part ∷ b ∷ ws
      → (rest : List ℕ) × (slice_split p rest ≡ b ∷ ws))
      → (if t then [] ∷ slice_split p line else onto_first x (slice_split p line)) ≡ a ∷ b ∷ ws
      → (rest : List ℕ) × (slice_split p rest ≡ b ∷ ws)
  split_from true x line a b ws further e = (line, tail_is e)
    where
      tail_is : [] ∷ slice_split p line ≡ a ∷ b ∷ ws → slice_split p line ≡ b ∷ ws
      tail_is e = cc
  split_from false x line a b ws further e =
      let more = grown x (slice_split p line) a b ws e in further more.0 more.1

  split_behind :
      (line a b : List ℕ) (ws : List (List ℕ)) → slice_split p line ≡ a ∷ b ∷ ws
      → (rest : List ℕ) × (slice_split p rest ≡ b ∷ ws)
  split_behind [] a b ws e = absurd cc
  split_behind (x ∷ line) a b ws e =
      split_from (p x) x line a b ws (λ part f. split_behind line part b ws f) e

-- what stands behind two words
behind_two :
    (line v a b : List ℕ) (ws : List (List ℕ)) → words_of line ≡ v ∷ a ∷ b ∷ ws
    → (rest : List ℕ) × (words_of rest ≡ b ∷ ws)
    × (line ≡ join_with_byte 32 (v ∷ a ∷ rest ∷ []))
behind_two line v a b ws e =
    let one = split_behind is_space line v a (b ∷ ws) e in
    let two = split_behind is_space one.0 a b ws one.1 in (
      two.0,
      two.1,
      joined (v ∷ a ∷ b ∷ ws) line e
          ∙ ap (λ t. v ++ 32 ∷ (a ++ 32 ∷ t)) (sym (joined (b ∷ ws) two.0 two.1)),
    )

-- an event has a first word
begun :
    (rack : Rack) (ws : List (List ℕ)) (e : Event) → event_in rack ws ≡ Some e
    → (b : List ℕ) × (rest : List (List ℕ)) × (ws ≡ b ∷ rest)
begun rack [] e is = absurd (none-some e is)
begun rack (b ∷ rest) e is = (b, rest, refl)

-- and this is no other word than one of its own
not_begun_by :
    (rack : Rack) (w lit : List ℕ) (ws : List (List ℕ)) (e : Event) (b : Bool)
    → bytes_eq w lit ≡ b → event_in rack (w ∷ ws) ≡ Some e → event_in rack (lit ∷ ws) ≡ None
    → bytes_eq w lit ≡ false
not_begun_by rack w lit ws e false same is none = same
not_begun_by rack w lit ws e true same is none =
    absurd
    (none-some e
    (sym none ∙ ap (λ v. event_in rack (v ∷ ws)) (sym (from_bytes_eq w lit same)) ∙ is))

not_taken :
    (rack : Rack) (ws : List (List ℕ)) (e : Event) → event_in rack ws ≡ Some e
    → taken (codes "rack") ws ≡ (false, ws)
not_taken rack [] e is = refl
not_taken rack (w ∷ ws) e is =
    ap (λ (b : Bool). if b then (true, ws) else (false, w ∷ ws))
    (not_begun_by rack w (codes "rack") ws e (bytes_eq w (codes "rack")) refl is refl)

not_end :
    (rack : Rack) (line : List ℕ) (e : Event) (b : Bool) → bytes_eq line (codes "end") ≡ b
    → event_in rack (words_of line) ≡ Some e → bytes_eq line (codes "end") ≡ false
not_end rack line e false same is = same
not_end rack line e true same is =
    let at : None ≡ Some e =
    sym (ap (λ l. event_in rack (words_of l)) (from_bytes_eq line (codes "end") same)) ∙ is in
    absurd (none-some e at)

-- ---- the worlds

abbrev rack_in : World → Rack
rack_in w = w.rack

world_line :
    (o : Option World) (w : World) (config : Rack) (whole line : List ℕ) (e : Event)
    → o ≡ Some w → w.rack ≡ config → IsEventLine config line e
    → length whole ≤ line_most config.format → IsLineOf o whole line e
world_line o w config whole line e at is here short =
    subst (λ (o : Option World). IsLineOf o whole line e) (sym at)
    (subst (λ (r : Rack). IsEventLine r line e × (length whole ≤ line_most r.format)) (sym is)
    (here, short))

record IsOfWorld (o : Option World) (whole line : List ℕ) (e : Event) : Type 0 where
  world : World
  at : o ≡ Some world
  here : IsEventLine world.rack line e
  short : length whole ≤ line_most world.rack.format

of_world :
    (o : Option World) (whole line : List ℕ) (e : Event) → IsLineOf o whole line e
    → IsOfWorld o whole line e
of_world None whole line e is = absurd is
of_world (Some w) whole line e is =
    record { world = w; at = refl; here = is.0; short = is.1 }

module _ (d : Division) (racks : List Rack) (are : map rack_in d.worlds ≡ racks)
    (limits : All InLimits racks) (few : length racks ≤ 8) where
  as_many : length d.worlds ≡ length racks
  as_many = sym (length-map d.worlds rack_in) ∙ ap length are

  rack_at : (i : ℕ) → slice_get racks i ≡ option_map rack_in (slice_get d.worlds i)
  rack_at i = sym (ap (λ (rs : List Rack). slice_get rs i) are) ∙ slice_get-map rack_in d.worlds i

  in_limits : (i : ℕ) (config : Rack) → slice_get racks i ≡ Some config → InLimits config
  in_limits i config at =
      subst (λ (r : Rack). InLimits r) (get_or_from_slice_get racks i config config at)
      (limits i config (slice_get_within racks i config at))

  -- ---- what is read is spelled

  of_rack :
      (i : ℕ) (whole line : List ℕ) (ws : List (List ℕ)) (e : Event)
      → words_of line ≡ ws → (is : IsEventFor (slice_get racks i) (length whole) ws e)
      → IsLineOf (slice_get d.worlds i) whole line e
  of_rack i whole line ws e words is =
      let w = map_some rack_in (slice_get d.worlds i) is.config (sym (rack_at i) ∙ is.at) in
      world_line (slice_get d.worlds i) w.0 is.config whole line e w.1 w.2
      (event_sound is.config (in_limits i is.config is.at) line e
      (ap (event_in is.config) words ∙ is.read)) is.short

  routed_at :
      (line : List ℕ) (rack : ℕ) (e : Event) (key : List ℕ)
      → third_key (words_of line) ≡ Some key → rack_for key (length racks) ≡ rack
      → is_routed e ≡ true → IsEventFor (slice_get racks rack) (length line) (words_of line) e
      → IsOperation (words_of line) e ⊎ IsOther e
      → IsDivisionLine 0 d line (Happens (Routed e))
  routed_at line rack e key third goes routes is (inr other) =
      absurd (not_both (is_routed e) routes other.stays)
  routed_at line rack e key third goes routes is (inl op) =
      let same : op.key ≡ key = same_Some op.key key (sym op.third ∙ third) in
      let at : book.rack_of (length d.worlds) (Routed e) ≡ rack =
      ap (λ (k : Option (List ℕ)). book.routed k (length d.worlds)) op.named
      ∙ ap (λ n. rack_for op.key n) as_many ∙ ap (λ k. rack_for k (length racks)) same
      ∙ goes in (
        op.holds,
        subst (λ i. IsLineOf (slice_get d.worlds i) line line e) (sym at)
            (of_rack rack line line (words_of line) e refl is),
      )

  routed_sound :
      (line : List ℕ) (x : RacksEntry) → routed racks line ≡ Some x → IsDivisionLine 0 d line x
  routed_sound line x is =
      let ws = words_of line in
      let got = and_then_some
      (λ rack. as_routed (event_for (slice_get racks rack) (length line) ws))
      (rack_named (length racks) ws) x is in
      let key = map_some (λ k. rack_for k (length racks)) (third_key ws) got.0 got.1 in
      let said = routed_some (event_for (slice_get racks got.0) (length line) ws) x got.2 in
      let here = for_some (slice_get racks got.0) (length line) ws said.0 said.1 in
      subst (λ (y : RacksEntry). IsDivisionLine 0 d line y) said.3
      (routed_at line got.0 said.0 key.0 key.1 key.2 said.2 here
      (kind_of here.config (in_limits got.0 here.config here.at) ws said.0 here.read))

  within_at :
      (line : List ℕ) (rack : ℕ) (ws : List (List ℕ)) (e : Event)
      → words_of line ≡ codes "rack" ∷ decimal rack ∷ ws → is_routed e ≡ false
      → IsEventFor (slice_get racks rack) (length line) ws e
      → IsOperation ws e ⊎ IsOther e
      → IsDivisionLine 0 d line (Happens (Within rack e))
  within_at line rack ws e words stays is (inl op) =
      absurd (not_both (is_routed e) op.routes stays)
  within_at line rack ws e words stays is (inr other) =
      let first = begun is.config ws e is.read in
      let rest = behind_two line (codes "rack") (decimal rack) first.0 first.1
      (words ∙ ap (λ t. codes "rack" ∷ decimal rack ∷ t) first.2) in (
        other.fails,
        (
          rest.0,
          rest.2 ∙ sym (three_words (codes "rack") (decimal rack) rest.0),
          of_rack rack line rest.0 ws e (rest.1 ∙ sym first.2) is,
        ),
      )

  within_sound :
      (line : List ℕ) (ws : List (List ℕ)) (x : RacksEntry)
      → words_of line ≡ codes "rack" ∷ ws → within racks (length line) ws ≡ Some x
      → IsDivisionLine 0 d line x
  within_sound line ws x words is =
      let got = behind_some racks (length line) (next_by (number_below (length racks)) ws) x is in
      let number = (below_read (length racks) (omega (arith, few))).sound ws got.0.0 got.0.1 got.1 in
      let said = within_some got.0.0 (event_for (slice_get racks got.0.0) (length line) got.0.1) x
      got.2 in
      let here = for_some (slice_get racks got.0.0) (length line) got.0.1 said.0 said.1 in
      subst (λ (y : RacksEntry). IsDivisionLine 0 d line y) said.3
      (within_at line got.0.0 got.0.1 said.0 (words ∙ ap (λ t. codes "rack" ∷ t) number.0) said.2
      here
      (kind_of here.config (in_limits got.0.0 here.config here.at) got.0.1 said.0 here.read))

  named_sound :
      (line : List ℕ) (x : RacksEntry) (w : List ℕ) (ws : List (List ℕ)) (b : Bool)
      → bytes_eq w (codes "rack") ≡ b → words_of line ≡ w ∷ ws
      → line_from racks line (if b then (true, ws) else (false, w ∷ ws)) ≡ Some x
      → IsDivisionLine 0 d line x
  named_sound line x w ws true same words is =
      within_sound line ws x (words ∙ ap (λ v. v ∷ ws) (from_bytes_eq w (codes "rack") same)) is
  named_sound line x w ws false same words is = routed_sound line x is

  taken_sound :
      (line : List ℕ) (x : RacksEntry) (ws : List (List ℕ)) → words_of line ≡ ws
      → line_from racks line (taken (codes "rack") ws) ≡ Some x → IsDivisionLine 0 d line x
  taken_sound line x [] words is = routed_sound line x is
  taken_sound line x (w ∷ ws) words is =
      named_sound line x w ws (bytes_eq w (codes "rack")) refl words is

  line_sound :
      (line : List ℕ) (x : RacksEntry) → line_in racks line ≡ Some x → IsDivisionLine 0 d line x
  line_sound line x is =
      by_test (bytes_eq line (codes "end")) _ _ x is
      (λ same at. subst (λ (y : RacksEntry). IsDivisionLine 0 d line y) (same_Some End x at)
      (from_bytes_eq line (codes "end") same))
      (λ no at. taken_sound line x (words_of line) refl at)

  pub read_sound :
      (line : List ℕ) (r : Option said_line.RacksLine) → option_map entry_in r ≡ line_in racks line
      → IfSome r (λ l. IsDivisionLine 0 d line (entry_in l))
  read_sound line None is = tt
  read_sound line (Some l) is = line_sound line (entry_in l) (sym is)

  -- ---- what is spelled is read

  -- the words of a rack's event
  for_world :
      (i : ℕ) (whole line : List ℕ) (e : Event)
      → (is : IsOfWorld (slice_get d.worlds i) whole line e)
      → IsEventFor (slice_get racks i) (length whole) (words_of line) e
  for_world i whole line e is =
      let at : slice_get racks i ≡ Some is.world.rack = rack_at i ∙ ap (option_map rack_in) is.at in
      record {
        config = is.world.rack;
        at = at;
        short = is.short;
        read = event_complete is.world.rack (in_limits i is.world.rack at) line e is.here;
      }

  routed_complete :
      (line : List ℕ) (e : Event) → IsRouted e
      → (is : IsEventFor (slice_get racks (book.rack_of (length d.worlds) (Routed e)))
      (length line) (words_of line) e)
      → IsOperation (words_of line) e ⊎ IsOther e
      → line_in racks line ≡ Some (Happens (Routed e))
  routed_complete line e holds is (inr other) = absurd (other.fails holds)
  routed_complete line e holds is (inl op) =
      let ws = words_of line in
      let f : ℕ → Option RacksEntry =
      λ rack. as_routed (event_for (slice_get racks rack) (length line) ws) in
      let at : rack_for op.key (length racks) ≡ book.rack_of (length d.worlds) (Routed e) =
      ap (λ n. rack_for op.key n) (sym as_many)
      ∙ ap (λ (k : Option (List ℕ)). book.routed k (length d.worlds)) (sym op.named) in
      ap (λ (b : Bool). if b then Some End else line_from racks line (taken (codes "rack") ws))
      (not_end is.config line e (bytes_eq line (codes "end")) refl is.read)
      ∙ ap (line_from racks line) (not_taken is.config ws e is.read)
      ∙ ap (λ (k : Option (List ℕ)). option_and_then f
      (option_map (λ key. rack_for key (length racks)) k)) op.third
      ∙ ap f at
      ∙ ap as_routed (for_is _ (length line) ws e is)
      ∙ ap (λ (b : Bool). if b then Some (Happens (Routed e)) else None) op.routes

  within_complete :
      (line rest : List ℕ) (rack : ℕ) (e : Event) → (IsRouted e → ⊥) → rack < length racks
      → line ≡ codes "rack " ++ decimal rack ++ codes " " ++ rest
      → (is : IsEventFor (slice_get racks rack) (length line) (words_of rest) e)
      → IsOperation (words_of rest) e ⊎ IsOther e
      → line_in racks line ≡ Some (Happens (Within rack e))
  within_complete line rest rack e fails small spelled is (inl op) = absurd (fails op.holds)
  within_complete line rest rack e fails small spelled is (inr other) =
      let words : words_of line ≡ codes "rack" ∷ decimal rack ∷ words_of rest =
      ap words_of (spelled ∙ three_words (codes "rack") (decimal rack) rest)
      ∙ words_of-cons (codes "rack") (decimal rack ++ 32 ∷ rest) refl
      ∙ ap (λ t. codes "rack" ∷ t)
      (words_of-cons (decimal rack) rest (decimal_spaceless rack (omega (arith, few)))) in
      let ws = words_of rest in
      ap (λ (b : Bool). if b then Some End
      else line_from racks line (taken (codes "rack") (words_of line)))
      (ap (λ l. bytes_eq l (codes "end")) spelled)
      ∙ ap (λ t. line_from racks line (taken (codes "rack") t)) words
      ∙ ap (behind_number racks (length line))
      ((below_read (length racks) (omega (arith, few))).complete rack ws small)
      ∙ ap (as_within rack) (for_is _ (length line) ws e is)
      ∙ ap (λ (b : Bool). if b then None else Some (Happens (Within rack e))) other.stays

  pub line_complete :
      (line : List ℕ) (x : RacksEntry) → IsDivisionLine 0 d line x → line_in racks line ≡ Some x
  line_complete line (Counted n) is = absurd is
  line_complete line (Named rack keys) is = absurd is
  line_complete line End is = ap (line_in racks) is
  line_complete line (Happens (Routed e)) is =
      let i = book.rack_of (length d.worlds) (Routed e) in
      let of = of_world (slice_get d.worlds i) line line e is.1 in
      let here = for_world i line line e of in
      routed_complete line e is.0 here
      (kind_of here.config (in_limits i here.config here.at) (words_of line) e here.read)
  line_complete line (Happens (Within rack e)) is =
      let rest = is.1.0 in
      let of = of_world (slice_get d.worlds rack) line rest e is.1.2 in
      let here = for_world rack line rest e of in
      within_complete line rest rack e is.0 (slice_get_within racks rack here.config here.at)
      is.1.1 here
      (kind_of here.config (in_limits rack here.config here.at) (words_of rest) e here.read)

-- ---- the line `racks`

least_some :
    (o : Option ℕ) (n : ℕ) → at_least_one o ≡ Some n → (o ≡ Some n) × (nat_lt n 1 ≡ false)
least_some None n is = absurd (none-some n is)
least_some (Some m) n is =
    let passed = if_failed (nat_lt m 1) (Some m) n is in
    (passed.1, subst (λ (k : ℕ). nat_lt k 1 ≡ false) (same_Some m n passed.1) passed.0)

count_some :
    (r : Read (Unit {0})) (n : ℕ) → count_from r ≡ Some n
    → (p : Unit {0} × List (List ℕ)) × (r ≡ Some p)
    × (at_least_one (whole_of (next_by (number_below 9) p.1)) ≡ Some n)
count_some None n is = absurd (none-some n is)
count_some (Some p) n is = (p, refl, is)

count_sound :
    (line : List ℕ) (n : ℕ) → count_in line ≡ Some n → IsRacksWordLine Starting line (Counted n)
count_sound line n is =
    let got = count_some (next_by (literal (codes "racks")) (words_of line)) n is in
    let least = least_some (whole_of (next_by (number_below 9) got.0.1)) n got.2 in
    let whole = whole_some (next_by (number_below 9) got.0.1) n least.0 in
    let number = (below_read 9 (omega arith)).sound got.0.1 n whole.0 whole.2 in
    let first = (literal_read (codes "racks")).sound (words_of line) got.0.0 got.0.1 got.1 in
    let words : words_of line ≡ codes "racks" ∷ decimal n ∷ [] =
    first.0 ∙ ap (λ t. codes "racks" ∷ t) (number.0 ∙ ap (λ t. decimal n ∷ t) whole.1) in (
      not_more 1 n least.1,
      omega (arith, number.1),
      joined (codes "racks" ∷ decimal n ∷ []) line words
          ∙ sym (two_words (codes "racks") (decimal n)),
    )

pub counted_sound :
    (line : List ℕ) (r : Option ℕ) → r ≡ count_in line
    → IfSome r (λ n. IsRacksWordLine Starting line (Counted n))
counted_sound line None is = tt
counted_sound line (Some n) is = count_sound line n (sym is)

pub count_complete :
    (line : List ℕ) (n : ℕ) → IsRacksWordLine Starting line (Counted n) → count_in line ≡ Some n
count_complete line n is =
    let words : words_of line ≡ codes "racks" ∷ decimal n ∷ [] =
    cut (codes "racks") (decimal n ∷ []) line
    (refl, (decimal_spaceless n (omega (arith, is.1)), tt))
    (is.2 ∙ two_words (codes "racks") (decimal n)) in
    ap (λ ws. count_from (next_by (literal (codes "racks")) ws)) words
    ∙ ap (λ (r : Read ℕ). at_least_one (whole_of r))
    ((below_read 9 (omega arith)).complete n [] (omega (arith, is.1)))
    ∙ ap (λ (b : Bool). if b then None else Some n) (is_not_more 1 n is.0)
