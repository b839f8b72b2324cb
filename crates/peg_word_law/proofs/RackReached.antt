-- The world of the word `rack` is the end of a schedule, whatever the wire gave.
use Rattle.std.proofs.Common.{◌≡◌, ◌≤◌, ◌<◌, ◌+◌, ◌^◌, ◌⊎◌, ℕ, Bool, true, false, ◌||◌, List, []}
use Rattle.std.proofs.Common.{◌∷◌, ◌++◌, length, map, Option, Some, None, refl, sym, ap, subst, ◌∙◌}
use Rattle.std.proofs.Common.{inl, inr, if◌then◌else◌, arith}
use Rattle.std.specs.Prelude.{nat_lt, unwrap_or, ◌&&◌, ◌==◌}
use Rattle.std.specs.List.{AllByRecursion}
use Rattle.std.specs.Str.{bytes_eq}
use Rattle.peg_name.specs.Name.{Rack}
use Rattle.peg_name.specs.declared.Format.{Format}
use Rattle.peg_name.specs.declared.Node.{Node}
use Rattle.peg_event.specs.declared.Event.{Event}
use Rattle.peg_event.specs.declared.Event.TheVariants as event
use Rattle.peg_model.specs.Packet.{Packet, spelling}
use Rattle.peg_model.specs.World.{step}
use Rattle.peg_model.specs.Schedule.{IsStart}
use Rattle.peg_law.specs.Lines.{IsLine}
use Rattle.peg_law.specs.Places.{IsReached}
use Rattle.peg_meaning.specs.Session.{Input, Entry, Datagram, Quiet, Inputs, Came, Answer, Goes}
use Rattle.peg_meaning.specs.Session.{Past, More, IsTaken, state_of, entry_in, entries_of}
use Rattle.peg_meaning.proofs.Keeping.{OnGoes, IsReadable, all_kept_with, lt_tells}
use Rattle.peg_meaning.specs.RackWord.{RackEntry, Named, Happens, Takes, Round, End, Taking, Racked}
use Rattle.peg_meaning.specs.RackWord.{RackWord, Starting, Running, Finished, number_from, is_node}
use Rattle.peg_meaning.specs.RackWord.{steps, stepped, takes_packet, rack_datagram, takes_first}
use Rattle.peg_meaning.specs.RackWord.{number_of, passes_first, rack_start, nodes_of, actor_of}
use Rattle.peg_meaning.specs.RackWord.{IsRackEntryLine, reads_line, reads_entry, racked, rack_on}
use Rattle.peg_meaning.specs.RackWord.{serves_rack}
use Rattle.peg_meaning.specs.Roles.{lines_most}
use Rattle.peg_word_law.specs.Runs.{IsServed, HasRun}
use Rattle.peg_word_law.proofs.Reaching.{Reaching}

-- ---- the number of a packet

if_some :
    (b : Bool) (o p : Option ℕ) (k : ℕ) → (if b then o else p) ≡ Some k
    → (o ≡ Some k) ⊎ (p ≡ Some k)
if_some true o p k is = inl is
if_some false o p k is = inr is

pub number_within :
    (n : ℕ) (format : Format) (packets : List (Node × Packet)) (to : Node) (bytes : List ℕ) (k : ℕ)
    → number_from n format packets to bytes ≡ Some k → k < n + length packets
number_within n format [] to bytes k is = let never : None ≡ Some k = is in cc
number_within n format (item ∷ packets) to bytes k is =
    elim (if_some (is_node item.0 to && bytes_eq (spelling format item.1) bytes) (Some n)
    (number_from (n + 1) format packets to bytes) k is) [
      | inl here ↦
          let same : n ≡ k = ap (λ o. unwrap_or o 0) here in omega (arith, same)
      | inr later ↦
          let less = number_within (n + 1) format packets to bytes k later in omega (arith, less)
    ]

-- ---- what the session keeps

IsPick : Taking → Type 0
IsPick (to, None) = Unit {0}
IsPick (to, Some pick) = pick < 2 ^ 64

record IsKept (rack : Rack) (keys : List (List ℕ)) (r : Racked) : Type 0 where
  is_start : IsStart rack keys
  reached : IsReached rack keys r.place r.world
  begun : 1 ≤ r.place
  few : length r.world.packets ≤ 200000
  picks : AllByRecursion IsPick r.takes

no_picks : (nodes : List Node) → AllByRecursion IsPick (map (λ to. (to, None)) nodes)
unfolding IsPick
no_picks [] = tt
no_picks (to ∷ nodes) = (tt, no_picks nodes)

pick_below :
    (to : Node) (pick : Option ℕ) (most : ℕ) → most ≤ 200000 → IsPick (to, pick)
    → unwrap_or pick most < 2 ^ 64
unfolding IsPick
pick_below to None most few is_pick = omega (arith, few)
pick_below to (Some pick) most few is_pick = is_pick

-- behind the rack line
abbrev Keeps : Rack → List (List ℕ) → RackWord → Type 0
Keeps rack keys (Starting base) = ⊥
Keeps rack keys (Running r) = IsKept rack keys r
Keeps rack keys (Finished r) = IsKept rack keys r

module _ (law : Reaching) (rack : Rack) (keys : List (List ℕ)) where
  abbrev KeepsOn : Answer RackWord → Type 0
  KeepsOn answer = OnGoes (Keeps rack keys) answer

  or_past :
      (a b : Bool) (came : Came RackWord) → (b ≡ false → Keeps rack keys came.state)
      → KeepsOn (if a || b then Past else Goes came)
  or_past true b came keeps = tt
  or_past false true came keeps = tt
  or_past false false came keeps = keeps refl

  if_past :
      (b : Bool) (answer : Answer RackWord) → KeepsOn answer
      → KeepsOn (if b then Past else answer)
  if_past true answer keeps = tt
  if_past false answer keeps = keeps

  steps_keep :
      (r : Racked) (actor : Node) (e : Event) → IsKept rack keys r → IsLine rack e
      → KeepsOn (steps r actor e)
  steps_keep r actor e kept of_line =
      let now = step r.world (r.place + 1) e in
      or_past (nat_lt 1000000 (r.events + 1)) (nat_lt 200000 (length now.0.packets))
      (stepped r actor now)
      (λ within. record {
        is_start = kept.is_start;
        reached =
            law.steps rack keys r.place (r.place + 1) r.world e kept.reached
            (let first = kept.begun in omega (arith, first)) (omega arith) of_line;
        begun = omega arith;
        few = elim (lt_tells 200000 (length now.0.packets)) [
          | inl h ↦ let differs : true ≡ false = sym h.0 ∙ within in cc
          | inr h ↦ h.1
        ];
        picks = kept.picks;
      })

  -- a datagram that is a packet is delivered
  takes_keep :
      (o : Option ℕ) (r : Racked) (taking : Taking) → IsKept rack keys r → IsPick taking
      → ((k : ℕ) → o ≡ Some k → k < length r.world.packets) → KeepsOn (takes_packet o r taking)
  takes_keep None r (to, pick) kept is_pick within =
      record {
        is_start = kept.is_start;
        reached = law.waits rack keys r.place (r.place + 1) r.world (omega arith) kept.reached;
        begun = omega arith;
        few = kept.few;
        picks = kept.picks;
      }
  takes_keep (Some number) r (to, pick) kept is_pick within =
      steps_keep r to (event.Deliver number (unwrap_or pick (length r.world.packets))) kept (
        tt,
        (
          let less = within number refl in let few = kept.few in omega (arith, less, few),
          pick_below to pick (length r.world.packets) kept.few is_pick,
        ),
      )

  with_takes :
      (r : Racked) (takes : List Taking) → IsKept rack keys r → AllByRecursion IsPick takes
      → IsKept rack keys (record r { takes = takes })
  with_takes r takes kept picks =
      record {
        is_start = kept.is_start;
        reached = kept.reached;
        begun = kept.begun;
        few = kept.few;
        picks = picks;
      }

  turn_keeps :
      (bytes : List ℕ) (r : Racked) (taking : Taking) → IsKept rack keys r → IsPick taking
      → KeepsOn (rack_datagram bytes r taking)
  turn_keeps bytes r taking kept is_pick =
      let format = r.world.rack.format in
      takes_keep (number_of format r.world.packets taking.0 bytes) r taking kept is_pick
      (λ k is.
      let less = number_within 0 format r.world.packets taking.0 bytes k is in omega (arith, less))

  first_keeps :
      (takes : List Taking) (r : Racked) (bytes : List ℕ) → IsKept rack keys r
      → AllByRecursion IsPick takes → KeepsOn (takes_first takes r bytes)
  first_keeps [] r bytes kept picks = tt
  first_keeps (taking ∷ takes) r bytes kept picks =
      turn_keeps bytes (record r { takes = takes }) taking (with_takes r takes kept picks.1)
      picks.0

  passes_keep :
      (takes : List Taking) (r : Racked) → IsKept rack keys r → AllByRecursion IsPick takes
      → KeepsOn (passes_first takes r)
  passes_keep [] r kept picks = tt
  passes_keep (taking ∷ takes) r kept picks = with_takes r takes kept picks.1

  line_keeps :
      (e : RackEntry) (r : Racked) (line : List ℕ) → IsKept rack keys r
      → IsRackEntryLine r.world.rack line e → KeepsOn (reads_line e r)
  unfolding IsPick
  line_keeps (Happens e) r line kept is_line =
      steps_keep r (actor_of e) e kept
      (subst (λ k. IsLine k e) (law.of_rack rack keys r.place r.world kept.reached)
      (is_line.0.in_rack, is_line.0.in_range))
  line_keeps (Takes to pick) r line kept is_line =
      with_takes r ((to, Some pick) ∷ []) kept (is_line.1, tt)
  line_keeps Round r line kept is_line =
      with_takes r (map (λ to. (to, None)) (nodes_of r.world.rack)) kept
      (no_picks (nodes_of r.world.rack))
  line_keeps _ r line kept is_line = tt

  counted_keeps :
      (r : Racked) → IsKept rack keys r → IsKept rack keys (record r { lines = r.lines + 1 })
  counted_keeps r kept =
      record {
        is_start = kept.is_start;
        reached = kept.reached;
        begun = kept.begun;
        few = kept.few;
        picks = kept.picks;
      }

  entry_keeps :
      (e : RackEntry) (r : Racked) (line : List ℕ) → IsKept rack keys r
      → IsRackEntryLine r.world.rack line e → KeepsOn (reads_entry e r)
  entry_keeps End r line kept is_line = kept
  entry_keeps (Named other named) r line kept is_line = absurd is_line
  entry_keeps (Happens e) r line kept is_line =
      let more = record r { lines = r.lines + 1 } in
      if_past (r.lines == lines_most) (reads_line (Happens e) more)
      (line_keeps (Happens e) more line (counted_keeps r kept) is_line)
  entry_keeps (Takes to pick) r line kept is_line =
      let more = record r { lines = r.lines + 1 } in
      if_past (r.lines == lines_most) (reads_line (Takes to pick) more)
      (line_keeps (Takes to pick) more line (counted_keeps r kept) is_line)
  entry_keeps Round r line kept is_line =
      let more = record r { lines = r.lines + 1 } in
      if_past (r.lines == lines_most) (reads_line Round more)
      (line_keeps Round more line (counted_keeps r kept) is_line)

  -- a rack as it begins
  begins : (base : ℕ) → IsStart rack keys → IsKept rack keys (racked base rack keys)
  begins base is_start =
      record {
        is_start = is_start;
        reached = law.begins rack keys;
        begun = omega arith;
        few = omega arith;
        picks = tt;
      }

-- ---- the whole

record IsBehind (entries : List RackEntry) (s : RackWord) : Type 0 where
  rack : Rack
  keys : List (List ℕ)
  rest : List RackEntry
  named : entries ≡ Named rack keys ∷ rest
  kept : Keeps rack keys s

abbrev Reads : Inputs RackEntry → RackWord → Type 0
Reads inputs (Starting base) = entries_of inputs ≡ []
Reads inputs (Running r) = IsBehind (entries_of inputs) (Running r)
Reads inputs (Finished r) = IsBehind (entries_of inputs) (Finished r)

module _ (law : Reaching) where
  one_more :
      (inputs : Inputs RackEntry) (x : Input RackEntry) (s t : RackWord)
      → (behind : IsBehind (entries_of inputs) s) → Keeps behind.rack behind.keys t
      → Reads (More inputs x) t
  one_more inputs x s (Starting base) behind keeps = absurd keeps
  one_more inputs x s (Running r) behind keeps =
      record {
        rack = behind.rack;
        keys = behind.keys;
        rest = behind.rest ++ entry_in x;
        named = ap (λ es. es ++ entry_in x) behind.named;
        kept = keeps;
      }
  one_more inputs x s (Finished r) behind keeps =
      record {
        rack = behind.rack;
        keys = behind.keys;
        rest = behind.rest ++ entry_in x;
        named = ap (λ es. es ++ entry_in x) behind.named;
        kept = keeps;
      }

  goes_on :
      (inputs : Inputs RackEntry) (x : Input RackEntry) (s : RackWord) (answer : Answer RackWord)
      → (behind : IsBehind (entries_of inputs) s)
      → OnGoes (Keeps behind.rack behind.keys) answer → OnGoes (Reads (More inputs x)) answer
  goes_on inputs x s Past behind keeps = tt
  goes_on inputs x s (Goes came) behind keeps = one_more inputs x s came.state behind keeps

  one :
      (inputs : Inputs RackEntry) (s : RackWord) (x : Input RackEntry) → Reads inputs s
      → IsReadable serves_rack s x → OnGoes (Reads (More inputs x)) (rack_on s x)
  one inputs (Starting base) (Entry (Named rack keys)) none readable =
      record {
        rack = rack;
        keys = keys;
        rest = [];
        named = ap (λ es. es ++ Named rack keys ∷ []) none;
        kept =
            begins law rack keys base
            (record { limits = readable.1.limits; named = readable.1.named });
      }
  one inputs (Running r) (Datagram bytes) behind readable =
      goes_on inputs (Datagram bytes) (Running r) (takes_first r.takes r bytes) behind
      (first_keeps law behind.rack behind.keys r.takes r bytes behind.kept behind.kept.picks)
  one inputs (Running r) Quiet behind readable =
      goes_on inputs Quiet (Running r) (passes_first r.takes r) behind
      (passes_keep law behind.rack behind.keys r.takes r behind.kept behind.kept.picks)
  one inputs (Running r) (Entry e) behind readable =
      goes_on inputs (Entry e) (Running r) (reads_entry e r) behind
      (entry_keeps law behind.rack behind.keys e r readable.0 behind.kept readable.1)
  one inputs _ x reads readable = tt

  served :
      (entries : List RackEntry) (r : Racked) (rack : Rack) (keys : List (List ℕ))
      (rest : List RackEntry) → entries ≡ Named rack keys ∷ rest → IsKept rack keys r
      → IsServed entries r.world
  served entries r rack keys rest named kept =
      record {
        rack = rack;
        keys = keys;
        rest = rest;
        named = named;
        run =
            record {
              is_start = kept.is_start;
              is_end = law.ends rack keys r.place r.world kept.reached;
            };
      }

  has_run :
      (inputs : Inputs RackEntry) (s : RackWord) → Reads inputs s → HasRun (entries_of inputs) s
  has_run inputs (Starting base) none = none
  has_run inputs (Running r) b = served (entries_of inputs) r b.rack b.keys b.rest b.named b.kept
  has_run inputs (Finished r) b = served (entries_of inputs) r b.rack b.keys b.rest b.named b.kept

  pub racked_is_run :
      (base : ℕ) (inputs : Inputs RackEntry) → IsTaken serves_rack (rack_start base) inputs
      → HasRun (entries_of inputs) (state_of serves_rack (rack_start base) inputs)
  racked_is_run base inputs taken =
      has_run inputs (state_of serves_rack (rack_start base) inputs)
      (all_kept_with serves_rack Reads one (rack_start base) inputs taken refl)
