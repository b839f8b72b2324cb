-- What a word that takes turns comes to.
use Rattle.std.proofs.Common.{◌≡◌, ◌≤◌, ◌+◌, ◌-◌, ℕ, zero, suc, Bool, true, false, List, [], ◌++◌, length}
use Rattle.std.proofs.Common.{refl, sym, ap, subst, ◌∙◌, arith, append-nil, length-append}
use Rattle.std.proofs.Common.{if◌then◌else◌}
use Rattle.std.proofs.Common.{inl, inr}
use Rattle.std.proofs.lemmas.Bool.Decides.{eqb_tells}
use Rattle.std.specs.Prelude.{◌==◌}
use Rattle.peg_name.specs.declared.Format.{Format}
use Rattle.peg_name.specs.declared.Node.{Node}
use Rattle.peg_meaning.specs.declared.Want.{Want}
use Rattle.peg_meaning.specs.declared.Want.TheVariants as want
use Rattle.peg_io.specs.Outside.{Tells, Appends}
use Rattle.peg_model.specs.Packet.{Packet}
use Rattle.peg_meaning.specs.Wire.{Turn, Carried}
use Rattle.peg_meaning.specs.Session.{Input, Entry, Datagram, Quiet, Tick, Inputs, Begin, More, Meaning, Came}
use Rattle.peg_meaning.specs.Session.{Past, IsTaken, IsTurn, IsTurnOf, IsStep, turn_of, turns_of, binds_of}
use Rattle.peg_meaning.specs.Session.{state_of, text_of, carried_of, datagrams_in, at_port, room, CarriesOn}
use Rattle.peg_meaning.specs.Roles.{Serving, serving, serves, datagrams_text}
use Rattle.peg_session.specs.Ends.{Told, Ended, MayEnd}
use Rattle.peg_session.specs.declared.End.{End}
use Rattle.peg_session.specs.declared.End.TheVariants as end
use Rattle.peg_io.proofs.Telling.{Tells_as}
use Rattle.peg_session.proofs.Alike.{carries_on}
use Rattle.peg_node.specs.Served.{IsServed, IsServedPart, IsServeEnd}

-- ---- what is wanted, by whether it is over and whether its turns are used

abbrev wants : Bool → Bool → ℕ → Want
wants over done room = if over then want.Over else (if done then want.Step else want.Turn 0 room)

turn_only :
    (over done : Bool) (room n : ℕ) → IsTurnOf (wants over done room) n
    → (over ≡ false) × (done ≡ false)
turn_only true done room n is = absurd is
turn_only false true room n is = absurd is
turn_only false false room n is = (refl, refl)

pause_only :
    (over done : Bool) (room : ℕ) → IsTurn (wants over done room)
    → (over ≡ false) × (done ≡ false)
pause_only true done room is = absurd is
pause_only false true room is = absurd is
pause_only false false room is = (refl, refl)

step_only :
    (over done : Bool) (room : ℕ) → IsStep (wants over done room)
    → (over ≡ false) × (done ≡ true)
step_only true done room is = absurd is
step_only false true room is = (refl, refl)
step_only false false room is = absurd is

over_only : (over done : Bool) (room : ℕ) → MayEnd (wants over done room) → over ≡ true
over_only true done room is = refl
over_only false true room is = absurd is
over_only false false room is = absurd is

no_line :
    (over done : Bool) (room limit : ℕ) (optional : Bool)
    → wants over done room ≡ want.Line limit optional → ⊥
no_line true done room limit optional is = cc
no_line false true room limit optional is = cc
no_line false false room limit optional is = cc

one_turn :
    (over done : Bool) (room base : ℕ) (bytes : List ℕ) → (over ≡ false) × (done ≡ false)
    → length (turn_of {E = ⊥} base (wants over done room) (Datagram bytes)) ≡ 1
one_turn true done room base bytes is = let never : true ≡ false = is.0 in absurd (cc)
one_turn false true room base bytes is = let never : true ≡ false = is.1 in absurd (cc)
one_turn false false room base bytes is = refl

one_pause :
    (over done : Bool) (room base : ℕ) → (over ≡ false) × (done ≡ false)
    → length (turn_of {E = ⊥} base (wants over done room) Quiet) ≡ 1
one_pause true done room base is = let never : true ≡ false = is.0 in absurd (cc)
one_pause false true room base is = let never : true ≡ false = is.1 in absurd (cc)
one_pause false false room base is = refl

no_turn :
    (over done : Bool) (room base : ℕ)
    → length (turn_of {E = ⊥} base (wants over done room) Tick) ≡ 0
no_turn true done room base = refl
no_turn false true room base = refl
no_turn false false room base = refl

some_left : (n : ℕ) → (n == 0) ≡ false → 1 ≤ n
some_left zero is = let never : true ≡ false = is in absurd (cc)
some_left (suc n) is = omega arith

none_left : (n : ℕ) → (n == 0) ≡ true → n ≡ 0
none_left n is = elim (eqb_tells n 0) [
  | inl h ↦ h.1
  | inr h ↦ let never : true ≡ false = sym is ∙ h.0 in absurd (cc)
]

not_over : (over : Bool) (x : List ℕ) → over ≡ false → (if over then x else []) ≡ []
not_over true x is = let never : true ≡ false = is in absurd (cc)
not_over false x is = refl

is_over : (over : Bool) (x : List ℕ) → over ≡ true → (if over then x else []) ≡ x
is_over true x is = refl
is_over false x is = let never : false ≡ true = is in absurd (cc)

-- ---- the fold

module _ {N : Type 0} (step : N → List ℕ → ℕ → N × List (Node × Packet)) (base : ℕ) (name : Node)
    (node : N) (format : Format) (turns slots : ℕ) where
  abbrev m : Meaning (Serving N) ⊥
  m = serves step

  abbrev start : Came (Serving N)
  start = at_port base name (serving node base format turns)

  record IsAt (inputs : Inputs ⊥) : Type 0 where
    left :
        (state_of m start inputs).left + length (turns_of m start slots inputs) ≡ turns
    used : (state_of m start inputs).is_over ≡ true → (state_of m start inputs).left ≡ 0
    text :
        text_of m start inputs
        ≡ (if (state_of m start inputs).is_over
        then datagrams_text (state_of m start inputs).datagrams else [])
    count : (state_of m start inputs).datagrams ≡ datagrams_in inputs
    ports : binds_of m start inputs ≡ start.binds

  one_less :
      (left : ℕ) (ts more : List Turn) → left + length ts ≡ turns → length more ≡ 1 → 1 ≤ left
      → left - 1 + length (ts ++ more) ≡ turns
  one_less left ts more is one some =
      let e = length-append ts more in omega (arith, e, is, one, some)

  as_many :
      (left : ℕ) (ts more : List Turn) → left + length ts ≡ turns → length more ≡ 0
      → left + length (ts ++ more) ≡ turns
  as_many left ts more is none = let e = length-append ts more in omega (arith, e, is, none)

  served : (inputs : Inputs ⊥) → IsTaken m start inputs → IsAt inputs
  served Begin taken =
      record {
        left = omega arith;
        used = λ is. let never : false ≡ true = is in absurd (cc);
        text = refl;
        count = refl;
        ports = refl;
      }
  served (More inputs (Entry e)) taken = absurd e
  served (More inputs (Datagram bytes)) taken =
      let s = state_of m start inputs in
      let h = served inputs taken.0 in
      let is = turn_only s.is_over (s.left == 0) (room s.format) (length bytes) taken.1 in
      record {
        left =
            one_less s.left (turns_of m start slots inputs)
            (turn_of slots (wants s.is_over (s.left == 0) (room s.format)) (Datagram bytes)) h.left
            (one_turn s.is_over (s.left == 0) (room s.format) slots bytes is)
            (some_left s.left is.1);
        used = λ over. let never : true ≡ false = sym over ∙ is.0 in absurd (cc);
        text =
            append-nil (text_of m start inputs) ∙ h.text
            ∙ not_over s.is_over (datagrams_text s.datagrams) is.0
            ∙ sym (not_over s.is_over (datagrams_text (s.datagrams + 1)) is.0);
        count = ap (λ n. n + 1) h.count;
        ports = append-nil (binds_of m start inputs) ∙ h.ports;
      }
  served (More inputs Quiet) taken =
      let s = state_of m start inputs in
      let h = served inputs taken.0 in
      let is = pause_only s.is_over (s.left == 0) (room s.format) taken.1 in
      record {
        left =
            one_less s.left (turns_of m start slots inputs)
            (turn_of slots (wants s.is_over (s.left == 0) (room s.format)) Quiet) h.left
            (one_pause s.is_over (s.left == 0) (room s.format) slots is) (some_left s.left is.1);
        used = λ over. let never : true ≡ false = sym over ∙ is.0 in absurd (cc);
        text = append-nil (text_of m start inputs) ∙ h.text;
        count = h.count;
        ports = append-nil (binds_of m start inputs) ∙ h.ports;
      }
  served (More inputs Tick) taken =
      let s = state_of m start inputs in
      let h = served inputs taken.0 in
      let is = step_only s.is_over (s.left == 0) (room s.format) taken.1 in
      record {
        left =
            as_many s.left (turns_of m start slots inputs)
            (turn_of slots (wants s.is_over (s.left == 0) (room s.format)) Tick) h.left
            (no_turn s.is_over (s.left == 0) (room s.format) slots);
        used = λ over. none_left s.left is.1;
        text =
            ap (λ xs. xs ++ datagrams_text s.datagrams)
            (h.text ∙ not_over s.is_over (datagrams_text s.datagrams) is.0);
        count = h.count;
        ports = append-nil (binds_of m start inputs) ∙ h.ports;
      }
  -- ---- the ends

module _ {N : Type 0} (step : N → List ℕ → ℕ → N × List (Node × Packet)) (base : ℕ) (name : Node)
    (node : N) (format : Format) (turns : ℕ) (before now : Told) where
  abbrev w : Meaning (Serving N) ⊥
  w = serves step

  abbrev first : Came (Serving N)
  first = at_port base name (serving node base format turns)

  pub done_served : Ended w first before now end.Done → IsServed w first turns before now
  done_served done =
      let s = state_of w first done.inputs in
      let h = served step base name node format turns before.slots done.inputs done.taken in
      let over = over_only s.is_over (s.left == 0) (room s.format) done.over in
      let used = h.used over in
      let left = h.left in
      let text : text_of w first done.inputs ≡ datagrams_text (datagrams_in done.inputs) =
      h.text ∙ is_over s.is_over (datagrams_text s.datagrams) over ∙ ap datagrams_text h.count in
      record {
        inputs = done.inputs;
        taken = done.taken;
        all = omega (arith, used, left);
        ports = h.ports;
        written = subst (λ xs. Tells before.held now.held (Appends xs)) text done.written;
        carried =
            Tells_as before.carried now.carried
            (λ c n. n ≡ carried_of w first before.slots c done.inputs)
            (CarriesOn w first before.slots done.inputs)
            (λ c n is. carries_on w first before.slots c done.inputs n is) done.carried;
      }

  pub cut_served : Ended w first before now end.OutOfMemory → IsServedPart w first before now
  cut_served cut =
      record {
        inputs = cut.inputs;
        taken = cut.taken;
        written = cut.written;
        carried = cut.carried;
      }

  never_past : (s : Serving N) (x : Input ⊥) → w.on s x ≡ Past → ⊥
  never_past s (Entry e) is = absurd e
  never_past s (Datagram bytes) is = cc
  never_past s Quiet is = cc
  never_past s Tick is = cc

  pub ends_served : (e : End) → Ended w first before now e → IsServeEnd e
  ends_served end.Done ended = tt
  ends_served end.OutOfMemory ended = tt
  ends_served end.WriteFault ended = tt
  ends_served end.WireFault ended = tt
  ends_served end.ReadFault part =
      let s = state_of w first part.inputs in
      no_line s.is_over (s.left == 0) (room s.format) part.limit part.optional part.wanted
  ends_served (end.BadInput line) bad =
      let s = state_of w first bad.inputs in
      no_line s.is_over (s.left == 0) (room s.format) bad.limit bad.optional bad.wanted
  ends_served (end.TooMuch line) past = never_past (state_of w first past.inputs) past.x past.past
