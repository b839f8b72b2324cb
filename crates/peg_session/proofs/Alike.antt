-- For the words that are carried out as sessions.
use Rattle.std.proofs.Common.{◌≡◌, ◌+◌, ℕ, List, ◌++◌, length, map}
use Rattle.std.proofs.Common.{refl, sym, ap, ◌∙◌, subst, append_assoc, inl, inr}
use Rattle.std.proofs.Common.{length-append}
use Rattle.std.proofs.lemmas.List.{append-nil}
use Rattle.peg_io.specs.Outside.{Tells}
use Rattle.peg_meaning.specs.Wire.{Carried, Turn, Sent}
use Rattle.peg_meaning.specs.Session.{Meaning, Came, Input, Entry, Datagram, Quiet, Tick, Inputs, Begin}
use Rattle.peg_meaning.specs.Session.{More, Answer, after, came_of, state_of, carried_of}
use Rattle.peg_meaning.specs.Session.{sent_from, hears}
use Rattle.peg_session.specs.Ends.{Told, IsRead, Ended, HasCause, IsRefused, IsNearRefused}
use Rattle.peg_meaning.specs.Session.{IsTaken}
use Rattle.peg_io.specs.Lines.{HasNoFeed}
use Rattle.peg_session.specs.Ends.{IsNear, IsEnd}
use Rattle.peg_session.specs.Alike.{IsGood}
use Rattle.peg_session.specs.Ends.{IsAccepted, IsComplete}
use Rattle.peg_meaning.specs.Session.{binds_of, turn_of, turns_of, sends_of, CarriesOn}
use Rattle.peg_meaning.specs.declared.Want.{Want}
use Rattle.peg_meaning.specs.declared.Want.TheVariants as want
use Rattle.peg_session.specs.declared.End.{End}
use Rattle.peg_session.specs.declared.End.TheVariants as end
use Rattle.peg_io.proofs.Telling.{Tells_as}
use Rattle.peg_session.proofs.Standings.{hears_sent}

-- what holds at an end
pub ended_at :
    {S E : Type 0} (m : Meaning S E) (start : Came S) (before now : Told) (e f : End)
    → Ended m start before now e → e ≡ f → Ended m start before now f
ended_at m start before now e f ended is =
    subst (λ (k : End). Ended m start before now k) is ended

-- ---- what the wire carried, list by list

hears_bound :
    {E : Type 0} (base : ℕ) (w : Want) (x : Input E) (c : Carried)
    → (hears base w x c).bound ≡ c.bound
hears_bound base (want.Turn slot room) (Datagram bytes) c = refl
hears_bound base (want.Turn slot room) Quiet c = refl
hears_bound base (want.Turn slot room) (Entry e) c = refl
hears_bound base (want.Line limit optional) x c = refl
hears_bound base (want.Turn slot room) Tick c = refl
hears_bound base want.Step x c = refl
hears_bound base want.Over x c = refl

hears_turns :
    {E : Type 0} (base : ℕ) (w : Want) (x : Input E) (c : Carried)
    → (hears base w x c).turns ≡ c.turns ++ turn_of base w x
hears_turns base (want.Turn slot room) (Datagram bytes) c = refl
hears_turns base (want.Turn slot room) Quiet c = refl
hears_turns base (want.Turn slot room) (Entry e) c = sym (append-nil c.turns)
hears_turns base (want.Line limit optional) x c = sym (append-nil c.turns)
hears_turns base (want.Turn slot room) Tick c = sym (append-nil c.turns)
hears_turns base want.Step x c = sym (append-nil c.turns)
hears_turns base want.Over x c = sym (append-nil c.turns)

module _ {S E : Type 0} (m : Meaning S E) (start : Came S) (base : ℕ) (c : Carried) where
  pub bound_is :
      (inputs : Inputs E)
      → (carried_of m start base c inputs).bound ≡ c.bound ++ binds_of m start inputs
  bound_is Begin = refl
  bound_is (More inputs x) =
      ap (λ xs. xs ++ (came_of m start (More inputs x)).binds)
      (hears_bound base (m.want (state_of m start inputs)) x (carried_of m start base c inputs)
      ∙ bound_is inputs)
      ∙ append_assoc c.bound (binds_of m start inputs) (came_of m start (More inputs x)).binds

  pub turns_is :
      (inputs : Inputs E)
      → (carried_of m start base c inputs).turns ≡ c.turns ++ turns_of m start base inputs
  turns_is Begin = sym (append-nil c.turns)
  turns_is (More inputs x) =
      hears_turns base (m.want (state_of m start inputs)) x (carried_of m start base c inputs)
      ∙ ap (λ (ts : List Turn). ts ++ turn_of base (m.want (state_of m start inputs)) x)
      (turns_is inputs)
      ∙ append_assoc c.turns (turns_of m start base inputs)
      (turn_of base (m.want (state_of m start inputs)) x)

  pub sends_is :
      (inputs : Inputs E)
      → (carried_of m start base c inputs).attempted
      ≡ c.attempted ++ sends_of m start base (length c.turns) inputs
  sends_is Begin = refl
  sends_is (More inputs x) =
      let came = came_of m start (More inputs x) in
      let before = carried_of m start base c inputs in
      let heard = hears base (m.want (state_of m start inputs)) x before in
      let turns : length heard.turns
      ≡ length c.turns + length (turns_of m start base (More inputs x)) =
      ap length (turns_is (More inputs x))
      ∙ length-append c.turns (turns_of m start base (More inputs x)) in
      ap (λ (xs : List Sent). xs ++ map (sent_from base (length heard.turns)) came.letters)
      (hears_sent base (m.want (state_of m start inputs)) x before ∙ sends_is inputs)
      ∙ ap (λ n. (c.attempted ++ sends_of m start base (length c.turns) inputs)
      ++ map (sent_from base n) came.letters) turns
      ∙ append_assoc c.attempted (sends_of m start base (length c.turns) inputs)
      (map (sent_from base
      (length c.turns + length (turns_of m start base (More inputs x)))) came.letters)

  pub carries_on :
      (inputs : Inputs E) (n : Carried) → n ≡ carried_of m start base c inputs
      → CarriesOn m start base inputs c n
  carries_on inputs n is =
      record {
        bound = ap (λ (k : Carried). k.bound) is ∙ bound_is inputs;
        turns = ap (λ (k : Carried). k.turns) is ∙ turns_is inputs;
        attempted = ap (λ (k : Carried). k.attempted) is ∙ sends_is inputs;
      }

-- ---- an input that a session takes to its end

module _ {S E : Type 0} (m : Meaning S E) (start : Came S) (Good : S → List ℕ → Type 0)
    (good : IsGood m Good) where
  pub good_reaches :
      (inputs : Inputs E) (input tail : List ℕ) → IsTaken m start inputs
      → IsRead m start inputs input tail → Good start.state input
      → Good (state_of m start inputs) tail
  good_reaches Begin input tail taken read is = subst (Good start.state) read is
  good_reaches (More inputs x) input tail taken read is =
      let here = good_reaches inputs input read.0 taken.0 read.1 is in
      let came : came_of m start (More inputs x) ≡ taken.2.0 =
      ap (λ (a : Answer S). after (state_of m start inputs) a) taken.2.1 in
      subst (λ (k : Came S). Good k.state tail) (sym came)
      (good.keeps (state_of m start inputs) x read.0 tail taken.2.0 here read.2 taken.2.1)

  -- so all of it is accepted
  pub accepted_of :
      (input : List ℕ) → Good start.state input → IsAccepted m start input
  accepted_of input is =
      record {
        lines = λ inputs tail limit optional taken read asked refused.
            good.lines (state_of m start inputs) limit optional tail
            (good_reaches inputs input tail taken read is) asked refused;
        steps = λ inputs x tail taken read past.
            good.steps (state_of m start inputs) x read.0 tail
            (good_reaches inputs input read.0 taken read.1 is) read.2 past;
      }

-- an input that is accepted is done, where nothing fails and there is memory
module _ {S E : Type 0} (m : Meaning S E) (start : Came S) where
  pub complete_of :
      (before now : Told) (e : End) (reads reads' writes writes' wires wires' : ℕ)
      → Ended m start before now e → HasCause e reads reads' writes writes' wires wires'
      → Tells before.left now.left
      (λ input rest. IsAccepted m start input
      → IsComplete e reads reads' writes writes' wires wires')
  complete_of before now end.Done r r' w w' x x' done cause =
      Tells_as before.left now.left
      (λ input rest. (tail : List ℕ) × IsRead m start done.inputs input tail
      × IsEnd (m.want (state_of m start done.inputs)) tail × IsNear tail rest)
      (λ input rest. IsAccepted m start input → IsComplete end.Done r r' w w' x x')
      (λ b n is g a k q. inl refl) done.read
  complete_of before now end.OutOfMemory r r' w w' x x' cut cause =
      Tells_as before.left now.left
      (λ input rest. (tail : List ℕ) × IsRead m start cut.inputs input tail)
      (λ input rest. IsAccepted m start input → IsComplete end.OutOfMemory r r' w w' x x')
      (λ b n is g a k q. inr refl) cut.read
  complete_of before now end.ReadFault r r' w w' x x' part cause =
      Tells_as before.left now.left
      (λ input rest. (some : List ℕ) × IsRead m start part.inputs input (some ++ rest)
      × HasNoFeed some)
      (λ input rest. IsAccepted m start input → IsComplete end.ReadFault r r' w w' x x')
      (λ b n is g a k q. absurd (a cause)) part.read
  complete_of before now end.WriteFault r r' w w' x x' cut cause =
      Tells_as before.left now.left
      (λ input rest. (tail : List ℕ) × IsRead m start cut.0.inputs input tail)
      (λ input rest. IsAccepted m start input → IsComplete end.WriteFault r r' w w' x x')
      (λ b n is g a k q. absurd (k cause)) cut.0.read
  complete_of before now end.WireFault r r' w w' x x' unheard cause =
      Tells_as before.left now.left
      (λ input rest. (tail : List ℕ) × IsRead m start unheard.inputs input tail
      × IsNear tail rest)
      (λ input rest. IsAccepted m start input → IsComplete end.WireFault r r' w w' x x')
      (λ b n is g a k q. absurd (q cause)) unheard.read
  complete_of before now (end.BadInput line) r r' w w' x x' bad cause =
      Tells_as before.left now.left
      (λ input rest. (tail : List ℕ) × IsRead m start bad.inputs input tail
      × IsRefused m (state_of m start bad.inputs) bad.limit bad.optional tail
      × IsNearRefused bad.limit tail rest)
      (λ input rest. IsAccepted m start input → IsComplete (end.BadInput line) r r' w w' x x')
      (λ b n is g a k q. absurd
      (g.lines bad.inputs is.0 bad.limit bad.optional bad.taken is.1 bad.wanted is.2)) bad.read
  complete_of before now (end.TooMuch line) r r' w w' x x' past cause =
      Tells_as before.left now.left
      (λ input rest. (tail : List ℕ) × IsRead m start (More past.inputs past.x) input tail
      × IsNear tail rest)
      (λ input rest. IsAccepted m start input → IsComplete (end.TooMuch line) r r' w w' x x')
      (λ b n is g a k q. absurd
      (g.steps past.inputs past.x is.0 past.taken is.1 past.past)) past.read
