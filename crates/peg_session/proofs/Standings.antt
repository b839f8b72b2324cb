-- How a session stands after each call.
use Rattle.std.proofs.Common.{◌≡◌, ◌≢◌, ◌⊎◌, ◌≤◌, ◌<◌, ◌+◌, ℕ, Bool, true, false, Option, List, []}
use Rattle.std.proofs.Common.{Some, None, ◌∷◌, ◌++◌, length, map, drop, take, refl, sym, ap, ◌∙◌, subst, arith, not, suc}
use Rattle.std.proofs.Common.{append_assoc, inl, inr}
use Rattle.std.proofs.lemmas.List.{append-nil, length-take}
use Rattle.std.proofs.Math.Seq.{drop-append-add}
use Rattle.peg_meaning.specs.Wire as wire
use Rattle.peg_io.specs.Outside.{Tells, Appends, WritesSome}
use Rattle.peg_meaning.specs.Wire.{Carried, Sent, Turn, with_turn}
use Rattle.peg_io.specs.Lines.{line_of, past_line, past_lines, has_feed, ReadAhead, Gives, Keeps}
use Rattle.peg_io.specs.Lines.{HasNoFeed, AreFed}
use Rattle.peg_io.specs.declared.lines.NextLine.{NextLine}
use Rattle.peg_io.specs.declared.lines.NextLine.TheVariants as next
use Rattle.peg_session.specs.Pages.{AppendsPart, AppendsMore, Moves, Passes}
use Rattle.peg_meaning.specs.Session.{Meaning, Came, Letter, Answer, Past, Input, Entry}
use Rattle.peg_meaning.specs.Session.{Datagram, Quiet, Tick}
use Rattle.peg_meaning.specs.Session.{Inputs, More, after, came_of, state_of, text_of, lines_of}
use Rattle.peg_meaning.specs.Session.{carried_of, heard_of, hears, puts, sent_from, bound_more}
use Rattle.peg_meaning.specs.Session.{sent_more, Begin, begun}
use Rattle.peg_session.specs.Took.{DidGo, WasCut, Took, TookLine, Kept, Takes, Hands}
use Rattle.peg_session.specs.declared.Taken.{Taken}
use Rattle.peg_session.specs.declared.Taken.TheVariants as kind
use Rattle.peg_meaning.specs.Session.{IsOnly, Spells, IsTurn, IsTurnOf, IsStep}
use Rattle.peg_session.specs.Ends.{Told, told, IsRead, IsReadBy, IsNear, IsNext}
use Rattle.peg_meaning.specs.Session.{IsWanted}
use Rattle.peg_session.specs.Ends.{IsPart, BindsSome, IsNearUnwritten, Ended, HaveSameSends}
use Rattle.peg_io.specs.Outside.{Rose}
use Rattle.std.specs.Prelude.{IfSome}
use Rattle.peg_session.specs.Ends.{HasCause, MayEnd, IsEnd, IsRefused, IsNearRefused}
use Rattle.peg_session.specs.Standing.{Stands, Waits, HasLine, HasTaken, Closes}
use Rattle.peg_session.specs.Standing.{Settles, Stops, IsReadOn, IsFed}
use Rattle.peg_meaning.specs.declared.Want.{Want}
use Rattle.peg_meaning.specs.declared.Want.TheVariants as want
use Rattle.peg_session.specs.declared.End.{End}
use Rattle.peg_session.specs.declared.End.TheVariants as end
use Rattle.peg_session.specs.declared.Stepped.{Stepped}
use Rattle.peg_session.specs.declared.Stepped.TheVariants as stepped
use Rattle.peg_session.specs.declared.desk.Desk.{Desk}
use Rattle.peg_io.proofs.Telling.{Tells_more, Tells_as, Tells_both, Tells_none}
use Rattle.peg_io.proofs.LineLemmas.{fed_more, unfed_past}
use Rattle.peg_session.proofs.Passing.{moves_then, cut_then}

-- ---- the sink

abbrev pub Grows : List ℕ → List ℕ → Type 0
Grows b n = (more : List ℕ) × (n ≡ b ++ more)

pub moves_grow : (text page page' b n : List ℕ) → Moves text page page' b n → Grows b n
moves_grow text page page' b n moves = (moves.0, moves.2)

pub some_grows : (text b n : List ℕ) → WritesSome text b n → Grows b n
some_grows text b n some = (take some.0 text, some.2)

-- the page was written
pub page_written :
    (text page : List ℕ) (held h1 h2 : Option (List ℕ)) → Tells held h1 (Moves text [] page)
    → Tells h1 h2 (Appends page) → Tells held h2 (Appends text)
page_written text page held h1 h2 written more =
    Tells_more held h1 h2 (Moves text [] page) (Appends page) (Appends text)
    (λ b m n moves e. e ∙ ap (λ xs. xs ++ page) moves.2 ∙ append_assoc b moves.0 page
    ∙ ap (λ xs. b ++ xs) (sym moves.1)) written more

-- or cut
pub page_cut :
    (text page : List ℕ) (held h1 h2 : Option (List ℕ)) → Tells held h1 (Moves text [] page)
    → Tells h1 h2 (WritesSome page) → Tells held h2 (WritesSome text)
page_cut text page held h1 h2 written more =
    Tells_more held h1 h2 (Moves text [] page) (WritesSome page) (WritesSome text)
    (λ b m n moves some. subst (λ xs. WritesSome xs b n) (append-nil text)
    (cut_then text [] [] page b m n moves
    (subst (λ xs. WritesSome xs m n) (sym (append-nil page)) some))) written more

-- more went over the page
pub page_more :
    (text more page page' : List ℕ) (held h1 h2 : Option (List ℕ))
    → Tells held h1 (Moves text [] page) → Passes true more page page' h1 h2
    → Tells held h2 (Moves (text ++ more) [] page')
page_more text more page page' held h1 h2 written over =
    Tells_more held h1 h2 (Moves text [] page) (Moves more page page')
    (Moves (text ++ more) [] page') (moves_then text more [] page page') written over

pub page_more_cut :
    (text more page page' : List ℕ) (held h1 h2 : Option (List ℕ))
    → Tells held h1 (Moves text [] page) → Passes false more page page' h1 h2
    → Tells held h2 (WritesSome (text ++ more))
page_more_cut text more page page' held h1 h2 written over =
    Tells_more held h1 h2 (Moves text [] page) (WritesSome (page ++ more))
    (WritesSome (text ++ more)) (cut_then text more [] page) written over

-- all was written
pub all_written :
    (text page : List ℕ) (held h1 : Option (List ℕ)) → Tells held h1 (Moves text [] page)
    → page ≡ [] → Tells held h1 (Appends text)
all_written text page held h1 written none =
    Tells_as held h1 (Moves text [] page) (Appends text)
    (λ b n moves. moves.2
    ∙ ap (λ xs. b ++ xs)
    (sym (moves.1 ∙ ap (λ xs. moves.0 ++ xs) none ∙ append-nil moves.0))) written

pub appended_more :
    (text : List ℕ) (held h1 : Option (List ℕ)) → Tells held h1 (Appends text)
    → Tells held h1 (AppendsMore text)
appended_more text held h1 told =
    Tells_as held h1 (Appends text) (AppendsMore text)
    (λ b n e. ([], e ∙ ap (λ xs. b ++ xs) (sym (append-nil text)))) told

some_near :
    (page : List ℕ) (N : Type 0) → page ≢ [] → (page ≡ []) ⊎ N → N
some_near page N some (inl none) = absurd (some none)
some_near page N some (inr near) = near

-- ---- the wire

part_more : {S : Type 0} (base : ℕ) (came : Came S) (c : Carried) → IsPart (puts base came c) c
part_more base came c =
    record {
      unbound = came.binds;
      unsent = map (sent_from base (length c.turns)) came.letters;
      turn = [];
      bound = refl;
      attempted = refl;
      turns = sym (append-nil c.turns);
      one = omega arith;
    }

part_unsent :
    {S : Type 0} (base : ℕ) (came : Came S) (c : Carried)
    → IsPart (puts base came c) (bound_more came.binds c)
part_unsent base came c =
    record {
      unbound = [];
      unsent = map (sent_from base (length c.turns)) came.letters;
      turn = [];
      bound = sym (append-nil (c.bound ++ came.binds));
      attempted = refl;
      turns = sym (append-nil c.turns);
      one = omega arith;
    }

part_all : (c : Carried) → IsPart c c
part_all c =
    record {
      unbound = [];
      unsent = [];
      turn = [];
      bound = sym (append-nil c.bound);
      attempted = sym (append-nil c.attempted);
      turns = sym (append-nil c.turns);
      one = omega arith;
    }

part_turn : (c : Carried) (t : Turn) → IsPart c (record c { turns = c.turns ++ t ∷ [] })
part_turn c t =
    record {
      unbound = [];
      unsent = [];
      turn = t ∷ [];
      bound = sym (append-nil c.bound);
      attempted = sym (append-nil c.attempted);
      turns = refl;
      one = omega arith;
    }

part_heard :
    {E : Type 0} (base : ℕ) (w : Want) (x : Input E) (c : Carried) → IsPart c (hears base w x c)
part_heard base (want.Turn slot room) (Datagram bytes) c =
    part_turn c (wire.Datagram (base + slot) bytes)
part_heard base (want.Turn slot room) Quiet c = part_turn c (wire.Pause (base + slot))
part_heard base (want.Turn slot room) (Entry e) c = part_all c
part_heard base (want.Turn slot room) Tick c = part_all c
part_heard base want.Step x c = part_all c
part_heard base (want.Line limit optional) x c = part_all c
part_heard base want.Over x c = part_all c

part_bound :
    {S : Type 0} (base : ℕ) (came : Came S) (c n : Carried) → BindsSome came.binds c n
    → IsPart (puts base came c) n
part_bound base came c n some =
    subst (λ (k : Carried). IsPart (puts base came c) k) (sym some.4)
    (record {
      unbound = some.1;
      unsent = map (sent_from base (length c.turns)) came.letters;
      turn = [];
      bound = ap (λ xs. c.bound ++ xs) some.2 ∙ sym (append_assoc c.bound some.0 some.1);
      attempted = refl;
      turns = sym (append-nil c.turns);
      one = omega arith;
    })

pub hears_sent :
    {E : Type 0} (base : ℕ) (w : Want) (x : Input E) (c : Carried)
    → (hears base w x c).attempted ≡ c.attempted
hears_sent base (want.Turn slot room) (Datagram bytes) c = refl
hears_sent base (want.Turn slot room) Quiet c = refl
hears_sent base (want.Turn slot room) (Entry e) c = refl
hears_sent base (want.Line limit optional) x c = refl
hears_sent base (want.Turn slot room) Tick c = refl
hears_sent base want.Step x c = refl
hears_sent base want.Over x c = refl

pub entry_heard :
    {E : Type 0} (base : ℕ) (w : Want) (e : E) (c : Carried) → hears base w (Entry e) c ≡ c
entry_heard base (want.Turn slot room) e c = refl
entry_heard base (want.Line limit optional) e c = refl
entry_heard base want.Step e c = refl
entry_heard base want.Over e c = refl

tick_heard :
    (E : Type 0) (base : ℕ) (w : Want) (c : Carried) → hears {E = E} base w Tick c ≡ c
tick_heard E base (want.Turn slot room) c = refl
tick_heard E base (want.Line limit optional) c = refl
tick_heard E base want.Step c = refl
tick_heard E base want.Over c = refl

pub carried_is :
    {S E : Type 0} (m : Meaning S E) (start : Came S) (base : ℕ) (c : Carried) (inputs : Inputs E)
    → carried_of m start base c inputs
    ≡ puts base (came_of m start inputs) (heard_of m start base c inputs)
carried_is m start base c Begin = refl
carried_is m start base c (More inputs x) = refl

-- ---- the next line is read ahead, or nothing is gathered

pub ready_as :
    (d d1 : Desk) (page : List ℕ) → d1 ≡ record d { page = page }
    → ((has_feed d.lines.held ≡ true) × (page ≡ d.page)) ⊎ (page ≡ [])
    → (has_feed d1.lines.held ≡ true) ⊎ (d1.page ≡ [])
ready_as d d1 page same ready =
    subst (λ (k : Desk). (has_feed k.lines.held ≡ true) ⊎ (k.page ≡ [])) (sym same)
    (split_ready ready)
  where
    split_ready :
        ((has_feed d.lines.held ≡ true) × (page ≡ d.page)) ⊎ (page ≡ [])
        → (has_feed d.lines.held ≡ true) ⊎ (page ≡ [])
    split_ready (inl kept) = inl kept.0
    split_ready (inr none) = inr none

-- ---- the end

module _ {S E : Type 0} (m : Meaning S E) (start : Came S) (before : Told) where
  -- what was wholly written stays so
  pub near_later :
      (l h1 h2 : Option (List ℕ)) (c : Option Carried) (n : ℕ)
      (R : List ℕ → List ℕ → Type 0) → ((b n : List ℕ) → R b n → Grows b n) → Tells h1 h2 R
      → IsNearUnwritten m start before (told l h1 c n)
      → IsNearUnwritten m start before (told l h2 c n)
  near_later l h1 h2 c n R grows more near =
      record {
        front = near.front;
        taken = near.taken;
        near = near.near;
        written =
            Tells_more before.held h1 h2 (AppendsMore (text_of m start near.front)) R
            (AppendsMore (text_of m start near.front))
            (λ b k n old new. let then = grows k n new in (
              old.0 ++ then.0,
              then.1 ∙ ap (λ xs. xs ++ then.0) old.1
                  ∙ append_assoc b (text_of m start near.front ++ old.0) then.0
                  ∙ ap (λ xs. b ++ xs)
                  (append_assoc (text_of m start near.front) old.0 then.0),
            )) near.written more;
        sent = near.sent;
      }

  -- so it does where no datagram is sent
  pub near_unsent :
      (l h : Option (List ℕ)) (c1 c2 : Option Carried) (n1 n2 : ℕ)
      → Tells c1 c2 HaveSameSends → IsNearUnwritten m start before (told l h c1 n1)
      → IsNearUnwritten m start before (told l h c2 n2)
  near_unsent l h c1 c2 n1 n2 same near =
      record {
        front = near.front;
        taken = near.taken;
        near = near.near;
        written = near.written;
        sent =
            Tells_more before.carried c1 c2
            (λ c n. HaveSameSends (carried_of m start before.slots c near.front) n)
            HaveSameSends
            (λ c n. HaveSameSends (carried_of m start before.slots c near.front) n)
            (λ c k n a b. b ∙ a) near.sent same;
      }

  near_or_unsent :
      (page : List ℕ) (l h : Option (List ℕ)) (c1 c2 : Option Carried) (n1 n2 : ℕ)
      → Tells c1 c2 HaveSameSends
      → (page ≡ []) ⊎ IsNearUnwritten m start before (told l h c1 n1)
      → (page ≡ []) ⊎ IsNearUnwritten m start before (told l h c2 n2)
  near_or_unsent page l h c1 c2 n1 n2 same (inl none) = inl none
  near_or_unsent page l h c1 c2 n1 n2 same (inr near) =
      inr (near_unsent l h c1 c2 n1 n2 same near)

  -- all that was sent is of these
  sent_of :
      (c : Option Carried) (inputs : Inputs E)
      → Tells before.carried c (λ b k. k ≡ carried_of m start before.slots b inputs)
      → Tells before.carried c
      (λ b k. HaveSameSends (carried_of m start before.slots b inputs) k)
  sent_of c inputs carried =
      Tells_as before.carried c (λ b k. k ≡ carried_of m start before.slots b inputs)
      (λ b k. HaveSameSends (carried_of m start before.slots b inputs) k)
      (λ b k e. ap (λ (x : Carried). x.attempted) e) carried

  -- all on the page was written, or the sink failed
  pub stopped :
      (l h1 h2 : Option (List ℕ)) (c : Option Carried) (n : ℕ) (page : List ℕ)
      (wanted answer : End) → Closes m start before (told l h1 c n) page wanted
      → Stops wanted answer page h1 h2 → Ended m start before (told l h2 c n) answer
  stopped l h1 h2 c n page wanted answer closes (inl stop) =
      subst (λ (e : End). Ended m start before (told l h2 c n) e) (sym stop.0)
      (closes.clean h2
      (page_written (text_of m start closes.inputs) page before.held h1 h2 closes.written stop.1))
  stopped l h1 h2 c n page wanted answer closes (inr stop) =
      subst (λ (e : End). Ended m start before (told l h2 c n) e) (sym stop.0) (
        record {
          inputs = closes.inputs;
          taken = closes.taken;
          read = closes.read;
          written =
              page_cut (text_of m start closes.inputs) page before.held h1 h2 closes.written stop.2;
          carried = closes.carried;
        },
        near_later l h1 h2 c n (WritesSome page) (some_grows page) stop.2
            (some_near page (IsNearUnwritten m start before (told l h1 c n)) stop.1 closes.near),
      )

  -- ---- the ports and datagrams of a step

  module _ (l h : Option (List ℕ)) (inputs : Inputs E) (s : S) (d : Desk) (binds : List ℕ)
      (letters : List Letter) (c0 : Option Carried) (n0 : ℕ)
      (waits : Waits m start before (told l h c0 n0) inputs s d binds letters) where
    read_to :
        Tells before.left l
        (λ input rest. (tail : List ℕ) × IsRead m start inputs input tail × IsNear tail rest)
    read_to =
        Tells_as before.left l (λ input rest. IsRead m start inputs input (d.lines.held ++ rest))
        (λ input rest. (tail : List ℕ) × IsRead m start inputs input tail × IsNear tail rest)
        (λ b n read. (d.lines.held ++ n, read, (d.lines.held, refl, waits.read.ahead)))
        waits.read.bytes

    -- a port was not bound
    pub unbound_closes :
        (c1 : Option Carried) (n1 : ℕ) (page : List ℕ) → page ≡ d.page → binds ≢ []
        → Tells c0 c1 (BindsSome binds)
        → Closes m start before (told l h c1 n1) page end.WireFault
    unbound_closes c1 n1 page same some told_some =
        let came = came_of m start inputs in
        let heard : Tells before.carried c1
        (λ c n. BindsSome came.binds (heard_of m start before.slots c inputs) n) =
        Tells_more before.carried c0 c1 (λ c n. n ≡ heard_of m start before.slots c inputs)
        (BindsSome binds)
        (λ c n. BindsSome came.binds (heard_of m start before.slots c inputs) n)
        (λ c k n a b. subst (λ xs. BindsSome xs (heard_of m start before.slots c inputs) n)
        waits.to_bind (subst (λ (x : Carried). BindsSome binds x n) a b)) waits.heard told_some in
        let unsent : Tells c0 c1 HaveSameSends =
        Tells_as c0 c1 (BindsSome binds) HaveSameSends
        (λ c n is. ap (λ (x : Carried). x.attempted) is.4) told_some in
        subst (λ xs. Closes m start before (told l h c1 n1) xs end.WireFault) (sym same)
        (record {
          inputs = inputs;
          taken = waits.at.taken;
          read =
              Tells_as before.left l
              (λ input rest. (tail : List ℕ) × IsRead m start inputs input tail
              × IsNear tail rest)
              (λ input rest. (tail : List ℕ) × IsRead m start inputs input tail)
              (λ b n is. (is.0, is.1)) read_to;
          written = waits.at.written;
          near = near_or_unsent d.page l h c0 c1 n0 n1 unsent waits.at.near;
          carried =
              Tells_as before.carried c1
              (λ c n. BindsSome came.binds (heard_of m start before.slots c inputs) n)
              (λ c n. IsPart (carried_of m start before.slots c inputs) n)
              (λ c n is. subst (λ (k : Carried). IsPart k n)
              (sym (carried_is m start before.slots c inputs))
              (part_bound before.slots came (heard_of m start before.slots c inputs) n is)) heard;
          clean = λ h2 all. record {
            inputs = inputs;
            taken = waits.at.taken;
            read = read_to;
            written = all;
            carried = inr ((λ none. some (waits.to_bind ∙ none)), heard);
          };
        })

    -- all were bound, and the page could not be written before the datagrams
    pub unsent_ends :
        (c1 : Option Carried) (n1 : ℕ) (h1 : Option (List ℕ)) (page : List ℕ) → page ≡ d.page
        → page ≢ [] → Tells c0 c1 (λ c n. n ≡ bound_more binds c)
        → Tells h h1 (WritesSome (page ++ []))
        → Ended m start before (told l h1 c1 n1) end.WriteFault
    unsent_ends c1 n1 h1 page same some bound cut =
        let came = came_of m start inputs in
        let part : Tells h h1 (WritesSome d.page) =
        subst (λ xs. Tells h h1 (WritesSome xs)) (append-nil page ∙ same) cut in
        let unsent : Tells c0 c1 HaveSameSends =
        Tells_as c0 c1 (λ c n. n ≡ bound_more binds c) HaveSameSends
        (λ c n e. ap (λ (x : Carried). x.attempted) e) bound in (
          record {
            inputs = inputs;
            taken = waits.at.taken;
            read =
                Tells_as before.left l
                (λ input rest. (tail : List ℕ) × IsRead m start inputs input tail
                × IsNear tail rest)
                (λ input rest. (tail : List ℕ) × IsRead m start inputs input tail)
                (λ b n is. (is.0, is.1)) read_to;
            written =
                page_cut (text_of m start inputs) d.page before.held h h1 waits.at.written part;
            carried =
                Tells_more before.carried c0 c1
                (λ c n. n ≡ heard_of m start before.slots c inputs)
                (λ c n. n ≡ bound_more binds c)
                (λ c n. IsPart (carried_of m start before.slots c inputs) n)
                (λ c k n a b. subst
                (λ (x : Carried). IsPart x n) (sym (carried_is m start before.slots c inputs))
                (subst
                (λ (x : Carried). IsPart
                (puts before.slots came (heard_of m start before.slots c inputs)) x)
                (sym (b ∙ ap (λ (x : Carried). bound_more binds x) a
                ∙ ap (λ xs. bound_more xs (heard_of m start before.slots c inputs))
                waits.to_bind))
                (part_unsent before.slots came (heard_of m start before.slots c inputs))))
                waits.heard bound;
          },
          near_later l h h1 c1 n1 (WritesSome d.page) (some_grows d.page) part
              (near_unsent l h c0 c1 n0 n1 unsent
              (some_near d.page (IsNearUnwritten m start before (told l h c0 n0))
              (λ none. some (same ∙ none)) waits.at.near)),
        )

    -- what is not written was not sent
    near_carried :
        (c1 c2 : Option Carried) (h2 : Option (List ℕ)) (n2 : ℕ) (page : List ℕ)
        → Tells c0 c1 (λ c n. n ≡ bound_more binds c)
        → Tells c1 c2 (λ c n. n ≡ sent_more before.slots letters c)
        → Passes true [] d.page page h h2
        → ((letters ≡ []) × (page ≡ d.page)) ⊎ (page ≡ [])
        → (d.page ≡ []) ⊎ IsNearUnwritten m start before (told l h c0 n0)
        → (page ≡ []) ⊎ IsNearUnwritten m start before (told l h2 c2 n2)
    near_carried c1 c2 h2 n2 page bound sent over (inr none) near = inl none
    near_carried c1 c2 h2 n2 page bound sent over (inl kept) (inl none) = inl (kept.1 ∙ none)
    near_carried c1 c2 h2 n2 page bound sent over (inl kept) (inr near) =
        let unsent : Tells c0 c2 HaveSameSends =
        Tells_more c0 c1 c2 (λ c n. n ≡ bound_more binds c)
        (λ c n. n ≡ sent_more before.slots letters c) HaveSameSends
        (λ c k n a b. ap (λ (x : Carried). x.attempted) b
        ∙ ap (λ (ls : List Letter). k.attempted
        ++ map (sent_from before.slots (length k.turns)) ls) kept.0
        ∙ append-nil k.attempted ∙ ap (λ (x : Carried). x.attempted) a) bound sent in
        inr (near_unsent l h2 c0 c2 n0 n2 unsent
        (near_later l h h2 c0 n0 (Moves [] d.page page) (moves_grow [] d.page page) over near))

    -- all were bound and sent
    pub carried_stands :
        (c1 c2 : Option Carried) (h2 : Option (List ℕ)) (n2 base bound : ℕ) (page : List ℕ)
        (d2 : Desk) → d2 ≡ record d { page = page; base = base; bound = bound }
        → n2 ≡ before.slots + bound
        → Tells c0 c1 (λ c n. n ≡ bound_more binds c)
        → Tells c1 c2 (λ c n. n ≡ sent_more before.slots letters c)
        → Passes true [] d.page page h h2
        → ((letters ≡ []) × (page ≡ d.page)) ⊎ (page ≡ [])
        → Stands m start before (told l h2 c2 n2) inputs s d2
    carried_stands c1 c2 h2 n2 base bound page d2 same slots one two over ready =
        let came = came_of m start inputs in
        subst (λ (d3 : Desk). Stands m start before (told l h2 c2 n2) inputs s d3) (sym same)
        (record {
          at = record {
            taken = waits.at.taken;
            state = waits.at.state;
            place = waits.at.place;
            slots = slots;
            written =
                subst (λ xs. Tells before.held h2 (Moves xs [] page))
                (append-nil (text_of m start inputs))
                (page_more (text_of m start inputs) [] d.page page before.held h h2
                waits.at.written over);
            near = near_carried c1 c2 h2 n2 page one two over ready waits.at.near;
          };
          read = record {
            bytes = waits.read.bytes;
            ahead = waits.read.ahead;
            feeds = waits.read.feeds;
          };
          carried =
              Tells_more before.carried c0 c2
              (λ c n. n ≡ heard_of m start before.slots c inputs)
              (λ c n. n ≡ sent_more before.slots letters (bound_more binds c))
              (λ c n. n ≡ carried_of m start before.slots c inputs)
              (λ c k n a b. b
              ∙ ap (λ (x : Carried). sent_more before.slots letters (bound_more binds x)) a
              ∙ ap (λ xs. sent_more before.slots letters
              (bound_more xs (heard_of m start before.slots c inputs))) waits.to_bind
              ∙ ap (λ (ls : List Letter). sent_more before.slots ls
              (bound_more came.binds (heard_of m start before.slots c inputs))) waits.to_send
              ∙ sym (carried_is m start before.slots c inputs)) waits.heard
              (Tells_more c0 c1 c2 (λ c n. n ≡ bound_more binds c)
              (λ c n. n ≡ sent_more before.slots letters c)
              (λ c n. n ≡ sent_more before.slots letters (bound_more binds c))
              (λ c k n a b. b ∙ ap (λ (x : Carried). sent_more before.slots letters x) a) one
              two);
        })

  -- ---- an input was taken

  closes_kept :
      (l h1 h2 : Option (List ℕ)) (c : Option Carried) (n : ℕ) (page page' : List ℕ) (e : End)
      → Kept page page' h1 h2 → Closes m start before (told l h1 c n) page e
      → Closes m start before (told l h2 c n) page' e
  closes_kept l h1 h2 c n page page' e kept closes =
      subst (λ xs. Closes m start before (told l h2 c n) xs e) (sym kept.same_page)
      (subst (λ (h : Option (List ℕ)). Closes m start before (told l h c n) page e)
      (sym kept.same_held) closes)

  all_is_part :
      (text : List ℕ) (held h : Option (List ℕ)) → Tells held h (Appends text)
      → Tells held h (AppendsPart text)
  all_is_part text held h all =
      Tells_as held h (Appends text) (AppendsPart text)
      (λ b n is. (text, [], sym (append-nil text), is)) all

  module _ (l h1 : Option (List ℕ)) (c : Option Carried) (n : ℕ) (inputs : Inputs E) (s : S)
      (d : Desk) (x : Input E)
      (has : HasTaken m start before (told l h1 c n) inputs s d x) where
    read_before :
        Tells before.left l
        (λ input rest. (tail : List ℕ) × IsRead m start inputs input tail)
    read_before =
        Tells_as before.left l
        (λ input rest. IsReadOn m start inputs x input (d.lines.held ++ rest))
        (λ input rest. (tail : List ℕ) × IsRead m start inputs input tail)
        (λ b k is. (is.0, is.1)) has.read

    part_before :
        Tells before.carried c (λ b k. IsPart (carried_of m start before.slots b inputs) k)
    part_before =
        Tells_as before.carried c
        (λ b k. k ≡ heard_of m start before.slots b (More inputs x))
        (λ b k. IsPart (carried_of m start before.slots b inputs) k)
        (λ b k e. subst (λ (y : Carried). IsPart (carried_of m start before.slots b inputs) y)
        (sym e)
        (part_heard before.slots (m.want (state_of m start inputs)) x
        (carried_of m start before.slots b inputs))) has.heard

    past_closes :
        (place : ℕ) → place ≡ lines_of (More inputs x)
        → m.on (state_of m start inputs) x ≡ Past
        → Closes m start before (told l h1 c n) d.page (end.TooMuch place)
    past_closes place is past =
        record {
          inputs = inputs;
          taken = has.at.taken;
          read = read_before;
          written = has.at.written;
          near = inr has.fresh;
          carried = part_before;
          clean = λ h all. record {
            inputs = inputs;
            x = x;
            taken = has.at.taken;
            wanted = has.wanted;
            past = past;
            place = is;
            read =
                Tells_as before.left l
                (λ input rest. IsReadOn m start inputs x input (d.lines.held ++ rest))
                (λ input rest. (tail : List ℕ) × IsRead m start (More inputs x) input tail
                × IsNear tail rest)
                (λ b k is. (d.lines.held ++ k, is, (d.lines.held, refl, has.ahead))) has.read;
            written = all;
            carried = has.heard;
          };
        }

    none_closes : Closes m start before (told l h1 c n) d.page end.OutOfMemory
    none_closes =
        record {
          inputs = inputs;
          taken = has.at.taken;
          read = read_before;
          written = has.at.written;
          near = inr has.fresh;
          carried = part_before;
          clean = λ h all. record {
            inputs = inputs;
            taken = has.at.taken;
            read = read_before;
            written = all_is_part (text_of m start inputs) before.held h all;
            carried = part_before;
          };
        }

    cut_ends :
        (page : List ℕ) (h2 : Option (List ℕ))
        → WasCut m (state_of m start inputs) x d.page page h1 h2
        → Ended m start before (told l h2 c n) end.WriteFault
    cut_ends page h2 cut =
        let st = state_of m start inputs in
        let is : came_of m start (More inputs x) ≡ cut.came =
        ap (λ (a : Answer S). after st a) cut.is in (
          record {
            inputs = More inputs x;
            taken = (has.at.taken, has.wanted, (cut.came, cut.is));
            read =
                Tells_as before.left l
                (λ input rest. IsReadOn m start inputs x input (d.lines.held ++ rest))
                (λ input rest. (tail : List ℕ) × IsRead m start (More inputs x) input tail)
                (λ b k r. (d.lines.held ++ k, r)) has.read;
            written =
                subst (λ xs. Tells before.held h2 (WritesSome xs))
                (sym (ap (λ (k : Came S). text_of m start inputs ++ k.text) is))
                (page_more_cut (text_of m start inputs) cut.came.text d.page page before.held h1
                h2 has.at.written cut.over);
            carried =
                Tells_as before.carried c
                (λ b k. k ≡ heard_of m start before.slots b (More inputs x))
                (λ b k. IsPart (carried_of m start before.slots b (More inputs x)) k)
                (λ b k e. subst
                (λ (y : Carried). IsPart (carried_of m start before.slots b (More inputs x)) y)
                (sym e)
                (part_more before.slots (came_of m start (More inputs x))
                (heard_of m start before.slots b (More inputs x)))) has.heard;
          },
          near_later l h1 h2 c n (WritesSome (d.page ++ cut.came.text))
              (some_grows (d.page ++ cut.came.text)) cut.over has.fresh,
        )

    goes_waits :
        (s' : S) (binds : List ℕ) (letters : List Letter) (page : List ℕ)
        (h2 : Option (List ℕ)) (place : ℕ) → place ≡ lines_of (More inputs x)
        → DidGo m (state_of m start inputs) x s' binds letters d.page page h1 h2
        → Waits m start before (told l h2 c n) (More inputs x) s'
        (record d { page = page; place = place }) binds letters
    goes_waits s' binds letters page h2 place at did =
        let st = state_of m start inputs in
        let came : Came S =
        record { state = s'; text = did.text; binds = binds; letters = letters } in
        let is : came_of m start (More inputs x) ≡ came =
        ap (λ (a : Answer S). after st a) did.is in
        record {
          at = record {
            taken = (has.at.taken, has.wanted, (came, did.is));
            state = sym (ap (λ (k : Came S). k.state) is);
            place = at;
            slots = has.at.slots;
            written =
                subst (λ xs. Tells before.held h2 (Moves xs [] page))
                (sym (ap (λ (k : Came S). text_of m start inputs ++ k.text) is))
                (page_more (text_of m start inputs) did.text d.page page before.held h1 h2
                has.at.written did.over);
            near =
                inr (near_later l h1 h2 c n (Moves did.text d.page page)
                (moves_grow did.text d.page page) did.over has.fresh);
          };
          read = record { bytes = has.read; ahead = has.ahead; feeds = has.feeds };
          to_bind = sym (ap (λ (k : Came S). k.binds) is);
          to_send = sym (ap (λ (k : Came S). k.letters) is);
          heard = has.heard;
        }

    settled :
        (step : Stepped) (s' : S) (binds : List ℕ) (letters : List Letter) (page : List ℕ)
        (h2 : Option (List ℕ)) (place : ℕ) → place ≡ lines_of (More inputs x)
        → Took m (state_of m start inputs) x step s' binds letters d.page page h1 h2
        → Settles m start before (told l h2 c n) s' (record d { page = page; place = place })
        binds letters step
    settled stepped.Goes s' binds letters page h2 place at took =
        (More inputs x, goes_waits s' binds letters page h2 place at took)
    settled stepped.Refused s' binds letters page h2 place at took = absurd took
    settled stepped.Past s' binds letters page h2 place at took =
        closes_kept l h1 h2 c n d.page page (end.TooMuch place) took.1
        (past_closes place at took.0)
    settled stepped.OutOfMemory s' binds letters page h2 place at took =
        closes_kept l h1 h2 c n d.page page end.OutOfMemory took none_closes
    settled stepped.Unwritten s' binds letters page h2 place at took = cut_ends page h2 took

    pub takes_settle :
        (step : Stepped) (s' : S) (binds : List ℕ) (letters : List Letter) (page : List ℕ)
        (h2 : Option (List ℕ)) (place : ℕ) → place ≡ lines_of (More inputs x)
        → Took m s x step s' binds letters d.page page h1 h2
        → Settles m start before (told l h2 c n) s' (record d { page = page; place = place })
        binds letters step
    takes_settle step s' binds letters page h2 place at took =
        settled step s' binds letters page h2 place at
        (subst (λ (k : S). Took m k x step s' binds letters d.page page h1 h2) has.at.state took)

  -- what was taken is no line
  pub took_of :
      (s : S) (x : Input E) (taken : Taken) (step : Stepped) (s' : S) (binds : List ℕ)
      (letters : List Letter) (page page' : List ℕ) (h1 h2 : Option (List ℕ))
      → Hands taken x → Takes m s taken step s' binds letters page page' h1 h2
      → Took m s x step s' binds letters page page' h1 h2
  took_of s x (kind.Line line) step s' binds letters page page' h1 h2 hands took = absurd hands
  took_of s x (kind.Datagram bytes) step s' binds letters page page' h1 h2 hands took =
      subst (λ (k : Input E). Took m s k step s' binds letters page page' h1 h2) (sym hands) took
  took_of s x kind.Pause step s' binds letters page page' h1 h2 hands took =
      subst (λ (k : Input E). Took m s k step s' binds letters page page' h1 h2) (sym hands) took
  took_of s x kind.Step step s' binds letters page page' h1 h2 hands took =
      subst (λ (k : Input E). Took m s k step s' binds letters page page' h1 h2) (sym hands) took

  pub no_line :
      (inputs : Inputs E) (x : Input E) (taken : Taken) → Hands taken x
      → lines_of inputs ≡ lines_of (More inputs x)
  no_line inputs x (kind.Line line) hands = absurd hands
  no_line inputs x (kind.Datagram bytes) hands =
      ap (λ (k : Input E). lines_of (More inputs k)) (sym hands)
  no_line inputs x kind.Pause hands = ap (λ (k : Input E). lines_of (More inputs k)) (sym hands)
  no_line inputs x kind.Step hands = ap (λ (k : Input E). lines_of (More inputs k)) (sym hands)

  -- ---- a line was read

  module _ (l h1 : Option (List ℕ)) (c : Option Carried) (n : ℕ) (inputs : Inputs E) (s : S)
      (d : Desk) (has : HasLine m start before (told l h1 c n) inputs s d) where
    line_before :
        Tells before.left l
        (λ input rest. (tail : List ℕ) × IsRead m start inputs input tail)
    line_before =
        Tells_as before.left l
        (λ input rest. (tail : List ℕ) × IsRead m start inputs input tail × (0 < length tail)
        × (d.lines.line ≡ line_of tail) × (d.lines.held ++ rest ≡ past_line tail))
        (λ input rest. (tail : List ℕ) × IsRead m start inputs input tail)
        (λ b k is. (is.0, is.1)) has.read

    line_part :
        Tells before.carried c (λ b k. IsPart (carried_of m start before.slots b inputs) k)
    line_part =
        Tells_as before.carried c (λ b k. k ≡ carried_of m start before.slots b inputs)
        (λ b k. IsPart (carried_of m start before.slots b inputs) k)
        (λ b k e. subst (λ (y : Carried). IsPart (carried_of m start before.slots b inputs) y)
        (sym e) (part_all (carried_of m start before.slots b inputs))) has.carried

    -- what it says
    line_taken :
        (e : E) → IsOnly m (state_of m start inputs) d.lines.line e
        → HasTaken m start before (told l h1 c n) inputs s d (Entry e)
    line_taken e only =
        let spells : Spells m (state_of m start inputs) d.lines.line e =
        record {
          limit = has.limit;
          optional = has.optional;
          wanted = has.wanted;
          only = only;
          short = has.short;
        } in
        record {
          at = has.at;
          fresh = has.fresh;
          wanted = (d.lines.line, spells);
          read =
              Tells_as before.left l
              (λ input rest. (tail : List ℕ) × IsRead m start inputs input tail
              × (0 < length tail)
              × (d.lines.line ≡ line_of tail) × (d.lines.held ++ rest ≡ past_line tail))
              (λ input rest. IsReadOn m start inputs (Entry e) input (d.lines.held ++ rest))
              (λ b k is. (
                is.0,
                is.1,
                (
                  is.2,
                  subst (λ xs. Spells m (state_of m start inputs) xs e) is.3 spells,
                  is.4,
                ),
              )) has.read;
          ahead = has.ahead;
          feeds = has.feeds;
          heard =
              Tells_as before.carried c (λ b k. k ≡ carried_of m start before.slots b inputs)
              (λ b k. k ≡ heard_of m start before.slots b (More inputs (Entry e)))
              (λ b k is. is ∙ sym (entry_heard before.slots (m.want (state_of m start inputs)) e
              (carried_of m start before.slots b inputs))) has.carried;
        }

    -- it is not accepted
    line_refused :
        (place : ℕ) → place ≡ d.place + 1
        → ((e : E) → m.Reads (state_of m start inputs) d.lines.line e → ⊥)
        → Closes m start before (told l h1 c n) d.page (end.BadInput place)
    line_refused place is none =
        record {
          inputs = inputs;
          taken = has.at.taken;
          read = line_before;
          written = has.at.written;
          near = inr has.fresh;
          carried = line_part;
          clean = λ h all. record {
            inputs = inputs;
            taken = has.at.taken;
            place = is ∙ ap (λ k. k + 1) has.at.place;
            limit = has.limit;
            optional = has.optional;
            wanted = has.wanted;
            read =
                Tells_as before.left l
                (λ input rest. (tail : List ℕ) × IsRead m start inputs input tail
                × (0 < length tail)
                × (d.lines.line ≡ line_of tail) × (d.lines.held ++ rest ≡ past_line tail))
                (λ input rest. (tail : List ℕ) × IsRead m start inputs input tail
                × IsRefused m (state_of m start inputs) has.limit has.optional tail
                × IsNearRefused has.limit tail rest)
                (λ b k is. (
                  is.0,
                  is.1,
                  inr (inr (
                    is.2,
                    subst
                        (λ xs. (e : E) → m.Reads (state_of m start inputs) xs e → ⊥) is.3 none,
                  )),
                  (
                    (λ short. (d.lines.held, sym is.4, has.ahead)),
                    (λ long. absurd (omega (arith, long, ap length is.3, has.short))),
                  ),
                )) has.read;
            written = all;
            carried = has.carried;
          };
        }

    line_no_memory : Closes m start before (told l h1 c n) d.page end.OutOfMemory
    line_no_memory =
        record {
          inputs = inputs;
          taken = has.at.taken;
          read = line_before;
          written = has.at.written;
          near = inr has.fresh;
          carried = line_part;
          clean = λ h all. record {
            inputs = inputs;
            taken = has.at.taken;
            read = line_before;
            written = all_is_part (text_of m start inputs) before.held h all;
            carried = line_part;
          };
        }

    line_settled :
        (step : Stepped) (s' : S) (binds : List ℕ) (letters : List Letter) (page : List ℕ)
        (h2 : Option (List ℕ)) (place : ℕ) → place ≡ d.place + 1
        → TookLine m (state_of m start inputs) d.lines.line step s' binds letters d.page page h1 h2
        → Settles m start before (told l h2 c n) s' (record d { page = page; place = place })
        binds letters step
    line_settled stepped.Goes s' binds letters page h2 place at took =
        settled l h1 c n inputs s d (Entry took.0) (line_taken took.0 took.1) stepped.Goes s' binds
        letters page h2 place (at ∙ ap (λ k. k + 1) has.at.place) took.2
    line_settled stepped.Refused s' binds letters page h2 place at took =
        closes_kept l h1 h2 c n d.page page (end.BadInput place) took.1
        (line_refused place at took.0)
    line_settled stepped.Past s' binds letters page h2 place at took =
        settled l h1 c n inputs s d (Entry took.0) (line_taken took.0 took.1) stepped.Past s' binds
        letters page h2 place (at ∙ ap (λ k. k + 1) has.at.place) took.2
    line_settled stepped.OutOfMemory s' binds letters page h2 place at took =
        closes_kept l h1 h2 c n d.page page end.OutOfMemory took line_no_memory
    line_settled stepped.Unwritten s' binds letters page h2 place at took =
        settled l h1 c n inputs s d (Entry took.0) (line_taken took.0 took.1) stepped.Unwritten s'
        binds letters page h2 place (at ∙ ap (λ k. k + 1) has.at.place) took.2

    pub line_settles :
        (step : Stepped) (s' : S) (binds : List ℕ) (letters : List Letter) (page : List ℕ)
        (h2 : Option (List ℕ)) (place : ℕ) → place ≡ d.place + 1
        → TookLine m s d.lines.line step s' binds letters d.page page h1 h2
        → Settles m start before (told l h2 c n) s' (record d { page = page; place = place })
        binds letters step
    line_settles step s' binds letters page h2 place at took =
        line_settled step s' binds letters page h2 place at
        (subst
        (λ (k : S). TookLine m k d.lines.line step s' binds letters d.page page h1 h2)
        has.at.state took)

  -- ---- the next line is asked for

  module _ (l h0 : Option (List ℕ)) (c : Option Carried) (n : ℕ) (inputs : Inputs E) (s : S)
      (d : Desk) (stands : Stands m start before (told l h0 c n) inputs s d) where
    stands_before :
        Tells before.left l
        (λ input rest. (tail : List ℕ) × IsRead m start inputs input tail)
    stands_before =
        Tells_as before.left l (λ input rest. IsRead m start inputs input (d.lines.held ++ rest))
        (λ input rest. (tail : List ℕ) × IsRead m start inputs input tail)
        (λ b k is. (d.lines.held ++ k, is)) stands.read.bytes

    stands_near :
        Tells before.left l
        (λ input rest. (tail : List ℕ) × IsRead m start inputs input tail × IsNear tail rest)
    stands_near =
        Tells_as before.left l (λ input rest. IsRead m start inputs input (d.lines.held ++ rest))
        (λ input rest. (tail : List ℕ) × IsRead m start inputs input tail × IsNear tail rest)
        (λ b k is. (d.lines.held ++ k, is, (d.lines.held, refl, stands.read.ahead)))
        stands.read.bytes

    stands_part :
        Tells before.carried c (λ b k. IsPart (carried_of m start before.slots b inputs) k)
    stands_part =
        Tells_as before.carried c (λ b k. k ≡ carried_of m start before.slots b inputs)
        (λ b k. IsPart (carried_of m start before.slots b inputs) k)
        (λ b k e. subst (λ (y : Carried). IsPart (carried_of m start before.slots b inputs) y)
        (sym e) (part_all (carried_of m start before.slots b inputs))) stands.carried

    -- the page could not be written
    pub unwritten_ends :
        (h1 : Option (List ℕ)) → d.page ≢ [] → Tells h0 h1 (WritesSome (d.page ++ []))
        → Ended m start before (told l h1 c n) end.WriteFault
    unwritten_ends h1 some cut =
        let part : Tells h0 h1 (WritesSome d.page) =
        subst (λ xs. Tells h0 h1 (WritesSome xs)) (append-nil d.page) cut in (
          record {
            inputs = inputs;
            taken = stands.at.taken;
            read = stands_before;
            written =
                page_cut (text_of m start inputs) d.page before.held h0 h1 stands.at.written part;
            carried = stands_part;
          },
          near_later l h0 h1 c n (WritesSome d.page) (some_grows d.page) part
              (some_near d.page (IsNearUnwritten m start before (told l h0 c n)) some
              stands.at.near),
        )

    -- the session is over
    pub over_closes :
        m.want s ≡ want.Over → Closes m start before (told l h0 c n) d.page end.Done
    over_closes over =
        let wanted : m.want (state_of m start inputs) ≡ want.Over =
        subst (λ (k : S). m.want k ≡ want.Over) stands.at.state over in
        record {
          inputs = inputs;
          taken = stands.at.taken;
          read = stands_before;
          written = stands.at.written;
          near = stands.at.near;
          carried = stands_part;
          clean = λ h all. record {
            inputs = inputs;
            taken = stands.at.taken;
            over = subst MayEnd (sym wanted) tt;
            read =
                Tells_as before.left l
                (λ input rest. (tail : List ℕ) × IsRead m start inputs input tail
                × IsNear tail rest)
                (λ input rest. (tail : List ℕ) × IsRead m start inputs input tail
                × IsEnd (m.want (state_of m start inputs)) tail × IsNear tail rest)
                (λ b k is. (
                  is.0,
                  is.1,
                  subst (λ (w : Want). IsEnd w is.0) (sym wanted) tt,
                  is.2,
                )) stands_near;
            written = all;
            carried = stands.carried;
          };
        }

    -- all that is gathered was written, or the next line is read ahead
    near_ready :
        (page : List ℕ) (h1 : Option (List ℕ)) → Passes true [] d.page page h0 h1
        → ((has_feed d.lines.held ≡ true) × (page ≡ d.page)) ⊎ (page ≡ [])
        → (d.page ≡ []) ⊎ IsNearUnwritten m start before (told l h0 c n)
        → (page ≡ []) ⊎ IsNearUnwritten m start before (told l h1 c n)
    near_ready page h1 over (inl kept) (inl none) = inl (kept.1 ∙ none)
    near_ready page h1 over (inl kept) (inr near) =
        inr (near_later l h0 h1 c n (Moves [] d.page page) (moves_grow [] d.page page) over
        near)
    near_ready page h1 over (inr none) near = inl none

    pub ready_stands :
        (d1 : Desk) (page : List ℕ) (h1 : Option (List ℕ)) → d1 ≡ record d { page = page }
        → Passes true [] d.page page h0 h1
        → ((has_feed d.lines.held ≡ true) × (page ≡ d.page)) ⊎ (page ≡ [])
        → Stands m start before (told l h1 c n) inputs s d1
    ready_stands d1 page h1 same over ready =
        subst (λ (d2 : Desk). Stands m start before (told l h1 c n) inputs s d2) (sym same)
        (record {
          at = record {
            taken = stands.at.taken;
            state = stands.at.state;
            place = stands.at.place;
            slots = stands.at.slots;
            written =
                subst (λ xs. Tells before.held h1 (Moves xs [] page))
                (append-nil (text_of m start inputs))
                (page_more (text_of m start inputs) [] d.page page before.held h0 h1
                stands.at.written over);
            near = near_ready page h1 over ready stands.at.near;
          };
          read = record {
            bytes = stands.read.bytes;
            ahead = stands.read.ahead;
            feeds = stands.read.feeds;
          };
          carried = stands.carried;
        })

  -- it stands, and is ready to read
  pub record ReadyStands (now : Told) (inputs : Inputs E) (s : S) (d : Desk) : Type 0 where
    pub stands : Stands m start before now inputs s d
    pub ready : (has_feed d.lines.held ≡ true) ⊎ (d.page ≡ [])

  pub ready_after :
      (l h0 h1 : Option (List ℕ)) (c : Option Carried) (n : ℕ) (inputs : Inputs E) (s : S)
      (d d1 : Desk) → Stands m start before (told l h0 c n) inputs s d
      → d1 ≡ record d { page = d1.page } → Passes true [] d.page d1.page h0 h1
      → ((has_feed d.lines.held ≡ true) × (d1.page ≡ d.page)) ⊎ (d1.page ≡ [])
      → ReadyStands (told l h1 c n) inputs s d1
  ready_after l h0 h1 c n inputs s d d1 stands same over ready =
      record {
        stands = ready_stands l h0 c n inputs s d stands d1 d1.page h1 same over ready;
        ready = ready_as d d1 d1.page same ready;
      }

  -- ---- the next line is read, once all is ready

  -- the input goes on behind its lines
  read_past :
      (inputs : Inputs E) (input tail : List ℕ) → IsRead m start inputs input tail
      → past_lines (lines_of inputs) input ≡ tail
  read_past Begin input tail read = read
  read_past (More inputs (Entry e)) input tail read =
      let one_more : lines_of inputs + 1 ≡ suc (lines_of inputs) = omega arith in
      ap (λ k. past_lines k input) one_more
      ∙ ap past_line (read_past inputs input read.0 read.1) ∙ sym read.2.2
  read_past (More inputs (Datagram bytes)) input tail read =
      read_past inputs input read.0 read.1 ∙ sym read.2
  read_past (More inputs Quiet) input tail read =
      read_past inputs input read.0 read.1 ∙ sym read.2
  read_past (More inputs Tick) input tail read =
      read_past inputs input read.0 read.1 ∙ sym read.2

  none_left : (held n : List ℕ) → held ++ n ≡ [] → n ≡ []
  none_left [] n e = e
  none_left (b ∷ held) n e = absurd (cc)

  -- where the input had ended, that is the answer
  still_going :
      (ended : Bool) (answer : NextLine) → (ended ≡ true → answer ≡ next.End)
      → (answer ≡ next.End → ⊥) → ended ≡ false
  still_going true answer over none = absurd (none (over refl))
  still_going false answer over none = refl

  -- behind the byte that makes a line too long
  near_long :
      (limit : ℕ) (tail line held n : List ℕ) → length line ≡ limit → tail ≡ line ++ (held ++ n)
      → 0 < length (line_of held) → length held ≤ 4096 → IsNear (drop (limit + 1) tail) n
  near_long limit tail line [] n full e more near = absurd (omega arith)
  near_long limit tail line (b ∷ held) n full e more near =
      let ys : List ℕ = (b ∷ held) ++ n in (
        held,
        ap (λ xs. drop (limit + 1) xs) e ∙ ap (λ k. drop (k + 1) (line ++ ys)) (sym full)
            ∙ drop-append-add line ys 1,
        omega arith,
      )

  module _ (l l2 h : Option (List ℕ)) (c : Option Carried) (n : ℕ) (inputs : Inputs E) (s : S)
      (d : Desk) (stands : Stands m start before (told l h c n) inputs s d)
      (ready : (has_feed d.lines.held ≡ true) ⊎ (d.page ≡ []))
      (ahead : has_feed d.lines.held ≡ true → l2 ≡ l) (lines : ReadAhead) (limit : ℕ)
      (optional : Bool) (asked : m.want s ≡ want.Line limit optional) where
    wanted : m.want (state_of m start inputs) ≡ want.Line limit optional
    wanted = subst (λ (k : S). m.want k ≡ want.Line limit optional) stands.at.state asked

    near_cases :
        (d.page ≡ [] → IsNearUnwritten m start before (told l2 h c n))
        → (has_feed d.lines.held ≡ true) ⊎ (d.page ≡ [])
        → (d.page ≡ []) ⊎ IsNearUnwritten m start before (told l h c n)
        → IsNearUnwritten m start before (told l2 h c n)
    near_cases fresh (inr none) near = fresh none
    near_cases fresh (inl feed) (inl none) = fresh none
    near_cases fresh (inl feed) (inr near) =
        subst (λ (k : Option (List ℕ)). IsNearUnwritten m start before (told k h c n))
        (sym (ahead feed)) near

    -- where the source was asked, nothing is gathered
    near_kept :
        (has_feed d.lines.held ≡ true) ⊎ (d.page ≡ [])
        → (d.page ≡ []) ⊎ IsNearUnwritten m start before (told l h c n)
        → (d.page ≡ []) ⊎ IsNearUnwritten m start before (told l2 h c n)
    near_kept (inr none) near = inl none
    near_kept (inl feed) (inl none) = inl none
    near_kept (inl feed) (inr near) =
        inr (subst (λ (k : Option (List ℕ)). IsNearUnwritten m start before (told k h c n))
        (sym (ahead feed)) near)

    given_part :
        Tells before.carried c (λ b k. IsPart (carried_of m start before.slots b inputs) k)
    given_part =
        Tells_as before.carried c (λ b k. k ≡ carried_of m start before.slots b inputs)
        (λ b k. IsPart (carried_of m start before.slots b inputs) k)
        (λ b k e. subst (λ (y : Carried). IsPart (carried_of m start before.slots b inputs) y)
        (sym e) (part_all (carried_of m start before.slots b inputs))) stands.carried

    -- what is read now, of what was read before
    given :
        (answer : NextLine) (P : List ℕ → List ℕ → Type 0)
        → Tells l l2 (λ b k. Gives answer limit (d.lines.held ++ b) lines k)
        → ((b i k : List ℕ) → IsRead m start inputs b (d.lines.held ++ i)
        → Gives answer limit (d.lines.held ++ i) lines k → P b k)
        → Tells before.left l2 P
    given answer P gives join =
        Tells_more before.left l l2
        (λ input rest. IsRead m start inputs input (d.lines.held ++ rest))
        (λ b k. Gives answer limit (d.lines.held ++ b) lines k) P join stands.read.bytes gives

    -- the lines before had their line feeds, since the input had not ended
    fed_before :
        (answer : NextLine) (P : List ℕ → List ℕ → Type 0) → d.lines.ended ≡ false
        → Tells l l2 (λ b k. Gives answer limit (d.lines.held ++ b) lines k)
        → ((b i k : List ℕ) → IsRead m start inputs b (d.lines.held ++ i)
        → AreFed (lines_of inputs) b → Gives answer limit (d.lines.held ++ i) lines k → P b k)
        → Tells before.left l2 P
    fed_before answer P goes_on gives join =
        Tells_more before.left l l2
        (λ input rest. IsRead m start inputs input (d.lines.held ++ rest)
        × AreFed (lines_of inputs) input)
        (λ b k. Gives answer limit (d.lines.held ++ b) lines k) P
        (λ b i k is given. join b i k is.0 is.1 given)
        (Tells_both before.left l
        (λ input rest. IsRead m start inputs input (d.lines.held ++ rest))
        (λ input rest. AreFed (lines_of inputs) input) stands.read.bytes
        (stands.read.feeds.fed goes_on)) gives

    -- the line had its line feed too, or the input has ended
    line_fed :
        d.lines.ended ≡ false
        → Tells l l2 (λ b k. Gives next.Line limit (d.lines.held ++ b) lines k)
        → Keeps next.Line limit lines → IsFed before.left l2 lines (lines_of inputs + 1)
    line_fed goes_on gives keeps =
        record {
          fed = λ more.
              fed_before next.Line (λ input rest. AreFed (lines_of inputs + 1) input) goes_on gives
              (λ b i k is fed line. fed_more (lines_of inputs) b fed
              (ap has_feed (read_past inputs b (d.lines.held ++ i) is) ∙ line.feed
              ∙ ap not more));
          over = λ ended. (
            keeps.none ended,
            given next.Line (λ input rest. rest ≡ []) gives
                (λ b i k is line. none_left lines.held k
                (line.rest
                ∙ unfed_past (d.lines.held ++ i) (line.feed ∙ ap not ended))),
          );
        }

    -- a line
    pub line_read :
        (d.lines.ended ≡ false
        → Tells l l2 (λ b k. Gives next.Line limit (d.lines.held ++ b) lines k))
        → (d.lines.ended ≡ true → next.Line ≡ next.End) → Keeps next.Line limit lines
        → HasLine m start before (told l2 h c n) inputs s (record d { lines = lines })
    line_read tells over keeps =
        let goes_on = still_going d.lines.ended next.Line over (λ is. cc) in
        let gives = tells goes_on in
        let read : Tells before.left l2
        (λ input rest. (tail : List ℕ) × IsRead m start inputs input tail × (0 < length tail)
        × (lines.line ≡ line_of tail) × (lines.held ++ rest ≡ past_line tail)) =
        given next.Line
        (λ input rest. (tail : List ℕ) × IsRead m start inputs input tail × (0 < length tail)
        × (lines.line ≡ line_of tail) × (lines.held ++ rest ≡ past_line tail)) gives
        (λ b i k is line. (d.lines.held ++ i, is, line.more, line.bytes, line.rest)) in
        record {
          at = record {
            taken = stands.at.taken;
            state = stands.at.state;
            place = stands.at.place;
            slots = stands.at.slots;
            written = stands.at.written;
            near = near_kept ready stands.at.near;
          };
          fresh =
              near_cases
              (λ none. record {
                front = inputs;
                taken = stands.at.taken;
                near =
                    Tells_as before.left l2
                    (λ input rest. (tail : List ℕ) × IsRead m start inputs input tail
                    × (0 < length tail)
                    × (lines.line ≡ line_of tail) × (lines.held ++ rest ≡ past_line tail))
                    (λ input rest. (tail : List ℕ) × IsRead m start inputs input tail
                    × IsNext (m.want (state_of m start inputs)) tail rest)
                    (λ b k is. (
                      is.0,
                      is.1,
                      subst (λ (w : Want). IsNext w is.0 k) (sym wanted)
                          (lines.held, sym is.4, keeps.near),
                    )) read;
                written =
                    appended_more (text_of m start inputs) before.held h
                    (all_written (text_of m start inputs) d.page before.held h stands.at.written
                    none);
                sent = sent_of c inputs stands.carried;
              }) ready stands.at.near;
          limit = limit;
          optional = optional;
          wanted = wanted;
          short = keeps.fits;
          read = read;
          ahead = keeps.near;
          feeds = line_fed goes_on gives keeps;
          carried = stands.carried;
        }

    -- the input has ended, now or before
    all_read :
        (t : Bool) → d.lines.ended ≡ t
        → (d.lines.ended ≡ false
        → Tells l l2 (λ b k. Gives next.End limit (d.lines.held ++ b) lines k))
        → (d.lines.ended ≡ true → l2 ≡ l)
        → Tells before.left l2 (λ input rest. IsRead m start inputs input [] × (rest ≡ []))
    all_read false is gives same =
        given next.End (λ input rest. IsRead m start inputs input [] × (rest ≡ [])) (gives is)
        (λ b i k read ended. (
          subst (IsRead m start inputs b) ended.0 read,
          none_left lines.held k ended.1,
        ))
    all_read true is gives same =
        let over = stands.read.feeds.over is in
        subst
        (λ (k : Option (List ℕ)). Tells before.left k
        (λ input rest. IsRead m start inputs input [] × (rest ≡ []))) (sym (same is))
        (Tells_as before.left l
        (λ input rest. IsRead m start inputs input (d.lines.held ++ rest) × (rest ≡ []))
        (λ input rest. IsRead m start inputs input [] × (rest ≡ []))
        (λ b k both. (
          subst (IsRead m start inputs b)
              (ap (λ xs. xs ++ k) over.0 ∙ both.1) both.0,
          both.1,
        ))
        (Tells_both before.left l
        (λ input rest. IsRead m start inputs input (d.lines.held ++ rest))
        (λ input rest. rest ≡ []) stands.read.bytes over.1))

    -- the input ended where it may
    pub end_closes :
        optional ≡ true
        → (d.lines.ended ≡ false
        → Tells l l2 (λ b k. Gives next.End limit (d.lines.held ++ b) lines k))
        → (d.lines.ended ≡ true → l2 ≡ l)
        → Closes m start before (told l2 h c n) d.page end.Done
    end_closes may gives same =
        let read = all_read d.lines.ended refl gives same in
        record {
          inputs = inputs;
          taken = stands.at.taken;
          read =
              Tells_as before.left l2
              (λ input rest. IsRead m start inputs input [] × (rest ≡ []))
              (λ input rest. (tail : List ℕ) × IsRead m start inputs input tail)
              (λ b k is. ([], is.0)) read;
          written = stands.at.written;
          near = near_kept ready stands.at.near;
          carried = given_part;
          clean = λ h2 all. record {
            inputs = inputs;
            taken = stands.at.taken;
            over = subst MayEnd (sym wanted) may;
            read =
                Tells_as before.left l2
                (λ input rest. IsRead m start inputs input [] × (rest ≡ []))
                (λ input rest. (tail : List ℕ) × IsRead m start inputs input tail
                × IsEnd (m.want (state_of m start inputs)) tail × IsNear tail rest)
                (λ b k is. (
                  [],
                  is.0,
                  subst (λ (w : Want). IsEnd w []) (sym wanted) refl,
                  ([], sym is.1, omega arith),
                )) read;
            written = all;
            carried = stands.carried;
          };
        }

    refused_closes :
        (place : ℕ) → place ≡ d.place + 1
        → Tells before.left l2
        (λ input rest. (tail : List ℕ) × IsRead m start inputs input tail
        × IsRefused m (state_of m start inputs) limit optional tail
        × IsNearRefused limit tail rest)
        → Closes m start before (told l2 h c n) d.page (end.BadInput place)
    refused_closes place is read =
        record {
          inputs = inputs;
          taken = stands.at.taken;
          read =
              Tells_as before.left l2
              (λ input rest. (tail : List ℕ) × IsRead m start inputs input tail
              × IsRefused m (state_of m start inputs) limit optional tail
              × IsNearRefused limit tail rest)
              (λ input rest. (tail : List ℕ) × IsRead m start inputs input tail)
              (λ b k is. (is.0, is.1)) read;
          written = stands.at.written;
          near = near_kept ready stands.at.near;
          carried = given_part;
          clean = λ h2 all. record {
            inputs = inputs;
            taken = stands.at.taken;
            place = is ∙ ap (λ k. k + 1) stands.at.place;
            limit = limit;
            optional = optional;
            wanted = wanted;
            read = read;
            written = all;
            carried = stands.carried;
          };
        }

    -- it ended where it may not
    pub missing_closes :
        (place : ℕ) → place ≡ d.place + 1 → optional ≡ false
        → (d.lines.ended ≡ false
        → Tells l l2 (λ b k. Gives next.End limit (d.lines.held ++ b) lines k))
        → (d.lines.ended ≡ true → l2 ≡ l)
        → Closes m start before (told l2 h c n) d.page (end.BadInput place)
    missing_closes place is must gives same =
        refused_closes place is
        (Tells_as before.left l2
        (λ input rest. IsRead m start inputs input [] × (rest ≡ []))
        (λ input rest. (tail : List ℕ) × IsRead m start inputs input tail
        × IsRefused m (state_of m start inputs) limit optional tail
        × IsNearRefused limit tail rest)
        (λ b k is. (
          [],
          is.0,
          inl (refl, must),
          (
            (λ short. ([], sym is.1, omega arith)),
            (λ long. absurd (omega arith)),
          ),
        )) (all_read d.lines.ended refl gives same))

    -- the line is too long
    pub long_closes :
        (place : ℕ) → place ≡ d.place + 1
        → (d.lines.ended ≡ false
        → Tells l l2 (λ b k. Gives next.TooLong limit (d.lines.held ++ b) lines k))
        → (d.lines.ended ≡ true → next.TooLong ≡ next.End) → Keeps next.TooLong limit lines
        → Closes m start before (told l2 h c n) d.page (end.BadInput place)
    long_closes place is tells over keeps =
        let gives = tells (still_going d.lines.ended next.TooLong over (λ is. cc)) in
        refused_closes place is
        (given next.TooLong
        (λ input rest. (tail : List ℕ) × IsRead m start inputs input tail
        × IsRefused m (state_of m start inputs) limit optional tail
        × IsNearRefused limit tail rest) gives
        (λ b i k is long. (
          d.lines.held ++ i,
          is,
          inr (inl long.long),
          (
            (λ short. absurd (omega (arith, long.long))),
            (λ _. near_long limit (d.lines.held ++ i) lines.line lines.held k long.taken
                long.rest keeps.more keeps.near),
          ),
        )))

    -- the source failed
    pub part_closes :
        (d.lines.ended ≡ false
        → Tells l l2 (λ b k. Gives next.Failed limit (d.lines.held ++ b) lines k))
        → (d.lines.ended ≡ true → next.Failed ≡ next.End) → Keeps next.Failed limit lines
        → Closes m start before (told l2 h c n) d.page end.ReadFault
    part_closes tells over keeps =
        let goes_on = still_going d.lines.ended next.Failed over (λ is. cc) in
        let gives = tells goes_on in
        record {
          inputs = inputs;
          taken = stands.at.taken;
          read =
              given next.Failed (λ input rest. (tail : List ℕ) × IsRead m start inputs input tail)
              gives (λ b i k is part. (d.lines.held ++ i, is));
          written = stands.at.written;
          near = near_kept ready stands.at.near;
          carried = given_part;
          clean = λ h2 all. record {
            inputs = inputs;
            taken = stands.at.taken;
            limit = limit;
            optional = optional;
            wanted = wanted;
            read =
                given next.Failed
                (λ input rest. (part : List ℕ) × IsRead m start inputs input (part ++ rest)
                × HasNoFeed part) gives
                (λ b i k is part. (
                  lines.line,
                  subst (IsRead m start inputs b)
                      (part.rest ∙ ap (λ xs. lines.line ++ (xs ++ k)) keeps.none) is,
                  part.part,
                ));
            fed =
                fed_before next.Failed (λ input rest. AreFed (lines_of inputs) input) goes_on gives
                (λ b i k is fed part. fed);
            written = all;
            carried = stands.carried;
          };
        }

  -- ---- a step of its own

  tick_near :
      (l h : Option (List ℕ)) (c : Option Carried) (n : ℕ) (inputs : Inputs E) (s : S) (d : Desk)
      → Stands m start before (told l h c n) inputs s d
      → m.want (state_of m start inputs) ≡ want.Step
      → (d.page ≡ []) ⊎ IsNearUnwritten m start before (told l h c n)
      → IsNearUnwritten m start before (told l h c n)
  tick_near l h c n inputs s d stands asked (inr near) = near
  tick_near l h c n inputs s d stands asked (inl none) =
      record {
        front = inputs;
        taken = stands.at.taken;
        near =
            Tells_as before.left l
            (λ input rest. (tail : List ℕ) × IsRead m start inputs input tail
            × IsNear tail rest)
            (λ input rest. (tail : List ℕ) × IsRead m start inputs input tail
            × IsNext (m.want (state_of m start inputs)) tail rest)
            (λ b k is. (is.0, is.1, subst (λ (w : Want). IsNext w is.0 k) (sym asked) is.2))
            (stands_near l h c n inputs s d stands);
        written =
            appended_more (text_of m start inputs) before.held h
            (all_written (text_of m start inputs) d.page before.held h stands.at.written none);
        sent = sent_of c inputs stands.carried;
      }

  pub tick_taken :
      (l h : Option (List ℕ)) (c : Option Carried) (n : ℕ) (inputs : Inputs E) (s : S) (d : Desk)
      → Stands m start before (told l h c n) inputs s d → m.want s ≡ want.Step
      → HasTaken m start before (told l h c n) inputs s d Tick
  tick_taken l h c n inputs s d stands asked =
      let wanted : m.want (state_of m start inputs) ≡ want.Step =
      subst (λ (k : S). m.want k ≡ want.Step) stands.at.state asked in
      record {
        at = stands.at;
        fresh = tick_near l h c n inputs s d stands wanted stands.at.near;
        wanted = subst IsStep (sym wanted) tt;
        read =
            Tells_as before.left l
            (λ input rest. IsRead m start inputs input (d.lines.held ++ rest))
            (λ input rest. IsReadOn m start inputs Tick input (d.lines.held ++ rest))
            (λ b k is. (d.lines.held ++ k, is, refl)) stands.read.bytes;
        ahead = stands.read.ahead;
        feeds = stands.read.feeds;
        heard =
            Tells_as before.carried c (λ b k. k ≡ carried_of m start before.slots b inputs)
            (λ b k. k ≡ heard_of m start before.slots b (More inputs Tick))
            (λ b k is. is ∙ sym (tick_heard E before.slots (m.want (state_of m start inputs))
            (carried_of m start before.slots b inputs))) stands.carried;
      }

  -- ---- a turn is taken, once all is written

  module _ (l h : Option (List ℕ)) (c : Option Carried) (n : ℕ) (inputs : Inputs E) (s : S)
      (d : Desk) (stands : Stands m start before (told l h c n) inputs s d) (none : d.page ≡ [])
      (slot room : ℕ) (asked : m.want s ≡ want.Turn slot room) where
    turned : m.want (state_of m start inputs) ≡ want.Turn slot room
    turned = subst (λ (k : S). m.want k ≡ want.Turn slot room) stands.at.state asked

    is_turn : IsTurn (m.want (state_of m start inputs))
    is_turn = subst IsTurn (sym turned) tt

    -- the wire failed
    pub unheard_ends :
        (c2 : Option Carried) → Tells c c2 (λ b k. k ≡ b)
        → Ended m start before (told l h c2 n) end.WireFault
    unheard_ends c2 same =
        record {
          inputs = inputs;
          taken = stands.at.taken;
          read = stands_near l h c n inputs s d stands;
          written =
              all_written (text_of m start inputs) d.page before.held h stands.at.written none;
          carried =
              inl (
                is_turn,
                Tells_more before.carried c c2
                    (λ b k. k ≡ carried_of m start before.slots b inputs) (λ b k. k ≡ b)
                    (λ b k. k ≡ carried_of m start before.slots b inputs)
                    (λ b i k e f. f ∙ e) stands.carried same,
              );
        }

    -- a turn was heard
    pub turn_taken :
        (x : Input E) (c2 : Option Carried) (n2 : ℕ) → n2 ≡ n
        → lines_of inputs ≡ lines_of (More inputs x)
        → IsWanted m (state_of m start inputs) x
        → ((b k : List ℕ) → k ≡ b → IsReadBy m (state_of m start inputs) x b k)
        → Tells c c2 (λ b k. k ≡ hears before.slots (want.Turn slot room) x b)
        → HasTaken m start before (told l h c2 n2) inputs s d x
    turn_taken x c2 n2 kept same_lines wants reads heard =
        let near : IsNearUnwritten m start before (told l h c2 n2) =
        record {
          front = inputs;
          taken = stands.at.taken;
          near =
              Tells_as before.left l
              (λ input rest. (tail : List ℕ) × IsRead m start inputs input tail
              × IsNear tail rest)
              (λ input rest. (tail : List ℕ) × IsRead m start inputs input tail
              × IsNext (m.want (state_of m start inputs)) tail rest)
              (λ b k is. (is.0, is.1, subst (λ (w : Want). IsNext w is.0 k) (sym turned) is.2))
              (stands_near l h c n inputs s d stands);
          written =
              appended_more (text_of m start inputs) before.held h
              (all_written (text_of m start inputs) d.page before.held h stands.at.written none);
          sent =
              Tells_more before.carried c c2
              (λ b k. k ≡ carried_of m start before.slots b inputs)
              (λ b k. k ≡ hears before.slots (want.Turn slot room) x b)
              (λ b k. HaveSameSends (carried_of m start before.slots b inputs) k)
              (λ b i k e f. ap (λ (y : Carried). y.attempted) f
              ∙ hears_sent before.slots (want.Turn slot room) x i
              ∙ ap (λ (y : Carried). y.attempted) e) stands.carried heard;
        } in
        record {
          at = record {
            taken = stands.at.taken;
            state = stands.at.state;
            place = stands.at.place;
            slots = kept ∙ stands.at.slots;
            written = stands.at.written;
            near = inr near;
          };
          fresh = near;
          wanted = wants;
          read =
              Tells_as before.left l
              (λ input rest. IsRead m start inputs input (d.lines.held ++ rest))
              (λ input rest. IsReadOn m start inputs x input (d.lines.held ++ rest))
              (λ b k is. (
                d.lines.held ++ k,
                is,
                reads (d.lines.held ++ k) (d.lines.held ++ k) refl,
              )) stands.read.bytes;
          ahead = stands.read.ahead;
          feeds = subst (IsFed before.left l d.lines) same_lines stands.read.feeds;
          heard =
              Tells_more before.carried c c2
              (λ b k. k ≡ carried_of m start before.slots b inputs)
              (λ b k. k ≡ hears before.slots (want.Turn slot room) x b)
              (λ b k. k ≡ heard_of m start before.slots b (More inputs x))
              (λ b i k e f. f ∙ ap (λ (y : Carried). hears before.slots (want.Turn slot room) x y) e
              ∙ ap (λ (w : Want). hears before.slots w x
              (carried_of m start before.slots b inputs)) (sym turned)) stands.carried heard;
        }

    pub datagram_taken :
        (bytes : List ℕ) (c2 : Option Carried) (n2 at : ℕ) → n2 ≡ n → at ≡ before.slots + slot
        → length bytes ≤ room → Tells c c2 (λ b k. k ≡ with_turn b (wire.Datagram at bytes))
        → HasTaken m start before (told l h c2 n2) inputs s d (Datagram bytes)
    datagram_taken bytes c2 n2 at kept is few heard =
        turn_taken (Datagram bytes) c2 n2 kept refl
        (subst (λ (w : Want). IsTurnOf w (length bytes)) (sym turned) few) (λ b k e. e)
        (subst (λ k. Tells c c2 (λ b i. i ≡ with_turn b (wire.Datagram k bytes))) is heard)

    pub pause_taken :
        (c2 : Option Carried) (n2 at : ℕ) → n2 ≡ n → at ≡ before.slots + slot
        → Tells c c2 (λ b k. k ≡ with_turn b (wire.Pause at))
        → HasTaken m start before (told l h c2 n2) inputs s d Quiet
    pause_taken c2 n2 at kept is heard =
        turn_taken Quiet c2 n2 kept refl is_turn (λ b k e. e)
        (subst (λ k. Tells c c2 (λ b i. i ≡ with_turn b (wire.Pause k))) is heard)

-- what was heard lies in the buffer
pub taken_fits :
    (n room : ℕ) (buf : List ℕ) → length buf ≡ room → length (take n buf) ≤ room
taken_fits n room buf is = let e = length-take n buf in omega (arith, e, is)

-- ---- the ports change no page

pub page_same :
    (d d' : Desk) (base bound : ℕ) → d' ≡ record d { base = base; bound = bound }
    → d'.page ≡ d.page
page_same d d' base bound same = ap (λ (k : Desk). k.page) same

pub desk_same :
    (d d1 d2 : Desk) → d1 ≡ record d { base = d1.base; bound = d1.bound }
    → d2 ≡ record d1 { page = d2.page }
    → d2 ≡ record d { page = d2.page; base = d1.base; bound = d1.bound }
desk_same d d1 d2 bound paged =
    paged
    ∙ ap
    (λ (k : Desk). record k { page = d2.page; base = d1.base; bound = d1.bound })
    bound

pub ready_same :
    (letters : List Letter) (page0 page1 page2 : List ℕ) → page1 ≡ page0
    → ((letters ≡ []) × (page2 ≡ page1)) ⊎ (page2 ≡ [])
    → ((letters ≡ []) × (page2 ≡ page0)) ⊎ (page2 ≡ [])
ready_same letters page0 page1 page2 same (inl kept) = inl (kept.0, kept.1 ∙ same)
ready_same letters page0 page1 page2 same (inr none) = inr none

-- ---- the beginning

-- there was no memory for a session at all
pub not_begun :
    {S E : Type 0} (m : Meaning S E) (s : S) (binds : List ℕ) (letters : List Letter)
    (before : Told) → Ended m (begun s binds letters) before before end.OutOfMemory
not_begun {S} {E} m s binds letters before =
    record {
      inputs = Begin;
      taken = tt;
      read =
          Tells_none before.left (λ input rest. (tail : List ℕ) × (input ≡ tail))
          (λ b. (b, refl));
      written =
          Tells_none before.held (AppendsPart []) (λ b. ([], [], refl, sym (append-nil b)));
      carried =
          Tells_none before.carried
          (λ c n. IsPart (puts before.slots (begun s binds letters) c) n)
          (λ c. part_more before.slots (begun s binds letters) c);
    }

pub nonempty : (xs : List ℕ) → xs ≢ [] → 0 < length xs
nonempty [] some = absurd (some refl)
nonempty (x ∷ xs) some = omega arith

pub begin_waits :
    {S E : Type 0} (m : Meaning S E) (l h : Option (List ℕ)) (c : Option Carried) (n : ℕ) (s : S)
    (binds : List ℕ) (letters : List Letter) (d : Desk)
    → d ≡ record {
      lines = record { held = []; line = []; ended = false };
      page = [];
      place = 0;
      base = 0;
      bound = 0;
    }
    → Waits m (begun s binds letters) (told l h c n) (told l h c n) Begin s d binds letters
begin_waits {S} {E} m l h c n s binds letters d is =
    subst
    (λ (k : Desk). Waits m (begun s binds letters) (told l h c n) (told l h c n) Begin s k binds
    letters)
    (sym is)
    (record {
      at = record {
        taken = tt;
        state = refl;
        place = refl;
        slots = omega arith;
        written = Tells_none h (Moves [] [] []) (λ b. ([], refl, sym (append-nil b)));
        near = inl refl;
      };
      read = record {
        bytes = Tells_none l (λ input rest. input ≡ rest) (λ b. refl);
        ahead = omega arith;
        feeds = record {
          fed = λ _. Tells_none l (λ input rest. AreFed 0 input)
              (λ b i few. absurd (omega (arith, few)));
          over = λ is. absurd (cc);
        };
      };
      to_bind = refl;
      to_send = refl;
      heard = Tells_none c (λ b k. k ≡ b) (λ b. refl);
    })

-- ---- causes

rose_wider : (a b c : ℕ) → a ≤ b → Rose b c → Rose a c
rose_wider a b c le rose = omega (arith, le, rose)

pub cause_wider :
    (e : End) (r0 r1 r2 w0 w1 w2 x0 x1 x2 : ℕ) → r0 ≤ r1 → w0 ≤ w1 → x0 ≤ x1
    → HasCause e r1 r2 w1 w2 x1 x2 → HasCause e r0 r2 w0 w2 x0 x2
cause_wider end.ReadFault r0 r1 r2 w0 w1 w2 x0 x1 x2 r w x cause = rose_wider r0 r1 r2 r cause
cause_wider end.WriteFault r0 r1 r2 w0 w1 w2 x0 x1 x2 r w x cause = rose_wider w0 w1 w2 w cause
cause_wider end.WireFault r0 r1 r2 w0 w1 w2 x0 x1 x2 r w x cause = rose_wider x0 x1 x2 x cause
cause_wider end.Done r0 r1 r2 w0 w1 w2 x0 x1 x2 r w x cause = tt
cause_wider end.OutOfMemory r0 r1 r2 w0 w1 w2 x0 x1 x2 r w x cause = tt
cause_wider (end.BadInput line) r0 r1 r2 w0 w1 w2 x0 x1 x2 r w x cause = tt
cause_wider (end.TooMuch line) r0 r1 r2 w0 w1 w2 x0 x1 x2 r w x cause = tt

pub causes_later :
    (o : Option End) (r0 r1 w0 w1 w2 x0 x1 : ℕ) → w0 ≤ w1
    → IfSome o (λ e. HasCause e r0 r1 w1 w2 x0 x1) → IfSome o (λ e. HasCause e r0 r1 w0 w2 x0 x1)
causes_later None r0 r1 w0 w1 w2 x0 x1 w cause = cause
causes_later (Some e) r0 r1 w0 w1 w2 x0 x1 w cause =
    cause_wider e r0 r0 r1 w0 w1 w2 x0 x0 x1 (omega arith) w (omega arith) cause

pub causes_wider :
    (o : Option End) (w0 w1 w2 x0 x1 x2 : ℕ) → w0 ≤ w1 → x0 ≤ x1
    → IfSome o (λ e. (reads reads' : ℕ) → HasCause e reads reads' w1 w2 x1 x2)
    → IfSome o (λ e. (reads reads' : ℕ) → HasCause e reads reads' w0 w2 x0 x2)
causes_wider None w0 w1 w2 x0 x1 x2 w x cause = cause
causes_wider (Some e) w0 w1 w2 x0 x1 x2 w x cause =
    λ reads reads'.
    cause_wider e reads reads reads' w0 w1 w2 x0 x1 x2 (omega arith) w x (cause reads reads')
