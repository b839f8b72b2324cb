-- One call of the reader of lines, part by part.
use Rattle.std.proofs.Common.{◌≡◌, ◌<◌, ◌≤◌, ◌==◌, ◌+◌, ◌-◌, ℕ, suc, true, false, Option, Some}
use Rattle.std.proofs.Common.{List, [], ◌∷◌, ◌++◌, length, take, drop, if◌then◌else◌, refl, sym}
use Rattle.std.proofs.Common.{ap, ◌∙◌, subst, arith, append_assoc, length-append, length-drop}
use Rattle.std.proofs.Common.{length-take, Bool, not}
use Rattle.std.proofs.lemmas.List.{append-nil, take-append-drop, take-append-le, take_at}
use Rattle.std.proofs.lemmas.List.{drop-drop}
use Rattle.std.proofs.lemmas.Bool.Decides.{nat_tests}
use Rattle.peg_io.specs.Outside.{Tells, Stays, AreNone}
use Rattle.peg_io.specs.Lines.{ReadAhead, line_of, past_line, HasNoFeed, Gives, GivesLine}
use Rattle.peg_io.specs.Lines.{GivesTooLong, GivesPart, TakesAll, TakesLine, TakesFront, TakesPart}
use Rattle.peg_io.specs.Lines.{HasMore, HasNoMore, HasFront, Keeps, has_feed}
use Rattle.peg_io.specs.declared.lines.NextLine.{NextLine}
use Rattle.peg_io.specs.declared.lines.NextLine.TheVariants as next
use Rattle.peg_io.proofs.Telling.{Tells_more, Tells_as}
use Rattle.peg_io.proofs.LineLemmas.{line_of-append, past_line-append, HasNoFeed-append}
use Rattle.peg_io.proofs.LineLemmas.{HasNoFeed-take, HasNoFeed-whole, HasNoFeed-line_of}
use Rattle.peg_io.proofs.LineLemmas.{take-line_of, drop-line_of, line_of-more, past_line-more}
use Rattle.peg_io.proofs.LineLemmas.{line_of-last, past_line-last, length-line_of}
use Rattle.peg_io.proofs.LineLemmas.{both_ways, fed_is, unfed_is}

-- ---- a step by what is read ahead

abbrev moved : ℕ → ReadAhead → ReadAhead
moved n old = record old { held = drop n old.held; line = old.line ++ take n old.held }

length-moved :
    (n : ℕ) (old : ReadAhead) → n ≤ length old.held
    → length (moved n old).line ≡ length old.line + n
length-moved n old within =
    omega (arith, length-append old.line (take n old.held), length-take n old.held)

pub takes_front :
    (limit room : ℕ) (old now : ReadAhead) → length old.line ≤ limit
    → room ≡ limit - length old.line
    → room < length (line_of old.held) → length old.held ≤ 4096 → now ≡ moved room old
    → TakesFront limit old now
takes_front limit room old now fits is long near e =
    subst (λ (n : ReadAhead). TakesFront limit old n) (sym e)
    (record {
      long = omega arith;
      rest =
          ap (λ xs. old.line ++ xs) (sym (take-append-drop room old.held)) ∙ sym
          (append_assoc old.line (take room old.held) (drop room old.held));
      full = omega (arith, length-moved room old (omega (arith, length-line_of old.held)));
      near = omega (arith, length-drop room old.held);
    })

pub takes_all :
    (limit count : ℕ) (old now : ReadAhead) → count ≡ length (line_of old.held)
    → count ≤ limit - length old.line → length old.line ≤ limit
    → now ≡ moved count old → now.held ≡ [] → TakesAll limit old now
takes_all limit count old now is room fits e spent =
    let none : drop count old.held ≡ [] = sym (ap (λ (n : ReadAhead). n.held) e) ∙ spent in
    let whole :
    length old.held ≤ count = omega (arith, ap length none, length-drop count old.held) in
    let all :
    take count old.held
    ≡ old.held = sym (append-nil (take count old.held)) ∙ ap
    (λ xs. take count old.held ++ xs) (sym none) ∙ take-append-drop count old.held in
    let line :
    now.line
    ≡ old.line
    ++ old.held = ap (λ (n : ReadAhead). n.line) e ∙ ap (λ xs. old.line ++ xs) all in
    record {
      part = HasNoFeed-whole old.held (omega arith);
      line = line;
      none = spent;
      fits =
          omega (arith, ap length line, length-append old.line old.held, length-line_of old.held);
    }

pub takes_line :
    (limit count : ℕ) (old mid now : ReadAhead) → count ≡ length (line_of old.held)
    → count ≤ limit - length old.line → length old.line ≤ limit
    → length old.held ≤ 4096 → mid ≡ moved count old → 0 < length mid.held
    → now ≡ record mid { held = drop 1 mid.held } → TakesLine limit old now
takes_line limit count old mid now is room fits near e more f =
    let m : mid.held ≡ drop count old.held = ap (λ (n : ReadAhead). n.held) e in
    let feed : count < length old.held = omega (arith, ap length m, length-drop count old.held) in
    let held :
    now.held
    ≡ past_line old.held = ap (λ (n : ReadAhead). n.held) f ∙ ap (λ xs. drop 1 xs) m ∙
    drop-drop 1 count old.held
    ∙ ap (λ n. drop n old.held)
    (let k : count + 1 ≡ suc (length (line_of old.held)) = omega arith in k) ∙ drop-line_of
    old.held in
    let line :
    now.line
    ≡ old.line
    ++ line_of old.held = ap (λ (n : ReadAhead). n.line) f ∙ ap
    (λ (n : ReadAhead). n.line) e
    ∙ ap (λ xs. old.line ++ xs) (ap (λ n. take n old.held) is ∙ take-line_of old.held) in
    record {
      feed = omega arith;
      line = line;
      rest = held;
      fits = omega (arith, ap length line, length-append old.line (line_of old.held));
      near =
          omega (
            arith,
            ap length (ap (λ (n : ReadAhead). n.held) f ∙ ap (λ xs. drop 1 xs) m),
            length-drop 1 (drop count old.held),
            length-drop count old.held,
          );
    }

-- ---- over several steps

-- the input before the call is the part of the line that was read, what is read ahead and what is
-- left
abbrev pub IsSplit : List ℕ → ReadAhead → List ℕ → List ℕ → Type 0
IsSplit held now before left = held ++ before ≡ now.line ++ (now.held ++ left)

pub record IsUnder (limit : ℕ) (held : List ℕ) (now : ReadAhead) (before left : Option (List ℕ)) :
    Type 0 where
  pub part : HasNoFeed now.line
  pub fits : length now.line ≤ limit
  pub split : Tells before left (IsSplit held now)

pub IsUnder_ready :
    {limit : ℕ} {held : List ℕ} {old now : ReadAhead} {before mid left : Option (List ℕ)}
    → IsUnder limit held old before mid → HasMore old now mid left
    → IsUnder limit held now before left
IsUnder_ready {limit} {held} {old} {now} {before} {mid} {left} under more =
    record {
      part = subst HasNoFeed (sym more.line) under.part;
      fits = subst (λ xs. length xs ≤ limit) (sym more.line) under.fits;
      split =
          Tells_more before mid left (IsSplit held old) (λ b n. old.held ++ b ≡ now.held ++ n)
          (IsSplit held now)
          (λ b m n e f. e ∙ ap (λ xs. old.line ++ xs) f ∙ ap (λ xs. xs ++ (now.held ++ n))
          (sym more.line))
          under.split more.same;
    }

pub IsUnder_more :
    {limit : ℕ} {held : List ℕ} {old now : ReadAhead} {before left : Option (List ℕ)}
    → IsUnder limit held old before left → TakesAll limit old now
    → IsUnder limit held now before left
IsUnder_more {limit} {held} {old} {now} {before} {left} under all =
    record {
      part =
          subst HasNoFeed (sym all.line) (HasNoFeed-append old.line old.held under.part all.part);
      fits = all.fits;
      split = Tells_as before left (IsSplit held old) (IsSplit held now)
          (λ b n e. e ∙ sym (append_assoc old.line old.held n) ∙ ap (λ xs. xs ++ n) (sym all.line) ∙
          ap (λ xs. now.line ++ (xs ++ n)) (sym all.none))
          under.split;
    }

-- ---- the answers

pub gives_line : {limit : ℕ} {held : List ℕ} {old now : ReadAhead} {before left : Option (List ℕ)}
    → IsUnder limit held old before left → TakesLine limit old now → now.ended ≡ false
    → Tells before left (λ b n. GivesLine limit (held ++ b) now n)
gives_line {limit} {held} {old} {now} {before} {left} under line goes_on =
    Tells_as before left (IsSplit held old)
    (λ b n. GivesLine limit (held ++ b) now n)
    (λ b n e. let bytes = bytes_of b n e in record {
      more =
          omega (
            arith,
            ap length e,
            length-append old.line (old.held
                ++ n),
            length-append old.held n,
            line.feed,
          );
      fits = line.fits;
      bytes = bytes;
      rest =
          ap (λ xs. xs ++ n) line.rest ∙ sym (past_line-more old.held n line.feed) ∙ sym
          (past_line-append old.line (old.held ++ n) under.part) ∙ ap past_line (sym e);
      feed =
          fed_is (held ++ b)
          (omega (
            arith,
            ap length bytes,
            ap length line.line,
            length-append old.line (line_of old.held),
            line.feed,
            ap length e,
            length-append old.line (old.held ++ n),
            length-append old.held n,
          ))
          ∙ sym (ap not goes_on);
    }) under.split
  where
    bytes_of : (b n : List ℕ) → IsSplit held old b n → now.line ≡ line_of (held ++ b)
    bytes_of b n e =
        line.line ∙ ap (λ xs. old.line ++ xs) (sym (line_of-more old.held n line.feed)) ∙ sym
        (line_of-append old.line (old.held ++ n) under.part) ∙ ap line_of (sym e)

-- a byte past a front is in the line too
line_of-longer : (xs more : List ℕ) → length (line_of xs) ≤ length (line_of (xs ++ more))
line_of-longer [] more = omega arith
line_of-longer (b ∷ xs) more =
    longer (b == 10) b (line_of xs) (line_of (xs ++ more)) (line_of-longer xs more)
  where
    longer :
        (t : _) (c : ℕ) (ys zs : List ℕ) → length ys ≤ length zs
        → length (if t then [] else c ∷ ys) ≤ length (if t then [] else c ∷ zs)
    longer true c ys zs le = omega arith
    longer false c ys zs le = omega arith

pub gives_too_long :
    {limit : ℕ} {held : List ℕ} {old now : ReadAhead} {before left : Option (List ℕ)}
    → IsUnder limit held old before left → TakesFront limit old now
    → Tells before left (λ b n. GivesTooLong limit (held ++ b) now n)
gives_too_long {limit} {held} {old} {now} {before} {left} under front =
    Tells_as before left (IsSplit held old)
    (λ b n. GivesTooLong limit (held ++ b) now n)
    (λ b n e. record {
      long =
          omega (
            arith,
            ap (λ xs. length (line_of xs)) e,
            ap length (line_of-append old.line (old.held ++ n) under.part),
            length-append old.line (line_of (old.held ++ n)),
            line_of-longer old.held n,
            front.long,
          );
      taken = front.full;
      rest =
          e ∙ sym (append_assoc old.line old.held n) ∙ ap (λ xs. xs ++ n) front.rest ∙ append_assoc
          now.line now.held n;
    }) under.split

-- the front of a line that is too long
front_part :
    (limit : ℕ) (old now : ReadAhead) → HasNoFeed old.line → TakesFront limit old now
    → HasNoFeed now.line
front_part limit old now part front =
    let whole = old.line ++ line_of old.held in
    let past = drop (length (line_of old.held)) old.held in
    let split : old.line ++ old.held ≡ whole ++ past =
    ap (λ xs. old.line ++ xs)
    (sym (take-append-drop (length (line_of old.held)) old.held) ∙ ap (λ xs. xs
    ++ past) (take-line_of old.held))
    ∙ sym (append_assoc old.line (line_of old.held) past) in
    let same : take limit whole ≡ now.line =
    sym
    (take-append-le limit whole past
    (omega (arith, length-append old.line (line_of old.held), front.long)))
    ∙ ap (λ xs. take limit xs) (sym split ∙ front.rest) ∙ take_at now.line now.held limit
    front.full in
    subst HasNoFeed same
    (HasNoFeed-take limit whole
    (HasNoFeed-append old.line (line_of old.held) part (HasNoFeed-line_of old.held)))

has_front :
    (limit : ℕ) (old now : ReadAhead) → HasNoFeed old.line → TakesFront limit old now
    → now.ended ≡ false → HasFront limit now
has_front limit old now part front goes_on =
    let here : HasNoFeed now.line = front_part limit old now part front in
    let same : now.line ++ line_of now.held ≡ old.line ++ line_of old.held =
    sym (line_of-append now.line now.held here) ∙ ap line_of (sym front.rest) ∙ line_of-append
    old.line old.held part in
    record {
      part = here;
      full = front.full;
      more =
          omega (
            arith,
            ap length same,
            length-append now.line (line_of now.held),
            length-append old.line (line_of old.held),
            front.long,
            front.full,
          );
      near = front.near;
      goes_on = goes_on;
    }

pub gives_part :
    {limit : ℕ} {held : List ℕ} {old : ReadAhead} (now : ReadAhead) {before left : Option (List ℕ)}
    (answer : NextLine)
    → IsUnder limit held old before left → TakesPart (Some answer) limit old now
    → now.ended ≡ false → Tells before left (λ b n. Gives answer limit (held ++ b) now n)
gives_part now next.Line under part goes_on = gives_line under part goes_on
gives_part now next.TooLong under part goes_on = gives_too_long under part
gives_part now next.End under part goes_on = absurd part
gives_part now next.Failed under part goes_on = absurd part

pub keeps_part :
    {limit : ℕ} {held : List ℕ} {old : ReadAhead} (now : ReadAhead) {before left : Option (List ℕ)}
    (answer : NextLine)
    → IsUnder limit held old before left → TakesPart (Some answer) limit old now
    → now.ended ≡ false → Keeps answer limit now
keeps_part {limit} {held} {old} now next.Line under line goes_on =
    record {
      part =
          subst HasNoFeed (sym line.line)
          (HasNoFeed-append old.line (line_of old.held) under.part (HasNoFeed-line_of old.held));
      fits = line.fits;
      near = line.near;
      none = λ is. absurd (both_ways now.ended is goes_on);
    }
keeps_part {limit} {held} {old} now next.TooLong under front goes_on =
    has_front limit old now under.part front goes_on
keeps_part now next.End under part goes_on = absurd part
keeps_part now next.Failed under part goes_on = absurd part

-- ---- the end of the input, and a failure

-- nothing was read ahead, so the part of the line is all that was taken
unread :
    (old now : ReadAhead) (held b n : List ℕ) → HasNoMore old now
    → held ++ b ≡ old.line ++ (old.held ++ n) → held ++ b ≡ now.line ++ n
unread old now held b n none e =
    e ∙ ap (λ xs. old.line ++ (xs ++ n)) none.none ∙ ap (λ xs. xs ++ n) (sym none.line)

last_is :
    (b : ℕ) (line : List ℕ) → (if length (b ∷ line) == 0 then next.End else next.Line) ≡ next.Line
last_is b line = grind (arith, nat_tests)

last_of :
    (limit : ℕ) (held line : List ℕ) (ended : Bool) (before left : List ℕ) → HasNoFeed line
    → length line ≤ limit → ended ≡ true → before ≡ line → held ++ left ≡ []
    → Gives (if length line == 0 then next.End else next.Line) limit before
    (record { held = held; line = line; ended = ended }) left
last_of limit held [] ended before left part fits is e none = (e, none)
last_of limit held (b ∷ line) ended before left part fits is e none =
    subst
    (λ (a : NextLine). Gives a limit before
    (record { held = held; line = b ∷ line; ended = ended }) left) (sym (last_is b line))
    (record {
      more = omega (arith, ap length e);
      fits = fits;
      bytes = sym (line_of-last (b ∷ line) part) ∙ ap line_of (sym e);
      rest = none ∙ sym (past_line-last (b ∷ line) part) ∙ ap past_line (sym e);
      feed = ap has_feed e ∙ unfed_is (b ∷ line) part ∙ sym (ap not is);
    })

keeps_last :
    (limit : ℕ) (held line : List ℕ) (ended : Bool) → HasNoFeed line → length line ≤ limit
    → held ≡ [] → ended ≡ true → Keeps (if length line == 0 then next.End else next.Line) limit
    (record { held = held; line = line; ended = ended })
keeps_last limit held [] ended part fits none is =
    λ i. record { held = none i; line = []; ended = is i }
keeps_last limit held (b ∷ line) ended part fits none is =
    subst
    (λ (a : NextLine). Keeps a limit (record { held = held; line = b ∷ line; ended = ended }))
    (sym (last_is b line))
    (record {
      part = part;
      fits = fits;
      near = omega (arith, ap length none);
      none = λ _. none;
    })

pub last_ends :
    (line : List ℕ) (answer : NextLine)
    → answer ≡ (if length line == 0 then next.End else next.Line) → line ≡ []
    → answer ≡ next.End
last_ends line answer is none =
    is ∙ ap (λ (xs : List ℕ). if length xs == 0 then next.End else next.Line) none

pub gives_last :
    {limit : ℕ} {held : List ℕ} {old now : ReadAhead} {before mid : Option (List ℕ)}
    (left : Option (List ℕ)) (answer : NextLine)
    → answer ≡ (if length now.line == 0 then next.End else next.Line)
    → IsUnder limit held old before mid → HasNoMore old now → now.ended ≡ true
    → Tells mid left AreNone
    → Tells before left (λ b n. Gives answer limit (held ++ b) now n)
gives_last {limit} {held} {old} {now} {before} {mid} left answer is under none ended told =
    subst
    (λ (a : NextLine). Tells before left (λ b n. Gives a limit (held ++ b) now n))
    (sym is)
    (Tells_more before mid left (IsSplit held old) AreNone
    (λ b n. Gives (if length now.line == 0 then next.End else next.Line) limit (held ++ b) now n)
    (λ b m n e f. last_of limit now.held now.line now.ended (held ++ b) n
    (subst HasNoFeed (sym none.line) under.part)
    (subst (λ xs. length xs ≤ limit) (sym none.line) under.fits) ended
    (unread old now held b m none e ∙ ap (λ xs. now.line ++ xs) f.0 ∙ append-nil now.line)
    (ap (λ xs. xs ++ n) none.still ∙ f.1))
    under.split told)

pub keeps_end :
    {limit : ℕ} {held : List ℕ} {old now : ReadAhead} {before mid : Option (List ℕ)}
    (answer : NextLine)
    → answer ≡ (if length now.line == 0 then next.End else next.Line)
    → IsUnder limit held old before mid → HasNoMore old now → now.ended ≡ true
    → Keeps answer limit now
keeps_end {limit} {held} {old} {now} answer is under none ended =
    subst (λ (a : NextLine). Keeps a limit now) (sym is)
    (keeps_last limit now.held now.line now.ended (subst HasNoFeed (sym none.line) under.part)
    (subst (λ xs. length xs ≤ limit) (sym none.line) under.fits) none.still ended)

pub gives_failed :
    {limit : ℕ} {held : List ℕ} {old now : ReadAhead} {before mid : Option (List ℕ)}
    (left : Option (List ℕ))
    → IsUnder limit held old before mid → HasNoMore old now → Tells mid left Stays
    → Tells before left (λ b n. GivesPart limit (held ++ b) now n)
gives_failed {limit} {held} {old} {now} {before} {mid} left under none told =
    Tells_more before mid left (IsSplit held old) Stays
    (λ b n. GivesPart limit (held ++ b) now n)
    (λ b m n e f. record {
      part = subst HasNoFeed (sym none.line) under.part;
      fits = subst (λ xs. length xs ≤ limit) (sym none.line) under.fits;
      rest =
          unread old now held b m none e ∙ ap (λ xs. now.line ++ xs) (sym f) ∙ ap
          (λ xs. now.line ++ (xs ++ n)) (sym none.still);
    }) under.split told

pub keeps_failed : {limit : ℕ} {held : List ℕ} {old now : ReadAhead} {before mid : Option (List ℕ)}
    → IsUnder limit held old before mid → HasNoMore old now → now.ended ≡ false
    → Keeps next.Failed limit now
keeps_failed {limit} {held} {old} {now} under none goes_on =
    record {
      none = none.still;
      part = subst HasNoFeed (sym none.line) under.part;
      fits = subst (λ xs. length xs ≤ limit) (sym none.line) under.fits;
      goes_on = goes_on;
    }

-- ---- a line feed that is read ahead

pub feed_is_more : (held : List ℕ) → has_feed held ≡ true → 0 < length held
feed_is_more held feed = grind (arith, nat_tests)

pub feed_ends_line : (held : List ℕ) → HasNoFeed held → has_feed held ≡ true → ⊥
feed_ends_line held part feed =
    both_ways (has_feed held) feed (unfed_is held part)
