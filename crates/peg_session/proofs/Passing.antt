-- Text that goes over a page.
use Rattle.std.proofs.Common.{◌≡◌, ◌+◌, ℕ, Bool, true, false, Option, List, [], ◌++◌, length}
use Rattle.std.proofs.Common.{take, drop, refl, sym, ap, ◌∙◌, append_assoc, subst, arith, length-append}
use Rattle.std.proofs.lemmas.List.{take-append-le, take-append-drop, append-nil}
use Rattle.std.proofs.Math.Seq.{take-append-add}
use Rattle.peg_io.specs.Outside.{Tells, WritesSome}
use Rattle.peg_io.proofs.Telling.{Tells_more, Tells_as, Tells_none}
use Rattle.peg_session.specs.Pages.{AppendsPart, Moves, Passes}

-- ---- what is written of a text

pub part_written :
    (bytes : List ℕ) (before now : Option (List ℕ)) → Tells before now (WritesSome bytes)
    → Tells before now (WritesSome (bytes ++ []))
part_written bytes before now told =
    subst (λ xs. Tells before now (WritesSome xs)) (sym (append-nil bytes)) told

pub some_is_part :
    (text : List ℕ) (before now : Option (List ℕ)) → Tells before now (WritesSome text)
    → Tells before now (AppendsPart text)
some_is_part text before now told =
    Tells_as before now (WritesSome text) (AppendsPart text)
    (λ b n some. (
      take some.0 text,
      drop some.0 text,
      sym (take-append-drop some.0 text),
      some.2,
    )) told

-- fewer than all bytes of a text are fewer than those of a longer one
pub some_of_more :
    (text more : List ℕ) (b n : List ℕ) → WritesSome text b n → WritesSome (text ++ more) b n
some_of_more text more b n some = (
  some.0,
  omega (arith, some.1, length-append text more),
  some.2 ∙ ap (λ xs. b ++ xs) (sym (take-append-le some.0 text more (omega (arith, some.1)))),
)

-- ---- text over a page

-- nothing was written, and the text went onto the page
pub passes_onto :
    (text page : List ℕ) (held : Option (List ℕ)) → Passes true text page (page ++ text) held held
passes_onto text page held =
    Tells_none held (Moves text page (page ++ text)) (λ b. ([], refl, sym (append-nil b)))

pub passes_nothing :
    (page : List ℕ) (held : Option (List ℕ)) → Passes true [] page page held held
passes_nothing page held =
    subst (λ xs. Passes true [] page xs held held) (append-nil page) (passes_onto [] page held)

-- one text and then another, onto the page
pub moves_then :
    (text more page mid page' : List ℕ) (b m n : List ℕ) → Moves text page mid b m
    → Moves more mid page' m n → Moves (text ++ more) page page' b n
moves_then text more page mid page' b m n one two = (
  one.0 ++ two.0,
  sym (append_assoc page text more) ∙ ap (λ xs. xs ++ more) one.1
      ∙ append_assoc one.0 mid more ∙ ap (λ xs. one.0 ++ xs) two.1
      ∙ sym (append_assoc one.0 two.0 page'),
  two.2 ∙ ap (λ xs. xs ++ two.0) one.2 ∙ append_assoc b one.0 two.0,
)

-- the other was cut
pub cut_then :
    (text more page mid : List ℕ) (b m n : List ℕ) → Moves text page mid b m
    → WritesSome (mid ++ more) m n → WritesSome (page ++ (text ++ more)) b n
cut_then text more page mid b m n one some =
    let whole : page ++ (text ++ more) ≡ one.0 ++ (mid ++ more) =
    sym (append_assoc page text more) ∙ ap (λ xs. xs ++ more) one.1
    ∙ append_assoc one.0 mid more in (
      length one.0 + some.0,
      omega (arith, ap length whole, length-append one.0 (mid ++ more), some.1),
      some.2 ∙ ap (λ xs. xs ++ take some.0 (mid ++ more)) one.2
          ∙ append_assoc b one.0 (take some.0 (mid ++ more))
          ∙ ap (λ xs. b ++ xs)
          (sym (take-append-add one.0 (mid ++ more) some.0)
          ∙ ap (λ xs. take (length one.0 + some.0) xs) (sym whole)),
    )

pub passes_then :
    (r : Bool) (text more page mid page' : List ℕ) (held hmid held' : Option (List ℕ))
    → Passes true text page mid held hmid → Passes r more mid page' hmid held'
    → Passes r (text ++ more) page page' held held'
passes_then true text more page mid page' held hmid held' one two =
    Tells_more held hmid held' (Moves text page mid) (Moves more mid page')
    (Moves (text ++ more) page page') (moves_then text more page mid page') one two
passes_then false text more page mid page' held hmid held' one two =
    Tells_more held hmid held' (Moves text page mid) (WritesSome (mid ++ more))
    (WritesSome (page ++ (text ++ more))) (cut_then text more page mid) one two

-- the first was cut, and the other was not tried
pub passes_none :
    (text more page mid page' : List ℕ) (held held' : Option (List ℕ))
    → Passes false text page mid held held' → Passes false (text ++ more) page page' held held'
passes_none text more page mid page' held held' one =
    Tells_as held held' (WritesSome (page ++ text)) (WritesSome (page ++ (text ++ more)))
    (λ b n some. subst (λ xs. WritesSome xs b n) (append_assoc page text more)
    (some_of_more (page ++ text) more b n some)) one

-- the same where the answer is known to be false
pub passes_off :
    (r : Bool) (text more page mid page' : List ℕ) (held held' : Option (List ℕ)) → r ≡ false
    → Passes r text page mid held held' → Passes r (text ++ more) page page' held held'
passes_off true text more page mid page' held held' off one = absurd (cc)
passes_off false text more page mid page' held held' off one =
    passes_none text more page mid page' held held' one

-- ---- a text in several parts

pub record IsOnTheWay (whole rest page page' : List ℕ) (held held' : Option (List ℕ)) :
    Type 0 where
  pub passed : List ℕ
  pub split : passed ++ rest ≡ whole
  pub over : Passes true passed page page' held held'

pub way_begin :
    (whole page : List ℕ) (held : Option (List ℕ)) → IsOnTheWay whole whole page page held held
way_begin whole page held =
    record {
      passed = [];
      split = refl;
      over = passes_nothing page held;
    }

pub way_more :
    {whole : List ℕ} (text rest : List ℕ) {page mid : List ℕ} (page' : List ℕ)
    {held hmid : Option (List ℕ)} (held' : Option (List ℕ))
    → IsOnTheWay whole (text ++ rest) page mid held hmid → Passes true text mid page' hmid held'
    → IsOnTheWay whole rest page page' held held'
way_more {whole} text rest {page} {mid} page' {held} {hmid} held' way more =
    record {
      passed = way.passed ++ text;
      split = append_assoc way.passed text rest ∙ way.split;
      over =
          passes_then true way.passed text page mid page' held hmid held' way.over more;
    }

pub way_cut :
    {whole : List ℕ} (text rest : List ℕ) {page mid : List ℕ} (page' : List ℕ)
    {held hmid : Option (List ℕ)} (held' : Option (List ℕ))
    → IsOnTheWay whole (text ++ rest) page mid held hmid → Passes false text mid page' hmid held'
    → Passes false whole page page' held held'
way_cut {whole} text rest {page} {mid} page' {held} {hmid} held' way more =
    subst (λ xs. Passes false xs page page' held held')
    (append_assoc way.passed text rest ∙ way.split)
    (passes_none (way.passed ++ text) rest page page' page' held held'
    (passes_then false way.passed text page mid page' held hmid held' way.over more))

pub way_end :
    {whole page page' : List ℕ} {held held' : Option (List ℕ)}
    → IsOnTheWay whole [] page page' held held' → Passes true whole page page' held held'
way_end {whole} {page} {page'} {held} {held'} way =
    subst (λ xs. Passes true xs page page' held held') (sym (append-nil way.passed) ∙ way.split)
    way.over

-- the last part, in either case
pub way_last :
    (r : Bool) {whole : List ℕ} (text : List ℕ) {page mid : List ℕ} (page' : List ℕ)
    {held hmid : Option (List ℕ)} (held' : Option (List ℕ))
    → IsOnTheWay whole text page mid held hmid → Passes r text mid page' hmid held'
    → Passes r whole page page' held held'
way_last r {whole} text {page} {mid} page' {held} {hmid} held' way more =
    subst (λ xs. Passes r xs page page' held held') way.split
    (passes_then r way.passed text page mid page' held hmid held' way.over more)
