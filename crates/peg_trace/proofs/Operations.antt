-- An operation that stands in a trace stands there whatever is noted of it later.
use Rattle.std.proofs.Common.{◌≡◌, ◌+◌, ◌-◌, ℕ, Bool, true, false, List, [], ◌∷◌, ◌++◌, length}
use Rattle.std.proofs.Common.{slice_get, refl, sym, ap, ◌∙◌, subst, arith, append_assoc}
use Rattle.std.specs.Prelude.{IsSomeAnd, codes, decimal, if◌then◌else◌, is_none}
use Rattle.std.specs.List.{AllByRecursion}
use Rattle.std.proofs.lemmas.Grind.{common_steps}
use Rattle.peg_name.specs.declared.value.Content.{Content}
use Rattle.peg_event.specs.declared.history.Act.{Act}
use Rattle.peg_event.specs.declared.history.Act.TheVariants as act
use Rattle.peg_event.specs.declared.history.Op.{Op}
use Rattle.peg_event.specs.declared.Line.{Line}
use Rattle.peg_event.specs.declared.Said.{Said}
use Rattle.peg_model.specs.Trace.{said_text, sent_text, line_text}
use Rattle.peg_model.specs.World.{Operation, AppliedFence, is_named, content_answered, with_answer}
use Rattle.peg_model.specs.World.{answered_as, stamped_as, changed_at}
use Rattle.peg_model.specs.Headline.{LineBegins, issue_word, StandsInTrace}
use Rattle.peg_trace.proofs.Lists.{stays_at, stands_last, if_some_as, all_as}

abbrev pub Stands : List (List ℕ) → List Operation → Type 0
Stands lines os = AllByRecursion (λ o. StandsInTrace lines o.op) os

-- ---- lines

-- the line's text goes on so, behind its number
pub record Says (front : List ℕ) (s : Said) : Type 0 where
  pub rest : List ℕ
  pub is : said_text s ≡ front ++ rest

begins_so :
    (number front said rest sent : List ℕ) → said ≡ front ++ rest
    → number ++ (said ++ sent) ≡ number ++ front ++ (rest ++ sent)
begins_so number front said rest sent e =
    ap (λ s. number ++ (s ++ sent)) e ∙ simp append_assoc

pub begins_last :
    (lines : List (List ℕ)) (place : ℕ) (line : Line) (front : List ℕ) → length lines + 1 ≡ place
    → Says front line.said → LineBegins (lines ++ line_text place line ∷ []) place front
begins_last lines place line front e s =
    let P : List ℕ → Type 0 =
    λ l. (rest : List ℕ) × (l ≡ decimal place ++ codes " " ++ front ++ rest) in
    let text = line_text place line in
    let sent = sent_text line.sent in
    let is =
    begins_so (decimal place ++ codes " ") front (said_text line.said) s.rest sent s.is in
    let here : length lines ≡ place - 1 = omega (arith, e) in
    subst (λ i. IsSomeAnd (slice_get (lines ++ text ∷ []) i) P) here
    (stands_last P lines text (s.rest ++ sent, is))

begins_still :
    (lines more : List (List ℕ)) (place : ℕ) (front : List ℕ) → LineBegins lines place front
    → LineBegins (lines ++ more) place front
begins_still lines more place front h =
    stays_at (λ l. (rest : List ℕ) × (l ≡ decimal place ++ codes " " ++ front ++ rest)) lines more
    (place - 1) h

-- ---- an operation

abbrev pub issued_front : Op → List ℕ
issued_front op = issue_word op.act op.content ++ decimal op.client ++ codes " seq "

abbrev pub answer_front : ℕ → List ℕ
answer_front client = codes "client " ++ decimal client ++ codes " answered "

pub stands_still :
    (lines more : List (List ℕ)) (op : Op) → StandsInTrace lines op
    → StandsInTrace (lines ++ more) op
stands_still lines more op (issued, answered) = (
  begins_still lines more op.issued (issued_front op) issued,
  if_some_as op.answered (λ at. LineBegins lines at (answer_front op.client))
      (λ at. LineBegins (lines ++ more) at (answer_front op.client))
      (λ at h. begins_still lines more at (answer_front op.client) h) answered,
)

pub all_still :
    (lines more : List (List ℕ)) (os : List Operation) → Stands lines os → Stands (lines ++ more) os
all_still lines more os all =
    all_as (λ o. StandsInTrace lines o.op) (λ o. StandsInTrace (lines ++ more) o.op) os
    (λ o h. stands_still lines more o.op h) all

-- ---- a change of the operation that a client gave a number

same_word :
    (a : Act) (content given : Content)
    → issue_word a content ≡ issue_word a (content_answered a content given)
same_word act.Read content given = refl
same_word act.Write content given = refl

pub stands_answered :
    (lines : List (List ℕ)) (op : Op) (at : ℕ) (given : Content) → StandsInTrace lines op
    → LineBegins lines at (answer_front op.client)
    → StandsInTrace lines (with_answer at given op)
stands_answered lines op at given (issued, answered) here = (
  subst (λ word. LineBegins lines op.issued (word ++ decimal op.client ++ codes " seq "))
      (same_word op.act op.content given) issued,
  here,
)

-- a change that keeps the operations that stand
abbrev pub Keeps : List (List ℕ) → ℕ → (Operation → Operation) → Type 0
Keeps lines client change =
    (o : Operation) → o.op.client ≡ client → StandsInTrace lines o.op
    → StandsInTrace lines (change o).op

pub named_client :
    (client seq : ℕ) (o : Operation) → is_named client seq o ≡ true → o.op.client ≡ client
named_client client seq o e = grind (arith, common_steps, e)

changed_one :
    (lines : List (List ℕ)) (client seq : ℕ) (change : Operation → Operation) (o : Operation)
    → Keeps lines client change → StandsInTrace lines o.op
    → StandsInTrace lines (if is_named client seq o then change o else o).op
changed_one lines client seq change o keeps h = by_name (is_named client seq o) refl
  where
    by_name :
        (b : Bool) → is_named client seq o ≡ b
        → StandsInTrace lines (if b then change o else o).op
    by_name true e = keeps o (named_client client seq o e) h
    by_name false e = h

pub all_changed :
    (lines : List (List ℕ)) (client seq : ℕ) (change : Operation → Operation) (os : List Operation)
    → Keeps lines client change → Stands lines os → Stands lines (changed_at client seq change os)
all_changed lines client seq change [] keeps all = tt
all_changed lines client seq change (o ∷ os) keeps (one, all) = (
  changed_one lines client seq change o keeps one,
  all_changed lines client seq change os keeps all,
)

pub keeps_stamped :
    (lines : List (List ℕ)) (client version : ℕ) → Keeps lines client (stamped_as version)
keeps_stamped lines client version o e h = by_answer (is_none o.op.answered)
  where
    by_answer : (b : Bool) → StandsInTrace lines (if b then record o { tag = version } else o).op
    by_answer true = h
    by_answer false = h

pub keeps_answered :
    (lines : List (List ℕ)) (client : ℕ) (fences : List AppliedFence) (at version : ℕ)
    (given : Content)
    → LineBegins lines at (answer_front client)
    → Keeps lines client (answered_as fences at version given)
keeps_answered lines client fences at version given here o e h =
    stands_answered lines o.op at given h
    (subst (λ c. LineBegins lines at (answer_front c)) (sym e) here)
