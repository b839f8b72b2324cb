-- What a check makes of a line, as its meaning has it.
use Rattle.std.proofs.Common.{◌≡◌, ◌<◌, ◌+◌, ◌==◌, ℕ, zero, suc, Bool, true, false, Option}
use Rattle.std.proofs.Common.{Some, None, if◌then◌else◌, List, [], ◌∷◌, ◌++◌, length, map, get_or, set}
use Rattle.std.proofs.Common.{refl, sym, ap, ◌∙◌, arith}
use Rattle.std.proofs.lemmas.List.{map_push}
use Rattle.std.proofs.lemmas.Bool.Decides.{nat_tests}
use Rattle.std.specs.Str.{bytes_eq}
use Rattle.indexmap.specs.IndexSet.{insert_key}
use Rattle.peg_event.specs.declared.history.Op.{Op}
use Rattle.peg_model.specs.Words.{is_in}
use Rattle.peg_model.specs.Order.{first_keys, keys_in}
use Rattle.peg_meaning.specs.Session as session
use Rattle.peg_meaning.specs.Session.{Answer, Goes, Past, saying, IsOnly}
use Rattle.peg_meaning.specs.CheckWord as word
use Rattle.peg_meaning.specs.CheckWord.{CheckEntry, Skipped, History, Operation, Order, At, Done}
use Rattle.peg_meaning.specs.CheckWord.{Checked, Checker, Stage, Skipping, Finished, last_issued}
use Rattle.peg_meaning.specs.CheckWord.{next_key, IsOrderLine, IsPlaceLine, IsCheckedLine}
use Rattle.peg_meaning.specs.CheckWord.{IsCheckLine, with_place, checked_on, stage_on, judged_text}
use Rattle.peg_meaning.specs.CheckWord.{check_on, check_want, judges}
use Rattle.peg_meaning.specs.Session.{IsLineOf}
use Rattle.peg_history.specs.declared.KeyOrder.{KeyOrder}
use Rattle.peg_history.specs.Walking.{order_pair}
use Rattle.peg_session.specs.declared.Stepped.{Stepped}
use Rattle.peg_session.specs.declared.Stepped.TheVariants as stepped
use Rattle.peg_session.specs.Took.{DidGo, Took, TookLine}
use Rattle.peg_session.proofs.Passing.{passes_nothing}
use Rattle.peg_judge.specs.declared.reading.Entry.{Entry}
use Rattle.peg_judge.specs.declared.reading.Entry.TheVariants as entry
use Rattle.peg_judge.specs.Judging.{stage_at, said, SaysOnly, FrontSays, IsHere, done_text, Finishes}

-- ---- one more operation

with_key : List ℕ → List (List ℕ) → List (List ℕ)
with_key key known = if is_in key known then known else known ++ key ∷ []

first_keys_more :
    (known : List (List ℕ)) (ops : List Op) (op : Op)
    → first_keys known (ops ++ op ∷ []) ≡ with_key op.key (first_keys known ops)
unfolding with_key
first_keys_more known [] op = refl
first_keys_more known (o ∷ ops) op =
    first_keys_more (if is_in o.key known then known else known ++ o.key ∷ []) ops op

pub keys_more :
    (ops after : List Op) (op : Op) (keys new : List (List ℕ)) → keys ≡ keys_in ops
    → after ≡ ops ++ op ∷ [] → new ≡ insert_key bytes_eq keys op.key → new ≡ keys_in after
unfolding with_key
keys_more ops after op keys new are more is =
    is ∙ ap (λ (ks : List (List ℕ)). with_key op.key ks) are ∙ sym (first_keys_more [] ops op)
    ∙ ap keys_in (sym more)

last_more : (ops : List Op) (op : Op) → last_issued (ops ++ op ∷ []) ≡ op.issued
last_more [] op = refl
last_more (o ∷ []) op = refl
last_more (o ∷ p ∷ ops) op = last_more (p ∷ ops) op

pub latest_more :
    (ops after : List Op) (op : Op) → after ≡ ops ++ op ∷ [] → op.issued ≡ last_issued after
latest_more ops after op more = sym (ap last_issued more ∙ last_more ops op)

-- ---- one more order, and one more place

pub orders_more :
    (orders after : List KeyOrder) (o : KeyOrder) (key : List ℕ) → after ≡ orders ++ o ∷ []
    → order_pair o ≡ (key, [])
    → map order_pair after ≡ map order_pair orders ++ (key, []) ∷ []
orders_more orders after o key more is =
    ap (map order_pair) more ∙ map_push order_pair orders o
    ∙ ap (λ (p : List ℕ × List ℕ). map order_pair orders ++ p ∷ []) is

pub place_more :
    (orders : List KeyOrder) (i place : ℕ) (new old : KeyOrder) → i + 1 ≡ length orders
    → old ≡ get_or orders i old → order_pair new ≡ (old.key, old.ops ++ place ∷ [])
    → map order_pair (set orders i new) ≡ with_place place (map order_pair orders)
place_more [] i place new old last is more = absurd (omega arith)
place_more (o ∷ []) zero place new old last is more =
    ap (λ p. p ∷ [])
    (more ∙ ap (λ (x : KeyOrder). (x.key, x.ops ++ place ∷ [])) is)
place_more (o ∷ []) (suc i) place new old last is more = absurd (omega arith)
place_more (o ∷ p ∷ orders) zero place new old last is more = absurd (omega arith)
place_more (o ∷ p ∷ orders) (suc i) place new old last is more =
    ap (λ os. order_pair o ∷ os) (place_more (p ∷ orders) i place new old (omega arith) is more)

-- ---- what was said can be added

no_op_order :
    (k : Option (List ℕ)) (line : List ℕ) (number : ℕ) (op : Op)
    → IsOrderLine k line (Operation number op) → ⊥
no_op_order None line number op is = is
no_op_order (Some key) line number op is = is

no_op_place :
    (p : ℕ) (c : Checked) (line : List ℕ) (number : ℕ) (op : Op)
    → IsPlaceLine p c line (Operation number op) → ⊥
no_op_place zero c line number op is = no_op_order (next_key c) line number op is
no_op_place (suc p) c line number op is = is

op_here :
    (u : ℕ) (c : Checked) (line : List ℕ) (number : ℕ) (op : Op)
    → IsCheckedLine u c line (Operation number op) → 0 < u
op_here zero c line number op is = absurd (no_op_place c.unplaced c line number op is)
op_here (suc u) c line number op is = omega arith

no_place_order :
    (k : Option (List ℕ)) (line : List ℕ) (place : ℕ) → IsOrderLine k line (At place) → ⊥
no_place_order None line place is = is
no_place_order (Some key) line place is = is

place_there :
    (p : ℕ) (c : Checked) (line : List ℕ) (place : ℕ) → IsPlaceLine p c line (At place) → 0 < p
place_there zero c line place is = absurd (no_place_order (next_key c) line place is)
place_there (suc p) c line place is = omega arith

place_here :
    (u : ℕ) (c : Checked) (line : List ℕ) (place : ℕ) → IsCheckedLine u c line (At place)
    → 0 < c.unplaced
place_here zero c line place is = place_there c.unplaced c line place is
place_here (suc u) c line place is = absurd is

pub is_here : (c : Checked) (line : List ℕ) (x : Entry) → SaysOnly c line (said x) → IsHere c x
is_here c line (entry.Operation number op) says = op_here c.unread c line number op says.is
is_here c line (entry.Order key count) says = tt
is_here c line (entry.At place) says = place_here c.unread c line place says.is
is_here c line entry.Done says = tt

-- ---- what comes of it

few_lines : (lines : ℕ) → lines < 2000000 → (lines == 2000000) ≡ false
few_lines lines few = grind (arith, nat_tests)

module _ (lines : ℕ) (c : Checked) where
  on_entry :
      (e : CheckEntry) (after : Stage) (text : List ℕ) → lines < 2000000
      → stage_on (word.Reading c) e ≡ after → judged_text (word.Reading c) e ≡ text
      → check_on (record { lines = lines; stage = word.Reading c }) (session.Entry e)
      ≡ Goes (saying (record { lines = lines + 1; stage = after }) text)
  on_entry e after text few is says =
      let W : Stage → List ℕ → Answer Checker =
      λ stage t. Goes (saying (record { lines = lines + 1; stage = stage }) t) in
      ap (λ b. if b then Past else W (stage_on (word.Reading c) e) (judged_text (word.Reading c) e))
      (few_lines lines few)
      ∙ ap (λ stage. W stage (judged_text (word.Reading c) e)) is ∙ ap (W after) says

  added :
      (x : Entry) (after : Checked) → (x ≡ entry.Done → ⊥) → lines < 2000000
      → after ≡ checked_on c (said x)
      → check_on (record { lines = lines; stage = word.Reading c }) (session.Entry (said x))
      ≡ Goes (saying (record { lines = lines + 1; stage = word.Reading after }) [])
  added (entry.Operation number op) after more few is =
      on_entry (Operation number op) (word.Reading after) [] few (ap word.Reading (sym is)) refl
  added (entry.Order key count) after more few is =
      on_entry (Order key count) (word.Reading after) [] few (ap word.Reading (sym is)) refl
  added (entry.At place) after more few is =
      on_entry (At place) (word.Reading after) [] few (ap word.Reading (sym is)) refl
  added entry.Done after more few is = absurd (more refl)

  pub did_add :
      (o o' : Bool) (x : Entry) (after : Checked) (page : List ℕ) (held : Option (List ℕ))
      → o ≡ false → o' ≡ o → (x ≡ entry.Done → ⊥) → lines < 2000000
      → after ≡ checked_on c (said x)
      → DidGo judges (record { lines = lines; stage = stage_at o c }) (session.Entry (said x))
      (record { lines = lines + 1; stage = stage_at o' after }) [] [] page page held held
  did_add true o' x after page held on same more few is = absurd (cc on)
  did_add false true x after page held on same more few is = absurd (cc same)
  did_add false false x after page held on same more few is =
      record { text = []; is = added x after more few is; over = passes_nothing page held }

  done_on :
      (o' : Bool) (after : Checked) → lines < 2000000 → after ≡ c → o' ≡ true
      → check_on (record { lines = lines; stage = word.Reading c }) (session.Entry Done)
      ≡ Goes (saying (record { lines = lines + 1; stage = stage_at o' after }) (done_text c))
  done_on false after few same over = absurd (cc over)
  done_on true after few same over =
      on_entry Done (Finished after) (done_text c) few (ap Finished (sym same)) refl

  pub finished :
      (o o' : Bool) (after : Checked) (r : Stepped) (page page' : List ℕ)
      (held held' : Option (List ℕ)) → o ≡ false → lines < 2000000 → after ≡ c
      → (r ≡ stepped.Goes → o' ≡ true) → Finishes r c page page' held held'
      → Took judges (record { lines = lines; stage = stage_at o c }) (session.Entry Done) r
      (record { lines = lines + 1; stage = stage_at o' after }) [] [] page page' held held'
  finished true o' after r page page' held held' on few same over end = absurd (cc on)
  finished false o' after stepped.Goes page page' held held' on few same over end =
      record { text = done_text c; is = done_on o' after few same (over refl); over = end }
  finished false o' after stepped.Unwritten page page' held held' on few same over end =
      record { came = _; is = done_on true c few refl refl; over = end }
  finished false o' after stepped.OutOfMemory page page' held held' on few same over end = end
  finished false o' after stepped.Refused page page' held held' on few same over end = absurd end
  finished false o' after stepped.Past page page' held held' on few same over end = absurd end

  pub finished_as :
      (x : Entry) (o o' : Bool) (after : Checked) (r : Stepped) (page page' : List ℕ)
      (held held' : Option (List ℕ)) → x ≡ entry.Done → o ≡ false → lines < 2000000
      → after ≡ c → (r ≡ stepped.Goes → o' ≡ true) → Finishes r c page page' held held'
      → Took judges (record { lines = lines; stage = stage_at o c }) (session.Entry (said x)) r
      (record { lines = lines + 1; stage = stage_at o' after }) [] [] page page' held held'
  finished_as x o o' after r page page' held held' is on few same over end =
      rw is (finished o o' after r page page' held held' on few same over end)

  pub only_says :
      (o : Bool) (line : List ℕ) (e : CheckEntry) → o ≡ false → SaysOnly c line e
      → IsOnly judges (record { lines = lines; stage = stage_at o c }) line e
  only_says true line e on says = absurd (cc on)
  only_says false line e on says = record { is = says.is; only = says.only }

  pub says_nothing :
      (o : Bool) (line : List ℕ) → o ≡ false
      → ((e : CheckEntry) → IsCheckedLine c.unread c line e → ⊥) → (e : CheckEntry)
      → IsCheckLine (record { lines = lines; stage = stage_at o c }) line e → ⊥
  says_nothing true line on none e is = absurd (cc on)
  says_nothing false line on none e is = none e is

past_all :
    (lines : ℕ) (stage : Stage) (e : CheckEntry) → lines ≡ 2000000
    → check_on (record { lines = lines; stage = stage }) (session.Entry e) ≡ Past
past_all lines stage e all =
    let W : Answer Checker =
    Goes (saying (record { lines = lines + 1; stage = stage_on stage e }) (judged_text stage e)) in
    let test : (lines == 2000000) ≡ true = grind (arith, nat_tests) in
    ap (λ b. if b then Past else W) test

pub past_line :
    (lines : ℕ) (c : Checked) (o : Bool) (line : List ℕ) (e : CheckEntry) (s' : Checker)
    (page : List ℕ) (held : Option (List ℕ)) → o ≡ false → SaysOnly c line e → lines ≡ 2000000
    → TookLine judges (record { lines = lines; stage = stage_at o c }) line stepped.Past s' [] []
    page page held held
past_line lines c o line e s' page held on says all = (
  e,
  only_says lines c o line e on says,
  (past_all lines (stage_at o c) e all, record { same_page = refl; same_held = refl }),
)

-- what was made of what a line says was made of the line
pub of_line :
    (s s' : Checker) (line : List ℕ) (e : CheckEntry) (r : Stepped) (page page' : List ℕ)
    (held held' : Option (List ℕ)) → IsOnly judges s line e
    → Took judges s (session.Entry e) r s' [] [] page page' held held'
    → TookLine judges s line r s' [] [] page page' held held'
of_line s s' line e stepped.Goes page page' held held' only took = (e, only, took)
of_line s s' line e stepped.Refused page page' held held' only took = absurd took
of_line s s' line e stepped.Past page page' held held' only took = (e, only, took)
of_line s s' line e stepped.OutOfMemory page page' held held' only took = took
of_line s s' line e stepped.Unwritten page page' held held' only took = (e, only, took)

-- ---- before the operations

front_only :
    (lines : ℕ) (line : List ℕ) (e : CheckEntry) → FrontSays line e
    → IsOnly judges (record { lines = lines; stage = Skipping }) line e
front_only lines line e says = record { is = says.is; only = says.only }

pub front_past :
    (lines : ℕ) (line : List ℕ) (e : CheckEntry) (s' : Checker) (page : List ℕ)
    (held : Option (List ℕ)) → FrontSays line e → lines ≡ 2000000
    → TookLine judges (record { lines = lines; stage = Skipping }) line stepped.Past s' [] [] page
    page held held
front_past lines line e s' page held says all = (
  e,
  front_only lines line e says,
  (past_all lines Skipping e all, record { same_page = refl; same_held = refl }),
)

pub front_goes :
    (lines : ℕ) (line : List ℕ) (e : CheckEntry) (after : Stage) (page : List ℕ)
    (held : Option (List ℕ)) → FrontSays line e → lines < 2000000
    → after ≡ stage_on Skipping e → judged_text Skipping e ≡ []
    → TookLine judges (record { lines = lines; stage = Skipping }) line stepped.Goes
    (record { lines = lines + 1; stage = after }) [] [] page page held held
front_goes lines line e after page held says few is quiet =
    let W : Stage → List ℕ → Answer Checker =
    λ stage t. Goes (saying (record { lines = lines + 1; stage = stage }) t) in (
      e,
      front_only lines line e says,
      record {
        text = [];
        is =
            ap (λ b. if b then Past else W (stage_on Skipping e) (judged_text Skipping e))
            (few_lines lines few)
            ∙ ap (λ stage. W stage (judged_text Skipping e)) (sym is) ∙ ap (W after) quiet;
        over = passes_nothing page held;
      },
    )

-- ---- what is wanted

pub is_on : (o : Bool) (c : Checked) (n : ℕ) → IsLineOf (check_want (stage_at o c)) n → o ≡ false
is_on true c n is = absurd is
is_on false c n is = refl
