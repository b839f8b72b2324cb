-- The walk along an order keeps what the book's walk has at the same place.
use Rattle.std.proofs.Common.{◌≡◌, ◌<◌, ◌≤◌, ◌+◌, ◌&&◌, ◌||◌, not, ℕ, zero, suc, Bool, true, false, max}
use Rattle.std.proofs.Common.{nat_lt, if◌then◌else◌, Option, Some, None, is_some, List, [], ◌∷◌}
use Rattle.std.proofs.Common.{◌++◌, length, get_or, set, take, drop, refl, sym, ap, ◌∙◌, arith}
use Rattle.std.proofs.lemmas.List.{drop_more, drop_all, take_more, length-set}
use Rattle.std.proofs.lemmas.List.Elements.{filter_map-append}
use Rattle.std.proofs.lemmas.List.Folds.{list_any-append}
use Rattle.std.proofs.lemmas.List.Recursion.{max_push}
use Rattle.std.proofs.lemmas.Bool.Decides.{nat_tests}
use Rattle.std.proofs.lemmas.Grind.{common_steps}
use Rattle.std.specs.Prelude.{nat_eq, slice_get}
use Rattle.std.specs.Str.{bytes_eq}
use Rattle.peg_name.specs.declared.value.Content.{Content}
use Rattle.peg_event.specs.declared.history.Act.{Act}
use Rattle.peg_event.specs.declared.history.Act.TheVariants.{Read, Write}
use Rattle.peg_event.specs.declared.history.Op.{Op}
use Rattle.peg_event.specs.declared.history.Fault.{Fault}
use Rattle.peg_event.specs.declared.history.Fault.TheVariants as fault
use Rattle.peg_model.specs.World.{is_write}
use Rattle.peg_model.specs.Register.{content_after}
use Rattle.peg_model.specs.Judge.{or_else, late_of, is_unseen_read, is_wrong_read, was_walked}
use Rattle.peg_model.specs.Judge.{place_fault, missing_from, walked_on, held_on, fault_of, walk}
use Rattle.peg_model.specs.Judge.{order_fault}
use Rattle.peg_history.specs.Walking.{placed_op, walked_of, latest_issue, held_at, last_write}
use Rattle.peg_history.specs.Walking.{own_fault, answered_from, first_unmarked}

-- ---- answer places

pub never_late : (walked : List (ℕ × Op)) (place : ℕ) → late_of walked place None ≡ None
never_late [] place = refl
never_late (w ∷ walked) place = never_late walked place

pub not_late :
    (walked : List (ℕ × Op)) (place at : ℕ) → latest_issue walked ≤ at
    → late_of walked place (Some at) ≡ None
not_late [] place at h = refl
not_late (w ∷ walked) place at h =
    let here : nat_lt at w.1.issued ≡ false = before w.1.issued (latest_issue walked) at h in
    ap (λ b. if b then Some (fault.Late w.0 place) else late_of walked place (Some at)) here
    ∙ not_late walked place at (omega arith)
  where
    before : (a b at' : ℕ) → max a b ≤ at' → nat_lt at' a ≡ false
    before a b at' h' = grind (arith, nat_tests)

-- ---- one more place

pub walked_more :
    (ops : List Op) (ps : List ℕ) (i : ℕ) (op : Op) → i < length ps
    → slice_get ops (get_or ps i 0) ≡ Some op
    → walked_of ops (take (i + 1) ps) ≡ walked_of ops (take i ps) ++ (get_or ps i 0, op) ∷ []
walked_more ops ps i op lt is =
    ap (walked_of ops) (take_more ps i 0 lt)
    ∙ filter_map-append (placed_op ops) (take i ps) (get_or ps i 0 ∷ [])
    ∙ ap (λ ws. walked_of ops (take i ps) ++ ws) (rw is refl)

pub latest_more :
    (walked : List (ℕ × Op)) (place : ℕ) (op : Op)
    → latest_issue (walked ++ (place, op) ∷ []) ≡ max (latest_issue walked) op.issued
latest_more walked place op =
    max_push latest_issue (λ w. w.1.issued) refl (λ _ _. refl) walked (place, op)

pub held_more :
    (ops : List Op) (last : Option ℕ) (place : ℕ) (op : Op) → slice_get ops place ≡ Some op
    → held_at ops (last_write last place op) ≡ content_after (held_at ops last) op.act op.content
held_more ops last place op is = by_act op.act refl
  where
    by_act : (act : Act) → op.act ≡ act
        → held_at ops (if is_write act then Some place else last)
        ≡ content_after (held_at ops last) act op.content
    by_act Read e = refl
    by_act Write e = rw is refl

marked_more :
    (marks : List ℕ) (place mark p : ℕ) (b : Bool) → place < length marks
    → nat_eq (get_or marks p 0) mark ≡ b
    → nat_eq (get_or (set marks place mark) p 0) mark ≡ (b || (nat_eq place p || false))
marked_more marks place mark p b lt h = grind (arith, common_steps, nat_tests)

used_more :
    (marks : List ℕ) (place mark p : ℕ) → place < length marks → get_or marks p 0 ≤ mark
    → get_or (set marks place mark) p 0 ≤ mark
used_more marks place mark p lt h = grind (arith, common_steps)

-- ---- one step of the book's walk

first_of :
    (a b c : Bool) (strange twice illegal : Fault) (late : Option Fault)
    → (if a then Some strange
    else (if b then Some twice else (if c then Some illegal else late)))
    ≡ or_else (if a then Some strange
    else (if b then Some twice else (if c then Some illegal else None))) late
first_of true b c strange twice illegal late = refl
first_of false true c strange twice illegal late = refl
first_of false false true strange twice illegal late = refl
first_of false false false strange twice illegal late = refl

pub place_fault_is :
    (walked : List (ℕ × Op)) (key : List ℕ) (held : Content) (place : ℕ) (op : Op)
    → place_fault walked key held place op
    ≡ or_else (own_fault key held (was_walked place walked) place op)
    (late_of walked place op.answered)
place_fault_is walked key held place op =
    first_of (not (bytes_eq op.key key) || is_unseen_read op) (was_walked place walked)
    (is_wrong_read held op) (fault.Strange place) (fault.Twice place) (fault.Illegal place)
    (late_of walked place op.answered)

some_first : (f other : Option Fault) → is_some f ≡ true → f ≡ or_else f other
some_first (Some f) other h = refl
some_first None other h = cc

none_first : (f other : Option Fault) → is_some f ≡ false → or_else f other ≡ other
none_first (Some f) other h = cc
none_first None other h = refl

-- ---- the walk

pub record IsWalkedTo (ops : List Op) (key ps : List ℕ) (i : ℕ) (marks : List ℕ) (mark : ℕ)
    (last : Option ℕ) (latest : ℕ) : Type 0 where
  pub rest :
      order_fault ops key ps
      ≡ walk ops key (walked_of ops (take i ps)) (held_at ops last) (drop i ps)
  pub marked : (p : ℕ) → nat_eq (get_or marks p 0) mark ≡ was_walked p (walked_of ops (take i ps))
  pub latest_is : latest ≡ latest_issue (walked_of ops (take i ps))
  pub even : length marks ≡ length ops
  pub used : (p : ℕ) → get_or marks p 0 ≤ mark

pub walked_none :
    (ops : List Op) (key ps marks : List ℕ) (mark : ℕ) → length marks ≡ length ops
    → ((p : ℕ) → get_or marks p 0 < mark) → IsWalkedTo ops key ps 0 marks mark None 0
walked_none ops key ps marks mark even unused =
    record {
      rest = refl;
      marked = λ p. other (get_or marks p 0) mark (unused p);
      latest_is = refl;
      even = even;
      used = λ p. let h = unused p in omega arith;
    }
  where
    other : (a b : ℕ) → a < b → nat_eq a b ≡ false
    other a b h = grind (arith, nat_tests)

-- what the book's walk does at a place
walk_at :
    (ops : List Op) (key ps : List ℕ) (i : ℕ) (marks : List ℕ) (mark : ℕ) (last : Option ℕ)
    (latest : ℕ) (found : Option Op) → IsWalkedTo ops key ps i marks mark last latest
    → i < length ps → slice_get ops (get_or ps i 0) ≡ found
    → order_fault ops key ps
    ≡ or_else (fault_of found (walked_of ops (take i ps)) key (held_at ops last) (get_or ps i 0))
    (walk ops key (walked_on (walked_of ops (take i ps)) (get_or ps i 0) found)
    (held_on (held_at ops last) found) (drop (i + 1) ps))
walk_at ops key ps i marks mark last latest found w lt is =
    w.rest ∙ ap (walk ops key (walked_of ops (take i ps)) (held_at ops last)) (drop_more ps i 0 lt)
    ∙ ap (λ o. or_else
    (fault_of o (walked_of ops (take i ps)) key (held_at ops last) (get_or ps i 0))
    (walk ops key (walked_on (walked_of ops (take i ps)) (get_or ps i 0) o)
    (held_on (held_at ops last) o) (drop (i + 1) ps))) is

pub strange_at :
    (ops : List Op) (key ps : List ℕ) (i : ℕ) (marks : List ℕ) (mark : ℕ) (last : Option ℕ)
    (latest : ℕ) → IsWalkedTo ops key ps i marks mark last latest
    → i < length ps → slice_get ops (get_or ps i 0) ≡ None
    → Some (fault.Strange (get_or ps i 0)) ≡ order_fault ops key ps
strange_at ops key ps i marks mark last latest w lt is =
    sym (walk_at ops key ps i marks mark last latest None w lt is)

-- the fault at a place in the two parts in which it is looked for
parts_at :
    (ops : List Op) (key ps : List ℕ) (i : ℕ) (marks : List ℕ) (mark : ℕ) (last : Option ℕ)
    (latest : ℕ) (op : Op) (own late : Option Fault)
    → IsWalkedTo ops key ps i marks mark last latest → i < length ps
    → slice_get ops (get_or ps i 0) ≡ Some op
    → own ≡ own_fault key (held_at ops last) (nat_eq (get_or marks (get_or ps i 0) 0) mark)
    (get_or ps i 0) op
    → late ≡ late_of (walked_of ops (take i ps)) (get_or ps i 0) op.answered
    → order_fault ops key ps
    ≡ or_else (or_else own late)
    (walk ops key (walked_of ops (take i ps) ++ (get_or ps i 0, op) ∷ [])
    (content_after (held_at ops last) op.act op.content) (drop (i + 1) ps))
parts_at ops key ps i marks mark last latest op own late w lt is own_is late_is =
    let walked = walked_of ops (take i ps) in
    let place = get_or ps i 0 in
    let held = held_at ops last in
    let rest = walk ops key (walked ++ (place, op) ∷ []) (content_after held op.act op.content)
    (drop (i + 1) ps) in
    walk_at ops key ps i marks mark last latest (Some op) w lt is
    ∙ ap (λ f. or_else f rest) (place_fault_is walked key held place op)
    ∙ ap (λ b. or_else (or_else (own_fault key held b place op) (late_of walked place op.answered))
    rest) (sym (w.marked place))
    ∙ ap (λ f. or_else (or_else f (late_of walked place op.answered)) rest) (sym own_is)
    ∙ ap (λ f. or_else (or_else own f) rest) (sym late_is)

pub own_at :
    (ops : List Op) (key ps : List ℕ) (i : ℕ) (marks : List ℕ) (mark : ℕ) (last : Option ℕ)
    (latest : ℕ) (op : Op) (own : Option Fault)
    → IsWalkedTo ops key ps i marks mark last latest → i < length ps
    → slice_get ops (get_or ps i 0) ≡ Some op
    → own ≡ own_fault key (held_at ops last) (nat_eq (get_or marks (get_or ps i 0) 0) mark)
    (get_or ps i 0) op
    → is_some own ≡ true → own ≡ order_fault ops key ps
own_at ops key ps i marks mark last latest op own w lt is own_is some =
    let late = late_of (walked_of ops (take i ps)) (get_or ps i 0) op.answered in
    let rest = walk ops key (walked_of ops (take i ps) ++ (get_or ps i 0, op) ∷ [])
    (content_after (held_at ops last) op.act op.content) (drop (i + 1) ps) in
    some_first own late some
    ∙ some_first (or_else own late) rest (ap is_some (sym (some_first own late some)) ∙ some)
    ∙ sym (parts_at ops key ps i marks mark last latest op own late w lt is own_is refl)

pub late_at :
    (ops : List Op) (key ps : List ℕ) (i : ℕ) (marks : List ℕ) (mark : ℕ) (last : Option ℕ)
    (latest : ℕ) (op : Op) (own late : Option Fault)
    → IsWalkedTo ops key ps i marks mark last latest → i < length ps
    → slice_get ops (get_or ps i 0) ≡ Some op
    → own ≡ own_fault key (held_at ops last) (nat_eq (get_or marks (get_or ps i 0) 0) mark)
    (get_or ps i 0) op
    → late ≡ late_of (walked_of ops (take i ps)) (get_or ps i 0) op.answered
    → is_some own ≡ false → is_some late ≡ true → late ≡ order_fault ops key ps
late_at ops key ps i marks mark last latest op own late w lt is own_is late_is none some =
    let rest = walk ops key (walked_of ops (take i ps) ++ (get_or ps i 0, op) ∷ [])
    (content_after (held_at ops last) op.act op.content) (drop (i + 1) ps) in
    some_first late rest some
    ∙ ap (λ f. or_else f rest) (sym (none_first own late none))
    ∙ sym (parts_at ops key ps i marks mark last latest op own late w lt is own_is late_is)

pub walked_next :
    (ops : List Op) (key ps : List ℕ) (i : ℕ) (marks : List ℕ) (mark : ℕ) (last : Option ℕ)
    (latest : ℕ) (op : Op) (own late : Option Fault)
    → IsWalkedTo ops key ps i marks mark last latest → i < length ps
    → slice_get ops (get_or ps i 0) ≡ Some op → get_or ps i 0 < length marks
    → own ≡ own_fault key (held_at ops last) (nat_eq (get_or marks (get_or ps i 0) 0) mark)
    (get_or ps i 0) op
    → late ≡ late_of (walked_of ops (take i ps)) (get_or ps i 0) op.answered
    → is_some own ≡ false → is_some late ≡ false
    → IsWalkedTo ops key ps (i + 1) (set marks (get_or ps i 0) mark) mark
    (last_write last (get_or ps i 0) op) (max latest op.issued)
walked_next ops key ps i marks mark last latest op own late w lt is within own_is late_is none none' =
    let walked = walked_of ops (take i ps) in
    let place = get_or ps i 0 in
    let more = walked_more ops ps i op lt is in
    let held = content_after (held_at ops last) op.act op.content in
    let rest = walk ops key (walked ++ (place, op) ∷ []) held (drop (i + 1) ps) in
    record {
      rest =
          parts_at ops key ps i marks mark last latest op own late w lt is own_is late_is
          ∙ ap (λ f. or_else f rest) (none_first own late none)
          ∙ none_first late rest none'
          ∙ ap (λ ws. walk ops key ws held (drop (i + 1) ps)) (sym more)
          ∙ ap (λ c. walk ops key (walked_of ops (take (i + 1) ps)) c (drop (i + 1) ps))
          (sym (held_more ops last place op is));
      marked = λ p.
          marked_more marks place mark p (was_walked p walked) within (w.marked p)
          ∙ sym (list_any-append (λ v. nat_eq v.0 p) walked ((place, op) ∷ []))
          ∙ ap (λ ws. was_walked p ws) (sym more);
      latest_is =
          ap (λ n. max n op.issued) w.latest_is ∙ sym (latest_more walked place op)
          ∙ ap latest_issue (sym more);
      even = length-set marks place mark ∙ w.even;
      used = λ p. used_more marks place mark p within (w.used p);
    }

-- ---- what is left out

missing_is :
    (ops : List Op) (place : ℕ) (walked : List (ℕ × Op)) (key marks : List ℕ) (mark : ℕ)
    → ((p : ℕ) → nat_eq (get_or marks p 0) mark ≡ was_walked p walked)
    → missing_from ops place walked key ≡ first_unmarked marks mark (answered_from ops place key)
missing_is [] place walked key marks mark marked = refl
missing_is (op ∷ ops) place walked key marks mark marked =
    by_tests (missing_is ops (place + 1) walked key marks mark marked) (bytes_eq op.key key)
    (is_some op.answered) (was_walked place walked) (marked place)
  where
    by_tests :
        missing_from ops (place + 1) walked key
        ≡ first_unmarked marks mark (answered_from ops (place + 1) key)
        → (a b c : Bool) → nat_eq (get_or marks place 0) mark ≡ c
        → (if a && b && not c then Some (fault.Missing place)
        else missing_from ops (place + 1) walked key)
        ≡ first_unmarked marks mark
        (if a && b then place ∷ answered_from ops (place + 1) key
        else answered_from ops (place + 1) key)
    by_tests rest true true true e = rw e rest
    by_tests rest true true false e = rw e refl
    by_tests rest true false c e = rest
    by_tests rest false b c e = rest

pub missing_at :
    (ops : List Op) (key ps : List ℕ) (i : ℕ) (marks : List ℕ) (mark : ℕ) (last : Option ℕ)
    (latest : ℕ) (answered : List ℕ) → IsWalkedTo ops key ps i marks mark last latest
    → length ps ≤ i → answered ≡ answered_from ops 0 key
    → first_unmarked marks mark answered ≡ order_fault ops key ps
missing_at ops key ps i marks mark last latest answered w all answered_is =
    ap (first_unmarked marks mark) answered_is
    ∙ sym (missing_is ops 0 (walked_of ops (take i ps)) key marks mark w.marked)
    ∙ ap (walk ops key (walked_of ops (take i ps)) (held_at ops last)) (sym (drop_all i ps all))
    ∙ sym w.rest

-- ---- the first late operation

pub late_found :
    (ops : List Op) (ps : List ℕ) (i place at : ℕ) (op : Op) → i < length ps
    → slice_get ops (get_or ps i 0) ≡ Some op → at < op.issued
    → late_of (walked_of ops (drop i ps)) place (Some at) ≡ Some (fault.Late (get_or ps i 0) place)
late_found ops ps i place at op lt is late =
    let here : nat_lt at op.issued ≡ true = grind (arith, nat_tests) in
    ap (λ qs. late_of (walked_of ops qs) place (Some at)) (drop_more ps i 0 lt)
    ∙ rw (is, here) refl

pub late_passed :
    (ops : List Op) (ps : List ℕ) (i place at : ℕ) (op : Op) → i < length ps
    → slice_get ops (get_or ps i 0) ≡ Some op → op.issued ≤ at
    → late_of (walked_of ops (drop (i + 1) ps)) place (Some at)
    ≡ late_of (walked_of ops (drop i ps)) place (Some at)
late_passed ops ps i place at op lt is early =
    let here : nat_lt at op.issued ≡ false = grind (arith, nat_tests) in
    sym
    (ap (λ qs. late_of (walked_of ops qs) place (Some at)) (drop_more ps i 0 lt)
    ∙ rw (is, here) refl)

pub late_skipped :
    (ops : List Op) (ps : List ℕ) (i place at : ℕ) → i < length ps
    → slice_get ops (get_or ps i 0) ≡ None
    → late_of (walked_of ops (drop (i + 1) ps)) place (Some at)
    ≡ late_of (walked_of ops (drop i ps)) place (Some at)
late_skipped ops ps i place at lt is =
    sym
    (ap (λ qs. late_of (walked_of ops qs) place (Some at)) (drop_more ps i 0 lt) ∙ rw is refl)

pub order_at :
    (ops : List Op) (key : List ℕ) {ps order : List ℕ} → ps ≡ order
    → order_fault ops key ps ≡ order_fault ops key order
order_at ops key same = ap (λ (os : List ℕ). order_fault ops key os) same

pub walked_next_as :
    (ops : List Op) (key ps : List ℕ) (i : ℕ) (marks : List ℕ) (mark : ℕ) (last : Option ℕ)
    (latest : ℕ) (op : Op) (own late : Option Fault) (last' : Option ℕ) (latest' : ℕ)
    → IsWalkedTo ops key ps i marks mark last latest → i < length ps
    → slice_get ops (get_or ps i 0) ≡ Some op → get_or ps i 0 < length marks
    → own ≡ own_fault key (held_at ops last) (nat_eq (get_or marks (get_or ps i 0) 0) mark)
    (get_or ps i 0) op
    → late ≡ late_of (walked_of ops (take i ps)) (get_or ps i 0) op.answered
    → is_some own ≡ false → is_some late ≡ false
    → last' ≡ last_write last (get_or ps i 0) op → latest' ≡ max latest op.issued
    → IsWalkedTo ops key ps (i + 1) (set marks (get_or ps i 0) mark) mark last' latest'
walked_next_as ops key ps i marks mark last latest op own late last' latest' w lt is within own_is
    late_is none none' last_is latest_is =
    rw (last_is, latest_is)
    (walked_next ops key ps i marks mark last latest op own late w lt is within own_is late_is none
    none')

-- ---- an operation that is there has a mark

pub within_marks :
    (ops : List Op) (place : ℕ) (op : Op) (marks : List ℕ) → slice_get ops place ≡ Some op
    → length marks ≡ length ops → place < length marks
within_marks ops place op marks is even = within ops place is marks even
  where
    within :
        (os : List Op) (p : ℕ) → slice_get os p ≡ Some op → (ms : List ℕ)
        → length ms ≡ length os → p < length ms
    within [] p is ms even = cc
    within (o ∷ os) zero is ms even = omega (arith, even)
    within (o ∷ os) (suc p) is [] even = absurd (omega (arith, even))
    within (o ∷ os) (suc p) is (m ∷ ms) even =
        let h : p < length ms = within os p is ms (omega (arith, even)) in omega (arith, h)
