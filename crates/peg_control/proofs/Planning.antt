-- The commands that wait, while a plan is made.
use Rattle.std.proofs.Common.{◌≡◌, ℕ, zero, suc, ◌+◌, ◌≤◌, ◌<◌, Bool, true, false, cond, not, List}
use Rattle.std.proofs.Common.{[], ◌∷◌, ◌++◌, length, map, filter, take, refl, ap, sym, ◌∙◌, arith}
use Rattle.std.proofs.Common.{append-nil, append_assoc, length-append, length-take, get_or, nat_lt}
use Rattle.std.proofs.Common.{◌||◌}
use Rattle.std.proofs.lemmas.List.{take_all, take-append-le, map-append, length-map}
use Rattle.std.proofs.lemmas.List.Elements.{filter_more}
use Rattle.std.specs.List.{list_all}
use Rattle.std.specs.Cmp.Derive.{both_true}
use Rattle.peg_name.specs.Name.{Rack}
use Rattle.peg_name.specs.declared.Row.{Row}
use Rattle.peg_event.specs.declared.Command.{Command}
use Rattle.peg_event.specs.declared.Command.TheVariants.{Promote, Demote}
use Rattle.peg_model.specs.Words.{sorted}
use Rattle.peg_model.specs.Controller.{demotions, promotions, is_demotion, is_worth, is_hotter}
use Rattle.peg_model.specs.Controller.{has_row, count_of}
use Rattle.peg_control.specs.Orders.{Orders, with_waiting}
use Rattle.peg_control.specs.Plans.{is_cold, commands_of}
use Rattle.peg_control.specs.Fits.{command_fits}
use Rattle.peg_control.proofs.Sending.{all_append}
use Rattle.peg_control.proofs.Kept.{length_filter_le, left_true, right_true}

-- ---- the first n

pub taken_twice :
    {X : Type 0} (n : ℕ) (xs ys : List X) → take n (take n xs ++ ys) ≡ take n (xs ++ ys)
taken_twice zero xs ys = refl
taken_twice (suc n) [] ys = refl
taken_twice (suc n) (x ∷ xs) ys = ap (λ l. x ∷ l) (taken_twice n xs ys)

pub none_more : (o : Orders) → length o.queue ≤ 64 → o ≡ record o { queue = take 64 (o.queue ++ []) }
none_more o few =
    ap (λ (q : List Command). record o { queue = q })
    (sym (ap (take 64) (append-nil o.queue) ∙ take_all 64 o.queue few))

pub one_more :
    (o now : Orders) (command : Command) → length o.queue < 64
    → now ≡ with_waiting o command
    → now ≡ record o { queue = take 64 (o.queue ++ command ∷ []) }
one_more o now command room is =
    let n = length-append o.queue (command ∷ []) in
    is
    ∙ ap (λ (q : List Command). record o { queue = q })
    (sym (take_all 64 (o.queue ++ command ∷ []) (omega (arith, n, room))))

pub no_more :
    (o : Orders) (command : Command) → length o.queue ≤ 64 → 64 ≤ length o.queue
    → o ≡ record o { queue = take 64 (o.queue ++ command ∷ []) }
no_more o command few full =
    ap (λ (q : List Command). record o { queue = q })
    (sym (take-append-le 64 o.queue (command ∷ []) full ∙ take_all 64 o.queue few))

pub few_taken : {X : Type 0} (n : ℕ) (xs : List X) → length (take n xs) ≤ n
few_taken n xs = let e = length-take n xs in omega (arith, e)

-- ---- promotions, row by row

-- the queue with promotions of those of the rows that pass
abbrev pub with_promotions : Orders → (Row → Bool) → List Row → Orders
with_promotions o test rows =
    record o { queue = take 64 (o.queue ++ map (λ row. Promote row.key) (filter test rows)) }

passed :
    (test : Row → Bool) (rows : List Row) (i : ℕ) (row : Row) → i < length rows
    → row ≡ get_or rows i row → test row ≡ true
    → filter test (take (i + 1) rows) ≡ filter test (take i rows) ++ row ∷ []
passed test rows i row within is passes =
    filter_more test rows i row within
    ∙ ap (λ (r : Row). filter test (take i rows) ++ cond (test r) (r ∷ []) []) (sym is)
    ∙ ap (λ b. filter test (take i rows) ++ cond b (row ∷ []) []) passes

left_out :
    (test : Row → Bool) (rows : List Row) (i : ℕ) (row : Row) → i < length rows
    → row ≡ get_or rows i row → test row ≡ false
    → filter test (take (i + 1) rows) ≡ filter test (take i rows)
left_out test rows i row within is fails =
    filter_more test rows i row within
    ∙ ap (λ (r : Row). filter test (take i rows) ++ cond (test r) (r ∷ []) []) (sym is)
    ∙ ap (λ b. filter test (take i rows) ++ cond b (row ∷ []) []) fails
    ∙ append-nil (filter test (take i rows))

pub promoted_more :
    (first o now : Orders) (test : Row → Bool) (rows : List Row) (i : ℕ) (row : Row)
    → i < length rows → row ≡ get_or rows i row → test row ≡ true
    → o ≡ with_promotions first test (take i rows)
    → now ≡ record o { queue = take 64 (o.queue ++ Promote row.key ∷ []) }
    → now ≡ with_promotions first test (take (i + 1) rows)
promoted_more first o now test rows i row within is passes so_far next =
    let promote : Row → Command = λ row. Promote row.key in
    let old = map promote (filter test (take i rows)) in
    next
    ∙ ap (λ (p : Orders). record p { queue = take 64 (p.queue ++ promote row ∷ []) }) so_far
    ∙ ap (λ (q : List Command). record first { queue = q })
    (taken_twice 64 (first.queue ++ old) (promote row ∷ [])
    ∙ ap (take 64)
    (append_assoc first.queue old (promote row ∷ [])
    ∙ ap (λ l. first.queue ++ l)
    (sym (map-append promote (filter test (take i rows)) (row ∷ []))
    ∙ ap (map promote) (sym (passed test rows i row within is passes)))))

pub promoted_same :
    (first o now : Orders) (test : Row → Bool) (rows : List Row) (i : ℕ) (row : Row)
    → i < length rows → row ≡ get_or rows i row → test row ≡ false
    → o ≡ with_promotions first test (take i rows) → now ≡ o
    → now ≡ with_promotions first test (take (i + 1) rows)
promoted_same first o now test rows i row within is fails so_far same =
    same
    ∙ so_far
    ∙ ap
    (λ (rows : List Row).
    record first { queue = take 64 (first.queue ++ map (λ row. Promote row.key) rows) })
    (sym (left_out test rows i row within is fails))

-- ---- how many of each

no_demotions :
    (n : ℕ) (rows : List Row)
    → filter is_demotion (take n (map (λ row. Promote row.key) rows)) ≡ []
no_demotions zero rows = refl
no_demotions (suc n) [] = refl
no_demotions (suc n) (row ∷ rows) = no_demotions n rows

counted_demotions :
    (n : ℕ) (keys : List (List ℕ)) (rows : List Row) → length keys ≤ n
    → length (filter is_demotion (take n (map Demote keys ++ map (λ row. Promote row.key) rows)))
    ≡ length keys
counted_demotions n [] rows few = ap length (no_demotions n rows)
counted_demotions zero (key ∷ keys) rows few = absurd (omega (arith, few))
counted_demotions (suc n) (key ∷ keys) rows few =
    ap suc (counted_demotions n keys rows (omega (arith, few)))

pub demotions_counted :
    (known : List (List ℕ)) (rows : List Row) (promote_at demote_below : ℕ) → length known ≤ 64
    → length (demotions known rows demote_below)
    ≡ length (filter is_demotion (commands_of known rows promote_at demote_below))
demotions_counted known rows promote_at demote_below few =
    let cold = filter (λ key. not (has_row key rows) || nat_lt (count_of key rows) demote_below)
    known in
    let le = length_filter_le (is_cold rows demote_below) known in
    length-map cold Demote
    ∙ sym
    (counted_demotions 64 cold (filter (is_worth promote_at known) (sorted is_hotter rows))
    (omega (arith, le, few)))

pub commands_counted :
    (known keys : List (List ℕ)) (rows : List Row) (promote_at demote_below n : ℕ)
    (first demoted all : Orders) → keys ≡ known
    → demoted ≡ record first { queue = demotions keys rows demote_below }
    → all ≡ record demoted { queue = take 64 (demoted.queue ++ promotions known rows promote_at) }
    → n ≡ length all.queue → n ≡ length (commands_of known rows promote_at demote_below)
commands_counted known keys rows promote_at demote_below n first demoted all same some more count =
    count
    ∙ ap (λ (o : Orders). length o.queue) more
    ∙ ap (λ (q : List Command). length (take 64 (q ++ promotions known rows promote_at)))
    (ap (λ (o : Orders). o.queue) some ∙ ap (λ keys. demotions keys rows demote_below) same)

-- ---- they name nothing that the rack hasn't

all_taken :
    {X : Type 0} (test : X → Bool) (n : ℕ) (xs : List X) → list_all test xs ≡ true
    → list_all test (take n xs) ≡ true
all_taken test zero xs h = refl
all_taken test (suc n) [] h = refl
all_taken test (suc n) (x ∷ xs) h =
    both_true (left_true (test x) (list_all test xs) h)
    (all_taken test n xs (right_true (test x) (list_all test xs) h))

demotions_fit :
    (rack : Rack) (keys : List (List ℕ))
    → list_all (command_fits rack) (map Demote keys) ≡ true
demotions_fit rack [] = refl
demotions_fit rack (key ∷ keys) = demotions_fit rack keys

promotions_fit :
    (rack : Rack) (rows : List Row)
    → list_all (command_fits rack) (map (λ row. Promote row.key) rows) ≡ true
promotions_fit rack [] = refl
promotions_fit rack (row ∷ rows) = promotions_fit rack rows

pub commands_fit :
    (rack : Rack) (known : List (List ℕ)) (rows : List Row) (promote_at demote_below : ℕ)
    → list_all (command_fits rack) (commands_of known rows promote_at demote_below) ≡ true
commands_fit rack known rows promote_at demote_below =
    all_taken (command_fits rack) 64
    (demotions known rows demote_below ++ promotions known rows promote_at)
    (all_append (command_fits rack) (demotions known rows demote_below)
    (promotions known rows promote_at)
    (demotions_fit rack
    (filter (λ key. not (has_row key rows) || nat_lt (count_of key rows) demote_below) known))
    (promotions_fit rack (filter (is_worth promote_at known) (sorted is_hotter rows))))
