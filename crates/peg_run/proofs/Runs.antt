-- A run with one event more.
use Rattle.std.proofs.Common.{◌≡◌, ◌+◌, ℕ, suc, List, [], ◌∷◌, ◌++◌, length, refl, sym, ap}
use Rattle.std.proofs.Common.{◌∙◌}
use Rattle.std.proofs.Common.{arith, append_assoc, codes, decimal, length-append}
use Rattle.std.proofs.lemmas.List.{append-nil}
use Rattle.peg_name.specs.Name.{Rack}
use Rattle.peg_event.specs.declared.Event.{Event}
use Rattle.peg_event.specs.declared.Line.{Line}
use Rattle.peg_model.specs.World.{World, start, step, run, history}
use Rattle.peg_model.specs.Order.{orders}
use Rattle.peg_model.specs.Schedule.{fed}
use Rattle.peg_model.specs.Trace.{line_text, lines_text, replay_text, tail_text}
use Rattle.peg_meaning.specs.ReplayWord.{Ran, stepped, end_text}
use Rattle.peg_run.specs.Front.{Lines, ran, text_of}
use Rattle.peg_run.specs.Forced.{reached}

pub run_length : (w : World) (place : ℕ) (events : List Event) → length (run w place events).1 ≡
    length events
unfolding run
run_length w place [] = refl
run_length w place (e ∷ events) =
    ap suc (run_length (step w place e).0 (place + 1) events)

pub run_world :
    (w : World) (place : ℕ) (events : List Event) (e : Event)
    → (run w place (events ++ e ∷ [])).0
    ≡ (step (run w place events).0 (place + length events) e).0
unfolding run
run_world w place [] e =
    let k : place ≡ place + 0 = omega arith in ap (λ n. (step w n e).0) k
run_world w place (d ∷ events) e =
    let k : place + 1 + length events ≡ place + suc (length events) = omega arith in
    run_world (step w place d).0 (place + 1) events e
    ∙ ap (λ n. (step (run (step w place d).0 (place + 1) events).0 n e).0) k

pub run_lines :
    (w : World) (place : ℕ) (events : List Event) (e : Event)
    → (run w place (events ++ e ∷ [])).1
    ≡ (run w place events).1 ++ (step (run w place events).0 (place + length events) e).1 ∷ []
unfolding run
run_lines w place [] e =
    let k : place ≡ place + 0 = omega arith in ap (λ n. (step w n e).1 ∷ []) k
run_lines w place (d ∷ events) e =
    let k : place + 1 + length events ≡ place + suc (length events) = omega arith in
    ap (λ ls. (step w place d).1 ∷ ls)
    (run_lines (step w place d).0 (place + 1) events e ∙ ap
    (λ n. (run (step w place d).0 (place + 1) events).1 ++
    (step (run (step w place d).0 (place + 1) events).0 n e).1 ∷ []) k)

pub lines_text_more :
    (place : ℕ) (lines : List Line) (line : Line)
    → lines_text place (lines ++ line ∷ [])
    ≡ lines_text place lines ++ fed (line_text (place + length lines) line)
lines_text_more place [] line =
    let k : place ≡ place + 0 = omega arith in
    append-nil (fed (line_text place line)) ∙ ap (λ n. fed (line_text n line)) k
lines_text_more place (l ∷ lines) line =
    let k : place + 1 + length lines ≡ place + suc (length lines) = omega arith in
    ap (λ xs. fed (line_text place l) ++ xs)
    (lines_text_more (place + 1) lines line ∙ ap
    (λ n. lines_text (place + 1) lines ++ fed (line_text n line)) k)
    ∙ sym (append_assoc (fed (line_text place l)) (lines_text (place + 1) lines)
    (fed (line_text (place + suc (length lines)) line)))

-- ---- the text of one line more

abbrev running : World → ℕ → Ran
running w n = record { world = w; events = n }

pub ran_more :
    (rack : Rack) (keys : List (List ℕ)) (events : List Event) (e : Event)
    → (ran rack keys (events ++ e ∷ [])).0
    ≡ (step (ran rack keys events).0 (length events + 2) e).0
ran_more rack keys events e =
    let k : 2 + length events ≡ length events + 2 = omega arith in
    run_world (start rack keys) 2 events e
    ∙ ap (λ n. (step (ran rack keys events).0 n e).0) k

pub length_more : {A : Type 0} (xs : List A) (x : A) → length (xs ++ x ∷ []) ≡ length xs + 1
length_more xs x = length-append xs (x ∷ [])

pub reached_more :
    (rack : Rack) (keys : List (List ℕ)) (events : List Event) (e : Event)
    → (stepped (reached rack keys events) e).0
    ≡ reached rack keys (events ++ e ∷ [])
reached_more rack keys events e =
    ap (λ w. running w (length events + 1)) (sym (ran_more rack keys events e))
    ∙ ap (λ n. running (ran rack keys (events ++ e ∷ [])).0 n) (sym (length_more events e))

-- the line that the event makes
abbrev pub line_after : Rack → List (List ℕ) → List Event → Event → Line
line_after rack keys events e = (stepped (reached rack keys events) e).1

pub text_more :
    (rack : Rack) (keys : List (List ℕ)) (events : List Event) (e : Event)
    → text_of (Lines rack keys (events ++ e ∷ []))
    ≡ text_of (Lines rack keys events)
    ++ fed (line_text (length events + 2) (line_after rack keys events e))
text_more rack keys events e =
    let k : 2 + length events ≡ length events + 2 = omega arith in
    let lines : (ran rack keys (events ++ e ∷ [])).1 ≡ (ran rack keys events).1 ++ line_after rack
    keys events e ∷ [] =
    run_lines (start rack keys) 2 events e
    ∙ ap (λ n. (ran rack keys events).1 ++ (step (ran rack keys events).0 n e).1 ∷ []) k in
    let n : 2 + length (ran rack keys events).1 ≡ length events + 2 =
    omega (arith, run_length (start rack keys) 2 events) in
    ap (λ xs. fed (codes "1 rack") ++ xs)
    (ap (λ ls. lines_text 2 ls) lines
    ∙ lines_text_more 2 (ran rack keys events).1 (line_after rack keys events e)
    ∙ ap (λ m. lines_text 2 (ran rack keys events).1 ++ fed
    (line_text m (line_after rack keys events e))) n)

-- ---- the whole text

pub whole_text :
    (rack : Rack) (keys : List (List ℕ)) (events : List Event)
    → replay_text rack keys events
    ≡ text_of (Lines rack keys events)
    ++ end_text (length events + 2) (history (ran rack keys events).0)
    (orders (ran rack keys events).0)
whole_text rack keys events =
    let tail = tail_text (history (ran rack keys events).0) (orders (ran rack keys events).0) in
    append_assoc (text_of (Lines rack keys events))
    (fed (decimal (length (ran rack keys events).1 + 2) ++ codes " end")) tail
    ∙ ap (λ n. text_of (Lines rack keys events) ++ (fed (decimal (n + 2) ++ codes " end") ++ tail))
    (run_length (start rack keys) 2 events)
