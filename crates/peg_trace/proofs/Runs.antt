-- Over a whole run each operation stands in the lines so far.
use Rattle.std.proofs.Common.{◌≡◌, ◌+◌, ℕ, List, [], ◌∷◌, ◌++◌, length, map, flat_map}
use Rattle.std.proofs.Common.{refl, sym, ap, ◌∙◌, subst, arith, append_assoc, append-nil}
use Rattle.std.proofs.Common.{length-append}
use Rattle.std.proofs.lemmas.Grind.{flat_map-append}
use Rattle.std.specs.Prelude.{None, IfSome, codes}
use Rattle.std.specs.List.{AllByRecursion}
use Rattle.peg_name.specs.Name.{Rack}
use Rattle.peg_event.specs.declared.Event.{Event}
use Rattle.peg_event.specs.declared.Line.{Line}
use Rattle.peg_event.specs.declared.history.Op.{Op}
use Rattle.peg_event.specs.declared.Said.{Said}
use Rattle.peg_model.specs.World.{World, Operation, start, step, run, history}
use Rattle.peg_model.specs.World.{stamped_as, answered_as}
use Rattle.peg_model.specs.Order.{keys_in, orders, order_of}
use Rattle.peg_model.specs.Schedule.{fed}
use Rattle.peg_model.specs.Trace.{line_text, lines_text, trace_text, tail_text, replay_text}
use Rattle.peg_model.specs.Headline.{LineBegins, StandsInTrace, IsLinearizable, OrdersAreHistories}
use Rattle.peg_trace.specs.Lines.{event_lines, end_line, trace_lines}
use Rattle.peg_trace.specs.Answers.{AreTold}
use Rattle.peg_trace.proofs.Lists.{all_append, all_images, map_unchanged}
use Rattle.peg_trace.proofs.Operations.{Stands, Says, issued_front, answer_front, begins_last}
use Rattle.peg_trace.proofs.Operations.{all_still, all_changed, keeps_stamped, keeps_answered}
use Rattle.peg_trace.proofs.Told.{answers_told}
use Rattle.peg_trace.proofs.Events.{Effect, Same, Begins, Stamps, Answers, happened}

-- ---- one line more

begun_stands :
    (lines : List (List ℕ)) (place : ℕ) (op : Op) → op.issued ≡ place → op.answered ≡ None
    → LineBegins lines place (issued_front op) → StandsInTrace lines op
begun_stands lines place op at none here = (
  subst (λ i. LineBegins lines i (issued_front op)) (sym at) here,
  subst (λ o. IfSome o (λ i. LineBegins lines i (answer_front op.client))) (sym none) tt,
)

-- where what the line says stands, the operations still stand
stands_next :
    (lines : List (List ℕ)) (place : ℕ) (s : Said) (os after : List Operation)
    → ((front : List ℕ) → Says front s → LineBegins lines place front) → Stands lines os
    → Effect place os s after → Stands lines after
stands_next lines place s os after here all (Same is) = subst (Stands lines) (sym is) all
stands_next lines place s os after here all (Begins op seq at none says is) =
    subst (Stands lines) (sym is)
    (all_append (λ o. StandsInTrace lines o.op) os (record { op = op; seq = seq; tag = 0 } ∷ []) all
    (begun_stands lines place op at none (here (issued_front op) says), tt))
stands_next lines place s os after here all (Stamps client seq version is) =
    subst (Stands lines) (sym is)
    (all_changed lines client seq (stamped_as version) os (keeps_stamped lines client version) all)
stands_next lines place s os after here all (Answers client seq version fences given says is) =
    subst (Stands lines) (sym is)
    (all_changed lines client seq (answered_as fences place version given) os
    (keeps_answered lines client fences place version given (here (answer_front client) says)) all)

-- ---- a run

stands_after :
    (w : World) (place : ℕ) (e : Event) (lines : List (List ℕ)) → length lines + 1 ≡ place
    → Stands lines w.operations
    → Stands (lines ++ line_text place (step w place e).1 ∷ []) (step w place e).0.operations
stands_after w place e lines at all =
    let now = step w place e in
    let line = line_text place now.1 in
    stands_next (lines ++ line ∷ []) place now.1.said w.operations now.0.operations
    (λ front says. begins_last lines place now.1 front at says)
    (all_still lines (line ∷ []) w.operations all)
    (happened (record w { place = place }) e)

stands_run :
    (w : World) (place : ℕ) (events : List Event) (lines : List (List ℕ))
    → length lines + 1 ≡ place → Stands lines w.operations
    → Stands (lines ++ event_lines place (run w place events).1) (run w place events).0.operations
unfolding run
stands_run w place [] lines at all =
    subst (λ l. Stands l w.operations) (sym (append-nil lines)) all
stands_run w place (e ∷ events) lines at all =
    let now = step w place e in
    let line = line_text place now.1 in
    let rest = run now.0 (place + 1) events in
    let longer : length (lines ++ line ∷ []) + 1 ≡ place + 1 =
    let l = length-append lines (line ∷ []) in omega (arith, l, at) in
    subst (λ l. Stands l rest.0.operations)
    (append_assoc lines (line ∷ []) (event_lines (place + 1) rest.1))
    (stands_run now.0 (place + 1) events (lines ++ line ∷ []) longer
    (stands_after w place e lines at all))

pub stands_in_all :
    (rack : Rack) (keys : List (List ℕ)) (events : List Event)
    → AllByRecursion (StandsInTrace (trace_lines (run (start rack keys) 2 events).1))
    (history (run (start rack keys) 2 events).0)
stands_in_all rack keys events =
    let done = run (start rack keys) 2 events in
    all_images (StandsInTrace (trace_lines done.1)) (λ (o : Operation). o.op) done.0.operations
    (all_still (codes "1 rack" ∷ event_lines 2 done.1) (end_line (length done.1 + 2) ∷ [])
    done.0.operations
    (stands_run (start rack keys) 2 events (codes "1 rack" ∷ []) refl tt))

-- ---- the text

events_are :
    (place : ℕ) (lines : List Line)
    → flat_map fed (event_lines place lines) ≡ lines_text place lines
events_are place [] = refl
events_are place (line ∷ lines) =
    ap (λ t. fed (line_text place line) ++ t) (events_are (place + 1) lines)

pub lines_are : (lines : List Line) → flat_map fed (trace_lines lines) ≡ trace_text lines
lines_are lines =
    let end = end_line (length lines + 2) in
    ap (λ t. fed (codes "1 rack") ++ t)
    (flat_map-append fed (event_lines 2 lines) (end ∷ [])
    ∙ ap (λ t. t ++ (fed end ++ [])) (events_are 2 lines)
    ∙ ap (λ t. lines_text 2 lines ++ t) (append-nil (fed end)))

unfoldable pub linearizable :
    (rack : Rack) (keys : List (List ℕ)) (events : List Event)
    → OrdersAreHistories (run (start rack keys) 2 events).0
    → IsLinearizable (replay_text rack keys events)
linearizable rack keys events histories =
    let done = run (start rack keys) 2 events in
    let ops = history done.0 in
    let tags = map (λ (o : Operation). o.tag) done.0.operations in
    record {
      trace = trace_lines done.1;
      ops = ops;
      key_orders = orders done.0;
      text = ap (λ t. t ++ tail_text ops (orders done.0)) (sym (lines_are done.1));
      in_trace = stands_in_all rack keys events;
      keys =
          map_unchanged (λ key. (key, order_of ops tags key)) (λ o. o.0) (keys_in ops)
          (λ key. refl);
      histories = histories;
    }

-- and its lines answer what they say
pub told :
    (rack : Rack) (keys : List (List ℕ)) (events : List Event)
    → OrdersAreHistories (run (start rack keys) 2 events).0
    → (plain : IsLinearizable (replay_text rack keys events)) × AreTold plain.trace plain.ops
unfolding linearizable
told rack keys events histories = (
  linearizable rack keys events histories,
  ((run (start rack keys) 2 events).1, refl, answers_told rack keys events),
)
