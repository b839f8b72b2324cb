-- The six lines of a summary, piece by piece, and the verdict on a world.
use Rattle.std.proofs.Common.{◌≡◌, ◌∙◌, ◌++◌, ℕ, suc, List, [], ◌∷◌, map, length, refl, sym, ap}
use Rattle.std.proofs.Common.{codes, append_assoc}
use Rattle.std.specs.Prelude.{◌↔◌, count_by, is_some}
use Rattle.peg_event.specs.declared.history.Op.{Op}
use Rattle.peg_event.specs.declared.history.Verdict.{Verdict}
use Rattle.peg_event.specs.declared.history.Verdict.TheVariants as verdict
use Rattle.peg_model.specs.World.{World, history}
use Rattle.peg_model.specs.Order.{orders, order_of, keys_in}
use Rattle.peg_model.specs.Schedule.{fed}
use Rattle.peg_model.specs.Judge.{verdict_of}
use Rattle.peg_meaning.specs.Workload.{summary_text, answered_count, check_text}
use Rattle.peg_history.specs.declared.KeyOrder.{KeyOrder}
use Rattle.peg_history.specs.Groups.{key_orders, order_in_book}
use Rattle.peg_history.specs.Walking.{order_pair, AreHistories}
use Rattle.peg_soak.specs.Soaked.{five_lines, six_lines, SaysYes}

-- ---- lines

fed_then : (word number rest : List ℕ)
    → word ++ (number ++ (10 ∷ rest)) ≡ fed (word ++ number) ++ rest
fed_then word number rest =
    sym (append_assoc word number (10 ∷ rest)) ∙ sym (append_assoc (word ++ number) (10 ∷ []) rest)

-- six lines from the left
left_six : (a b c d e x : List ℕ)
    → a ++ (b ++ (c ++ (d ++ (e ++ x)))) ≡ a ++ b ++ c ++ d ++ e ++ x
left_six a b c d e x =
    sym (append_assoc (a ++ b ++ c ++ d) e x
    ∙ append_assoc (a ++ b ++ c) d (e ++ x)
    ∙ append_assoc (a ++ b) c (d ++ (e ++ x))
    ∙ append_assoc a b (c ++ (d ++ (e ++ x))))

module _ (e p o a k : List ℕ) where
  abbrev keys_on : List ℕ
  keys_on = fed (codes "keys " ++ k) ++ fed (codes "check yes")

  abbrev answered_on : List ℕ
  answered_on = fed (codes "answered " ++ a) ++ keys_on

  abbrev operations_on : List ℕ
  operations_on = fed (codes "operations " ++ o) ++ answered_on

  abbrev packets_on : List ℕ
  packets_on = fed (codes "packets " ++ p) ++ operations_on

  pub six_are :
      codes "events " ++ (e ++ (10 ∷ (codes "packets " ++ (p ++ (10 ∷ (codes "operations " ++ (o
      ++ (10 ∷ (codes "answered " ++ (a ++ (10 ∷ (codes "keys " ++ (k
      ++ (10 ∷ fed (codes "check yes")))))))))))))))
      ≡ fed (codes "events " ++ e) ++ fed (codes "packets " ++ p) ++ fed (codes "operations " ++ o)
      ++ fed (codes "answered " ++ a) ++ fed (codes "keys " ++ k) ++ fed (codes "check yes")
  six_are =
      let five = fed_then (codes "keys ") k (fed (codes "check yes")) in
      let four = ap (λ t. codes "answered " ++ (a ++ (10 ∷ t))) five
      ∙ fed_then (codes "answered ") a keys_on in
      let three = ap (λ t. codes "operations " ++ (o ++ (10 ∷ t))) four
      ∙ fed_then (codes "operations ") o answered_on in
      let two = ap (λ t. codes "packets " ++ (p ++ (10 ∷ t))) three
      ∙ fed_then (codes "packets ") p operations_on in
      ap (λ t. codes "events " ++ (e ++ (10 ∷ t))) two ∙ fed_then (codes "events ") e packets_on
      ∙ left_six (fed (codes "events " ++ e)) (fed (codes "packets " ++ p))
      (fed (codes "operations " ++ o)) (fed (codes "answered " ++ a)) (fed (codes "keys " ++ k))
      (fed (codes "check yes"))

-- ---- the verdict

pairs_of :
    (ops : List Op) (tags : List ℕ) (keys : List (List ℕ))
    → map order_pair (map (order_in_book ops tags) keys)
    ≡ map (λ key. (key, order_of ops tags key)) keys
pairs_of ops tags [] = refl
pairs_of ops tags (key ∷ keys) =
    ap (λ os. (key, order_of ops tags key) ∷ os) (pairs_of ops tags keys)

pub orders_as :
    (w : World) (os : List KeyOrder) → os ≡ key_orders (history w) (map (λ o. o.tag) w.operations)
    → map order_pair os ≡ orders w
orders_as w os is =
    ap (map order_pair) is
    ∙ pairs_of (history w) (map (λ o. o.tag) w.operations) (keys_in (history w))

length_map : {X Y : Type 0} (f : X → Y) (xs : List X) → length (map f xs) ≡ length xs
length_map f [] = refl
length_map f (x ∷ xs) = ap suc (length_map f xs)

-- what was judged, and lent for that, is the world's own
module _ (w : World) (ops : List Op) (os lent : List KeyOrder) (v : Verdict)
    (same : ops ≡ history w) (lends : lent ≡ os) where
  pub yes_by :
      AreHistories (history w) os → ((v ≡ verdict.Yes) ↔ AreHistories ops lent) → v ≡ verdict.Yes
  yes_by histories exactly = exactly.1 (rw (same, lends) histories)

  module _ (events : ℕ) (is : os ≡ key_orders (history w) (map (λ o. o.tag) w.operations))
      (judged : v ≡ verdict_of ops (map order_pair lent)) (said : v ≡ verdict.Yes) where
    yes_is : verdict_of (history w) (orders w) ≡ verdict.Yes
    yes_is =
        sym (ap (verdict_of (history w)) (orders_as w os is))
        ∙ sym (ap (λ (xs : List KeyOrder). verdict_of (history w) (map order_pair xs)) lends)
        ∙ sym (ap (λ (o : List Op). verdict_of o (map order_pair lent)) same) ∙ sym judged ∙ said

    pub says_yes : SaysYes events w
    says_yes = ap (λ v. five_lines events w ++ fed (check_text v)) yes_is

    pub summary_is :
        (packets operations answered keys : ℕ) → packets ≡ length w.packets
        → operations ≡ length ops → answered ≡ count_by (λ op. is_some op.answered) ops
        → keys ≡ length os
        → six_lines events packets operations answered keys ≡ summary_text events w
    summary_is packets operations answered keys sent counted replied listed =
        let many : operations ≡ length w.operations =
        counted ∙ ap length same ∙ length_map (λ o. o.op) w.operations in
        let each : keys ≡ length (orders w) =
        listed ∙ sym (length_map order_pair os) ∙ ap length (orders_as w os is) in
        let some : answered ≡ answered_count w =
        replied ∙ ap (λ (o : List Op). count_by (λ op. is_some op.answered) o) same in
        rw (sent, many, some, each)
        (ap (λ v. five_lines events w ++ fed (check_text v)) (sym yes_is))
