-- Orders that are given as a key and its places.
use Rattle.std.proofs.Common.{◌≡◌, ◌∙◌, ℕ, List, [], ◌∷◌, map, refl, sym, ap}
use Rattle.std.specs.Prelude.{◌↔◌}
use Rattle.std.specs.List.{AllByRecursion}
use Rattle.peg_event.specs.declared.history.Op.{Op}
use Rattle.peg_event.specs.declared.history.Verdict.TheVariants as verdict
use Rattle.peg_model.specs.Judge.{verdict_of}
use Rattle.peg_model.specs.Register.{IsRegisterHistory}
use Rattle.peg_history.specs.declared.KeyOrder.{KeyOrder}
use Rattle.peg_history.specs.Walking.{order_pair, AreHistories}
use Rattle.peg_history.proofs.Law.{histories_from_yes, yes_from_histories}

abbrev order_of : List ℕ × List ℕ → KeyOrder
order_of p = record { key = p.0; ops = p.1 }

paired : (ps : List (List ℕ × List ℕ)) → map order_pair (map order_of ps) ≡ ps
paired [] = refl
paired (p ∷ ps) = ap (λ (rest : List (List ℕ × List ℕ)). p ∷ rest) (paired ps)

module _ (ops : List Op) where
  of_orders : (ps : List (List ℕ × List ℕ)) → AreHistories ops (map order_of ps)
      → AllByRecursion {X = List ℕ × List ℕ} (λ o. IsRegisterHistory ops o.0 o.1) ps
  of_orders [] all = tt
  of_orders (p ∷ ps) all = (all.0, of_orders ps all.1)

  to_orders : (ps : List (List ℕ × List ℕ))
      → AllByRecursion {X = List ℕ × List ℕ} (λ o. IsRegisterHistory ops o.0 o.1) ps
      → AreHistories ops (map order_of ps)
  to_orders [] all = tt
  to_orders (p ∷ ps) all = (all.0, to_orders ps all.1)

  pub yes_of_histories : (ps : List (List ℕ × List ℕ))
      → (verdict_of ops ps ≡ verdict.Yes)
      ↔ AllByRecursion {X = List ℕ × List ℕ} (λ o. IsRegisterHistory ops o.0 o.1) ps
  yes_of_histories ps = (
    λ yes. of_orders ps
        (histories_from_yes ops (map order_of ps) (ap (verdict_of ops) (paired ps) ∙ yes)),
    λ all. ap (verdict_of ops) (sym (paired ps))
        ∙ yes_from_histories ops (map order_of ps) (to_orders ps all),
  )
