-- Each event that is drawn is in the rack of made workloads.
use Rattle.std.proofs.Common.{◌≡◌, ◌<◌, ◌^◌, ◌%◌, ◌==◌, ℕ, zero, suc, Bool, true, false}
use Rattle.std.proofs.Common.{List, [], ◌∷◌, refl, arith}
use Rattle.std.specs.Prelude.{slice_index_or}
use Rattle.std.specs.List.{AllByRecursion}
use Rattle.std.proofs.lemmas.Fmt.{length-decimal-le}
use Rattle.peg_event.specs.declared.Event.{Event}
use Rattle.peg_event.specs.declared.Event.TheVariants as event
use Rattle.peg_model.specs.Schedule.{EventInRack}
use Rattle.peg_meaning.specs.Workload.{soak_rack, table, drawn, delivers, plainly, writes, junks}

all_at :
    {X : Type 0} (P : X → Type 0) (xs : List X) (i : ℕ) (d : X) → AllByRecursion P xs → P d
    → P (slice_index_or xs i d)
all_at P [] i d all fits = fits
all_at P (x ∷ xs) zero d all fits = all.0
all_at P (x ∷ xs) (suc i) d all fits = all_at P xs i d all.1 fits

module _ {G : Type 0} (draw : G → ℕ × G) (number sent : ℕ) (small : number < 2 ^ 64) where
  abbrev IsFit : (G → Event × G) → Type 0
  IsFit x = (g : G) → EventInRack soak_rack (x g).0

  client : (g : G) → (draw g).0 % 8 < 8
  client g = omega arith

  write : IsFit (writes draw number)
  write g =
      let few = length-decimal-le 20 number (omega arith) (omega (arith, small)) small in
      (client g, omega (arith, few))

  junk : IsFit (junks draw)
  junk g = omega arith

  delivery : IsFit (delivers draw sent)
  delivery g = by (sent == 0) refl
    where
      by : (b : Bool) → (sent == 0) ≡ b → EventInRack soak_rack (delivers draw sent g).0
      by true e = rw e tt
      by false e = rw e tt

  -- row by row
  fit_rows : AllByRecursion IsFit (table draw number sent)
  fit_rows = (
    client,
    (
      client,
      (
        client,
        (
          client,
          (
            write,
            (
              write,
              (
                write,
                (
                  client,
                  (
                    client,
                    (
                      junk,
                      (
                        (λ
                            g. tt),
                        (
                          (λ g. tt),
                          (
                            (λ g. tt),
                            (
                              (λ g. tt),
                              (
                                (λ g. tt),
                                (
                                  (λ g. tt),
                                  (
                                    (λ g. tt),
                                    (
                                      (λ g.
                                          tt),
                                      (
                                        delivery,
                                        (
                                          delivery,
                                          (
                                            delivery,
                                            (
                                              delivery,
                                              (
                                                delivery,
                                                (
                                                  delivery,
                                                  (
                                                    delivery,
                                                    (
                                                      delivery,
                                                      (
                                                        delivery,
                                                        (
                                                          delivery,
                                                          (
                                                            delivery,
                                                            (
                                                              delivery,
                                                              (
                                                                delivery,
                                                                (
                                                                  delivery,
                                                                  tt,
                                                                ),
                                                              ),
                                                            ),
                                                          ),
                                                        ),
                                                      ),
                                                    ),
                                                  ),
                                                ),
                                              ),
                                            ),
                                          ),
                                        ),
                                      ),
                                    ),
                                  ),
                                ),
                              ),
                            ),
                          ),
                        ),
                      ),
                    ),
                  ),
                ),
              ),
            ),
          ),
        ),
      ),
    ),
  )

  pub in_rack : (g : G) → EventInRack soak_rack (drawn draw number sent g).0
  unfolding drawn
  in_rack g =
      all_at IsFit (table draw number sent) ((draw g).0 % 32) (plainly draw event.Retry) fit_rows
      (λ h. tt) (draw g).1
