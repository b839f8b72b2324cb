-- What is still to be made of a workload, and where its run goes past a limit.
use Rattle.std.proofs.Common.{◌≡◌, ◌≤◌, ◌<◌, ◌+◌, ◌^◌, ◌∙◌, ◌||◌, ℕ, suc, Bool, true, false, ap}
use Rattle.std.proofs.Common.{sym, []}
use Rattle.std.proofs.Common.{length, refl, subst, arith, nat_lt, nat_le, ◌⊎◌, inl, inr}
use Rattle.std.proofs.Math.Nat.{eq-or-lt_of_le}
use Rattle.std.proofs.lemmas.Bool.Decides.{nat_tests}
use Rattle.rand_pcg.specs.Lcg.{Lcg}
use Rattle.rand_pcg.specs.Pcg.{pcg64}
use Rattle.peg_name.specs.Name.{Rack}
use Rattle.peg_event.specs.declared.Event.{Event}
use Rattle.peg_model.specs.World.{World, step}
use Rattle.peg_model.specs.Schedule.{EventInRack}
use Rattle.peg_meaning.specs.Workload.{drawn, made, soak_world, soak_rack, soak_generator}
use Rattle.peg_world.specs.Running.{Running, is_past, stepped, started}
use Rattle.peg_soak.specs.Soaked.{IsPast}
use Rattle.peg_soak.proofs.Drawn.{in_rack}

-- so many events were made, and those behind them come to the rest of the run; so far there were
-- never too many packets
pub record IsPlayed (start done : ℕ) (r : Running) (g : Lcg) : Type 0 where
  pub ahead : (more : ℕ) → made pcg64 more (done + 1) r.world g ≡ soak_world (done + more) start
  pub on : r.is_over ≡ false
  pub count : r.events ≡ done
  pub place : r.world.place ≡ done + 1
  pub rack : r.world.rack ≡ soak_rack
  pub within : (n : ℕ) → n ≤ done → length (soak_world n start).packets ≤ 200000

-- nothing was sent before the first event
none_at :
    (start n : ℕ) → n ≡ 0 → length (soak_world n start).packets ≤ 200000
unfolding made
none_at start n is = rw is (omega arith)

pub played_first :
    (start : ℕ) (rack : Rack) (r : Running) (g : Lcg) → rack ≡ soak_rack → r ≡ started rack []
    → g ≡ soak_generator start → IsPlayed start 0 r g
played_first start rack r g of is from =
    let at : r ≡ started soak_rack [] = is ∙ ap (λ k. started k []) of in
    rw (at, from) (record {
      ahead = λ more. ap (λ n. soak_world n start) (let same : more ≡ 0 + more = omega arith in same);
      on = refl;
      count = refl;
      place = refl;
      rack = refl;
      within = λ n few. none_at start n (omega arith);
    })

-- all were made
pub played_all :
    (start done events : ℕ) (r : Running) (g : Lcg) → IsPlayed start done r g → done ≤ events
    → events ≤ done → r.world ≡ soak_world events start
unfolding made
played_all start done events r g is few all =
    is.ahead 0
    ∙ ap (λ n. soak_world n start) (let same : done + 0 ≡ events = omega arith in same)

-- the next event is in the rack
pub next_in_rack :
    (r : Running) (number sent : ℕ) (g : Lcg) (e : Event) → r.world.rack ≡ soak_rack
    → number < 2 ^ 64 → e ≡ (drawn pcg64 number sent g).0 → EventInRack r.world.rack e
next_in_rack r number sent g e rack small is =
    subst (λ k. EventInRack k e) (sym rack)
    (subst (EventInRack soak_rack) (sym is) (in_rack pcg64 number sent small g))

last_false : (a b c : Bool) → (a || (b || c)) ≡ false → c ≡ false
last_false false false c none = none
last_false false true c none = absurd (cc)
last_false true b c none = absurd (cc)

module _ (start done sent : ℕ) (r : Running) (g : Lcg) (e : Event) (h : Lcg)
    (is : IsPlayed start done r g) (many : sent ≡ length r.world.packets)
    (drew : e ≡ (drawn pcg64 (done + 1) sent g).0) (left : h ≡ (drawn pcg64 (done + 1) sent g).1) where
  one_more : (more : ℕ) → made pcg64 more (done + 1 + 1) (step r.world (done + 1 + 1) e).0 h
      ≡ soak_world (done + suc more) start
  unfolding made
  one_more more = rw (drew, left, many) (is.ahead (suc more))

  -- the world after one event more
  now_is : (step r.world (done + 1 + 1) e).0 ≡ soak_world (done + 1) start
  unfolding made
  now_is = one_more 0

  within_more : is_past r (done + 1 + 1) e ≡ false
      → (n : ℕ) → n ≤ done + 1 → length (soak_world n start).packets ≤ 200000
  within_more kept n few = by (eq-or-lt_of_le few)
    where
      by : (n ≡ done + 1) ⊎ (n < done + 1) → length (soak_world n start).packets ≤ 200000
      by (inl last) =
          let low = last_false r.is_over (nat_le 1000000 r.events) _ kept in
          rw last (subst (λ (w : World). length w.packets ≤ 200000) now_is
          (grind (arith, nat_tests, low)))
      by (inr before) = is.within n (omega arith)

  -- one event more
  pub played_on : (now : Running) → now ≡ stepped r (done + 1 + 1) e → is_past r (done + 1 + 1) e ≡ false
      → now.world.place ≡ done + 1 + 1 → now.world.rack ≡ soak_rack → IsPlayed start (done + 1) now h
  played_on now at kept place rack = record {
    ahead = λ more. ap (λ (n : Running). made pcg64 more (done + 1 + 1) n.world h) at
        ∙ one_more more
        ∙ ap (λ n. soak_world n start)
        (let same : done + suc more ≡ done + 1 + more = omega arith in same);
    on = ap (λ (n : Running). n.is_over) at;
    count = ap (λ (n : Running). n.events) at ∙ ap (λ n. n + 1) is.count;
    place = place;
    rack = rack;
    within = within_more kept;
  }

  -- where that is past a limit it has too many packets
  pub past_at : (events : ℕ) → done < events → events ≤ 20000 → is_past r (done + 1 + 1) e ≡ true
      → IsPast events start (done + 1)
  past_at events more few past =
      let now = length (step r.world (done + 1 + 1) e).0.packets in
      let low : nat_le 1000000 r.events ≡ false = grind (arith, nat_tests, is.count, few) in
      let high : nat_lt 200000 now ≡ true =
      ap (λ b. b || nat_lt 200000 now) (sym low)
      ∙ ap (λ b. b || (nat_le 1000000 r.events || nat_lt 200000 now)) (sym is.on) ∙ past in
      record {
        among = omega arith;
        past = subst (λ (w : World). 200000 < length w.packets) now_is (grind (arith, nat_tests, high));
        first = λ n before. is.within n (omega arith);
      }
