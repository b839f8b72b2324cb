-- What every controller keeps makes its packets be in range, and is kept by each step.
use Rattle.std.proofs.Common.{◌≡◌, ℕ, suc, ◌+◌, ◌-◌, ◌≤◌, ◌^◌, Bool, true, false, List, []}
use Rattle.std.specs.List.{list_all}
use Rattle.peg_control.specs.Orders.{Orders, with_first, with_next, with_orders, orders_of}
use Rattle.std.proofs.Common.{◌&&◌, filter, not, cond, if◌then◌else◌}
use Rattle.std.proofs.Common.{◌∷◌, length, Option, Some, None, refl, ap, sym, ◌∙◌, subst, arith}
use Rattle.std.specs.Str.{bytes_eq}
use Rattle.peg_name.specs.Name.{InLimits}
use Rattle.peg_event.specs.declared.Command.{Command}
use Rattle.peg_model.specs.Packet.{in_range, Announce}
use Rattle.peg_model.specs.Controller.{Controller, command_packet}
use Rattle.peg_control.specs.Fits.{IsController, is_keyed, pending_fits, most_epoch, command_fits}
use Rattle.peg_control.proofs.Sending.{command_in_range, announcement_in_range}

-- ---- packets

pub sent_in_range :
    (c : Controller) (command : Command) → IsController c → InLimits c.rack
    → c.pending ≡ Some command → is_keyed command ≡ true
    → c.last + length c.queue ≤ 2 ^ 64 - 2
    → in_range c.rack.format (command_packet c command).1 ≡ true
sent_in_range c command is limits pending keyed numbers =
    let fits : command_fits c.rack command ≡ true =
    ap (pending_fits c.rack) (sym pending) ∙ is.pending in
    let epoch : c.epoch ≤ c.last = subst (λ p. c.epoch ≤ most_epoch p c.last) pending is.epoch in
    let some : 1 ≤ c.epoch = is.some in
    command_in_range c.rack.format c.rack c.last c.epoch command limits refl fits keyed
    (omega (arith, epoch, some)) (omega (arith, numbers)) some (omega (arith, epoch, numbers))

epoch_below : (o : Option Command) (last epoch : ℕ) → epoch ≤ most_epoch o last → epoch ≤ last + 1
epoch_below None last epoch le = le
epoch_below (Some command) last epoch le = omega (arith, le)

pub told_in_range :
    (c : Controller) → IsController c → InLimits c.rack → c.last ≤ 2 ^ 64 - 2
    → in_range c.rack.format (Announce c.epoch c.switch) ≡ true
told_in_range c is limits numbers =
    let epoch = epoch_below c.pending c.last c.epoch is.epoch in
    announcement_in_range c.rack.format c.rack c.epoch c.switch limits is.switch is.some
    (omega (arith, epoch, numbers))

-- ---- what is known

kept_by : (b : Bool) (n m : ℕ) → n ≤ m → (if b then suc n else n) ≤ suc m
kept_by true n m le = omega (arith, le)
kept_by false n m le = omega (arith, le)

length_kept :
    {X : Type 0} (b : Bool) (x : X) (xs : List X)
    → length (cond b (x ∷ xs) xs) ≡ (if b then suc (length xs) else length xs)
length_kept true x xs = refl
length_kept false x xs = refl

pub length_filter_le :
    {X : Type 0} (test : X → Bool) (xs : List X) → length (filter test xs) ≤ length xs
length_filter_le test [] = omega arith
length_filter_le test (x ∷ xs) =
    subst (λ n. n ≤ suc (length xs)) (sym (length_kept (test x) x (filter test xs)))
    (kept_by (test x) (length (filter test xs)) (length xs) (length_filter_le test xs))

pub forgotten_few :
    (key : List ℕ) (known : List (List ℕ)) (most : ℕ) → length known ≤ most
    → length (filter (λ other. not (bytes_eq other key)) known) ≤ most
forgotten_few key known most few =
    let le = length_filter_le (λ (other : List ℕ). not (bytes_eq other key)) known in
    omega (arith, le, few)

-- ---- tests of pairs

pub left_true : (a b : Bool) → (a && b) ≡ true → a ≡ true
left_true true b h = refl
left_true false b h = cc

pub right_true : (a b : Bool) → (a && b) ≡ true → b ≡ true
right_true true b h = h
right_true false b h = cc

-- ---- the next command

first_kept :
    (c : Controller) (commands : List Command) → IsController c
    → list_all (command_fits c.rack) commands ≡ true → length commands ≤ 64
    → IsController (with_orders c (with_first (record (orders_of c) { queue = commands }) commands))
first_kept c [] is fits few = record {
  switch = is.switch;
  known = is.known;
  pending = refl;
  queue = refl;
  waiting = omega arith;
  some = is.some;
  epoch = epoch_below c.pending c.last c.epoch is.epoch;
}
first_kept c (command ∷ queue) is fits few =
    record {
      switch = is.switch;
      known = is.known;
      pending = left_true (command_fits c.rack command) (list_all (command_fits c.rack) queue) fits;
      queue = right_true (command_fits c.rack command) (list_all (command_fits c.rack) queue) fits;
      waiting = omega (arith, few);
      some = is.some;
      epoch = epoch_below c.pending c.last c.epoch is.epoch;
    }

pub planned_kept :
    (c : Controller) (o : Orders) (commands : List Command) → IsController c
    → o ≡ with_next (record (orders_of c) { queue = commands })
    → list_all (command_fits c.rack) commands ≡ true → length commands ≤ 64
    → IsController (with_orders c o)
planned_kept c o commands is next fits few =
    subst (λ (p : Orders). IsController (with_orders c p)) (sym next)
    (first_kept c commands is fits few)
