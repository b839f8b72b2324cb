use Rattle.std.proofs.Common.{◌≡◌, ◌<◌, ◌==◌, ℕ, Bool, true, false, if◌then◌else◌, List, []}
use Rattle.std.proofs.Common.{replicate, None, refl, sym, ap, subst, ◌∙◌, arith}
use Rattle.std.proofs.lemmas.Bool.Decides.{nat_tests}
use Rattle.peg_name.specs.Name.{Rack}
use Rattle.peg_model.specs.Counts.{no_counts}
use Rattle.peg_model.specs.Rules.{Core}
use Rattle.peg_model.specs.Handover.{none_collected}
use Rattle.peg_model.specs.Switch.{Switch, new_switch}
use Rattle.peg_model.specs.Switch as book
use Rattle.peg_rules.specs.Started.{started, listed_at_start}
use Rattle.peg_switch.specs.Seen.{mode_seen}
use Rattle.peg_switch.specs.Kept.{may_hand_over}
use Rattle.peg_switch.specs.declared.Mode.{Mode}
use Rattle.peg_switch.specs.declared.Mode.TheVariants.{Active, Idle}
use Rattle.peg_switch.proofs.Switch.make.Goals as goal
use Rattle.peg_switch.proofs.Switch.make.Goals.{then-is_first, else-is_first}
use Rattle.peg_switch.proofs.Switch.make.Goals.{then-is_first-2, else-is_first-2}

-- how a switch starts, by its number
abbrev starts : Bool → Mode × ℕ
starts first = if first then (Active, 1) else (Idle, 0)

may : (rack : Rack) (first : Bool)
    → may_hand_over rack (mode_seen (starts first).0) (starts first).1 ≡ true
may rack true = refl
may rack false = refl

-- a new switch with this core
abbrev with_core : ℕ → Mode × ℕ → Core → Switch
with_core id mode core = record {
  rack = core.rack;
  id = id;
  mode = mode_seen mode.0;
  epoch = mode.1;
  stamps = core.stamps;
  entries = core.entries;
  counts = no_counts;
  last = 0;
  kept = None;
  collected = none_collected;
}

-- a new switch of the book, by whether it is the first
abbrev new_by : Rack → List (List ℕ) → ℕ → Bool → Switch
new_by rack keys id first = record {
  rack = rack;
  id = id;
  mode = if first then book.Active else book.Idle;
  epoch = if first then 1 else 0;
  stamps = record { next = rack.first; rows = replicate rack.clients (0, 0) };
  entries = if first then listed_at_start rack keys else [];
  counts = no_counts;
  last = 0;
  kept = None;
  collected = none_collected;
}

is_new :
    (rack : Rack) (keys : List (List ℕ)) (id : ℕ) (first : Bool) → (id == 0) ≡ first
    → with_core id (starts first) (started rack (if first then keys else []))
    ≡ new_switch rack keys id
is_new rack keys id true is = ap (new_by rack keys id) (sym is)
is_new rack keys id false is = ap (new_by rack keys id) (sym is)

zero_is : (n : ℕ) → n ≡ 0 → (n == 0) ≡ true
zero_is n h = grind (arith, nat_tests)

other_is : (n : ℕ) → ¬ (n ≡ 0) → (n == 0) ≡ false
other_is n h = grind (arith, nat_tests)

mode_is : (c : goal.In_ok-make-4) → c.if-is_first.mode ≡ starts (c.args.id == 0)
mode_is c =
    elim c.if-is_first.branch [
      | then-is_first w ↦
          w.mode-is
          ∙ ap starts (sym (zero_is c.args.id (sym c.id.view_is ∙ w.if-is_first.true)))
      | else-is_first w ↦
          w.mode-is
          ∙ ap starts
          (sym (other_is c.args.id (λ zero. w.if-is_first.false (c.id.view_is ∙ zero))))
    ]

keys_are :
    (c : goal.In_ok-make-4)
    → c.if-is_first-2.make.now ≡ (if c.args.id == 0 then c.args.keys.now else [])
keys_are c =
    let listed = λ (b : Bool). if b then c.args.keys.now else [] in
    elim c.if-is_first-2.branch [
      | then-is_first-2 w ↦
          ap (λ keys. keys.now) w.make-is
          ∙ ap listed (sym (zero_is c.args.id (sym c.id.view_is ∙ w.if-is_first-2.true)))
      | else-is_first-2 w ↦
          ap (λ keys. keys.now) w.make-is
          ∙ ap listed
          (sym (other_is c.args.id (λ zero. w.if-is_first-2.false (c.id.view_is ∙ zero))))
    ]

pub invariant_of-result : goal.invariant_of-result
invariant_of-result c =
    let core : c.in_ok-make.field-0.rack ≡ c.args.config.now =
    ap (λ (k : Core). k.rack) c.in_ok-make.ensures in (
      subst (λ (r : Rack). c.args.id < r.switches) (sym core) c.requires.id,
      omega (
        arith,
        ap (λ k. k.most) c.in_ok-make-2.ensures,
        c.hot.ensures.hot,
        ap (λ (r : Rack). r.hot) core,
      ),
      refl,
      ap (λ (m : Mode × ℕ). may_hand_over c.in_ok-make.field-0.rack (mode_seen m.0) m.1)
          (mode_is c)
          ∙ may c.in_ok-make.field-0.rack (c.args.id == 0),
      ap (λ p. p.rack) c.in_ok-make-3.ensures ∙ sym core,
      ap (λ p. p.rack) c.in_ok-make-4.ensures ∙ sym core,
    )

pub returns : goal.returns
returns c =
    let rack = c.args.config.now in
    let keys = c.args.keys.now in
    let core = c.in_ok-make.ensures ∙ ap (started rack) (keys_are c) in
    (λ i. record (with_core c.args.id (mode_is c i) (core i)) {
      counts = (c.in_ok-make-2.ensures i).counts;
      collected = (c.in_ok-make-4.ensures i).collected;
    })
    ∙ is_new rack keys c.args.id (c.args.id == 0) refl
