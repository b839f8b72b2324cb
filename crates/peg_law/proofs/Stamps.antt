-- The stamps of a switch, in both machines.
use Rattle.std.proofs.Common.{◌≡◌, ◌<◌, ◌≤◌, ◌+◌, ◌==◌, ◌&&◌, ◌||◌, ℕ, Bool, true, false}
use Rattle.std.proofs.Common.{cond, refl, sym, ap, ◌∙◌, subst, nat_lt}
use Rattle.std.proofs.Common.{arith, eqb-true}
use Rattle.std.proofs.lemmas.Bool.{eqb-false}
use Rattle.std.proofs.lemmas.Bool.Decides.{nat_tests}
use Rattle.std.proofs.lemmas.List.{length-set}
use Rattle.std.specs.Prelude.{slice_set}
use Rattle.peg_name.specs.Name.{Rack}
use Rattle.peg_event.specs.declared.answers.Stamp.{Stamp}
use Rattle.peg_event.specs.declared.answers.Stamp.TheVariants as stamp
use Rattle.peg_model.specs.Words.{last_number}
use Rattle.peg_model.specs.Rules.{Stamps, Directory, row_of, stamp_over}
use Rattle.peg_law.specs.Mirrors.{CoreFits, row_told}
use Rattle.peg_law.proofs.Nodes.{at_one_off, at_one_here, table_changed}
use Rattle.peg_law.proofs.ClientSteps.{top_is}
use Rattle.peg_protocol.specs.Core as core
use Rattle.peg_protocol.specs.Core.{Row, at_one}

-- what both machines make of a request's number
pub data Stamped (rack : Rack) (entries : Directory) (last : ℕ) (c : core.Core) (client seq : ℕ)
    (s : core.Stamp) (b : Stamp × Stamps) : Type 0 where
  IsNew :
      s ≡ core.New c.next → b.0 ≡ stamp.New c.next
      → CoreFits rack b.1 entries last
      (record c {
        next = c.next + 1;
        rows = at_one c.rows client (record { seq = seq; version = c.next });
      })
      → Stamped rack entries last c client seq s b
  IsSame :
      (version : ℕ) → s ≡ core.Same version → b.0 ≡ stamp.Same version
      → (c.rows client).seq ≡ seq → (c.rows client).version ≡ version → 1 ≤ version
      → Stamped rack entries last c client seq s b
  IsStale : (row : ℕ) → s ≡ core.Stale → b.0 ≡ stamp.Stale row →
      Stamped rack entries last c client seq s b
  IsExhausted : s ≡ core.Exhausted → b.0 ≡ stamp.Exhausted →
      Stamped rack entries last c client seq s b

module _ (rack : Rack) (stamps : Stamps) (entries : Directory) (last : ℕ) (c : core.Core)
    (f : CoreFits rack stamps entries last c) (client : ℕ) (within : client < rack.clients) where
  -- a client's row is set in both
  pub row_set :
      (seq version next : ℕ) → next ≤ last_number
      → CoreFits rack (record { next = next; rows = slice_set stamps.rows client (seq, version) })
      entries last
      (record c
      { next = next; rows = at_one c.rows client (record { seq = seq; version = version }) })
  row_set seq version next room =
      let row : Row = record { seq = seq; version = version } in
      record {
        next_is = refl;
        count = length-set stamps.rows client (seq, version) ∙ f.count;
        rows =
            table_changed stamps.rows client (seq, version) (λ j. (0, 0))
            (λ j x. row_told (at_one c.rows client row j) ≡ x)
            (let l = f.count in omega (arith, l, within))
            (ap row_told (at_one_here c.rows client row))
            (λ j other. ap row_told (at_one_off c.rows client row j other) ∙ f.rows j);
        entries_is = f.entries_is;
        most = room;
        holders = f.holders;
        distinct = f.distinct;
        last_is = f.last_is;
      }

  pub row_is : ((c.rows client).seq ≡ (row_of stamps client).0)
      × ((c.rows client).version ≡ (row_of stamps client).1)
  row_is = (
    ap (λ (p : ℕ × ℕ). p.0) (f.rows client),
    ap (λ (p : ℕ × ℕ). p.1) (f.rows client),
  )

  tests :
      (seq row version : ℕ)
      → (nat_lt seq row ≡ true → (nat_lt row seq || (seq == row && version == 0)) ≡ false)
      × (nat_lt seq row ≡ true → (seq == row) ≡ false)
      × ((seq == row && nat_lt 0 version) ≡ true
      → (nat_lt row seq || (seq == row && version == 0)) ≡ false)
      × ((seq == row && nat_lt 0 version) ≡ true → (seq == row) ≡ true)
      × ((seq == row && nat_lt 0 version) ≡ true → 1 ≤ version)
      × (nat_lt seq row ≡ false → (seq == row && nat_lt 0 version) ≡ false
      → (nat_lt row seq || (seq == row && version == 0)) ≡ true)
  tests seq row version = grind (arith, nat_tests)

  abbrev book : ℕ → ℕ × ℕ → Bool → Bool → Stamp × Stamps
  book seq row b1 b2 =
      cond b1 (stamp.Stale row.0, stamps)
      (cond b2 (stamp.Same row.1, stamps)
      (cond (stamps.next == last_number) (stamp.Exhausted, stamps) (
        stamp.New stamps.next,
        record { next = stamps.next + 1; rows = slice_set stamps.rows client (seq, stamps.next) },
      )))

  abbrev ours : ℕ → ℕ × ℕ → core.Stamp
  ours seq row =
      cond (nat_lt row.0 seq || (seq == row.0 && row.1 == 0))
      (cond (c.next == core.top) core.Exhausted (core.New c.next))
      (cond (seq == row.0) (core.Same row.1) core.Stale)

  pub stamped_is :
      (seq : ℕ)
      → Stamped rack entries last c client seq (core.stamp c client seq)
      (stamp_over (row_of stamps client) stamps client seq)
  stamped_is seq = rw (row_is.0, row_is.1)
      (by_tests (nat_lt seq row.0) refl (seq == row.0 && nat_lt 0 row.1) refl)
    where
      row : ℕ × ℕ
      row = row_of stamps client

      t : (nat_lt seq row.0 ≡ true → (nat_lt row.0 seq || (seq == row.0 && row.1 == 0)) ≡ false)
          × (nat_lt seq row.0 ≡ true → (seq == row.0) ≡ false)
          × ((seq == row.0 && nat_lt 0 row.1) ≡ true
          → (nat_lt row.0 seq || (seq == row.0 && row.1 == 0)) ≡ false)
          × ((seq == row.0 && nat_lt 0 row.1) ≡ true → (seq == row.0) ≡ true)
          × ((seq == row.0 && nat_lt 0 row.1) ≡ true → 1 ≤ row.1)
          × (nat_lt seq row.0 ≡ false → (seq == row.0 && nat_lt 0 row.1) ≡ false
          → (nat_lt row.0 seq || (seq == row.0 && row.1 == 0)) ≡ true)
      t = tests seq row.0 row.1

      below_top : (c.next == core.top) ≡ false → c.next + 1 ≤ last_number
      below_top e =
          let apart = eqb-false c.next core.top e in
          let m = f.most in
          let n = f.next_is in
          omega (arith, m, n, top_is, apart)

      new_or_not :
          (b : Bool) → (c.next == core.top) ≡ b
          → Stamped rack entries last c client seq (cond b core.Exhausted (core.New c.next))
          (cond b (stamp.Exhausted, stamps) (
            stamp.New stamps.next,
            record {
              next = stamps.next + 1;
              rows =
                  slice_set stamps.rows client (seq, stamps.next);
            },
          ))
      new_or_not true e = IsExhausted refl refl
      new_or_not false e =
          IsNew refl (ap stamp.New (sym f.next_is))
          (subst
          (λ n.
          CoreFits rack
          (record { next = n + 1; rows = slice_set stamps.rows client (seq, n) }) entries last
          (record c {
            next = c.next + 1;
            rows = at_one c.rows client (record { seq = seq; version = c.next });
          }))
          f.next_is (row_set seq c.next (c.next + 1) (below_top e)))

      by_tests :
          (b1 : Bool) → nat_lt seq row.0 ≡ b1 → (b2 : Bool) → (seq == row.0 && nat_lt 0 row.1) ≡ b2
          → Stamped rack entries last c client seq (ours seq row) (book seq row b1 b2)
      by_tests true e1 b2 e2 = rw (t.0 e1, t.1 e1) (IsStale row.0 refl refl)
      by_tests false e1 true e2 =
          rw (t.2 e2, t.3 e2)
          (IsSame row.1 refl refl (row_is.0 ∙ sym (eqb-true seq row.0 (t.3 e2))) row_is.1 (t.4 e2))
      by_tests false e1 false e2 =
          rw (t.5 e1 e2)
          (subst
          (λ x.
          Stamped rack entries last c client seq
          (cond (c.next == core.top) core.Exhausted (core.New c.next))
          (cond x (stamp.Exhausted, stamps) (
            stamp.New stamps.next,
            record {
              next = stamps.next + 1;
              rows =
                  slice_set stamps.rows client (seq, stamps.next);
            },
          )))
          (ap (λ n. n == core.top) f.next_is ∙ ap (λ n. stamps.next == n) top_is)
          (new_or_not (c.next == core.top) refl))
