use Rattle.std.proofs.Common.{Bool, not, false, true, refl, ◌≡◌, [], ◌∷◌, ◌++◌, length}
use Rattle.std.proofs.Common.{arith, ap, sym, ◌∙◌, filter}
use Rattle.std.proofs.lemmas.List.{take_all, length_push}
use Rattle.std.proofs.lemmas.Result.{IfOk-at_ok}
use Rattle.std.specs.Cmp.Lexicographic.{nat_list_eq_equiv}
use Rattle.std.specs.Str.{bytes_eq}
use Rattle.std.specs.Map.{lookup}
use Rattle.indexmap.specs.IndexMap.{spare, insert_entry}
use Rattle.indexmap.proofs.CallerLemmas.{insert_entry-new}
use Rattle.peg_directory.proofs.Moving.{is_other, moved, passed, absent, others}
use Rattle.peg_directory.proofs.move_others.Goals as goal
use Rattle.peg_directory.proofs.move_others.Goals.{then-ne, else-ne}

not_false : (b : Bool) → not b ≡ true → b ≡ false
not_false true h = cc
not_false false h = refl

not_true : (b : Bool) → not b ≡ false → b ≡ true
not_true true h = refl
not_true false h = cc

pub unwrap-requires : goal.unwrap-requires
unwrap-requires g c =
    let inv = c.loop-i.invariant in
    c.insert.ensures.succeeds
    (omega (
      arith,
      inv.room,
      inv.few,
      c.requires.room,
      c.loop-i-test.true,
      c.len-i-end.ensures.len,
    ))

pub loop-i-preserved : goal.loop-i-preserved
loop-i-preserved g c =
    let inv = c.loop-i.invariant in
    let es = c.args.from.now.entries in
    let i = c.loop-i.i in
    let e = c.entry_at-other.result in
    let key = c.args.key.now in
    let at = sym c.entry_at-other.ensures in
    elim c.if-ne.branch [
      | then-ne w ↦
          let stays = not_false (bytes_eq key e.0) (sym c.ne.ensures ∙ w.if-ne.true) in
          let none =
          ap (lookup (bytes_eq e.0)) inv.moved
          ∙ absent bytes_eq key nat_list_eq_equiv es i e c.len-i-end.ensures.unique at stays in
          let after = ap (λ m. m.entries) w.to-is
          ∙ IfOk-at_ok (λ _. w.insert.new.self.entries
          ≡ insert_entry bytes_eq c.loop-i.to.entries e.0 e.1)
          w.unwrap.ensures w.insert.ensures.entries
          ∙ insert_entry-new bytes_eq c.loop-i.to e.0 e.1 none in
          let long = ap length after ∙ length_push c.loop-i.to.entries e in
          record {
            moved = after ∙ ap (λ l. l ++ e ∷ []) inv.moved ∙ sym (moved bytes_eq key es i e at stays);
            room = omega (arith, long, inv.room, w.insert.ensures.spare, ap spare w.to-is);
            few = omega (arith, long, inv.few);
          }
      | else-ne w ↦
          let goes = not_true (bytes_eq key e.0) (sym c.ne.ensures ∙ w.if-ne.false) in
          record {
            moved = ap (λ m. m.entries) w.to-is ∙ inv.moved
                ∙ sym (passed bytes_eq key es i e at goes);
            room = omega (
              arith,
              inv.room,
              ap spare w.to-is,
              ap (λ m. length m.entries) w.to-is,
            );
            few = omega (arith, inv.few, ap (λ m. length m.entries) w.to-is);
          }
    ]

pub returns-clause-moved : goal.returns-clause-moved
returns-clause-moved g c =
    let es = c.args.from.now.entries in
    c.loop-i.invariant.moved
    ∙ ap (filter (is_other bytes_eq c.args.key.now))
    (take_all c.loop-i.i es (omega (arith, c.loop-i-test.false, c.len-i-end.ensures.len)))
    ∙ others bytes_eq c.args.key.now nat_list_eq_equiv es c.len-i-end.ensures.unique
