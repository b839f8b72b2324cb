use Rattle.std.proofs.Common.{◌≡◌, ◌∙◌, ◌∷◌, [], ◌++◌, ap, sym, length, take, arith, slice_get, Some}
use Rattle.std.proofs.lemmas.List.{take_more, length_push}
use Rattle.std.proofs.lemmas.Option.{slice_get-get_or}
use Rattle.std.proofs.lemmas.Result.{IfOk-at_ok}
use Rattle.std.specs.Str.{bytes_eq}
use Rattle.indexmap.specs.IndexMap.{insert_entry}
use Rattle.indexmap.proofs.CallerLemmas.{insert_entry-new}
use Rattle.peg_model.specs.Rules.{entry_of}
use Rattle.peg_directory.proofs.Refilled.{not_yet}
use Rattle.peg_directory.proofs.refill.Goals as goal

pub loop-key-preserved : goal.loop-key-preserved
loop-key-preserved c =
    let es = c.args.entries.now in
    let i = c.loop-key.key-index in
    let e = c.loop-key-item.result in
    let inv = c.loop-key.invariant in
    let at : slice_get es i ≡ Some e =
    slice_get-get_or es i e c.loop-key-test.true ∙ ap Some (sym c.loop-key-item.is) in
    let none = ap (λ l. entry_of l e.0) inv.entries ∙ not_yet es i e c.requires.distinct at in
    let after =
    IfOk-at_ok (λ _. c.insert.new.self.entries
    ≡ insert_entry bytes_eq c.loop-key.kept.entries e.0 e.1)
    c.unwrap.ensures c.insert.ensures.entries
    ∙ insert_entry-new bytes_eq c.loop-key.kept e.0 e.1 none in
    let long = ap length after ∙ length_push c.loop-key.kept.entries e in
    record {
      entries = after ∙ ap (λ l. l ++ e ∷ []) inv.entries
          ∙ ap (λ x. take i es ++ x ∷ []) c.loop-key-item.is
          ∙ sym (take_more es i e c.loop-key-test.true);
      room = omega (arith, long, c.insert.ensures.spare, inv.room);
    }
