-- How many operations were answered, place by place.
use Rattle.std.proofs.Common.{◌≡◌, ◌∙◌, ◌+◌, ℕ, true, false, List, take, get_or, sym, ap}
use Rattle.std.specs.Prelude.{Some, slice_get, count_by, is_some}
use Rattle.std.proofs.lemmas.List.Sums.{count_by_more_yes, count_by_more_no}
use Rattle.std.proofs.lemmas.Option.{get_or_from_slice_get, slice_get_within}
use Rattle.peg_event.specs.declared.history.Op.{Op}

abbrev pub answered_of : List Op → ℕ
answered_of ops = count_by (λ op. is_some op.answered) ops

module _ (ops : List Op) (place answered : ℕ) (op : Op)
    (so_far : answered ≡ answered_of (take place ops)) (at : Some op ≡ slice_get ops place) where
  here : get_or ops place op ≡ op
  here = get_or_from_slice_get ops place op op (sym at)

  pub counted_yes : is_some op.answered ≡ true → answered + 1 ≡ answered_of (take (place + 1) ops)
  counted_yes has =
      ap (λ n. n + 1) so_far
      ∙ sym (count_by_more_yes (λ o. is_some o.answered) ops place op
      (slice_get_within ops place op (sym at)) (ap (λ (o : Op). is_some o.answered) here ∙ has))

  pub counted_no : is_some op.answered ≡ false → answered ≡ answered_of (take (place + 1) ops)
  counted_no lacks =
      so_far
      ∙ sym (count_by_more_no (λ o. is_some o.answered) ops place op
      (slice_get_within ops place op (sym at)) (ap (λ (o : Op). is_some o.answered) here ∙ lacks))
