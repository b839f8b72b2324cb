use Rattle.std.proofs.Common.{◌≡◌, suc, ◌+◌, ◌++◌, take, length, arith, refl, ap, sym, ◌∙◌}
use Rattle.std.proofs.lemmas.List.{take_all}
use Rattle.std.specs.List.{flat_map}
use Rattle.peg_model.specs.Packet.{row_bytes}
use Rattle.peg_packet.proofs.Writing.{row_long, rows_more, rows_back, rows_keyed}
use Rattle.peg_packet.proofs.rows.Rows.write.Goals as goal

pub loop-row-init : goal.loop-row-init
loop-row-init c = (omega arith, refl)

pub offset_bounds-rows-row-index : goal.offset_bounds-rows-row-index
offset_bounds-rows-row-index c = omega (arith, c.requires.few)

pub put_row-end-requires : goal.put_row-end-requires
put_row-end-requires c = omega (arith, c.requires.few, c.loop-row.invariant.0)

pub loop-row-preserved : goal.loop-row-preserved
loop-row-preserved c =
    let long =
    row_long c.args.rows.now c.loop-row.row-index c.row-item.result c.requires.in_range
    c.loop-row-test.true c.row-item.is in
    let next : suc c.loop-row.row-index ≡ c.loop-row.row-index + 1 = omega arith in (
      omega (arith, long, c.put_row-end.ensures.next, c.loop-row.invariant.0),
      c.put_row-end.ensures.written
          ∙ ap (λ t. t ++ row_bytes c.row-item.result) c.loop-row.invariant.1
          ∙ rows_more c.args.rows.now c.loop-row.row-index c.row-item.result c.loop-row-test.true
          c.row-item.is
          ∙ ap (λ n. flat_map row_bytes (take n c.args.rows.now)) next,
    )

pub shared_ref_as_front-result : goal.shared_ref_as_front-result
shared_ref_as_front-result c = omega (arith, c.requires.few, c.loop-row.invariant.0)

pub invariant_of-result : goal.invariant_of-result
invariant_of-result c =
    let all : c.loop-row.row-index ≡ length c.args.rows.now = omega arith in
    let whole =
    c.loop-row.invariant.1
    ∙ ap (λ n. flat_map row_bytes (take n c.args.rows.now)) all
    ∙ ap (flat_map row_bytes) (take_all (length c.args.rows.now) c.args.rows.now (omega arith))
    in
    record {
      keyed = rows_keyed c.args.rows.now _ _ c.requires.in_range whole refl;
      spelled =
          whole
          ∙ ap (flat_map row_bytes)
          (sym (rows_back c.args.rows.now _ _ c.requires.in_range whole refl));
    }

pub returns : goal.returns
returns c =
    let all : c.loop-row.row-index ≡ length c.args.rows.now = omega arith in
    let whole =
    c.loop-row.invariant.1
    ∙ ap (λ n. flat_map row_bytes (take n c.args.rows.now)) all
    ∙ ap (flat_map row_bytes) (take_all (length c.args.rows.now) c.args.rows.now (omega arith))
    in
    rows_back c.args.rows.now _ _ c.requires.in_range whole refl
