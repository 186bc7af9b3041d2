-- Answers of `places_of`: what its calls ask for, and what it promises.
use Rattle.std.proofs.Common.{◌∙◌, ◌+◌, ap, arith, length, sym}
use Rattle.keep_match.proofs.PlaceLaw.{next_more, places_more, row_fits}
use Rattle.keep_match.proofs.seeds.places_of.Goals as goal

pub push_places-requires : goal.push_places-requires
push_places-requires c =
    let fits = row_fits c.args.rows.now c.loop-row.row-index c.row-item.result c.loop-row-test.true
    (sym c.row-item.is) in
    omega (arith, c.requires, fits, c.loop-row.invariant.1, ap length c.as_slice.ensures)

pub overflow_cast-next : goal.overflow_cast-next
overflow_cast-next c =
    let fits = row_fits c.args.rows.now c.loop-row.row-index c.row-item.result c.loop-row-test.true
    (sym c.row-item.is) in
    omega (arith, c.requires, fits, c.loop-row.invariant.1, c.len.ensures)

pub overflow_add-next : goal.overflow_add-next
overflow_add-next c =
    let fits = row_fits c.args.rows.now c.loop-row.row-index c.row-item.result c.loop-row-test.true
    (sym c.row-item.is) in
    omega (arith, c.requires, fits, c.loop-row.invariant.1, c.len.ensures)

pub loop-row-preserved : goal.loop-row-preserved
loop-row-preserved c = (
  places_more c.args.rows.now c.loop-row.row-index c.row-item.result c.as_slice.result.now _ _ c.loop-row.next
      c.loop-row.invariant.0 c.loop-row.invariant.1 c.loop-row-test.true c.row-item.is c.as_slice.ensures
      c.in_ok-push_places.ensures,
  ap (λ n. c.loop-row.next + n) c.len.ensures ∙ next_more c.args.rows.now c.loop-row.row-index c.row-item.result
      c.loop-row.next c.loop-row.invariant.1 c.loop-row-test.true c.row-item.is,
)
