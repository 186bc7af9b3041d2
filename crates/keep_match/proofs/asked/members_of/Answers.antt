-- Answers of `members_of`: what its calls ask for, and what it promises.
use Rattle.std.proofs.Common.{ap, arith, length, sym}
use Rattle.keep_match.proofs.PlaceLaw.{row_fits}
use Rattle.keep_match.proofs.asked.members_of.Goals as goal

pub members_in-requires : goal.members_in-requires
members_in-requires c =
    let fits = row_fits c.args.rows.now c.loop-row.row-index c.row-item.result c.loop-row-test.true
    (sym c.row-item.is) in
    omega (arith, c.requires, fits, ap length c.as_slice.ensures)
