-- Answers of `id_at`: what its calls ask for, and what it promises.
use Rattle.std.proofs.Common.{arith}
use Rattle.class_pool.proofs.Graphing.{library_length}
use Rattle.class_pool.proofs.Listing.{high_at, low_at}
use Rattle.class_pool.proofs.hierarchy.supers.id_at.Goals as goal

pub overflow_cast-result : goal.overflow_cast-result
overflow_cast-result c =
    let long = library_length c.args.library.now c.requires.library in
    let there = c.requires.there in
    omega (arith, long, there, c.if-number-len.false, c.len.ensures, c.len-else-number-len.ensures)

pub returns-then-number-len : goal.returns-then-number-len
returns-then-number-len c = low_at c.args.library.now c.args.number c.index.result.now c.requires.library
    c.index.ensures (omega (arith, c.if-number-len.true, c.len.ensures))

pub returns-else-number-len : goal.returns-else-number-len
returns-else-number-len c =
    high_at c.args.library.now c.args.number c.len-else-number-len.result c.requires.library
    c.len-else-number-len.ensures
    (omega (arith, c.if-number-len.false, c.len.ensures, c.len-else-number-len.ensures))
