-- Answers of `next_above`: what its calls ask for, and what it promises.
use Rattle.std.proofs.Common.{arith}
use Rattle.type_verifier.proofs.Climbing.{super_if}
use Rattle.type_verifier.proofs.hierarchy.next_above.Goals as goal

pub returns-clause-same : goal.returns-clause-same
returns-clause-same c =
    super_if c.args.set.now c.has_ranks.ensures (omega (arith, c.len-count.ensures)) c.args.at c.args.floor
    c.superclass_number.result c.requires.there (omega (arith, c.requires.floor, c.requires.height))
    c.superclass_number.ensures
