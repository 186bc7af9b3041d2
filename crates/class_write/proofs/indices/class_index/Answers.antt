-- Answers of `class_index`: what its calls ask for, and what it promises.
use Rattle.std.proofs.Common.{arith}
use Rattle.class_model.specs.CanonicalPool.{class_constant}
use Rattle.class_write.proofs.Places.{index_within}
use Rattle.class_write.proofs.indices.class_index.Goals as goal

pub overflow_cast-result : goal.overflow_cast-result
overflow_cast-result c =
    let within = index_within c.args.pool.now (class_constant c.args.name.now) in
    rw c.in_ok-class_index.ensures (omega (arith, within, c.requires))
