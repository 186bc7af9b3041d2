-- Answers of `value_index`: what its calls ask for, and what it promises.
use Rattle.std.proofs.Common.{arith}
use Rattle.class_write.proofs.Places.{value_within}
use Rattle.class_write.proofs.indices.value_index.Goals as goal

pub overflow_cast-result : goal.overflow_cast-result
overflow_cast-result c =
    let within = value_within c.args.pool.now c.args.value.now in
    rw c.value_place.ensures (omega (arith, within, c.requires))
