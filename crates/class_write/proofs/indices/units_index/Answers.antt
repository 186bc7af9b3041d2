-- Answers of `units_index`: what its calls ask for, and what it promises.
use Rattle.std.proofs.Common.{arith}
use Rattle.class_model.specs.declared.constant.PoolConstant.TheVariants as constant
use Rattle.class_write.proofs.Places.{index_within}
use Rattle.class_write.proofs.indices.units_index.Goals as goal

pub overflow_cast-result : goal.overflow_cast-result
overflow_cast-result c =
    let within = index_within c.args.pool.now (constant.Utf8 c.args.units.now) in
    rw c.units_index.ensures (omega (arith, within, c.requires))
