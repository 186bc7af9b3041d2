-- Answers of `text_index`: what its calls ask for, and what it promises.
use Rattle.std.proofs.Common.{arith}
use Rattle.jv_base.specs.Utf16.{units_of}
use Rattle.class_model.specs.declared.constant.PoolConstant.TheVariants as constant
use Rattle.class_write.proofs.Places.{index_within}
use Rattle.class_write.proofs.indices.text_index.Goals as goal

pub overflow_cast-result : goal.overflow_cast-result
overflow_cast-result c =
    let within = index_within c.args.pool.now (constant.Utf8 (units_of c.args.text.now)) in
    rw c.in_ok-text_index.ensures (omega (arith, within, c.requires))
