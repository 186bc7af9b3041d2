-- Answers of `value_place`: what its calls ask for, and what it promises.
use Rattle.std.proofs.Common.{ℤ, rules, ap, ◌∙◌}
use Rattle.std.specs.Int.{w32, w64}
use Rattle.std.specs.Int.RustNames.{FitsSigned}
use Rattle.std.proofs.lemmas.Int.{to_z-of_z}
use Rattle.class_model.specs.CanonicalPool.{index_of}
use Rattle.class_model.specs.declared.constant.PoolConstant.TheVariants as constant
use Rattle.class_write.proofs.indices.value_place.Goals as goal

pub returns-in-Int : goal.returns-in-Int
returns-in-Int c =
    let fits : FitsSigned w32 c.in-Int.number = search rules in
    let read = to_z-of_z w32 c.in-Int.number fits in
    rw c.in-Int.is (c.int_index.ensures ∙ ap (λ (z : ℤ). index_of c.args.pool.now (constant.Integer z)) read)

pub returns-in-Long : goal.returns-in-Long
returns-in-Long c =
    let fits : FitsSigned w64 c.in-Long.number = search rules in
    let read = to_z-of_z w64 c.in-Long.number fits in
    rw c.in-Long.is (c.long_index.ensures ∙ ap (λ (z : ℤ). index_of c.args.pool.now (constant.Long z)) read)
