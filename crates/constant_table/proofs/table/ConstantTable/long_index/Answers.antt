-- Answers of `ConstantTable::long_index`: what its calls ask for, and what it promises.
use Rattle.std.proofs.Common.{◌≡◌, List, ap, subst}
use Rattle.std.specs.Int.{w64}
use Rattle.std.proofs.lemmas.Int.{to_z-of_z}
use Rattle.class_model.specs.declared.constant.PoolConstant.{PoolConstant}
use Rattle.class_model.specs.declared.constant.PoolConstant.TheVariants as constant
use Rattle.class_model.specs.CanonicalPool as canonical
use Rattle.constant_table.specs.declared.key.Key.TheVariants as key
use Rattle.constant_table.proofs.table.ConstantTable.long_index.Goals as goal

pub returns : goal.returns
returns c =
    let k : PoolConstant = constant.Long c.args.number in
    subst (λ (ks : List PoolConstant). c.index_of_key.result ≡ canonical.index_of ks k) c.self.view_is
    (c.index_of_key.ensures k (ap (λ z. key.Long z) (to_z-of_z w64 c.args.number c.ranges.number)))
