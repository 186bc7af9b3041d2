-- Answers of `ConstantTable::int_index`: what its calls ask for, and what it promises.
use Rattle.std.proofs.Common.{◌≡◌, List, ap, subst}
use Rattle.std.specs.Int.{w32}
use Rattle.std.proofs.lemmas.Int.{to_z-of_z}
use Rattle.class_model.specs.declared.constant.PoolConstant.{PoolConstant}
use Rattle.class_model.specs.declared.constant.PoolConstant.TheVariants as constant
use Rattle.class_model.specs.CanonicalPool as canonical
use Rattle.constant_table.specs.declared.key.Key.TheVariants as key
use Rattle.constant_table.proofs.table.ConstantTable.int_index.Goals as goal

pub returns : goal.returns
returns c =
    let k : PoolConstant = constant.Integer c.args.number in
    subst (λ (ks : List PoolConstant). c.index_of_key.result ≡ canonical.index_of ks k) c.self.view_is
    (c.index_of_key.ensures k (ap (λ z. key.Integer z) (to_z-of_z w32 c.args.number c.ranges.number)))
