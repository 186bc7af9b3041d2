-- Answers of `ConstantTable::class_index`: what its calls ask for, and what it promises.
use Rattle.std.proofs.Common.{◌≡◌, List, ap, subst}
use Rattle.class_model.specs.declared.constant.PoolConstant.{PoolConstant}
use Rattle.class_model.specs.CanonicalPool as canonical
use Rattle.constant_table.specs.declared.key.Key.TheVariants as key
use Rattle.constant_table.proofs.table.ConstantTable.class_index.Goals as goal

pub returns : goal.returns
returns c =
    let k : PoolConstant = canonical.class_constant c.args.name.now in
    subst (λ (ks : List PoolConstant). c.index_of_key.result ≡ canonical.index_of ks k) c.self.view_is
    (c.index_of_key.ensures k (ap (λ n. key.Class n) c.in_ok-number.ensures))
