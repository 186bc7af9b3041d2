-- Answers of `ConstantTable::field_index`: what its calls ask for, and what it promises.
use Rattle.std.proofs.Common.{◌≡◌, List, ap, subst}
use Rattle.constant_table.specs.bodies.Members.{field_key}
use Rattle.class_model.specs.declared.constant.PoolConstant.{PoolConstant}
use Rattle.class_model.specs.CanonicalPool as canonical
use Rattle.constant_table.proofs.table.ConstantTable.field_index.Goals as goal

pub returns : goal.returns
returns c =
    let k : PoolConstant = canonical.fieldref c.args.field.now in
    subst (λ (ks : List PoolConstant). c.index_of_key.result ≡ canonical.index_of ks k) c.self.view_is
    (c.index_of_key.ensures k (ap field_key c.in_ok-m.ensures))
