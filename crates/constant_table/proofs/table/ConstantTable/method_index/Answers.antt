-- Answers of `ConstantTable::method_index`: what its calls ask for, and what it promises.
use Rattle.std.proofs.Common.{◌≡◌, List, ap, subst, ◌∙◌}
use Rattle.constant_table.specs.declared.finding.MemberNumbers.{MemberNumbers}
use Rattle.constant_table.specs.bodies.Members.{method_key}
use Rattle.constant_table.proofs.Told.{method_key_is}
use Rattle.class_model.specs.declared.constant.PoolConstant.{PoolConstant}
use Rattle.class_model.specs.CanonicalPool as canonical
use Rattle.constant_table.proofs.table.ConstantTable.method_index.Goals as goal

pub returns : goal.returns
returns c =
    let k : PoolConstant = canonical.methodref c.args.method.now in
    subst (λ (ks : List PoolConstant). c.index_of_key.result ≡ canonical.index_of ks k) c.self.view_is
    (c.index_of_key.ensures k
    (c.method_key-key.ensures
    ∙ ap (λ (m : MemberNumbers). method_key m c.args.method.now.of_interface) c.in_ok-m.ensures
    ∙ method_key_is c.self.inside.texts c.args.method.now))
