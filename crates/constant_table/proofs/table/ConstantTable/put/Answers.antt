-- Answers of `ConstantTable::put`: what its calls ask for, and what it promises.
use Rattle.std.proofs.Common.{◌≡◌, ◌++◌, ◌+◌, List, length, ap, subst}
use Rattle.std.specs.Prelude.{OnOk}
use Rattle.std.specs.Int.{w16, to_be_bytes}
use Rattle.std.specs.List.{flat_map}
use Rattle.std.proofs.lemmas.Result.{IfOk-equal}
use Rattle.class_model.specs.declared.constant.PoolConstant.{PoolConstant}
use Rattle.class_model.specs.ConstantPool.{cp_info}
use Rattle.class_model.specs.CanonicalPool.{infos_of}
use Rattle.constant_table.proofs.Wanted.{pool_told}
use Rattle.constant_table.proofs.table.ConstantTable.put.Goals as goal

pub returns : goal.returns
returns c =
    let old = c.args.out.now.items in
    subst (λ (ks : List PoolConstant). OnOk c.put_all.result
    (c.put_all.new.out.items
    ≡ old ++ (to_be_bytes w16 (length ks + 1) ++ flat_map cp_info (infos_of ks)))) c.self.view_is
    (IfOk-equal c.put_all.result _ _ _ c.put_all.ensures
    (ap (λ t. old ++ t) (pool_told c.self.inside.texts c.self.inside.keys)))
