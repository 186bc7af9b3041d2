use Rattle.std.proofs.Common.{◌≡◌, ◌++◌, drop}
use Rattle.class_model.specs.declared.code.Ins.{Ins}
use Rattle.code_edit.specs.ConstEdits.{fold_target}
use Rattle.code_edit.specs.Rewriting.{map_from}
use Rattle.pass_const.specs.Known.{known_in}
use Rattle.pass_const.proofs.folds.fold_targets.Given as goal

abbrev pub invariant-loop : goal.invariant-loop
invariant-loop l =
    (l.targets.items ++ map_from (λ at (i : Ins). fold_target (known_in l.lists) l.code at) l.at
    (drop l.index l.code.ins)
    ≡ map_from (λ at (i : Ins). fold_target (known_in l.lists) l.code at) 0 l.code.ins)
    × (l.at ≡ l.index)
