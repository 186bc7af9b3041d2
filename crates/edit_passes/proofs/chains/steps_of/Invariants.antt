use Rattle.std.proofs.Common.{◌≡◌, ◌++◌, drop}
use Rattle.class_model.specs.declared.code.Ins.{Ins}
use Rattle.code_edit.specs.Rewriting.{map_from}
use Rattle.edit_passes.specs.Chains.{goes_to}
use Rattle.edit_passes.proofs.chains.steps_of.Given as goal

abbrev pub invariant-loop-ins : goal.invariant-loop-ins
invariant-loop-ins l =
    (l.table.items
    ++ map_from (λ at (i : Ins). goes_to at i.op) l.at (drop l.ins-index l.code.ins)
    ≡ map_from (λ at (i : Ins). goes_to at i.op) 0 l.code.ins)
    × (l.at ≡ l.ins-index)
