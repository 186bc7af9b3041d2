use Rattle.std.proofs.Common.{◌≡◌, ◌++◌, drop}
use Rattle.class_model.specs.declared.code.Ins.{Ins}
use Rattle.code_edit.specs.Rewriting.{map_from}
use Rattle.const_tables.specs.Folding.{is_unfolded}
use Rattle.const_tables.proofs.folding.unfolded.Given as goal

abbrev pub invariant-loop : goal.invariant-loop
invariant-loop l =
    (l.lives.items ++ map_from (λ at (i : Ins). is_unfolded l.folds l.code at) l.at
    (drop l.index l.code.ins)
    ≡ map_from (λ at (i : Ins). is_unfolded l.folds l.code at) 0 l.code.ins)
    × (l.at ≡ l.index)
