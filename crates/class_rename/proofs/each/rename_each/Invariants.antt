use Rattle.std.proofs.Common.{◌≡◌, ◌++◌, take, drop, map}
use Rattle.class_rename.specs.Names.{names_in}
use Rattle.class_rename.proofs.each.rename_each.Given as goal

abbrev pub invariant-loop-part : goal.invariant-loop-part
invariant-loop-part g l = l.part-items ≡ map (g.T.Rename.renamed (names_in l.names)) (take l.part-index l.fn.items)
    ++ drop l.part-index l.fn.items
