use Rattle.std.proofs.Common.{◌≡◌, drop}
use Rattle.const_tables.specs.Folding.{no_folds, with_folds}
use Rattle.const_tables.proofs.folding.folds_of.Given as goal

abbrev pub invariant-loop-act : goal.invariant-loop-act
invariant-loop-act l =
    with_folds (drop l.act-index l.acts) l.folds.items ≡ with_folds l.acts (no_folds l.count)
