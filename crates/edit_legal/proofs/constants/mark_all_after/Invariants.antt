use Rattle.std.proofs.Common.{◌≡◌, drop}
use Rattle.edit_legal.specs.Decidable.{targets_after}
use Rattle.edit_tables.specs.Spread.{spread}
use Rattle.edit_legal.proofs.constants.mark_all_after.Given as goal

abbrev pub invariant-loop-ins : goal.invariant-loop-ins
invariant-loop-ins l =
    (spread (targets_after l.folds) l.lives l.at (drop l.ins-index l.fn.ins) l.marks.items
    ≡ spread (targets_after l.folds) l.lives 0 l.fn.ins l.fn.marks.items)
    × (l.at ≡ l.ins-index)
