use Rattle.std.proofs.Common.{◌≡◌, ◌++◌, drop}
use Rattle.std.specs.List.{flat_map}
use Rattle.code_edit.specs.ConstEdits.{Shut, runs}
use Rattle.pass_const.specs.Known.{known_in}
use Rattle.pass_const.specs.Taking.{marked_from}
use Rattle.pass_const.proofs.runs.push_all_runs.Given as goal

abbrev pub invariant-loop-mark : goal.invariant-loop-mark
invariant-loop-mark l = (l.slot ≡ l.mark-index)
    × (l.acts.items ++ flat_map (λ slot. runs slot 0 Shut (known_in l.lists slot))
    (marked_from l.slot (drop l.mark-index l.taken))
    ≡ l.fn.acts.items ++ flat_map (λ slot. runs slot 0 Shut (known_in l.lists slot))
    (marked_from 0 l.taken))
