use Rattle.std.proofs.Common.{◌≡◌, ◌++◌, drop}
use Rattle.code_edit.specs.Passes.{aims_from}
use Rattle.edit_passes.specs.Chains.{ends_in}
use Rattle.edit_passes.proofs.jumps.aim_all.Given as goal

abbrev pub invariant-loop-ins : goal.invariant-loop-ins
invariant-loop-ins l =
    (l.acts ++ aims_from (ends_in l.table l.code) l.at (drop l.ins-index l.code.ins)
    ≡ l.fn.acts ++ aims_from (ends_in l.table l.code) 0 l.code.ins)
    × (l.at ≡ l.ins-index)
