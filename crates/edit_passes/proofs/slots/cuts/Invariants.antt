use Rattle.std.proofs.Common.{◌≡◌, ◌++◌, drop}
use Rattle.edit_passes.specs.Unused.{unloaded_from}
use Rattle.edit_passes.proofs.slots.cuts.Given as goal

abbrev pub invariant-loop-ins : goal.invariant-loop-ins
invariant-loop-ins l =
    (l.acts ++ unloaded_from l.loads l.at (drop l.ins-index l.fn.ins)
    ≡ unloaded_from l.loads 0 l.fn.ins)
    × (l.at ≡ l.ins-index)
