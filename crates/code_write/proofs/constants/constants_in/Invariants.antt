use Rattle.std.proofs.Common.{◌≡◌, ◌≤◌, ◌-◌, length}
use Rattle.code_write.specs.Constants.{first_constants}
use Rattle.code_write.proofs.constants.constants_in.Given as goal

abbrev pub invariant-loop-index : goal.invariant-loop-index
invariant-loop-index l = (l.table ≡ first_constants l.pool.entries (l.index - 1))
    × (l.index - 1 ≤ length l.pool.entries - 1)
