use Rattle.std.proofs.Common.{◌<◌, ◌-◌, length}
use Rattle.edit_passes.specs.Chains.{IsTable}
use Rattle.edit_passes.proofs.chains.chain_table.Given as goal

abbrev pub invariant-loop-steps : goal.invariant-loop-steps
invariant-loop-steps l = IsTable l.code l.steps l.table.items × (0 < l.steps)

abbrev pub decreases-loop-steps : goal.decreases-loop-steps
decreases-loop-steps l = length l.code.ins - l.steps
