-- Answers of `chain_table`: what its calls ask for, and what it promises.
use Rattle.std.proofs.Common.{◌∙◌, ap, arith}
use Rattle.edit_passes.specs.Chains.{doubled}
use Rattle.edit_passes.proofs.Walking.{next_table}
use Rattle.edit_passes.proofs.chains.chain_table.Goals as goal

pub loop-steps-preserved : goal.loop-steps-preserved
loop-steps-preserved c = (
  next_table c.args.code.now c.requires.sound c.loop-steps.steps c.loop-steps.table.items
      c.in_ok-table-2.table.items c.loop-steps.invariant.0
      (c.in_ok-table-2.ensures ∙ ap doubled c.deref.ensures.value),
  omega (arith, c.loop-steps.invariant.1),
)
