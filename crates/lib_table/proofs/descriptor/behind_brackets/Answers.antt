-- Answers of `behind_brackets`: what its calls ask for, and what it promises.
use Rattle.std.proofs.Common.{◌-◌, ◌+◌, ◌∙◌, sym, arith}
use Rattle.lib_table.proofs.Behind.{brackets_then}
use Rattle.lib_table.proofs.descriptor.behind_brackets.Goals as goal

pub loop-preserved : goal.loop-preserved
loop-preserved c =
    sym (brackets_then (c.args.dims - c.loop.counter)
    (c.args.dims - (c.loop.counter + 1)) c.loop.rest.now c.in_ok-rest.rest.now (omega (arith, c.loop-test.true))
    (sym c.in_ok-rest.ensures))
    ∙ c.loop.invariant
