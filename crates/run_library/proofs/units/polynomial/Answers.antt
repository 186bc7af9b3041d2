-- Answers of `polynomial`: what its calls ask for, and what it promises.
use Rattle.std.proofs.Common.{◌∙◌, ◌^◌}
use Rattle.run_library.proofs.Horner.{polynomial_step}
use Rattle.run_library.proofs.units.polynomial.Goals as goal

pub loop-unit-preserved : goal.loop-unit-preserved
loop-unit-preserved c =
    polynomial_step c.args.units.now (2 ^ 32) c.loop-unit.unit-index c.loop-unit.sum c.from.result c.loop-unit-test.true
    c.from.ensures ∙ c.loop-unit.invariant
