use Rattle.std.proofs.Common.{◌≡◌, ◌+◌, ◌*◌, ◌^◌, ◌%◌, drop, length}
use Rattle.jvm_model.specs.Library.{polynomial}
use Rattle.run_library.proofs.units.polynomial.Given as goal

abbrev pub invariant-loop-unit : goal.invariant-loop-unit
invariant-loop-unit l =
    (l.sum * 31 ^ length (drop l.unit-index l.units) + polynomial (drop l.unit-index l.units)) % 2 ^ 32
    ≡ polynomial l.units % 2 ^ 32
