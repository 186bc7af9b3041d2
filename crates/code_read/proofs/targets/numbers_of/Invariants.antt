use Rattle.std.proofs.Common.{◌≡◌, ℕ, drop}
use Rattle.class_model.specs.InstructionMeaning.{or_else}
use Rattle.code_read.specs.bodies.Targets.{found}
use Rattle.code_read.proofs.Numbers.{number_from}
use Rattle.code_read.proofs.targets.numbers_of.Given as goal

abbrev pub invariant-loop-number : goal.invariant-loop-number
invariant-loop-number l = (offset : ℕ)
    → or_else (found l.table.items offset) (number_from offset l.number (drop l.number l.placed))
    ≡ number_from offset 0 l.placed
