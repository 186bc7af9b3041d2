use Rattle.std.proofs.Common.{◌≡◌, ◌++◌, take, drop, map}
use Rattle.attribute_filter.specs.Filtered.{without_line}
use Rattle.attribute_filter.proofs.filtering.instructions_without_line.Given as goal

abbrev pub invariant-loop-instruction : goal.invariant-loop-instruction
invariant-loop-instruction l = l.instruction-items
    ≡ map without_line (take l.instruction-index l.fn.instructions) ++ drop l.instruction-index l.fn.instructions
