use Rattle.std.proofs.Common.{◌≡◌, [], drop, take}
use Rattle.pair_clauses.specs.Shape.{lines_fault}
use Rattle.pair_clauses.specs.bodies.Lines.{HasLines}
use Rattle.pair_clauses.proofs.shape.lines_fault.Given as goal

abbrev pub invariant-loop-line : goal.invariant-loop-line
invariant-loop-line l = HasLines l.fn.seen [] → HasLines l.seen (take l.line-index l.lines)
    × (lines_fault l.input l.output (take l.line-index l.lines) (drop l.line-index l.lines)
    ≡ lines_fault l.input l.output [] l.lines)
