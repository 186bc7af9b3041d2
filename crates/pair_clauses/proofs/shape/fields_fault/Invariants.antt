use Rattle.std.proofs.Common.{◌≡◌, ℕ, List, [], drop, take}
use Rattle.pair_clauses.specs.Shape.{fields_fault}
use Rattle.pair_clauses.specs.bodies.Lines.{SeenFields}
use Rattle.pair_clauses.specs.bodies.Seen.{TellsPairs}
use Rattle.pair_clauses.proofs.shape.fields_fault.Given as goal

abbrev pub invariant-loop-line : goal.invariant-loop-line
invariant-loop-line l = (before : List (List ℕ × List ℕ)) → TellsPairs l.fn.seen before
    → SeenFields l.seen l.own before (take l.line-index l.lines)
    × (fields_fault l.input l.class before (take l.line-index l.lines) (drop l.line-index l.lines)
    ≡ fields_fault l.input l.class before [] l.lines)
