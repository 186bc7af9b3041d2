use Rattle.std.proofs.Common.{◌≡◌, List, [], drop, take}
use Rattle.new_names.specs.NewNames.{NameAndType}
use Rattle.pair_clauses.specs.Shape.{methods_fault}
use Rattle.pair_clauses.specs.bodies.Lines.{SeenMethods}
use Rattle.pair_clauses.specs.bodies.Seen.{TellsMethods}
use Rattle.pair_clauses.proofs.shape.methods_fault.Given as goal

abbrev pub invariant-loop-line : goal.invariant-loop-line
invariant-loop-line l = (before : List (NameAndType × NameAndType)) → TellsMethods l.fn.seen before
    → SeenMethods l.seen l.own before (take l.line-index l.lines)
    × (methods_fault l.input l.class before (take l.line-index l.lines) (drop l.line-index l.lines)
    ≡ methods_fault l.input l.class before [] l.lines)
