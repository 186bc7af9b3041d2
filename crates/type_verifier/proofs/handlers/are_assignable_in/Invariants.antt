use Rattle.std.proofs.Common.{◌≡◌, ◌≤◌, drop}
use Rattle.std.specs.Cmp.Lexicographic.{pointwise}
use Rattle.type_verifier.specs.Assignable.{is_assignable}
use Rattle.type_verifier.proofs.handlers.are_assignable_in.Given as goal

abbrev pub invariant-loop-index : goal.invariant-loop-index
invariant-loop-index l = (l.index ≤ l.fn.changed.to)
    × (pointwise (is_assignable l.set) (drop l.index l.from) (drop l.index l.to)
    ≡ pointwise (is_assignable l.set) l.from l.to)
