use Rattle.keep_match.specs.bodies.Marks.{IsMarking}
use Rattle.keep_match.proofs.MarkLaw.{AreDone}
use Rattle.keep_match.proofs.seeds.mark_named.Given as goal

abbrev pub invariant-loop-filter : goal.invariant-loop-filter
invariant-loop-filter l =
    IsMarking l.set l.keep l.fn.rows.items l.rows.items
    × AreDone l.set l.keep l.fn.rows.items l.rows.items l.filter-index
