use Rattle.std.proofs.Common.{◌≡◌, None, Option}
use Rattle.std.specs.List.{All}
use Rattle.tree_notes.specs.declared.nearest.Visit.{Visit}
use Rattle.tree_notes.proofs.walk.no_visits.Given as goal

abbrev pub invariant-loop : goal.invariant-loop
invariant-loop l = All (λ (v : Option Visit). v ≡ None) l.visits.items
