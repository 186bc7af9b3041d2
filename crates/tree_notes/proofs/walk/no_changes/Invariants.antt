use Rattle.std.proofs.Common.{◌≡◌, List, []}
use Rattle.std.specs.List.{All}
use Rattle.tree_notes.specs.declared.nearest.Change.{Change}
use Rattle.tree_notes.proofs.walk.no_changes.Given as goal

abbrev pub invariant-loop : goal.invariant-loop
invariant-loop l = All (λ (cs : List Change). cs ≡ []) l.changes.items
