use Rattle.std.proofs.Common.{◌≡◌, ◌++◌, drop, map}
use Rattle.std.specs.Prelude.{slice_index_or}
use Rattle.edit_passes.proofs.chains.doubled.Given as goal

abbrev pub invariant-loop-to : goal.invariant-loop-to
invariant-loop-to l =
    l.twice.items ++ map (λ to. slice_index_or l.table to to) (drop l.to-index l.table)
    ≡ map (λ to. slice_index_or l.table to to) l.table
