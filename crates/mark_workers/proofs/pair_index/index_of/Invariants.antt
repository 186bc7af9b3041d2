use Rattle.std.proofs.Common.{◌*◌}
use Rattle.mark_core.specs.bodies.PairIndex.{IsIndexOf}
use Rattle.mark_workers.specs.Index.{core_index}
use Rattle.mark_workers.proofs.pair_index.index_of.Given as goal

abbrev pub invariant-loop-pair : goal.invariant-loop-pair
invariant-loop-pair l = IsIndexOf l.sys (2 * l.pair-index) (core_index l.index)
