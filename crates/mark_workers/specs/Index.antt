-- The index of pairs, as that of mark_core, whose definitions and laws serve it.
use Rattle.mark_core.specs.declared.pair_index.PairIndex.{PairIndex as CoreIndex}
use Rattle.mark_core.specs.declared.system.System.{System}
use Rattle.mark_core.specs.bodies.PairIndex.{IsIndex as IsCoreIndex}
use Rattle.mark_workers.specs.declared.pair_index.PairIndex.{PairIndex}

abbrev pub core_index : PairIndex → CoreIndex
core_index index = record { fronts = index.fronts; links = index.links }

-- all places of the system's pairs are indexed
abbrev pub IsIndex : System → PairIndex → Type 0
IsIndex sys index = IsCoreIndex sys (core_index index)
