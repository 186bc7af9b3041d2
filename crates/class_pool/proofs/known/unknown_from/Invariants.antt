use Rattle.std.proofs.Common.{◌<◌, length}
use Rattle.std.specs.List.{All}
use Rattle.class_pool.specs.Hierarchy.{IsClass}
use Rattle.class_pool.proofs.known.unknown_from.Given as goal

abbrev pub invariant-loop-class : goal.invariant-loop-class
invariant-loop-class g l = record {
  there : All (IsClass l.set) l.class-iterator;
  below : All (λ n. n < length l.set) l.unknown.items;
}
