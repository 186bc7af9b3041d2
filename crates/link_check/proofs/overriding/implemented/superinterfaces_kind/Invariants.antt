use Rattle.std.specs.List.{All, flat_map}
use Rattle.class_pool.specs.Hierarchy.{IsClass}
use Rattle.class_pool.specs.Walk.{own_superinterfaces}
use Rattle.link_check.specs.bodies.Inherited.{running_kinds_of}
use Rattle.class_pool.specs.Walk.{superclasses_up}
use Rattle.link_check.proofs.Walks.{Gathered}
use Rattle.link_check.proofs.overriding.implemented.superinterfaces_kind.Given as goal

abbrev pub invariant-loop-class : goal.invariant-loop-class
invariant-loop-class l = record {
  there : All (IsClass l.set) l.class-iterator;
  gathered : Gathered (λ d. flat_map (running_kinds_of l.set l.number) (own_superinterfaces l.set d))
      (superclasses_up l.set l.fn.class) l.class-iterator l.kind;
}
