use Rattle.std.specs.List.{All}
use Rattle.class_pool.specs.Found.{IsMember, IsMethod, declared_by, named_at}
use Rattle.class_pool.specs.Walk.{superclasses_up}
use Rattle.link_check.specs.Profile.{overridden_kinds}
use Rattle.link_check.specs.bodies.Inherited.{start_at}
use Rattle.link_check.proofs.Walks.{Gathered}
use Rattle.link_check.proofs.overriding.overridden.overriding_kind.Given as goal

abbrev pub invariant-loop-above : goal.invariant-loop-above
invariant-loop-above l = record {
  there : All (IsMember l.set) l.above-iterator;
  methods : All (IsMethod l.set) l.above-iterator;
  gathered : Gathered (overridden_kinds l.set l.m)
      (declared_by l.set (named_at l.set l.m) (superclasses_up l.set (start_at l.known l.number))) l.above-iterator
      l.kind;
}
