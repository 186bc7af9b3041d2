use Rattle.std.proofs.Common.{◌≡◌}
use Rattle.std.specs.List.{All, filter}
use Rattle.class_pool.specs.Found.{IsMember}
use Rattle.class_pool.specs.Resolution.{first, superinterface_methods}
use Rattle.link_check.specs.bodies.Walks.{candidates, is_candidate}
use Rattle.link_check.proofs.references.superinterface_methods.first_candidate.Given as goal

abbrev pub invariant-loop-m : goal.invariant-loop-m
invariant-loop-m l = record {
  same : first (filter (is_candidate l.set (superinterface_methods l.set l.class (l.name, l.ty))) l.m-iterator)
      ≡ first (candidates l.set (superinterface_methods l.set l.class (l.name, l.ty)));
  there : All (IsMember l.set) l.m-iterator;
}
