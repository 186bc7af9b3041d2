use Rattle.std.proofs.Common.{◌≡◌}
use Rattle.std.specs.List.{All, filter, list_all}
use Rattle.class_pool.specs.Found.{IsMember, same_member}
use Rattle.class_pool.specs.Resolution.{superinterface_methods}
use Rattle.link_check.specs.bodies.Walks.{candidates, is_candidate}
use Rattle.link_check.proofs.references.superinterface_methods.is_only_candidate.Given as goal

abbrev pub invariant-loop-m : goal.invariant-loop-m
invariant-loop-m l = record {
  same : list_all (same_member l.one)
      (filter (is_candidate l.set (superinterface_methods l.set l.class (l.name, l.ty))) l.m-iterator)
      ≡ list_all (same_member l.one) (candidates l.set (superinterface_methods l.set l.class (l.name, l.ty)));
  there : All (IsMember l.set) l.m-iterator;
}
