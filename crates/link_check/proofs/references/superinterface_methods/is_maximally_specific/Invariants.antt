use Rattle.std.proofs.Common.{◌≡◌, not}
use Rattle.std.specs.List.{All, list_any}
use Rattle.class_pool.specs.Found.{IsMember}
use Rattle.class_pool.specs.Resolution.{is_maximally_specific, is_subinterface, superinterface_methods}
use Rattle.link_check.proofs.references.superinterface_methods.is_maximally_specific.Given as goal

abbrev pub invariant-loop-other : goal.invariant-loop-other
invariant-loop-other l = record {
  same : not (list_any (λ other. is_subinterface l.set other.class l.m.class) l.other-iterator)
      ≡ is_maximally_specific l.set (superinterface_methods l.set l.class (l.name, l.ty)) l.m;
  there : All (IsMember l.set) l.other-iterator;
}
