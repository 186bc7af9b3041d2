use Rattle.std.proofs.Common.{◌≡◌, ◌<◌, length}
use Rattle.class_pool.specs.declared.id.ClassId.{ClassId}
use Rattle.class_pool.specs.declared.id.ClassId.TheVariants.{Prog}
use Rattle.class_pool.specs.Resolution.{is_class_below}
use Rattle.type_verifier.specs.bodies.Steps.{IsFloor}
use Rattle.type_verifier.proofs.hierarchy.climb.Given as goal

abbrev pub invariant-loop : goal.invariant-loop
invariant-loop l = record {
  there : l.at < length l.set;
  same : (to : ClassId) → IsFloor l.set l.floor to → is_class_below l.set (Prog l.at) to
      ≡ is_class_below l.set (Prog l.from) to;
}
