use Rattle.std.proofs.Common.{◌≡◌, ◌∷◌}
use Rattle.std.specs.List.{All, flat_map}
use Rattle.class_pool.specs.Hierarchy.{IsClass}
use Rattle.class_pool.specs.Resolution.{field_found, first_declared}
use Rattle.class_pool.specs.Walk.{own_superinterfaces}
use Rattle.link_check.proofs.references.found.field_found.Given as goal

abbrev pub invariant-loop-class : goal.invariant-loop-class
invariant-loop-class l = record {
  same : first_declared l.set (l.name, l.ty) (flat_map (λ d. d ∷ own_superinterfaces l.set d) l.class-iterator)
      ≡ field_found l.set l.fn.class (l.name, l.ty);
  there : All (IsClass l.set) l.class-iterator;
}
