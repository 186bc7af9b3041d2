use Rattle.std.proofs.Common.{◌≡◌, drop}
use Rattle.class_pool.specs.Resolution.{first_declared}
use Rattle.link_check.proofs.references.found.first_declared.Given as goal

abbrev pub invariant-loop-class : goal.invariant-loop-class
invariant-loop-class l = first_declared l.set (l.name, l.ty) (drop l.class-index l.classes)
    ≡ first_declared l.set (l.name, l.ty) l.classes
