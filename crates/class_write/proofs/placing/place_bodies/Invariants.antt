use Rattle.std.proofs.Common.{◌≡◌, drop, take}
use Rattle.class_model.specs.declared.class.Method.{Method}
use Rattle.class_model.specs.WriteLimits.{first_of, code_fits}
use Rattle.class_write.specs.bodies.Placing.{placed_bodies}
use Rattle.class_write.proofs.placing.place_bodies.Given as goal

abbrev pub invariant-loop-method : goal.invariant-loop-method
invariant-loop-method l =
    (l.placed ≡ placed_bodies l.pool (take l.method-index l.methods))
    × (first_of (λ (m : Method). code_fits l.pool m.code) (drop l.method-index l.methods)
    ≡ first_of (λ (m : Method). code_fits l.pool m.code) l.methods)
