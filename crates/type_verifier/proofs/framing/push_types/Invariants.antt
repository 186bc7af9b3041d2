use Rattle.std.proofs.Common.{◌≡◌, ◌++◌, drop, map}
use Rattle.class_model.specs.Frames.{vtype_of}
use Rattle.type_verifier.proofs.framing.push_types.Given as goal

abbrev pub invariant-loop-ty : goal.invariant-loop-ty
invariant-loop-ty l = l.locals.items ++ map vtype_of (drop l.ty-index l.types)
    ≡ l.fn.locals.items ++ map vtype_of l.types
