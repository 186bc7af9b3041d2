use Rattle.std.proofs.Common.{◌≡◌, ◌++◌, map, drop}
use Rattle.class_model.specs.Frames.{vtype_of}
use Rattle.class_model.specs.CanonicalClass.{first_locals}
use Rattle.class_write.proofs.frames.first_frame.Given as goal

abbrev pub invariant-loop-ty : goal.invariant-loop-ty
invariant-loop-ty l = l.locals ++ map vtype_of (drop l.ty-index l.method.ty.args) ≡ first_locals l.class l.method
