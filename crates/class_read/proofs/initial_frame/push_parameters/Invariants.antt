use Rattle.std.proofs.Common.{◌≡◌, ◌++◌, drop, map}
use Rattle.class_model.specs.Frames.{vtype_of}
use Rattle.class_read.proofs.initial_frame.push_parameters.Given as goal

abbrev pub invariant-loop-ty : goal.invariant-loop-ty
invariant-loop-ty l = l.locals ++ map vtype_of (drop l.ty-index l.parameters) ≡ l.fn.locals ++ map vtype_of l.parameters
