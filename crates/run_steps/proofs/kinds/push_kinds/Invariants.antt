use Rattle.std.proofs.Common.{◌≡◌, ◌++◌, map, take}
use Rattle.jvm_model.specs.Types.{kind_of}
use Rattle.run_steps.proofs.kinds.push_kinds.Given as goal

abbrev pub invariant-loop-ty : goal.invariant-loop-ty
invariant-loop-ty l = l.kinds ≡ l.fn.kinds ++ map kind_of (take l.ty-index l.types)
