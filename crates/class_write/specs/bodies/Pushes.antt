-- The constants that the pushes of one method load (only the proof of write_class needs it).
use Rattle.std.specs.Prelude.{List, [], Option, Some, None}
use Rattle.std.specs.List.{flat_map}
use Rattle.class_model.specs.declared.constant.PoolConstant.{PoolConstant}
use Rattle.class_model.specs.declared.code.Code.{Code}
use Rattle.class_model.specs.declared.code.Ins.{Ins}
use Rattle.class_model.specs.CanonicalCode.{pushed_constants}

-- those of its code; a method without code pushes nothing
abbrev pub pushes_of_body : Option Code → List PoolConstant
pushes_of_body (Some code) = flat_map (λ (i : Ins). pushed_constants i.op) code.ins
pushes_of_body None = []
