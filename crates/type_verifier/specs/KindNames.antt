-- The names of the kinds of faults in texts (the project's own).
use Rattle.std.specs.Prelude.{ℕ, List, codes}
use Rattle.type_verifier.specs.declared.fault.TypeKind.{TypeKind}
use Rattle.type_verifier.specs.declared.fault.TypeKind.TheVariants.{NoFrame, Mismatch, Depth, Local, Operand, Protected}
use Rattle.type_verifier.specs.declared.fault.TypeKind.TheVariants.{Uninit, Handler, FallsOff}

abbrev pub type_name : TypeKind → List ℕ
type_name NoFrame = codes "NoFrame"
type_name Mismatch = codes "Mismatch"
type_name Depth = codes "Depth"
type_name Local = codes "Local"
type_name Operand = codes "Operand"
type_name Protected = codes "Protected"
type_name Uninit = codes "Uninit"
type_name Handler = codes "Handler"
type_name FallsOff = codes "FallsOff"
