-- Which types take two words (only the proof of the frames needs it).
use Rattle.std.specs.Prelude.{Bool, true, false}
use Rattle.class_model.specs.declared.frame.VType.{VType}
use Rattle.class_model.specs.declared.frame.VType.TheVariants as vtype

-- the type of a long
abbrev pub is_long : VType → Bool
is_long vtype.Long = true
is_long _ = false
