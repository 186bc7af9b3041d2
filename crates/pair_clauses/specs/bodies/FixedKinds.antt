-- The names that stay, by their kind (only the proof of fixed_fault needs it).
use Rattle.std.specs.Prelude.{Option, Some, None}
use Rattle.std.specs.Option.{option_copied}
use Rattle.fresh_names.specs.declared.taken.TakenNames.{TakenNames}
use Rattle.pair_clauses.specs.FixedNames.{Fixed, fixed_of}
use Rattle.pair_clauses.specs.declared.fixed.Kinds.{Kinds}

-- what they fix
abbrev pub fixed_kinds : Kinds → Fixed
fixed_kinds k = fixed_of (option_copied k.classes) (option_copied k.fields) (option_copied k.methods)

-- what gathered names fix; where none were gathered each name is fixed
abbrev pub fixed_among : Option TakenNames → Fixed
fixed_among None = fixed_of None None None
fixed_among (Some taken) = fixed_of (Some taken.classes) (Some taken.fields) (Some taken.methods)
