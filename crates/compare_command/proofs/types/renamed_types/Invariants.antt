use Rattle.std.proofs.Common.{◌≡◌, map, take}
use Rattle.class_rename.specs.Renamed.{renamed_type}
use Rattle.new_names.specs.NewNames.{names_of}
use Rattle.compare_command.proofs.types.renamed_types.Given as goal

abbrev pub invariant-loop-ty : goal.invariant-loop-ty
invariant-loop-ty l = l.renamed ≡ map (renamed_type (names_of l.names)) (take l.ty-index l.types)
