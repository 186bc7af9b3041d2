use Rattle.std.proofs.Common.{◌≡◌, take}
use Rattle.rename_map.proofs.mapping.types_copy.Given as goal

abbrev pub invariant-loop-ty : goal.invariant-loop-ty
invariant-loop-ty l = l.copies ≡ take l.ty-index l.types
