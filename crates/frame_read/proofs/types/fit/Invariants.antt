use Rattle.std.proofs.Common.{◌≡◌, drop}
use Rattle.std.specs.Prelude.{nat_le}
use Rattle.class_model.specs.Frames.{words_of_types}
use Rattle.frame_read.proofs.types.fit.Given as goal

abbrev pub invariant-loop-ty : goal.invariant-loop-ty
invariant-loop-ty l = nat_le (words_of_types (drop l.ty-index l.types)) l.left ≡ nat_le (words_of_types l.types) l.words
