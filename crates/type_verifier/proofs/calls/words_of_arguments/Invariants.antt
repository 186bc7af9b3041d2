use Rattle.std.proofs.Common.{◌≡◌, ◌+◌, drop}
use Rattle.type_verifier.specs.Effects.{words_of_arguments}
use Rattle.type_verifier.proofs.calls.words_of_arguments.Given as goal

abbrev pub invariant-loop-ty : goal.invariant-loop-ty
invariant-loop-ty l = l.words + words_of_arguments (drop l.ty-index l.types) ≡ words_of_arguments l.types
