use Rattle.std.proofs.Common.{◌≡◌, ◌+◌, drop}
use Rattle.jv_base.specs.Types.{argument_words}
use Rattle.jv_base.proofs.arguments.argument_words.Given as goal

abbrev pub invariant-loop-ty : goal.invariant-loop-ty
invariant-loop-ty l = l.words + argument_words (drop l.ty-index l.args) ≡ argument_words l.args
