-- Answers of `words_of_arguments`: what its calls ask for, and what it promises.
use Rattle.std.proofs.Common.{◌∙◌, sym, map, refl, arith}
use Rattle.class_model.specs.Frames.{vtype_of}
use Rattle.jv_base.specs.declared.types.FieldType.{FieldType}
use Rattle.type_verifier.specs.Effects.{words_of_arguments, words_wanted}
use Rattle.type_verifier.specs.Rules.{Assignable}
use Rattle.type_verifier.proofs.Lists.{counted_all, sum_mapped, sum_reversed}
use Rattle.type_verifier.proofs.calls.words_of_arguments.Goals as goal

pub returns : goal.returns
returns c =
    counted_all words_of_arguments c.args.types.now c.loop-ty.ty-index c.loop-ty.words
    (words_of_arguments c.args.types.now) (omega (arith, c.loop-ty-test.false)) refl c.loop-ty.invariant
    ∙ sym
    (sum_reversed words_wanted (map (λ ty. Assignable (vtype_of ty)) c.args.types.now)
    ∙ sum_mapped words_wanted (λ (ty : FieldType). Assignable (vtype_of ty)) c.args.types.now)
