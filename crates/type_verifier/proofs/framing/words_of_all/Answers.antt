-- Answers of `words_of_all`: what its calls ask for, and what it promises.
use Rattle.std.proofs.Common.{sym, ap, ◌∙◌, List}
use Rattle.std.specs.List.{list_any}
use Rattle.class_model.specs.declared.frame.VType.{VType}
use Rattle.type_verifier.specs.bodies.Longs.{is_long}
use Rattle.type_verifier.proofs.Padding.{narrow}
use Rattle.type_verifier.proofs.framing.words_of_all.Goals as goal

pub returns-else-has_long : goal.returns-else-has_long
returns-else-has_long c =
    sym (narrow c.args.types.items (sym (c.has_long.ensures
    ∙ ap (λ (types : List VType). list_any is_long types) c.as_slice.ensures.value) ∙ c.if-has_long.false))
