-- The words of arguments.
use Rattle.std.proofs.Common.{◌≡◌, ◌+◌, List, [], ◌∷◌, ◌++◌, refl, ◌∙◌, arith}
use Rattle.std.proofs.lemmas.List.Sums.{sum_by-append}
use Rattle.jv_base.specs.Types.{argument_words, words_of}
use Rattle.jv_base.specs.declared.types.FieldType.{FieldType}

pub words_more : (args : List FieldType) (ty : FieldType)
    → argument_words (args ++ ty ∷ []) ≡ argument_words args + words_of ty
unfolding argument_words
words_more args ty = sum_by-append words_of args (ty ∷ []) ∙ omega arith

pub no_words : argument_words [] ≡ 0
unfolding argument_words
no_words = refl
