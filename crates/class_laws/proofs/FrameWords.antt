-- The words that types take, and frames one behind the other (JVMS 4.7.4).
use Rattle.std.proofs.Common.{◌≡◌, suc, ◌+◌, ◌≤◌, List, [], ◌∷◌, length, ◌∙◌, arith}
use Rattle.std.specs.Prelude.{AllPairs}
use Rattle.std.proofs.lemmas.List.Sums.{sum_by-append}
use Rattle.class_model.specs.declared.frame.VType.{VType}
use Rattle.class_model.specs.declared.frame.VType.TheVariants as vtype
use Rattle.class_model.specs.declared.frame.FrameAt.{FrameAt}
use Rattle.class_model.specs.Frames.{words_of_type, words_of_types}
use Rattle.class_model.specs.WellFormed.{Ascend}

-- a type takes a word at least
pub some_words : (ty : VType) → 1 ≤ words_of_type ty
some_words vtype.Top = omega arith
some_words vtype.Int = omega arith
some_words vtype.Long = omega arith
some_words vtype.Null = omega arith
some_words vtype.UninitThis = omega arith
some_words (vtype.Object class) = omega arith
some_words (vtype.Uninit n) = omega arith

pub words_more : (ty : VType) (types : List VType)
    → words_of_types (ty ∷ types) ≡ words_of_type ty + words_of_types types
words_more ty types = sum_by-append words_of_type (ty ∷ []) types ∙ omega arith

-- each type takes a word at least
pub fewer_than_words : (types : List VType) → length types ≤ words_of_types types
fewer_than_words [] = omega arith
fewer_than_words (ty ∷ types) =
    let one = some_words ty in
    let others = fewer_than_words types in
    let both = words_more ty types in
    omega (arith, one, others, both)

-- each is behind the one before
pub tail_pairs : (frame : FrameAt) (frames : List FrameAt) → AllPairs Ascend (frame ∷ frames) → AllPairs Ascend frames
tail_pairs frame frames pairs = λ i j d lt within. pairs (suc i) (suc j) d (omega (arith, lt)) (omega (arith, within))
