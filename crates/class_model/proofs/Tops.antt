-- Types with the Tops at their end, and without them.
use Rattle.std.proofs.Common.{◌≡◌, ◌+◌, ◌*◌, ◌≤◌, true, false, List, [], ◌∷◌, ◌++◌, length, refl, ap, arith}
use Rattle.std.proofs.Common.{◌∙◌}
use Rattle.std.proofs.lemmas.List.Sums.{sum_by-append}
use Rattle.class_model.specs.declared.frame.VType.{VType}
use Rattle.class_model.specs.declared.frame.VType.TheVariants as vtype
use Rattle.class_model.specs.Frames.{before_cut, cut_tops, is_top, words_of_type, words_of_types}

-- a Top at the end is cut
pub cut_top : (types : List VType) → cut_tops (types ++ vtype.Top ∷ []) ≡ cut_tops types
cut_top [] = refl
cut_top (ty ∷ types) = ap (before_cut ty) (cut_top types)

before_some : (ty last : VType) (types : List VType) → before_cut ty (types ++ last ∷ []) ≡ ty ∷ (types ++ last ∷ [])
before_some vtype.Top last [] = refl
before_some vtype.Top last (x ∷ xs) = refl
before_some vtype.Int last types = refl
before_some vtype.Long last types = refl
before_some vtype.Null last types = refl
before_some vtype.UninitThis last types = refl
before_some (vtype.Object class) last types = refl
before_some (vtype.Uninit n) last types = refl

alone : (last : VType) → is_top last ≡ false → cut_tops (last ∷ []) ≡ last ∷ []
alone vtype.Top h = absurd cc
alone vtype.Int h = refl
alone vtype.Long h = refl
alone vtype.Null h = refl
alone vtype.UninitThis h = refl
alone (vtype.Object class) h = refl
alone (vtype.Uninit n) h = refl

top_is : (ty : VType) → is_top ty ≡ true → ty ≡ vtype.Top
top_is vtype.Top h = refl
top_is vtype.Int h = absurd cc
top_is vtype.Long h = absurd cc
top_is vtype.Null h = absurd cc
top_is vtype.UninitThis h = absurd cc
top_is (vtype.Object class) h = absurd cc
top_is (vtype.Uninit n) h = absurd cc

-- so is a type that is one
pub cut_last : (types : List VType) (last : VType) → is_top last ≡ true → cut_tops (types ++ last ∷ []) ≡ cut_tops types
cut_last types last h = ap (λ (ty : VType). cut_tops (types ++ ty ∷ [])) (top_is last h) ∙ cut_top types

-- another type at the end isn't, nor is what stands before it
pub cut_not : (types : List VType) (last : VType) → is_top last ≡ false
    → cut_tops (types ++ last ∷ []) ≡ types ++ last ∷ []
cut_not [] last h = alone last h
cut_not (ty ∷ types) last h = ap (before_cut ty) (cut_not types last h) ∙ before_some ty last types

-- the words of one more type
pub words_more : (types : List VType) (last : VType)
    → words_of_types (types ++ last ∷ []) ≡ words_of_types types + words_of_type last
words_more types last = sum_by-append words_of_type types (last ∷ []) ∙ omega arith

-- a type takes at most two words
pub few_words : (ty : VType) → words_of_type ty ≤ 2
few_words vtype.Top = omega arith
few_words vtype.Int = omega arith
few_words vtype.Long = omega arith
few_words vtype.Null = omega arith
few_words vtype.UninitThis = omega arith
few_words (vtype.Object class) = omega arith
few_words (vtype.Uninit n) = omega arith

-- so do all of them
pub words_few : (types : List VType) → words_of_types types ≤ 2 * length types
words_few [] = omega arith
words_few (ty ∷ types) =
    let more : words_of_types (ty ∷ types) ≡ words_of_type ty + words_of_types types
    = sum_by-append words_of_type (ty ∷ []) types ∙ omega arith in
    let few = words_few types in
    let one = few_words ty in
    let n : length (ty ∷ types) ≡ length types + 1 = omega arith in
    omega (arith, more, few, one, n)
