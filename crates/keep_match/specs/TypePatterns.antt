-- Patterns of types (ProGuard manual, "Class Specifications").
use Rattle.std.specs.Prelude.{ℕ, suc, zero, ◌-◌, Bool, true, false, not, ◌&&◌, ◌||◌, List, [], ◌∷◌, take, length, codes}
use Rattle.std.specs.Prelude.{Option, Some, None, nat_eq, if◌then◌else◌}
use Rattle.std.specs.List.{ends_with}
use Rattle.std.specs.Option.{option_and_then, option_map_or}
use Rattle.jv_base.specs.External.{word_text}
use Rattle.jv_base.specs.Names.{is_text}
use Rattle.jv_base.specs.declared.types.Base.{Base}
use Rattle.jv_base.specs.declared.types.Base.TheVariants.{Class}
use Rattle.jv_base.specs.declared.types.FieldType.{FieldType}
use Rattle.keep_match.specs.Wildcards.{wild_class}

-- a text ends with a pair of brackets (JLS 10.1)
abbrev pub ends_with_pair : List ℕ → Bool
ends_with_pair text = ends_with nat_eq text (codes "[]")

-- a text without the pair of brackets with which it ends (JLS 10.1)
abbrev pub without_pair : List ℕ → Option (List ℕ)
without_pair text = if ends_with_pair text then Some (take (length text - 2) text) else None

-- the same without so many (JLS 10.1)
unfoldable pub without_pairs : ℕ → List ℕ → Option (List ℕ)
without_pairs zero text = Some text
without_pairs (suc n) text = option_and_then (without_pairs n) (without_pair text)

-- wildcards for class names match classes alone; `%` and `***` match each other type, and so does its word
-- (ProGuard manual, "Class Specifications")
unfoldable pub matches_element : List ℕ → Base → Bool
matches_element pattern (Class name) = wild_class pattern name
matches_element pattern base = is_text pattern (codes "%") || is_text pattern (codes "***")
    || is_text pattern (word_text base)

-- the pattern of an element's type, and behind it exactly as many pairs of brackets as the array has dimensions
-- (ProGuard manual, "Class Specifications")
abbrev pub matches_array : List ℕ → FieldType → Bool
matches_array pattern ty =
    option_map_or (λ front. not (ends_with_pair front) && matches_element front ty.base)
    (without_pairs ty.dims pattern) false

-- `***` matches each type (ProGuard manual, "Class Specifications")
unfoldable pub matches_type : List ℕ → FieldType → Bool
matches_type pattern ty = is_text pattern (codes "***") || matches_array pattern ty

-- the same of what a method gives, which may be void (ProGuard manual, "Class Specifications")
unfoldable pub matches_result : List ℕ → Option FieldType → Bool
matches_result pattern None = is_text pattern (codes "***") || is_text pattern (codes "void")
matches_result pattern (Some ty) = matches_type pattern ty

-- each type is matched by the pattern at its place (ProGuard manual, "Class Specifications")
unfoldable pub match_each : List (List ℕ) → List FieldType → Bool
match_each [] [] = true
match_each [] (ty ∷ tys) = false
match_each (p ∷ ps) [] = false
match_each (p ∷ ps) (ty ∷ tys) = matches_type p ty && match_each ps tys

-- `...` alone, for any parameters (ProGuard manual, "Class Specifications")
abbrev pub are_any : List (List ℕ) → Bool
are_any [] = false
are_any (p ∷ []) = is_text p (codes "...")
are_any (p ∷ (q ∷ ps)) = false

-- the patterns match the parameters' types (ProGuard manual, "Class Specifications")
abbrev pub match_arguments : List (List ℕ) → List FieldType → Bool
match_arguments patterns tys = are_any patterns || match_each patterns tys
