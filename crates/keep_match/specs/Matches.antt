-- What class and member specifications match (ProGuard manual, "Class Specifications").
use Rattle.std.specs.Prelude.{ℕ, Bool, true, false, not, ◌&&◌, ◌||◌, List, ◌++◌, map, codes, Option, Some, None}
use Rattle.std.specs.Prelude.{slice_get, slice_index_or}
use Rattle.std.specs.List.{list_any}
use Rattle.std.specs.Option.{option_map_or}
use Rattle.jv_base.specs.Names.{is_text}
use Rattle.class_model.specs.Flags.{is_clinit, is_interface}
use Rattle.class_model.specs.declared.class.Class.{Class}
use Rattle.class_model.specs.declared.class.Field.{Field}
use Rattle.class_model.specs.declared.class.Method.{Method}
use Rattle.class_pool.specs.declared.id.ClassId.TheVariants.{Prog}
use Rattle.class_pool.specs.Found.{name_of}
use Rattle.class_pool.specs.Walk.{supers}
use Rattle.keep_rules.specs.declared.rules.ClassSpec.{ClassSpec}
use Rattle.keep_rules.specs.declared.rules.MemberSpec.{MemberSpec}
use Rattle.keep_match.specs.declared.flag_word.FlagsOf.TheVariants as flags_of
use Rattle.keep_match.specs.FlagWords.{is_word_set}
use Rattle.keep_match.specs.Filters.{accepts, flags_met}
use Rattle.keep_match.specs.TypePatterns.{match_arguments, matches_result, matches_type}
use Rattle.keep_match.specs.Wildcards.{wild, wild_class}

-- ---- classes

-- `*` alone matches each class, and another pattern the names that it matches with dots
-- (ProGuard manual, "Class Specifications")
abbrev pub matches_class_name : List ℕ → List ℕ → Bool
matches_class_name pattern name = is_text pattern (codes "*") || wild_class pattern name

-- `class` stands for classes and interfaces; no class that is taken is an enum (ProGuard manual, "Class
-- Specifications"; that enums aren't taken is the project's own)
unfoldable pub is_kind_met : List ℕ → ℕ → Bool
is_kind_met kind flags = is_text kind (codes "class")
    || (is_text kind (codes "interface") && is_interface flags)
    || (is_text kind (codes "!interface") && not (is_interface flags))

-- a class above this one has a name that the pattern behind `extends` or `implements` matches
-- (ProGuard manual, "Class Specifications")
abbrev pub is_above_met : Option (List ℕ) → List Class → ℕ → Bool
is_above_met None classes n = true
is_above_met (Some pattern) classes n = list_any (λ id. matches_class_name pattern (name_of classes id))
    (supers classes (Prog n))

-- the class, which has this number, is matched but for its name (ProGuard manual, "Class Specifications")
abbrev pub matches_but_name : ClassSpec → List Class → ℕ → Class → Bool
matches_but_name spec classes n c =
    flags_met (is_word_set flags_of.Class c.flags.0) spec.flags && is_kind_met spec.kind c.flags.0
    && is_above_met spec.above classes n

-- the class, which has this number, is matched (ProGuard manual, "Class Specifications")
unfoldable pub matches_class : ClassSpec → List Class → ℕ → Class → Bool
matches_class spec classes n c = accepts (λ pattern. matches_class_name pattern c.name) spec.names
    && matches_but_name spec classes n c

-- the class of a number is matched (ProGuard manual, "Class Specifications")
abbrev pub class_matches : ClassSpec → List Class → ℕ → Bool
class_matches spec classes n = option_map_or (matches_class spec classes n) (slice_get classes n) false

-- ---- members

-- what stands for any member, and what for any of one kind (ProGuard manual, "Class Specifications")
abbrev pub is_all_or : List ℕ → List ℕ → Bool
is_all_or word name = is_text name (codes "*") || is_text name word

-- the form of a specification fits a field: `*`, `<fields>`, or a type and a name
-- (ProGuard manual, "Class Specifications")
abbrev pub fits_field : Option (List ℕ) → List ℕ → Option (List (List ℕ)) → Field → Bool
fits_field None name None f = is_all_or (codes "<fields>") name
fits_field (Some ty) name None f = wild name f.name && matches_type ty f.ty
fits_field ty name (Some args) f = false

-- the pattern of what a method gives; where there is none, as at a constructor, anything
-- (ProGuard manual, "Class Specifications")
abbrev pub is_result_met : Option (List ℕ) → Method → Bool
is_result_met None m = true
is_result_met (Some ty) m = matches_result ty m.ty.ret

-- the form of a specification fits a method: `*`, `<methods>`, or a name and parameters; the first two leave out class
-- initialisation methods (ProGuard manual, "Class Specifications"; JVMS 2.9)
abbrev pub fits_method : Option (List ℕ) → List ℕ → Option (List (List ℕ)) → Method → Bool
fits_method None name None m = is_all_or (codes "<methods>") name && not (is_clinit m.name)
fits_method (Some ty) name None m = false
fits_method ty name (Some args) m = wild name m.name && is_result_met ty m && match_arguments args m.ty.args

-- a field is matched (ProGuard manual, "Class Specifications")
unfoldable pub matches_field : MemberSpec → Field → Bool
matches_field spec f = fits_field spec.ty spec.name spec.args f
    && flags_met (is_word_set flags_of.Field f.flags.0) spec.flags

-- a method is matched (ProGuard manual, "Class Specifications")
unfoldable pub matches_method : MemberSpec → Method → Bool
matches_method spec m = fits_method spec.ty spec.name spec.args m
    && flags_met (is_word_set flags_of.Method m.flags.0) spec.flags

-- which members of a class are matched, in the order of their numbers: fields first, then methods
-- (the project's own: a member is told by its number)
abbrev pub members_matched : MemberSpec → Class → List Bool
members_matched spec c = map (matches_field spec) c.fields ++ map (matches_method spec) c.methods

-- the member of a number of the class of a number is matched (ProGuard manual, "Class Specifications")
abbrev pub member_matches : MemberSpec → List Class → ℕ → ℕ → Bool
member_matches spec classes n k =
    option_map_or (λ (c : Class). slice_index_or (members_matched spec c) k false) (slice_get classes n) false
