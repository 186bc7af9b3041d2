-- What rules on members alone ask for, of classes that are kept for another reason (ProGuard manual,
-- "-keepclassmembers").
use Rattle.std.specs.Prelude.{ℕ, Bool, true, false, not, ◌&&◌, List, ◌++◌, map}
use Rattle.std.specs.List.{enumerate_from, list_any}
use Rattle.class_model.specs.declared.class.Class.{Class}
use Rattle.class_model.specs.declared.class.Field.{Field}
use Rattle.class_model.specs.declared.class.Method.{Method}
use Rattle.keep_rules.specs.declared.rules.Keep.{Keep}
use Rattle.keep_rules.specs.declared.rules.KeepKind.{KeepKind}
use Rattle.keep_rules.specs.declared.rules.KeepKind.TheVariants as kind
use Rattle.keep_rules.specs.declared.rules.Rules.{Rules}
use Rattle.keep_match.specs.Matches.{matches_class, matches_field, matches_method}
use Rattle.keep_match.specs.Seeds.{places_of_true}

-- a rule asks for members: it is one on members alone, and none by which what matches may be dropped
-- (ProGuard manual, "-keepclassmembers", "allowshrinking")
abbrev pub asks_members : Keep → Bool
asks_members k = not k.allow_shrinking && is_on_members k.kind where
  is_on_members : KeepKind → Bool
  is_on_members kind.Keep = false
  is_on_members kind.Members = true
  is_on_members kind.WithMembers = false

-- a rule asks for members of the class, which has this number (ProGuard manual, "-keepclassmembers")
unfoldable pub asks_class : List Class → ℕ → Class → Keep → Bool
asks_class classes n c k = asks_members k && matches_class k.spec classes n c

-- a rule asks for a field of the class (ProGuard manual, "-keepclassmembers")
abbrev pub asks_field : List Class → ℕ → Class → Field → Keep → Bool
asks_field classes n c f k = asks_class classes n c k && list_any (λ spec. matches_field spec f) k.spec.members

-- a rule asks for a method of the class (ProGuard manual, "-keepclassmembers")
abbrev pub asks_method : List Class → ℕ → Class → Method → Keep → Bool
asks_method classes n c m k = asks_class classes n c k && list_any (λ spec. matches_method spec m) k.spec.members

-- for each member of a class, fields first and then methods, whether a rule asks for it
-- (ProGuard manual, "-keepclassmembers"; the numbers of members are the project's own)
abbrev pub are_asked : List Keep → List Class → ℕ × Class → List Bool
are_asked keeps classes (n, c) =
    map (λ f. list_any (asks_field classes n c f) keeps) c.fields
    ++ map (λ m. list_any (asks_method classes n c m) keeps) c.methods

-- for each class the numbers of the members that a rule asks for, ascending, each once
-- (ProGuard manual, "-keepclassmembers")
abbrev pub members_asked : Rules → List Class → List (List ℕ)
members_asked rules classes = map (λ p. places_of_true 0 (are_asked rules.keeps classes p)) (enumerate_from 0 classes)
