-- What rules match whose names are to stay, whether or not they keep it (ProGuard manual, "Keep Options",
-- "allowobfuscation").
use Rattle.std.specs.Prelude.{ℕ, Bool, true, false, not, ◌&&◌, List, ◌∷◌, ◌++◌, map}
use Rattle.std.specs.List.{enumerate_from, list_any}
use Rattle.class_model.specs.declared.class.Class.{Class}
use Rattle.class_model.specs.declared.class.Field.{Field}
use Rattle.class_model.specs.declared.class.Method.{Method}
use Rattle.keep_rules.specs.declared.rules.Keep.{Keep}
use Rattle.keep_rules.specs.declared.rules.KeepKind.{KeepKind}
use Rattle.keep_rules.specs.declared.rules.KeepKind.TheVariants as kind
use Rattle.keep_rules.specs.declared.rules.Rules.{Rules}
use Rattle.keep_match.specs.Matches.{matches_class, matches_field, matches_method}
use Rattle.keep_match.specs.Seeds.{are_members_met}
use Rattle.keep_match.specs.declared.fixed.Fixes.{Fixes}
use Rattle.keep_match.specs.declared.fixed.Fixes.TheVariants as fixes

-- a rule is on classes, not on their members alone (ProGuard manual, "-keepclassmembers")
abbrev pub is_on_classes : KeepKind → Bool
is_on_classes kind.Keep = true
is_on_classes kind.Members = false
is_on_classes kind.WithMembers = true

-- a rule makes names of this kind stay, but for the modifier that says otherwise (ProGuard manual,
-- "includedescriptorclasses")
abbrev pub is_for : Fixes → Keep → Bool
is_for fixes.Classes k = is_on_classes k.kind
is_for fixes.Members k = true
is_for fixes.DescriptorClasses k = k.descriptor_classes

-- a rule makes them stay (ProGuard manual, "allowobfuscation")
abbrev pub fixes_names : Fixes → Keep → Bool
fixes_names what k = not k.allow_obfuscation && is_for what k

-- by a rule names of the class, which has this number, stay (ProGuard manual, "Keep Options")
unfoldable pub fixes_class : Fixes → List Class → ℕ → Class → Keep → Bool
fixes_class what classes n c k = fixes_names what k && matches_class k.spec classes n c
    && are_members_met k.kind k.spec.members c

-- by a rule names of a field of the class stay (ProGuard manual, "Keep Options")
abbrev pub fixes_field : Fixes → List Class → ℕ → Class → Field → Keep → Bool
fixes_field what classes n c f k = fixes_class what classes n c k
    && list_any (λ spec. matches_field spec f) k.spec.members

-- by a rule names of a method of the class stay (ProGuard manual, "Keep Options")
abbrev pub fixes_method : Fixes → List Class → ℕ → Class → Method → Keep → Bool
fixes_method what classes n c m k = fixes_class what classes n c k
    && list_any (λ spec. matches_method spec m) k.spec.members

-- for a class, its fields and its methods, whether names of it stay by a rule (ProGuard manual, "Keep Options")
abbrev pub are_fixed : Fixes → List Keep → List Class → ℕ × Class → List Bool
are_fixed what keeps classes (n, c) =
    list_any (fixes_class what classes n c) keeps
    ∷ (map (λ f. list_any (fixes_field what classes n c f) keeps) c.fields
    ++ map (λ m. list_any (fixes_method what classes n c m) keeps) c.methods)

-- the same for each class (ProGuard manual, "Keep Options")
abbrev pub fixed_rows : Fixes → Rules → List Class → List (List Bool)
fixed_rows what rules classes = map (are_fixed what rules.keeps classes) (enumerate_from 0 classes)
