-- What is kept by rules (ProGuard manual, "Keep Options").
use Rattle.std.specs.Prelude.{ℕ, ◌+◌, Bool, true, false, not, ◌&&◌, List, [], ◌∷◌, ◌++◌, map, if◌then◌else◌}
use Rattle.std.specs.List.{enumerate_from, flat_map, list_all, list_any}
use Rattle.class_model.specs.declared.class.Class.{Class}
use Rattle.class_model.specs.declared.class.Field.{Field}
use Rattle.class_model.specs.declared.class.Method.{Method}
use Rattle.keep_rules.specs.declared.rules.Keep.{Keep}
use Rattle.keep_rules.specs.declared.rules.KeepKind.{KeepKind}
use Rattle.keep_rules.specs.declared.rules.KeepKind.TheVariants as kind
use Rattle.keep_rules.specs.declared.rules.MemberSpec.{MemberSpec}
use Rattle.keep_rules.specs.declared.rules.Rules.{Rules}
use Rattle.keep_match.specs.Matches.{matches_class, matches_field, matches_method, members_matched}

-- a member of the class is matched (ProGuard manual, "-keepclasseswithmembers")
abbrev pub has_match : Class → MemberSpec → Bool
has_match c spec = list_any (λ b. b) (members_matched spec c)

-- a rule keeps classes: it is no rule on members alone, and none by which what matches may be dropped
-- (ProGuard manual, "Keep Options", "allowshrinking")
abbrev pub keeps_classes : Keep → Bool
keeps_classes k = not k.allow_shrinking && is_on_classes k.kind where
  is_on_classes : KeepKind → Bool
  is_on_classes kind.Keep = true
  is_on_classes kind.Members = false
  is_on_classes kind.WithMembers = true

-- what a rule asks of the members of a class (ProGuard manual, "-keepclasseswithmembers")
abbrev pub are_members_met : KeepKind → List MemberSpec → Class → Bool
are_members_met kind.Keep specs c = true
are_members_met kind.Members specs c = true
are_members_met kind.WithMembers specs c = list_all (has_match c) specs

-- a rule keeps the class, which has this number (ProGuard manual, "Keep Options")
unfoldable pub keeps_class : List Class → ℕ → Class → Keep → Bool
keeps_class classes n c k = keeps_classes k && matches_class k.spec classes n c
    && are_members_met k.kind k.spec.members c

-- a rule keeps a field of the class (ProGuard manual, "Keep Options")
abbrev pub keeps_field : List Class → ℕ → Class → Field → Keep → Bool
keeps_field classes n c f k = keeps_class classes n c k && list_any (λ spec. matches_field spec f) k.spec.members

-- a rule keeps a method of the class (ProGuard manual, "Keep Options")
abbrev pub keeps_method : List Class → ℕ → Class → Method → Keep → Bool
keeps_method classes n c m k = keeps_class classes n c k && list_any (λ spec. matches_method spec m) k.spec.members

-- for a class and its members, in the order of their items, whether a rule keeps it
-- (ProGuard manual, "Keep Options"; the numbers of items are the project's own)
abbrev pub are_kept : List Keep → List Class → ℕ × Class → List Bool
are_kept keeps classes (n, c) =
    list_any (keeps_class classes n c) keeps
    ∷ (map (λ f. list_any (keeps_field classes n c f) keeps) c.fields
    ++ map (λ m. list_any (keeps_method classes n c m) keeps) c.methods)

-- the places of a list that have true, counted from n
abbrev pub places_of_true : ℕ → List Bool → List ℕ
places_of_true n [] = []
places_of_true n (b ∷ bs) = if b then n ∷ places_of_true (n + 1) bs else places_of_true (n + 1) bs

-- the items that a rule keeps, ascending, each once (ProGuard manual, "-printseeds")
abbrev pub seeds_of : Rules → List Class → List ℕ
seeds_of rules classes = places_of_true 0 (flat_map (are_kept rules.keeps classes) (enumerate_from 0 classes))
