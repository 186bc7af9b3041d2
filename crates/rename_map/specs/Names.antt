-- New names of what is kept of a set (ProGuard manual, "Usage": obfuscation).
use Rattle.std.specs.Prelude.{◌≡◌, ℕ, true, false, List, Option, Some, None, if◌then◌else◌}
use Rattle.class_model.specs.declared.class.Class.{Class}
use Rattle.keep_rules.specs.declared.rules.Rules.{Rules}
use Rattle.class_rename.specs.Names.{Names, Tables, same_names}
use Rattle.fresh_names.specs.Fresh.{is_taken}
use Rattle.fresh_names.specs.Given.{class_given, class_names, field_given, field_names, method_given, method_names}
use Rattle.fresh_names.specs.Given.{stays_for}
use Rattle.fresh_names.specs.declared.taken.TakenNames.{TakenNames}
use Rattle.mapping_file.specs.declared.mapping.Mapping.{Mapping}
use Rattle.new_names.specs.NewNames.{tables_of}
use Rattle.rename_map.specs.Fixed.{Stay, names_that_stay}

-- each kept class gets a new name in its package, all fields of a name get one, and all methods of a name and a
-- descriptor; names that stay are skipped, and what an earlier mapping has comes first (ProGuard manual, "Usage":
-- obfuscation, "-applymapping"; the order is that in which names stand first)
abbrev pub given_beside : Stay → Tables → List Class → Names
given_beside stay old kept = record {
  class = class_given old.classes stay.classes (class_names kept);
  field = field_given old.fields stay.fields (field_names kept);
  method = method_given old.methods stay.methods (method_names kept);
}

-- the new names of kept classes of a set, for rules and an earlier mapping, if there is one; without obfuscation all
-- names stay (ProGuard manual, "-dontobfuscate")
abbrev pub names_of : List Class → List Class → Rules → Option Mapping → Names
names_of input kept rules old =
    if rules.obfuscate then given_beside (names_that_stay rules input) (tables_of old) kept else same_names

-- two lists have the same names (the project's own: in which order doesn't matter)
abbrev pub AreSame : List (List ℕ) → List (List ℕ) → Type 0
AreSame xs ys = (a : List ℕ) → is_taken xs a ≡ is_taken ys a

-- these are the names that stay
pub record StaySo (taken : TakenNames) (stay : Stay) : Type 0 where
  pub classes : AreSame taken.classes stay.classes
  pub fields : AreSame taken.fields stay.fields
  pub methods : (descriptor : List ℕ)
      → AreSame (stays_for taken.methods descriptor) (stays_for stay.methods descriptor)

-- the names that stay by rules, where not all stay
abbrev pub AreFixed : Rules → List Class → Option TakenNames → Type 0
AreFixed rules input None = rules.obfuscate ≡ false
AreFixed rules input (Some taken) = (rules.obfuscate ≡ true) × StaySo taken (names_that_stay rules input)
