-- The clauses FixedName and Package: names that may not change, names that nothing else gets, and packages, which stay
-- (ProGuard manual, "Keep Options", "-keepnames", "-dontobfuscate"; JVMS 5.3).
use Rattle.std.specs.Prelude.{◌≡◌, ℕ, Bool, true, false, not, ◌||◌, List, Option, Some, None, if◌then◌else◌}
use Rattle.std.specs.List.{zip}
use Rattle.std.specs.Option.{option_or}
use Rattle.jv_base.specs.Names.{is_text}
use Rattle.class_model.specs.declared.class.Class.{Class}
use Rattle.class_model.specs.declared.class.Field.{Field}
use Rattle.class_model.specs.declared.class.Method.{Method}
use Rattle.class_pool.specs.Found.{package_of}
use Rattle.keep_rules.specs.declared.rules.Rules.{Rules}
use Rattle.jv_base.specs.Types.{method_text}
use Rattle.class_rename.specs.Names.{MethodName}
use Rattle.fresh_names.specs.Fresh.{is_taken}
use Rattle.fresh_names.specs.Given.{stays_for}
use Rattle.rename_map.specs.Fixed.{names_that_stay}
use Rattle.new_names.specs.declared.class_names.ClassNames.{ClassNames}
use Rattle.pair_clauses.specs.Finding.{first_place}
use Rattle.pair_clauses.specs.Places.{class_place, place_if, place_of_field, place_of_method}
use Rattle.pair_clauses.specs.declared.place.Place.{Place}

-- ---- which names are fixed

-- whether a name is fixed, of a class, of a field, and of a method with a descriptor
pub record Fixed : Type 0 where
  pub class : List ℕ → Bool
  pub field : List ℕ → Bool
  pub method : List ℕ → List ℕ → Bool

-- without obfuscation each name is fixed, and else those are that stay by the rules over the whole input: the library's
-- names of members, and those of initialisation methods, among them (ProGuard manual, "-keepnames", "-dontobfuscate")
abbrev pub fixed_by : Rules → List Class → Fixed
fixed_by rules input = record {
  class = λ name. not rules.obfuscate || is_taken (names_that_stay rules input).classes name;
  field = λ name. not rules.obfuscate || is_taken (names_that_stay rules input).fields name;
  method = λ descriptor name. not rules.obfuscate
      || is_taken (stays_for (names_that_stay rules input).methods descriptor) name;
}

-- a name is among these; where none are given each one is
abbrev pub is_among : Option (List (List ℕ)) → List ℕ → Bool
is_among None name = true
is_among (Some names) name = is_taken names name

-- the name of a method with a descriptor stays where these are fixed; where none are given each one does
abbrev pub is_among_methods : Option (List MethodName) → List ℕ → List ℕ → Bool
is_among_methods None descriptor name = true
is_among_methods (Some methods) descriptor name = is_taken (stays_for methods descriptor) name

-- these names are fixed, of each kind
abbrev pub fixed_of : Option (List (List ℕ)) → Option (List (List ℕ)) → Option (List MethodName) → Fixed
fixed_of classes fields methods = record {
  class = is_among classes;
  field = is_among fields;
  method = is_among_methods methods;
}

-- ---- FixedName

module _ (is_fixed : List ℕ → Bool) where
  -- a fixed name has another new one, or a name that isn't fixed has a fixed one
  abbrev pub is_misnamed : List ℕ → List ℕ → Bool
  is_misnamed old new = if is_fixed old then not (is_text old new) else is_fixed new

  -- the same of a name that may have no new one
  abbrev pub is_renamed : List ℕ → Option (List ℕ) → Bool
  is_renamed old None = false
  is_renamed old (Some new) = is_misnamed old new

  -- a field with its new name, if it has one
  abbrev pub field_fault : Class → Field × Option (List ℕ) → Option Place
  field_fault c (f, new) = place_if (is_renamed f.name new) (place_of_field c f)

-- the same of a method, by what is fixed for its descriptor
abbrev pub method_fault : (List ℕ → List ℕ → Bool) → Class → Method × Option (List ℕ) → Option Place
method_fault is_fixed c (m, new) =
    place_if (is_renamed (is_fixed (method_text m.ty)) m.name new) (place_of_method c m)

-- a class, its fields and its methods: the first whose name isn't as it has to be
abbrev pub fixed_in : Fixed → Class × ClassNames → Option Place
fixed_in fixed (c, given) = option_or (place_if (is_renamed fixed.class c.name given.class) (class_place c.name))
    (option_or (first_place (field_fault fixed.field c) (zip c.fields given.fields))
    (first_place (method_fault fixed.method c) (zip c.methods given.methods)))

-- the first place of FixedName, in the order of items
abbrev pub fixed_fault : Fixed → List Class → List ClassNames → Option Place
fixed_fault fixed input given = first_place (fixed_in fixed) (zip input given)

-- ---- Package

-- a class has a new name, and that is in another package
abbrev pub is_moved : List ℕ → Option (List ℕ) → Bool
is_moved old None = false
is_moved old (Some new) = not (is_text (package_of old) (package_of new))

-- a class in another package
abbrev pub moved_in : Class × ClassNames → Option Place
moved_in (c, given) = place_if (is_moved c.name given.class) (class_place c.name)

-- the first place of Package, in the order of classes
abbrev pub package_fault : List Class → List ClassNames → Option Place
package_fault input given = first_place moved_in (zip input given)
