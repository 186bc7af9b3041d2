-- New names that are given in their order beside names that stay.
use Rattle.std.specs.Prelude.{◌≡◌, ℕ, Bool, true, false, ◌||◌, List, Some, slice_get, codes, map, not, IsTrue, IsUtf8}
use Rattle.std.specs.List.{AllByRecursion}
use Rattle.jv_base.specs.Names.{is_class_name, is_member_name, is_method_name}
use Rattle.class_model.specs.WellFormed.{IsName}
use Rattle.class_model.specs.declared.class.Class.{Class}
use Rattle.class_rename.specs.Names.{MethodName, Tables}
use Rattle.class_rename.specs.Renamed.{renamed}
use Rattle.class_laws.specs.SpellingLaws.{IsWritable}
use Rattle.fresh_names.specs.Fresh.{is_taken}
use Rattle.fresh_names.specs.Given.{class_names, front_of, names_given}
use Rattle.fresh_names.specs.Reserved.{reserved}
use Rattle.fresh_names.specs.declared.taken.Named.TheVariants as named
use Rattle.fresh_names.specs.declared.taken.TakenNames.{TakenNames}
use Rattle.pair_laws.specs.RenamedForm.Form.{KeepsForm, TypesAreKnown}

-- the names of classes that stay have those that nothing else gets in any case (the project's own)
abbrev pub HasReserved : TakenNames → Type 0
HasReserved taken = (a : List ℕ) → is_taken (reserved named.Class) a ≡ true → is_taken taken.classes a ≡ true

-- the new names of tables are names of their kind (JVMS 4.2)
pub record TellNames (old : Tables) : Type 0 where
  pub classes : AllByRecursion (λ (e : List ℕ × List ℕ). IsUtf8 e.1 × IsTrue (is_class_name e.1)) old.classes
  pub fields : AllByRecursion (λ (e : List ℕ × List ℕ). IsName is_member_name e.1) old.fields
  pub methods : AllByRecursion (λ (e : MethodName × List ℕ). IsName is_method_name e.1) old.methods

-- names that are given beside these are names of their kind, where those of the earlier mapping are, and no kept class
-- has the name of the library's String (JVMS 4.2)
abbrev pub GivenKeepsForm : Type 0
GivenKeepsForm = (taken : TakenNames) (old : Tables) (kept : List Class) → HasReserved taken → TellNames old
    → is_taken (class_names kept) (codes "java/lang/String") ≡ false → KeepsForm (names_given taken old kept)

-- the name of a kept class, or one that stays, or one in a package without kept classes, as those of the library (the
-- project's own)
abbrev pub is_known : TakenNames → List Class → List ℕ → Bool
is_known taken kept a = is_taken taken.classes a || is_taken (class_names kept) a
    || not (is_taken (map front_of (class_names kept)) (front_of a))

-- a kept class that can be written can be written under these names, where the types of its members name no class but
-- known ones (JVMS 4.1 to 4.9)
abbrev pub GivenAreWritable : Type 0
GivenAreWritable = (taken : TakenNames) (old : Tables) (kept : List Class) (k : ℕ) (c : Class) → HasReserved taken
    → TellNames old → is_taken (class_names kept) (codes "java/lang/String") ≡ false → slice_get kept k ≡ Some c
    → TypesAreKnown (is_known taken kept) c → IsWritable c → IsWritable (renamed (names_given taken old kept) c)
