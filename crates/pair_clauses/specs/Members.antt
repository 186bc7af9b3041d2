-- The clause MemberDiffers: each class of the output is the class of the input with its kept members alone, under new
-- names, in what of it means something when it runs (JVMS 4.1, 4.5, 4.6, 4.7.2, 4.7.5). The attributes SourceFile,
-- Synthetic and Deprecated aren't compared.
use Rattle.std.specs.Prelude.{◌≡◌, ℕ, nat_lt, ◌||◌, List, map, length, Option, Some, None, is_some, slice_get}
use Rattle.std.specs.List.{filter_map, zip}
use Rattle.std.specs.Option.{option_and_then, option_map}
use Rattle.class_model.specs.declared.class.Class.{Class}
use Rattle.class_model.specs.declared.class.Field.{Field}
use Rattle.class_model.specs.declared.class.Method.{Method}
use Rattle.attribute_filter.specs.Filtered.{throws_kept}
use Rattle.attribute_filter.specs.declared.filter.AttributeFilter.{AttributeFilter}
use Rattle.mapping_file.specs.declared.mapping.Mapping.{Mapping}
use Rattle.class_rename.specs.Renamed.{renamed_method_type, renamed_type}
use Rattle.new_names.specs.NewNames.{names_of}
use Rattle.new_names.specs.declared.class_names.ClassNames.{ClassNames}
use Rattle.pair_clauses.specs.Finding.{FindsUnless, FirstOf, FirstUnlike, Then}
use Rattle.pair_clauses.specs.Places.{class_place, place_if, place_of_field, place_of_method}
use Rattle.pair_clauses.specs.Shape.{number_of}
use Rattle.pair_clauses.specs.declared.place.Place.{Place}

-- ---- what is expected

-- a field with its new name
abbrev pub NewField : Type 0
NewField = Field × List ℕ

-- a method with its new name
abbrev pub NewMethod : Type 0
NewMethod = Method × List ℕ

-- a member with its new name, where it has one
abbrev pub with_name : {A : Type 0} → A × Option (List ℕ) → Option (A × List ℕ)
with_name (x, new) = option_map (λ name. (x, name)) new

-- the fields of a class that have lines, with their new names
abbrev pub expected_fields : Class → ClassNames → List NewField
expected_fields c given = filter_map with_name (zip c.fields given.fields)

-- the methods of a class that have lines, with their new names
abbrev pub expected_methods : Class → ClassNames → List NewMethod
expected_methods c given = filter_map with_name (zip c.methods given.methods)

-- the class of the output that a class with a line has become, by its new name
abbrev pub new_one : List Class → ClassNames → Option Class
new_one output given =
    option_and_then (λ new. option_and_then (λ n. slice_get output n) (number_of output new)) given.class

-- a class with more members than expected
abbrev pub further_fault : Class → List NewField → List NewMethod → Class → Option Place
further_fault c fields methods out = place_if (nat_lt (length fields) (length out.fields)
    || nat_lt (length methods) (length out.methods)) (class_place c.name)

module _ (mapping : Mapping) where
  -- ---- what is compared

  -- a class in its flags, its superclass and its superinterfaces (JVMS 4.1)
  pub record IsSameClass (c out : Class) : Type 0 where
    pub flags : c.flags ≡ out.flags
    pub super_name : (names_of mapping).class c.super_name ≡ out.super_name
    pub interfaces : map (names_of mapping).class c.interfaces ≡ out.interfaces

  -- a field in its flags, name, type and constant (JVMS 4.5, 4.7.2)
  pub record IsSameField (expected : NewField) (out : Field) : Type 0 where
    pub flags : expected.0.flags ≡ out.flags
    pub name : expected.1 ≡ out.name
    pub ty : renamed_type (names_of mapping) expected.0.ty ≡ out.ty
    pub constant : expected.0.constant ≡ out.constant

  -- a method in its flags, name, type, whether it has a code, and its Exceptions as they are kept (JVMS 4.6, 4.7.5)
  pub record IsSameMethod (filter : AttributeFilter) (expected : NewMethod) (out : Method) : Type 0 where
    pub flags : expected.0.flags ≡ out.flags
    pub name : expected.1 ≡ out.name
    pub ty : renamed_method_type (names_of mapping) expected.0.ty ≡ out.ty
    pub code : is_some expected.0.code ≡ is_some out.code
    pub throws : map (names_of mapping).class (throws_kept filter expected.0.throws) ≡ out.throws

  -- ---- the places

  -- the methods of a class and of what it has become, and then members more
  abbrev pub MethodsDiffer : AttributeFilter → Class → List NewField → List NewMethod → Class → Option Place → Type 0
  MethodsDiffer filter c fields methods out =
      Then (FirstUnlike (IsSameMethod filter) (λ (e : NewMethod). place_of_method c e.0) methods out.methods)
      (λ found. found ≡ further_fault c fields methods out)

  -- a class and what it has become: the class itself, each expected field, each expected method, and members more
  abbrev pub ClassDiffers : AttributeFilter → Class → List NewField → List NewMethod → Class → Option Place → Type 0
  ClassDiffers filter c fields methods out = Then (FindsUnless (IsSameClass c out) (class_place c.name))
      (Then (FirstUnlike IsSameField (λ (e : NewField). place_of_field c e.0) fields out.fields)
      (MethodsDiffer filter c fields methods out))

  -- a class that has a line; one without it has become none
  abbrev pub LinedDiffers : AttributeFilter → Class → ClassNames → Option Class → Option Place → Type 0
  LinedDiffers filter c given None found = found ≡ None
  LinedDiffers filter c given (Some out) found =
      ClassDiffers filter c (expected_fields c given) (expected_methods c given) out found

  -- the first place of MemberDiffers, in the order of the classes
  abbrev pub MemberDiffers : AttributeFilter → List Class → List ClassNames → List Class → Option Place → Type 0
  MemberDiffers filter input given output found =
      FirstOf (λ (p : Class × ClassNames). LinedDiffers filter p.0 p.1 (new_one output p.1)) (zip input given) found
