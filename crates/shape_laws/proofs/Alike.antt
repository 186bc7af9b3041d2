-- What is asked of a set of classes is as it was where a change leaves members alone. Each lemma is
-- named after the definition of which it says so, as an equation of functions, and goes the
-- definition's way.
use Rattle.std.proofs.Common.{◌≡◌, ℕ, zero, suc, not, ◌&&◌, ◌||◌, true, false, cond}
use Rattle.std.proofs.Common.{List, [], ◌∷◌}
use Rattle.std.proofs.Common.{map, Option, Some, None, slice_get, refl, ap, ◌∙◌}
use Rattle.std.proofs.Common.{codes}
use Rattle.std.proofs.Common.{filter}
use Rattle.std.specs.List.{filter_map, find, flat_map, list_any, position}
use Rattle.std.specs.Option.{option_and_then, option_map, option_map_or, option_or}
use Rattle.std.proofs.lemmas.Option.{slice_get-map}
use Rattle.jv_base.specs.Names.{is_text}
use Rattle.class_model.specs.Flags.{acc_abstract, acc_private, acc_protected, acc_public}
use Rattle.class_model.specs.Flags.{acc_static, has, is_init}
use Rattle.class_model.specs.declared.class.Class.{Class}
use Rattle.lib_table.specs.Lookups as table
use Rattle.lib_table.specs.declared.class.LibKind.TheVariants.{Open}
use Rattle.lib_table.proofs.Classes.{position_map}
use Rattle.class_pool.specs.Found.{declared_by, declared_in, has_flag}
use Rattle.class_pool.specs.Found.{is_instance_method, is_instance_row}
use Rattle.class_pool.specs.Found.{name_of, named_at, package_of, row_at, rows_in, same_member}
use Rattle.class_pool.specs.Found.{same_package}
use Rattle.class_pool.specs.Hierarchy.{class_named, interfaces, is_interface_kind, kind_in, kind_of}
use Rattle.class_pool.specs.Hierarchy.{or_found}
use Rattle.class_pool.specs.Hierarchy.{superclass, superclass_of}
use Rattle.class_pool.specs.Members.{declared_at, member_named}
use Rattle.class_pool.specs.Resolution.{chosen, class_method_found, field_found, first}
use Rattle.class_pool.specs.Resolution.{interface_method_found}
use Rattle.class_pool.specs.Resolution.{is_class_accessible, is_class_below, is_interface_in}
use Rattle.class_pool.specs.Resolution.{is_maximally_specific}
use Rattle.class_pool.specs.Resolution.{is_member_accessible, is_open, is_protected_accessible}
use Rattle.class_pool.specs.Resolution.{is_public_class}
use Rattle.class_pool.specs.Resolution.{maximally_specific, method_found, object_method, only_one}
use Rattle.class_pool.specs.Resolution.{superinterface_methods}
use Rattle.class_pool.specs.Selection.{first_instance, may_be_overridden, may_override, overrides}
use Rattle.class_pool.specs.Selection.{overriding}
use Rattle.class_pool.specs.Selection.{overriding_from, selected, selected_special, with_nearest}
use Rattle.class_pool.specs.Walk.{highest, own_superinterfaces, same_class, superclasses_from}
use Rattle.class_pool.specs.Walk.{superinterfaces}
use Rattle.class_pool.specs.Walk.{upwards, walked}
use Rattle.class_pool.specs.declared.id.ClassId.{ClassId}
use Rattle.class_pool.specs.declared.id.ClassId.TheVariants.{Prog, Lib}
use Rattle.class_pool.specs.declared.id.MemberAt.{MemberAt}
use Rattle.shape_laws.specs.KeepsMembers.{KeepsMembers, rows_of}

module _ (f : Class → Class) (keeps : KeepsMembers f) (a : List Class) where
  abbrev pub b : List Class
  b = map f a

  -- ---- classes

  -- what is told of a class by what no attribute says
  pub told : {A : Type 0} (h : Class → A) (d : A) → ((c : Class) → h (f c) ≡ h c) → (n : ℕ)
      → option_map_or h (slice_get b n) d ≡ option_map_or h (slice_get a n) d
  told {A} h d same n =
      ap (λ o. option_map_or h o d) (slice_get-map f a n) ∙ by (slice_get a n)
    where
      by : (o : Option Class) → option_map_or h (option_map f o) d ≡ option_map_or h o d
      by None = refl
      by (Some c) = same c

  class_named_at : (name : List ℕ) → class_named b name ≡ class_named a name
  class_named_at name = ap (λ o. or_found o (option_map Lib (table.class_named name)))
      (position_map f (λ c. is_text name c.name) a
      ∙ (λ i. position (λ c. is_text name (keeps.name c i)) a))

  pub class_named_is : class_named b ≡ class_named a
  class_named_is = λ i name. class_named_at name i

  superclass_at : (x : ClassId) → superclass b x ≡ superclass a x
  superclass_at (Prog n) =
      ap (option_and_then (superclass_of b)) (slice_get-map f a n) ∙ by (slice_get a n)
    where
      by : (o : Option Class)
          → option_and_then (superclass_of b) (option_map f o) ≡ option_and_then (superclass_of a) o
      by None = refl
      by (Some c) = ap (class_named b) (keeps.super_name c) ∙ class_named_at c.super_name
  superclass_at (Lib id) = refl

  pub superclass_is : superclass b ≡ superclass a
  superclass_is = λ i x. superclass_at x i

  interfaces_at : (x : ClassId) → interfaces b x ≡ interfaces a x
  interfaces_at (Prog n) =
      told (λ c. filter_map (class_named b) c.interfaces) []
      (λ c. ap (filter_map (class_named b)) (keeps.interfaces c)) n
      ∙ (λ i. option_map_or (λ c. filter_map (class_named_is i) c.interfaces) (slice_get a n) [])
  interfaces_at (Lib id) = refl

  pub interfaces_is : interfaces b ≡ interfaces a
  interfaces_is = λ i x. interfaces_at x i

  kind_in_at : (x : ClassId) → kind_in b x ≡ kind_in a x
  kind_in_at (Prog n) = told kind_of Open keeps.kind n
  kind_in_at (Lib id) = refl

  pub kind_in_is : kind_in b ≡ kind_in a
  kind_in_is = λ i x. kind_in_at x i

  pub is_interface_in_is : is_interface_in b ≡ is_interface_in a
  is_interface_in_is = λ i x. is_interface_kind (kind_in_is i x)

  pub name_of_at : (x : ClassId) → name_of b x ≡ name_of a x
  name_of_at (Prog n) = told (λ c. c.name) [] keeps.name n
  name_of_at (Lib id) = refl

  pub same_package_is : same_package b ≡ same_package a
  same_package_is = λ i x y. is_text (package_of (name_of_at x i)) (package_of (name_of_at y i))

  pub is_public_at : (x : ClassId) → is_public_class b x ≡ is_public_class a x
  is_public_at (Prog n) = told (λ c. has acc_public c.flags.0) false keeps.is_public n
  is_public_at (Lib id) = refl

  -- ---- walks (JVMS 5.4.3)

  upwards_is : (n : ℕ) → upwards n b ≡ upwards n a
  unfolding upwards
  upwards_is zero = λ i x. []
  upwards_is (suc n) = λ i x. x ∷ option_map_or (upwards_is n i) (superclass_is i x) []

  walked_is : (n : ℕ) → walked n b ≡ walked n a
  unfolding walked
  walked_is zero = λ i xs. []
  walked_is (suc n) = λ i xs. flat_map (λ x. x ∷ walked_is n i (interfaces_is i x)) xs

  pub superclasses_from_is : superclasses_from b ≡ superclasses_from a
  superclasses_from_is = upwards_is highest

  own_superinterfaces_is : own_superinterfaces b ≡ own_superinterfaces a
  own_superinterfaces_is = λ i x. walked_is highest i (interfaces_is i x)

  pub superinterfaces_is : superinterfaces b ≡ superinterfaces a
  superinterfaces_is = λ i x. flat_map (own_superinterfaces_is i) (superclasses_from_is i x)

  -- ---- members

  rows_in_at : (x : ClassId) → rows_in b x ≡ rows_in a x
  rows_in_at (Prog n) = told rows_of [] keeps.rows n
  rows_in_at (Lib id) = refl

  pub rows_in_is : rows_in b ≡ rows_in a
  rows_in_is = λ i x. rows_in_at x i

  pub row_at_is : row_at b ≡ row_at a
  row_at_is = λ i m. slice_get (rows_in_is i m.class) m.index

  pub has_flag_is : has_flag b ≡ has_flag a
  has_flag_is = λ i flag m. option_map_or (λ row. has flag row.flags) (row_at_is i m) false

  pub is_instance_method_is : is_instance_method b ≡ is_instance_method a
  is_instance_method_is = λ i m. option_map_or is_instance_row (row_at_is i m) false

  pub named_at_is : named_at b ≡ named_at a
  named_at_is = λ i m. option_map_or (λ row. row.named) (row_at_is i m) ([], [])

  pub declared_at_at : (x : ClassId) (name ty : List ℕ)
      → declared_at b x name ty ≡ declared_at a x name ty
  declared_at_at (Prog n) name ty =
      ap (option_and_then (λ c. member_named c name ty)) (slice_get-map f a n) ∙ by (slice_get a n)
    where
      by : (o : Option Class)
          → option_and_then (λ c. member_named c name ty) (option_map f o)
          ≡ option_and_then (λ c. member_named c name ty) o
      by None = refl
      by (Some c) = keeps.named c name ty
  declared_at_at (Lib id) name ty = refl

  pub declared_in_is : declared_in b ≡ declared_in a
  declared_in_is =
      λ i named x. option_map (λ n. record { class = x; index = n })
      (declared_at_at x named.0 named.1 i)

  pub declared_by_is : declared_by b ≡ declared_by a
  declared_by_is = λ i named xs. filter_map (declared_in_is i named) xs

  -- ---- resolution (JVMS 5.4.3)

  pub field_found_is : field_found b ≡ field_found a
  field_found_is = λ i x named. first (declared_by_is i named
      (flat_map (λ d. d ∷ own_superinterfaces_is i d) (superclasses_from_is i x)))

  is_open_is : is_open b ≡ is_open a
  is_open_is = λ i m. not (has_flag_is i acc_private m) && not (has_flag_is i acc_static m)

  superinterface_methods_is : superinterface_methods b ≡ superinterface_methods a
  superinterface_methods_is =
      λ i x named. filter (is_open_is i) (declared_by_is i named (superinterfaces_is i x))

  is_maximally_specific_is : is_maximally_specific b ≡ is_maximally_specific a
  is_maximally_specific_is = λ i ms m. not (list_any
      (λ other. list_any (same_class m.class) (superinterfaces_is i other.class)) ms)

  only_one_at : (ms : List MemberAt) → only_one b ms ≡ only_one a ms
  only_one_at [] = refl
  only_one_at (m ∷ ms) = refl

  maximally_specific_is : maximally_specific b ≡ maximally_specific a
  maximally_specific_is = λ i ms. only_one_at
      (filter (λ m. not (has_flag_is i acc_abstract m)) (filter (is_maximally_specific_is i ms) ms))
      i

  chosen_is : chosen b ≡ chosen a
  chosen_is = λ i ms. option_or (maximally_specific_is i ms) (first ms)

  class_method_found_is : class_method_found b ≡ class_method_found a
  class_method_found_is =
      λ i x named. option_or (first (declared_by_is i named (superclasses_from_is i x)))
      (chosen_is i (superinterface_methods_is i x named))

  object_method_is : object_method b ≡ object_method a
  object_method_is = λ i named. option_and_then
      (λ object. find (λ m. has_flag_is i acc_public m && not (has_flag_is i acc_static m))
      (declared_by_is i named (object ∷ [])))
      (class_named_is i (codes "java/lang/Object"))

  interface_method_found_is : interface_method_found b ≡ interface_method_found a
  interface_method_found_is = λ i x named. option_or (declared_in_is i named x)
      (option_or (object_method_is i named) (chosen_is i (superinterface_methods_is i x named)))

  pub method_found_is : method_found b ≡ method_found a
  method_found_is = λ i x named. cond (is_interface_in_is i x) (interface_method_found_is i x named)
      (class_method_found_is i x named)

  -- ---- access (JVMS 5.4.4)

  pub is_class_accessible_is : is_class_accessible b ≡ is_class_accessible a
  is_class_accessible_is = λ i from x. is_public_at x i || same_package_is i from x

  pub is_class_below_is : is_class_below b ≡ is_class_below a
  is_class_below_is = λ i x y. list_any (same_class y) (superclasses_from_is i x)

  is_protected_accessible_is : is_protected_accessible b ≡ is_protected_accessible a
  is_protected_accessible_is = λ i from named m. is_class_below_is i from m.class
      &&
      (has_flag_is i acc_static m || is_class_below_is i named from || is_class_below_is i from
      named)

  pub is_member_accessible_is : is_member_accessible b ≡ is_member_accessible a
  is_member_accessible_is = λ i from named m. cond (has_flag_is i acc_public m) true
      (cond (has_flag_is i acc_private m) (same_class from m.class)
      (same_package_is i from m.class ||
      (has_flag_is i acc_protected m && is_protected_accessible_is i from named m)))

  -- ---- selection (JVMS 5.4.5)

  may_override_is : may_override b ≡ may_override a
  may_override_is = λ i m. is_instance_method_is i m && not (has_flag_is i acc_private m)
      && not (is_interface_in_is i m.class)

  may_be_overridden_is : may_be_overridden b ≡ may_be_overridden a
  may_be_overridden_is = λ i below m. is_instance_method_is i m
      && (has_flag_is i acc_public m || has_flag_is i acc_protected m
      || (not (has_flag_is i acc_private m) && same_package_is i below m.class))

  with_nearest_is : with_nearest b ≡ with_nearest a
  with_nearest_is = λ i above m ms. cond
      (same_member m above || (may_override_is i m && list_any (may_be_overridden_is i m.class) ms))
      (m ∷ ms) ms

  overriding_at : (above : MemberAt) (ms : List MemberAt)
      → overriding b above ms ≡ overriding a above ms
  overriding_at above [] = refl
  overriding_at above (m ∷ ms) = λ i. with_nearest_is i above m (overriding_at above ms i)

  overriding_from_is : overriding_from b ≡ overriding_from a
  overriding_from_is = λ i x above. overriding_at above
      (declared_by_is i (named_at_is i above) (superclasses_from_is i x)) i

  pub overrides_is : overrides b ≡ overrides a
  overrides_is = λ i m above. list_any (same_member m) (overriding_from_is i m.class above)

  first_instance_is : first_instance b ≡ first_instance a
  first_instance_is =
      λ i x named. find (is_instance_method_is i)
      (declared_by_is i named (superclasses_from_is i x))

  pub selected_is : selected b ≡ selected a
  selected_is =
      λ i x m. cond (is_interface_in_is i m.class) (first_instance_is i x (named_at_is i m))
      (first (overriding_from_is i x m))

  pub selected_special_is : selected_special b ≡ selected_special a
  selected_special_is = λ i from named m. cond (is_init (named_at_is i m).0) (Some m)
      (cond (same_class from named) (first_instance_is i from (named_at_is i m))
      (option_and_then (λ above. first_instance_is i above (named_at_is i m))
      (superclass_is i from)))
