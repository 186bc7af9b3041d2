-- No rule looks at the codes of the methods of a set: what a set tells without them is what it tells.
use Rattle.std.proofs.Common.{◌≡◌, ℕ, zero, suc, ◌+◌, Bool, true, false, not, ◌&&◌, ◌||◌, List, [], ◌∷◌, ◌++◌, length}
use Rattle.std.proofs.Common.{map, Option, Some, None, Result, Ok, Err, refl, ap, ◌∙◌}
use Rattle.std.specs.Prelude.{◌==◌, if◌then◌else◌, slice_get, codes}
use Rattle.std.specs.Bool.{beq}
use Rattle.std.specs.List.{filter, filter_map, find, flat_map, list_any, position}
use Rattle.std.specs.Option.{option_and_then, option_map, option_map_or, option_or}
use Rattle.std.proofs.lemmas.Option.{slice_get-map}
use Rattle.jv_base.specs.Names.{is_text}
use Rattle.jv_base.specs.declared.types.Base.{Base}
use Rattle.jv_base.specs.declared.types.Base.TheVariants as base
use Rattle.class_model.specs.Flags.{acc_abstract, acc_private, acc_protected, acc_public, acc_static, has}
use Rattle.class_model.specs.declared.class.Class.{Class}
use Rattle.class_model.specs.declared.class.Method.{Method}
use Rattle.class_model.specs.declared.op.MemberRef.{MemberRef}
use Rattle.lib_table.proofs.Classes.{position_map}
use Rattle.lib_table.specs.Lookups as table
use Rattle.lib_table.specs.declared.class.LibKind.TheVariants.{Open}
use Rattle.class_pool.specs.Found.{NameAndType, MemberRow, declared_by, declared_in, field_row, has_flag, method_row}
use Rattle.class_pool.specs.Found.{name_of, package_of, rows_in, same_package}
use Rattle.class_pool.specs.Hierarchy.{class_named, classes_named, interfaces, is_interface_kind, kind_in, kind_of}
use Rattle.class_pool.specs.Hierarchy.{or_found, superclass, superclass_of}
use Rattle.class_pool.specs.Members.{declared_at, is_field, is_method, member_named, or_method}
use Rattle.class_pool.specs.Resolution.{chosen, class_method_found, field_found, first, interface_method_found}
use Rattle.class_pool.specs.Resolution.{is_class_accessible, is_class_below, is_interface_in, is_maximally_specific}
use Rattle.class_pool.specs.Resolution.{is_member_accessible, is_open, is_protected_accessible, is_public_class}
use Rattle.class_pool.specs.Resolution.{maximally_specific, method_found, object_method, only_one}
use Rattle.class_pool.specs.Resolution.{superinterface_methods}
use Rattle.class_pool.specs.Walk.{highest, own_superinterfaces, same_class, superclasses_from, superinterfaces, upwards}
use Rattle.class_pool.specs.Walk.{walked}
use Rattle.class_pool.specs.declared.id.ClassId.{ClassId}
use Rattle.class_pool.specs.declared.id.ClassId.TheVariants.{Prog, Lib}
use Rattle.class_pool.specs.declared.id.MemberAt.{MemberAt}
use Rattle.link_check.specs.Links.{callable, linked, linked_field, linked_method, of_array, of_class, resolved_field}
use Rattle.link_check.specs.Links.{resolved_method, through}
use Rattle.link_check.specs.declared.fault.LinkKind.{LinkKind}
use Rattle.link_check.specs.declared.fault.LinkKind.TheVariants.{Inaccessible, LeftOutMember, WrongKind}

abbrev pub bare_method : Method → Method
bare_method m = record {
  flags = m.flags;
  name = m.name;
  ty = m.ty;
  code = None;
  throws = m.throws;
  synthetic = m.synthetic;
  deprecated = m.deprecated;
}

abbrev pub bare : Class → Class
bare c = record {
  flags = c.flags;
  name = c.name;
  super_name = c.super_name;
  interfaces = c.interfaces;
  fields = c.fields;
  methods = map bare_method c.methods;
  source = c.source;
  synthetic = c.synthetic;
  deprecated = c.deprecated;
  left_out = c.left_out;
}

-- a set without the codes of its methods
abbrev pub bared : List Class → List Class
bared classes = map bare classes

-- ---- classes and members

told : {X : Type 0} (f : Class → X) (d : X) → ((c : Class) → f (bare c) ≡ f c) → (o : Option Class)
    → option_map_or f (option_map bare o) d ≡ option_map_or f o d
told f d same (Some c) = same c
told f d same None = refl

rows_bare : (ms : List Method) → map method_row (map bare_method ms) ≡ map method_row ms
rows_bare [] = refl
rows_bare (m ∷ ms) = ap (λ (r : List MemberRow). method_row m ∷ r) (rows_bare ms)

member_bare : (c : Class) (name descriptor : List ℕ) (o : Option ℕ)
    → or_method (bare c) name descriptor o ≡ or_method c name descriptor o
member_bare c name descriptor (Some n) = refl
member_bare c name descriptor None =
    ap (λ (o : Option ℕ). option_map (λ n. length c.fields + n) o)
    (position_map bare_method (is_method name descriptor) c.methods)

then_member : (name descriptor : List ℕ) (o : Option Class)
    → option_and_then (λ (c : Class). member_named c name descriptor) (option_map bare o)
    ≡ option_and_then (λ (c : Class). member_named c name descriptor) o
then_member name descriptor (Some c) = member_bare c name descriptor (position (is_field name descriptor) c.fields)
then_member name descriptor None = refl

module _ (classes : List Class) where
  bare_at : (n : ℕ) → slice_get (bared classes) n ≡ option_map bare (slice_get classes n)
  bare_at n = slice_get-map bare classes n

  pub same_named : class_named (bared classes) ≡ class_named classes
  same_named = λ i name. or_found (position_map bare (λ (c : Class). is_text name c.name) classes i)
      (option_map Lib (table.class_named name))

  then_superclass : (o : Option Class) → option_and_then (superclass_of (bared classes)) (option_map bare o)
      ≡ option_and_then (superclass_of classes) o
  then_superclass (Some c) = λ i. same_named i c.super_name
  then_superclass None = refl

  superclass_at : (id : ClassId) → superclass (bared classes) id ≡ superclass classes id
  superclass_at (Prog n) = ap (option_and_then (superclass_of (bared classes))) (bare_at n)
      ∙ then_superclass (slice_get classes n)
  superclass_at (Lib id) = refl

  same_superclass : superclass (bared classes) ≡ superclass classes
  same_superclass = λ i id. superclass_at id i

  named_interfaces : (o : Option Class)
      → option_map_or (λ (c : Class). classes_named (bared classes) c.interfaces) (option_map bare o) []
      ≡ option_map_or (λ (c : Class). classes_named classes c.interfaces) o []
  named_interfaces (Some c) = λ i. filter_map (same_named i) c.interfaces
  named_interfaces None = refl

  interfaces_at : (id : ClassId) → interfaces (bared classes) id ≡ interfaces classes id
  interfaces_at (Prog n) =
      ap (λ (o : Option Class). option_map_or (λ (c : Class). classes_named (bared classes) c.interfaces) o [])
      (bare_at n)
      ∙ named_interfaces (slice_get classes n)
  interfaces_at (Lib id) = refl

  same_interfaces : interfaces (bared classes) ≡ interfaces classes
  same_interfaces = λ i id. interfaces_at id i

  at_class : {X : Type 0} (f : Class → X) (d : X) → ((c : Class) → f (bare c) ≡ f c) → (n : ℕ)
      → option_map_or f (slice_get (bared classes) n) d ≡ option_map_or f (slice_get classes n) d
  at_class f d same n = ap (λ (o : Option Class). option_map_or f o d) (bare_at n) ∙ told f d same (slice_get classes n)

  kind_at : (id : ClassId) → kind_in (bared classes) id ≡ kind_in classes id
  kind_at (Prog n) = at_class kind_of Open (λ c. refl) n
  kind_at (Lib id) = refl

  pub same_interface : is_interface_in (bared classes) ≡ is_interface_in classes
  same_interface = λ i id. is_interface_kind (kind_at id i)

  public_at : (id : ClassId) → is_public_class (bared classes) id ≡ is_public_class classes id
  public_at (Prog n) = at_class (λ (c : Class). has acc_public c.flags.0) false (λ c. refl) n
  public_at (Lib id) = refl

  name_at : (id : ClassId) → name_of (bared classes) id ≡ name_of classes id
  name_at (Prog n) = at_class (λ (c : Class). c.name) [] (λ c. refl) n
  name_at (Lib id) = refl

  rows_at : (id : ClassId) → rows_in (bared classes) id ≡ rows_in classes id
  rows_at (Prog n) = at_class (λ (c : Class). map field_row c.fields ++ map method_row c.methods) []
      (λ c. ap (λ (r : List MemberRow). map field_row c.fields ++ r) (rows_bare c.methods)) n
  rows_at (Lib id) = refl

  declared_there : (id : ClassId) (name descriptor : List ℕ)
      → declared_at (bared classes) id name descriptor ≡ declared_at classes id name descriptor
  declared_there (Prog n) name descriptor =
      ap (λ (o : Option Class). option_and_then (λ (c : Class). member_named c name descriptor) o) (bare_at n)
      ∙ then_member name descriptor (slice_get classes n)
  declared_there (Lib id) name descriptor = refl

  pub same_declared : declared_at (bared classes) ≡ declared_at classes
  same_declared = λ i id name descriptor. declared_there id name descriptor i

  -- ---- supertypes

  same_upwards : (n : ℕ) → upwards n (bared classes) ≡ upwards n classes
  unfolding upwards
  same_upwards zero = λ i c. []
  same_upwards (suc n) = λ i c. c ∷ option_map_or (same_upwards n i) (same_superclass i c) []

  same_walked : (n : ℕ) → walked n (bared classes) ≡ walked n classes
  unfolding walked
  same_walked zero = λ i is. []
  same_walked (suc n) = λ i is. flat_map (λ d. d ∷ same_walked n i (same_interfaces i d)) is

  same_superclasses : superclasses_from (bared classes) ≡ superclasses_from classes
  same_superclasses = same_upwards highest

  same_own : own_superinterfaces (bared classes) ≡ own_superinterfaces classes
  same_own = λ i c. same_walked highest i (same_interfaces i c)

  same_superinterfaces : superinterfaces (bared classes) ≡ superinterfaces classes
  same_superinterfaces = λ i c. flat_map (same_own i) (same_superclasses i c)

  pub same_below : is_class_below (bared classes) ≡ is_class_below classes
  same_below = λ i a b. list_any (same_class b) (same_superclasses i a)

  -- ---- members

  pub same_in_package : same_package (bared classes) ≡ same_package classes
  same_in_package = λ i a b. is_text (package_of (name_at a i)) (package_of (name_at b i))

  pub same_flag : has_flag (bared classes) ≡ has_flag classes
  same_flag = λ i flag m. option_map_or (λ row. has flag row.flags) (slice_get (rows_at m.class i) m.index) false

  same_declared_in : declared_in (bared classes) ≡ declared_in classes
  same_declared_in = λ i named c. option_map (λ n. record { class = c; index = n }) (declared_there c named.0 named.1 i)

  same_declared_by : declared_by (bared classes) ≡ declared_by classes
  same_declared_by = λ i named cs. filter_map (same_declared_in i named) cs

  same_field : field_found (bared classes) ≡ field_found classes
  same_field = λ i c named. first (same_declared_by i named (flat_map (λ d. d ∷ same_own i d) (same_superclasses i c)))

  same_open : is_open (bared classes) ≡ is_open classes
  same_open = λ i m. not (same_flag i acc_private m) && not (same_flag i acc_static m)

  same_methods : superinterface_methods (bared classes) ≡ superinterface_methods classes
  same_methods = λ i c named. filter (same_open i) (same_declared_by i named (same_superinterfaces i c))

  same_specific : is_maximally_specific (bared classes) ≡ is_maximally_specific classes
  same_specific =
      λ i ms m. not (list_any (λ other. list_any (same_class m.class) (same_superinterfaces i other.class)) ms)

  one_of : (ms : List MemberAt) → only_one (bared classes) ms ≡ only_one classes ms
  one_of [] = refl
  one_of (m ∷ ms) = refl

  same_maximally : maximally_specific (bared classes) ≡ maximally_specific classes
  same_maximally = λ i ms. one_of
      (filter (λ m. not (same_flag i acc_abstract m)) (filter (same_specific i ms) ms)) i

  same_chosen : chosen (bared classes) ≡ chosen classes
  same_chosen = λ i ms. option_or (same_maximally i ms) (first ms)

  same_class_method : class_method_found (bared classes) ≡ class_method_found classes
  same_class_method = λ i c named. option_or (first (same_declared_by i named (same_superclasses i c)))
      (same_chosen i (same_methods i c named))

  same_object_method : object_method (bared classes) ≡ object_method classes
  same_object_method = λ i named. option_and_then
      (λ object. find (λ m. same_flag i acc_public m && not (same_flag i acc_static m))
      (same_declared_by i named (object ∷ []))) (same_named i (codes "java/lang/Object"))

  same_interface_method : interface_method_found (bared classes) ≡ interface_method_found classes
  same_interface_method = λ i c named. option_or (same_declared_in i named c)
      (option_or (same_object_method i named) (same_chosen i (same_methods i c named)))

  same_method : method_found (bared classes) ≡ method_found classes
  same_method = λ i c named. if same_interface i c then same_interface_method i c named else same_class_method i c named

  -- ---- access

  same_accessible : is_class_accessible (bared classes) ≡ is_class_accessible classes
  same_accessible = λ i from c. public_at c i || same_in_package i from c

  same_protected : is_protected_accessible (bared classes) ≡ is_protected_accessible classes
  same_protected = λ i from named m. same_below i from m.class
      && (same_flag i acc_static m || same_below i named from || same_below i from named)

  same_member_accessible : is_member_accessible (bared classes) ≡ is_member_accessible classes
  same_member_accessible = λ i from named m.
      if same_flag i acc_public m then true
      else if same_flag i acc_private m then same_class from m.class
      else same_in_package i from m.class || (same_flag i acc_protected m && same_protected i from named m)

  -- ---- references

  linked_same : (from named : ClassId) (right : Bool) (o : Option MemberAt)
      → linked (bared classes) from named right o ≡ linked classes from named right o
  linked_same from named right None = refl
  linked_same from named right (Some m) = λ i.
      if not (same_member_accessible i from named m) then Err Inaccessible
      else if right then Ok m
      else Err WrongKind

  abbrev Found : Type 0
  Found = ClassId → Result MemberAt LinkKind

  through_same : (from : ClassId) (o : Option ClassId) (found : Found)
      → through (bared classes) from o found ≡ through classes from o found
  through_same from None found = refl
  through_same from (Some c) found = λ i. if same_accessible i from c then found c else Err Inaccessible

  of_array_same : (from : ClassId) (right : Bool) (b : Base)
      → of_array (bared classes) from right b ≡ of_array classes from right b
  of_array_same from right (base.Class name) =
      (λ i. through (bared classes) from (same_named i name) (λ c. if right then Err LeftOutMember else Err WrongKind))
      ∙ through_same from (class_named classes name) (λ c. if right then Err LeftOutMember else Err WrongKind)
  of_array_same from right b = refl

  of_class_same : (from : ClassId) (b : Base) (found : Found)
      → of_class (bared classes) from b found ≡ of_class classes from b found
  of_class_same from (base.Class name) found = (λ i. through (bared classes) from (same_named i name) found)
      ∙ through_same from (class_named classes name) found
  of_class_same from b found = refl

  found_field : (from : ClassId) (named : NameAndType) (c : ClassId)
      → linked (bared classes) from c true (field_found (bared classes) c named)
      ≡ linked classes from c true (field_found classes c named)
  found_field from named c = (λ i. linked (bared classes) from c true (same_field i c named))
      ∙ linked_same from c true (field_found classes c named)

  found_method : (from : ClassId) (named : NameAndType) (of_interface : Bool) (c : ClassId)
      → linked (bared classes) from c (beq (is_interface_in (bared classes) c) of_interface)
      (method_found (bared classes) c named)
      ≡ linked classes from c (beq (is_interface_in classes c) of_interface) (method_found classes c named)
  found_method from named of_interface c =
      (λ i. linked (bared classes) from c (beq (same_interface i c) of_interface) (same_method i c named))
      ∙ linked_same from c (beq (is_interface_in classes c) of_interface) (method_found classes c named)

  linked_field_same : (from : ClassId) (r : MemberRef)
      → linked_field (bared classes) from r ≡ linked_field classes from r
  linked_field_same from r =
      (λ i. if r.class.dims == 0
      then of_class (bared classes) from r.class.base (λ c. found_field from (r.name, r.ty) c i)
      else of_array_same from true r.class.base i)
      ∙ (λ i. if r.class.dims == 0
      then of_class_same from r.class.base (λ c. linked classes from c true (field_found classes c (r.name, r.ty))) i
      else of_array classes from true r.class.base)

  linked_method_same : (from : ClassId) (r : MemberRef)
      → linked_method (bared classes) from r ≡ linked_method classes from r
  linked_method_same from r =
      (λ i. if r.class.dims == 0
      then of_class (bared classes) from r.class.base (λ c. found_method from (r.name, r.ty) r.of_interface c i)
      else of_array_same from (not r.of_interface) r.class.base i)
      ∙ (λ i. if r.class.dims == 0
      then of_class_same from r.class.base
      (λ c. linked classes from c (beq (is_interface_in classes c) r.of_interface)
      (method_found classes c (r.name, r.ty))) i
      else of_array classes from (not r.of_interface) r.class.base)

  callable_same : (from : ClassId) (r : Result MemberAt LinkKind)
      → callable (bared classes) from r ≡ callable classes from r
  callable_same from (Ok m) = refl
  callable_same from (Err kind) = refl

  pub same_resolved_field : (from : ClassId) (r : MemberRef)
      → resolved_field (bared classes) from r ≡ resolved_field classes from r
  same_resolved_field from r = ap (callable (bared classes) from) (linked_field_same from r)
      ∙ callable_same from (linked_field classes from r)

  pub same_resolved_method : (from : ClassId) (r : MemberRef)
      → resolved_method (bared classes) from r ≡ resolved_method classes from r
  same_resolved_method from r = ap (callable (bared classes) from) (linked_method_same from r)
      ∙ callable_same from (linked_method classes from r)
