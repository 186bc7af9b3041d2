-- Which field or method a symbolic reference means, and what is accessible to whom (JVMS 5.4.3.2 to 5.4.3.4, 5.4.4).
use Rattle.std.specs.Prelude.{Bool, true, false, not, ◌&&◌, ◌||◌, List, [], ◌∷◌, Option, Some, None, slice_get}
use Rattle.std.specs.Prelude.{if◌then◌else◌, codes}
use Rattle.std.specs.List.{filter, find, flat_map, list_all, list_any}
use Rattle.std.specs.Option.{option_and_then, option_map_or, option_or}
use Rattle.class_model.specs.Flags.{acc_public, has}
use Rattle.class_model.specs.declared.class.Class.{Class}
use Rattle.class_pool.specs.declared.id.ClassId.{ClassId}
use Rattle.class_pool.specs.declared.id.ClassId.TheVariants.{Prog, Lib}
use Rattle.class_pool.specs.declared.id.MemberAt.{MemberAt}
use Rattle.class_pool.specs.Found.{NameAndType, declared_by, declared_in, is_abstract_member, is_private_member}
use Rattle.class_pool.specs.Found.{is_protected_member, is_public_member, is_static_member, same_member, same_package}
use Rattle.class_pool.specs.Hierarchy.{class_named, is_interface_kind, kind_in}
use Rattle.class_pool.specs.Walk.{own_superinterfaces, same_class, superclasses_from, superinterfaces}

-- the first of a list, if it has one (the project's own: of several the first one counts)
abbrev pub first : {A : Type 0} → List A → Option A
first [] = None
first (x ∷ xs) = Some x

module _ (classes : List Class) where
  -- the first member that one of these classes declares (JVMS 5.4.3)
  abbrev pub first_declared : NameAndType → List ClassId → Option MemberAt
  first_declared named cs = first (declared_by classes named cs)

  -- ---- fields (JVMS 5.4.3.2)

  -- a class, then its superinterfaces, and then the same of its superclass (JVMS 5.4.3.2)
  abbrev pub field_order : ClassId → List ClassId
  field_order c = flat_map (λ d. d ∷ own_superinterfaces classes d) (superclasses_from classes c)

  -- the field that is found for a class (JVMS 5.4.3.2)
  abbrev pub field_found : ClassId → NameAndType → Option MemberAt
  field_found c named = first_declared named (field_order c)

  -- ---- methods (JVMS 5.4.3.3, 5.4.3.4)

  -- it has neither ACC_PRIVATE nor ACC_STATIC (JVMS 5.4.3.3)
  abbrev pub is_open : MemberAt → Bool
  is_open m = not (is_private_member classes m) && not (is_static_member classes m)

  -- the open methods of the superinterfaces of a class, in the order of the walk; one stands as often as its interface
  -- is met (JVMS 5.4.3.3)
  abbrev pub superinterface_methods : ClassId → NameAndType → List MemberAt
  superinterface_methods c named = filter is_open (declared_by classes named (superinterfaces classes c))

  -- b is a superinterface of a (JVMS 5.4.3.3)
  abbrev pub is_subinterface : ClassId → ClassId → Bool
  is_subinterface a b = list_any (same_class b) (superinterfaces classes a)

  -- none of these methods is of a subinterface of that of this one (JVMS 5.4.3.3)
  abbrev pub is_maximally_specific : List MemberAt → MemberAt → Bool
  is_maximally_specific ms m = not (list_any (λ other. is_subinterface other.class m.class) ms)

  -- the only member of a list, which may have it several times (JVMS 5.4.3.3)
  abbrev pub only_one : List MemberAt → Option MemberAt
  only_one [] = None
  only_one (m ∷ ms) = if list_all (same_member m) ms then Some m else None

  -- the maximally-specific superinterface method that isn't abstract, where there is just one (JVMS 5.4.3.3)
  abbrev pub maximally_specific : List MemberAt → Option MemberAt
  maximally_specific ms = only_one
      (filter (λ m. not (is_abstract_member classes m)) (filter (is_maximally_specific ms) ms))

  -- the method of some superinterface: the maximally-specific one where just one isn't abstract, else, where the
  -- standard leaves the choice, the first one met (JVMS 5.4.3.3; that the first is taken is the project's own)
  abbrev pub chosen : List MemberAt → Option MemberAt
  chosen ms = option_or (maximally_specific ms) (first ms)

  -- for a class that is no interface: the class and its superclasses, then its superinterfaces (JVMS 5.4.3.3)
  abbrev pub class_method_found : ClassId → NameAndType → Option MemberAt
  class_method_found c named = option_or (first_declared named (superclasses_from classes c))
      (chosen (superinterface_methods c named))

  -- the public method of Object that isn't static (JVMS 5.4.3.4)
  abbrev pub object_method : NameAndType → Option MemberAt
  object_method named = option_and_then
      (λ object. find (λ m. is_public_member classes m && not (is_static_member classes m))
      (declared_by classes named (object ∷ [])))
      (class_named classes (codes "java/lang/Object"))

  -- for an interface: itself, Object, then its superinterfaces (JVMS 5.4.3.4)
  abbrev pub interface_method_found : ClassId → NameAndType → Option MemberAt
  interface_method_found c named =
      option_or (declared_in classes named c)
      (option_or (object_method named) (chosen (superinterface_methods c named)))

  -- the class is an interface (JVMS 4.1)
  abbrev pub is_interface_in : ClassId → Bool
  is_interface_in c = is_interface_kind (kind_in classes c)

  -- the method that is found for a class, whatever kind of reference names it (JVMS 5.4.3.3, 5.4.3.4)
  abbrev pub method_found : ClassId → NameAndType → Option MemberAt
  method_found c named = if is_interface_in c then interface_method_found c named else class_method_found c named

  -- ---- access (JVMS 5.4.4)

  -- the class is public; those of the library are (JVMS 4.1)
  abbrev pub is_public_class : ClassId → Bool
  is_public_class (Prog n) = option_map_or (λ c. has acc_public c.flags.0) (slice_get classes n) false
  is_public_class (Lib id) = true

  -- a class is accessible to another where it is public or of the same run-time package (JVMS 5.4.4)
  abbrev pub is_class_accessible : ClassId → ClassId → Bool
  is_class_accessible from c = is_public_class c || same_package classes from c

  -- a is b, or a subclass of it (JVMS 5.4.4)
  abbrev pub is_class_below : ClassId → ClassId → Bool
  is_class_below a b = list_any (same_class b) (superclasses_from classes a)

  -- a protected member is accessible in its class and the subclasses of it; one that isn't static where the class that
  -- the reference names is the one that names it, a subclass or a superclass of that (JVMS 5.4.4)
  abbrev pub is_protected_accessible : ClassId → ClassId → MemberAt → Bool
  is_protected_accessible from named m = is_class_below from m.class
      && (is_static_member classes m || is_class_below named from || is_class_below from named)

  -- a member that was found through this class is accessible to another (JVMS 5.4.4)
  abbrev pub is_member_accessible : ClassId → ClassId → MemberAt → Bool
  is_member_accessible from named m =
      if is_public_member classes m then true
      else if is_private_member classes m then same_class from m.class
      else same_package classes from m.class || (is_protected_member classes m && is_protected_accessible from named m)
