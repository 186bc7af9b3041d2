-- Which method a call runs (JVMS 5.4.5, 6.5). No method of an interface has a body here, so none is selected.
use Rattle.std.specs.Prelude.{Bool, not, ◌&&◌, ◌||◌, List, [], ◌∷◌, Option, Some, if◌then◌else◌}
use Rattle.std.specs.List.{find, list_any}
use Rattle.std.specs.Option.{option_and_then}
use Rattle.class_model.specs.Flags.{is_init}
use Rattle.class_model.specs.declared.class.Class.{Class}
use Rattle.class_pool.specs.declared.id.ClassId.{ClassId}
use Rattle.class_pool.specs.declared.id.MemberAt.{MemberAt}
use Rattle.class_pool.specs.Found.{NameAndType, declared_by, is_instance_method, is_private_member, is_protected_member}
use Rattle.class_pool.specs.Found.{is_public_member, named_at, same_member, same_package}
use Rattle.class_pool.specs.Hierarchy.{superclass}
use Rattle.class_pool.specs.Resolution.{first, is_interface_in}
use Rattle.class_pool.specs.Walk.{same_class, superclasses_from}

module _ (classes : List Class) where
  -- ---- overriding (JVMS 5.4.5)

  -- an instance method of a class, not private; a method of an interface overrides none of a class (JVMS 5.4.5)
  abbrev pub may_override : MemberAt → Bool
  may_override m = is_instance_method classes m && not (is_private_member classes m)
      && not (is_interface_in classes m.class)

  -- an instance method that one of a subclass with this number may override by its flags (JVMS 5.4.5)
  abbrev pub may_be_overridden : ClassId → MemberAt → Bool
  may_be_overridden below m = is_instance_method classes m
      && (is_public_member classes m || is_protected_member classes m
      || (not (is_private_member classes m) && same_package classes below m.class))

  -- a method in front of those further up that override one or are it: it is that one, or overrides it by itself or
  -- through one of them (JVMS 5.4.5)
  abbrev pub with_nearest : MemberAt → MemberAt → List MemberAt → List MemberAt
  with_nearest above m overriding =
      if same_member m above
      || (may_override m && list_any (may_be_overridden m.class) overriding) then m ∷ overriding else overriding

  -- of methods of one name and descriptor, the lowest class's first, those that override a method or are it
  -- (JVMS 5.4.5)
  abbrev pub overriding : MemberAt → List MemberAt → List MemberAt
  overriding above [] = []
  overriding above (m ∷ ms) = with_nearest above m (overriding above ms)

  -- those of a class and its superclasses (JVMS 5.4.5)
  abbrev pub overriding_from : ClassId → MemberAt → List MemberAt
  overriding_from c above = overriding above
      (declared_by classes (named_at classes above) (superclasses_from classes c))

  -- a method overrides another one, or is it (JVMS 5.4.5)
  abbrev pub overrides : MemberAt → MemberAt → Bool
  overrides m above = list_any (same_member m) (overriding_from m.class above)

  -- ---- selection

  -- the first instance method from a class upwards (JVMS 6.5.invokeinterface, 6.5.invokespecial)
  abbrev pub first_instance : ClassId → NameAndType → Option MemberAt
  first_instance c named = find (is_instance_method classes) (declared_by classes named (superclasses_from classes c))

  -- where a method of a class was resolved the first one from the receiver's class upwards that overrides it or is it
  -- (JVMS 6.5.invokevirtual); where one of an interface was, whatever kind of reference named it, the first instance
  -- method, a private one too, which is our own choice (JVMS 6.5.invokeinterface)
  abbrev pub selected : ClassId → MemberAt → Option MemberAt
  selected c m =
      if is_interface_in classes m.class then first_instance c (named_at classes m)
      else first (overriding_from c m)

  -- where invokespecial in a class named another one: the resolved instance initialisation method, else the first
  -- instance method from the direct superclass upwards, from the class itself where that was named (JVMS
  -- 6.5.invokespecial)
  abbrev pub selected_special : ClassId → ClassId → MemberAt → Option MemberAt
  selected_special from named m =
      if is_init (named_at classes m).0 then Some m
      else if same_class from named then first_instance from (named_at classes m)
      else option_and_then (λ above. first_instance above (named_at classes m)) (superclass classes from)
