-- What holds of each set that is taken, as statements (the project's own).
use Rattle.std.specs.Prelude.{◌≡◌, ℕ, true, false, List, Some, slice_get}
use Rattle.class_model.specs.declared.class.Class.{Class}
use Rattle.class_pool.specs.Distinct.{MembersDiffer}
use Rattle.class_pool.specs.Found.{IsMember, declared_in, is_instance_method, is_private_member, name_of}
use Rattle.class_pool.specs.Found.{named_at}
use Rattle.class_pool.specs.Hierarchy.{IsClass, class_named}
use Rattle.class_pool.specs.Resolution.{is_interface_in}
use Rattle.class_pool.specs.declared.id.ClassId.{ClassId}
use Rattle.class_pool.specs.declared.id.MemberAt.{MemberAt}
use Rattle.image_laws.specs.SetImage.Image.{IsProperSet}
use Rattle.image_laws.specs.TakenSet.TakenSet.{IsTaken}

-- it is a proper set: methods of interfaces are abstract, no superclass is an interface, no method is private and
-- public
abbrev pub AreProper : Type 0
AreProper = (classes : List Class) → IsTaken classes → IsProperSet classes

-- no two members of a class are alike (JVMS 4.5, 4.6)
abbrev pub HaveMembersThatDiffer : Type 0
HaveMembersThatDiffer = (classes : List Class) → IsTaken classes → (n : ℕ) (c : Class) → slice_get classes n ≡ Some c
    → MembersDiffer c

-- a class of the set or of the library is found by its name
abbrev pub FindTheirClasses : Type 0
FindTheirClasses = (classes : List Class) → IsTaken classes → (x : ClassId) → IsClass classes x
    → class_named classes (name_of classes x) ≡ Some x

-- a member is the one that its class declares under its name and descriptor (JVMS 4.5, 4.6)
abbrev pub FindTheirMembers : Type 0
FindTheirMembers = (classes : List Class) → IsTaken classes → (m : MemberAt) → IsMember classes m
    → declared_in classes (named_at classes m) m.class ≡ Some m

-- no instance method of an interface is private (JVMS 4.6; that none has a body is the project's own)
abbrev pub HaveOpenInterfaces : Type 0
HaveOpenInterfaces = (classes : List Class) → IsTaken classes → (m : MemberAt) → is_interface_in classes m.class ≡ true
    → is_instance_method classes m ≡ true → is_private_member classes m ≡ false
