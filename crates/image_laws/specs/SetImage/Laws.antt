-- What stays the same in an image, as statements on all sets and images (the project's own). Of `i`, an image of the
-- set `a` in the set `b`, each speaks of what is kept.
use Rattle.std.specs.Prelude.{◌≡◌, true, false, List, Some, IfSome}
use Rattle.std.specs.Option.{option_map}
use Rattle.class_model.specs.declared.class.Class.{Class}
use Rattle.class_pool.specs.declared.id.ClassId.{ClassId}
use Rattle.class_pool.specs.declared.id.MemberAt.{MemberAt}
use Rattle.class_pool.specs.Found.{NameAndType, is_instance_method, is_private_member}
use Rattle.class_pool.specs.Hierarchy.{IsClass}
use Rattle.class_pool.specs.Resolution.{field_found, is_interface_in, is_member_accessible, method_found}
use Rattle.class_pool.specs.Selection.{overrides, selected, selected_special}
use Rattle.class_pool.specs.Supers.{is_below}
use Rattle.image_laws.specs.SetImage.Image.{AreAbstract, Image, IsProperSet, SelectedKept}

-- a class is another one or below it where it was (JVMS 4.10)
abbrev pub KeepsOrder : Type 0
KeepsOrder = (a b : List Class) (i : Image a b) (x y : ClassId) → i.kept x ≡ true → i.kept y ≡ true
    → is_below b (i.moved x) (i.moved y) ≡ is_below a x y

-- the field that is found for a class is found, where it is kept (JVMS 5.4.3.2)
abbrev pub KeepsFields : Type 0
KeepsFields = (a b : List Class) (i : Image a b) (n o : NameAndType) → i.renamed n ≡ Some o
    → (x : ClassId) → i.kept x ≡ true → IfSome (field_found a x n) (λ m. i.kept_member m ≡ true)
    → field_found b (i.moved x) o ≡ option_map i.moved_member (field_found a x n)

-- so is the method (JVMS 5.4.3.3, 5.4.3.4)
abbrev pub KeepsMethods : Type 0
KeepsMethods = (a b : List Class) (i : Image a b) → AreAbstract a → (n o : NameAndType) → i.renamed n ≡ Some o
    → (x : ClassId) → i.kept x ≡ true → IfSome (method_found a x n) (λ m. i.kept_member m ≡ true)
    → method_found b (i.moved x) o ≡ option_map i.moved_member (method_found a x n)

-- a member that was found through a class is accessible to another where it was (JVMS 5.4.4)
abbrev pub KeepsAccess : Type 0
KeepsAccess = (a b : List Class) (i : Image a b) (from named : ClassId) (m : MemberAt) → i.kept from ≡ true
    → i.kept named ≡ true → i.kept_member m ≡ true
    → is_member_accessible b (i.moved from) (i.moved named) (i.moved_member m) ≡ is_member_accessible a from named m

-- a call of a method runs the method that it ran on an object of a class, and that is kept (JVMS 5.4.5, 6.5)
abbrev pub KeepsSelection : Type 0
KeepsSelection = (a b : List Class) (i : Image a b) → IsProperSet a → SelectedKept a b i
    → (x : ClassId) (m : MemberAt) → IsClass a x → i.kept x ≡ true → is_interface_in a x ≡ false
    → i.kept_member m ≡ true → is_below a x m.class ≡ true
    → (is_interface_in a m.class ≡ true → (is_instance_method a m ≡ true) × (is_private_member a m ≡ false))
    → (selected b (i.moved x) (i.moved_member m) ≡ option_map i.moved_member (selected a x m))
    × IfSome (selected a x m) (λ s. i.kept_member s ≡ true)

-- a method of a class overrides another one where it did (JVMS 5.4.5)
abbrev pub KeepsOverriding : Type 0
KeepsOverriding = (a b : List Class) (i : Image a b) → IsProperSet a → SelectedKept a b i
    → (m above : MemberAt) → IsClass a m.class → i.kept_member m ≡ true → i.kept_member above ≡ true
    → is_interface_in a m.class ≡ false → is_interface_in a above.class ≡ false
    → overrides b (i.moved_member m) (i.moved_member above) ≡ overrides a m above

-- invokespecial runs the method that it ran, where that is kept (JVMS 6.5.invokespecial)
abbrev pub KeepsSpecialCalls : Type 0
KeepsSpecialCalls = (a b : List Class) (i : Image a b) (from named : ClassId) (m : MemberAt) → i.kept from ≡ true
    → i.kept named ≡ true → i.kept_member m ≡ true
    → IfSome (selected_special a from named m) (λ s. i.kept_member s ≡ true)
    → selected_special b (i.moved from) (i.moved named) (i.moved_member m)
    ≡ option_map i.moved_member (selected_special a from named m)
