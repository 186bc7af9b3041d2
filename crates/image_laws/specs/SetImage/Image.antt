-- A set of classes that is the image of another one: some classes and members are kept, and each kept one has its place
-- in the other set. The definitions are the project's own; what they speak of is that of JVMS 4.1, 4.5, 4.6 and 5.4.
use Rattle.std.specs.Prelude.{◌≡◌, ◌≤◌, Bool, true, false, List, length, map, Option, Some, None, IfSome, codes, ℕ}
use Rattle.std.specs.Prelude.{if◌then◌else◌}
use Rattle.std.specs.List.{AllByRecursion}
use Rattle.std.specs.Option.{option_map, option_and_then}
use Rattle.class_model.specs.Flags.{is_init}
use Rattle.class_model.specs.declared.class.Class.{Class}
use Rattle.class_pool.specs.declared.id.ClassId.{ClassId}
use Rattle.class_pool.specs.declared.id.MemberAt.{MemberAt}
use Rattle.class_pool.specs.Found.{NameAndType, declared_in, has_flag, is_abstract_member, is_instance_method}
use Rattle.class_pool.specs.Found.{is_private_member, named_at, same_member, same_package}
use Rattle.class_pool.specs.Hierarchy.{IsClass, class_named, interfaces, superclass}
use Rattle.class_pool.specs.Ranks.{HasRanks}
use Rattle.class_pool.specs.Resolution.{is_interface_in, is_public_class, superinterface_methods}
use Rattle.class_pool.specs.Selection.{may_be_overridden, selected}
use Rattle.class_pool.specs.Supers.{is_below}
use Rattle.class_pool.specs.Walk.{same_class}

-- what is kept of the members found, at its place in the image
abbrev pub if_kept : {A : Type 0} → (A → Bool) → (A → A) → A → Option A
if_kept kept moved x = if kept x then Some (moved x) else None

pub record Image (a b : List Class) : Type 0 where
  -- whether a class is kept, and its place in the image
  pub kept : ClassId → Bool
  pub moved : ClassId → ClassId
  -- the same of a member
  pub kept_member : MemberAt → Bool
  pub moved_member : MemberAt → MemberAt
  -- the name and descriptor that stand for others in the image; none for those that aren't named there
  pub renamed : NameAndType → Option NameAndType
  -- two kept classes are one where they were
  pub same_moved : (x y : ClassId) → kept x ≡ true → kept y ≡ true
      → same_class (moved x) (moved y) ≡ same_class x y
  -- the superclass of a kept class is kept, and is the superclass in the image (JVMS 4.1)
  pub super_kept : (x : ClassId) → kept x ≡ true → IfSome (superclass a x) (λ y. kept y ≡ true)
  pub super_moved : (x : ClassId) → kept x ≡ true → superclass b (moved x) ≡ option_map moved (superclass a x)
  -- so it is of the direct superinterfaces, in their order (JVMS 4.1)
  pub interfaces_kept : (x : ClassId) → kept x ≡ true → AllByRecursion (λ y. kept y ≡ true) (interfaces a x)
  pub interfaces_moved : (x : ClassId) → kept x ≡ true → interfaces b (moved x) ≡ map moved (interfaces a x)
  -- an interface stays one, a public class stays public, and packages stay apart (JVMS 4.1, 5.3)
  pub interface_moved : (x : ClassId) → kept x ≡ true → is_interface_in b (moved x) ≡ is_interface_in a x
  pub public_moved : (x : ClassId) → kept x ≡ true → is_public_class b (moved x) ≡ is_public_class a x
  pub package_moved : (x y : ClassId) → kept x ≡ true → kept y ≡ true
      → same_package b (moved x) (moved y) ≡ same_package a x y
  -- the class that is named Object is kept and is the one in the image
  pub object_kept : IfSome (class_named a (codes "java/lang/Object")) (λ y. kept y ≡ true)
  pub object_moved :
      class_named b (codes "java/lang/Object") ≡ option_map moved (class_named a (codes "java/lang/Object"))
  -- the class of a kept member is kept, and the member is moved with it
  pub class_kept : (m : MemberAt) → kept_member m ≡ true → kept m.class ≡ true
  pub class_moved : (m : MemberAt) → (moved_member m).class ≡ moved m.class
  -- two kept members are one where they were
  pub same_member_moved : (m n : MemberAt) → kept_member m ≡ true → kept_member n ≡ true
      → same_member (moved_member m) (moved_member n) ≡ same_member m n
  -- what a kept class declares under a name, if it is kept, is declared in the image under the name that stands for it
  pub declared_moved : (n o : NameAndType) → renamed n ≡ Some o → (x : ClassId) → kept x ≡ true
      → declared_in b o (moved x) ≡ option_and_then (if_kept kept_member moved_member) (declared_in a n x)
  -- a kept member has the flags and the kind that it had, and the name that stands for its own (JVMS 4.5, 4.6, 2.9)
  pub flag_moved : (flag : ℕ) (m : MemberAt) → kept_member m ≡ true
      → has_flag b flag (moved_member m) ≡ has_flag a flag m
  pub instance_moved : (m : MemberAt) → kept_member m ≡ true
      → is_instance_method b (moved_member m) ≡ is_instance_method a m
  pub name_moved : (m : MemberAt) → kept_member m ≡ true
      → renamed (named_at a m) ≡ Some (named_at b (moved_member m))
  pub init_moved : (m : MemberAt) → kept_member m ≡ true
      → is_init (named_at b (moved_member m)).0 ≡ is_init (named_at a m).0

-- the methods of interfaces that are neither private nor static have no body
abbrev pub AreAbstract : List Class → Type 0
AreAbstract classes = (x : ClassId) (n : NameAndType)
    → AllByRecursion (λ m. is_abstract_member classes m ≡ true) (superinterface_methods classes x n)

-- what a call of a kept method of a proper supertype runs on an object of a kept class is kept (JVMS 5.4.5)
abbrev pub SelectedKept : (a b : List Class) → Image a b → Type 0
SelectedKept a b image = (x : ClassId) (m : MemberAt) → IsClass a x → image.kept x ≡ true
    → is_interface_in a x ≡ false → image.kept_member m ≡ true → is_below a x m.class ≡ true
    → same_class x m.class ≡ false → is_instance_method a m ≡ true → is_private_member a m ≡ false
    → IfSome (selected a x m) (λ s. image.kept_member s ≡ true)

-- what a set that was built of well-formed classes has
pub record IsProperSet (classes : List Class) : Type 0 where
  pub ranks : HasRanks classes
  pub few : length classes ≤ 4294967295
  pub abstract_methods : AreAbstract classes
  -- no superclass is an interface (JVMS 4.1)
  pub superclasses : (x y : ClassId) → superclass classes x ≡ Some y → is_interface_in classes y ≡ false
  -- no method is private and public or protected (JVMS 4.6)
  pub apart : (x : ClassId) (m : MemberAt) → may_be_overridden classes x m ≡ true
      → is_private_member classes m ≡ false
