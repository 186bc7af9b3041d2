-- What a set and its image owe each other beside the record `Image`, so that they do the same: told of one class or of
-- one member each (the project's own).
use Rattle.std.specs.Prelude.{◌≡◌, ℕ, true, List, Some, IfSome, codes}
use Rattle.std.specs.Option.{option_map_or}
use Rattle.class_model.specs.declared.class.Class.{Class}
use Rattle.class_pool.specs.Found.{NameAndType, declared_in, name_of}
use Rattle.class_pool.specs.Hierarchy.{IsClass, class_named}
use Rattle.class_pool.specs.declared.id.ClassId.{ClassId}
use Rattle.class_pool.specs.declared.id.MemberAt.{MemberAt}
use Rattle.link_check.specs.Profile.{is_of_library}
use Rattle.image_laws.specs.SetImage.Image.{Image}
use Rattle.jvm_model.specs.Mapped.{CodeMap, OptionCorr, is_own_class}
use Rattle.jvm_model.specs.Step.{out}
use Rattle.jvm_model.specs.Types.{argument_kinds, field_kind, field_type, stored}
use Rattle.jvm_model.specs.Value.{Value}
use Rattle.set_view.specs.ViewOf.{code_at, constant_at, key_at, member_of}
use Rattle.image_laws.specs.ViewImage.ImageNames.{mapping, names}

-- what a field of this descriptor holds when a value was stored
abbrev pub stored_by : List ℕ → Value → Value
stored_by descriptor v = option_map_or (λ ty. stored ty v) (field_type descriptor) v

-- a descriptor under new names asks for the same operands, and stores the same
pub record LikeDescriptors (old new : List ℕ) : Type 0 where
  pub field : field_kind new ≡ field_kind old
  pub arguments : argument_kinds new ≡ argument_kinds old
  pub stores : (v : Value) → stored_by new v ≡ stored_by old v

-- the name and the descriptor of the class initialisation method (JVMS 2.9)
abbrev pub clinit : NameAndType
clinit = (codes "<clinit>", codes "()V")

pub record IsImageView (a b : List Class) (i : Image a b) : Type 0 where
  -- a class of the set is the one of its name; so is a kept one in the image
  pub named : (x : ClassId) → IsClass a x → class_named a (name_of a x) ≡ Some x
  pub named_moved : (x : ClassId) → i.kept x ≡ true → class_named b (name_of b (i.moved x)) ≡ Some (i.moved x)
  -- a class of the library stays one; the classes and the field of which the machine speaks are kept, and keep their
  -- names
  pub library_moved : (x : ClassId) → i.kept x ≡ true → is_of_library (i.moved x) ≡ is_of_library x
  pub own_class : (c : List ℕ) → is_own_class c ≡ true → (names a b i).class c ≡ Some c
  pub own_field : (names a b i).field out ≡ Some out
  -- a kept member of the library keeps its name
  pub library_member : (m : MemberAt) → i.kept_member m ≡ true → is_of_library m.class ≡ true
      → key_at b (i.moved_member m) ≡ key_at a m
  -- a kept member is the one of its name in the image
  pub member_named : (m : MemberAt) → i.kept_member m ≡ true
      → member_of b (key_at b (i.moved_member m)) ≡ Some (i.moved_member m)
  -- a descriptor that stands for another one is like it
  pub descriptors : (n o : NameAndType) → i.renamed n ≡ Some o → LikeDescriptors n.1 o.1
  -- a class initialisation method of a kept class is kept, and keeps its name
  pub clinit_renamed : i.renamed clinit ≡ Some clinit
  pub clinit_kept : (x : ClassId) → i.kept x ≡ true
      → IfSome (declared_in a clinit x) (λ m. i.kept_member m ≡ true)
  -- a kept field has its constant, and a kept method the image of its code
  pub constant_moved : (m : MemberAt) → i.kept_member m ≡ true → constant_at b (i.moved_member m) ≡ constant_at a m
  pub code_moved : (m : MemberAt) → i.kept_member m ≡ true
      → OptionCorr (CodeMap (mapping a b i) (name_of a m.class)) (code_at a m) (code_at b (i.moved_member m))
