-- Access and overriding in an image.
use Rattle.std.proofs.Common.{◌≡◌, Bool, true, false, cond, ◌&&◌, ◌||◌, List, ap, ◌∙◌}
use Rattle.std.specs.List.{list_any}
use Rattle.class_model.specs.Flags.{acc_private, acc_protected, acc_public, acc_static}
use Rattle.class_model.specs.declared.class.Class.{Class}
use Rattle.class_pool.specs.declared.id.ClassId.{ClassId}
use Rattle.class_pool.specs.declared.id.MemberAt.{MemberAt}
use Rattle.class_pool.specs.Found.{declared_by, is_private_member, is_protected_member, is_public_member}
use Rattle.class_pool.specs.Found.{is_static_member, named_at, same_member, same_package}
use Rattle.class_pool.specs.Hierarchy.{IsClass}
use Rattle.class_pool.specs.Resolution.{is_class_accessible, is_class_below, is_interface_in, is_member_accessible}
use Rattle.class_pool.specs.Resolution.{is_protected_accessible, is_public_class}
use Rattle.class_pool.specs.Selection.{overrides, overriding, overriding_from}
use Rattle.class_pool.specs.Walk.{same_class, superclasses_from}
use Rattle.image_laws.specs.SetImage.Image.{Image, IsProperSet, SelectedKept}
use Rattle.image_laws.proofs.SetImage.MappedLists.{any_moved}
use Rattle.image_laws.proofs.SetImage.Walks.{among_moved, superclasses_kept, superclasses_moved}
use Rattle.image_laws.proofs.SetImage.Finding.{declared_moved}
use Rattle.image_laws.proofs.SetImage.Selecting.{overriding_kept, overriding_moved}

-- a member that is neither public nor private: of the package, or protected
abbrev is_shared : List Class → ClassId → ClassId → MemberAt → Bool
is_shared s from named m =
    same_package s from m.class || (is_protected_member s m && is_protected_accessible s from named m)

module _ (a b : List Class) (i : Image a b) where
  -- ---- classes

  pub class_accessible_moved : (from c : ClassId) → i.kept from ≡ true → i.kept c ≡ true
      → is_class_accessible b (i.moved from) (i.moved c) ≡ is_class_accessible a from c
  class_accessible_moved from c f k =
      ap (λ (t : Bool). t || same_package b (i.moved from) (i.moved c)) (i.public_moved c k)
      ∙ ap (λ (t : Bool). is_public_class a c || t) (i.package_moved from c f k)

  pub class_below_moved : (x y : ClassId) → i.kept x ≡ true → i.kept y ≡ true
      → is_class_below b (i.moved x) (i.moved y) ≡ is_class_below a x y
  class_below_moved x y k h = ap (list_any (same_class (i.moved y))) (superclasses_moved a b i x k)
      ∙ among_moved a b i (superclasses_from a x) y (superclasses_kept a b i x k) h

  -- ---- members

  module _ (from named : ClassId) (m : MemberAt) (f : i.kept from ≡ true) (n : i.kept named ≡ true)
      (k : i.kept_member m ≡ true) where
    protected_moved : is_protected_accessible b (i.moved from) (i.moved named) (i.moved_member m)
        ≡ is_protected_accessible a from named m
    protected_moved =
        ap (λ (c : ClassId). is_class_below b (i.moved from) c && (is_static_member b (i.moved_member m)
        || is_class_below b (i.moved named) (i.moved from) || is_class_below b (i.moved from) (i.moved named)))
        (i.class_moved m)
        ∙ ap (λ (t : Bool). t && (is_static_member b (i.moved_member m)
        || is_class_below b (i.moved named) (i.moved from) || is_class_below b (i.moved from) (i.moved named)))
        (class_below_moved from m.class f (i.class_kept m k))
        ∙ ap (λ (t : Bool). is_class_below a from m.class && (t
        || is_class_below b (i.moved named) (i.moved from) || is_class_below b (i.moved from) (i.moved named)))
        (i.flag_moved acc_static m k)
        ∙ ap (λ (t : Bool). is_class_below a from m.class && (is_static_member a m
        || t || is_class_below b (i.moved from) (i.moved named))) (class_below_moved named from n f)
        ∙ ap (λ (t : Bool). is_class_below a from m.class && (is_static_member a m
        || is_class_below a named from || t)) (class_below_moved from named f n)

    shared_moved : is_shared b (i.moved from) (i.moved named) (i.moved_member m) ≡ is_shared a from named m
    shared_moved =
        ap (λ (t : Bool). t || (is_protected_member b (i.moved_member m)
        && is_protected_accessible b (i.moved from) (i.moved named) (i.moved_member m)))
        (ap (same_package b (i.moved from)) (i.class_moved m) ∙ i.package_moved from m.class f (i.class_kept m k))
        ∙ ap (λ (t : Bool). same_package a from m.class || (t
        && is_protected_accessible b (i.moved from) (i.moved named) (i.moved_member m)))
        (i.flag_moved acc_protected m k)
        ∙ ap (λ (t : Bool). same_package a from m.class || (is_protected_member a m && t)) protected_moved

    pub member_accessible_moved : is_member_accessible b (i.moved from) (i.moved named) (i.moved_member m)
        ≡ is_member_accessible a from named m
    member_accessible_moved =
        ap (λ (t : Bool). cond t true (cond (is_private_member b (i.moved_member m))
        (same_class (i.moved from) (i.moved_member m).class)
        (is_shared b (i.moved from) (i.moved named) (i.moved_member m)))) (i.flag_moved acc_public m k)
        ∙ ap (λ (t : Bool). cond (is_public_member a m) true (cond t
        (same_class (i.moved from) (i.moved_member m).class)
        (is_shared b (i.moved from) (i.moved named) (i.moved_member m)))) (i.flag_moved acc_private m k)
        ∙ ap (λ (t : Bool). cond (is_public_member a m) true (cond (is_private_member a m) t
        (is_shared b (i.moved from) (i.moved named) (i.moved_member m))))
        (ap (same_class (i.moved from)) (i.class_moved m) ∙ i.same_moved from m.class f (i.class_kept m k))
        ∙ ap (λ (t : Bool). cond (is_public_member a m) true
        (cond (is_private_member a m) (same_class from m.class) t)) shared_moved

  -- ---- overriding (JVMS 5.4.5)

  pub overrides_moved : IsProperSet a → SelectedKept a b i → (m above : MemberAt) → IsClass a m.class
      → i.kept_member m ≡ true → i.kept_member above ≡ true → is_interface_in a m.class ≡ false
      → is_interface_in a above.class ≡ false
      → overrides b (i.moved_member m) (i.moved_member above) ≡ overrides a m above
  overrides_moved p rule m above there k h class of_class =
      let x = m.class in
      let x-kept = i.class_kept m k in
      let all = overriding_kept a b i above h p rule of_class x there x-kept class in
      ap (λ (c : ClassId). list_any (same_member (i.moved_member m)) (overriding_from b c (i.moved_member above)))
      (i.class_moved m)
      ∙ ap (list_any (same_member (i.moved_member m)))
      (ap (λ cs. overriding b (i.moved_member above) (declared_by b (named_at b (i.moved_member above)) cs))
      (superclasses_moved a b i x x-kept)
      ∙ ap (overriding b (i.moved_member above))
      (declared_moved a b i (named_at a above) (named_at b (i.moved_member above)) (i.name_moved above h)
      (superclasses_from a x) (superclasses_kept a b i x x-kept))
      ∙ overriding_moved a b i above h (declared_by a (named_at a above) (superclasses_from a x)) all)
      ∙ any_moved i.kept_member i.moved_member (same_member m) (same_member (i.moved_member m))
      (overriding_from a x above) all (λ y l. i.same_member_moved m y k l)
