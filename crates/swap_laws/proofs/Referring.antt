-- References lead in a set where they lead without the codes of its methods. Each lemma is named after the definition of
-- which it says so, and goes the definition's way.
use Rattle.std.proofs.Common.{◌≡◌, not, Bool, true, cond, List, map, Option, Some, None, Result, Ok, Err, refl}
use Rattle.std.specs.Prelude.{◌==◌}
use Rattle.std.specs.Bool.{beq}
use Rattle.jv_base.specs.declared.types.Base.{Base}
use Rattle.jv_base.specs.declared.types.Base.TheVariants as base
use Rattle.class_model.specs.declared.class.Class.{Class}
use Rattle.class_pool.specs.declared.id.ClassId.{ClassId}
use Rattle.class_pool.specs.declared.id.MemberAt.{MemberAt}
use Rattle.link_check.specs.Links.{linked, linked_field, linked_method, of_array, of_class, through}
use Rattle.link_check.specs.declared.fault.LinkKind.{LinkKind}
use Rattle.link_check.specs.declared.fault.LinkKind.TheVariants as link
use Rattle.shape_laws.specs.Bare.{bare}
use Rattle.shape_laws.proofs.Alike as alike
use Rattle.shape_laws.proofs.BareSets.{bare_keeps}

module _ (a : List Class) where
  abbrev b : List Class
  b = map bare a

  linked_at : (from named : ClassId) (right : Bool) (o : Option MemberAt)
      → linked b from named right o ≡ linked a from named right o
  linked_at from named right None = refl
  linked_at from named right (Some m) = λ i. cond
      (not (alike.is_member_accessible_is bare bare_keeps a i from named m)) (Err link.Inaccessible)
      (cond right (Ok m) (Err link.WrongKind))

  through_at : (from : ClassId) (o : Option ClassId) (found : ClassId → Result MemberAt LinkKind)
      → through b from o found ≡ through a from o found
  through_at from None found = refl
  through_at from (Some x) found =
      λ i. cond (alike.is_class_accessible_is bare bare_keeps a i from x) (found x) (Err link.Inaccessible)

  of_array_at : (from : ClassId) (right : Bool) (ty : Base) → of_array b from right ty ≡ of_array a from right ty
  of_array_at from right (base.Class name) = λ i. through_at from (alike.class_named_is bare bare_keeps a i name)
      (λ x. cond right (Err link.LeftOutMember) (Err link.WrongKind)) i
  of_array_at from right ty = refl

  of_class_at : (from : ClassId) (ty : Base) (found : ClassId → Result MemberAt LinkKind)
      → of_class b from ty found ≡ of_class a from ty found
  of_class_at from (base.Class name) found =
      λ i. through_at from (alike.class_named_is bare bare_keeps a i name) found i
  of_class_at from ty found = refl

  pub linked_field_is : linked_field b ≡ linked_field a
  linked_field_is = λ i from r. cond (r.class.dims == 0)
      (of_class_at from r.class.base
      (λ x. linked_at from x true (alike.field_found_is bare bare_keeps a i x (r.name, r.ty)) i) i)
      (of_array_at from true r.class.base i)

  pub linked_method_is : linked_method b ≡ linked_method a
  linked_method_is = λ i from r. cond (r.class.dims == 0)
      (of_class_at from r.class.base
      (λ x. linked_at from x (beq (alike.is_interface_in_is bare bare_keeps a i x) r.of_interface)
      (alike.method_found_is bare bare_keeps a i x (r.name, r.ty)) i) i)
      (of_array_at from (not r.of_interface) r.class.base i)
