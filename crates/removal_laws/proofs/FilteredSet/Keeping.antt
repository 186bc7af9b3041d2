-- Optional attributes are none of what names are looked up by, so a set without some of them links as it did.
use Rattle.std.proofs.Common.{◌≡◌, ℕ, ◌+◌, not, Bool, true, cond, List, [], ◌∷◌, ◌++◌, length, map, Option, Some, None}
use Rattle.std.proofs.Common.{Result, Ok, Err, refl, ap, ◌∙◌}
use Rattle.std.specs.Prelude.{◌==◌}
use Rattle.std.specs.Bool.{beq}
use Rattle.std.specs.List.{position}
use Rattle.std.specs.Option.{option_map}
use Rattle.std.proofs.lemmas.List.{length-map}
use Rattle.jv_base.specs.declared.types.Base.{Base}
use Rattle.jv_base.specs.declared.types.Base.TheVariants as base
use Rattle.class_model.specs.declared.class.Class.{Class}
use Rattle.class_model.specs.declared.class.Field.{Field}
use Rattle.class_model.specs.declared.class.Method.{Method}
use Rattle.lib_table.proofs.Classes.{position_map}
use Rattle.class_pool.specs.Found.{field_row, method_row}
use Rattle.class_pool.specs.Members.{is_field, is_method, member_named, or_method}
use Rattle.class_pool.specs.declared.id.ClassId.{ClassId}
use Rattle.class_pool.specs.declared.id.MemberAt.{MemberAt}
use Rattle.link_check.specs.Links.{linked, linked_field, linked_method, of_array, of_class, through}
use Rattle.link_check.specs.declared.fault.LinkKind.{LinkKind}
use Rattle.link_check.specs.declared.fault.LinkKind.TheVariants as link
use Rattle.shape_laws.specs.KeepsMembers.{KeepsMembers, no_constant}
use Rattle.shape_laws.proofs.Alike as alike
use Rattle.attribute_filter.specs.Filtered.{field_filtered, filtered, method_filtered}
use Rattle.attribute_filter.specs.declared.filter.AttributeFilter.{AttributeFilter}

-- ---- lists

pub map_map : {X Y Z : Type 0} (f : X → Y) (g : Y → Z) (h : X → Z) → ((x : X) → g (f x) ≡ h x) → (xs : List X)
    → map g (map f xs) ≡ map h xs
map_map f g h same [] = refl
map_map {X} {Y} {Z} f g h same (x ∷ xs) =
    ap (λ (z : Z). z ∷ map g (map f xs)) (same x) ∙ ap (λ (t : List Z). h x ∷ t) (map_map f g h same xs)

-- ---- members

-- what is told of the members of a class, by what is told of each
pub told_lists : {A : Type 0} (filter_by : AttributeFilter) (g gg : Field → A) (h hh : Method → A)
    → ((f : Field) → g (field_filtered filter_by f) ≡ gg f) → ((m : Method) → h (method_filtered filter_by m) ≡ hh m)
    → (c : Class)
    → map g (filtered filter_by c).fields ++ map h (filtered filter_by c).methods ≡ map gg c.fields ++ map hh c.methods
told_lists {A} filter_by g gg h hh e d c =
    ap (λ (t : List A). t ++ map h (map (method_filtered filter_by) c.methods))
    (map_map (field_filtered filter_by) g gg e c.fields)
    ∙ ap (λ (t : List A). map gg c.fields ++ t) (map_map (method_filtered filter_by) h hh d c.methods)

named_same : (filter_by : AttributeFilter) (c : Class) (name ty : List ℕ)
    → member_named (filtered filter_by c) name ty ≡ member_named c name ty
named_same filter_by c name ty =
    ap (or_method (filtered filter_by c) name ty)
    (position_map (field_filtered filter_by) (is_field name ty) c.fields)
    ∙ by (position (is_field name ty) c.fields)
  where
    by : (o : Option ℕ) → or_method (filtered filter_by c) name ty o ≡ or_method c name ty o
    by (Some n) = refl
    by None =
        ap (λ (n : ℕ). option_map (λ k. n + k)
        (position (is_method name ty) (map (method_filtered filter_by) c.methods)))
        (length-map c.fields (field_filtered filter_by))
        ∙ ap (option_map (λ k. length c.fields + k))
        (position_map (method_filtered filter_by) (is_method name ty) c.methods)

pub filtered_keeps : (filter_by : AttributeFilter) → KeepsMembers (filtered filter_by)
filtered_keeps filter_by = record {
  name = λ c. refl;
  super_name = λ c. refl;
  interfaces = λ c. refl;
  kind = λ c. refl;
  is_public = λ c. refl;
  rows = told_lists filter_by field_row field_row method_row method_row (λ f. refl) (λ m. refl);
  named = named_same filter_by;
  constants = told_lists filter_by (λ f. f.constant) (λ f. f.constant) no_constant no_constant (λ f. refl) (λ m. refl);
}

module _ (filter_by : AttributeFilter) (a : List Class) where
  abbrev filters : Class → Class
  filters = filtered filter_by

  abbrev keeps : KeepsMembers filters
  keeps = filtered_keeps filter_by

  abbrev b : List Class
  b = map filters a

  -- ---- references (JVMS 5.4.3)

  linked_at : (from named : ClassId) (right : Bool) (o : Option MemberAt)
      → linked b from named right o ≡ linked a from named right o
  linked_at from named right None = refl
  linked_at from named right (Some m) = λ i. cond (not (alike.is_member_accessible_is filters keeps a i from named m)) (Err link.Inaccessible)
      (cond right (Ok m) (Err link.WrongKind))

  through_at : (from : ClassId) (o : Option ClassId) (found : ClassId → Result MemberAt LinkKind)
      → through b from o found ≡ through a from o found
  through_at from None found = refl
  through_at from (Some x) found = λ i. cond (alike.is_class_accessible_is filters keeps a i from x) (found x) (Err link.Inaccessible)

  of_array_at : (from : ClassId) (right : Bool) (ty : Base) → of_array b from right ty ≡ of_array a from right ty
  of_array_at from right (base.Class name) = λ i. through_at from (alike.class_named_is filters keeps a i name)
      (λ x. cond right (Err link.LeftOutMember) (Err link.WrongKind)) i
  of_array_at from right ty = refl

  of_class_at : (from : ClassId) (ty : Base) (found : ClassId → Result MemberAt LinkKind)
      → of_class b from ty found ≡ of_class a from ty found
  of_class_at from (base.Class name) found = λ i. through_at from (alike.class_named_is filters keeps a i name) found i
  of_class_at from ty found = refl

  pub linked_field_is : linked_field b ≡ linked_field a
  linked_field_is = λ i from r. cond (r.class.dims == 0)
      (of_class_at from r.class.base (λ x. linked_at from x true (alike.field_found_is filters keeps a i x (r.name, r.ty)) i) i)
      (of_array_at from true r.class.base i)

  pub linked_method_is : linked_method b ≡ linked_method a
  linked_method_is = λ i from r. cond (r.class.dims == 0)
      (of_class_at from r.class.base (λ x. linked_at from x (beq (alike.is_interface_in_is filters keeps a i x) r.of_interface)
      (alike.method_found_is filters keeps a i x (r.name, r.ty)) i) i)
      (of_array_at from (not r.of_interface) r.class.base i)
