-- A set of which a change leaves the members alone is the same program, its codes aside.
use Rattle.std.proofs.Common.{◌≡◌, ℕ, not, ◌&&◌, ◌||◌, Bool, true, false, cond, List, [], ◌++◌, map}
use Rattle.std.proofs.Common.{Option, Some}
use Rattle.std.proofs.Common.{None, slice_get, refl, ap, ◌∙◌, codes}
use Rattle.std.specs.Prelude.{◌==◌, option_to_list}
use Rattle.std.specs.List.{list_any}
use Rattle.std.specs.Option.{option_and_then, option_map, option_map_or}
use Rattle.std.proofs.lemmas.Option.{slice_get-map}
use Rattle.jv_base.specs.declared.types.Base.{Base}
use Rattle.jv_base.specs.declared.types.Base.TheVariants as base
use Rattle.class_model.specs.Flags.{acc_abstract, acc_private, acc_public}
use Rattle.class_model.specs.declared.class.Class.{Class}
use Rattle.class_model.specs.declared.class.Constant.{Constant}
use Rattle.class_model.specs.declared.class.Field.{Field}
use Rattle.class_pool.specs.Supers.{is_below}
use Rattle.class_pool.specs.Walk.{same_class}
use Rattle.class_pool.specs.declared.id.ClassId.{ClassId}
use Rattle.class_pool.specs.declared.id.ClassId.TheVariants.{Prog, Lib}
use Rattle.class_pool.specs.declared.id.MemberAt.{MemberAt}
use Rattle.link_check.specs.Profile.{class_of, is_of_library}
use Rattle.jvm_model.specs.Exceptions.{AbstractMethod, IllegalAccess, IncompatibleChange}
use Rattle.jvm_model.specs.Program.{Fails}
use Rattle.jvm_model.specs.Types.{is_above_arrays}
use Rattle.set_view.specs.ViewOf.{array_target_of, checked, constant_at, field_of, firsts_of}
use Rattle.set_view.specs.ViewOf.{is_selected, key_at, member_of, method_of, selected_from}
use Rattle.set_view.specs.ViewOf.{selected_of, shape_of, special_of, static_of, target_at}
use Rattle.set_view.specs.ViewOf.{target_in}
use Rattle.set_view.specs.ViewOf.{target_of, told_in, value_of}
use Rattle.shape_laws.specs.KeepsMembers.{KeepsMembers, constants_of, no_constant}
use Rattle.shape_laws.proofs.Alike as alike

abbrev constant_of : ℕ → Class → Option Constant
constant_of index c = option_and_then (λ x. x) (slice_get (constants_of c) index)

module _ (f : Class → Class) (keeps : KeepsMembers f) (a : List Class) where
  abbrev b : List Class
  b = alike.b f keeps a

  constant_in : (x : ClassId) (index : ℕ)
      → told_in b (λ (f : Field). f.constant) no_constant x index
      ≡ told_in a (λ (f : Field). f.constant) no_constant x index
  constant_in (Lib id) index = refl
  constant_in (Prog n) index =
      ap (option_and_then (constant_of index)) (slice_get-map f a n) ∙ by (slice_get a n)
    where
      by : (o : Option Class)
          → option_and_then (constant_of index) (option_map f o)
          ≡ option_and_then (constant_of index) o
      by None = refl
      by (Some c) =
          ap (λ (t : List (Option Constant)). option_and_then (λ x. x) (slice_get t index))
          (keeps.constants c)

  constant_at_at : (m : MemberAt) → constant_at b m ≡ constant_at a m
  constant_at_at m = constant_in m.class m.index

  -- ---- the shape

  class_of_by : (d : ℕ) (ty : Base) (name text : List ℕ) (t : Bool)
      → class_of b
      (record {
        class = record { dims = d; base = ty };
        name = name;
        ty = text;
        of_interface =
            t;
      })
      ≡ class_of a
      (record {
        class = record { dims = d; base = ty };
        name = name;
        ty = text;
        of_interface =
            t;
      })
  class_of_by d (base.Class cn) name text t =
      λ i. cond (d == 0) (alike.class_named_is f keeps a i cn) None
  class_of_by d ty name text t = refl

  pub class_of_is : class_of b ≡ class_of a
  class_of_is = λ i r. class_of_by r.class.dims r.class.base r.name r.ty r.of_interface i

  pub key_at_is : key_at b ≡ key_at a
  key_at_is = λ i m. record {
    class = alike.name_of_at f keeps a m.class i;
    name = (alike.named_at_is f keeps a i m).0;
    descriptor = (alike.named_at_is f keeps a i m).1;
  }

  pub member_of_is : member_of b ≡ member_of a
  member_of_is = λ i k. option_and_then (alike.declared_in_is f keeps a i (k.name, k.descriptor))
      (alike.class_named_is f keeps a i k.class)

  field_of_is : field_of b ≡ field_of a
  field_of_is = λ i r. option_and_then (λ x. alike.field_found_is f keeps a i x (r.name, r.ty))
      (class_of_is i r)

  method_of_is : method_of b ≡ method_of a
  method_of_is = λ i r x. alike.method_found_is f keeps a i x (r.name, r.ty)

  target_at_is : target_at b ≡ target_at a
  target_at_is =
      λ i m. cond (alike.has_flag_is f keeps a i acc_abstract m) (Some (Fails AbstractMethod))
      (target_in m.class (key_at_is i m))

  target_of_at : (o : Option MemberAt) → target_of b o ≡ target_of a o
  target_of_at None = refl
  target_of_at (Some m) = λ i. target_at_is i m

  static_of_is : static_of b ≡ static_of a
  static_of_is =
      λ i r. option_and_then (λ x. option_and_then (λ m. target_at_is i m) (method_of_is i r x))
      (class_of_is i r)

  special_of_is : special_of b ≡ special_of a
  special_of_is = λ i r from. option_and_then
      (λ x. option_and_then (λ m. target_of_at (alike.selected_special_is f keeps a i from x m) i)
      (method_of_is i r x))
      (class_of_is i r)

  checked_at : (t : Bool) (o : Option MemberAt) → checked b t o ≡ checked a t o
  checked_at false o = target_of_at o
  checked_at true o = λ i. cond (option_map_or (alike.has_flag_is f keeps a i acc_public) o true)
      (target_of_at o i)
      (Some (Fails IllegalAccess))

  is_selected_is : is_selected b ≡ is_selected a
  is_selected_is = λ i m. not (alike.is_interface_in_is f keeps a i m.class)
      ||
      (alike.is_instance_method_is f keeps a i m && not
      (alike.has_flag_is f keeps a i acc_private m))

  is_below_is : is_below b ≡ is_below a
  is_below_is = λ i x y. list_any (same_class y)
      (alike.superclasses_from_is f keeps a i x ++ alike.superinterfaces_is f keeps a i x)

  selected_from_is : selected_from b ≡ selected_from a
  selected_from_is = λ i r x y m. cond (is_below_is i x y && is_below_is i x m.class)
      (cond (is_selected_is i m) (checked_at r.of_interface (alike.selected_is f keeps a i x m) i)
      (Some (Fails AbstractMethod)))
      (cond r.of_interface (Some (Fails IncompatibleChange)) None)

  selected_of_is : selected_of b ≡ selected_of a
  selected_of_is = λ i r x. cond (alike.is_interface_in_is f keeps a i x) None
      (option_and_then (λ y. option_and_then (selected_from_is i r x y) (method_of_is i r y))
      (class_of_is i r))

  array_target_of_is : array_target_of b ≡ array_target_of a
  array_target_of_is = λ i r. option_and_then
      (λ x. option_and_then
      (λ m. cond (is_above_arrays (base.Class (alike.name_of_at f keeps a x i)))
      (target_at_is i m) (cond r.of_interface (Some (Fails IncompatibleChange)) None))
      (method_of_is i r x))
      (class_of_is i r)

  firsts_of_is : firsts_of b ≡ firsts_of a
  firsts_of_is = λ i x. cond (alike.is_interface_in_is f keeps a i x) []
      (map (λ y. alike.name_of_at f keeps a y i)
      (option_to_list (alike.superclass_is f keeps a i x)))

  pub shape_of_is : shape_of b ≡ shape_of a
  shape_of_is = λ i. record {
    field = λ r. option_map (key_at_is i) (field_of_is i r);
    static_target = static_of_is i;
    special_target =
        λ from r. option_map_or (special_of_is i r) (alike.class_named_is f keeps a i from) None;
    selected_target =
        λ class r. option_map_or (selected_of_is i r) (alike.class_named_is f keeps a i class) None;
    array_target = array_target_of_is i;
    is_sub =
        λ x y. option_map_or
        (λ z. option_map_or (is_below_is i z) (alike.class_named_is f keeps a i y) false)
        (alike.class_named_is f keeps a i x) false;
    is_library = λ x. option_map_or is_of_library (alike.class_named_is f keeps a i x) false;
    firsts = λ x. option_map_or (firsts_of_is i) (alike.class_named_is f keeps a i x) [];
    clinit = λ class. option_map (key_at_is i)
        (option_map_or (alike.declared_in_is f keeps a i (codes "<clinit>", codes "()V"))
        (alike.class_named_is f keeps a i class) None);
    constant =
        λ k. option_map value_of (option_and_then (λ m. constant_at_at m i) (member_of_is i k));
  }
