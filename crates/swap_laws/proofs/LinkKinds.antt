-- The rules for links ask of a set what they ask of it without the codes of its methods. Each lemma is named after the
-- definition of which it says so, and goes the definition's way.
use Rattle.std.proofs.Common.{◌≡◌, ℕ, ◌+◌, not, ◌&&◌, ◌||◌, Bool, true, false, cond, List, [], ◌∷◌, ◌++◌, map}
use Rattle.std.proofs.Common.{Option, Some, None, Result, Ok, Err, refl, codes, filter}
use Rattle.std.specs.Prelude.{◌==◌}
use Rattle.std.specs.Bool.{beq}
use Rattle.std.specs.List.{cons_option, enumerate_from, flat_map}
use Rattle.std.specs.Option.{option_map_or}
use Rattle.jv_base.specs.Descriptors.{read_field, read_method}
use Rattle.jv_base.specs.Names.{is_text}
use Rattle.jv_base.specs.declared.descriptors.BadDescriptor.{BadDescriptor}
use Rattle.jv_base.specs.declared.types.Base.{Base}
use Rattle.jv_base.specs.declared.types.Base.TheVariants as base
use Rattle.jv_base.specs.declared.types.FieldType.{FieldType}
use Rattle.jv_base.specs.declared.types.MethodType.{MethodType}
use Rattle.class_model.specs.Flags.{acc_abstract, acc_final, acc_static, has, is_init}
use Rattle.class_model.specs.declared.class.Class.{Class}
use Rattle.class_model.specs.declared.code.Ins.{Ins}
use Rattle.class_model.specs.declared.frame.VType.{VType}
use Rattle.class_model.specs.declared.frame.VType.TheVariants as vtype
use Rattle.class_model.specs.declared.op.Op.{Op}
use Rattle.class_model.specs.declared.op.Op.TheVariants as op
use Rattle.class_pool.specs.Found.{role_at}
use Rattle.class_pool.specs.Walk.{same_class}
use Rattle.class_pool.specs.declared.id.ClassId.{ClassId}
use Rattle.class_pool.specs.declared.id.ClassId.TheVariants.{Prog, Lib}
use Rattle.link_check.specs.Links.{is_callable_role}
use Rattle.link_check.specs.Profile.{base_kinds, call_kinds, changed_kinds, class_kinds, class_of}
use Rattle.link_check.specs.Profile.{code_kinds}
use Rattle.link_check.specs.Profile.{field_kinds, field_text_kinds}
use Rattle.link_check.specs.Profile.{implementing_kinds, is_abstract_class, is_of_library}
use Rattle.link_check.specs.Profile.{made_kinds, may_be_overridden_role}
use Rattle.link_check.specs.Profile.{member_kinds, method_text_kinds, method_type_kinds, methods_of, name_kinds}
use Rattle.link_check.specs.Profile.{new_kinds}
use Rattle.link_check.specs.Profile.{no_init_kinds, op_kinds, overridden_kinds, overriding_kinds, selected_kinds}
use Rattle.link_check.specs.Profile.{special_class_kinds, static_kinds, type_kinds, unless}
use Rattle.link_check.specs.Profile.{used_kinds, verification_kinds, written_kinds}
use Rattle.link_check.specs.declared.fault.ProfileKind.TheVariants.{Inaccessible, LeftOutMember, WrongKind}
use Rattle.shape_laws.specs.Bare.{bare}
use Rattle.shape_laws.proofs.Alike as alike
use Rattle.shape_laws.proofs.BareSets.{bare_keeps}
use Rattle.swap_laws.proofs.Referring as refers

module _ (a : List Class) where
  abbrev b : List Class
  b = map bare a

  abstract_at : (x : ClassId) → is_abstract_class b x ≡ is_abstract_class a x
  abstract_at (Prog n) = alike.told bare bare_keeps a (λ c. has acc_abstract c.flags.0) false (λ c. refl) n
  abstract_at (Lib id) = refl

  class_of_by : (d : ℕ) (ty : Base) (name text : List ℕ) (f : Bool)
      → class_of b (record { class = record { dims = d; base = ty }; name = name; ty = text; of_interface = f })
      ≡ class_of a (record { class = record { dims = d; base = ty }; name = name; ty = text; of_interface = f })
  class_of_by d (base.Class cn) name text f = λ i. cond (d == 0) (alike.class_named_is bare bare_keeps a i cn) None
  class_of_by d ty name text f = refl

  pub class_of_is : class_of b ≡ class_of a
  class_of_is = λ i r. class_of_by r.class.dims r.class.base r.name r.ty r.of_interface i

  static_kinds_is : static_kinds b ≡ static_kinds a
  static_kinds_is = λ i wanted m. unless (beq (alike.has_flag_is bare bare_keeps a i acc_static m) wanted) WrongKind

  made_kinds_is : made_kinds b ≡ made_kinds a
  made_kinds_is = λ i x. unless (not (alike.is_interface_in_is bare bare_keeps a i x) && not (abstract_at x i)) WrongKind

  overridden_kinds_is : overridden_kinds b ≡ overridden_kinds a
  overridden_kinds_is = λ i m above.
      cond (not (same_class m.class above.class) && alike.overrides_is bare bare_keeps a i m above)
      (unless (not (alike.has_flag_is bare bare_keeps a i acc_final above)) WrongKind
      ++ unless (may_be_overridden_role (role_at above)) LeftOutMember) []

  methods_of_at : (x : ClassId) → methods_of b x ≡ methods_of a x
  methods_of_at (Lib id) = refl
  methods_of_at (Prog n) = λ i. filter (alike.is_instance_method_is bare bare_keeps a i)
      (map (λ p. record { class = Prog n; index = p.0 }) (enumerate_from 0 (alike.rows_in_is bare bare_keeps a i (Prog n))))

  module _ (n : ℕ) where
    -- ---- names and types

    class_kinds_at : (o : Option ClassId) → class_kinds b n o ≡ class_kinds a n o
    class_kinds_at None = refl
    class_kinds_at (Some x) = λ i. unless (alike.is_class_accessible_is bare bare_keeps a i (Prog n) x) Inaccessible

    pub name_kinds_is : name_kinds b n ≡ name_kinds a n
    name_kinds_is = λ i name. class_kinds_at (alike.class_named_is bare bare_keeps a i name) i

    base_kinds_at : (ty : Base) → base_kinds b n ty ≡ base_kinds a n ty
    base_kinds_at (base.Class name) = λ i. name_kinds_is i name
    base_kinds_at ty = refl

    pub type_kinds_is : type_kinds b n ≡ type_kinds a n
    type_kinds_is = λ i ty. base_kinds_at ty.base i

    pub method_type_kinds_is : method_type_kinds b n ≡ method_type_kinds a n
    method_type_kinds_is = λ i ty. flat_map (type_kinds_is i) (cons_option ty.ret ty.args)

    field_text_kinds_at : (r : Result FieldType BadDescriptor) → field_text_kinds b n r ≡ field_text_kinds a n r
    field_text_kinds_at (Ok ty) = λ i. type_kinds_is i ty
    field_text_kinds_at (Err bad) = refl

    method_text_kinds_at : (r : Result MethodType BadDescriptor) → method_text_kinds b n r ≡ method_text_kinds a n r
    method_text_kinds_at (Ok ty) = λ i. method_type_kinds_is i ty
    method_text_kinds_at (Err bad) = refl

    -- ---- members

    written_kinds_is : written_kinds b n ≡ written_kinds a n
    written_kinds_is = λ i writer method m. unless (not (alike.has_flag_is bare bare_keeps a i acc_final m)
        || (same_class m.class (Prog n) && is_text method writer)) WrongKind

    changed_kinds_is : changed_kinds b n ≡ changed_kinds a n
    changed_kinds_is = λ i method static written m. cond written
        (written_kinds_is i (cond static (codes "<clinit>") (codes "<init>")) method m
        ++ unless (not (static && is_of_library m.class)) LeftOutMember) []

    used_kinds_is : used_kinds b n ≡ used_kinds a n
    used_kinds_is = λ i method static written m. static_kinds_is i static m
        ++ changed_kinds_is i method static written m

    field_kinds_is : field_kinds b n ≡ field_kinds a n
    field_kinds_is = λ i method static written r. field_text_kinds_at (read_field r.ty) i
        ++ member_kinds (refers.linked_field_is a i (Prog n) r) (used_kinds_is i method static written)

    call_kinds_is : call_kinds b n ≡ call_kinds a n
    call_kinds_is = λ i static r. method_text_kinds_at (read_method r.ty) i
        ++ unless (not (is_text r.name (codes "<clinit>"))) WrongKind
        ++ member_kinds (refers.linked_method_is a i (Prog n) r) (static_kinds_is i static)

    special_class_kinds_is : special_class_kinds b n ≡ special_class_kinds a n
    special_class_kinds_is = λ i r. option_map_or
        (λ named. cond (is_init r.name)
        (member_kinds (refers.linked_method_is a i (Prog n) r)
        (λ m. unless (same_class m.class named) WrongKind))
        (unless (alike.is_class_below_is bare bare_keeps a i (Prog n) named) WrongKind))
        (class_of_is i r) (WrongKind ∷ [])

    new_kinds_is : new_kinds b n ≡ new_kinds a n
    new_kinds_is = λ i name. name_kinds_is i name
        ++ option_map_or (made_kinds_is i) (alike.class_named_is bare bare_keeps a i name) []

    -- ---- code

    pub op_kinds_at : (method : List ℕ) (o : Op) → op_kinds b n method o ≡ op_kinds a n method o
    op_kinds_at method (op.GetStatic r) = λ i. field_kinds_is i method true false r
    op_kinds_at method (op.PutStatic r) = λ i. field_kinds_is i method true true r
    op_kinds_at method (op.GetField r) = λ i. field_kinds_is i method false false r
    op_kinds_at method (op.PutField r) = λ i. field_kinds_is i method false true r
    op_kinds_at method (op.InvokeVirtual r) = λ i. call_kinds_is i false r ++ no_init_kinds r
    op_kinds_at method (op.InvokeSpecial r) = λ i. call_kinds_is i false r ++ special_class_kinds_is i r
    op_kinds_at method (op.InvokeStatic r) = λ i. call_kinds_is i true r ++ no_init_kinds r
    op_kinds_at method (op.InvokeInterface r) = λ i. call_kinds_is i false r ++ no_init_kinds r
    op_kinds_at method (op.New name) = λ i. new_kinds_is i name
    op_kinds_at method (op.ANewArray ty) = λ i. type_kinds_is i ty
    op_kinds_at method (op.CheckCast ty) = λ i. type_kinds_is i ty
    op_kinds_at method (op.InstanceOf ty) = λ i. type_kinds_is i ty
    op_kinds_at method (op.MultiNewArray ty dimensions) = λ i. type_kinds_is i ty
    op_kinds_at method o = refl

    verification_kinds_at : (ty : VType) → verification_kinds b n ty ≡ verification_kinds a n ty
    verification_kinds_at (vtype.Object ty) = λ i. type_kinds_is i ty
    verification_kinds_at ty = refl

    pub code_kinds_is : code_kinds b n ≡ code_kinds a n
    code_kinds_is = λ i method code. flat_map (λ (j : Ins). op_kinds_at method j.op i) code.ins
        ++ flat_map (λ h. option_map_or (name_kinds_is i) h.caught []) code.handlers
        ++ flat_map (λ f. flat_map (λ ty. verification_kinds_at ty i) (f.frame.locals ++ f.frame.stack)) code.frames

    -- ---- the places

    pub overriding_kinds_is : overriding_kinds b n ≡ overriding_kinds a n
    overriding_kinds_is = λ i m. flat_map (overridden_kinds_is i m)
        (alike.declared_by_is bare bare_keeps a i (alike.named_at_is bare bare_keeps a i m)
        (alike.superclasses_from_is bare bare_keeps a i (Prog n)))

    selected_kinds_is : selected_kinds b n ≡ selected_kinds a n
    selected_kinds_is = λ i m. option_map_or (λ one. unless (is_callable_role (role_at one)) LeftOutMember)
        (alike.selected_is bare bare_keeps a i (Prog n) m) []

    pub implementing_kinds_is : implementing_kinds b n ≡ implementing_kinds a n
    implementing_kinds_is = λ i c. cond (has acc_abstract c.flags.0) []
        (flat_map (λ x. flat_map (selected_kinds_is i) (methods_of_at x i))
        (alike.superinterfaces_is bare bare_keeps a i (Prog n)))
