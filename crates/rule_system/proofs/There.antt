-- What items want is there, so that each number that the system names is one of an item.
use Rattle.std.proofs.Common.{◌≡◌, ℕ, ◌<◌, ◌&&◌, ◌||◌, Bool, true, false, cond, List, [], ◌∷◌, ◌++◌}
use Rattle.std.proofs.Common.{length, Option, Some, None, Result, Ok, Err, refl}
use Rattle.std.specs.Prelude.{IfOk, IfSome, codes, slice_index_or}
use Rattle.std.specs.List.{AllByRecursion, cons_option, filter_map, flat_map, list_any}
use Rattle.std.specs.Option.{option_and_then, option_map, option_map_or}
use Rattle.jv_base.specs.Descriptors.{read_field, read_method}
use Rattle.jv_base.specs.declared.types.Base.{Base}
use Rattle.jv_base.specs.declared.types.Base.TheVariants as base
use Rattle.jv_base.specs.declared.types.FieldType.{FieldType}
use Rattle.jv_base.specs.declared.types.MethodType.{MethodType}
use Rattle.jv_base.specs.declared.descriptors.BadDescriptor.{BadDescriptor}
use Rattle.jv_base.proofs.Lists.{all_append, all_mapped}
use Rattle.class_model.specs.Flags.{is_init, is_interface}
use Rattle.class_model.specs.declared.class.Class.{Class}
use Rattle.class_model.specs.declared.class.Field.{Field}
use Rattle.class_model.specs.declared.class.Method.{Method}
use Rattle.class_model.specs.declared.code.Code.{Code}
use Rattle.class_model.specs.declared.code.Handler.{Handler}
use Rattle.class_model.specs.declared.code.Ins.{Ins}
use Rattle.class_model.specs.declared.frame.FrameAt.{FrameAt}
use Rattle.class_model.specs.declared.frame.VType.{VType}
use Rattle.class_model.specs.declared.frame.VType.TheVariants as vtype
use Rattle.class_model.specs.declared.op.MemberRef.{MemberRef}
use Rattle.class_model.specs.declared.op.Op.{Op}
use Rattle.class_model.specs.declared.op.Op.TheVariants as op
use Rattle.class_pool.specs.Found.{NameAndType, declared_by, declared_in, is_instance_method, named_at, rows_in}
use Rattle.class_pool.specs.Found.{same_member}
use Rattle.class_pool.specs.Hierarchy.{IsClass, class_named, superclass}
use Rattle.class_pool.specs.Members.{declared_at}
use Rattle.class_pool.specs.Resolution.{first, is_interface_in}
use Rattle.class_pool.specs.Selection.{first_instance, may_be_overridden, may_override, overriding, selected}
use Rattle.class_pool.specs.Selection.{selected_special}
use Rattle.class_pool.specs.Walk.{same_class, superclasses_from}
use Rattle.class_pool.specs.declared.id.ClassId.{ClassId}
use Rattle.class_pool.specs.declared.id.ClassId.TheVariants.{Prog}
use Rattle.class_pool.specs.declared.id.MemberAt.{MemberAt}
use Rattle.class_pool.proofs.Declaring.{named_there}
use Rattle.class_pool.proofs.ToldMembers.{declared_below}
use Rattle.link_check.specs.Links.{resolved_field, resolved_method}
use Rattle.link_check.specs.Profile.{class_of}
use Rattle.link_check.specs.declared.fault.LinkKind.{LinkKind}
use Rattle.link_check.proofs.Meaning.{field_has, method_has, of_declared, of_find, of_first}
use Rattle.require_sys.specs.Requires.{Item, OfClass, OfMember, base_wants, called_wants, class_wants, code_wants}
use Rattle.require_sys.specs.Requires.{field_ref_wants, field_text_wants, field_wants, frame_wants, handler_wants}
use Rattle.require_sys.specs.Requires.{initialisation_wants, instance_methods, library_supers, method_ref_wants}
use Rattle.require_sys.specs.Requires.{method_text_wants, method_type_wants, method_wants, name_wants, op_wants}
use Rattle.require_sys.specs.Requires.{resolved_wants, rule_wants, special_wants, super_wants, throws_wants, type_wants}
use Rattle.require_sys.specs.Requires.{verification_wants}
use Rattle.item_needs.specs.bodies.Asked.{AreMembers}
use Rattle.require_sys.specs.declared.kept.KeptByRules.{KeptByRules}
use Rattle.require_sys.proofs.Parts.{from_all}

-- ---- lists that are made of others

pub each_flat : {X Y : Type 0} (P : Y → Type 0) (f : X → List Y) (xs : List X) → ((x : X) → AllByRecursion P (f x))
    → AllByRecursion P (flat_map f xs)
each_flat P f [] h = tt
each_flat P f (x ∷ xs) h = all_append P (f x) (flat_map f xs) (h x) (each_flat P f xs h)

pub each_option : {X : Type 0} (P : X → Type 0) (o : Option X) (xs : List X) → IfSome o P → AllByRecursion P xs
    → AllByRecursion P (cons_option o xs)
each_option P None xs h k = k
each_option P (Some x) xs h k = (h, k)

pub each_given : {X Y : Type 0} (P : Y → Type 0) (f : X → Option Y) (xs : List X) → ((x : X) → IfSome (f x) P)
    → AllByRecursion P (filter_map f xs)
each_given P f [] h = tt
each_given P f (x ∷ xs) h = each_option P (f x) (filter_map f xs) (h x) (each_given P f xs h)

-- ---- items that are there

abbrev pub MemberThere : List Class → MemberAt → Type 0
MemberThere classes m = m.index < length (rows_in classes m.class)

abbrev pub IsThere : List Class → Item → Type 0
IsThere classes (OfClass x) = IsClass classes x
IsThere classes (OfMember m) = MemberThere classes m

abbrev pub AreThere : List Class → List Item → Type 0
AreThere classes items = AllByRecursion (IsThere classes) items

module _ (classes : List Class) where
  abbrev There : Item → Type 0
  There = IsThere classes

  -- ---- members

  pub declared_there : (named : NameAndType) (c : ClassId) → IfSome (declared_in classes named c) (MemberThere classes)
  declared_there named c = by (declared_at classes c named.0 named.1) refl
    where
      by : (o : Option ℕ) → declared_at classes c named.0 named.1 ≡ o
          → IfSome (option_map (λ n. record { class = c; index = n }) o) (MemberThere classes)
      by None e = tt
      by (Some k) e = declared_below classes c named.0 named.1 k e

  member_item : (o : Option MemberAt) → IfSome o (MemberThere classes) → IfSome (option_map OfMember o) There
  member_item None h = tt
  member_item (Some m) h = h

  instance_there : (c : ClassId) (named : NameAndType) → IfSome (first_instance classes c named) (MemberThere classes)
  instance_there c named =
      of_find (MemberThere classes) (is_instance_method classes) (declared_by classes named
      (superclasses_from classes c))
      (of_declared (MemberThere classes) classes named (declared_there named) (superclasses_from classes c))

  overriding_there : (above : MemberAt) (ms : List MemberAt) → AllByRecursion (MemberThere classes) ms
      → AllByRecursion (MemberThere classes) (overriding classes above ms)
  overriding_there above [] h = tt
  overriding_there above (m ∷ ms) h =
      by (same_member m above || (may_override classes m
      && list_any (may_be_overridden classes m.class) (overriding classes above ms))) (overriding_there above ms h.1)
    where
      by : (b : Bool) → AllByRecursion (MemberThere classes) (overriding classes above ms)
          → AllByRecursion (MemberThere classes) (cond b (m ∷ overriding classes above ms)
          (overriding classes above ms))
      by true r = (h.0, r)
      by false r = r

  pub selected_there : (c : ClassId) (m : MemberAt) → IfSome (selected classes c m) (MemberThere classes)
  selected_there c m = by (is_interface_in classes m.class)
    where
      ms : List MemberAt
      ms = declared_by classes (named_at classes m) (superclasses_from classes c)

      by : (b : Bool) → IfSome (cond b (first_instance classes c (named_at classes m)) (first
          (overriding classes m ms)))
          (MemberThere classes)
      by true = instance_there c (named_at classes m)
      by false =
          of_first (MemberThere classes) (overriding classes m ms) (overriding_there m ms
          (of_declared (MemberThere classes) classes (named_at classes m) (declared_there (named_at classes m))
          (superclasses_from classes c)))

  special_there : (from named : ClassId) (m : MemberAt) → MemberThere classes m
      → IfSome (selected_special classes from named m) (MemberThere classes)
  special_there from named m h = by (is_init (named_at classes m).0) (same_class from named)
    where
      up : (o : Option ClassId)
          → IfSome (option_and_then (λ above. first_instance classes above (named_at classes m)) o)
          (MemberThere classes)
      up None = tt
      up (Some above) = instance_there above (named_at classes m)

      by : (b t : Bool) → IfSome (cond b (Some m) (cond t (first_instance classes from (named_at classes m))
          (option_and_then (λ above. first_instance classes above (named_at classes m)) (superclass classes from))))
          (MemberThere classes)
      by true t = h
      by false true = instance_there from (named_at classes m)
      by false false = up (superclass classes from)

  -- ---- classes

  name_there : (name : List ℕ) → AreThere classes (name_wants classes name)
  name_there name = by (class_named classes name) (named_there classes name)
    where
      by : (o : Option ClassId) → IfSome o (IsClass classes)
          → AreThere classes (cons_option (option_map OfClass o) [])
      by None h = tt
      by (Some c) h = (h, tt)

  base_there : (b : Base) → AreThere classes (base_wants classes b)
  base_there (base.Class name) = name_there name
  base_there _ = tt

  type_there : (ty : FieldType) → AreThere classes (type_wants classes ty)
  type_there ty = base_there ty.base

  method_type_there : (ty : MethodType) → AreThere classes (method_type_wants classes ty)
  method_type_there ty = each_flat There (type_wants classes) (cons_option ty.ret ty.args) type_there

  names_there : (names : List (List ℕ)) → AreThere classes (flat_map (name_wants classes) names)
  names_there names = each_flat There (name_wants classes) names name_there

  -- ---- what a class wants

  init_there : (n : ℕ) → AreThere classes (initialisation_wants classes n)
  init_there n =
      each_option There (option_map OfMember (declared_in classes (codes "<clinit>", codes "()V") (Prog n))) []
      (member_item (declared_in classes (codes "<clinit>", codes "()V") (Prog n))
      (declared_there (codes "<clinit>", codes "()V") (Prog n))) tt

  called_there : (n : ℕ) (c : Class) → AreThere classes (called_wants classes n c)
  called_there n c = by (is_interface c.flags.0)
    where
      by : (b : Bool) → AreThere classes (cond b [] (filter_map (λ m. option_map OfMember (selected classes (Prog n) m))
          (instance_methods classes (library_supers classes (Prog n)))))
      by true = tt
      by false =
          each_given There (λ m. option_map OfMember (selected classes (Prog n) m))
          (instance_methods classes (library_supers classes (Prog n)))
          (λ m. member_item (selected classes (Prog n) m) (selected_there (Prog n) m))

  pub class_there : (kept : KeptByRules) → AreMembers classes kept.members → (n : ℕ) (c : Class)
      → AreThere classes (class_wants classes kept n c)
  class_there kept members n c =
      all_append There (super_wants classes c)
      (initialisation_wants classes n ++ (rule_wants classes kept n ++ called_wants classes n c))
      (names_there (c.super_name ∷ c.interfaces))
      (all_append There (initialisation_wants classes n) (rule_wants classes kept n ++ called_wants classes n c)
      (init_there n)
      (all_append There (rule_wants classes kept n) (called_wants classes n c)
      (all_mapped There (λ k. OfMember (record { class = Prog n; index = k })) (slice_index_or kept.members n [])
      (from_all (λ k. k < length (rows_in classes (Prog n))) (slice_index_or kept.members n []) (members n)))
      (called_there n c)))

  -- ---- what members want

  pub field_there : (n : ℕ) (f : Field) → n < length classes → AreThere classes (field_wants classes n f)
  field_there n f lt = (lt, type_there f.ty)

  module _ (n : ℕ) where
    field_text_there : (r : Result FieldType BadDescriptor) → AreThere classes (field_text_wants classes r)
    field_text_there (Ok ty) = type_there ty
    field_text_there (Err bad) = tt

    method_text_there : (r : Result MethodType BadDescriptor) → AreThere classes (method_text_wants classes r)
    method_text_there (Ok ty) = method_type_there ty
    method_text_there (Err bad) = tt

    resolved_there : (r : Result MemberAt LinkKind) → IfOk r (MemberThere classes)
        → AreThere classes (resolved_wants classes r)
    resolved_there (Ok m) h = (h, tt)
    resolved_there (Err kind) h = tt

    field_ref_there : (r : MemberRef) → AreThere classes (field_ref_wants classes n r)
    field_ref_there r =
        all_append There (base_wants classes r.class.base)
        (field_text_wants classes (read_field r.ty) ++ resolved_wants classes (resolved_field classes (Prog n) r))
        (base_there r.class.base)
        (all_append There (field_text_wants classes (read_field r.ty))
        (resolved_wants classes (resolved_field classes (Prog n) r)) (field_text_there (read_field r.ty))
        (resolved_there (resolved_field classes (Prog n) r)
        (field_has (MemberThere classes) classes (Prog n) r (declared_there (r.name, r.ty)))))

    method_there : (r : MemberRef) → IfOk (resolved_method classes (Prog n) r) (MemberThere classes)
    method_there r = method_has (MemberThere classes) classes (Prog n) r (declared_there (r.name, r.ty))

    method_ref_there : (r : MemberRef) → AreThere classes (method_ref_wants classes n r)
    method_ref_there r =
        all_append There (base_wants classes r.class.base)
        (method_text_wants classes (read_method r.ty) ++ resolved_wants classes (resolved_method classes (Prog n) r))
        (base_there r.class.base)
        (all_append There (method_text_wants classes (read_method r.ty))
        (resolved_wants classes (resolved_method classes (Prog n) r)) (method_text_there (read_method r.ty))
        (resolved_there (resolved_method classes (Prog n) r) (method_there r)))

    special_wants_there : (o : Option ClassId) (r : Result MemberAt LinkKind) → IfOk r (MemberThere classes)
        → AreThere classes (special_wants classes n o r)
    special_wants_there (Some named) (Ok m) h =
        each_option There (option_map OfMember (selected_special classes (Prog n) named m)) []
        (member_item (selected_special classes (Prog n) named m) (special_there (Prog n) named m h)) tt
    special_wants_there (Some named) (Err kind) h = tt
    special_wants_there None (Ok m) h = tt
    special_wants_there None (Err kind) h = tt

    op_there : (o : Op) → AreThere classes (op_wants classes n o)
    op_there (op.GetStatic r) = field_ref_there r
    op_there (op.PutStatic r) = field_ref_there r
    op_there (op.GetField r) = field_ref_there r
    op_there (op.PutField r) = field_ref_there r
    op_there (op.InvokeVirtual r) = method_ref_there r
    op_there (op.InvokeSpecial r) =
        all_append There (method_ref_wants classes n r)
        (special_wants classes n (class_of classes r) (resolved_method classes (Prog n) r)) (method_ref_there r)
        (special_wants_there (class_of classes r) (resolved_method classes (Prog n) r) (method_there r))
    op_there (op.InvokeStatic r) = method_ref_there r
    op_there (op.InvokeInterface r) = method_ref_there r
    op_there (op.New name) = name_there name
    op_there (op.ANewArray ty) = type_there ty
    op_there (op.CheckCast ty) = type_there ty
    op_there (op.InstanceOf ty) = type_there ty
    op_there (op.MultiNewArray ty dimensions) = type_there ty
    op_there _ = tt

    handler_there : (h : Handler) → AreThere classes (handler_wants classes h)
    handler_there h = by h.caught
      where
        by : (o : Option (List ℕ)) → AreThere classes (option_map_or (name_wants classes) o [])
        by None = tt
        by (Some name) = name_there name

    verification_there : (v : VType) → AreThere classes (verification_wants classes v)
    verification_there (vtype.Object ty) = type_there ty
    verification_there _ = tt

    frame_there : (f : FrameAt) → AreThere classes (frame_wants classes f)
    frame_there f = each_flat There (verification_wants classes) (f.frame.locals ++ f.frame.stack) verification_there

    code_there : (code : Code) → AreThere classes (code_wants classes n code)
    code_there code =
        all_append There (flat_map (λ (i : Ins). op_wants classes n i.op) code.ins)
        (flat_map (handler_wants classes) code.handlers ++ flat_map (frame_wants classes) code.frames)
        (each_flat There (λ (i : Ins). op_wants classes n i.op) code.ins (λ i. op_there i.op))
        (all_append There (flat_map (handler_wants classes) code.handlers)
        (flat_map (frame_wants classes) code.frames)
        (each_flat There (handler_wants classes) code.handlers handler_there)
        (each_flat There (frame_wants classes) code.frames frame_there))

    throws_there : (kept : KeptByRules) (m : Method) → AreThere classes (throws_wants classes kept m)
    throws_there kept m = by kept.exceptions
      where
        by : (b : Bool) → AreThere classes (cond b (flat_map (name_wants classes) m.throws) [])
        by true = names_there m.throws
        by false = tt

    pub method_wants_there : (kept : KeptByRules) (m : Method) → n < length classes
        → AreThere classes (method_wants classes n kept m)
    method_wants_there kept m lt = (
      lt,
      all_append There (method_type_wants classes m.ty)
          (throws_wants classes kept m ++ option_map_or (code_wants classes n) m.code [])
          (method_type_there m.ty)
          (all_append There (throws_wants classes kept m) (option_map_or (code_wants classes n) m.code [])
          (throws_there kept m) (by m.code)),
    )
      where
        by : (o : Option Code) → AreThere classes (option_map_or (code_wants classes n) o [])
        by None = tt
        by (Some code) = code_there code
