-- The rules for classes that are taken, beside those of the format: what is left out, and what references and
-- overriding have to meet (JVMS 4.10, 5.4.3 to 5.4.5, 6.5).
use Rattle.std.specs.Prelude.{◌≡◌, ◌+◌, ◌<◌, IfSome, ℕ, Bool, true, false, not, ◌&&◌, ◌||◌, ◌==◌, List, [], ◌∷◌, ◌++◌}
use Rattle.std.specs.Prelude.{length, map, codes, Option, Some, None, Result, Ok, Err, slice_get, if◌then◌else◌}
use Rattle.std.specs.Bool.{beq}
use Rattle.std.specs.List.{cons_option, enumerate_from, filter, filter_map, find, flat_map, list_any}
use Rattle.std.specs.Option.{option_map, option_map_or}
use Rattle.jv_base.specs.Descriptors.{read_field, read_method}
use Rattle.jv_base.specs.Names.{is_text}
use Rattle.jv_base.specs.declared.types.Base.{Base}
use Rattle.jv_base.specs.declared.types.Base.TheVariants as base
use Rattle.jv_base.specs.declared.types.FieldType.{FieldType}
use Rattle.jv_base.specs.declared.types.MethodType.{MethodType}
use Rattle.jv_base.specs.declared.descriptors.BadDescriptor.{BadDescriptor}
use Rattle.class_model.specs.Flags.{acc_abstract, has, is_init, is_interface, is_left_out_class, is_native}
use Rattle.class_model.specs.declared.class.Class.{Class}
use Rattle.class_model.specs.declared.class.Field.{Field}
use Rattle.class_model.specs.declared.class.LeftKind.{LeftKind}
use Rattle.class_model.specs.declared.class.LeftKind.TheVariants as left
use Rattle.class_model.specs.declared.class.LeftOut.{LeftOut}
use Rattle.class_model.specs.declared.class.Method.{Method}
use Rattle.class_model.specs.declared.code.Code.{Code}
use Rattle.class_model.specs.declared.code.Handler.{Handler}
use Rattle.class_model.specs.declared.frame.FrameAt.{FrameAt}
use Rattle.class_model.specs.declared.frame.VType.{VType}
use Rattle.class_model.specs.declared.frame.VType.TheVariants as vtype
use Rattle.class_model.specs.declared.op.MemberRef.{MemberRef}
use Rattle.class_model.specs.declared.op.Op.{Op}
use Rattle.class_model.specs.declared.op.Op.TheVariants as op
use Rattle.lib_table.specs.declared.member.Role.{Role}
use Rattle.lib_table.specs.declared.member.Role.TheVariants.{NoOverride}
use Rattle.class_pool.specs.declared.id.ClassId.{ClassId}
use Rattle.class_pool.specs.declared.id.ClassId.TheVariants.{Prog, Lib}
use Rattle.class_pool.specs.declared.id.MemberAt.{MemberAt}
use Rattle.class_pool.specs.Found.{declared_by, is_final_member, is_instance_method, is_static_member, named_at}
use Rattle.class_pool.specs.Found.{role_at, rows_in}
use Rattle.class_pool.specs.Hierarchy.{class_named}
use Rattle.class_pool.specs.Resolution.{first, is_class_accessible, is_class_below, is_interface_in}
use Rattle.class_pool.specs.Selection.{overrides, selected}
use Rattle.class_pool.specs.Walk.{same_class, superclasses_from, superinterfaces}
use Rattle.link_check.specs.Links.{is_callable_role, linked_field, linked_method}
use Rattle.link_check.specs.declared.fault.LinkKind.{LinkKind}
use Rattle.link_check.specs.declared.fault.LinkKind.TheVariants as link
use Rattle.link_check.specs.declared.fault.ProfileFault.{ProfileFault}
use Rattle.link_check.specs.declared.fault.ProfileKind.{ProfileKind}
use Rattle.link_check.specs.declared.fault.ProfileKind.TheVariants.{LeftOutFlag, LeftOutConstant, LeftOutOpcode}
use Rattle.link_check.specs.declared.fault.ProfileKind.TheVariants.{LeftOutType, Unresolved, Inaccessible, WrongKind}
use Rattle.link_check.specs.declared.fault.ProfileKind.TheVariants.{LeftOutMember}

-- ---- kinds (the project's own: which rule is told first)

-- the place of a kind in the order in which they count
abbrev pub rank_of : ProfileKind → ℕ
rank_of LeftOutFlag = 0
rank_of LeftOutConstant = 1
rank_of LeftOutOpcode = 2
rank_of LeftOutType = 3
rank_of Unresolved = 4
rank_of Inaccessible = 5
rank_of WrongKind = 6
rank_of LeftOutMember = 7

-- the kinds in the order in which they count
abbrev pub all_kinds : List ProfileKind
all_kinds = LeftOutFlag ∷ LeftOutConstant ∷ LeftOutOpcode ∷ LeftOutType ∷ Unresolved ∷ Inaccessible ∷ WrongKind
    ∷ LeftOutMember ∷ []

-- of several kinds the first one in that order
unfoldable pub least : List ProfileKind → Option ProfileKind
least kinds = find (λ k. list_any (λ other. rank_of k == rank_of other) kinds) all_kinds

-- a kind where a rule is broken
abbrev pub unless : Bool → ProfileKind → List ProfileKind
unless true kind = []
unless false kind = kind ∷ []

-- a fault of a reference as one of a class
abbrev pub of_link : LinkKind → ProfileKind
of_link link.Unresolved = Unresolved
of_link link.Inaccessible = Inaccessible
of_link link.WrongKind = WrongKind
of_link link.LeftOutMember = LeftOutMember

-- what the reader left out
abbrev pub of_left : LeftKind → ProfileKind
of_left left.Flag = LeftOutFlag
of_left left.Constant = LeftOutConstant
of_left left.Opcode = LeftOutOpcode
of_left left.FloatType = LeftOutType

-- two places of a class are one
abbrev pub same_place : Option ℕ → Option ℕ → Bool
same_place None None = true
same_place (Some m) (Some n) = m == n
same_place _ _ = false

-- what the reader left out at a place of the class
abbrev pub left_out_at : Option LeftOut → Option ℕ → List ProfileKind
left_out_at None place = []
left_out_at (Some l) place = unless (not (same_place l.member place)) (of_left l.kind)

-- a fault at a place of the class with this number, if a rule is broken there
abbrev pub fault_at : ℕ → Option ℕ → List ProfileKind → Option ProfileFault
fault_at number place kinds = option_map (λ kind. record { class = number; member = place; kind = kind }) (least kinds)

-- ---- members

-- the reference's own fault, or what the member breaks, one too that a program may not name
-- (JVMS 5.4.3; which members of the library may be used is the project's own)
abbrev pub member_kinds : Result MemberAt LinkKind → (MemberAt → List ProfileKind) → List ProfileKind
member_kinds (Ok m) of_member = unless (is_callable_role (role_at m)) LeftOutMember ++ of_member m
member_kinds (Err kind) of_member = of_link kind ∷ []

-- a class of the library
abbrev pub is_of_library : ClassId → Bool
is_of_library (Prog n) = false
is_of_library (Lib id) = true

-- no instance initialisation method is called so (JVMS 4.9.1)
abbrev pub no_init_kinds : MemberRef → List ProfileKind
no_init_kinds r = unless (not (is_init r.name)) WrongKind

-- a member of the library that a program may override (the project's own: what of the library may be used)
abbrev pub may_be_overridden_role : Role → Bool
may_be_overridden_role NoOverride = false
may_be_overridden_role _ = true

-- a method of an interface has no body, but that which initialises it
-- (the project's own: methods of interfaces are abstract so far)
abbrev pub body_kinds : Class → Method → List ProfileKind
body_kinds c m = unless (not (is_interface c.flags.0) || has acc_abstract m.flags.0
    || is_text m.name (codes "<clinit>")) LeftOutMember

module _ (classes : List Class) where
  -- static where it has to be, and not where it may not be (JVMS 6.5, IncompatibleClassChangeError)
  abbrev pub static_kinds : Bool → MemberAt → List ProfileKind
  static_kinds wanted m = unless (beq (is_static_member classes m) wanted) WrongKind

  -- the class that a reference names, where it is none of an array (JVMS 4.4.2)
  abbrev pub class_of : MemberRef → Option ClassId
  class_of r = if r.class.dims == 0 then of_base r.class.base else None where
    of_base : Base → Option ClassId
    of_base (base.Class name) = class_named classes name
    of_base _ = None

  -- declared abstract; of the library's none is told (JVMS 4.1)
  abbrev pub is_abstract_class : ClassId → Bool
  is_abstract_class (Prog n) = option_map_or (λ c. has acc_abstract c.flags.0) (slice_get classes n) false
  is_abstract_class (Lib id) = false

  -- an object is made of a class that is neither an interface nor abstract (JVMS 6.5.new)
  abbrev pub made_kinds : ClassId → List ProfileKind
  made_kinds c = unless (not (is_interface_in classes c) && not (is_abstract_class c)) WrongKind

  -- a method overrides no final one, and none of the library that may not be overridden
  -- (JVMS 4.10; which of the library's may be overridden is the project's own)
  abbrev pub overridden_kinds : MemberAt → MemberAt → List ProfileKind
  overridden_kinds m above =
      if not (same_class m.class above.class) && overrides classes m above
      then unless (not (is_final_member classes above)) WrongKind ++ unless
      (may_be_overridden_role (role_at above)) LeftOutMember
      else []

  -- the instance methods of a program interface (JVMS 4.6)
  abbrev pub methods_of : ClassId → List MemberAt
  methods_of (Lib id) = []
  methods_of (Prog n) = filter (is_instance_method classes)
      (map (λ p. record { class = Prog n; index = p.0 }) (enumerate_from 0 (rows_in classes (Prog n))))

module _ (classes : List Class) (number : ℕ) where
  -- the class with this number (the project's own: a class is told by its number)
  abbrev pub from : ClassId
  from = Prog number

  -- ---- classes that are named

  -- a class that is named is there and accessible (JVMS 5.4.3.1, 5.4.4)
  abbrev pub class_kinds : Option ClassId → List ProfileKind
  class_kinds None = Unresolved ∷ []
  class_kinds (Some c) = unless (is_class_accessible classes from c) Inaccessible

  -- the same by its name (JVMS 5.4.3.1, 5.4.4)
  abbrev pub name_kinds : List ℕ → List ProfileKind
  name_kinds name = class_kinds (class_named classes name)

  -- the same of a type; no float and no double is taken (JVMS 5.4.3.1, 5.4.4; what is left out is the project's own)
  abbrev pub base_kinds : Base → List ProfileKind
  base_kinds (base.Class name) = name_kinds name
  base_kinds base.Float = LeftOutType ∷ []
  base_kinds base.Double = LeftOutType ∷ []
  base_kinds _ = []

  -- of a type, or of the elements of an array type (JVMS 5.4.3.1, 5.4.4)
  abbrev pub type_kinds : FieldType → List ProfileKind
  type_kinds ty = base_kinds ty.base

  -- of the types of the parameters and of the result (JVMS 4.3.3)
  abbrev pub method_type_kinds : MethodType → List ProfileKind
  method_type_kinds ty = flat_map type_kinds (cons_option ty.ret ty.args)

  -- of the type that a field descriptor tells (JVMS 4.3.2)
  abbrev pub field_text_kinds : Result FieldType BadDescriptor → List ProfileKind
  field_text_kinds (Ok ty) = type_kinds ty
  field_text_kinds (Err bad) = []

  -- of the types that a method descriptor tells (JVMS 4.3.3)
  abbrev pub method_text_kinds : Result MethodType BadDescriptor → List ProfileKind
  method_text_kinds (Ok ty) = method_type_kinds ty
  method_text_kinds (Err bad) = []

  -- ---- members that are named

  -- a final field is written in its own class alone, by a method of this name (JVMS 6.5.putfield, 6.5.putstatic)
  abbrev pub written_kinds : List ℕ → List ℕ → MemberAt → List ProfileKind
  written_kinds writer method m = unless
      (not (is_final_member classes m) || (same_class m.class from && is_text method writer)) WrongKind

  -- where it is written (JVMS 6.5.putfield, 6.5.putstatic; that none of the library's is written is the project's own)
  abbrev pub changed_kinds : List ℕ → Bool → Bool → MemberAt → List ProfileKind
  changed_kinds method static written m =
      if written then written_kinds (if static then codes "<clinit>" else codes "<init>") method m
      ++ unless (not (static && is_of_library m.class)) LeftOutMember
      else []

  -- of a field that an instruction of the method of this name uses: static, and whether it is written
  -- (JVMS 6.5.getstatic, 6.5.putstatic, 6.5.getfield, 6.5.putfield)
  abbrev pub used_kinds : List ℕ → Bool → Bool → MemberAt → List ProfileKind
  used_kinds method static written m = static_kinds classes static m ++ changed_kinds method static written m

  -- of a reference to a field, as an instruction of the method of this name uses it (JVMS 5.4.3.2, 6.5)
  abbrev pub field_kinds : List ℕ → Bool → Bool → MemberRef → List ProfileKind
  field_kinds method static written r = field_text_kinds (read_field r.ty) ++ member_kinds (linked_field classes from r)
      (used_kinds method static written)

  -- how a method is called (JVMS 2.9, 4.9.1, 5.4.3.3)
  abbrev pub call_kinds : Bool → MemberRef → List ProfileKind
  call_kinds static r = method_text_kinds (read_method r.ty)
      ++ unless (not (is_text r.name (codes "<clinit>"))) WrongKind
      ++ member_kinds (linked_method classes from r) (static_kinds classes static)

  -- an instance initialisation method is one of the class that is named (JVMS 6.5.invokespecial)
  abbrev pub init_kinds : ClassId → MemberRef → List ProfileKind
  init_kinds named r = member_kinds (linked_method classes from r) (λ m. unless (same_class m.class named) WrongKind)

  -- another method is called by invokespecial in the own class or a superclass alone (JVMS 4.9.2)
  abbrev pub super_kinds : ClassId → List ProfileKind
  super_kinds named = unless (is_class_below classes from named) WrongKind

  -- no method of an array is called by invokespecial (JVMS 4.9.2)
  abbrev pub special_class_kinds : MemberRef → List ProfileKind
  special_class_kinds r = option_map_or (λ named. if is_init r.name then init_kinds named r else super_kinds named)
      (class_of classes r) (WrongKind ∷ [])

  -- of a reference to a method, as invokespecial calls it (JVMS 6.5.invokespecial)
  abbrev pub special_kinds : MemberRef → List ProfileKind
  special_kinds r = call_kinds false r ++ special_class_kinds r

  -- of the class that new names (JVMS 6.5.new)
  abbrev pub new_kinds : List ℕ → List ProfileKind
  new_kinds name = name_kinds name ++ option_map_or (made_kinds classes) (class_named classes name) []

  -- ---- code

  -- of an instruction in the method of this name (JVMS 6.5)
  abbrev pub op_kinds : List ℕ → Op → List ProfileKind
  op_kinds method (op.GetStatic r) = field_kinds method true false r
  op_kinds method (op.PutStatic r) = field_kinds method true true r
  op_kinds method (op.GetField r) = field_kinds method false false r
  op_kinds method (op.PutField r) = field_kinds method false true r
  op_kinds method (op.InvokeVirtual r) = call_kinds false r ++ no_init_kinds r
  op_kinds method (op.InvokeSpecial r) = special_kinds r
  op_kinds method (op.InvokeStatic r) = call_kinds true r ++ no_init_kinds r
  op_kinds method (op.InvokeInterface r) = call_kinds false r ++ no_init_kinds r
  op_kinds method (op.New name) = new_kinds name
  op_kinds method (op.ANewArray ty) = type_kinds ty
  op_kinds method (op.CheckCast ty) = type_kinds ty
  op_kinds method (op.InstanceOf ty) = type_kinds ty
  op_kinds method (op.MultiNewArray ty dimensions) = type_kinds ty
  op_kinds method _ = []

  -- of the class of a type in a frame (JVMS 4.7.4)
  abbrev pub verification_kinds : VType → List ProfileKind
  verification_kinds (vtype.Object ty) = type_kinds ty
  verification_kinds _ = []

  -- of the types of a frame (JVMS 4.7.4)
  abbrev pub frame_kinds : FrameAt → List ProfileKind
  frame_kinds f = flat_map verification_kinds (f.frame.locals ++ f.frame.stack)

  -- of the class that a handler catches (JVMS 4.7.3, catch_type)
  abbrev pub handler_kinds : Handler → List ProfileKind
  handler_kinds h = option_map_or name_kinds h.caught []

  -- of a code: its instructions, handlers and frames (JVMS 4.7.3, 4.7.4)
  abbrev pub code_kinds : List ℕ → Code → List ProfileKind
  code_kinds method code = flat_map
      (λ i. op_kinds method i.op) code.ins ++ flat_map handler_kinds code.handlers ++ flat_map frame_kinds code.frames

  -- ---- overriding

  -- of the method with this number among the class's members (JVMS 4.10, 5.4.5)
  abbrev pub overriding_kinds : MemberAt → List ProfileKind
  overriding_kinds m = flat_map (overridden_kinds classes m)
      (declared_by classes (named_at classes m) (superclasses_from classes from))

  -- ---- the places

  -- the methods of a class are the ones that run where its superinterfaces' are called
  -- (JVMS 6.5.invokeinterface; which of the library's may run is the project's own)
  abbrev pub selected_kinds : MemberAt → List ProfileKind
  selected_kinds m = option_map_or (λ one. unless (is_callable_role (role_at one)) LeftOutMember)
      (selected classes from m) []

  -- of the methods of all superinterfaces, where the class isn't abstract
  -- (JVMS 6.5.invokeinterface; which of the library's may run is the project's own)
  abbrev pub implementing_kinds : Class → List ProfileKind
  implementing_kinds c =
      if has acc_abstract c.flags.0 then []
      else flat_map (λ i. flat_map selected_kinds (methods_of classes i)) (superinterfaces classes from)

  -- of the class itself (JVMS 4.1)
  abbrev pub kinds_of_class : Class → List ProfileKind
  kinds_of_class c = left_out_at c.left_out None ++ unless (not (is_left_out_class c.flags.0)) LeftOutFlag
      ++ flat_map name_kinds (c.super_name ∷ c.interfaces) ++ implementing_kinds c

  -- of the field with this number (JVMS 4.5)
  abbrev pub kinds_of_field : Class → ℕ → Field → List ProfileKind
  kinds_of_field c n f = left_out_at c.left_out (Some n) ++ type_kinds f.ty

  -- of the declaration of the method with this number among the class's members (JVMS 4.6, 4.7.5)
  abbrev pub declaration_kinds : Class → ℕ → Method → List ProfileKind
  declaration_kinds c n m = left_out_at c.left_out (Some n) ++ unless (not (is_native m.flags.0)) LeftOutFlag
      ++ method_type_kinds m.ty ++ flat_map name_kinds m.throws

  -- of the method with this number among the class's members (JVMS 4.6)
  abbrev pub kinds_of_method : Class → ℕ → Method → List ProfileKind
  kinds_of_method c n m = declaration_kinds c n m ++ body_kinds c m ++ overriding_kinds
      (record { class = from; index = n })
      ++ option_map_or (code_kinds m.name) m.code []

  -- the faults of a class in the order of its places (the project's own: one fault for each place)
  abbrev pub faults_of : Class → List ProfileFault
  faults_of c = cons_option (fault_at number None (kinds_of_class c))
      (filter_map (λ p. fault_at number (Some p.0) (kinds_of_field c p.0 p.1)) (enumerate_from 0 c.fields)
      ++ filter_map (λ p. fault_at number (Some p.0) (kinds_of_method c p.0 p.1))
      (enumerate_from (length c.fields) c.methods))

-- the first fault of a set (the project's own: the first fault counts)
abbrev pub links_checked : List Class → Result (Unit {0}) ProfileFault
links_checked classes = ended (first (flat_map (λ p. faults_of classes p.0 p.1) (enumerate_from 0 classes))) where
  ended : Option ProfileFault → Result (Unit {0}) ProfileFault
  ended None = Ok tt
  ended (Some f) = Err f

-- the class of a fault is one of the set, and the member one of the class
-- (the project's own: a place is told by numbers)
abbrev pub IsPlace : List Class → ProfileFault → Type 0
IsPlace classes f = (c : Class) × (slice_get classes f.class ≡ Some c)
    × IfSome f.member (λ n. n < length c.fields + length c.methods)
