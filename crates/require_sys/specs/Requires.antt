-- What has to be kept of a set of classes, as a system of requirements on its items: what is kept in any case, what
-- each item needs, and what two items need together. Seven rules say so, and each part names its own (the project's
-- own; ProGuard manual, "Usage": what is kept needs what it uses).
use Rattle.std.specs.Prelude.{ℕ, ◌+◌, ◌==◌, nat_lt, Bool, true, false, not, ◌&&◌, List, [], ◌∷◌, ◌++◌, length, map}
use Rattle.std.specs.Prelude.{Option, Some, None, Result, Ok, Err, slice_index_or, codes, if◌then◌else◌}
use Rattle.std.specs.List.{cons_option, enumerate_from, filter, filter_map, flat_map, range_with_len}
use Rattle.std.specs.Option.{option_and_then, option_map, option_map_or}
use Rattle.jv_base.specs.Descriptors.{read_field, read_method}
use Rattle.jv_base.specs.declared.types.Base.{Base}
use Rattle.jv_base.specs.declared.types.Base.TheVariants as base
use Rattle.jv_base.specs.declared.types.FieldType.{FieldType}
use Rattle.jv_base.specs.declared.types.MethodType.{MethodType}
use Rattle.jv_base.specs.declared.descriptors.BadDescriptor.{BadDescriptor}
use Rattle.mark_core.specs.declared.system.System.{System}
use Rattle.mark_core.specs.declared.system.Pair.{Pair}
use Rattle.class_model.specs.Flags.{is_interface}
use Rattle.class_model.specs.declared.class.Class.{Class}
use Rattle.class_model.specs.declared.class.Field.{Field}
use Rattle.class_model.specs.declared.class.Method.{Method}
use Rattle.class_model.specs.declared.code.Code.{Code}
use Rattle.class_model.specs.declared.code.Handler.{Handler}
use Rattle.class_model.specs.declared.code.Ins.{Ins}
use Rattle.class_model.specs.declared.frame.FrameAt.{FrameAt}
use Rattle.class_model.specs.declared.frame.VType.{VType}
use Rattle.class_model.specs.declared.frame.VType.TheVariants as vtype
use Rattle.class_model.specs.declared.op.MemberRef.{MemberRef}
use Rattle.class_model.specs.declared.op.Op.{Op}
use Rattle.class_model.specs.declared.op.Op.TheVariants as op
use Rattle.class_pool.specs.Count.{item_count}
use Rattle.class_pool.specs.Found.{declared_in, is_instance_method, is_private_member, rows_in, same_member}
use Rattle.class_pool.specs.Hierarchy.{class_named}
use Rattle.class_pool.specs.Items.{class_item, item_of}
use Rattle.class_pool.specs.Selection.{selected, selected_special}
use Rattle.class_pool.specs.Supers.{is_below}
use Rattle.class_pool.specs.Walk.{same_class, supers}
use Rattle.class_pool.specs.declared.id.ClassId.{ClassId}
use Rattle.class_pool.specs.declared.id.ClassId.TheVariants.{Prog, Lib}
use Rattle.class_pool.specs.declared.id.MemberAt.{MemberAt}
use Rattle.link_check.specs.Links.{resolved_field, resolved_method}
use Rattle.link_check.specs.Profile.{class_of}
use Rattle.link_check.specs.declared.fault.LinkKind.{LinkKind}
use Rattle.require_sys.specs.declared.kept.KeptByRules.{KeptByRules}

-- ---- items

-- what may be kept: a class or a member (the project's own)
pub data Item : Type 0 where
  OfClass : ClassId → Item
  OfMember : MemberAt → Item

-- the number of a class among the items; a class of the library is none (the project's own)
abbrev pub class_number : List Class → ClassId → Option ℕ
class_number classes (Prog n) = Some (class_item classes n)
class_number classes (Lib id) = None

-- the number of an item; what is of the library has none, and is there in any case (the project's own)
abbrev pub number_of : List Class → Item → Option ℕ
number_of classes (OfClass x) = class_number classes x
number_of classes (OfMember m) = item_of classes m

-- the numbers of those items that have one (the project's own)
abbrev pub numbers : List Class → List Item → List ℕ
numbers classes items = filter_map (number_of classes) items

-- ---- lists of numbers

-- ascending numbers with one more, unless it is among them (the project's own)
abbrev pub put : ℕ → List ℕ → List ℕ
put x [] = x ∷ []
put x (y ∷ ys) = if nat_lt x y then x ∷ (y ∷ ys) else if x == y then y ∷ ys else y ∷ put x ys

-- the numbers of a list, ascending, each once (the project's own)
abbrev pub ascending : List ℕ → List ℕ
ascending [] = []
ascending (x ∷ xs) = put x (ascending xs)

-- what an item needs of what it wants: each but itself (the project's own)
abbrev pub needs_of : List Class → ℕ → List Item → List ℕ
needs_of classes own wants = filter (λ x. not (x == own)) (ascending (numbers classes wants))

-- ---- first rule: seeds

-- the items that rules keep, and where nothing is to be dropped each item
-- (ProGuard manual, "Keep Options", "-dontshrink")
abbrev pub seeds_of : List Class → KeptByRules → List ℕ
seeds_of classes kept = if kept.shrink then kept.seeds else range_with_len 0 (item_count classes)

-- ---- second and third rule: what a class wants

-- a class of the program (the project's own: what is of the library isn't dropped)
abbrev pub is_program : ClassId → Bool
is_program (Prog n) = true
is_program (Lib id) = false

module _ (classes : List Class) where
  -- the class of a name (JVMS 5.4.3.1)
  abbrev pub name_wants : List ℕ → List Item
  name_wants name = cons_option (option_map OfClass (class_named classes name)) []

  -- second rule: a class wants its superclass and its superinterfaces (JVMS 5.3.5)
  abbrev pub super_wants : Class → List Item
  super_wants c = flat_map name_wants (c.super_name ∷ c.interfaces)

  -- its class initialisation method (JVMS 2.9, 5.5)
  abbrev pub initialisation_wants : ℕ → List Item
  initialisation_wants n =
      cons_option (option_map OfMember (declared_in classes (codes "<clinit>", codes "()V") (Prog n))) []

  -- and its members that rules on members alone keep (ProGuard manual, "-keepclassmembers")
  abbrev pub rule_wants : KeptByRules → ℕ → List Item
  rule_wants kept n =
      map (λ k. OfMember (record { class = Prog n; index = k })) (slice_index_or kept.members n [])

  -- the members of a class (JVMS 4.5, 4.6)
  abbrev pub members_of : ClassId → List MemberAt
  members_of x = map (λ p. record { class = x; index = p.0 }) (enumerate_from 0 (rows_in classes x))

  -- the instance methods of these classes (JVMS 2.9)
  abbrev pub instance_methods : List ClassId → List MemberAt
  instance_methods xs = filter (is_instance_method classes) (flat_map members_of xs)

  -- the classes of the library above a class (JLS 4.10.2)
  abbrev pub library_supers : ClassId → List ClassId
  library_supers x = filter (λ y. not (is_program y)) (supers classes x)

  -- third rule: a class that is no interface wants the methods that run where the library calls those that it knows
  -- (JVMS 5.4.5, 6.5)
  abbrev pub called_wants : ℕ → Class → List Item
  called_wants n c =
      if is_interface c.flags.0 then []
      else filter_map (λ m. option_map OfMember (selected classes (Prog n) m))
      (instance_methods (library_supers (Prog n)))

  -- what a class wants, by both rules
  abbrev pub class_wants : KeptByRules → ℕ → Class → List Item
  class_wants kept n c =
      super_wants c ++ (initialisation_wants n ++ (rule_wants kept n ++ called_wants n c))

  -- ---- fourth rule: a member wants its class, and the classes in its descriptor

  -- the class of a type, or of the elements of an array type (JVMS 4.3.2)
  abbrev pub base_wants : Base → List Item
  base_wants (base.Class name) = name_wants name
  base_wants _ = []

  abbrev pub type_wants : FieldType → List Item
  type_wants ty = base_wants ty.base

  -- those of the result and of the parameters (JVMS 4.3.3)
  abbrev pub method_type_wants : MethodType → List Item
  method_type_wants ty = flat_map type_wants (cons_option ty.ret ty.args)

  -- what a field wants (JVMS 4.5)
  abbrev pub field_wants : ℕ → Field → List Item
  field_wants n f = OfClass (Prog n) ∷ type_wants f.ty

  -- ---- fifth rule: a method wants the classes that its Exceptions, its instructions, handlers and frames name; sixth
  -- rule: it wants the members that its instructions mean

  -- the classes in the descriptor of a field (JVMS 4.3.2)
  abbrev pub field_text_wants : Result FieldType BadDescriptor → List Item
  field_text_wants (Ok ty) = type_wants ty
  field_text_wants (Err bad) = []

  -- the classes in the descriptor of a method (JVMS 4.3.3)
  abbrev pub method_text_wants : Result MethodType BadDescriptor → List Item
  method_text_wants (Ok ty) = method_type_wants ty
  method_text_wants (Err bad) = []

  -- the member that a reference means (JVMS 5.4.3)
  abbrev pub resolved_wants : Result MemberAt LinkKind → List Item
  resolved_wants (Ok m) = OfMember m ∷ []
  resolved_wants (Err kind) = []

  -- the class that a handler catches (JVMS 4.7.3, catch_type)
  abbrev pub handler_wants : Handler → List Item
  handler_wants h = option_map_or name_wants h.caught []

  -- the class of a type in a frame (JVMS 4.7.4)
  abbrev pub verification_wants : VType → List Item
  verification_wants (vtype.Object ty) = type_wants ty
  verification_wants _ = []

  -- the classes of a frame (JVMS 4.7.4)
  abbrev pub frame_wants : FrameAt → List Item
  frame_wants f = flat_map verification_wants (f.frame.locals ++ f.frame.stack)

  -- the classes that Exceptions names, where that attribute is kept (JVMS 4.7.5)
  abbrev pub throws_wants : KeptByRules → Method → List Item
  throws_wants kept m = if kept.exceptions then flat_map name_wants m.throws else []

  module _ (n : ℕ) where
    -- of a reference to a field, as an instruction of the class with this number has it: the class that it names, those
    -- in its descriptor, and the field (JVMS 5.4.3.2)
    abbrev pub field_ref_wants : MemberRef → List Item
    field_ref_wants r = base_wants r.class.base
        ++ (field_text_wants (read_field r.ty) ++ resolved_wants (resolved_field classes (Prog n) r))

    -- the same of a reference to a method (JVMS 5.4.3.3, 5.4.3.4)
    abbrev pub method_ref_wants : MemberRef → List Item
    method_ref_wants r = base_wants r.class.base
        ++ (method_text_wants (read_method r.ty) ++ resolved_wants (resolved_method classes (Prog n) r))

    -- the method that invokespecial runs (JVMS 6.5.invokespecial)
    abbrev pub special_wants : Option ClassId → Result MemberAt LinkKind → List Item
    special_wants (Some named) (Ok m) =
        cons_option (option_map OfMember (selected_special classes (Prog n) named m)) []
    special_wants _ _ = []

    -- what an instruction names and means (JVMS 6.5)
    abbrev pub op_wants : Op → List Item
    op_wants (op.GetStatic r) = field_ref_wants r
    op_wants (op.PutStatic r) = field_ref_wants r
    op_wants (op.GetField r) = field_ref_wants r
    op_wants (op.PutField r) = field_ref_wants r
    op_wants (op.InvokeVirtual r) = method_ref_wants r
    op_wants (op.InvokeSpecial r) =
        method_ref_wants r ++ special_wants (class_of classes r) (resolved_method classes (Prog n) r)
    op_wants (op.InvokeStatic r) = method_ref_wants r
    op_wants (op.InvokeInterface r) = method_ref_wants r
    op_wants (op.New name) = name_wants name
    op_wants (op.ANewArray ty) = type_wants ty
    op_wants (op.CheckCast ty) = type_wants ty
    op_wants (op.InstanceOf ty) = type_wants ty
    op_wants (op.MultiNewArray ty dimensions) = type_wants ty
    op_wants _ = []

    -- what a code wants (JVMS 4.7.3, 4.7.4)
    abbrev pub code_wants : Code → List Item
    code_wants code = flat_map (λ (i : Ins). op_wants i.op) code.ins
        ++ (flat_map handler_wants code.handlers ++ flat_map frame_wants code.frames)

    -- what a method wants, by the fourth, the fifth and the sixth rule (JVMS 4.6)
    abbrev pub method_wants : KeptByRules → Method → List Item
    method_wants kept m = OfClass (Prog n)
        ∷ (method_type_wants m.ty ++ (throws_wants kept m ++ option_map_or code_wants m.code []))

  -- ---- seventh rule: what a class and a method above it want together

  -- the classes of the program above a class, in the order of the set (JLS 4.10.2)
  abbrev pub program_supers : ClassId → List ClassId
  program_supers x = filter (λ y. is_below classes x y && not (same_class x y))
      (map (λ p. Prog p.0) (enumerate_from 0 classes))

  -- a method that a class may inherit or override (JVMS 5.4.5)
  abbrev pub is_inheritable : MemberAt → Bool
  is_inheritable m = is_instance_method classes m && not (is_private_member classes m)

  -- the methods of the classes of the program above a class, in the order of their items
  abbrev pub methods_above : ClassId → List MemberAt
  methods_above x = filter is_inheritable (flat_map members_of (program_supers x))

  -- the items of a class, a method, and another method that runs where that one is called; none where one of them is of
  -- the library (JVMS 5.4.5)
  abbrev pub pair_from : Option ℕ → Option ℕ → Option ℕ → Option Pair
  pair_from (Some one) (Some two) (Some derived) = Some (record { one = one; two = two; derived = derived })
  pair_from _ _ _ = None

  abbrev pub pair_of : ClassId → MemberAt → MemberAt → Option Pair
  pair_of x m s =
      if same_member s m then None
      else pair_from (class_number classes x) (item_of classes m) (item_of classes s)

  -- a class that is no interface wants with a method above it the one that runs where that is called on its objects
  -- (JVMS 5.4.5, 6.5)
  abbrev pub class_pairs : ℕ × Class → List Pair
  class_pairs (n, c) =
      if is_interface c.flags.0 then []
      else filter_map (λ m. option_and_then (pair_of (Prog n) m) (selected classes (Prog n) m))
      (methods_above (Prog n))

  -- ---- the system

  -- what each item of a class needs: the class, its fields, its methods
  abbrev pub class_needs : KeptByRules → ℕ × Class → List (List ℕ)
  class_needs kept (n, c) = needs_of classes (class_item classes n) (class_wants kept n c)
      ∷ (map (λ p. needs_of classes (class_item classes n + 1 + p.0) (field_wants n p.1)) (enumerate_from 0 c.fields)
      ++ map (λ p. needs_of classes (class_item classes n + 1 + p.0) (method_wants n kept p.1))
      (enumerate_from (length c.fields) c.methods))

-- what has to be kept of a set: the seeds, with each item what it needs, and with a class and a method above it what
-- they need together (ProGuard manual, "Usage")
abbrev pub requires : List Class → KeptByRules → System
requires classes kept = record {
  n = item_count classes;
  seeds = seeds_of classes kept;
  needs = flat_map (class_needs classes kept) (enumerate_from 0 classes);
  pairs = flat_map (class_pairs classes) (enumerate_from 0 classes);
}
