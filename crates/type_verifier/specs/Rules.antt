-- The rule of each instruction, told by families (JVMS 4.10.1.9). A value that is wanted is told with the top of the
-- stack first, so the last argument of a call comes before the first.
use Rattle.std.specs.Prelude.{ℕ, ◌+◌, ◌-◌, Bool, true, false, ◌==◌, List, [], ◌∷◌, map, reverse, replicate, codes}
use Rattle.std.specs.Prelude.{Option, Some, None, Result, Ok, Err, if◌then◌else◌}
use Rattle.std.specs.Option.{option_map}
use Rattle.jv_base.specs.Descriptors.{read_field, read_method}
use Rattle.jv_base.specs.declared.descriptors.BadDescriptor.{BadDescriptor}
use Rattle.jv_base.specs.declared.types.Base.{Base}
use Rattle.jv_base.specs.declared.types.Base.TheVariants as base
use Rattle.jv_base.specs.declared.types.FieldType.{FieldType}
use Rattle.jv_base.specs.declared.types.MethodType.{MethodType}
use Rattle.class_model.specs.Flags.{is_init}
use Rattle.class_model.specs.Frames.{vtype_of}
use Rattle.class_model.specs.declared.class.Class.{Class}
use Rattle.class_model.specs.declared.frame.VType.{VType}
use Rattle.class_model.specs.declared.frame.VType.TheVariants as vtype
use Rattle.class_model.specs.declared.op.ConvOp.{ConvOp}
use Rattle.class_model.specs.declared.op.ConvOp.TheVariants as conv
use Rattle.class_model.specs.declared.op.Elem.{Elem}
use Rattle.class_model.specs.declared.op.Elem.TheVariants as elem
use Rattle.class_model.specs.declared.op.Kind.{Kind}
use Rattle.class_model.specs.declared.op.Kind.TheVariants as kind
use Rattle.class_model.specs.declared.op.MemberRef.{MemberRef}
use Rattle.class_model.specs.declared.op.Num.{Num}
use Rattle.class_model.specs.declared.op.Num.TheVariants as num
use Rattle.class_model.specs.declared.op.Op.{Op}
use Rattle.class_model.specs.declared.op.Op.TheVariants as op
use Rattle.type_verifier.specs.Assignable.{class_type, is_assignable, is_reference}
use Rattle.type_verifier.specs.Environment.{Environment, own_type}
use Rattle.type_verifier.specs.Members.{is_early_field, is_guarded_field, is_guarded_method}

-- ---- what is wanted of a value on the stack

-- what a rule wants of a value (JVMS 4.10.1.4, popMatchingType, 4.10.1.9)
pub data Wanted : Type 0 where
  -- it is assignable to this type (JVMS 4.10.1.2, isAssignable)
  Assignable : VType → Wanted
  -- it is a reference, initialised or not (JVMS 4.10.1.2, reference)
  Reference : Wanted
  -- it is assignable to this class, or is `this` of a constructor that called no other one (JVMS 4.10.1.9.putfield)
  OrThis : FieldType → Wanted
  -- it is an array, or null (JVMS 4.10.1.9.arraylength)
  AnyArray : Wanted
  -- it is an array of bytes or booleans, or null (JVMS 4.10.1.9.baload, isSmallArray)
  SmallArray : Wanted

-- an array type (JVMS 4.10.1.2, arrayOf)
abbrev pub is_array : FieldType → Bool
is_array ty = if ty.dims == 0 then false else true

-- bytes or booleans in one dimension (JVMS 4.10.1.9.baload, isSmallArray)
abbrev pub is_small_array : FieldType → Bool
is_small_array ty = if ty.dims == 1 then is_small ty.base else false where
  is_small : Base → Bool
  is_small base.Byte = true
  is_small base.Boolean = true
  is_small _ = false

-- a value is what is wanted (JVMS 4.10.1.2, 4.10.1.9)
abbrev pub meets : List Class → Wanted → VType → Bool
meets classes (Assignable to) from = is_assignable classes from to
meets classes Reference from = is_reference from
meets classes (OrThis ty) vtype.UninitThis = true
meets classes (OrThis ty) from = is_assignable classes from (vtype.Object ty)
meets classes AnyArray vtype.Null = true
meets classes AnyArray (vtype.Object ty) = is_array ty
meets classes AnyArray _ = false
meets classes SmallArray vtype.Null = true
meets classes SmallArray (vtype.Object ty) = is_small_array ty
meets classes SmallArray _ = false

-- ---- types that the rules name

-- an object of the class of this name (JVMS 4.10.1.2, class)
abbrev pub class_of : List ℕ → VType
class_of name = vtype.Object (class_type name)

-- java.lang.Object, which each initialised reference is assignable to (JVMS 4.10.1.2, isJavaAssignable)
abbrev pub object : VType
object = class_of (codes "java/lang/Object")

-- java.lang.Throwable, which is thrown and caught (JVMS 4.10.1.9.athrow)
abbrev pub throwable : VType
throwable = class_of (codes "java/lang/Throwable")

-- java.lang.String, the type of a literal (JVMS 4.10.1.9.ldc)
abbrev pub string : VType
string = class_of (codes "java/lang/String")

-- an array with one dimension more than this type (JVMS 4.10.1.2, arrayOf)
abbrev pub array_of : FieldType → VType
array_of ty = vtype.Object (record { dims = ty.dims + 1; base = ty.base })

-- an array of one dimension of this type (JVMS 4.10.1.2, arrayOf)
abbrev pub array_of_base : Base → VType
array_of_base b = array_of (record { dims = 0; base = b })

-- the type of the elements of an array (JVMS 4.10.1.9.aaload, arrayComponentType)
abbrev pub element_type : FieldType → FieldType
element_type ty = record { dims = ty.dims - 1; base = ty.base }

-- an int or a long (JVMS 4.10.1.2; the two kinds of numbers that are taken are the project's own)
abbrev pub number : Num → VType
number num.Int = vtype.Int
number num.Long = vtype.Long

-- an int or a long is wanted (JVMS 4.10.1.9.iadd, 4.10.1.9.ladd)
abbrev pub wanted_number : Num → Wanted
wanted_number n = Assignable (number n)

-- what an instruction moves (JVMS 4.10.1.9.iload, 4.10.1.9.istore)
abbrev pub moved : Kind → Wanted
moved kind.Int = Assignable vtype.Int
moved kind.Long = Assignable vtype.Long
moved kind.Ref = Reference

-- the array that an instruction reads or writes (JVMS 4.10.1.9.iaload, 4.10.1.9.iastore)
abbrev pub array_wanted : Elem → Wanted
array_wanted elem.Int = Assignable (array_of_base base.Int)
array_wanted elem.Long = Assignable (array_of_base base.Long)
array_wanted elem.Char = Assignable (array_of_base base.Char)
array_wanted elem.Short = Assignable (array_of_base base.Short)
array_wanted elem.Byte = SmallArray
array_wanted elem.Ref = Assignable (array_of (class_type (codes "java/lang/Object")))

-- what is written to an array, or read from one of numbers (JVMS 4.10.1.9.iaload, 4.10.1.9.iastore)
abbrev pub element_moved : Elem → VType
element_moved elem.Long = vtype.Long
element_moved elem.Ref = object
element_moved _ = vtype.Int

-- arguments of these types, the last first (JVMS 4.10.1.9.invokestatic)
abbrev pub wanted_arguments : List FieldType → List Wanted
wanted_arguments types = reverse (map (λ ty. Assignable (vtype_of ty)) types)

-- the arguments of a method (JVMS 4.10.1.9.invokestatic)
abbrev pub arguments : MethodType → List Wanted
arguments ty = wanted_arguments ty.args

-- its result, if it has one (JVMS 4.10.1.9.invokestatic)
abbrev pub returned : MethodType → Option VType
returned ty = option_map vtype_of ty.ret

-- the type that a descriptor tells, if it is one (JVMS 4.3.2, 4.3.3)
abbrev pub told_type : {V : Type 0} → Result V BadDescriptor → Option V
told_type (Ok ty) = Some ty
told_type (Err bad) = None

-- the type of the values of a field (JVMS 4.10.1.9.getstatic, parseFieldDescriptor)
abbrev pub field_type : MemberRef → Option VType
field_type r = option_map vtype_of (told_type (read_field r.ty))

-- the types of a method's arguments and of its result (JVMS 4.10.1.9.invokestatic, parseMethodDescriptor)
abbrev pub method_type : MemberRef → Option MethodType
method_type r = told_type (read_method r.ty)

-- ---- rules

-- what a rule does with a frame (JVMS 4.10.1.9; that the rules are told by these kinds is the project's own)
pub data Rule : Type 0 where
  -- takes values from the stack, and puts one onto it (JVMS 4.10.1.4, validTypeTransition, canPop)
  Takes : (wanted : List Wanted) → (given : Option VType) → Rule
  -- puts the value of a local onto the stack (JVMS 4.10.1.7, loadIsTypeSafe)
  Loads : Kind → ℕ → Rule
  -- takes a value from the stack into a local (JVMS 4.10.1.7, storeIsTypeSafe)
  Stores : Kind → ℕ → Rule
  -- changes an int in a local (JVMS 4.10.1.9.iinc)
  Counts : ℕ → Rule
  -- takes so many words from the stack (JVMS 4.10.1.9.pop, 4.10.1.9.pop2)
  Drops : ℕ → Rule
  -- puts a copy of so many words of the stack under so many others (JVMS 4.10.1.9.dup to 4.10.1.9.dup2_x2)
  Doubles : (copied under : ℕ) → Rule
  -- exchanges the two words at the top of the stack (JVMS 4.10.1.9.swap)
  Swaps : Rule
  -- takes an index and an array of references, and puts an element onto the stack (JVMS 4.10.1.9.aaload)
  ReadsReference : Rule
  -- makes an object of a class, which no constructor was called on (JVMS 4.10.1.9.new)
  Makes : Rule
  -- returns from the method (JVMS 4.10.1.9.return, 4.10.1.9.ireturn)
  Returns : Option Kind → Rule
  -- takes arguments and the object whose member is used; where the member is guarded, the object is one of the own
  -- class (JVMS 4.10.1.9.getfield, 4.10.1.9.invokevirtual, 4.10.1.8)
  Uses : (wanted : List Wanted) → (receiver : Wanted) → (guarded : Bool) → (given : Option VType) → Rule
  -- takes arguments and calls a constructor of this class (JVMS 4.10.1.9.invokespecial)
  Initialises : (wanted : List Wanted) → (class : FieldType) → (guarded : Bool) → Rule

-- i2l and l2i take and give another number, the others an int (JVMS 4.10.1.9.i2l, 4.10.1.9.i2b, 4.10.1.9.l2i)
abbrev pub conversion : ConvOp → Rule
conversion conv.I2l = Takes (Assignable vtype.Int ∷ []) (Some vtype.Long)
conversion conv.L2i = Takes (Assignable vtype.Long ∷ []) (Some vtype.Int)
conversion _ = Takes (Assignable vtype.Int ∷ []) (Some vtype.Int)

-- of two values of one type a third (JVMS 4.10.1.9.iadd)
abbrev pub binary : VType → Rule
binary ty = Takes (Assignable ty ∷ Assignable ty ∷ []) (Some ty)

-- a shift is by an int (JVMS 4.10.1.9.ishl, 4.10.1.9.lshl)
abbrev pub shift : VType → Rule
shift ty = Takes (Assignable vtype.Int ∷ Assignable ty ∷ []) (Some ty)

-- an element of an array of numbers by its index, or one of references (JVMS 4.10.1.9.iaload, 4.10.1.9.aaload)
abbrev pub array_load : Elem → Rule
array_load elem.Ref = ReadsReference
array_load e = Takes (Assignable vtype.Int ∷ array_wanted e ∷ []) (Some (element_moved e))

-- a value, an index and an array (JVMS 4.10.1.9.iastore, 4.10.1.9.aastore)
abbrev pub array_store : Elem → Rule
array_store e = Takes (Assignable (element_moved e) ∷ Assignable vtype.Int ∷ array_wanted e ∷ []) None

-- a static field is read (JVMS 4.10.1.9.getstatic)
abbrev pub static_read : VType → Rule
static_read ty = Takes [] (Some ty)

-- a static field is written (JVMS 4.10.1.9.putstatic)
abbrev pub static_write : VType → Rule
static_write ty = Takes (Assignable ty ∷ []) None

-- a static method is called (JVMS 4.10.1.9.invokestatic)
abbrev pub static_call : MethodType → Rule
static_call ty = Takes (arguments ty) (returned ty)

module _ (env : Environment) where
  -- the object whose field is read, or the method called (JVMS 4.10.1.9.getfield, 4.10.1.9.invokevirtual)
  abbrev pub receiver : MemberRef → Wanted
  receiver r = Assignable (vtype.Object r.class)

  -- the object whose field is written (JVMS 4.10.1.9.putfield)
  abbrev pub written_receiver : MemberRef → Wanted
  written_receiver r = if is_early_field env r then OrThis r.class else receiver r

  -- a field of an object is read (JVMS 4.10.1.9.getfield)
  abbrev pub field_read : MemberRef → VType → Rule
  field_read r ty = Uses [] (receiver r) (is_guarded_field env r) (Some ty)

  -- a field of an object is written (JVMS 4.10.1.9.putfield)
  abbrev pub field_write : MemberRef → VType → Rule
  field_write r ty = Uses (Assignable ty ∷ []) (written_receiver r) (is_guarded_field env r) None

  -- a method is called by invokespecial on an object of the own class (JVMS 4.10.1.9.invokespecial)
  abbrev pub special_call : MemberRef → MethodType → Rule
  special_call r ty =
      if is_init r.name then Initialises (arguments ty) r.class (is_guarded_method env r)
      else Uses (arguments ty) (Assignable (own_type env)) false (returned ty)

  -- a method that is called on an object (JVMS 4.10.1.9.invokevirtual, 4.10.1.9.invokeinterface)
  abbrev pub object_call : MemberRef → MethodType → Rule
  object_call r ty = Uses (arguments ty) (receiver r) (is_guarded_method env r) (returned ty)

  -- the rule of an instruction; a reference without a descriptor has none (JVMS 4.10.1.9)
  unfoldable pub rule_of : Op → Option Rule
  rule_of op.Nop = Some (Takes [] None)
  rule_of op.PushNull = Some (Takes [] (Some vtype.Null))
  rule_of (op.PushInt n) = Some (Takes [] (Some vtype.Int))
  rule_of (op.PushLong n) = Some (Takes [] (Some vtype.Long))
  rule_of (op.PushText units) = Some (Takes [] (Some string))
  rule_of (op.Load k slot) = Some (Loads k slot)
  rule_of (op.Store k slot) = Some (Stores k slot)
  rule_of (op.Inc slot n) = Some (Counts slot)
  rule_of (op.ALoad e) = Some (array_load e)
  rule_of (op.AStore e) = Some (array_store e)
  rule_of op.Pop = Some (Drops 1)
  rule_of op.Pop2 = Some (Drops 2)
  rule_of op.Dup = Some (Doubles 1 0)
  rule_of op.DupX1 = Some (Doubles 1 1)
  rule_of op.DupX2 = Some (Doubles 1 2)
  rule_of op.Dup2 = Some (Doubles 2 0)
  rule_of op.Dup2X1 = Some (Doubles 2 1)
  rule_of op.Dup2X2 = Some (Doubles 2 2)
  rule_of op.Swap = Some Swaps
  rule_of (op.Arith o n) = Some (binary (number n))
  rule_of (op.Neg n) = Some (Takes (Assignable (number n) ∷ []) (Some (number n)))
  rule_of (op.Shift o n) = Some (shift (number n))
  rule_of (op.Logic o n) = Some (binary (number n))
  rule_of (op.Conv c) = Some (conversion c)
  rule_of op.LCmp = Some (Takes (Assignable vtype.Long ∷ Assignable vtype.Long ∷ []) (Some vtype.Int))
  rule_of (op.IfZero c to) = Some (Takes (Assignable vtype.Int ∷ []) None)
  rule_of (op.IfCmp c to) = Some (Takes (Assignable vtype.Int ∷ Assignable vtype.Int ∷ []) None)
  rule_of (op.IfRef eq to) = Some (Takes (Reference ∷ Reference ∷ []) None)
  rule_of (op.IfNull null to) = Some (Takes (Reference ∷ []) None)
  rule_of (op.Goto to) = Some (Takes [] None)
  rule_of (op.TableSwitch low other cases) = Some (Takes (Assignable vtype.Int ∷ []) None)
  rule_of (op.LookupSwitch other cases) = Some (Takes (Assignable vtype.Int ∷ []) None)
  rule_of (op.Return k) = Some (Returns k)
  rule_of (op.GetStatic r) = option_map static_read (field_type r)
  rule_of (op.PutStatic r) = option_map static_write (field_type r)
  rule_of (op.GetField r) = option_map (field_read r) (field_type r)
  rule_of (op.PutField r) = option_map (field_write r) (field_type r)
  rule_of (op.InvokeVirtual r) = option_map (object_call r) (method_type r)
  rule_of (op.InvokeSpecial r) = option_map (special_call r) (method_type r)
  rule_of (op.InvokeStatic r) = option_map static_call (method_type r)
  rule_of (op.InvokeInterface r) = option_map (object_call r) (method_type r)
  rule_of (op.New name) = Some Makes
  rule_of (op.NewArray b) = Some (Takes (Assignable vtype.Int ∷ []) (Some (array_of_base b)))
  rule_of (op.ANewArray ty) = Some (Takes (Assignable vtype.Int ∷ []) (Some (array_of ty)))
  rule_of op.ArrayLength = Some (Takes (AnyArray ∷ []) (Some vtype.Int))
  rule_of op.Throw = Some (Takes (Assignable throwable ∷ []) None)
  rule_of (op.CheckCast ty) = Some (Takes (Assignable object ∷ []) (Some (vtype.Object ty)))
  rule_of (op.InstanceOf ty) = Some (Takes (Assignable object ∷ []) (Some vtype.Int))
  rule_of (op.MultiNewArray ty dimensions) = Some
      (Takes (replicate dimensions (Assignable vtype.Int)) (Some (vtype.Object ty)))
