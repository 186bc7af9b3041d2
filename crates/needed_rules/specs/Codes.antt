-- Twelve sets of classes, each with a code that breaks one rule of the type checker. What runs is static void w() of
-- demo.W (the project's own: definitions are tried on programs).
use Rattle.std.specs.Prelude.{ℕ, pos, List, [], ◌∷◌, map, Option, Some, None, codes}
use Rattle.jv_base.specs.declared.types.Base.TheVariants as base
use Rattle.jv_base.specs.declared.types.FieldType.{FieldType}
use Rattle.class_model.specs.declared.class.Class.{Class}
use Rattle.class_model.specs.declared.class.Method.{Method}
use Rattle.class_model.specs.declared.code.Code.{Code}
use Rattle.class_model.specs.declared.code.Handler.{Handler}
use Rattle.class_model.specs.declared.frame.FrameAt.{FrameAt}
use Rattle.class_model.specs.declared.frame.VType.{VType}
use Rattle.class_model.specs.declared.frame.VType.TheVariants as vtype
use Rattle.class_model.specs.declared.op.ArithOp.TheVariants as arith
use Rattle.class_model.specs.declared.op.Cond.TheVariants as cond
use Rattle.class_model.specs.declared.op.Elem.TheVariants as elem
use Rattle.class_model.specs.declared.op.Kind.TheVariants as kind
use Rattle.class_model.specs.declared.op.MemberRef.{MemberRef}
use Rattle.class_model.specs.declared.op.Num.TheVariants as num
use Rattle.class_model.specs.declared.op.Op.{Op}
use Rattle.class_model.specs.declared.op.Op.TheVariants as op
use Rattle.class_pool.specs.rows.LinkRows.{int_field, object, plain_class}
use Rattle.link_check.specs.rows.ProfileRows.{class_type, init, instruction, made_method, no_result, of_class}
use Rattle.set_view.specs.Examples.{class, constructor_above}

-- ---- what they are made of

-- int[]
abbrev pub ints : FieldType
ints = record { dims = 1; base = base.Int }

-- a code with room for what is tried
abbrev pub code : List Op → List Handler → List FrameAt → Code
code ops handlers frames = record {
  max_stack = 6;
  max_locals = 4;
  ins = map instruction ops;
  handlers = handlers;
  frames = frames;
}

-- a frame without locals, with this stack
abbrev pub frame : ℕ → List VType → FrameAt
frame at stack = record { index = at; frame = record { locals = []; stack = stack } }

-- a static method
abbrev pub static : List ℕ → List FieldType → Option FieldType → Code → Method
static name args ret code = made_method 0x0009 name args ret [] (Some code)

-- a method of objects
abbrev pub instance : List ℕ → Code → Method
instance name code = made_method 0x0001 name [] None [] (Some code)

-- void w()
abbrev pub w : Code → Method
w code = static (codes "w") [] None code

-- demo.W alone, with w() and other methods
abbrev pub w_and : Code → List Method → List Class
w_and code others = class (codes "demo/W") object (w code ∷ others) ∷ []

-- demo.W alone, with w()
abbrev pub of_w : List Op → List Class
of_w ops = w_and (code ops [] []) []

-- an object is made, and the constructor of its class called
abbrev pub made : List ℕ → List Op → List Op
made name ops = op.New name ∷ op.Dup ∷ op.InvokeSpecial (of_class name init no_result) ∷ ops

abbrev pub string_length : MemberRef
string_length = of_class (codes "java/lang/String") (codes "length") (codes "()I")

-- an int is taken from the stack and nothing returned
abbrev pub dropped : List Op
dropped = op.Pop ∷ op.Return None ∷ []

-- an element is read from what has to be an int[]
abbrev pub int_read : List Op
int_read = op.PushInt (pos 0) ∷ op.ALoad elem.Int ∷ dropped

-- a long[] is made
abbrev pub longs : List Op → List Op
longs ops = op.PushInt (pos 1) ∷ op.NewArray base.Long ∷ ops

-- ---- the codes

-- a long is loaded whose second word was stored to (JVMS 4.10.1.7, modifyLocalVariable)
abbrev pub over_long : List Class
over_long = of_w (op.PushLong (pos 1) ∷ op.Store kind.Long 0 ∷ op.PushInt (pos 0) ∷ op.Store kind.Int 1
    ∷ op.Load kind.Long 0 ∷ op.Pop2 ∷ op.Return None ∷ [])

-- a handler finds an exception where its frame has an int[] (JVMS 4.10.1.6, instructionSatisfiesHandler)
abbrev pub caught_as_array : List Class
caught_as_array = w_and (code
    (op.PushInt (pos 1) ∷ op.PushInt (pos 0) ∷ op.Arith arith.Div num.Int ∷ op.Pop ∷ op.Return None
    ∷ op.ArrayLength ∷ dropped)
    (record { from = 2; to = 3; entry = 5; caught = None } ∷ []) (frame 5 (vtype.Object ints ∷ []) ∷ [])) []

-- int[] f() returns a long[] (JVMS 4.10.1.9.areturn)
abbrev pub other_result : List Class
other_result = w_and
    (code (op.InvokeStatic (of_class (codes "demo/W") (codes "f") (codes "()[I")) ∷ int_read) [] [])
    (static (codes "f") [] (Some ints) (code (longs (op.Return (Some kind.Ref) ∷ [])) [] []) ∷ [])

-- an element of an Object[], a long[], is read as an int[] (JVMS 4.10.1.9.aaload)
abbrev pub element_as_array : List Class
element_as_array = of_w (op.PushInt (pos 1) ∷ op.ANewArray (class_type object) ∷ op.Dup ∷ op.PushInt (pos 0)
    ∷ longs (op.AStore elem.Ref ∷ op.PushInt (pos 0) ∷ op.ALoad elem.Ref ∷ int_read))

-- demo.W extends p.A, and reads the protected int x of a p.A (JVMS 4.10.1.8, passesProtectedCheck)
abbrev pub protected_field : List Class
protected_field =
    plain_class 0x0021 (codes "p/A") object [] (int_field 0x0004 (codes "x") ∷ []) (constructor_above object ∷ [])
    ∷ class (codes "demo/W") (codes "p/A") (w (code
    (made (codes "p/A") (op.GetField (of_class (codes "p/A") (codes "x") (codes "I")) ∷ dropped)) [] []) ∷ [])
    ∷ []

-- the length of a string that no constructor was called on (JVMS 4.10.1.9.new, 4.10.1.9.invokevirtual)
abbrev pub new_string : List Class
new_string = of_w (op.New (codes "java/lang/String") ∷ op.InvokeVirtual string_length ∷ dropped)

-- a constructor calls no other one (JVMS 4.10.1.9.return)
abbrev pub left_early : List Class
left_early = w_and (code (op.Return None ∷ []) [] []) (instance init (code (op.Return None ∷ []) [] []) ∷ [])

-- void f(Runnable) is given an Object, which fits, and uses it as a String (JVMS 4.10.1.2, isJavaAssignable)
abbrev pub runnable_as_string : List Class
runnable_as_string = w_and
    (code (made object (op.InvokeStatic (of_class (codes "demo/W") (codes "f") (codes "(Ljava/lang/Runnable;)V"))
    ∷ op.Return None ∷ [])) [] [])
    (static (codes "f") (class_type (codes "java/lang/Runnable") ∷ []) None
    (code (op.Load kind.Ref 0 ∷ op.InvokeVirtual string_length ∷ dropped) [] []) ∷ [])

-- a branch tests a long (JVMS 4.10.1.9.if<cond>)
abbrev pub long_tested : List Class
long_tested = w_and
    (code (op.PushLong (pos 1) ∷ op.IfZero cond.Eq 2 ∷ op.Return None ∷ []) [] (frame 2 [] ∷ [])) []

-- a switch leads otherwise where an int has to be on the stack, and there is none (JVMS 4.10.1.9.tableswitch)
abbrev pub otherwise : List Class
otherwise = w_and
    (code (op.PushInt (pos 5) ∷ op.TableSwitch (pos 0) 3 (2 ∷ []) ∷ op.Return None ∷ dropped) []
    (frame 2 [] ∷ frame 3 (vtype.Int ∷ []) ∷ [])) []

-- demo.W extends demo.B extends demo.A: super.m() of w() is that of demo.B, and the object a demo.A
-- (JVMS 4.10.1.9.invokespecial)
abbrev pub super_of_other : List Class
super_of_other =
    class (codes "demo/A") object
    (constructor_above object ∷ instance (codes "m") (code (op.Return None ∷ []) [] []) ∷ [])
    ∷ class (codes "demo/B") (codes "demo/A") (
    instance (codes "m") (code
    (op.Load kind.Ref 0 ∷ op.InvokeVirtual (of_class (codes "demo/B") (codes "n") no_result)
    ∷ op.Return None ∷ []) [] [])
    ∷ instance (codes "n") (code (op.Return None ∷ []) [] []) ∷ [])
    ∷ class (codes "demo/W") (codes "demo/B") (w (code (made (codes "demo/A")
    (op.InvokeSpecial (of_class (codes "demo/A") (codes "m") no_result) ∷ op.Return None ∷ [])) [] []) ∷ [])
    ∷ []

-- null is stored into a long[] as a reference (JVMS 4.10.1.9.aastore)
abbrev pub null_among_longs : List Class
null_among_longs =
    of_w (longs (op.PushInt (pos 0) ∷ op.PushNull ∷ op.AStore elem.Ref ∷ op.Return None ∷ []))
