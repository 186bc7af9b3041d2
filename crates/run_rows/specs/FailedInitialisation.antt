-- Rows of runs: initialisers that fail (the project's own: what HotSpot does).
use Rattle.std.specs.Prelude.{◌≡◌, pos, negsuc, List, [], ◌∷◌, Some, None, false, codes}
use Rattle.class_model.specs.declared.class.Class.{Class}
use Rattle.class_model.specs.declared.op.ArithOp.TheVariants as arith
use Rattle.class_model.specs.declared.op.Cond.TheVariants as cond
use Rattle.class_model.specs.declared.op.Kind.TheVariants as kind
use Rattle.class_model.specs.declared.op.Num.TheVariants as num
use Rattle.class_model.specs.declared.op.Op.TheVariants as op
use Rattle.class_pool.specs.rows.LinkRows.{object, plain_class}
use Rattle.class_run.specs.Ended.{ended_after}
use Rattle.class_run.specs.Examples.{key}
use Rattle.class_run.specs.declared.ended.Arg.TheVariants as arg
use Rattle.class_run.specs.declared.ended.End.TheVariants as end
use Rattle.jv_base.specs.declared.types.Base.TheVariants as base
use Rattle.link_check.specs.rows.ProfileRows.{class_type, init, of_class, system_out, typed_field}
use Rattle.run_rows.specs.Rows.{boolean, ends, handler, lines, object_init, of_stream, plain_constructor, with_code}
use Rattle.set_view.specs.Examples.{int}

-- first and later uses
abbrev pub first_and_later_uses_set : List Class
first_and_later_uses_set = plain_class 0x0020 (codes "t/A") object [] (typed_field 0x0008 (codes "x") int ∷ [])
    (with_code 0x0008 (codes "m") [] None (op.GetStatic system_out ∷ op.PushText (codes "m") ∷ op.InvokeVirtual
    (of_stream (codes "println") (codes "(Ljava/lang/String;)V")) ∷ op.Return None ∷ []) [] ∷ plain_constructor 0x0000
    object ∷ with_code 0x0008 (codes "<clinit>") [] None (op.GetStatic system_out ∷ op.PushText (codes "A") ∷
    op.InvokeVirtual (of_stream (codes "println") (codes "(Ljava/lang/String;)V")) ∷ op.GetStatic (of_class (codes
    "t/T") (codes "yes") (codes "Z")) ∷ op.IfZero cond.Eq 7 ∷ op.GetStatic (of_class (codes "t/T") (codes "e") (codes
    "Ljava/lang/RuntimeException;")) ∷ op.Throw ∷ op.Return None ∷ []) [] ∷ []) ∷ plain_class 0x0020 (codes "t/B")
    (codes "t/A") [] (typed_field 0x0008 (codes "y") int ∷ []) (plain_constructor 0x0000 (codes "t/A") ∷ with_code
    0x0008 (codes "n") [] None (op.Return None ∷ []) [] ∷ with_code 0x0008 (codes "<clinit>") [] None (op.GetStatic
    system_out ∷ op.PushText (codes "B") ∷ op.InvokeVirtual (of_stream (codes "println") (codes
    "(Ljava/lang/String;)V")) ∷ op.Return None ∷ []) [] ∷ []) ∷ plain_class 0x0021 (codes "t/T") object [] (typed_field
    0x0008 (codes "yes") boolean ∷ typed_field 0x0008 (codes "e") (class_type (codes "java/lang/RuntimeException")) ∷
    []) (plain_constructor 0x0001 object ∷ with_code 0x0008 (codes "go") (int ∷ []) None (op.Load kind.Int 0 ∷
    op.TableSwitch (pos 0) 21 (2 ∷ 4 ∷ 7 ∷ 12 ∷ 14 ∷ 19 ∷ []) ∷ op.InvokeStatic (of_class (codes "t/A") (codes "m")
    (codes "()V")) ∷ op.Goto 25 ∷ op.PushInt (pos 1) ∷ op.PutStatic (of_class (codes "t/A") (codes "x") (codes "I")) ∷
    op.Goto 25 ∷ op.New (codes "t/A") ∷ op.Dup ∷ op.InvokeSpecial (of_class (codes "t/A") init (codes "()V")) ∷ op.Pop ∷
    op.Goto 25 ∷ op.InvokeStatic (of_class (codes "t/B") (codes "n") (codes "()V")) ∷ op.Goto 25 ∷ op.GetStatic
    (of_class (codes "t/B") (codes "y") (codes "I")) ∷ op.PushInt (pos 1) ∷ op.Arith arith.Add num.Int ∷ op.PutStatic
    (of_class (codes "t/B") (codes "y") (codes "I")) ∷ op.Goto 25 ∷ op.InvokeStatic (of_class (codes "t/B") (codes "m")
    (codes "()V")) ∷ op.Goto 25 ∷ op.New (codes "t/B") ∷ op.Dup ∷ op.InvokeSpecial (of_class (codes "t/B") init (codes
    "()V")) ∷ op.Pop ∷ op.Return None ∷ []) [] ∷ with_code 0x0008 (codes "t") (int ∷ []) None (op.Load kind.Int 0 ∷
    op.InvokeStatic (of_class (codes "t/T") (codes "go") (codes "(I)V")) ∷ op.GetStatic system_out ∷ op.PushText (codes
    "fine") ∷ op.InvokeVirtual (of_stream (codes "println") (codes "(Ljava/lang/String;)V")) ∷ op.Goto 28 ∷ op.Store
    kind.Ref 1 ∷ op.GetStatic system_out ∷ op.PushText (codes "first") ∷ op.InvokeVirtual (of_stream (codes "println")
    (codes "(Ljava/lang/String;)V")) ∷ op.GetStatic system_out ∷ op.Load kind.Ref 1 ∷ op.InvokeVirtual (of_class (codes
    "java/lang/ExceptionInInitializerError") (codes "getCause") (codes "()Ljava/lang/Throwable;")) ∷ op.GetStatic
    (of_class (codes "t/T") (codes "e") (codes "Ljava/lang/RuntimeException;")) ∷ op.IfRef false 17 ∷ op.PushInt (pos 1)
    ∷ op.Goto 18 ∷ op.PushInt (pos 0) ∷ op.InvokeVirtual (of_stream (codes "println") (codes "(Z)V")) ∷ op.GetStatic
    system_out ∷ op.Load kind.Ref 1 ∷ op.InvokeVirtual (of_class (codes "java/lang/ExceptionInInitializerError") (codes
    "getMessage") (codes "()Ljava/lang/String;")) ∷ op.InvokeVirtual (of_stream (codes "println") (codes
    "(Ljava/lang/String;)V")) ∷ op.Goto 28 ∷ op.Store kind.Ref 1 ∷ op.GetStatic system_out ∷ op.PushText (codes "later")
    ∷ op.InvokeVirtual (of_stream (codes "println") (codes "(Ljava/lang/String;)V")) ∷ op.Return None ∷ []) (handler 0 5
    6 (Some (codes "java/lang/ExceptionInInitializerError")) ∷ handler 0 5 24 (Some (codes
    "java/lang/NoClassDefFoundError")) ∷ []) ∷ with_code 0x0008 (codes "f") (int ∷ int ∷ []) None (op.Load kind.Int 0 ∷
    op.InvokeStatic (of_class (codes "t/T") (codes "t") (codes "(I)V")) ∷ op.Load kind.Int 1 ∷ op.InvokeStatic (of_class
    (codes "t/T") (codes "t") (codes "(I)V")) ∷ op.PushInt (pos 0) ∷ op.PutStatic (of_class (codes "t/T") (codes "yes")
    (codes "Z")) ∷ op.Load kind.Int 0 ∷ op.InvokeStatic (of_class (codes "t/T") (codes "go") (codes "(I)V")) ∷ op.Return
    None ∷ []) [] ∷ with_code 0x0008 (codes "<clinit>") [] None (op.PushInt (pos 1) ∷ op.PutStatic (of_class (codes
    "t/T") (codes "yes") (codes "Z")) ∷ op.New (codes "java/lang/IllegalStateException") ∷ op.Dup ∷ op.PushText (codes
    "i") ∷ op.InvokeSpecial (of_class (codes "java/lang/IllegalStateException") init (codes "(Ljava/lang/String;)V")) ∷
    op.PutStatic (of_class (codes "t/T") (codes "e") (codes "Ljava/lang/RuntimeException;")) ∷ op.Return None ∷ []) [] ∷
    []) ∷ []

abbrev pub FirstAndLaterUsesRow : Type 0
FirstAndLaterUsesRow = ended_after first_and_later_uses_set (key (codes "t/T") (codes "f") (codes "(II)V")) (arg.Int
    (pos 1) ∷ arg.Int (pos 2) ∷ []) 74 ≡ ends (lines (codes "A" ∷ codes "first" ∷ codes "true" ∷ codes "null" ∷ codes
    "later" ∷ [])) (end.Threw (codes "java/lang/NoClassDefFoundError") 4)

-- uncaught
abbrev pub uncaught_set : List Class
uncaught_set = plain_class 0x0020 (codes "t/A") object [] [] (plain_constructor 0x0000 object ∷ with_code 0x0008 (codes
    "m") [] None (op.Return None ∷ []) [] ∷ with_code 0x0008 (codes "<clinit>") [] None (op.PushInt (negsuc 0) ∷
    op.NewArray base.Int ∷ op.Store kind.Ref 0 ∷ op.Return None ∷ []) [] ∷ []) ∷ plain_class 0x0020 (codes "t/B")
    (codes "t/A") [] [] (plain_constructor 0x0000 (codes "t/A") ∷ []) ∷ plain_class 0x0021 (codes "t/T") object
    [] [] (plain_constructor 0x0001 object ∷ with_code 0x0008 (codes "f") (int ∷ []) None (op.Load kind.Int 0 ∷
    op.IfZero cond.Ne 3 ∷ op.InvokeStatic (of_class (codes "t/A") (codes "m") (codes "()V")) ∷ op.Load kind.Int 0 ∷
    op.PushInt (pos 1) ∷ op.IfCmp cond.Ne 10 ∷ op.New (codes "t/B") ∷ op.Dup ∷ op.InvokeSpecial (of_class (codes
    "t/B") init (codes "()V")) ∷ op.Pop ∷ op.InvokeStatic (of_class (codes "t/A") (codes "m") (codes "()V")) ∷
    op.Goto 13 ∷ op.Store kind.Ref 1 ∷ op.New (codes "t/B") ∷ op.Dup ∷ op.InvokeSpecial (of_class (codes "t/B")
    init (codes "()V")) ∷ op.Pop ∷ op.Return None ∷ []) (handler 10 11 12 (Some (codes "java/lang/Throwable")) ∷ []) ∷
    []) ∷ []

abbrev pub UncaughtRow : Type 0
UncaughtRow = ended_after uncaught_set (key (codes "t/T") (codes "f") (codes "(I)V")) (arg.Int (pos 2) ∷ []) 21 ≡ ends
    [] (end.Threw (codes "java/lang/NoClassDefFoundError") 3)

-- a Throwable that is neither
abbrev pub throwable_that_is_neither_set : List Class
throwable_that_is_neither_set = plain_class 0x0020 (codes "t/A") object [] [] (plain_constructor 0x0000 object ∷
    with_code 0x0008 (codes "m") [] None (op.Return None ∷ []) [] ∷ with_code 0x0008 (codes "<clinit>") [] None (op.New
    (codes "java/lang/Throwable") ∷ op.Dup ∷ op.PushText (codes "bare") ∷ op.InvokeSpecial (of_class (codes
    "java/lang/Throwable") init (codes "(Ljava/lang/String;)V")) ∷ op.InvokeStatic (of_class (codes "t/T") (codes "go")
    (codes "(Ljava/lang/Throwable;)V")) ∷ op.Return None ∷ []) [] ∷ []) ∷ plain_class 0x0021 (codes "t/T") object [] []
    (plain_constructor 0x0001 object ∷ with_code 0x0008 (codes "go") ((class_type (codes "java/lang/Throwable")) ∷ [])
    None (op.Load kind.Ref 0 ∷ op.Throw ∷ []) [] ∷ with_code 0x0008 (codes "f") (int ∷ []) None (op.InvokeStatic
    (of_class (codes "t/A") (codes "m") (codes "()V")) ∷ op.Goto 13 ∷ op.Store kind.Ref 1 ∷ op.GetStatic system_out ∷
    op.Load kind.Ref 1 ∷ op.InvokeVirtual (of_class (codes "java/lang/ExceptionInInitializerError") (codes "getCause")
    (codes "()Ljava/lang/Throwable;")) ∷ op.InvokeVirtual (of_class (codes "java/lang/Throwable") (codes "getMessage")
    (codes "()Ljava/lang/String;")) ∷ op.InvokeVirtual (of_stream (codes "println") (codes "(Ljava/lang/String;)V")) ∷
    op.GetStatic system_out ∷ op.Load kind.Ref 1 ∷ op.InvokeVirtual (of_class (codes
    "java/lang/ExceptionInInitializerError") (codes "getCause") (codes "()Ljava/lang/Throwable;")) ∷ op.InstanceOf
    (class_type (codes "java/lang/Exception")) ∷ op.InvokeVirtual (of_stream (codes "println") (codes "(Z)V")) ∷ op.Load
    kind.Int 0 ∷ op.IfZero cond.Ne 17 ∷ op.InvokeStatic (of_class (codes "t/A") (codes "m") (codes "()V")) ∷ op.Goto 21
    ∷ op.New (codes "t/A") ∷ op.Dup ∷ op.InvokeSpecial (of_class (codes "t/A") init (codes "()V")) ∷ op.Pop ∷ op.Return
    None ∷ []) (handler 0 1 2 (Some (codes "java/lang/ExceptionInInitializerError")) ∷ []) ∷ []) ∷ []

abbrev pub ThrowableThatIsNeitherRow : Type 0
ThrowableThatIsNeitherRow = ended_after throwable_that_is_neither_set (key (codes "t/T") (codes "f") (codes "(I)V"))
    (arg.Int (pos 0) ∷ []) 31 ≡ ends (lines (codes "bare" ∷ codes "false" ∷ [])) (end.Threw (codes
    "java/lang/NoClassDefFoundError") 3)

-- statics of a failed class by way of an object
abbrev pub statics_of_a_failed_class_set : List Class
statics_of_a_failed_class_set = plain_class 0x0020 (codes "t/A") object [] (typed_field 0x0000 (codes "k") int ∷
    typed_field 0x0008 (codes "s") int ∷ []) (with_code 0x0000 init [] None (op.Load kind.Ref 0 ∷ op.InvokeSpecial
    object_init ∷ op.Load kind.Ref 0 ∷ op.PushInt (pos 4) ∷ op.PutField (of_class (codes "t/A") (codes "k") (codes "I"))
    ∷ op.Return None ∷ []) [] ∷ with_code 0x0000 (codes "get") [] (Some int) (op.Load kind.Ref 0 ∷ op.GetField (of_class
    (codes "t/A") (codes "k") (codes "I")) ∷ op.Return (Some kind.Int) ∷ []) [] ∷ with_code 0x0008 (codes "<clinit>") []
    None (op.PushInt (pos 3) ∷ op.PutStatic (of_class (codes "t/A") (codes "s") (codes "I")) ∷ op.New (codes "t/A") ∷
    op.Dup ∷ op.InvokeSpecial (of_class (codes "t/A") init (codes "()V")) ∷ op.PutStatic (of_class (codes "t/T") (codes
    "a") (codes "Lt/A;")) ∷ op.GetStatic (of_class (codes "t/A") (codes "s") (codes "I")) ∷ op.PushInt (pos 3) ∷
    op.IfCmp cond.Ne 13 ∷ op.New (codes "java/lang/RuntimeException") ∷ op.Dup ∷ op.InvokeSpecial (of_class (codes
    "java/lang/RuntimeException") init (codes "()V")) ∷ op.Throw ∷ op.Return None ∷ []) [] ∷ []) ∷ plain_class 0x0021
    (codes "t/T") object [] (typed_field 0x0008 (codes "a") (class_type (codes "t/A")) ∷ []) (plain_constructor 0x0001
    object ∷ with_code 0x0008 (codes "f") [] None (op.New (codes "t/A") ∷ op.Dup ∷ op.InvokeSpecial (of_class (codes
    "t/A") init (codes "()V")) ∷ op.Pop ∷ op.Goto 9 ∷ op.Store kind.Ref 0 ∷ op.GetStatic system_out ∷ op.PushText (codes
    "failed") ∷ op.InvokeVirtual (of_stream (codes "println") (codes "(Ljava/lang/String;)V")) ∷ op.GetStatic system_out
    ∷ op.GetStatic (of_class (codes "t/T") (codes "a") (codes "Lt/A;")) ∷ op.GetField (of_class (codes "t/A") (codes
    "k") (codes "I")) ∷ op.InvokeVirtual (of_stream (codes "println") (codes "(I)V")) ∷ op.GetStatic system_out ∷
    op.GetStatic (of_class (codes "t/T") (codes "a") (codes "Lt/A;")) ∷ op.InvokeVirtual (of_class (codes "t/A") (codes
    "get") (codes "()I")) ∷ op.InvokeVirtual (of_stream (codes "println") (codes "(I)V")) ∷ op.GetStatic system_out ∷
    op.GetStatic (of_class (codes "t/T") (codes "a") (codes "Lt/A;")) ∷ op.Pop ∷ op.GetStatic (of_class (codes "t/A")
    (codes "s") (codes "I")) ∷ op.InvokeVirtual (of_stream (codes "println") (codes "(I)V")) ∷ op.Return None ∷ [])
    (handler 0 4 5 (Some (codes "java/lang/ExceptionInInitializerError")) ∷ []) ∷ []) ∷ []

abbrev pub StaticsOfAFailedClassRow : Type 0
StaticsOfAFailedClassRow = ended_after statics_of_a_failed_class_set (key (codes "t/T") (codes "f") (codes "()V")) [] 47
    ≡ ends (lines (codes "failed" ∷ codes "4" ∷ codes "4" ∷ [])) (end.Threw (codes "java/lang/NoClassDefFoundError") 4)

-- the rows
abbrev pub FailedInitialisationRows : Type 0
FailedInitialisationRows = FirstAndLaterUsesRow × UncaughtRow × ThrowableThatIsNeitherRow × StaticsOfAFailedClassRow
