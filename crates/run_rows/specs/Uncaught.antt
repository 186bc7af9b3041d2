-- Rows of runs: uncaught (the project's own: what HotSpot does).
use Rattle.std.specs.Prelude.{◌≡◌, pos, List, [], ◌∷◌, Some, None, false, codes}
use Rattle.class_model.specs.declared.class.Class.{Class}
use Rattle.class_model.specs.declared.op.Cond.TheVariants as cond
use Rattle.class_model.specs.declared.op.Kind.TheVariants as kind
use Rattle.class_model.specs.declared.op.Op.TheVariants as op
use Rattle.class_pool.specs.rows.LinkRows.{object, plain_class}
use Rattle.class_run.specs.Ended.{ended_after}
use Rattle.class_run.specs.Examples.{key}
use Rattle.class_run.specs.declared.ended.Arg.TheVariants as arg
use Rattle.class_run.specs.declared.ended.End.TheVariants as end
use Rattle.link_check.specs.rows.ProfileRows.{class_type, init, of_class, system_out}
use Rattle.run_rows.specs.Rows.{ends, lines, of_builder, of_stream, plain_constructor, string_type, with_code}
use Rattle.set_view.specs.Examples.{int}

-- constructors of ArithmeticException
abbrev pub arithmetic_exception_constructors_set : List Class
arithmetic_exception_constructors_set = plain_class 0x0021 (codes "t/T") object [] [] (plain_constructor 0x0001 object ∷
    with_code 0x0008 (codes "f") (int ∷ []) None (op.New (codes "java/lang/ArithmeticException") ∷ op.Dup ∷
    op.InvokeSpecial (of_class (codes "java/lang/ArithmeticException") init (codes "()V")) ∷ op.Store kind.Ref 1 ∷
    op.New (codes "java/lang/ArithmeticException") ∷ op.Dup ∷ op.PushText (codes "m") ∷ op.InvokeSpecial (of_class
    (codes "java/lang/ArithmeticException") init (codes "(Ljava/lang/String;)V")) ∷ op.Store kind.Ref 2 ∷ op.GetStatic
    system_out ∷ op.Load kind.Ref 1 ∷ op.InvokeVirtual (of_class (codes "java/lang/ArithmeticException") (codes
    "getMessage") (codes "()Ljava/lang/String;")) ∷ op.InvokeVirtual (of_stream (codes "println") (codes
    "(Ljava/lang/String;)V")) ∷ op.GetStatic system_out ∷ op.Load kind.Ref 2 ∷ op.InvokeVirtual (of_class (codes
    "java/lang/ArithmeticException") (codes "getMessage") (codes "()Ljava/lang/String;")) ∷ op.InvokeVirtual (of_stream
    (codes "println") (codes "(Ljava/lang/String;)V")) ∷ op.GetStatic system_out ∷ op.Load kind.Ref 1 ∷ op.InvokeVirtual
    (of_class (codes "java/lang/ArithmeticException") (codes "getCause") (codes "()Ljava/lang/Throwable;")) ∷ op.IfNull
    false 26 ∷ op.Load kind.Ref 2 ∷ op.InvokeVirtual (of_class (codes "java/lang/ArithmeticException") (codes
    "getCause") (codes "()Ljava/lang/Throwable;")) ∷ op.IfNull false 26 ∷ op.PushInt (pos 1) ∷ op.Goto 27 ∷ op.PushInt
    (pos 0) ∷ op.InvokeVirtual (of_stream (codes "println") (codes "(Z)V")) ∷ op.GetStatic system_out ∷ op.New (codes
    "java/lang/ArithmeticException") ∷ op.Dup ∷ op.PushNull ∷ op.CheckCast string_type ∷ op.InvokeSpecial (of_class
    (codes "java/lang/ArithmeticException") init (codes "(Ljava/lang/String;)V")) ∷ op.InvokeVirtual (of_class (codes
    "java/lang/ArithmeticException") (codes "getMessage") (codes "()Ljava/lang/String;")) ∷ op.InvokeVirtual (of_stream
    (codes "println") (codes "(Ljava/lang/String;)V")) ∷ op.Load kind.Int 0 ∷ op.IfZero cond.Ne 42 ∷ op.New (codes
    "java/lang/ArithmeticException") ∷ op.Dup ∷ op.InvokeSpecial (of_class (codes "java/lang/ArithmeticException") init
    (codes "()V")) ∷ op.Goto 43 ∷ op.Load kind.Ref 2 ∷ op.Throw ∷ []) [] ∷ []) ∷ []

abbrev pub ArithmeticExceptionConstructorsRow : Type 0
ArithmeticExceptionConstructorsRow = ended_after arithmetic_exception_constructors_set (key (codes "t/T") (codes "f")
    (codes "(I)V")) (arg.Int (pos 0) ∷ []) 46 ≡ ends (lines (codes "null" ∷ codes "m" ∷ codes "true" ∷ codes "null" ∷
    [])) (end.Threw (codes "java/lang/ArithmeticException") 4)

-- constructors of NumberFormatException
abbrev pub number_format_exception_constructors_set : List Class
number_format_exception_constructors_set = plain_class 0x0021 (codes "t/T") object [] [] (plain_constructor 0x0001
    object ∷ with_code 0x0008 (codes "f") (int ∷ []) None (op.New (codes "java/lang/NumberFormatException") ∷ op.Dup ∷
    op.InvokeSpecial (of_class (codes "java/lang/NumberFormatException") init (codes "()V")) ∷ op.Store kind.Ref 1 ∷
    op.New (codes "java/lang/NumberFormatException") ∷ op.Dup ∷ op.PushText (codes "m") ∷ op.InvokeSpecial (of_class
    (codes "java/lang/NumberFormatException") init (codes "(Ljava/lang/String;)V")) ∷ op.Store kind.Ref 2 ∷ op.GetStatic
    system_out ∷ op.Load kind.Ref 1 ∷ op.InvokeVirtual (of_class (codes "java/lang/NumberFormatException") (codes
    "getMessage") (codes "()Ljava/lang/String;")) ∷ op.InvokeVirtual (of_stream (codes "println") (codes
    "(Ljava/lang/String;)V")) ∷ op.GetStatic system_out ∷ op.Load kind.Ref 2 ∷ op.InvokeVirtual (of_class (codes
    "java/lang/NumberFormatException") (codes "getMessage") (codes "()Ljava/lang/String;")) ∷ op.InvokeVirtual
    (of_stream (codes "println") (codes "(Ljava/lang/String;)V")) ∷ op.GetStatic system_out ∷ op.Load kind.Ref 1 ∷
    op.InvokeVirtual (of_class (codes "java/lang/NumberFormatException") (codes "getCause") (codes
    "()Ljava/lang/Throwable;")) ∷ op.IfNull false 26 ∷ op.Load kind.Ref 2 ∷ op.InvokeVirtual (of_class (codes
    "java/lang/NumberFormatException") (codes "getCause") (codes "()Ljava/lang/Throwable;")) ∷ op.IfNull false 26 ∷
    op.PushInt (pos 1) ∷ op.Goto 27 ∷ op.PushInt (pos 0) ∷ op.InvokeVirtual (of_stream (codes "println") (codes "(Z)V"))
    ∷ op.GetStatic system_out ∷ op.New (codes "java/lang/NumberFormatException") ∷ op.Dup ∷ op.PushNull ∷ op.CheckCast
    string_type ∷ op.InvokeSpecial (of_class (codes "java/lang/NumberFormatException") init (codes
    "(Ljava/lang/String;)V")) ∷ op.InvokeVirtual (of_class (codes "java/lang/NumberFormatException") (codes
    "getMessage") (codes "()Ljava/lang/String;")) ∷ op.InvokeVirtual (of_stream (codes "println") (codes
    "(Ljava/lang/String;)V")) ∷ op.Load kind.Int 0 ∷ op.IfZero cond.Ne 42 ∷ op.New (codes
    "java/lang/NumberFormatException") ∷ op.Dup ∷ op.InvokeSpecial (of_class (codes "java/lang/NumberFormatException")
    init (codes "()V")) ∷ op.Goto 43 ∷ op.Load kind.Ref 2 ∷ op.Throw ∷ []) [] ∷ []) ∷ []

abbrev pub NumberFormatExceptionConstructorsRow : Type 0
NumberFormatExceptionConstructorsRow = ended_after number_format_exception_constructors_set (key (codes "t/T") (codes
    "f") (codes "(I)V")) (arg.Int (pos 1) ∷ []) 43 ≡ ends (lines (codes "null" ∷ codes "m" ∷ codes "true" ∷ codes "null"
    ∷ [])) (end.Threw (codes "java/lang/NumberFormatException") 2)

-- messages
abbrev pub messages_set : List Class
messages_set = plain_class 0x0020 (codes "t/T$M") (codes "java/lang/RuntimeException") [] [] (plain_constructor 0x0000
    (codes "java/lang/RuntimeException") ∷ with_code 0x0001 (codes "getMessage") [] (Some string_type) (op.New (codes
    "java/lang/StringBuilder") ∷ op.Dup ∷ op.InvokeSpecial (of_builder init (codes "()V")) ∷ op.PushText (codes
    "own ") ∷ op.InvokeVirtual (of_builder (codes "append") (codes "(Ljava/lang/String;)Ljava/lang/StringBuilder;")) ∷
    op.Load kind.Ref 0 ∷ op.InvokeSpecial (of_class (codes "java/lang/RuntimeException") (codes "getMessage") (codes
    "()Ljava/lang/String;")) ∷ op.InvokeVirtual (of_builder (codes "append") (codes
    "(Ljava/lang/String;)Ljava/lang/StringBuilder;")) ∷ op.InvokeVirtual (of_builder (codes "toString") (codes
    "()Ljava/lang/String;")) ∷ op.Return (Some kind.Ref) ∷ []) [] ∷ with_code 0x0021 (codes "getCause") [] (Some
    (class_type (codes "java/lang/Throwable"))) (op.Load kind.Ref 0 ∷ op.Return (Some kind.Ref) ∷ []) [] ∷ []) ∷
    plain_class 0x0021 (codes "t/T") object [] [] (plain_constructor 0x0001 object ∷ with_code 0x0008 (codes "f")
    (string_type ∷ []) None (op.New (codes "java/lang/RuntimeException") ∷ op.Dup ∷ op.Load kind.Ref 0 ∷
    op.InvokeSpecial (of_class (codes "java/lang/RuntimeException") init (codes "(Ljava/lang/String;)V")) ∷ op.Store
    kind.Ref 1 ∷ op.GetStatic system_out ∷ op.Load kind.Ref 1 ∷ op.InvokeVirtual (of_class (codes
    "java/lang/RuntimeException") (codes "getMessage") (codes "()Ljava/lang/String;")) ∷ op.Load kind.Ref 0 ∷ op.IfRef
    false 12 ∷ op.PushInt (pos 1) ∷ op.Goto 13 ∷ op.PushInt (pos 0) ∷ op.InvokeVirtual (of_stream (codes "println")
    (codes "(Z)V")) ∷ op.GetStatic system_out ∷ op.New (codes "java/lang/Error") ∷ op.Dup ∷ op.PushNull ∷ op.CheckCast
    string_type ∷ op.InvokeSpecial (of_class (codes "java/lang/Error") init (codes "(Ljava/lang/String;)V")) ∷
    op.InvokeVirtual (of_class (codes "java/lang/Error") (codes "getMessage") (codes "()Ljava/lang/String;")) ∷
    op.InvokeVirtual (of_stream (codes "println") (codes "(Ljava/lang/String;)V")) ∷ op.New (codes "t/T$M") ∷ op.Dup
    ∷ op.InvokeSpecial (of_class (codes "t/T$M") init (codes "()V")) ∷ op.Store kind.Ref 2 ∷ op.GetStatic system_out
    ∷ op.Load kind.Ref 2 ∷ op.InvokeVirtual (of_class (codes "java/lang/Throwable") (codes "getMessage") (codes
    "()Ljava/lang/String;")) ∷ op.InvokeVirtual (of_stream (codes "println") (codes "(Ljava/lang/String;)V")) ∷
    op.GetStatic system_out ∷ op.Load kind.Ref 2 ∷ op.InvokeVirtual (of_class (codes "java/lang/Throwable") (codes
    "getCause") (codes "()Ljava/lang/Throwable;")) ∷ op.Load kind.Ref 2 ∷ op.IfRef false 37 ∷ op.PushInt (pos 1) ∷
    op.Goto 38 ∷ op.PushInt (pos 0) ∷ op.InvokeVirtual (of_stream (codes "println") (codes "(Z)V")) ∷ op.GetStatic
    system_out ∷ op.New (codes "java/lang/Exception") ∷ op.Dup ∷ op.PushText (codes "x") ∷ op.Load kind.Ref 2 ∷
    op.InvokeSpecial (of_class (codes "java/lang/Exception") init (codes
    "(Ljava/lang/String;Ljava/lang/Throwable;)V")) ∷ op.InvokeVirtual (of_class (codes "java/lang/Exception") (codes
    "getCause") (codes "()Ljava/lang/Throwable;")) ∷ op.InvokeVirtual (of_class (codes "java/lang/Throwable") (codes
    "getMessage") (codes "()Ljava/lang/String;")) ∷ op.InvokeVirtual (of_stream (codes "println") (codes
    "(Ljava/lang/String;)V")) ∷ op.GetStatic system_out ∷ op.New (codes "java/lang/Exception") ∷ op.Dup ∷ op.PushText
    (codes "l") ∷ op.InvokeSpecial (of_class (codes "java/lang/Exception") init (codes "(Ljava/lang/String;)V")) ∷
    op.InvokeVirtual (of_class (codes "java/lang/Exception") (codes "getMessage") (codes "()Ljava/lang/String;")) ∷
    op.PushText (codes "l") ∷ op.IfRef false 58 ∷ op.PushInt (pos 1) ∷ op.Goto 59 ∷ op.PushInt (pos 0) ∷
    op.InvokeVirtual (of_stream (codes "println") (codes "(Z)V")) ∷ op.New (codes "t/T$M") ∷ op.Dup ∷
    op.InvokeSpecial (of_class (codes "t/T$M") init (codes "()V")) ∷ op.Throw ∷ []) [] ∷ []) ∷ []

abbrev pub MessagesRow : Type 0
MessagesRow = ended_after messages_set (key (codes "t/T") (codes "f") (codes "(Ljava/lang/String;)V")) (arg.Text (codes
    "given") ∷ []) 95 ≡ ends (lines (codes "true" ∷ codes "null" ∷ codes "own null" ∷ codes "true" ∷ codes "own null"
    ∷ codes "true" ∷ [])) (end.Threw (codes "t/T$M") 11)

-- the rows
abbrev pub UncaughtRows : Type 0
UncaughtRows = ArithmeticExceptionConstructorsRow × NumberFormatExceptionConstructorsRow × MessagesRow
