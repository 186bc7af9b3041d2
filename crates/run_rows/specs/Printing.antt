-- Rows of runs: printing (the project's own: what HotSpot does).
use Rattle.std.specs.Prelude.{◌≡◌, pos, negsuc, List, [], ◌∷◌, Some, None, codes}
use Rattle.class_model.specs.declared.class.Class.{Class}
use Rattle.class_model.specs.declared.op.Cond.TheVariants as cond
use Rattle.class_model.specs.declared.op.Kind.TheVariants as kind
use Rattle.class_model.specs.declared.op.Op.TheVariants as op
use Rattle.class_pool.specs.rows.LinkRows.{object, plain_class}
use Rattle.class_run.specs.Ended.{ended_after}
use Rattle.class_run.specs.Examples.{key}
use Rattle.class_run.specs.declared.ended.Arg.TheVariants as arg
use Rattle.class_run.specs.declared.ended.Back.TheVariants as back
use Rattle.class_run.specs.declared.ended.End.TheVariants as end
use Rattle.link_check.specs.rows.ProfileRows.{class_type, of_class, system_out, typed_field}
use Rattle.run_rows.specs.Rows.{boolean, char, ends, handler, lines, long, of_stream, plain_constructor, string_type}
use Rattle.run_rows.specs.Rows.{with_code}
use Rattle.set_view.specs.Examples.{int}

-- each type
abbrev pub each_type_set : List Class
each_type_set = plain_class 0x0021 (codes "t/T") object [] [] (plain_constructor 0x0001 object ∷ with_code 0x0008 (codes
    "f") (int ∷ long ∷ char ∷ boolean ∷ string_type ∷ []) None (op.GetStatic system_out ∷ op.Store kind.Ref 6 ∷
    op.Load kind.Ref 6 ∷ op.Load kind.Int 0 ∷ op.InvokeVirtual (of_stream (codes "print") (codes "(I)V")) ∷ op.Load
    kind.Ref 6 ∷ op.Load kind.Long 1 ∷ op.InvokeVirtual (of_stream (codes "print") (codes "(J)V")) ∷ op.Load kind.Ref
    6 ∷ op.Load kind.Int 3 ∷ op.InvokeVirtual (of_stream (codes "print") (codes "(C)V")) ∷ op.Load kind.Ref 6 ∷
    op.Load kind.Int 4 ∷ op.InvokeVirtual (of_stream (codes "print") (codes "(Z)V")) ∷ op.Load kind.Ref 6 ∷ op.Load
    kind.Ref 5 ∷ op.InvokeVirtual (of_stream (codes "print") (codes "(Ljava/lang/String;)V")) ∷ op.Load kind.Ref 6 ∷
    op.PushNull ∷ op.CheckCast string_type ∷ op.InvokeVirtual (of_stream (codes "print") (codes
    "(Ljava/lang/String;)V")) ∷ op.Load kind.Ref 6 ∷ op.InvokeVirtual (of_stream (codes "println") (codes "()V")) ∷
    op.Load kind.Ref 6 ∷ op.Load kind.Int 0 ∷ op.InvokeVirtual (of_stream (codes "println") (codes "(I)V")) ∷ op.Load
    kind.Ref 6 ∷ op.Load kind.Long 1 ∷ op.InvokeVirtual (of_stream (codes "println") (codes "(J)V")) ∷ op.Load
    kind.Ref 6 ∷ op.Load kind.Int 3 ∷ op.InvokeVirtual (of_stream (codes "println") (codes "(C)V")) ∷ op.Load kind.Ref
    6 ∷ op.Load kind.Int 4 ∷ op.InvokeVirtual (of_stream (codes "println") (codes "(Z)V")) ∷ op.Load kind.Ref 6 ∷
    op.Load kind.Ref 5 ∷ op.InvokeVirtual (of_stream (codes "println") (codes "(Ljava/lang/String;)V")) ∷ op.Load
    kind.Ref 6 ∷ op.PushNull ∷ op.CheckCast string_type ∷ op.InvokeVirtual (of_stream (codes "println") (codes
    "(Ljava/lang/String;)V")) ∷ op.Return None ∷ []) [] ∷ []) ∷ []

abbrev pub EachTypeRow : Type 0
EachTypeRow = ended_after each_type_set (key (codes "t/T") (codes "f") (codes "(IJCZLjava/lang/String;)V")) (arg.Int
    (negsuc 2147483647) ∷ arg.Long (negsuc 9223372036854775807) ∷ arg.Int (pos 65) ∷ arg.Int (pos 1) ∷ arg.Text (codes
    "text") ∷ []) 45 ≡ ends (lines (codes "-2147483648-9223372036854775808Atruetextnull" ∷ codes "-2147483648" ∷ codes
    "-9223372036854775808" ∷ codes "A" ∷ codes "true" ∷ codes "text" ∷ codes "null" ∷ [])) (end.Returned back.Nothing)

-- a null stream
abbrev pub null_stream_set : List Class
null_stream_set = plain_class 0x0021 (codes "t/T") object [] (typed_field 0x0008 (codes "o") (class_type (codes
    "java/io/PrintStream")) ∷ []) (plain_constructor 0x0001 object ∷ with_code 0x0008 (codes "f") (int ∷ []) None
    (op.Load kind.Int 0 ∷ op.TableSwitch (pos 0) 21 (2 ∷ 6 ∷ 10 ∷ 13 ∷ 17 ∷ []) ∷ op.GetStatic (of_class (codes
    "t/T") (codes "o") (codes "Ljava/io/PrintStream;")) ∷ op.PushInt (pos 1) ∷ op.InvokeVirtual (of_stream (codes
    "print") (codes "(I)V")) ∷ op.Goto 24 ∷ op.GetStatic (of_class (codes "t/T") (codes "o") (codes
    "Ljava/io/PrintStream;")) ∷ op.PushText (codes "s") ∷ op.InvokeVirtual (of_stream (codes "println") (codes
    "(Ljava/lang/String;)V")) ∷ op.Goto 24 ∷ op.GetStatic (of_class (codes "t/T") (codes "o") (codes
    "Ljava/io/PrintStream;")) ∷ op.InvokeVirtual (of_stream (codes "println") (codes "()V")) ∷ op.Goto 24 ∷
    op.GetStatic (of_class (codes "t/T") (codes "o") (codes "Ljava/io/PrintStream;")) ∷ op.PushInt (pos 99) ∷
    op.InvokeVirtual (of_stream (codes "print") (codes "(C)V")) ∷ op.Goto 24 ∷ op.GetStatic (of_class (codes "t/T")
    (codes "o") (codes "Ljava/io/PrintStream;")) ∷ op.PushLong (pos 5) ∷ op.InvokeVirtual (of_stream (codes "println")
    (codes "(J)V")) ∷ op.Goto 24 ∷ op.GetStatic (of_class (codes "t/T") (codes "o") (codes
    "Ljava/io/PrintStream;")) ∷ op.PushInt (pos 1) ∷ op.InvokeVirtual (of_stream (codes "print") (codes "(Z)V")) ∷
    op.Return None ∷ []) [] ∷ with_code 0x0008 (codes "all") [] None (op.PushInt (pos 0) ∷ op.Store kind.Int 0 ∷
    op.Load kind.Int 0 ∷ op.PushInt (pos 6) ∷ op.IfCmp cond.Ge 17 ∷ op.Load kind.Int 0 ∷ op.InvokeStatic (of_class
    (codes "t/T") (codes "f") (codes "(I)V")) ∷ op.GetStatic system_out ∷ op.PushText (codes "no") ∷
    op.InvokeVirtual (of_stream (codes "println") (codes "(Ljava/lang/String;)V")) ∷ op.Goto 15 ∷ op.Store kind.Ref 1
    ∷ op.GetStatic system_out ∷ op.Load kind.Int 0 ∷ op.InvokeVirtual (of_stream (codes "println") (codes "(I)V")) ∷
    op.Inc 0 (pos 1) ∷ op.Goto 2 ∷ op.Return None ∷ []) (handler 5 10 11 (Some (codes
    "java/lang/NullPointerException")) ∷ []) ∷ []) ∷ []

abbrev pub NullStreamRow : Type 0
NullStreamRow = ended_after null_stream_set (key (codes "t/T") (codes "all") (codes "()V")) [] 115 ≡ ends (lines (codes
    "0" ∷ codes "1" ∷ codes "2" ∷ codes "3" ∷ codes "4" ∷ codes "5" ∷ [])) (end.Returned back.Nothing)

-- the rows
abbrev pub PrintingRows : Type 0
PrintingRows = EachTypeRow × NullStreamRow
