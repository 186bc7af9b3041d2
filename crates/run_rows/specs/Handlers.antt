-- Rows of runs: handlers (the project's own: what HotSpot does).
use Rattle.std.specs.Prelude.{◌≡◌, ℕ, pos, negsuc, List, [], ◌∷◌, Some, None, true, false, codes}
use Rattle.class_model.specs.declared.class.Class.{Class}
use Rattle.class_model.specs.declared.op.ArithOp.TheVariants as arith
use Rattle.class_model.specs.declared.op.Cond.TheVariants as cond
use Rattle.class_model.specs.declared.op.Elem.TheVariants as elem
use Rattle.class_model.specs.declared.op.Kind.TheVariants as kind
use Rattle.class_model.specs.declared.op.Num.TheVariants as num
use Rattle.class_model.specs.declared.op.Op.TheVariants as op
use Rattle.class_pool.specs.rows.LinkRows.{object, plain_class}
use Rattle.class_run.specs.Ended.{ended_after}
use Rattle.class_run.specs.Examples.{key}
use Rattle.class_run.specs.declared.ended.Arg.TheVariants as arg
use Rattle.class_run.specs.declared.ended.Back.TheVariants as back
use Rattle.class_run.specs.declared.ended.End.TheVariants as end
use Rattle.link_check.specs.rows.ProfileRows.{init, of_class, system_out}
use Rattle.run_rows.specs.Rows.{boolean, ends, handler, lines, of_stream, plain_constructor, with_code}
use Rattle.set_view.specs.Examples.{int}

-- nested, and thrown again
abbrev pub nested_and_thrown_again_set : List Class
nested_and_thrown_again_set = plain_class 0x0021 (codes "t/T") object [] [] (plain_constructor 0x0001 object ∷ with_code
    0x0008 (codes "g") (int ∷ []) None (op.Load kind.Int 0 ∷ op.IfZero cond.Ne 7 ∷ op.New (codes
    "java/lang/ArithmeticException") ∷ op.Dup ∷ op.PushText (codes "x") ∷ op.InvokeSpecial (of_class (codes
    "java/lang/ArithmeticException") init (codes "(Ljava/lang/String;)V")) ∷ op.Throw ∷ op.PushNull ∷ op.Store kind.Ref
    1 ∷ op.Load kind.Ref 1 ∷ op.PushInt (pos 0) ∷ op.PushInt (pos 1) ∷ op.AStore elem.Int ∷ op.GetStatic system_out ∷
    op.PushText (codes "f1") ∷ op.InvokeVirtual (of_stream (codes "println") (codes "(Ljava/lang/String;)V")) ∷ op.Goto
    29 ∷ op.Store kind.Ref 1 ∷ op.GetStatic system_out ∷ op.PushText (codes "inner") ∷ op.InvokeVirtual (of_stream
    (codes "println") (codes "(Ljava/lang/String;)V")) ∷ op.Load kind.Ref 1 ∷ op.Throw ∷ op.Store kind.Ref 2 ∷
    op.GetStatic system_out ∷ op.PushText (codes "f1") ∷ op.InvokeVirtual (of_stream (codes "println") (codes
    "(Ljava/lang/String;)V")) ∷ op.Load kind.Ref 2 ∷ op.Throw ∷ op.GetStatic system_out ∷ op.PushText (codes "f2") ∷
    op.InvokeVirtual (of_stream (codes "println") (codes "(Ljava/lang/String;)V")) ∷ op.Goto 49 ∷ op.Store kind.Ref 1 ∷
    op.GetStatic system_out ∷ op.PushText (codes "outer") ∷ op.InvokeVirtual (of_stream (codes "println") (codes
    "(Ljava/lang/String;)V")) ∷ op.New (codes "java/lang/IllegalStateException") ∷ op.Dup ∷ op.PushText (codes "new") ∷
    op.Load kind.Ref 1 ∷ op.InvokeSpecial (of_class (codes "java/lang/IllegalStateException") init (codes
    "(Ljava/lang/String;Ljava/lang/Throwable;)V")) ∷ op.Throw ∷ op.Store kind.Ref 3 ∷ op.GetStatic system_out ∷
    op.PushText (codes "f2") ∷ op.InvokeVirtual (of_stream (codes "println") (codes "(Ljava/lang/String;)V")) ∷ op.Load
    kind.Ref 3 ∷ op.Throw ∷ op.Return None ∷ []) (handler 0 13 17 (Some (codes "java/lang/ArithmeticException")) ∷
    handler 0 13 23 None ∷ handler 17 24 23 None ∷ handler 0 29 33 (Some (codes "java/lang/NullPointerException")) ∷
    handler 0 29 43 None ∷ handler 33 44 43 None ∷ []) ∷ with_code 0x0008 (codes "f") (int ∷ []) (Some boolean) (op.Load
    kind.Int 0 ∷ op.InvokeStatic (of_class (codes "t/T") (codes "g") (codes "(I)V")) ∷ op.Goto 15 ∷ op.Store kind.Ref 1
    ∷ op.GetStatic system_out ∷ op.Load kind.Ref 1 ∷ op.InvokeVirtual (of_class (codes "java/lang/RuntimeException")
    (codes "getMessage") (codes "()Ljava/lang/String;")) ∷ op.InvokeVirtual (of_stream (codes "println") (codes
    "(Ljava/lang/String;)V")) ∷ op.Load kind.Ref 1 ∷ op.InvokeVirtual (of_class (codes "java/lang/RuntimeException")
    (codes "getCause") (codes "()Ljava/lang/Throwable;")) ∷ op.IfNull false 13 ∷ op.PushInt (pos 1) ∷ op.Goto 14 ∷
    op.PushInt (pos 0) ∷ op.Return (Some kind.Int) ∷ op.PushInt (pos 0) ∷ op.Return (Some kind.Int) ∷ []) (handler 0 2 3
    (Some (codes "java/lang/RuntimeException")) ∷ []) ∷ []) ∷ []

abbrev pub NestedAndThrownAgainRow : Type 0
NestedAndThrownAgainRow = ended_after nested_and_thrown_again_set (key (codes "t/T") (codes "f") (codes "(I)Z"))
    (arg.Int (pos 1) ∷ []) 49 ≡ ends (lines (codes "f1" ∷ codes "outer" ∷ codes "f2" ∷ codes "new" ∷ [])) (end.Returned
    (back.Int (pos 0)))

-- a handler that covers itself
abbrev pub handler_covers_itself_set : List Class
handler_covers_itself_set = plain_class 0x0021 (codes "t/T") object [] [] (with_code 0x0009 (codes "f") (int ∷ []) (Some
    int) (op.PushInt (pos 1) ∷ op.PushInt (pos 0) ∷ op.Arith arith.Div num.Int ∷ op.Return (Some kind.Int) ∷ op.Pop ∷
    op.Inc 0 (negsuc 0) ∷ op.Load kind.Int 0 ∷ op.IfZero cond.Le 10 ∷ op.PushNull ∷ op.Throw ∷ op.PushInt (pos 42) ∷
    op.Return (Some kind.Int) ∷ []) (handler 0 10 4 None ∷ []) ∷ []) ∷ []

abbrev pub HandlerCoversItselfRow : Type 0
HandlerCoversItselfRow = ended_after handler_covers_itself_set (key (codes "t/T") (codes "f") (codes "(I)I")) (arg.Int
    (pos 3) ∷ []) 26 ≡ ends [] (end.Returned (back.Int (pos 42)))

-- an exception in a handler is not caught by a later row of the same range
abbrev pub exception_in_a_handler_set : List Class
exception_in_a_handler_set = plain_class 0x0021 (codes "t/T") object [] [] (with_code 0x0009 (codes "f") [] (Some int)
    (op.PushNull ∷ op.Throw ∷ op.Pop ∷ op.PushInt (pos 1) ∷ op.PushInt (pos 0) ∷ op.Arith arith.Rem num.Int ∷ op.Return
    (Some kind.Int) ∷ op.Pop ∷ op.PushInt (pos 3) ∷ op.Return (Some kind.Int) ∷ []) (handler 0 2 2 (Some (codes
    "java/lang/NullPointerException")) ∷ handler 0 2 7 None ∷ []) ∷ []) ∷ []

abbrev pub ExceptionInAHandlerRow : Type 0
ExceptionInAHandlerRow = ended_after exception_in_a_handler_set (key (codes "t/T") (codes "f") (codes "()I")) [] 11 ≡
    ends [] (end.Threw (codes "java/lang/ArithmeticException") 2)

-- athrow of what was caught gives the same object
abbrev pub athrow_of_what_was_caught_set : List Class
athrow_of_what_was_caught_set = plain_class 0x0021 (codes "t/T") object [] [] (with_code 0x0009 (codes "f") [] (Some
    int) (op.PushNull ∷ op.Store kind.Ref 0 ∷ op.PushInt (pos 1) ∷ op.PushInt (pos 0) ∷ op.Arith arith.Div num.Int ∷
    op.Return (Some kind.Int) ∷ op.Store kind.Ref 0 ∷ op.Load kind.Ref 0 ∷ op.Throw ∷ op.Load kind.Ref 0 ∷ op.IfRef true
    13 ∷ op.PushInt (pos 0) ∷ op.Return (Some kind.Int) ∷ op.PushInt (pos 1) ∷ op.Return (Some kind.Int) ∷ []) (handler
    2 6 6 None ∷ handler 7 9 9 None ∷ []) ∷ []) ∷ []

abbrev pub AthrowOfWhatWasCaughtRow : Type 0
AthrowOfWhatWasCaughtRow = ended_after athrow_of_what_was_caught_set (key (codes "t/T") (codes "f") (codes "()I")) [] 16
    ≡ ends [] (end.Returned (back.Int (pos 1)))

-- a division by zero at index 2, under a handler that returns 9
abbrev pub divides_under : ℕ → ℕ → List Class
divides_under from to = plain_class 0x0021 (codes "t/T") object [] [] (with_code 0x0009 (codes "f") [] (Some int)
    (op.PushInt (pos 1) ∷ op.PushInt (pos 0) ∷ op.Arith arith.Div num.Int ∷ op.Return (Some kind.Int) ∷ op.Pop
    ∷ op.PushInt (pos 9) ∷ op.Return (Some kind.Int) ∷ []) (handler from to 4 None ∷ []) ∷ []) ∷ []

-- a handler that ends there doesn't cover it
abbrev pub HandlerEndsThereRow : Type 0
HandlerEndsThereRow = ended_after (divides_under 0 2) (key (codes "t/T") (codes "f") (codes "()I")) [] 7
    ≡ ends [] (end.Threw (codes "java/lang/ArithmeticException") 1)

-- one that begins there does
abbrev pub HandlerBeginsThereRow : Type 0
HandlerBeginsThereRow = ended_after (divides_under 2 3) (key (codes "t/T") (codes "f") (codes "()I")) [] 9
    ≡ ends [] (end.Returned (back.Int (pos 9)))

-- the rows
abbrev pub HandlersRows : Type 0
HandlersRows = NestedAndThrownAgainRow × HandlerCoversItselfRow × ExceptionInAHandlerRow × AthrowOfWhatWasCaughtRow
    × HandlerEndsThereRow × HandlerBeginsThereRow
