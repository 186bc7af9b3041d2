-- Rows of runs: stack (the project's own: what HotSpot does).
use Rattle.std.specs.Prelude.{◌≡◌, pos, List, [], ◌∷◌, None, codes}
use Rattle.class_model.specs.declared.class.Class.{Class}
use Rattle.class_model.specs.declared.op.ArithOp.TheVariants as arith
use Rattle.class_model.specs.declared.op.Elem.TheVariants as elem
use Rattle.class_model.specs.declared.op.Kind.TheVariants as kind
use Rattle.class_model.specs.declared.op.Num.TheVariants as num
use Rattle.class_model.specs.declared.op.Op.TheVariants as op
use Rattle.class_pool.specs.rows.LinkRows.{object, plain_class}
use Rattle.class_run.specs.Ended.{ended_after}
use Rattle.class_run.specs.Examples.{key}
use Rattle.class_run.specs.declared.ended.Back.TheVariants as back
use Rattle.class_run.specs.declared.ended.End.TheVariants as end
use Rattle.jv_base.specs.declared.types.Base.TheVariants as base
use Rattle.link_check.specs.rows.ProfileRows.{init, of_class, system_out, typed_field}
use Rattle.run_rows.specs.Rows.{ends, lines, long, of_stream, plain_constructor, with_code}
use Rattle.set_view.specs.Examples.{int}

-- pop2 of a long
abbrev pub pop2_long_set : List Class
pop2_long_set = plain_class 0x0021 (codes "t/T") object [] [] (with_code 0x0009 (codes "f") [] None (op.PushInt (pos 1)
    ∷ op.PushLong (pos 5) ∷ op.Pop2 ∷ op.Store kind.Int 10 ∷ op.GetStatic system_out ∷ op.Load kind.Int 10 ∷
    op.InvokeVirtual (of_stream (codes "println") (codes "(I)V")) ∷ op.Return None ∷ []) [] ∷ []) ∷ []

abbrev pub Pop2LongRow : Type 0
Pop2LongRow = ended_after pop2_long_set (key (codes "t/T") (codes "f") (codes "()V")) [] 10 ≡ ends (lines (codes "1" ∷
    [])) (end.Returned back.Nothing)

-- dup_x2 over a long
abbrev pub dup_x2_over_long_set : List Class
dup_x2_over_long_set = plain_class 0x0021 (codes "t/T") object [] [] (with_code 0x0009 (codes "f") [] None (op.PushLong
    (pos 7) ∷ op.PushInt (pos 3) ∷ op.DupX2 ∷ op.Store kind.Int 10 ∷ op.GetStatic system_out ∷ op.Load kind.Int 10 ∷
    op.InvokeVirtual (of_stream (codes "println") (codes "(I)V")) ∷ op.Store kind.Long 11 ∷ op.GetStatic system_out ∷
    op.Load kind.Long 11 ∷ op.InvokeVirtual (of_stream (codes "println") (codes "(J)V")) ∷ op.Store kind.Int 12 ∷
    op.GetStatic system_out ∷ op.Load kind.Int 12 ∷ op.InvokeVirtual (of_stream (codes "println") (codes "(I)V")) ∷
    op.Return None ∷ []) [] ∷ []) ∷ []

abbrev pub DupX2OverLongRow : Type 0
DupX2OverLongRow = ended_after dup_x2_over_long_set (key (codes "t/T") (codes "f") (codes "()V")) [] 18 ≡ ends (lines
    (codes "3" ∷ codes "7" ∷ codes "3" ∷ [])) (end.Returned back.Nothing)

-- dup2_x1 of a long
abbrev pub dup2_x1_long_set : List Class
dup2_x1_long_set = plain_class 0x0021 (codes "t/T") object [] [] (with_code 0x0009 (codes "f") [] None (op.PushInt (pos
    1) ∷ op.PushLong (pos 7) ∷ op.Dup2X1 ∷ op.Store kind.Long 10 ∷ op.GetStatic system_out ∷ op.Load kind.Long 10 ∷
    op.InvokeVirtual (of_stream (codes "println") (codes "(J)V")) ∷ op.Store kind.Int 11 ∷ op.GetStatic system_out ∷
    op.Load kind.Int 11 ∷ op.InvokeVirtual (of_stream (codes "println") (codes "(I)V")) ∷ op.Store kind.Long 12 ∷
    op.GetStatic system_out ∷ op.Load kind.Long 12 ∷ op.InvokeVirtual (of_stream (codes "println") (codes "(J)V")) ∷
    op.Return None ∷ []) [] ∷ []) ∷ []

abbrev pub Dup2X1LongRow : Type 0
Dup2X1LongRow = ended_after dup2_x1_long_set (key (codes "t/T") (codes "f") (codes "()V")) [] 18 ≡ ends (lines (codes
    "7" ∷ codes "1" ∷ codes "7" ∷ [])) (end.Returned back.Nothing)

-- increments as values
abbrev pub increments_as_values_set : List Class
increments_as_values_set = plain_class 0x0021 (codes "t/T") object [] (typed_field 0x0008 (codes "x") int ∷ typed_field
    0x0000 (codes "y") int ∷ typed_field 0x0008 (codes "z") long ∷ []) (plain_constructor 0x0001 object ∷ with_code
    0x0008 (codes "f") [] None (op.PushInt (pos 2) ∷ op.NewArray base.Int ∷ op.Dup ∷ op.PushInt (pos 0) ∷ op.PushInt
    (pos 1) ∷ op.AStore elem.Int ∷ op.Dup ∷ op.PushInt (pos 1) ∷ op.PushInt (pos 2) ∷ op.AStore elem.Int ∷ op.Store
    kind.Ref 0 ∷ op.PushInt (pos 1) ∷ op.NewArray base.Long ∷ op.Dup ∷ op.PushInt (pos 0) ∷ op.PushLong (pos 3) ∷
    op.AStore elem.Long ∷ op.Store kind.Ref 1 ∷ op.New (codes "t/T") ∷ op.Dup ∷ op.InvokeSpecial (of_class (codes "t/T")
    init (codes "()V")) ∷ op.Store kind.Ref 2 ∷ op.PushInt (pos 0) ∷ op.Store kind.Int 3 ∷ op.GetStatic system_out ∷
    op.Load kind.Ref 0 ∷ op.Load kind.Int 3 ∷ op.Inc 3 (pos 1) ∷ op.Dup2 ∷ op.ALoad elem.Int ∷ op.DupX2 ∷ op.PushInt
    (pos 1) ∷ op.Arith arith.Add num.Int ∷ op.AStore elem.Int ∷ op.InvokeVirtual (of_stream (codes "println") (codes
    "(I)V")) ∷ op.GetStatic system_out ∷ op.Load kind.Ref 0 ∷ op.Load kind.Int 3 ∷ op.Dup2 ∷ op.ALoad elem.Int ∷
    op.PushInt (pos 1) ∷ op.Arith arith.Add num.Int ∷ op.DupX2 ∷ op.AStore elem.Int ∷ op.InvokeVirtual (of_stream (codes
    "println") (codes "(I)V")) ∷ op.GetStatic system_out ∷ op.Load kind.Ref 1 ∷ op.PushInt (pos 0) ∷ op.Dup2 ∷ op.ALoad
    elem.Long ∷ op.Dup2X2 ∷ op.PushLong (pos 1) ∷ op.Arith arith.Sub num.Long ∷ op.AStore elem.Long ∷ op.InvokeVirtual
    (of_stream (codes "println") (codes "(J)V")) ∷ op.GetStatic system_out ∷ op.GetStatic (of_class (codes "t/T") (codes
    "x") (codes "I")) ∷ op.Dup ∷ op.PushInt (pos 1) ∷ op.Arith arith.Add num.Int ∷ op.PutStatic (of_class (codes "t/T")
    (codes "x") (codes "I")) ∷ op.GetStatic (of_class (codes "t/T") (codes "x") (codes "I")) ∷ op.PushInt (pos 1) ∷
    op.Arith arith.Add num.Int ∷ op.Dup ∷ op.PutStatic (of_class (codes "t/T") (codes "x") (codes "I")) ∷ op.Arith
    arith.Add num.Int ∷ op.InvokeVirtual (of_stream (codes "println") (codes "(I)V")) ∷ op.GetStatic system_out ∷
    op.Load kind.Ref 2 ∷ op.Dup ∷ op.GetField (of_class (codes "t/T") (codes "y") (codes "I")) ∷ op.DupX1 ∷ op.PushInt
    (pos 1) ∷ op.Arith arith.Sub num.Int ∷ op.PutField (of_class (codes "t/T") (codes "y") (codes "I")) ∷ op.Load
    kind.Ref 2 ∷ op.Dup ∷ op.GetField (of_class (codes "t/T") (codes "y") (codes "I")) ∷ op.PushInt (pos 1) ∷ op.Arith
    arith.Sub num.Int ∷ op.DupX1 ∷ op.PutField (of_class (codes "t/T") (codes "y") (codes "I")) ∷ op.Arith arith.Sub
    num.Int ∷ op.InvokeVirtual (of_stream (codes "println") (codes "(I)V")) ∷ op.GetStatic system_out ∷ op.GetStatic
    (of_class (codes "t/T") (codes "z") (codes "J")) ∷ op.Dup2 ∷ op.PushLong (pos 1) ∷ op.Arith arith.Add num.Long ∷
    op.PutStatic (of_class (codes "t/T") (codes "z") (codes "J")) ∷ op.InvokeVirtual (of_stream (codes "println") (codes
    "(J)V")) ∷ op.GetStatic system_out ∷ op.Load kind.Ref 0 ∷ op.PushInt (pos 0) ∷ op.Dup2 ∷ op.ALoad elem.Int ∷ op.Load
    kind.Ref 0 ∷ op.PushInt (pos 1) ∷ op.Dup2 ∷ op.ALoad elem.Int ∷ op.PushInt (pos 5) ∷ op.Arith arith.Add num.Int ∷
    op.DupX2 ∷ op.AStore elem.Int ∷ op.Arith arith.Add num.Int ∷ op.DupX2 ∷ op.AStore elem.Int ∷ op.InvokeVirtual
    (of_stream (codes "println") (codes "(I)V")) ∷ op.GetStatic system_out ∷ op.Load kind.Ref 1 ∷ op.PushInt (pos 0) ∷
    op.PushLong (pos 9) ∷ op.Dup2 ∷ op.PutStatic (of_class (codes "t/T") (codes "z") (codes "J")) ∷ op.Dup2X2 ∷
    op.AStore elem.Long ∷ op.InvokeVirtual (of_stream (codes "println") (codes "(J)V")) ∷ op.GetStatic system_out ∷
    op.Load kind.Ref 2 ∷ op.PushInt (pos 4) ∷ op.Dup ∷ op.Store kind.Int 3 ∷ op.DupX1 ∷ op.PutField (of_class (codes
    "t/T") (codes "y") (codes "I")) ∷ op.Dup ∷ op.PutStatic (of_class (codes "t/T") (codes "x") (codes "I")) ∷
    op.InvokeVirtual (of_stream (codes "println") (codes "(I)V")) ∷ op.Return None ∷ []) [] ∷ []) ∷ []

abbrev pub IncrementsAsValuesRow : Type 0
IncrementsAsValuesRow = ended_after increments_as_values_set (key (codes "t/T") (codes "f") (codes "()V")) [] 134 ≡ ends
    (lines (codes "1" ∷ codes "3" ∷ codes "3" ∷ codes "2" ∷ codes "2" ∷ codes "0" ∷ codes "10" ∷ codes "9" ∷ codes "4" ∷
    [])) (end.Returned back.Nothing)

-- the rows
abbrev pub StackRows : Type 0
StackRows = Pop2LongRow × DupX2OverLongRow × Dup2X1LongRow × IncrementsAsValuesRow
