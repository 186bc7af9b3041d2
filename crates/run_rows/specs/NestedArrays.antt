-- Rows of runs: arrays of arrays (the project's own: what HotSpot does).
use Rattle.std.specs.Prelude.{◌≡◌, pos, negsuc, List, [], ◌∷◌, Some, None, true, codes}
use Rattle.class_model.specs.declared.class.Class.{Class}
use Rattle.class_model.specs.declared.op.Elem.TheVariants as elem
use Rattle.class_model.specs.declared.op.Kind.TheVariants as kind
use Rattle.class_model.specs.declared.op.LogicOp.TheVariants as logic
use Rattle.class_model.specs.declared.op.Num.TheVariants as num
use Rattle.class_model.specs.declared.op.Op.TheVariants as op
use Rattle.class_pool.specs.rows.LinkRows.{object, plain_class}
use Rattle.class_run.specs.Ended.{ended_after}
use Rattle.class_run.specs.Examples.{key}
use Rattle.class_run.specs.declared.ended.Arg.TheVariants as arg
use Rattle.class_run.specs.declared.ended.Back.TheVariants as back
use Rattle.class_run.specs.declared.ended.End.TheVariants as end
use Rattle.jv_base.specs.declared.types.Base.TheVariants as base
use Rattle.link_check.specs.rows.ProfileRows.{of_class, system_out, typed_field}
use Rattle.run_rows.specs.Rows.{arrays, ends, lines, of_stream, plain_constructor, with_code}
use Rattle.set_view.specs.Examples.{int}

-- multianewarray of one dimension
abbrev pub multianewarray_one_dimension_set : List Class
multianewarray_one_dimension_set = plain_class 0x0021 (codes "t/T") object [] [] (with_code 0x0009 (codes "f") (int ∷
    []) (Some int) (op.Load kind.Int 0 ∷ op.MultiNewArray (arrays 2 base.Int) 1 ∷ op.Dup ∷ op.ArrayLength ∷ op.Swap ∷
    op.PushInt (pos 0) ∷ op.ALoad elem.Ref ∷ op.IfNull true 10 ∷ op.PushInt (negsuc 0) ∷ op.Return (Some kind.Int) ∷
    op.Return (Some kind.Int) ∷ []) [] ∷ []) ∷ []

abbrev pub MultianewarrayOneDimensionRow : Type 0
MultianewarrayOneDimensionRow = ended_after multianewarray_one_dimension_set (key (codes "t/T") (codes "f") (codes
    "(I)I")) (arg.Int (pos 2) ∷ []) 11 ≡ ends [] (end.Returned (back.Int (pos 2)))

-- multianewarray of one dimension
abbrev pub multianewarray_one_dimension_again_set : List Class
multianewarray_one_dimension_again_set = plain_class 0x0021 (codes "t/T") object [] [] (with_code 0x0009 (codes "f")
    (int ∷ []) (Some int) (op.Load kind.Int 0 ∷ op.MultiNewArray (arrays 2 base.Int) 1 ∷ op.Dup ∷ op.ArrayLength ∷
    op.Swap ∷ op.PushInt (pos 0) ∷ op.ALoad elem.Ref ∷ op.IfNull true 10 ∷ op.PushInt (negsuc 0) ∷ op.Return (Some
    kind.Int) ∷ op.Return (Some kind.Int) ∷ []) [] ∷ []) ∷ []

abbrev pub MultianewarrayOneDimensionAgainRow : Type 0
MultianewarrayOneDimensionAgainRow = ended_after multianewarray_one_dimension_again_set (key (codes "t/T") (codes "f")
    (codes "(I)I")) (arg.Int (negsuc 1) ∷ []) 6 ≡ ends [] (end.Threw (codes "java/lang/NegativeArraySizeException") 1)

-- initial values
abbrev pub initial_values_set : List Class
initial_values_set = plain_class 0x0021 (codes "t/T") object [] (typed_field 0x0008 (codes "G") (arrays 2 base.Int) ∷
    []) (plain_constructor 0x0001 object ∷ with_code 0x0008 (codes "f") [] None (op.GetStatic system_out ∷ op.GetStatic
    (of_class (codes "t/T") (codes "G") (codes "[[I")) ∷ op.PushInt (pos 1) ∷ op.ALoad elem.Ref ∷ op.PushInt (pos 1) ∷
    op.ALoad elem.Int ∷ op.InvokeVirtual (of_stream (codes "println") (codes "(I)V")) ∷ op.GetStatic system_out ∷
    op.GetStatic (of_class (codes "t/T") (codes "G") (codes "[[I")) ∷ op.PushInt (pos 2) ∷ op.ALoad elem.Ref ∷
    op.ArrayLength ∷ op.InvokeVirtual (of_stream (codes "println") (codes "(I)V")) ∷ op.PushInt (pos 2) ∷ op.NewArray
    base.Char ∷ op.Dup ∷ op.PushInt (pos 0) ∷ op.PushInt (pos 97) ∷ op.AStore elem.Char ∷ op.Dup ∷ op.PushInt (pos 1) ∷
    op.PushInt (pos 65535) ∷ op.AStore elem.Char ∷ op.Store kind.Ref 0 ∷ op.GetStatic system_out ∷ op.Load kind.Ref 0 ∷
    op.PushInt (pos 1) ∷ op.ALoad elem.Char ∷ op.InvokeVirtual (of_stream (codes "println") (codes "(I)V")) ∷ op.PushInt
    (pos 2) ∷ op.NewArray base.Boolean ∷ op.Dup ∷ op.PushInt (pos 0) ∷ op.PushInt (pos 1) ∷ op.AStore elem.Byte ∷ op.Dup
    ∷ op.PushInt (pos 1) ∷ op.PushInt (pos 0) ∷ op.AStore elem.Byte ∷ op.Store kind.Ref 1 ∷ op.GetStatic system_out ∷
    op.Load kind.Ref 1 ∷ op.PushInt (pos 0) ∷ op.ALoad elem.Byte ∷ op.Load kind.Ref 1 ∷ op.PushInt (pos 1) ∷ op.ALoad
    elem.Byte ∷ op.Logic logic.And num.Int ∷ op.InvokeVirtual (of_stream (codes "println") (codes "(Z)V")) ∷
    op.GetStatic system_out ∷ op.GetStatic (of_class (codes "t/T") (codes "G") (codes "[[I")) ∷ op.PushInt (pos 3) ∷
    op.ALoad elem.Ref ∷ op.PushInt (pos 0) ∷ op.ALoad elem.Int ∷ op.InvokeVirtual (of_stream (codes "println") (codes
    "(I)V")) ∷ op.Return None ∷ []) [] ∷ with_code 0x0008 (codes "<clinit>") [] None (op.PushInt (pos 3) ∷ op.ANewArray
    (arrays 1 base.Int) ∷ op.Dup ∷ op.PushInt (pos 0) ∷ op.PushInt (pos 1) ∷ op.NewArray base.Int ∷ op.Dup ∷ op.PushInt
    (pos 0) ∷ op.PushInt (pos 1) ∷ op.AStore elem.Int ∷ op.AStore elem.Ref ∷ op.Dup ∷ op.PushInt (pos 1) ∷ op.PushInt
    (pos 2) ∷ op.NewArray base.Int ∷ op.Dup ∷ op.PushInt (pos 0) ∷ op.PushInt (pos 2) ∷ op.AStore elem.Int ∷ op.Dup ∷
    op.PushInt (pos 1) ∷ op.PushInt (pos 3) ∷ op.AStore elem.Int ∷ op.AStore elem.Ref ∷ op.Dup ∷ op.PushInt (pos 2) ∷
    op.PushInt (pos 0) ∷ op.NewArray base.Int ∷ op.AStore elem.Ref ∷ op.PutStatic (of_class (codes "t/T") (codes "G")
    (codes "[[I")) ∷ op.Return None ∷ []) [] ∷ []) ∷ []

abbrev pub InitialValuesRow : Type 0
InitialValuesRow = ended_after initial_values_set (key (codes "t/T") (codes "f") (codes "()V")) [] 89 ≡ ends (lines
    (codes "3" ∷ codes "0" ∷ codes "65535" ∷ codes "false" ∷ [])) (end.Threw (codes
    "java/lang/ArrayIndexOutOfBoundsException") 7)

-- the rows
abbrev pub NestedArraysRows : Type 0
NestedArraysRows = MultianewarrayOneDimensionRow × MultianewarrayOneDimensionAgainRow × InitialValuesRow
