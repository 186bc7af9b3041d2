-- Rows of runs: arrays (the project's own: what HotSpot does).
use Rattle.std.specs.Prelude.{◌≡◌, pos, negsuc, List, [], ◌∷◌, Some, None, codes}
use Rattle.class_model.specs.declared.class.Class.{Class}
use Rattle.class_model.specs.declared.op.Cond.TheVariants as cond
use Rattle.class_model.specs.declared.op.Elem.TheVariants as elem
use Rattle.class_model.specs.declared.op.Kind.TheVariants as kind
use Rattle.class_model.specs.declared.op.Op.TheVariants as op
use Rattle.class_pool.specs.rows.LinkRows.{object, plain_class}
use Rattle.class_run.specs.Ended.{ended_after}
use Rattle.class_run.specs.Examples.{key}
use Rattle.class_run.specs.declared.ended.Arg.TheVariants as arg
use Rattle.class_run.specs.declared.ended.Back.TheVariants as back
use Rattle.class_run.specs.declared.ended.End.TheVariants as end
use Rattle.jv_base.specs.declared.types.Base.TheVariants as base
use Rattle.link_check.specs.rows.ProfileRows.{class_type, init, of_class, system_out}
use Rattle.run_rows.specs.Rows.{arrays, ends, handler, lines, object_init, of_stream, plain_constructor, string_type}
use Rattle.run_rows.specs.Rows.{with_code}
use Rattle.set_view.specs.Examples.{int}

-- a store narrows: short ldc 98304
abbrev pub store_narrows_to_short_set : List Class
store_narrows_to_short_set = plain_class 0x0021 (codes "t/T") object [] [] (with_code 0x0009 (codes "f") [] (Some int)
    (op.PushInt (pos 1) ∷ op.NewArray base.Short ∷ op.Dup ∷ op.PushInt (pos 0) ∷ op.PushInt (pos 98304) ∷ op.AStore
    elem.Short ∷ op.PushInt (pos 0) ∷ op.ALoad elem.Short ∷ op.Return (Some kind.Int) ∷ []) [] ∷ []) ∷ []

abbrev pub StoreNarrowsToShortRow : Type 0
StoreNarrowsToShortRow = ended_after store_narrows_to_short_set (key (codes "t/T") (codes "f") (codes "()I")) [] 11 ≡
    ends [] (end.Returned (back.Int (negsuc 32767)))

-- a load of boolean from null, then at -1
abbrev pub boolean_load_from_null_set : List Class
boolean_load_from_null_set = plain_class 0x0021 (codes "t/T") object [] [] (with_code 0x0009 (codes "f") [] None
    (op.PushInt (pos 0) ∷ op.Store kind.Int 0 ∷ op.PushNull ∷ op.PushInt (negsuc 0) ∷ op.ALoad elem.Byte ∷ op.Pop ∷
    op.Return None ∷ op.InstanceOf (class_type (codes "java/lang/ArrayIndexOutOfBoundsException")) ∷ op.Store kind.Int 0
    ∷ op.GetStatic system_out ∷ op.Load kind.Int 0 ∷ op.InvokeVirtual (of_stream (codes "println") (codes "(I)V")) ∷
    op.PushInt (pos 2) ∷ op.NewArray base.Boolean ∷ op.PushInt (negsuc 0) ∷ op.ALoad elem.Byte ∷ op.Pop ∷ op.Return None
    ∷ []) (handler 2 7 7 (Some (codes "java/lang/RuntimeException")) ∷ []) ∷ []) ∷ []

abbrev pub BooleanLoadFromNullRow : Type 0
BooleanLoadFromNullRow = ended_after boolean_load_from_null_set (key (codes "t/T") (codes "f") (codes "()V")) [] 19 ≡
    ends (lines (codes "0" ∷ [])) (end.Threw (codes "java/lang/ArrayIndexOutOfBoundsException") 3)

-- a store of long at the length, then into null at -1
abbrev pub long_store_at_the_length_set : List Class
long_store_at_the_length_set = plain_class 0x0021 (codes "t/T") object [] [] (with_code 0x0009 (codes "f") [] None
    (op.PushInt (pos 0) ∷ op.Store kind.Int 0 ∷ op.PushInt (pos 2) ∷ op.NewArray base.Long ∷ op.PushInt (pos 2) ∷
    op.PushLong (pos 1) ∷ op.AStore elem.Long ∷ op.Return None ∷ op.InstanceOf (class_type (codes
    "java/lang/ArrayIndexOutOfBoundsException")) ∷ op.Store kind.Int 0 ∷ op.GetStatic system_out ∷ op.Load kind.Int 0 ∷
    op.InvokeVirtual (of_stream (codes "println") (codes "(I)V")) ∷ op.PushNull ∷ op.PushInt (negsuc 0) ∷ op.PushLong
    (pos 1) ∷ op.AStore elem.Long ∷ op.Return None ∷ []) (handler 2 8 8 (Some (codes "java/lang/RuntimeException")) ∷
    []) ∷ []) ∷ []

abbrev pub LongStoreAtTheLengthRow : Type 0
LongStoreAtTheLengthRow = ended_after long_store_at_the_length_set (key (codes "t/T") (codes "f") (codes "()V")) [] 21 ≡
    ends (lines (codes "1" ∷ [])) (end.Threw (codes "java/lang/NullPointerException") 3)

-- a load of a reference from null
abbrev pub load_reference_from_null_set : List Class
load_reference_from_null_set = plain_class 0x0021 (codes "t/T") object [] [] (with_code 0x0009 (codes "f") [] (Some
    (class_type object)) (op.PushNull ∷ op.PushInt (pos 0) ∷ op.ALoad elem.Ref ∷ op.Return (Some kind.Ref) ∷ []) [] ∷
    []) ∷ []

abbrev pub LoadReferenceFromNullRow : Type 0
LoadReferenceFromNullRow = ended_after load_reference_from_null_set (key (codes "t/T") (codes "f") (codes
    "()Ljava/lang/Object;")) [] 7 ≡ ends [] (end.Threw (codes "java/lang/NullPointerException") 1)

-- a store of a reference into null
abbrev pub store_reference_into_null_set : List Class
store_reference_into_null_set = plain_class 0x0021 (codes "t/T") object [] [] (with_code 0x0009 (codes "f") [] None
    (op.PushNull ∷ op.PushInt (pos 0) ∷ op.PushText (codes "a") ∷ op.AStore elem.Ref ∷ op.Return None ∷ []) [] ∷ []) ∷
    []

abbrev pub StoreReferenceIntoNullRow : Type 0
StoreReferenceIntoNullRow = ended_after store_reference_into_null_set (key (codes "t/T") (codes "f") (codes "()V")) [] 8
    ≡ ends [] (end.Threw (codes "java/lang/NullPointerException") 1)

-- stores of references
abbrev pub stores_references_set : List Class
stores_references_set = plain_class 0x0020 (codes "t/Q") (codes "t/R") [] [] (plain_constructor 0x0000 (codes "t/R") ∷
    []) ∷ plain_class 0x0020 (codes "t/R") object ((codes "java/lang/Runnable") ∷ []) [] (plain_constructor 0x0000
    object ∷ with_code 0x0001 (codes "run") [] None (op.Return None ∷ []) [] ∷ []) ∷ plain_class 0x0021 (codes "t/T")
    object [] [] (plain_constructor 0x0001 object ∷ with_code 0x0008 (codes "all") [] None (op.PushInt (pos 0) ∷
    op.Store kind.Int 0 ∷ op.Load kind.Int 0 ∷ op.PushInt (pos 14) ∷ op.IfCmp cond.Ge 16 ∷ op.GetStatic system_out ∷
    op.Load kind.Int 0 ∷ op.InvokeStatic (of_class (codes "t/T") (codes "f") (codes "(I)I")) ∷ op.InvokeVirtual
    (of_stream (codes "println") (codes "(I)V")) ∷ op.Goto 14 ∷ op.Store kind.Ref 1 ∷ op.GetStatic system_out ∷
    op.PushText (codes "ArrayStoreException") ∷ op.InvokeVirtual (of_stream (codes "println") (codes
    "(Ljava/lang/String;)V")) ∷ op.Inc 0 (pos 1) ∷ op.Goto 2 ∷ op.Return None ∷ []) (handler 5 9 10 (Some (codes
    "java/lang/ArrayStoreException")) ∷ []) ∷ with_code 0x0008 (codes "f") (int ∷ []) (Some int) (op.PushInt (pos 2) ∷
    op.ANewArray string_type ∷ op.Store kind.Ref 1 ∷ op.PushInt (pos 1) ∷ op.ANewArray (class_type (codes
    "java/lang/Runnable")) ∷ op.Store kind.Ref 2 ∷ op.PushInt (pos 2) ∷ op.ANewArray (arrays 1 base.Int) ∷ op.Store
    kind.Ref 3 ∷ op.PushInt (pos 1) ∷ op.PushInt (pos 1) ∷ op.MultiNewArray (arrays 2 (base.Class object)) 2 ∷ op.Store
    kind.Ref 4 ∷ op.PushInt (pos 1) ∷ op.ANewArray (class_type (codes "t/R")) ∷ op.Store kind.Ref 5 ∷ op.Load kind.Int 0
    ∷ op.TableSwitch (pos 0) 109 (18 ∷ 24 ∷ 32 ∷ 40 ∷ 46 ∷ 54 ∷ 60 ∷ 67 ∷ 74 ∷ 81 ∷ 87 ∷ 95 ∷ 103 ∷ []) ∷ op.Load
    kind.Ref 1 ∷ op.PushInt (pos 0) ∷ op.PushText (codes "x") ∷ op.AStore elem.Ref ∷ op.PushInt (pos 0) ∷ op.Return
    (Some kind.Int) ∷ op.Load kind.Ref 1 ∷ op.PushInt (pos 0) ∷ op.New object ∷ op.Dup ∷ op.InvokeSpecial object_init ∷
    op.AStore elem.Ref ∷ op.PushInt (pos 1) ∷ op.Return (Some kind.Int) ∷ op.Load kind.Ref 1 ∷ op.PushInt (pos 2) ∷
    op.New object ∷ op.Dup ∷ op.InvokeSpecial object_init ∷ op.AStore elem.Ref ∷ op.PushInt (pos 2) ∷ op.Return (Some
    kind.Int) ∷ op.Load kind.Ref 1 ∷ op.PushInt (pos 1) ∷ op.PushNull ∷ op.AStore elem.Ref ∷ op.PushInt (pos 3) ∷
    op.Return (Some kind.Int) ∷ op.Load kind.Ref 2 ∷ op.PushInt (pos 0) ∷ op.New (codes "t/R") ∷ op.Dup ∷
    op.InvokeSpecial (of_class (codes "t/R") init (codes "()V")) ∷ op.AStore elem.Ref ∷ op.PushInt (pos 4) ∷ op.Return
    (Some kind.Int) ∷ op.Load kind.Ref 2 ∷ op.PushInt (pos 0) ∷ op.PushText (codes "s") ∷ op.AStore elem.Ref ∷
    op.PushInt (pos 5) ∷ op.Return (Some kind.Int) ∷ op.Load kind.Ref 3 ∷ op.PushInt (pos 0) ∷ op.PushInt (pos 0) ∷
    op.NewArray base.Int ∷ op.AStore elem.Ref ∷ op.PushInt (pos 6) ∷ op.Return (Some kind.Int) ∷ op.Load kind.Ref 3 ∷
    op.PushInt (pos 0) ∷ op.PushInt (pos 0) ∷ op.NewArray base.Long ∷ op.AStore elem.Ref ∷ op.PushInt (pos 7) ∷
    op.Return (Some kind.Int) ∷ op.Load kind.Ref 4 ∷ op.PushInt (pos 0) ∷ op.PushInt (pos 0) ∷ op.ANewArray string_type
    ∷ op.AStore elem.Ref ∷ op.PushInt (pos 8) ∷ op.Return (Some kind.Int) ∷ op.Load kind.Ref 4 ∷ op.PushInt (pos 0) ∷
    op.PushText (codes "s") ∷ op.AStore elem.Ref ∷ op.PushInt (pos 9) ∷ op.Return (Some kind.Int) ∷ op.Load kind.Ref 5 ∷
    op.PushInt (pos 0) ∷ op.New (codes "t/Q") ∷ op.Dup ∷ op.InvokeSpecial (of_class (codes "t/Q") init (codes "()V")) ∷
    op.AStore elem.Ref ∷ op.PushInt (pos 10) ∷ op.Return (Some kind.Int) ∷ op.Load kind.Ref 5 ∷ op.PushInt (pos 0) ∷
    op.New (codes "t/T") ∷ op.Dup ∷ op.InvokeSpecial (of_class (codes "t/T") init (codes "()V")) ∷ op.AStore elem.Ref ∷
    op.PushInt (pos 11) ∷ op.Return (Some kind.Int) ∷ op.Load kind.Ref 3 ∷ op.PushInt (pos 1) ∷ op.PushNull ∷ op.AStore
    elem.Ref ∷ op.PushInt (pos 12) ∷ op.Return (Some kind.Int) ∷ op.Load kind.Ref 4 ∷ op.PushInt (pos 0) ∷ op.Load
    kind.Ref 1 ∷ op.AStore elem.Ref ∷ op.PushInt (pos 13) ∷ op.Return (Some kind.Int) ∷ []) [] ∷ []) ∷ []

abbrev pub StoresReferencesRow : Type 0
StoresReferencesRow = ended_after stores_references_set (key (codes "t/T") (codes "all") (codes "()V")) [] 109 ≡ ends
    (lines (codes "0" ∷ codes "ArrayStoreException" ∷ [])) (end.Threw (codes "java/lang/ArrayIndexOutOfBoundsException")
    22)

-- no such sizes
abbrev pub no_such_sizes_set : List Class
no_such_sizes_set = plain_class 0x0021 (codes "t/T") object [] [] (plain_constructor 0x0001 object ∷ with_code 0x0008
    (codes "f") (int ∷ []) (Some int) (op.Load kind.Int 0 ∷ op.NewArray base.Int ∷ op.ArrayLength ∷ op.Return (Some
    kind.Int) ∷ []) [] ∷ with_code 0x0008 (codes "g") (int ∷ []) (Some int) (op.Load kind.Int 0 ∷ op.ANewArray
    (class_type (codes "t/T")) ∷ op.ArrayLength ∷ op.Return (Some kind.Int) ∷ []) [] ∷ with_code 0x0008 (codes "h") (int
    ∷ []) (Some int) (op.Load kind.Int 0 ∷ op.ANewArray (arrays 1 (base.Class (codes "java/lang/String"))) ∷
    op.ArrayLength ∷ op.Return (Some kind.Int) ∷ []) [] ∷ []) ∷ []

abbrev pub NoSuchSizesRow : Type 0
NoSuchSizesRow = ended_after no_such_sizes_set (key (codes "t/T") (codes "g") (codes "(I)I")) (arg.Int (negsuc 0) ∷ [])
    6 ≡ ends [] (end.Threw (codes "java/lang/NegativeArraySizeException") 1)

-- the length of null
abbrev pub length_null_set : List Class
length_null_set = plain_class 0x0021 (codes "t/T") object [] [] (with_code 0x0009 (codes "f") [] (Some int) (op.PushNull
    ∷ op.ArrayLength ∷ op.Return (Some kind.Int) ∷ []) [] ∷ []) ∷ []

abbrev pub LengthNullRow : Type 0
LengthNullRow = ended_after length_null_set (key (codes "t/T") (codes "f") (codes "()I")) [] 6 ≡ ends [] (end.Threw
    (codes "java/lang/NullPointerException") 1)

-- the rows
abbrev pub ArraysRows : Type 0
ArraysRows = StoreNarrowsToShortRow × BooleanLoadFromNullRow × LongStoreAtTheLengthRow × LoadReferenceFromNullRow ×
    StoreReferenceIntoNullRow × StoresReferencesRow × NoSuchSizesRow × LengthNullRow
