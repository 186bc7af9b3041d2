-- Rows of runs: null receivers (the project's own: what HotSpot does).
use Rattle.std.specs.Prelude.{◌≡◌, pos, List, [], ◌∷◌, None, codes}
use Rattle.class_model.specs.declared.class.Class.{Class}
use Rattle.class_model.specs.declared.op.Op.TheVariants as op
use Rattle.class_pool.specs.rows.LinkRows.{object, plain_class}
use Rattle.class_run.specs.Ended.{ended_after}
use Rattle.class_run.specs.Examples.{key}
use Rattle.class_run.specs.declared.ended.End.TheVariants as end
use Rattle.link_check.specs.rows.ProfileRows.{class_type, of_class, of_interface, typed_field}
use Rattle.run_rows.specs.Rows.{ends, long, plain_constructor, with_code, without_code}
use Rattle.set_view.specs.Examples.{int}

-- putfield
abbrev pub putfield_set : List Class
putfield_set = plain_class 0x0021 (codes "t/N") object [] (typed_field 0x0001 (codes "x") int ∷ typed_field 0x0001
    (codes "l") long ∷ []) (plain_constructor 0x0001 object ∷ with_code 0x0001 (codes "m") [] None (op.Return None ∷ [])
    [] ∷ with_code 0x0011 (codes "n") [] None (op.Return None ∷ []) [] ∷ []) ∷ plain_class 0x0021 (codes "t/T") object
    [] [] (with_code 0x0009 (codes "f") [] None (op.PushNull ∷ op.CheckCast (class_type (codes "t/N")) ∷ op.PushInt (pos
    1) ∷ op.PutField (of_class (codes "t/N") (codes "x") (codes "I")) ∷ op.Return None ∷ []) [] ∷ []) ∷ []

abbrev pub PutfieldRow : Type 0
PutfieldRow = ended_after putfield_set (key (codes "t/T") (codes "f") (codes "()V")) [] 8 ≡ ends [] (end.Threw (codes
    "java/lang/NullPointerException") 1)

-- getfield of a long
abbrev pub getfield_long_set : List Class
getfield_long_set = plain_class 0x0021 (codes "t/N") object [] (typed_field 0x0001 (codes "x") int ∷ typed_field 0x0001
    (codes "l") long ∷ []) (plain_constructor 0x0001 object ∷ with_code 0x0001 (codes "m") [] None (op.Return None ∷ [])
    [] ∷ with_code 0x0011 (codes "n") [] None (op.Return None ∷ []) [] ∷ []) ∷ plain_class 0x0021 (codes "t/T") object
    [] [] (with_code 0x0009 (codes "f") [] None (op.PushNull ∷ op.GetField (of_class (codes "t/N") (codes "l") (codes
    "J")) ∷ op.Pop2 ∷ op.Return None ∷ []) [] ∷ []) ∷ []

abbrev pub GetfieldLongRow : Type 0
GetfieldLongRow = ended_after getfield_long_set (key (codes "t/T") (codes "f") (codes "()V")) [] 6 ≡ ends [] (end.Threw
    (codes "java/lang/NullPointerException") 1)

-- invokevirtual
abbrev pub invokevirtual_set : List Class
invokevirtual_set = plain_class 0x0021 (codes "t/N") object [] (typed_field 0x0001 (codes "x") int ∷ typed_field 0x0001
    (codes "l") long ∷ []) (plain_constructor 0x0001 object ∷ with_code 0x0001 (codes "m") [] None (op.Return None ∷ [])
    [] ∷ with_code 0x0011 (codes "n") [] None (op.Return None ∷ []) [] ∷ []) ∷ plain_class 0x0021 (codes "t/T") object
    [] [] (with_code 0x0009 (codes "f") [] None (op.PushNull ∷ op.InvokeVirtual (of_class (codes "t/N") (codes "m")
    (codes "()V")) ∷ op.Return None ∷ []) [] ∷ []) ∷ []

abbrev pub InvokevirtualRow : Type 0
InvokevirtualRow = ended_after invokevirtual_set (key (codes "t/T") (codes "f") (codes "()V")) [] 6 ≡ ends [] (end.Threw
    (codes "java/lang/NullPointerException") 1)

-- invokevirtual of a library method
abbrev pub invokevirtual_library_method_set : List Class
invokevirtual_library_method_set = plain_class 0x0021 (codes "t/T") object [] [] (with_code 0x0009 (codes "f") [] None
    (op.PushNull ∷ op.PushNull ∷ op.InvokeVirtual (of_class object (codes "equals") (codes "(Ljava/lang/Object;)Z")) ∷
    op.Pop ∷ op.Return None ∷ []) [] ∷ []) ∷ []

abbrev pub InvokevirtualLibraryMethodRow : Type 0
InvokevirtualLibraryMethodRow = ended_after invokevirtual_library_method_set (key (codes "t/T") (codes "f") (codes
    "()V")) [] 7 ≡ ends [] (end.Threw (codes "java/lang/NullPointerException") 1)

-- invokeinterface
abbrev pub invokeinterface_set : List Class
invokeinterface_set = plain_class 0x0601 (codes "t/I") object [] [] (without_code 0x0401 (codes "i") [] None ∷ []) ∷
    plain_class 0x0021 (codes "t/T") object [] [] (with_code 0x0009 (codes "f") [] None (op.PushNull ∷
    op.InvokeInterface (of_interface (codes "t/I") (codes "i") (codes "()V")) ∷ op.Return None ∷ []) [] ∷ []) ∷ []

abbrev pub InvokeinterfaceRow : Type 0
InvokeinterfaceRow = ended_after invokeinterface_set (key (codes "t/T") (codes "f") (codes "()V")) [] 6 ≡ ends []
    (end.Threw (codes "java/lang/NullPointerException") 1)

-- Runnable.run
abbrev pub runnable_run_set : List Class
runnable_run_set = plain_class 0x0021 (codes "t/T") object [] [] (with_code 0x0009 (codes "f") [] None (op.PushNull ∷
    op.InvokeInterface (of_interface (codes "java/lang/Runnable") (codes "run") (codes "()V")) ∷ op.Return None ∷ [])
    [] ∷ []) ∷ []

abbrev pub RunnableRunRow : Type 0
RunnableRunRow = ended_after runnable_run_set (key (codes "t/T") (codes "f") (codes "()V")) [] 6 ≡ ends [] (end.Threw
    (codes "java/lang/NullPointerException") 1)

-- invokespecial of a private method
abbrev pub invokespecial_private_method_set : List Class
invokespecial_private_method_set = plain_class 0x0021 (codes "t/T") object [] [] (with_code 0x0002 (codes "p") [] None
    (op.Return None ∷ []) [] ∷ with_code 0x0009 (codes "f") [] None (op.PushNull ∷ op.InvokeSpecial (of_class (codes
    "t/T") (codes "p") (codes "()V")) ∷ op.Return None ∷ []) [] ∷ []) ∷ []

abbrev pub InvokespecialPrivateMethodRow : Type 0
InvokespecialPrivateMethodRow = ended_after invokespecial_private_method_set (key (codes "t/T") (codes "f") (codes
    "()V")) [] 6 ≡ ends [] (end.Threw (codes "java/lang/NullPointerException") 1)

-- the rows
abbrev pub NullReceiversRows : Type 0
NullReceiversRows = PutfieldRow × GetfieldLongRow × InvokevirtualRow × InvokevirtualLibraryMethodRow ×
    InvokeinterfaceRow × RunnableRunRow × InvokespecialPrivateMethodRow
