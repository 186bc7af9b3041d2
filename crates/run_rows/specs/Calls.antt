-- Rows of runs: calls and selection (the project's own: what HotSpot does).
use Rattle.std.specs.Prelude.{◌≡◌, pos, List, [], ◌∷◌, Some, None, codes}
use Rattle.class_model.specs.declared.class.Class.{Class}
use Rattle.class_model.specs.declared.op.Cond.TheVariants as cond
use Rattle.class_model.specs.declared.op.Kind.TheVariants as kind
use Rattle.class_model.specs.declared.op.Op.TheVariants as op
use Rattle.class_pool.specs.rows.LinkRows.{object, plain_class}
use Rattle.class_run.specs.Ended.{ended_after}
use Rattle.class_run.specs.Examples.{key}
use Rattle.class_run.specs.declared.ended.Arg.TheVariants as arg
use Rattle.class_run.specs.declared.ended.Back.TheVariants as back
use Rattle.class_run.specs.declared.ended.End.TheVariants as end
use Rattle.jv_base.specs.declared.types.Base.TheVariants as base
use Rattle.link_check.specs.rows.ProfileRows.{class_type, init, of_class, of_interface, system_out, typed_field}
use Rattle.run_rows.specs.Rows.{boolean, ends, handler, lines, object_init, of_stream, plain_constructor, with_code}
use Rattle.run_rows.specs.Rows.{without_code}
use Rattle.set_view.specs.Examples.{int}

-- a constructor that throws
abbrev pub constructor_throws_set : List Class
constructor_throws_set = plain_class 0x0021 (codes "t/T") object [] (typed_field 0x0008 (codes "kept") (class_type
    (codes "t/T")) ∷ typed_field 0x0000 (codes "a") int ∷ []) (with_code 0x0000 init (int ∷ []) None (op.Load kind.Ref 0
    ∷ op.InvokeSpecial object_init ∷ op.Load kind.Ref 0 ∷ op.PushInt (pos 1) ∷ op.PutField (of_class (codes "t/T")
    (codes "a") (codes "I")) ∷ op.Load kind.Ref 0 ∷ op.PutStatic (of_class (codes "t/T") (codes "kept") (codes "Lt/T;"))
    ∷ op.Load kind.Int 1 ∷ op.IfZero cond.Ne 14 ∷ op.New (codes "java/lang/IllegalArgumentException") ∷ op.Dup ∷
    op.PushText (codes "no") ∷ op.InvokeSpecial (of_class (codes "java/lang/IllegalArgumentException") init (codes
    "(Ljava/lang/String;)V")) ∷ op.Throw ∷ op.Load kind.Ref 0 ∷ op.PushInt (pos 2) ∷ op.PutField (of_class (codes "t/T")
    (codes "a") (codes "I")) ∷ op.Return None ∷ []) [] ∷ with_code 0x0008 (codes "f") (int ∷ []) (Some int) (op.New
    (codes "t/T") ∷ op.Dup ∷ op.Load kind.Int 0 ∷ op.InvokeSpecial (of_class (codes "t/T") init (codes "(I)V")) ∷ op.Pop
    ∷ op.Goto 11 ∷ op.Store kind.Ref 1 ∷ op.GetStatic system_out ∷ op.Load kind.Ref 1 ∷ op.InvokeVirtual (of_class
    (codes "java/lang/IllegalArgumentException") (codes "getMessage") (codes "()Ljava/lang/String;")) ∷ op.InvokeVirtual
    (of_stream (codes "println") (codes "(Ljava/lang/String;)V")) ∷ op.GetStatic (of_class (codes "t/T") (codes "kept")
    (codes "Lt/T;")) ∷ op.GetField (of_class (codes "t/T") (codes "a") (codes "I")) ∷ op.Return (Some kind.Int) ∷ [])
    (handler 0 5 6 (Some (codes "java/lang/IllegalArgumentException")) ∷ []) ∷ []) ∷ []

abbrev pub ConstructorThrowsRow : Type 0
ConstructorThrowsRow = ended_after constructor_throws_set (key (codes "t/T") (codes "f") (codes "(I)I")) (arg.Int (pos
    0) ∷ []) 30 ≡ ends (lines (codes "no" ∷ [])) (end.Returned (back.Int (pos 1)))

-- super.equals
abbrev pub super_equals_set : List Class
super_equals_set = plain_class 0x0021 (codes "t/T") object [] [] (plain_constructor 0x0001 object ∷ with_code 0x0001
    (codes "equals") ((class_type object) ∷ []) (Some boolean) (op.GetStatic system_out ∷ op.PushText (codes "asked") ∷
    op.InvokeVirtual (of_stream (codes "println") (codes "(Ljava/lang/String;)V")) ∷ op.Load kind.Ref 0 ∷ op.Load
    kind.Ref 1 ∷ op.InvokeSpecial (of_class object (codes "equals") (codes "(Ljava/lang/Object;)Z")) ∷ op.Return (Some
    kind.Int) ∷ []) [] ∷ with_code 0x0008 (codes "f") [] None (op.New (codes "t/T") ∷ op.Dup ∷ op.InvokeSpecial
    (of_class (codes "t/T") init (codes "()V")) ∷ op.Store kind.Ref 0 ∷ op.GetStatic system_out ∷ op.Load kind.Ref 0 ∷
    op.Load kind.Ref 0 ∷ op.InvokeVirtual (of_class object (codes "equals") (codes "(Ljava/lang/Object;)Z")) ∷
    op.InvokeVirtual (of_stream (codes "println") (codes "(Z)V")) ∷ op.GetStatic system_out ∷ op.Load kind.Ref 0 ∷
    op.New (codes "t/T") ∷ op.Dup ∷ op.InvokeSpecial (of_class (codes "t/T") init (codes "()V")) ∷ op.InvokeVirtual
    (of_class object (codes "equals") (codes "(Ljava/lang/Object;)Z")) ∷ op.InvokeVirtual (of_stream (codes "println")
    (codes "(Z)V")) ∷ op.Return None ∷ []) [] ∷ []) ∷ []

abbrev pub SuperEqualsRow : Type 0
SuperEqualsRow = ended_after super_equals_set (key (codes "t/T") (codes "f") (codes "()V")) [] 39 ≡ ends (lines (codes
    "asked" ∷ codes "true" ∷ codes "asked" ∷ codes "false" ∷ [])) (end.Returned back.Nothing)

-- invokeinterface on an array
abbrev pub interface_on_array_set : List Class
interface_on_array_set = plain_class 0x0601 (codes "t/I") object [] [] (without_code 0x0401 (codes "m") [] (Some int) ∷
    []) ∷ plain_class 0x0021 (codes "t/T") object [] [] (with_code 0x0009 (codes "f") [] (Some int) (op.PushInt (pos 1)
    ∷ op.NewArray base.Int ∷ op.Store kind.Ref 0 ∷ op.Goto 4 ∷ op.Load kind.Ref 0 ∷ op.InvokeInterface (of_interface
    (codes "t/I") (codes "m") (codes "()I")) ∷ op.Return (Some kind.Int) ∷ []) [] ∷ []) ∷ []

abbrev pub InterfaceOnArrayRow : Type 0
InterfaceOnArrayRow = ended_after interface_on_array_set (key (codes "t/T") (codes "f") (codes "()I")) [] 10 ≡ ends []
    (end.Threw (codes "java/lang/IncompatibleClassChangeError") 2)

-- invokeinterface that selects a package-private method
abbrev pub interface_selects_package_private_set : List Class
interface_selects_package_private_set = plain_class 0x0601 (codes "t/I") object [] [] (without_code 0x0401 (codes "m")
    [] (Some int) ∷ []) ∷ plain_class 0x0021 (codes "t/T") object [] [] (with_code 0x0009 (codes "f") [] (Some int)
    (op.New (codes "t/X") ∷ op.Dup ∷ op.InvokeSpecial (of_class (codes "t/X") init (codes "()V")) ∷ op.InvokeInterface
    (of_interface (codes "t/I") (codes "m") (codes "()I")) ∷ op.Return (Some kind.Int) ∷ []) [] ∷ []) ∷ plain_class
    0x0021 (codes "t/X") object ((codes "t/I") ∷ []) [] (plain_constructor 0x0001 object ∷ with_code 0x0000 (codes "m")
    [] (Some int) (op.PushInt (pos 5) ∷ op.Return (Some kind.Int) ∷ []) [] ∷ []) ∷ []

abbrev pub InterfaceSelectsPackagePrivateRow : Type 0
InterfaceSelectsPackagePrivateRow = ended_after interface_selects_package_private_set (key (codes "t/T") (codes "f")
    (codes "()I")) [] 13 ≡ ends [] (end.Threw (codes "java/lang/IllegalAccessError") 2)

-- invokeinterface that selects none
abbrev pub interface_selects_none_set : List Class
interface_selects_none_set = plain_class 0x0601 (codes "t/I") object [] [] (without_code 0x0401 (codes "m") [] (Some
    int) ∷ []) ∷ plain_class 0x0021 (codes "t/T") object [] [] (with_code 0x0009 (codes "f") [] (Some int) (op.New
    (codes "t/X") ∷ op.Dup ∷ op.InvokeSpecial (of_class (codes "t/X") init (codes "()V")) ∷ op.InvokeInterface
    (of_interface (codes "t/I") (codes "m") (codes "()I")) ∷ op.Return (Some kind.Int) ∷ []) [] ∷ []) ∷ plain_class
    0x0021 (codes "t/X") object ((codes "t/I") ∷ []) [] (plain_constructor 0x0001 object ∷ []) ∷ []

abbrev pub InterfaceSelectsNoneRow : Type 0
InterfaceSelectsNoneRow = ended_after interface_selects_none_set (key (codes "t/T") (codes "f") (codes "()I")) [] 13 ≡
    ends [] (end.Threw (codes "java/lang/AbstractMethodError") 2)

-- invokevirtual that selects an abstract method
abbrev pub virtual_selects_abstract_set : List Class
virtual_selects_abstract_set = plain_class 0x0021 (codes "t/T") object [] [] (with_code 0x0009 (codes "f") [] (Some int)
    (op.New (codes "t/X") ∷ op.Dup ∷ op.InvokeSpecial (of_class (codes "t/X") init (codes "()V")) ∷ op.InvokeVirtual
    (of_class (codes "t/Y") (codes "m") (codes "()I")) ∷ op.Return (Some kind.Int) ∷ []) [] ∷ []) ∷ plain_class 0x0021
    (codes "t/X") (codes "t/Y") [] [] (plain_constructor 0x0001 (codes "t/Y") ∷ []) ∷ plain_class 0x0421 (codes "t/Y")
    object [] [] (plain_constructor 0x0001 object ∷ without_code 0x0401 (codes "m") [] (Some int) ∷ []) ∷ []

abbrev pub VirtualSelectsAbstractRow : Type 0
VirtualSelectsAbstractRow = ended_after virtual_selects_abstract_set (key (codes "t/T") (codes "f") (codes "()I")) [] 19
    ≡ ends [] (end.Threw (codes "java/lang/AbstractMethodError") 2)

-- invokeinterface passes over a static method
abbrev pub interface_passes_over_static_set : List Class
interface_passes_over_static_set = plain_class 0x0601 (codes "t/I") object [] [] (without_code 0x0401 (codes "m") []
    (Some int) ∷ []) ∷ plain_class 0x0021 (codes "t/T") object [] [] (with_code 0x0009 (codes "f") [] (Some int) (op.New
    (codes "t/X") ∷ op.Dup ∷ op.InvokeSpecial (of_class (codes "t/X") init (codes "()V")) ∷ op.InvokeInterface
    (of_interface (codes "t/I") (codes "m") (codes "()I")) ∷ op.Return (Some kind.Int) ∷ []) [] ∷ []) ∷ plain_class
    0x0021 (codes "t/X") (codes "t/Y") ((codes "t/I") ∷ []) [] (plain_constructor 0x0001 (codes "t/Y") ∷ with_code
    0x0009 (codes "m") [] (Some int) (op.PushInt (pos 1) ∷ op.Return (Some kind.Int) ∷ []) [] ∷ []) ∷ plain_class 0x0021
    (codes "t/Y") object [] [] (plain_constructor 0x0001 object ∷ with_code 0x0001 (codes "m") [] (Some int) (op.PushInt
    (pos 5) ∷ op.Return (Some kind.Int) ∷ []) [] ∷ []) ∷ []

abbrev pub InterfacePassesOverStaticRow : Type 0
InterfacePassesOverStaticRow = ended_after interface_passes_over_static_set (key (codes "t/T") (codes "f") (codes
    "()I")) [] 20 ≡ ends [] (end.Returned (back.Int (pos 5)))

-- invokeinterface of equals
abbrev pub interface_equals_set : List Class
interface_equals_set = plain_class 0x0601 (codes "t/I") object [] [] (without_code 0x0401 (codes "m") [] (Some int) ∷
    []) ∷ plain_class 0x0021 (codes "t/T") object [] [] (with_code 0x0009 (codes "f") [] (Some int) (op.New (codes
    "t/X") ∷ op.Dup ∷ op.InvokeSpecial (of_class (codes "t/X") init (codes "()V")) ∷ op.Dup ∷ op.InvokeInterface
    (of_interface (codes "t/I") (codes "equals") (codes "(Ljava/lang/Object;)Z")) ∷ op.Return (Some kind.Int) ∷ []) [] ∷
    []) ∷ plain_class 0x0021 (codes "t/X") object ((codes "t/I") ∷ []) [] (plain_constructor 0x0001 object ∷ with_code
    0x0001 (codes "m") [] (Some int) (op.PushInt (pos 5) ∷ op.Return (Some kind.Int) ∷ []) [] ∷ []) ∷ []

abbrev pub InterfaceEqualsRow : Type 0
InterfaceEqualsRow = ended_after interface_equals_set (key (codes "t/T") (codes "f") (codes "()I")) [] 13 ≡ ends []
    (end.Returned (back.Int (pos 1)))

-- the rows
abbrev pub CallsRows : Type 0
CallsRows = ConstructorThrowsRow × SuperEqualsRow × InterfaceOnArrayRow × InterfaceSelectsPackagePrivateRow ×
    InterfaceSelectsNoneRow × VirtualSelectsAbstractRow × InterfacePassesOverStaticRow × InterfaceEqualsRow
