-- Rows of runs: strings (the project's own: what HotSpot does).
use Rattle.std.specs.Prelude.{◌≡◌, pos, negsuc, List, [], ◌∷◌, Some, None, false, codes}
use Rattle.class_model.specs.declared.class.Class.{Class}
use Rattle.class_model.specs.declared.class.Constant.TheVariants as constant
use Rattle.class_model.specs.declared.op.ArithOp.TheVariants as arith
use Rattle.class_model.specs.declared.op.Cond.TheVariants as cond
use Rattle.class_model.specs.declared.op.Elem.TheVariants as elem
use Rattle.class_model.specs.declared.op.Kind.TheVariants as kind
use Rattle.class_model.specs.declared.op.Num.TheVariants as num
use Rattle.class_model.specs.declared.op.Op.TheVariants as op
use Rattle.class_pool.specs.rows.LinkRows.{object, plain_class}
use Rattle.class_run.specs.Ended.{ended_after}
use Rattle.class_run.specs.Examples.{key}
use Rattle.class_run.specs.declared.ended.Arg.TheVariants as arg
use Rattle.class_run.specs.declared.ended.Back.TheVariants as back
use Rattle.class_run.specs.declared.ended.End.TheVariants as end
use Rattle.jv_base.specs.declared.types.Base.TheVariants as base
use Rattle.link_check.specs.rows.ProfileRows.{init, of_class, system_out, typed_field}
use Rattle.run_rows.specs.Rows.{boolean, char, constant_field, ends, handler, lines, long, of_builder, of_stream}
use Rattle.run_rows.specs.Rows.{of_string, plain_constructor, string_type, with_code}
use Rattle.set_view.specs.Examples.{int}

-- equal literals are one
abbrev pub equal_literals_one_set : List Class
equal_literals_one_set = plain_class 0x0021 (codes "t/T") object [] [] (plain_constructor 0x0001 object ∷ with_code
    0x0008 (codes "a") [] (Some string_type) (op.PushText (codes "lit") ∷ op.Return (Some kind.Ref) ∷ []) [] ∷ with_code
    0x0008 (codes "f") (string_type ∷ []) None (op.GetStatic system_out ∷ op.InvokeStatic (of_class (codes "t/T") (codes
    "a") (codes "()Ljava/lang/String;")) ∷ op.PushText (codes "lit") ∷ op.IfRef false 6 ∷ op.PushInt (pos 1) ∷ op.Goto 7
    ∷ op.PushInt (pos 0) ∷ op.InvokeVirtual (of_stream (codes "println") (codes "(Z)V")) ∷ op.GetStatic system_out ∷
    op.InvokeStatic (of_class (codes "t/U") (codes "b") (codes "()Ljava/lang/String;")) ∷ op.PushText (codes "lit") ∷
    op.IfRef false 14 ∷ op.PushInt (pos 1) ∷ op.Goto 15 ∷ op.PushInt (pos 0) ∷ op.InvokeVirtual (of_stream (codes
    "println") (codes "(Z)V")) ∷ op.GetStatic system_out ∷ op.PushInt (pos 1) ∷ op.InvokeVirtual (of_stream (codes
    "println") (codes "(Z)V")) ∷ op.GetStatic system_out ∷ op.Load kind.Ref 0 ∷ op.PushText (codes "lit") ∷ op.IfRef
    false 25 ∷ op.PushInt (pos 1) ∷ op.Goto 26 ∷ op.PushInt (pos 0) ∷ op.InvokeVirtual (of_stream (codes "println")
    (codes "(Z)V")) ∷ op.GetStatic system_out ∷ op.Load kind.Ref 0 ∷ op.PushText (codes "lit") ∷ op.InvokeVirtual
    (of_string (codes "equals") (codes "(Ljava/lang/Object;)Z")) ∷ op.InvokeVirtual (of_stream (codes "println") (codes
    "(Z)V")) ∷ op.GetStatic system_out ∷ op.PushInt (pos 1) ∷ op.InvokeVirtual (of_stream (codes "println") (codes
    "(Z)V")) ∷ op.PushText (codes "l") ∷ op.Store kind.Ref 1 ∷ op.GetStatic system_out ∷ op.New (codes
    "java/lang/StringBuilder") ∷ op.Dup ∷ op.InvokeSpecial (of_builder init (codes "()V")) ∷ op.Load kind.Ref 1 ∷
    op.InvokeVirtual (of_builder (codes "append") (codes "(Ljava/lang/String;)Ljava/lang/StringBuilder;")) ∷ op.PushText
    (codes "it") ∷ op.InvokeVirtual (of_builder (codes "append") (codes
    "(Ljava/lang/String;)Ljava/lang/StringBuilder;")) ∷ op.InvokeVirtual (of_builder (codes "toString") (codes
    "()Ljava/lang/String;")) ∷ op.PushText (codes "lit") ∷ op.IfRef false 50 ∷ op.PushInt (pos 1) ∷ op.Goto 51 ∷
    op.PushInt (pos 0) ∷ op.InvokeVirtual (of_stream (codes "println") (codes "(Z)V")) ∷ op.GetStatic system_out ∷
    op.New (codes "java/lang/StringBuilder") ∷ op.Dup ∷ op.InvokeSpecial (of_builder init (codes "()V")) ∷ op.Load
    kind.Ref 1 ∷ op.InvokeVirtual (of_builder (codes "append") (codes "(Ljava/lang/String;)Ljava/lang/StringBuilder;"))
    ∷ op.PushText (codes "it") ∷ op.InvokeVirtual (of_builder (codes "append") (codes
    "(Ljava/lang/String;)Ljava/lang/StringBuilder;")) ∷ op.InvokeVirtual (of_builder (codes "toString") (codes
    "()Ljava/lang/String;")) ∷ op.PushText (codes "lit") ∷ op.InvokeVirtual (of_string (codes "equals") (codes
    "(Ljava/lang/Object;)Z")) ∷ op.InvokeVirtual (of_stream (codes "println") (codes "(Z)V")) ∷ op.GetStatic system_out
    ∷ op.PushText (codes "lit") ∷ op.PushInt (pos 1) ∷ op.InvokeVirtual (of_string (codes "substring") (codes
    "(I)Ljava/lang/String;")) ∷ op.PushText (codes "it") ∷ op.IfRef false 72 ∷ op.PushInt (pos 1) ∷ op.Goto 73 ∷
    op.PushInt (pos 0) ∷ op.InvokeVirtual (of_stream (codes "println") (codes "(Z)V")) ∷ op.GetStatic system_out ∷
    op.New (codes "java/lang/StringBuilder") ∷ op.Dup ∷ op.PushText (codes "lit") ∷ op.InvokeSpecial (of_builder init
    (codes "(Ljava/lang/String;)V")) ∷ op.InvokeVirtual (of_builder (codes "toString") (codes "()Ljava/lang/String;")) ∷
    op.PushText (codes "lit") ∷ op.IfRef false 84 ∷ op.PushInt (pos 1) ∷ op.Goto 85 ∷ op.PushInt (pos 0) ∷
    op.InvokeVirtual (of_stream (codes "println") (codes "(Z)V")) ∷ op.GetStatic system_out ∷ op.Load kind.Ref 0 ∷
    op.InvokeVirtual (of_string (codes "toString") (codes "()Ljava/lang/String;")) ∷ op.Load kind.Ref 0 ∷ op.IfRef false
    93 ∷ op.PushInt (pos 1) ∷ op.Goto 94 ∷ op.PushInt (pos 0) ∷ op.InvokeVirtual (of_stream (codes "println") (codes
    "(Z)V")) ∷ op.GetStatic system_out ∷ op.PushText (codes "lit") ∷ op.InvokeVirtual (of_string (codes "toString")
    (codes "()Ljava/lang/String;")) ∷ op.PushText (codes "lit") ∷ op.IfRef false 102 ∷ op.PushInt (pos 1) ∷ op.Goto 103
    ∷ op.PushInt (pos 0) ∷ op.InvokeVirtual (of_stream (codes "println") (codes "(Z)V")) ∷ op.Return None ∷ []) [] ∷ [])
    ∷ plain_class 0x0020 (codes "t/U") object [] (constant_field 0x0018 (codes "C") string_type (constant.Text (codes
    "lit")) ∷ []) (plain_constructor 0x0000 object ∷ with_code 0x0008 (codes "b") [] (Some string_type) (op.PushText
    (codes "lit") ∷ op.Return (Some kind.Ref) ∷ []) [] ∷ []) ∷ []

abbrev pub EqualLiteralsOneRow : Type 0
EqualLiteralsOneRow = ended_after equal_literals_one_set (key (codes "t/T") (codes "f") (codes "(Ljava/lang/String;)V"))
    (arg.Text (codes "lit") ∷ []) 101 ≡ ends (lines (codes "true" ∷ codes "true" ∷ codes "true" ∷ codes "false" ∷ codes
    "true" ∷ codes "true" ∷ codes "false" ∷ codes "true" ∷ codes "false" ∷ codes "false" ∷ codes "true" ∷ codes "true" ∷
    [])) (end.Returned back.Nothing)

-- substring of one
abbrev pub substring_one_set : List Class
substring_one_set = plain_class 0x0021 (codes "t/T") object [] [] (plain_constructor 0x0001 object ∷ with_code 0x0008
    (codes "f") (string_type ∷ int ∷ []) (Some int) (op.Load kind.Ref 0 ∷ op.Load kind.Int 1 ∷ op.InvokeVirtual
    (of_string (codes "substring") (codes "(I)Ljava/lang/String;")) ∷ op.Store kind.Ref 2 ∷ op.GetStatic system_out ∷
    op.Load kind.Ref 2 ∷ op.InvokeVirtual (of_stream (codes "println") (codes "(Ljava/lang/String;)V")) ∷ op.Load
    kind.Ref 2 ∷ op.InvokeVirtual (of_string (codes "length") (codes "()I")) ∷ op.Return (Some kind.Int) ∷ []) [] ∷ [])
    ∷ []

abbrev pub SubstringOneRow : Type 0
SubstringOneRow = ended_after substring_one_set (key (codes "t/T") (codes "f") (codes "(Ljava/lang/String;I)I"))
    (arg.Text (codes "abcd") ∷ arg.Int (pos 0) ∷ []) 12 ≡ ends (lines (codes "abcd" ∷ [])) (end.Returned (back.Int (pos
    4)))

-- substring of two
abbrev pub substring_two_set : List Class
substring_two_set = plain_class 0x0021 (codes "t/T") object [] [] (plain_constructor 0x0001 object ∷ with_code 0x0008
    (codes "f") (string_type ∷ int ∷ int ∷ []) (Some int) (op.Load kind.Ref 0 ∷ op.Load kind.Int 1 ∷ op.Load kind.Int 2
    ∷ op.InvokeVirtual (of_string (codes "substring") (codes "(II)Ljava/lang/String;")) ∷ op.Store kind.Ref 3 ∷
    op.GetStatic system_out ∷ op.Load kind.Ref 3 ∷ op.InvokeVirtual (of_stream (codes "println") (codes
    "(Ljava/lang/String;)V")) ∷ op.Load kind.Ref 3 ∷ op.InvokeVirtual (of_string (codes "length") (codes "()I")) ∷
    op.Return (Some kind.Int) ∷ []) [] ∷ []) ∷ []

abbrev pub SubstringTwoRow : Type 0
SubstringTwoRow = ended_after substring_two_set (key (codes "t/T") (codes "f") (codes "(Ljava/lang/String;II)I"))
    (arg.Text (codes "abcd") ∷ arg.Int (pos 0) ∷ arg.Int (pos 4) ∷ []) 13 ≡ ends (lines (codes "abcd" ∷ []))
    (end.Returned (back.Int (pos 4)))

-- compareTo
abbrev pub compare_to_set : List Class
compare_to_set = plain_class 0x0021 (codes "t/T") object [] [] (plain_constructor 0x0001 object ∷ with_code 0x0008
    (codes "f") (string_type ∷ string_type ∷ []) (Some int) (op.Load kind.Ref 0 ∷ op.Load kind.Ref 1 ∷ op.InvokeVirtual
    (of_string (codes "compareTo") (codes "(Ljava/lang/String;)I")) ∷ op.Return (Some kind.Int) ∷ []) [] ∷ with_code
    0x0008 (codes "g") (string_type ∷ []) (Some int) (op.Load kind.Ref 0 ∷ op.PushNull ∷ op.InvokeVirtual (of_string
    (codes "compareTo") (codes "(Ljava/lang/String;)I")) ∷ op.Return (Some kind.Int) ∷ []) [] ∷ []) ∷ []

abbrev pub CompareToRow : Type 0
CompareToRow = ended_after compare_to_set (key (codes "t/T") (codes "f") (codes
    "(Ljava/lang/String;Ljava/lang/String;)I")) (arg.Text (codes "abc") ∷ arg.Text (codes "abd") ∷ []) 6 ≡ ends []
    (end.Returned (back.Int (negsuc 0)))

-- equals
abbrev pub equals_set : List Class
equals_set = plain_class 0x0021 (codes "t/T") object [] [] (plain_constructor 0x0001 object ∷ with_code 0x0008 (codes
    "f") (string_type ∷ string_type ∷ []) None (op.GetStatic system_out ∷ op.Load kind.Ref 0 ∷ op.Load kind.Ref 1 ∷
    op.InvokeVirtual (of_string (codes "equals") (codes "(Ljava/lang/Object;)Z")) ∷ op.InvokeVirtual (of_stream (codes
    "println") (codes "(Z)V")) ∷ op.GetStatic system_out ∷ op.Load kind.Ref 0 ∷ op.PushNull ∷ op.InvokeVirtual
    (of_string (codes "equals") (codes "(Ljava/lang/Object;)Z")) ∷ op.InvokeVirtual (of_stream (codes "println")
    (codes "(Z)V")) ∷ op.New (codes "java/lang/StringBuilder") ∷ op.Dup ∷ op.Load kind.Ref 0 ∷ op.InvokeSpecial
    (of_builder init (codes "(Ljava/lang/String;)V")) ∷ op.Store kind.Ref 2 ∷ op.GetStatic system_out ∷ op.Load
    kind.Ref 0 ∷ op.Load kind.Ref 2 ∷ op.InvokeVirtual (of_string (codes "equals") (codes "(Ljava/lang/Object;)Z")) ∷
    op.InvokeVirtual (of_stream (codes "println") (codes "(Z)V")) ∷ op.GetStatic system_out ∷ op.Load kind.Ref 2 ∷
    op.Load kind.Ref 2 ∷ op.InvokeVirtual (of_class object (codes "equals") (codes "(Ljava/lang/Object;)Z")) ∷
    op.InvokeVirtual (of_stream (codes "println") (codes "(Z)V")) ∷ op.Load kind.Ref 0 ∷ op.Store kind.Ref 3 ∷
    op.GetStatic system_out ∷ op.Load kind.Ref 3 ∷ op.Load kind.Ref 1 ∷ op.InvokeVirtual (of_class object (codes
    "equals") (codes "(Ljava/lang/Object;)Z")) ∷ op.InvokeVirtual (of_stream (codes "println") (codes "(Z)V")) ∷
    op.Return None ∷ []) [] ∷ []) ∷ []

abbrev pub EqualsRow : Type 0
EqualsRow = ended_after equals_set (key (codes "t/T") (codes "f") (codes "(Ljava/lang/String;Ljava/lang/String;)V"))
    (arg.Text (codes "x") ∷ arg.Text (codes "x") ∷ []) 35 ≡ ends (lines (codes "true" ∷ codes "false" ∷ codes "false"
    ∷ codes "true" ∷ codes "true" ∷ [])) (end.Returned back.Nothing)

-- valueOf
abbrev pub value_of_set : List Class
value_of_set = plain_class 0x0021 (codes "t/T") object [] [] (plain_constructor 0x0001 object ∷ with_code 0x0008 (codes
    "f") (int ∷ long ∷ char ∷ boolean ∷ []) None (op.GetStatic system_out ∷ op.Load kind.Int 0 ∷ op.InvokeStatic
    (of_string (codes "valueOf") (codes "(I)Ljava/lang/String;")) ∷ op.InvokeVirtual (of_stream (codes "println")
    (codes "(Ljava/lang/String;)V")) ∷ op.GetStatic system_out ∷ op.Load kind.Long 1 ∷ op.InvokeStatic (of_string
    (codes "valueOf") (codes "(J)Ljava/lang/String;")) ∷ op.InvokeVirtual (of_stream (codes "println") (codes
    "(Ljava/lang/String;)V")) ∷ op.GetStatic system_out ∷ op.Load kind.Int 3 ∷ op.InvokeStatic (of_string (codes
    "valueOf") (codes "(C)Ljava/lang/String;")) ∷ op.InvokeVirtual (of_stream (codes "println") (codes
    "(Ljava/lang/String;)V")) ∷ op.GetStatic system_out ∷ op.Load kind.Int 4 ∷ op.InvokeStatic (of_string (codes
    "valueOf") (codes "(Z)Ljava/lang/String;")) ∷ op.InvokeVirtual (of_stream (codes "println") (codes
    "(Ljava/lang/String;)V")) ∷ op.GetStatic system_out ∷ op.Load kind.Int 0 ∷ op.InvokeStatic (of_string (codes
    "valueOf") (codes "(I)Ljava/lang/String;")) ∷ op.Load kind.Int 0 ∷ op.InvokeStatic (of_string (codes "valueOf")
    (codes "(I)Ljava/lang/String;")) ∷ op.IfRef false 24 ∷ op.PushInt (pos 1) ∷ op.Goto 25 ∷ op.PushInt (pos 0) ∷
    op.InvokeVirtual (of_stream (codes "println") (codes "(Z)V")) ∷ op.GetStatic system_out ∷ op.Load kind.Int 0 ∷
    op.InvokeStatic (of_string (codes "valueOf") (codes "(I)Ljava/lang/String;")) ∷ op.InvokeVirtual (of_string (codes
    "length") (codes "()I")) ∷ op.Load kind.Long 1 ∷ op.InvokeStatic (of_string (codes "valueOf") (codes
    "(J)Ljava/lang/String;")) ∷ op.InvokeVirtual (of_string (codes "length") (codes "()I")) ∷ op.Arith arith.Add
    num.Int ∷ op.Load kind.Int 3 ∷ op.InvokeStatic (of_string (codes "valueOf") (codes "(C)Ljava/lang/String;")) ∷
    op.InvokeVirtual (of_string (codes "length") (codes "()I")) ∷ op.Arith arith.Add num.Int ∷ op.Load kind.Int 4 ∷
    op.InvokeStatic (of_string (codes "valueOf") (codes "(Z)Ljava/lang/String;")) ∷ op.InvokeVirtual (of_string (codes
    "length") (codes "()I")) ∷ op.Arith arith.Add num.Int ∷ op.InvokeVirtual (of_stream (codes "println") (codes
    "(I)V")) ∷ op.Return None ∷ []) [] ∷ []) ∷ []

abbrev pub ValueOfRow : Type 0
ValueOfRow = ended_after value_of_set (key (codes "t/T") (codes "f") (codes "(IJCZ)V")) (arg.Int (pos 0) ∷ arg.Long (pos
    0) ∷ arg.Int (pos 48) ∷ arg.Int (pos 0) ∷ []) 44 ≡ ends (lines (codes "0" ∷ codes "0" ∷ codes "0" ∷ codes "false" ∷
    codes "false" ∷ codes "8" ∷ [])) (end.Returned back.Nothing)

-- calls on null
abbrev pub calls_on_null_set : List Class
calls_on_null_set = plain_class 0x0021 (codes "t/T") object [] (typed_field 0x0008 (codes "s") string_type ∷ [])
    (plain_constructor 0x0001 object ∷ with_code 0x0008 (codes "f") (int ∷ []) (Some string_type) (op.Load kind.Int 0
    ∷ op.TableSwitch (pos 0) 77 (2 ∷ 12 ∷ 23 ∷ 34 ∷ 44 ∷ 54 ∷ 58 ∷ 63 ∷ 74 ∷ []) ∷ op.New (codes
    "java/lang/StringBuilder") ∷ op.Dup ∷ op.InvokeSpecial (of_builder init (codes "()V")) ∷ op.PushText [] ∷
    op.InvokeVirtual (of_builder (codes "append") (codes "(Ljava/lang/String;)Ljava/lang/StringBuilder;")) ∷
    op.GetStatic (of_class (codes "t/T") (codes "s") (codes "Ljava/lang/String;")) ∷ op.InvokeVirtual (of_string
    (codes "length") (codes "()I")) ∷ op.InvokeVirtual (of_builder (codes "append") (codes
    "(I)Ljava/lang/StringBuilder;")) ∷ op.InvokeVirtual (of_builder (codes "toString") (codes "()Ljava/lang/String;"))
    ∷ op.Return (Some kind.Ref) ∷ op.New (codes "java/lang/StringBuilder") ∷ op.Dup ∷ op.InvokeSpecial (of_builder
    init (codes "()V")) ∷ op.PushText [] ∷ op.InvokeVirtual (of_builder (codes "append") (codes
    "(Ljava/lang/String;)Ljava/lang/StringBuilder;")) ∷ op.GetStatic (of_class (codes "t/T") (codes "s") (codes
    "Ljava/lang/String;")) ∷ op.PushInt (pos 0) ∷ op.InvokeVirtual (of_string (codes "charAt") (codes "(I)C")) ∷
    op.InvokeVirtual (of_builder (codes "append") (codes "(C)Ljava/lang/StringBuilder;")) ∷ op.InvokeVirtual
    (of_builder (codes "toString") (codes "()Ljava/lang/String;")) ∷ op.Return (Some kind.Ref) ∷ op.New (codes
    "java/lang/StringBuilder") ∷ op.Dup ∷ op.InvokeSpecial (of_builder init (codes "()V")) ∷ op.PushText [] ∷
    op.InvokeVirtual (of_builder (codes "append") (codes "(Ljava/lang/String;)Ljava/lang/StringBuilder;")) ∷
    op.GetStatic (of_class (codes "t/T") (codes "s") (codes "Ljava/lang/String;")) ∷ op.GetStatic (of_class (codes
    "t/T") (codes "s") (codes "Ljava/lang/String;")) ∷ op.InvokeVirtual (of_string (codes "equals") (codes
    "(Ljava/lang/Object;)Z")) ∷ op.InvokeVirtual (of_builder (codes "append") (codes "(Z)Ljava/lang/StringBuilder;"))
    ∷ op.InvokeVirtual (of_builder (codes "toString") (codes "()Ljava/lang/String;")) ∷ op.Return (Some kind.Ref) ∷
    op.New (codes "java/lang/StringBuilder") ∷ op.Dup ∷ op.InvokeSpecial (of_builder init (codes "()V")) ∷ op.PushText
    [] ∷ op.InvokeVirtual (of_builder (codes "append") (codes "(Ljava/lang/String;)Ljava/lang/StringBuilder;")) ∷
    op.GetStatic (of_class (codes "t/T") (codes "s") (codes "Ljava/lang/String;")) ∷ op.InvokeVirtual (of_string
    (codes "hashCode") (codes "()I")) ∷ op.InvokeVirtual (of_builder (codes "append") (codes
    "(I)Ljava/lang/StringBuilder;")) ∷ op.InvokeVirtual (of_builder (codes "toString") (codes "()Ljava/lang/String;"))
    ∷ op.Return (Some kind.Ref) ∷ op.New (codes "java/lang/StringBuilder") ∷ op.Dup ∷ op.InvokeSpecial (of_builder
    init (codes "()V")) ∷ op.PushText [] ∷ op.InvokeVirtual (of_builder (codes "append") (codes
    "(Ljava/lang/String;)Ljava/lang/StringBuilder;")) ∷ op.GetStatic (of_class (codes "t/T") (codes "s") (codes
    "Ljava/lang/String;")) ∷ op.InvokeVirtual (of_string (codes "isEmpty") (codes "()Z")) ∷ op.InvokeVirtual
    (of_builder (codes "append") (codes "(Z)Ljava/lang/StringBuilder;")) ∷ op.InvokeVirtual (of_builder (codes
    "toString") (codes "()Ljava/lang/String;")) ∷ op.Return (Some kind.Ref) ∷ op.GetStatic (of_class (codes "t/T")
    (codes "s") (codes "Ljava/lang/String;")) ∷ op.PushInt (pos 0) ∷ op.InvokeVirtual (of_string (codes "substring")
    (codes "(I)Ljava/lang/String;")) ∷ op.Return (Some kind.Ref) ∷ op.GetStatic (of_class (codes "t/T") (codes "s")
    (codes "Ljava/lang/String;")) ∷ op.PushInt (pos 0) ∷ op.PushInt (pos 0) ∷ op.InvokeVirtual (of_string (codes
    "substring") (codes "(II)Ljava/lang/String;")) ∷ op.Return (Some kind.Ref) ∷ op.New (codes
    "java/lang/StringBuilder") ∷ op.Dup ∷ op.InvokeSpecial (of_builder init (codes "()V")) ∷ op.PushText [] ∷
    op.InvokeVirtual (of_builder (codes "append") (codes "(Ljava/lang/String;)Ljava/lang/StringBuilder;")) ∷
    op.GetStatic (of_class (codes "t/T") (codes "s") (codes "Ljava/lang/String;")) ∷ op.GetStatic (of_class (codes
    "t/T") (codes "s") (codes "Ljava/lang/String;")) ∷ op.InvokeVirtual (of_string (codes "compareTo") (codes
    "(Ljava/lang/String;)I")) ∷ op.InvokeVirtual (of_builder (codes "append") (codes "(I)Ljava/lang/StringBuilder;"))
    ∷ op.InvokeVirtual (of_builder (codes "toString") (codes "()Ljava/lang/String;")) ∷ op.Return (Some kind.Ref) ∷
    op.GetStatic (of_class (codes "t/T") (codes "s") (codes "Ljava/lang/String;")) ∷ op.InvokeVirtual (of_string
    (codes "toString") (codes "()Ljava/lang/String;")) ∷ op.Return (Some kind.Ref) ∷ op.GetStatic (of_class (codes
    "t/T") (codes "s") (codes "Ljava/lang/String;")) ∷ op.Return (Some kind.Ref) ∷ []) [] ∷ with_code 0x0008 (codes
    "all") [] None (op.PushInt (pos 0) ∷ op.Store kind.Int 0 ∷ op.Load kind.Int 0 ∷ op.PushInt (pos 10) ∷ op.IfCmp
    cond.Ge 23 ∷ op.GetStatic system_out ∷ op.Load kind.Int 0 ∷ op.InvokeStatic (of_class (codes "t/T") (codes "f")
    (codes "(I)Ljava/lang/String;")) ∷ op.InvokeVirtual (of_stream (codes "println") (codes "(Ljava/lang/String;)V"))
    ∷ op.Goto 21 ∷ op.Store kind.Ref 1 ∷ op.GetStatic system_out ∷ op.New (codes "java/lang/StringBuilder") ∷ op.Dup ∷
    op.InvokeSpecial (of_builder init (codes "()V")) ∷ op.PushText (codes "null ") ∷ op.InvokeVirtual (of_builder
    (codes "append") (codes "(Ljava/lang/String;)Ljava/lang/StringBuilder;")) ∷ op.Load kind.Int 0 ∷ op.InvokeVirtual
    (of_builder (codes "append") (codes "(I)Ljava/lang/StringBuilder;")) ∷ op.InvokeVirtual (of_builder (codes
    "toString") (codes "()Ljava/lang/String;")) ∷ op.InvokeVirtual (of_stream (codes "println") (codes
    "(Ljava/lang/String;)V")) ∷ op.Inc 0 (pos 1) ∷ op.Goto 2 ∷ op.Return None ∷ []) (handler 5 9 10 (Some (codes
    "java/lang/NullPointerException")) ∷ []) ∷ []) ∷ []

abbrev pub CallsOnNullRow : Type 0
CallsOnNullRow = ended_after calls_on_null_set (key (codes "t/T") (codes "f") (codes "(I)Ljava/lang/String;")) (arg.Int
    (pos 8) ∷ []) 8 ≡ ends [] (end.Threw (codes "java/lang/NullPointerException") 1)

-- the exceptions are caught by their superclasses
abbrev pub exceptions_caught_by_superclasses_set : List Class
exceptions_caught_by_superclasses_set = plain_class 0x0021 (codes "t/T") object [] [] (plain_constructor 0x0001 object ∷
    with_code 0x0008 (codes "f") (string_type ∷ []) None (op.Load kind.Ref 0 ∷ op.PushInt (pos 9) ∷ op.InvokeVirtual
    (of_string (codes "charAt") (codes "(I)C")) ∷ op.Pop ∷ op.Goto 9 ∷ op.Store kind.Ref 1 ∷ op.GetStatic system_out ∷
    op.PushText (codes "string") ∷ op.InvokeVirtual (of_stream (codes "println") (codes "(Ljava/lang/String;)V")) ∷
    op.Load kind.Ref 0 ∷ op.PushInt (pos 9) ∷ op.InvokeVirtual (of_string (codes "substring") (codes
    "(I)Ljava/lang/String;")) ∷ op.Pop ∷ op.Goto 18 ∷ op.Store kind.Ref 1 ∷ op.GetStatic system_out ∷ op.PushText (codes
    "index") ∷ op.InvokeVirtual (of_stream (codes "println") (codes "(Ljava/lang/String;)V")) ∷ op.Load kind.Ref 0 ∷
    op.PushInt (pos 2) ∷ op.PushInt (pos 1) ∷ op.InvokeVirtual (of_string (codes "substring") (codes
    "(II)Ljava/lang/String;")) ∷ op.Pop ∷ op.Goto 28 ∷ op.Store kind.Ref 1 ∷ op.GetStatic system_out ∷ op.PushText
    (codes "runtime") ∷ op.InvokeVirtual (of_stream (codes "println") (codes "(Ljava/lang/String;)V")) ∷ op.PushInt (pos
    0) ∷ op.NewArray base.Int ∷ op.Store kind.Ref 1 ∷ op.Load kind.Ref 1 ∷ op.PushInt (pos 0) ∷ op.Dup2 ∷ op.ALoad
    elem.Int ∷ op.PushInt (pos 1) ∷ op.Arith arith.Add num.Int ∷ op.AStore elem.Int ∷ op.Goto 48 ∷ op.Store kind.Ref 2 ∷
    op.GetStatic system_out ∷ op.PushText (codes "no") ∷ op.InvokeVirtual (of_stream (codes "println") (codes
    "(Ljava/lang/String;)V")) ∷ op.Goto 48 ∷ op.Store kind.Ref 2 ∷ op.GetStatic system_out ∷ op.PushText (codes "array")
    ∷ op.InvokeVirtual (of_stream (codes "println") (codes "(Ljava/lang/String;)V")) ∷ op.Return None ∷ []) (handler 0 4
    5 (Some (codes "java/lang/StringIndexOutOfBoundsException")) ∷ handler 9 13 14 (Some (codes
    "java/lang/IndexOutOfBoundsException")) ∷ handler 18 23 24 (Some (codes "java/lang/RuntimeException")) ∷ handler 31
    38 39 (Some (codes "java/lang/StringIndexOutOfBoundsException")) ∷ handler 31 38 44 (Some (codes
    "java/lang/IndexOutOfBoundsException")) ∷ []) ∷ []) ∷ []

abbrev pub ExceptionsCaughtBySuperclassesRow : Type 0
ExceptionsCaughtBySuperclassesRow = ended_after exceptions_caught_by_superclasses_set (key (codes "t/T") (codes "f")
    (codes "(Ljava/lang/String;)V")) (arg.Text (codes "abc") ∷ []) 40 ≡ ends (lines (codes "string" ∷ codes "index" ∷
    codes "runtime" ∷ codes "array" ∷ [])) (end.Returned back.Nothing)

-- the rows
abbrev pub StringsRows : Type 0
StringsRows = EqualLiteralsOneRow × SubstringOneRow × SubstringTwoRow × CompareToRow × EqualsRow × ValueOfRow ×
    CallsOnNullRow × ExceptionsCaughtBySuperclassesRow
