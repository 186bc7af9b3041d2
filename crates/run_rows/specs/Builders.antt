-- Rows of runs: builders (the project's own: what HotSpot does).
use Rattle.std.specs.Prelude.{◌≡◌, pos, negsuc, List, [], ◌∷◌, Some, None, false, codes}
use Rattle.class_model.specs.declared.class.Class.{Class}
use Rattle.class_model.specs.declared.op.ArithOp.TheVariants as arith
use Rattle.class_model.specs.declared.op.Cond.TheVariants as cond
use Rattle.class_model.specs.declared.op.Kind.TheVariants as kind
use Rattle.class_model.specs.declared.op.Num.TheVariants as num
use Rattle.class_model.specs.declared.op.Op.TheVariants as op
use Rattle.class_pool.specs.rows.LinkRows.{object, plain_class}
use Rattle.class_run.specs.Ended.{ended_after}
use Rattle.class_run.specs.Examples.{key}
use Rattle.class_run.specs.declared.ended.Arg.TheVariants as arg
use Rattle.class_run.specs.declared.ended.Back.TheVariants as back
use Rattle.class_run.specs.declared.ended.End.TheVariants as end
use Rattle.link_check.specs.rows.ProfileRows.{init, system_out}
use Rattle.run_rows.specs.Rows.{boolean, char, ends, lines, long, of_builder, of_stream, of_string, plain_constructor}
use Rattle.run_rows.specs.Rows.{string_type, with_code}
use Rattle.set_view.specs.Examples.{int}

-- append of each kind
abbrev pub append_each_kind_set : List Class
append_each_kind_set = plain_class 0x0021 (codes "t/T") object [] [] (plain_constructor 0x0001 object ∷ with_code 0x0008
    (codes "f") (int ∷ long ∷ char ∷ boolean ∷ string_type ∷ []) None (op.New (codes "java/lang/StringBuilder") ∷ op.Dup
    ∷ op.InvokeSpecial (of_builder init (codes "()V")) ∷ op.Store kind.Ref 6 ∷ op.Load kind.Ref 6 ∷ op.Load kind.Int 0 ∷
    op.InvokeVirtual (of_builder (codes "append") (codes "(I)Ljava/lang/StringBuilder;")) ∷ op.Load kind.Long 1 ∷
    op.InvokeVirtual (of_builder (codes "append") (codes "(J)Ljava/lang/StringBuilder;")) ∷ op.Load kind.Int 3 ∷
    op.InvokeVirtual (of_builder (codes "append") (codes "(C)Ljava/lang/StringBuilder;")) ∷ op.Load kind.Int 4 ∷
    op.InvokeVirtual (of_builder (codes "append") (codes "(Z)Ljava/lang/StringBuilder;")) ∷ op.Load kind.Ref 5 ∷
    op.InvokeVirtual (of_builder (codes "append") (codes "(Ljava/lang/String;)Ljava/lang/StringBuilder;")) ∷ op.PushNull
    ∷ op.CheckCast string_type ∷ op.InvokeVirtual (of_builder (codes "append") (codes
    "(Ljava/lang/String;)Ljava/lang/StringBuilder;")) ∷ op.Pop ∷ op.GetStatic system_out ∷ op.Load kind.Ref 6 ∷
    op.InvokeVirtual (of_builder (codes "toString") (codes "()Ljava/lang/String;")) ∷ op.InvokeVirtual (of_stream (codes
    "println") (codes "(Ljava/lang/String;)V")) ∷ op.GetStatic system_out ∷ op.Load kind.Ref 6 ∷ op.InvokeVirtual
    (of_builder (codes "length") (codes "()I")) ∷ op.InvokeVirtual (of_stream (codes "println") (codes "(I)V")) ∷
    op.GetStatic system_out ∷ op.Load kind.Ref 6 ∷ op.PushText [] ∷ op.InvokeVirtual (of_builder (codes "append") (codes
    "(Ljava/lang/String;)Ljava/lang/StringBuilder;")) ∷ op.Load kind.Ref 6 ∷ op.IfRef false 35 ∷ op.PushInt (pos 1) ∷
    op.Goto 36 ∷ op.PushInt (pos 0) ∷ op.InvokeVirtual (of_stream (codes "println") (codes "(Z)V")) ∷ op.Return None ∷
    []) [] ∷ []) ∷ []

abbrev pub AppendEachKindRow : Type 0
AppendEachKindRow = ended_after append_each_kind_set (key (codes "t/T") (codes "f") (codes "(IJCZLjava/lang/String;)V"))
    (arg.Int (negsuc 2147483647) ∷ arg.Long (negsuc 9223372036854775807) ∷ arg.Int (pos 65) ∷ arg.Int (pos 1) ∷ arg.Text
    (codes "text") ∷ []) 39 ≡ ends (lines (codes "-2147483648-9223372036854775808Atruetextnull" ∷ codes "44" ∷ codes
    "true" ∷ [])) (end.Returned back.Nothing)

-- a text turned round
abbrev pub text_turned_round_set : List Class
text_turned_round_set = plain_class 0x0021 (codes "t/T") object [] [] (plain_constructor 0x0001 object ∷ with_code
    0x0008 (codes "f") (string_type ∷ []) (Some string_type) (op.New (codes "java/lang/StringBuilder") ∷ op.Dup ∷
    op.InvokeSpecial (of_builder init (codes "()V")) ∷ op.Store kind.Ref 1 ∷ op.Load kind.Ref 0 ∷ op.InvokeVirtual
    (of_string (codes "length") (codes "()I")) ∷ op.PushInt (pos 1) ∷ op.Arith arith.Sub num.Int ∷ op.Store kind.Int 2 ∷
    op.Load kind.Int 2 ∷ op.IfZero cond.Lt 19 ∷ op.Load kind.Ref 1 ∷ op.Load kind.Ref 0 ∷ op.Load kind.Int 2 ∷
    op.InvokeVirtual (of_string (codes "charAt") (codes "(I)C")) ∷ op.InvokeVirtual (of_builder (codes "append") (codes
    "(C)Ljava/lang/StringBuilder;")) ∷ op.Pop ∷ op.Inc 2 (negsuc 0) ∷ op.Goto 9 ∷ op.GetStatic system_out ∷ op.Load
    kind.Ref 1 ∷ op.InvokeVirtual (of_builder (codes "toString") (codes "()Ljava/lang/String;")) ∷ op.InvokeVirtual
    (of_stream (codes "println") (codes "(Ljava/lang/String;)V")) ∷ op.GetStatic system_out ∷ op.Load kind.Ref 1 ∷
    op.InvokeVirtual (of_builder (codes "toString") (codes "()Ljava/lang/String;")) ∷ op.Load kind.Ref 0 ∷
    op.InvokeVirtual (of_string (codes "equals") (codes "(Ljava/lang/Object;)Z")) ∷ op.InvokeVirtual (of_stream (codes
    "println") (codes "(Z)V")) ∷ op.Load kind.Ref 1 ∷ op.InvokeVirtual (of_builder (codes "toString") (codes
    "()Ljava/lang/String;")) ∷ op.Return (Some kind.Ref) ∷ []) [] ∷ []) ∷ []

abbrev pub TextTurnedRoundRow : Type 0
TextTurnedRoundRow = ended_after text_turned_round_set (key (codes "t/T") (codes "f") (codes
    "(Ljava/lang/String;)Ljava/lang/String;")) (arg.Text (55357 ∷ 56832 ∷ []) ∷ []) 46 ≡ ends (56832 ∷ 55357 ∷ 10 ∷ 102
    ∷ 97 ∷ 108 ∷ 115 ∷ 101 ∷ 10 ∷ []) (end.Returned (back.Ref 5))

-- the rows
abbrev pub BuildersRows : Type 0
BuildersRows = AppendEachKindRow × TextTurnedRoundRow
