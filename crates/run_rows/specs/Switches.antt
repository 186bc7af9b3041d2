-- Rows of runs: switches (the project's own: what HotSpot does).
use Rattle.std.specs.Prelude.{◌≡◌, pos, negsuc, List, [], ◌∷◌, Some, codes}
use Rattle.class_model.specs.declared.class.Class.{Class}
use Rattle.class_model.specs.declared.op.Cond.TheVariants as cond
use Rattle.class_model.specs.declared.op.Kind.TheVariants as kind
use Rattle.class_model.specs.declared.op.Op.TheVariants as op
use Rattle.class_pool.specs.rows.LinkRows.{object, plain_class}
use Rattle.class_run.specs.Ended.{ended_after}
use Rattle.class_run.specs.Examples.{key}
use Rattle.class_run.specs.declared.ended.Arg.TheVariants as arg
use Rattle.class_run.specs.declared.ended.Back.TheVariants as back
use Rattle.class_run.specs.declared.ended.End.TheVariants as end
use Rattle.run_rows.specs.Rows.{case, ends, of_string, plain_constructor, string_type, with_code}
use Rattle.set_view.specs.Examples.{int}

-- a switch on texts
abbrev pub switch_on_texts_set : List Class
switch_on_texts_set = plain_class 0x0021 (codes "t/T") object [] [] (plain_constructor 0x0001 object ∷ with_code 0x0008
    (codes "f") (string_type ∷ []) (Some int) (op.Load kind.Ref 0 ∷ op.Store kind.Ref 1 ∷ op.PushInt (negsuc 0) ∷
    op.Store kind.Int 2 ∷ op.Load kind.Ref 1 ∷ op.InvokeVirtual (of_string (codes "hashCode") (codes "()I")) ∷
    op.LookupSwitch 27 (case (pos 0) 21 ∷ case (pos 2112) 7 ∷ []) ∷ op.Load kind.Ref 1 ∷ op.PushText (codes "BB") ∷
    op.InvokeVirtual (of_string (codes "equals") (codes "(Ljava/lang/Object;)Z")) ∷ op.IfZero cond.Eq 14 ∷ op.PushInt
    (pos 1) ∷ op.Store kind.Int 2 ∷ op.Goto 27 ∷ op.Load kind.Ref 1 ∷ op.PushText (codes "Aa") ∷ op.InvokeVirtual
    (of_string (codes "equals") (codes "(Ljava/lang/Object;)Z")) ∷ op.IfZero cond.Eq 27 ∷ op.PushInt (pos 0) ∷ op.Store
    kind.Int 2 ∷ op.Goto 27 ∷ op.Load kind.Ref 1 ∷ op.PushText [] ∷ op.InvokeVirtual (of_string (codes "equals") (codes
    "(Ljava/lang/Object;)Z")) ∷ op.IfZero cond.Eq 27 ∷ op.PushInt (pos 2) ∷ op.Store kind.Int 2 ∷ op.Load kind.Int 2 ∷
    op.TableSwitch (pos 0) 35 (29 ∷ 31 ∷ 33 ∷ []) ∷ op.PushInt (pos 1) ∷ op.Return (Some kind.Int) ∷ op.PushInt (pos 2)
    ∷ op.Return (Some kind.Int) ∷ op.PushInt (pos 3) ∷ op.Return (Some kind.Int) ∷ op.PushInt (pos 0) ∷ op.Return (Some
    kind.Int) ∷ []) [] ∷ []) ∷ []

abbrev pub SwitchOnTextsRow : Type 0
SwitchOnTextsRow = ended_after switch_on_texts_set (key (codes "t/T") (codes "f") (codes "(Ljava/lang/String;)I"))
    (arg.Text (codes "Aa") ∷ []) 24 ≡ ends [] (end.Returned (back.Int (pos 1)))

-- the rows
abbrev pub SwitchesRows : Type 0
SwitchesRows = SwitchOnTextsRow
