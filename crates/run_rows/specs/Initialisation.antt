-- Rows of runs: initialisation (the project's own: what HotSpot does).
use Rattle.std.specs.Prelude.{◌≡◌, pos, List, [], ◌∷◌, Some, None, codes}
use Rattle.class_model.specs.declared.class.Class.{Class}
use Rattle.class_model.specs.declared.class.Constant.TheVariants as constant
use Rattle.class_model.specs.declared.op.Kind.TheVariants as kind
use Rattle.class_model.specs.declared.op.Op.TheVariants as op
use Rattle.class_pool.specs.rows.LinkRows.{object, plain_class}
use Rattle.class_run.specs.Ended.{ended_after}
use Rattle.class_run.specs.Examples.{key}
use Rattle.class_run.specs.declared.ended.Back.TheVariants as back
use Rattle.class_run.specs.declared.ended.End.TheVariants as end
use Rattle.link_check.specs.rows.ProfileRows.{of_class, system_out}
use Rattle.run_rows.specs.Rows.{constant_field, ends, lines, of_stream, with_code}
use Rattle.set_view.specs.Examples.{int}

-- constants are set before the superclass is initialised
abbrev pub constants_before_the_superclass_set : List Class
constants_before_the_superclass_set = plain_class 0x0021 (codes "t/D") (codes "t/E") [] (constant_field 0x0019 (codes
    "c") int (constant.Int (pos 3)) ∷ []) (with_code 0x0008 (codes "<clinit>") [] None (op.GetStatic system_out ∷
    op.PushText (codes "D") ∷ op.InvokeVirtual (of_stream (codes "println") (codes "(Ljava/lang/String;)V")) ∷ op.Return
    None ∷ []) [] ∷ []) ∷ plain_class 0x0021 (codes "t/E") object [] [] (with_code 0x0008 (codes "<clinit>") [] None
    (op.GetStatic system_out ∷ op.GetStatic (of_class (codes "t/D") (codes "c") (codes "I")) ∷ op.InvokeVirtual
    (of_stream (codes "println") (codes "(I)V")) ∷ op.Return None ∷ []) [] ∷ []) ∷ plain_class 0x0021 (codes "t/T")
    object [] [] (with_code 0x0009 (codes "f") [] (Some int) (op.GetStatic (of_class (codes "t/D") (codes "c") (codes
    "I")) ∷ op.Return (Some kind.Int) ∷ []) [] ∷ []) ∷ []

abbrev pub ConstantsBeforeTheSuperclassRow : Type 0
ConstantsBeforeTheSuperclassRow = ended_after constants_before_the_superclass_set (key (codes "t/T") (codes "f") (codes
    "()I")) [] 19 ≡ ends (lines (codes "3" ∷ codes "D" ∷ [])) (end.Returned (back.Int (pos 3)))

-- the rows
abbrev pub InitialisationRows : Type 0
InitialisationRows = ConstantsBeforeTheSuperclassRow
