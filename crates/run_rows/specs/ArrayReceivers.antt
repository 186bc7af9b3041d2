-- Rows of runs: arrays as receivers (the project's own: what HotSpot does).
use Rattle.std.specs.Prelude.{◌≡◌, pos, List, [], ◌∷◌, Some, codes}
use Rattle.jv_base.specs.declared.types.Base.TheVariants as base
use Rattle.class_model.specs.declared.class.Class.{Class}
use Rattle.class_model.specs.declared.op.Kind.TheVariants as kind
use Rattle.class_model.specs.declared.op.MemberRef.{MemberRef}
use Rattle.class_model.specs.declared.op.Op.{Op}
use Rattle.class_model.specs.declared.op.Op.TheVariants as op
use Rattle.class_pool.specs.rows.LinkRows.{object, plain_class}
use Rattle.class_run.specs.Ended.{ended_after}
use Rattle.class_run.specs.Examples.{key}
use Rattle.class_run.specs.declared.ended.Back.TheVariants as back
use Rattle.class_run.specs.declared.ended.End.TheVariants as end
use Rattle.link_check.specs.rows.ProfileRows.{of_class, of_interface}
use Rattle.run_rows.specs.Rows.{boolean, ends, with_code}

-- equals through a class or an interface, on a new int[1] with itself
abbrev pub compares : (MemberRef → Op) → MemberRef → List Op
compares call r = op.PushInt (pos 1) ∷ op.NewArray base.Int ∷ op.Dup ∷ call r ∷ op.Return (Some kind.Int) ∷ []

-- the class that does so, and a program interface that is a Cloneable
abbrev pub comparing : (MemberRef → Op) → MemberRef → List Class
comparing call r =
    plain_class 0x0021 (codes "t/T") object [] [] (with_code 0x0009 (codes "f") [] (Some boolean) (compares call r) []
    ∷ [])
    ∷ plain_class 0x0601 (codes "t/I") object (codes "java/lang/Cloneable" ∷ []) [] [] ∷ []

-- equals of Object, through Object
abbrev pub ThroughObjectRow : Type 0
ThroughObjectRow = ended_after
    (comparing op.InvokeVirtual (of_class object (codes "equals") (codes "(Ljava/lang/Object;)Z")))
    (key (codes "t/T") (codes "f") (codes "()Z")) [] 7
    ≡ ends [] (end.Returned (back.Int (pos 1)))

-- the same through Cloneable, which arrays are of
abbrev pub ThroughCloneableRow : Type 0
ThroughCloneableRow = ended_after
    (comparing op.InvokeInterface
    (of_interface (codes "java/lang/Cloneable") (codes "equals") (codes "(Ljava/lang/Object;)Z")))
    (key (codes "t/T") (codes "f") (codes "()Z")) [] 7
    ≡ ends [] (end.Returned (back.Int (pos 1)))

-- the same through an interface that no array is of
abbrev pub ThroughInterfaceRow : Type 0
ThroughInterfaceRow = ended_after
    (comparing op.InvokeInterface (of_interface (codes "t/I") (codes "equals") (codes "(Ljava/lang/Object;)Z")))
    (key (codes "t/T") (codes "f") (codes "()Z")) [] 8
    ≡ ends [] (end.Threw (codes "java/lang/IncompatibleClassChangeError") 2)

-- all of them
abbrev pub ArrayReceiversRows : Type 0
ArrayReceiversRows = ThroughObjectRow × ThroughCloneableRow × ThroughInterfaceRow
