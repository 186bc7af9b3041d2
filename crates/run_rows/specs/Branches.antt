-- Rows of runs: comparisons and branches (the project's own: what HotSpot does).
use Rattle.std.specs.Prelude.{◌≡◌, pos, negsuc, List, [], ◌∷◌, Some, codes}
use Rattle.class_model.specs.declared.class.Class.{Class}
use Rattle.class_model.specs.declared.op.ArithOp.TheVariants as arith
use Rattle.class_model.specs.declared.op.Cond.TheVariants as cond
use Rattle.class_model.specs.declared.op.Kind.TheVariants as kind
use Rattle.class_model.specs.declared.op.Num.TheVariants as num
use Rattle.class_model.specs.declared.op.Op.TheVariants as op
use Rattle.class_pool.specs.rows.LinkRows.{object, plain_class}
use Rattle.class_run.specs.Ended.{ended_after}
use Rattle.class_run.specs.Examples.{key}
use Rattle.class_run.specs.declared.ended.Arg.TheVariants as arg
use Rattle.class_run.specs.declared.ended.Back.TheVariants as back
use Rattle.class_run.specs.declared.ended.End.TheVariants as end
use Rattle.run_rows.specs.Rows.{ends, long, plain_constructor, with_code}
use Rattle.set_view.specs.Examples.{int}

-- lcmp
abbrev pub lcmp_set : List Class
lcmp_set = plain_class 0x0021 (codes "t/T") object [] [] (plain_constructor 0x0001 object ∷ with_code 0x0008 (codes
    "f") (long ∷ long ∷ []) (Some int) (op.Load kind.Long 0 ∷ op.Load kind.Long 2 ∷ op.LCmp ∷ op.IfZero cond.Ge 6 ∷
    op.PushInt (pos 1) ∷ op.Goto 7 ∷ op.PushInt (pos 0) ∷ op.Load kind.Long 0 ∷ op.Load kind.Long 2 ∷ op.LCmp ∷
    op.IfZero cond.Gt 13 ∷ op.PushInt (pos 2) ∷ op.Goto 14 ∷ op.PushInt (pos 0) ∷ op.Arith arith.Add num.Int ∷ op.Load
    kind.Long 0 ∷ op.Load kind.Long 2 ∷ op.LCmp ∷ op.IfZero cond.Le 21 ∷ op.PushInt (pos 4) ∷ op.Goto 22 ∷ op.PushInt
    (pos 0) ∷ op.Arith arith.Add num.Int ∷ op.Load kind.Long 0 ∷ op.Load kind.Long 2 ∷ op.LCmp ∷ op.IfZero cond.Lt 29
    ∷ op.PushInt (pos 8) ∷ op.Goto 30 ∷ op.PushInt (pos 0) ∷ op.Arith arith.Add num.Int ∷ op.Load kind.Long 0 ∷
    op.Load kind.Long 2 ∷ op.LCmp ∷ op.IfZero cond.Ne 37 ∷ op.PushInt (pos 16) ∷ op.Goto 38 ∷ op.PushInt (pos 0) ∷
    op.Arith arith.Add num.Int ∷ op.Load kind.Long 0 ∷ op.Load kind.Long 2 ∷ op.LCmp ∷ op.IfZero cond.Eq 45 ∷
    op.PushInt (pos 32) ∷ op.Goto 46 ∷ op.PushInt (pos 0) ∷ op.Arith arith.Add num.Int ∷ op.Return (Some kind.Int) ∷
    []) [] ∷ []) ∷ []

abbrev pub LcmpRow : Type 0
LcmpRow = ended_after lcmp_set (key (codes "t/T") (codes "f") (codes "(JJ)I")) (arg.Long (pos 1) ∷ arg.Long (pos 2) ∷
    []) 41 ≡ ends [] (end.Returned (back.Int (pos 35)))

-- ifs against zero
abbrev pub ifs_against_zero_set : List Class
ifs_against_zero_set = plain_class 0x0021 (codes "t/T") object [] [] (plain_constructor 0x0001 object ∷ with_code 0x0008
    (codes "f") (int ∷ []) (Some int) (op.Load kind.Int 0 ∷ op.IfZero cond.Ge 4 ∷ op.PushInt (pos 1) ∷ op.Goto 5 ∷
    op.PushInt (pos 0) ∷ op.Load kind.Int 0 ∷ op.IfZero cond.Gt 9 ∷ op.PushInt (pos 2) ∷ op.Goto 10 ∷ op.PushInt (pos 0)
    ∷ op.Arith arith.Add num.Int ∷ op.Load kind.Int 0 ∷ op.IfZero cond.Le 15 ∷ op.PushInt (pos 4) ∷ op.Goto 16 ∷
    op.PushInt (pos 0) ∷ op.Arith arith.Add num.Int ∷ op.Load kind.Int 0 ∷ op.IfZero cond.Lt 21 ∷ op.PushInt (pos 8) ∷
    op.Goto 22 ∷ op.PushInt (pos 0) ∷ op.Arith arith.Add num.Int ∷ op.Load kind.Int 0 ∷ op.IfZero cond.Ne 27 ∷
    op.PushInt (pos 16) ∷ op.Goto 28 ∷ op.PushInt (pos 0) ∷ op.Arith arith.Add num.Int ∷ op.Load kind.Int 0 ∷ op.IfZero
    cond.Eq 33 ∷ op.PushInt (pos 32) ∷ op.Goto 34 ∷ op.PushInt (pos 0) ∷ op.Arith arith.Add num.Int ∷ op.Return (Some
    kind.Int) ∷ []) [] ∷ []) ∷ []

abbrev pub IfsAgainstZeroRow : Type 0
IfsAgainstZeroRow = ended_after ifs_against_zero_set (key (codes "t/T") (codes "f") (codes "(I)I")) (arg.Int (pos 1) ∷
    []) 29 ≡ ends [] (end.Returned (back.Int (pos 44)))

-- ifs of two ints
abbrev pub ifs_two_ints_set : List Class
ifs_two_ints_set = plain_class 0x0021 (codes "t/T") object [] [] (plain_constructor 0x0001 object ∷ with_code 0x0008
    (codes "f") (int ∷ int ∷ []) (Some int) (op.Load kind.Int 0 ∷ op.Load kind.Int 1 ∷ op.IfCmp cond.Ge 5 ∷ op.PushInt
    (pos 1) ∷ op.Goto 6 ∷ op.PushInt (pos 0) ∷ op.Load kind.Int 0 ∷ op.Load kind.Int 1 ∷ op.IfCmp cond.Gt 11 ∷
    op.PushInt (pos 2) ∷ op.Goto 12 ∷ op.PushInt (pos 0) ∷ op.Arith arith.Add num.Int ∷ op.Load kind.Int 0 ∷ op.Load
    kind.Int 1 ∷ op.IfCmp cond.Le 18 ∷ op.PushInt (pos 4) ∷ op.Goto 19 ∷ op.PushInt (pos 0) ∷ op.Arith arith.Add num.Int
    ∷ op.Load kind.Int 0 ∷ op.Load kind.Int 1 ∷ op.IfCmp cond.Lt 25 ∷ op.PushInt (pos 8) ∷ op.Goto 26 ∷ op.PushInt (pos
    0) ∷ op.Arith arith.Add num.Int ∷ op.Load kind.Int 0 ∷ op.Load kind.Int 1 ∷ op.IfCmp cond.Ne 32 ∷ op.PushInt (pos
    16) ∷ op.Goto 33 ∷ op.PushInt (pos 0) ∷ op.Arith arith.Add num.Int ∷ op.Load kind.Int 0 ∷ op.Load kind.Int 1 ∷
    op.IfCmp cond.Eq 39 ∷ op.PushInt (pos 32) ∷ op.Goto 40 ∷ op.PushInt (pos 0) ∷ op.Arith arith.Add num.Int ∷ op.Return
    (Some kind.Int) ∷ []) [] ∷ []) ∷ []

abbrev pub IfsTwoIntsRow : Type 0
IfsTwoIntsRow = ended_after ifs_two_ints_set (key (codes "t/T") (codes "f") (codes "(II)I")) (arg.Int (pos 3) ∷ arg.Int
    (pos 3) ∷ []) 35 ≡ ends [] (end.Returned (back.Int (pos 26)))

-- ifs of two ints
abbrev pub ifs_two_ints_again_set : List Class
ifs_two_ints_again_set = plain_class 0x0021 (codes "t/T") object [] [] (plain_constructor 0x0001 object ∷ with_code
    0x0008 (codes "f") (int ∷ int ∷ []) (Some int) (op.Load kind.Int 0 ∷ op.Load kind.Int 1 ∷ op.IfCmp cond.Ge 5 ∷
    op.PushInt (pos 1) ∷ op.Goto 6 ∷ op.PushInt (pos 0) ∷ op.Load kind.Int 0 ∷ op.Load kind.Int 1 ∷ op.IfCmp cond.Gt 11
    ∷ op.PushInt (pos 2) ∷ op.Goto 12 ∷ op.PushInt (pos 0) ∷ op.Arith arith.Add num.Int ∷ op.Load kind.Int 0 ∷ op.Load
    kind.Int 1 ∷ op.IfCmp cond.Le 18 ∷ op.PushInt (pos 4) ∷ op.Goto 19 ∷ op.PushInt (pos 0) ∷ op.Arith arith.Add num.Int
    ∷ op.Load kind.Int 0 ∷ op.Load kind.Int 1 ∷ op.IfCmp cond.Lt 25 ∷ op.PushInt (pos 8) ∷ op.Goto 26 ∷ op.PushInt (pos
    0) ∷ op.Arith arith.Add num.Int ∷ op.Load kind.Int 0 ∷ op.Load kind.Int 1 ∷ op.IfCmp cond.Ne 32 ∷ op.PushInt (pos
    16) ∷ op.Goto 33 ∷ op.PushInt (pos 0) ∷ op.Arith arith.Add num.Int ∷ op.Load kind.Int 0 ∷ op.Load kind.Int 1 ∷
    op.IfCmp cond.Eq 39 ∷ op.PushInt (pos 32) ∷ op.Goto 40 ∷ op.PushInt (pos 0) ∷ op.Arith arith.Add num.Int ∷ op.Return
    (Some kind.Int) ∷ []) [] ∷ []) ∷ []

abbrev pub IfsTwoIntsAgainRow : Type 0
IfsTwoIntsAgainRow = ended_after ifs_two_ints_again_set (key (codes "t/T") (codes "f") (codes "(II)I")) (arg.Int (pos
    2147483647) ∷ arg.Int (negsuc 2147483647) ∷ []) 35 ≡ ends [] (end.Returned (back.Int (pos 44)))

-- the rows
abbrev pub BranchesRows : Type 0
BranchesRows = LcmpRow × IfsAgainstZeroRow × IfsTwoIntsRow × IfsTwoIntsAgainRow
