-- Codes with the acts that const gives them, and the codes after these (docs/PASSES.md goes through
-- them).
use Rattle.std.specs.Prelude.{◌≡◌, ℕ, ℤ, pos, List, [], ◌∷◌, ◌++◌, map, Option, Some, None, length}
use Rattle.std.specs.Prelude.{true, false}
use Rattle.class_model.specs.declared.code.Code.{Code}
use Rattle.class_model.specs.declared.code.Ins.{Ins}
use Rattle.class_model.specs.declared.op.Cond.TheVariants as cond
use Rattle.class_model.specs.declared.op.Kind.TheVariants as kind
use Rattle.class_model.specs.declared.op.Op.{Op}
use Rattle.class_model.specs.declared.op.Op.TheVariants as op
use Rattle.code_edit.specs.declared.act.Act.{Act}
use Rattle.code_edit.specs.declared.act.Act.TheVariants as act
use Rattle.code_edit.specs.Constants.{IsLegalConst, folded_code}
use Rattle.code_edit.specs.ConstEdits.{Shut, folds_below, is_beyond, runs}
use Rattle.code_edit.specs.Facts.{change_of, pushed_before}
use Rattle.code_edit.specs.declared.change.Change.TheVariants.{Keeps, Clobbers}

abbrev pub code_of : List Op → Code
code_of ops = record {
  max_stack = 2;
  max_locals = 3;
  ins = map (λ o. record { op = o; line = None }) ops;
  handlers = [];
  frames = [];
}

-- the operations after the acts
abbrev pub ops_after : List Act → List Op → List Op
ops_after acts ops = map (λ (i : Ins). i.op) (folded_code acts (code_of ops)).ins

-- the folds where the slots hold this
abbrev pub folds_of : (ℕ → List (Option ℤ)) → List Op → List Act
folds_of known ops = folds_below known (code_of ops) (length ops)

abbrev pub returns_int : Op
returns_int = op.Return (Some kind.Int)

-- ---- a constant and a branch on it

abbrev pub on_constant : ℤ → List Op
on_constant z = op.PushInt z ∷ op.IfZero cond.Eq 4 ∷ op.PushInt (pos 5) ∷ returns_int
    ∷ op.PushInt (pos 2) ∷ returns_int ∷ []

-- the branch is taken: a goto stands in its place
abbrev pub TakenRow : Type 0
TakenRow = folds_of (λ slot. []) (on_constant (pos 0)) ≡ act.Fold 1 4 ∷ []

abbrev pub TakenCodeRow : Type 0
TakenCodeRow = ops_after (act.Fold 1 4 ∷ []) (on_constant (pos 0))
    ≡ op.Goto 3 ∷ op.PushInt (pos 5) ∷ returns_int ∷ op.PushInt (pos 2) ∷ returns_int ∷ []

-- control goes on: nothing stands in its place
abbrev pub OnwardRow : Type 0
OnwardRow = folds_of (λ slot. []) (on_constant (pos 1)) ≡ act.Fold 1 2 ∷ []

abbrev pub OnwardCodeRow : Type 0
OnwardCodeRow = ops_after (act.Fold 1 2 ∷ []) (on_constant (pos 1))
    ≡ op.PushInt (pos 5) ∷ returns_int ∷ op.PushInt (pos 2) ∷ returns_int ∷ []

-- ---- a local variable that is stored once

abbrev pub on_local : List Op
on_local = op.PushInt (pos 5) ∷ op.Store kind.Int 1 ∷ op.Load kind.Int 1 ∷ op.IfZero cond.Eq 6
    ∷ op.PushInt (pos 1) ∷ returns_int ∷ op.PushInt (pos 0) ∷ returns_int ∷ []

-- it holds 5 from the index behind the store on
abbrev pub local_known : ℕ → List (Option ℤ)
local_known slot = None ∷ None ∷ Some (pos 5) ∷ Some (pos 5) ∷ Some (pos 5) ∷ Some (pos 5)
    ∷ Some (pos 5) ∷ Some (pos 5) ∷ []

abbrev pub local_acts : List Act
local_acts = runs 1 0 Shut (local_known 1) ++ folds_of local_known on_local

abbrev pub LocalRow : Type 0
LocalRow = local_acts ≡ act.Fact 2 7 1 (pos 5) ∷ act.Fold 3 4 ∷ []

abbrev pub LocalCodeRow : Type 0
LocalCodeRow = ops_after local_acts on_local
    ≡ op.PushInt (pos 5) ∷ op.Store kind.Int 1 ∷ op.PushInt (pos 1) ∷ returns_int
    ∷ op.PushInt (pos 0) ∷ returns_int ∷ []

-- ---- two operands, and switches

-- neither the branch nor the second operand may be a target: the first branch leads to the second
-- operand of the other one
abbrev pub SecondTargetRow : Type 0
SecondTargetRow = folds_of (λ slot. [])
    (op.PushInt (pos 1) ∷ op.Load kind.Int 0 ∷ op.IfZero cond.Eq 5 ∷ op.Pop ∷ op.PushInt (pos 7)
    ∷ op.PushInt (pos 7) ∷ op.IfCmp cond.Eq 8 ∷ op.Return None ∷ op.Return None ∷ []) ≡ []

-- of two operands the one on the top is the second
abbrev pub TwoRow : Type 0
TwoRow = folds_of (λ slot. [])
    (op.PushInt (pos 3) ∷ op.PushInt (pos 7) ∷ op.IfCmp cond.Lt 4 ∷ op.Return None
    ∷ op.Return None ∷ []) ≡ act.Fold 2 4 ∷ []

-- a case of a tableswitch, and the default for a key that has none
abbrev pub on_switch : ℤ → List Op
on_switch z = op.PushInt z ∷ op.TableSwitch (pos 4) 2 (3 ∷ 4 ∷ []) ∷ op.Return None
    ∷ op.Return None ∷ op.Return None ∷ []

abbrev pub CaseRow : Type 0
CaseRow = folds_of (λ slot. []) (on_switch (pos 5)) ≡ act.Fold 1 4 ∷ []

abbrev pub DefaultRow : Type 0
DefaultRow = folds_of (λ slot. []) (on_switch (pos 3)) ≡ act.Fold 1 2 ∷ []

-- both ends of a run of one int, and another run behind it
abbrev pub RunsRow : Type 0
RunsRow = runs 2 0 Shut
    (None ∷ Some (pos 1) ∷ Some (pos 1) ∷ Some (pos 4) ∷ None ∷ Some (pos 4) ∷ [])
    ≡ act.Fact 1 2 2 (pos 1) ∷ act.Fact 3 3 2 (pos 4) ∷ act.Fact 5 5 2 (pos 4) ∷ []

-- ---- what an instruction does to a local variable

-- a store of a long takes its slot and the next one
abbrev pub LongRow : Type 0
LongRow = change_of (op.Store kind.Long 0) None 1 ≡ Clobbers

abbrev pub BehindLongRow : Type 0
BehindLongRow = change_of (op.Store kind.Long 0) None 2 ≡ Keeps

-- what a store that is a target stores isn't known by the push before it
abbrev pub TargetRow : Type 0
TargetRow = pushed_before
    (code_of (op.PushInt (pos 1) ∷ op.Store kind.Int 1 ∷ op.Goto 1 ∷ [])) 1 ≡ None

-- ---- a fact without support

-- control comes to index 2 from 6 as well, where the slot holds 6
abbrev pub in_a_circle : List Op
in_a_circle = op.PushInt (pos 5) ∷ op.Store kind.Int 1 ∷ op.Load kind.Int 1 ∷ op.IfZero cond.Eq 7
    ∷ op.PushInt (pos 6) ∷ op.Store kind.Int 1 ∷ op.Goto 2 ∷ op.PushInt (pos 0) ∷ returns_int ∷ []

abbrev pub ForgedRow : Type 0
ForgedRow = IsLegalConst (act.Fact 2 4 1 (pos 5) ∷ act.Fold 3 4 ∷ []) (code_of in_a_circle)
    (act.Fact 2 4 1 (pos 5)) → ⊥

-- ---- the bound

-- 32 local variables in 32,768 instructions are as many as may be, and one instruction more is too
-- many
abbrev pub AtBoundRow : Type 0
AtBoundRow = is_beyond 32 32768 ≡ false

abbrev pub BeyondRow : Type 0
BeyondRow = is_beyond 32 32769 ≡ true
