-- Codes that show what the acts do, before and after (docs/PASSES.md goes through them).
use Rattle.std.specs.Prelude.{◌≡◌, ℕ, pos, List, [], ◌∷◌, None, Some, map}
use Rattle.class_model.specs.declared.code.Code.{Code}
use Rattle.class_model.specs.declared.code.Ins.{Ins}
use Rattle.class_model.specs.declared.op.Cond.TheVariants as cond
use Rattle.class_model.specs.declared.op.Kind.TheVariants as kind
use Rattle.class_model.specs.declared.op.MemberRef.{MemberRef}
use Rattle.class_model.specs.declared.op.Op.{Op}
use Rattle.class_model.specs.declared.op.Op.TheVariants as op
use Rattle.code_edit.specs.declared.act.Act.{Act}
use Rattle.code_edit.specs.declared.act.Act.TheVariants as act
use Rattle.code_edit.specs.declared.act.Pass.{Pass}
use Rattle.code_edit.specs.declared.act.Pass.TheVariants.{Reach, Jumps, Slots}
use Rattle.code_edit.specs.Applied.{applied}
use Rattle.code_edit.specs.Legal.{IsRightAct}
use Rattle.jvm_model.specs.Heap.{World}
use Rattle.jvm_model.specs.Local.{called_with}
use Rattle.jvm_model.specs.Program.{Shape}
use Rattle.jvm_model.specs.State.{HasReturned, Runs, Status, status}
use Rattle.jvm_model.specs.Step.{run}
use Rattle.jvm_model.specs.Value.{Int, Key, Value}

abbrev pub code_of : List Op → Code
code_of ops = record {
  max_stack = 2;
  max_locals = 2;
  ins = map (λ o. record { op = o; line = None }) ops;
  handlers = [];
  frames = [];
}

-- the operations after the acts of a pass
abbrev pub ops_after : Pass → List Act → List Op → List Op
ops_after pass acts ops = map (λ (i : Ins). i.op) (applied pass acts (code_of ops)).ins

-- ---- reach

abbrev pub over_a_nop : List Op
over_a_nop = op.Goto 2 ∷ op.Nop ∷ op.Return None ∷ []

-- the nop goes, and the goto leads to the index behind it
abbrev pub DropRow : Type 0
DropRow = ops_after Reach (act.Drop 1 1 ∷ []) over_a_nop ≡ op.Goto 1 ∷ op.Return None ∷ []

-- control needs the return
abbrev pub NeededRow : Type 0
NeededRow = IsRightAct Reach (act.Drop 2 2 ∷ []) (code_of over_a_nop) (act.Drop 2 2) → ⊥

-- ---- slots

-- a store goes with its push; what is computed for another one is still computed; an increment goes
abbrev pub CutRow : MemberRef → Type 0
CutRow field =
    ops_after Slots (act.Cut 1 ∷ act.Cut 3 ∷ act.Cut 4 ∷ [])
    (op.PushInt (pos 5) ∷ op.Store kind.Int 1 ∷ op.GetStatic field ∷ op.Store kind.Int 1
    ∷ op.Inc 1 (pos 1) ∷ op.Return None ∷ [])
    ≡ op.GetStatic field ∷ op.Pop ∷ op.Return None ∷ []

-- a store to which a branch leads doesn't go with the push before it
abbrev pub BranchToStoreRow : Type 0
BranchToStoreRow =
    ops_after Slots (act.Cut 3 ∷ [])
    (op.PushInt (pos 3) ∷ op.PushInt (pos 4) ∷ op.IfZero cond.Eq 3 ∷ op.Store kind.Int 1
    ∷ op.Return None ∷ [])
    ≡ op.PushInt (pos 3) ∷ op.PushInt (pos 4) ∷ op.IfZero cond.Eq 3 ∷ op.Pop ∷ op.Return None ∷ []

-- ---- jumps

abbrev pub to_a_goto : List Op
to_a_goto =
    op.Load kind.Int 0 ∷ op.IfZero cond.Eq 4 ∷ op.PushInt (pos 1) ∷ op.Return (Some kind.Int)
    ∷ op.Goto 2 ∷ []

-- the branch leads past the goto to the next index, so that what takes its operand stands in its
-- place
abbrev pub AimRow : Type 0
AimRow =
    ops_after Jumps (act.Aim 1 0 2 ∷ act.Skip 1 ∷ []) to_a_goto
    ≡ op.Load kind.Int 0 ∷ op.Pop ∷ op.PushInt (pos 1) ∷ op.Return (Some kind.Int) ∷ op.Goto 2 ∷ []

-- of two gotos that lead to each other one is left, and leads to itself
abbrev pub CircleRow : Type 0
CircleRow =
    ops_after Jumps (act.Skip 0 ∷ []) (op.Goto 1 ∷ op.Goto 0 ∷ []) ≡ op.Goto 0 ∷ []

-- a goto to itself is no goto to the next index
abbrev pub ItselfRow : Type 0
ItselfRow = IsRightAct Jumps (act.Skip 0 ∷ []) (code_of (op.Goto 0 ∷ [])) (act.Skip 0) → ⊥

-- ---- runs

-- what has become, after so many steps, of a method with these operations, in a program in which each method has them
abbrev pub status_after : Shape → World → Key → List Value → ℕ → List Op → Status
status_after shape world method args steps ops =
    status (run (record { shape = shape; code = λ k. Some (code_of ops) }) (record {
      world = world;
      control = Runs (record { method = method; body = called_with args });
      waits = [];
    }) steps)

-- before the acts of a pass it has come to this after so many steps, and with them after so many
abbrev pub EndsAlike : Pass → List Act → List Op → List Value → Status → ℕ → ℕ → Type 0
EndsAlike pass acts ops args ending before after =
    (shape : Shape) (world : World) (method : Key)
    → (status_after shape world method args before ops ≡ ending)
    × (status_after shape world method args after (ops_after pass acts ops) ≡ ending)

-- the goto over the nop, and the return
abbrev pub DropRun : Type 0
DropRun = EndsAlike Reach (act.Drop 1 1 ∷ []) over_a_nop [] (HasReturned None) 2 2

-- a number is stored and added to, and then an argument is returned
abbrev pub CutRun : Type 0
CutRun =
    EndsAlike Slots (act.Cut 1 ∷ act.Cut 2 ∷ [])
    (op.PushInt (pos 5) ∷ op.Store kind.Int 1 ∷ op.Inc 1 (pos 1) ∷ op.Load kind.Int 0
    ∷ op.Return (Some kind.Int) ∷ [])
    (Int (pos 7) ∷ []) (HasReturned (Some (Int (pos 7)))) 5 2

-- the branch to the goto
abbrev pub AimRun : Type 0
AimRun =
    EndsAlike Jumps (act.Aim 1 0 2 ∷ act.Skip 1 ∷ []) to_a_goto (Int (pos 0) ∷ [])
    (HasReturned (Some (Int (pos 1)))) 5 4
