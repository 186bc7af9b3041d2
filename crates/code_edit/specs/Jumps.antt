-- Jumps leads branches past gotos: what its acts make of a code, and when one is legal (the
-- project's own).
use Rattle.std.specs.Prelude.{◌≡◌, ℕ, zero, suc, ◌+◌, not, ◌&&◌, ◌==◌, List, [], ◌∷◌}
use Rattle.std.specs.Prelude.{Option, Some, None, Bool, true, false, slice_get, if◌then◌else◌}
use Rattle.std.specs.List.{AllByRecursion, list_any}
use Rattle.std.specs.Option.{unwrap_or}
use Rattle.class_model.specs.declared.code.Code.{Code}
use Rattle.class_model.specs.declared.code.Ins.{Ins}
use Rattle.class_model.specs.declared.op.Op.{Op}
use Rattle.class_model.specs.declared.op.Op.TheVariants as op
use Rattle.code_edit.specs.declared.act.Act.{Act}
use Rattle.code_edit.specs.declared.act.Act.TheVariants as act
use Rattle.code_edit.specs.Flow.{of_ins, targets}
use Rattle.code_edit.specs.Rewriting.{compacted, retargeted, rewritten}

-- ---- what the acts do

-- where an act moves this target of the index to
abbrev pub moved_by : ℕ → ℕ → Act → Option ℕ
moved_by at which (act.Aim place number to) =
    if at == place && which == number then Some to else None
moved_by at which a = None

-- where this target of the index leads after the acts: the first act that moves it counts
abbrev pub aim : List Act → ℕ → ℕ → ℕ → ℕ
aim [] at which to = to
aim (a ∷ acts) at which to = unwrap_or (moved_by at which a) (aim acts at which to)

-- an act skips the index
abbrev pub skips : ℕ → Act → Bool
skips at (act.Skip place) = at == place
skips at a = false

abbrev pub is_skipped : List Act → ℕ → Bool
is_skipped acts at = list_any (skips at) acts

-- what stands in place of a branch that is skipped: what takes its operands from the stack (JVMS
-- 6.5)
abbrev pub skipped : Op → Op
skipped (op.Goto to) = op.Nop
skipped (op.IfZero c to) = op.Pop
skipped (op.IfNull null to) = op.Pop
skipped (op.IfCmp c to) = op.Pop2
skipped (op.IfRef eq to) = op.Pop2
skipped o = o

abbrev pub is_goto : Op → Bool
is_goto (op.Goto to) = true
is_goto o = false

-- the operation at an index after the acts
abbrev pub jumped : List Act → ℕ → Op → Op
jumped acts at o = if is_skipped acts at then skipped o else retargeted (aim acts at) o

-- the instruction isn't a goto that is skipped
abbrev pub stays : List Act → Code → ℕ → Bool
stays acts code at = not (is_skipped acts at && of_ins is_goto code at)

-- the code after the acts
abbrev pub jumped_code : List Act → Code → Code
jumped_code acts code = compacted (stays acts code) (rewritten (jumped acts) code)

-- ---- which acts are legal

-- so many gotos lead from one index to another
abbrev pub Leads : Code → ℕ → ℕ → ℕ → Type 0
Leads c zero from to = from ≡ to
Leads c (suc n) from to =
    (i : Ins) × (k : ℕ) × (slice_get c.ins from ≡ Some i) × (i.op ≡ op.Goto k) × Leads c n k to

-- gotos lead there, or it is there
abbrev pub LeadsTo : Code → ℕ → ℕ → Type 0
LeadsTo c from to = (n : ℕ) × Leads c n from to

-- one or more gotos lead there
abbrev pub FollowsGotos : Code → ℕ → ℕ → Type 0
FollowsGotos code from to = (n : ℕ) × Leads code (suc n) from to

-- the one target of a branch that may be skipped
abbrev pub skip_target : Op → Option ℕ
skip_target (op.Goto to) = Some to
skip_target (op.IfZero c to) = Some to
skip_target (op.IfNull null to) = Some to
skip_target (op.IfCmp c to) = Some to
skip_target (op.IfRef eq to) = Some to
skip_target o = None

-- an aim of a target along one or more gotos, or a skip of a branch that leads to the next index
-- after the aims of the step; acts before it that name the same place aside
abbrev pub IsLegalJump : List Act → Code → Act → Type 0
IsLegalJump acts code (act.Aim at which to) =
    (i : Ins) × (old : ℕ) × (slice_get code.ins at ≡ Some i)
    × (slice_get (targets i.op) which ≡ Some old) × FollowsGotos code old to
IsLegalJump acts code (act.Skip at) =
    (i : Ins) × (to : ℕ) × (slice_get code.ins at ≡ Some i) × (skip_target i.op ≡ Some to)
    × (aim acts at 0 to ≡ at + 1)
IsLegalJump acts code a = ⊥

abbrev pub AreLegalJumps : List Act → Code → Type 0
AreLegalJumps acts code = AllByRecursion (IsLegalJump acts code) acts
