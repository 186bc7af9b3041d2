-- Slots leaves out stores to local variables that nothing loads: what its acts make of a code, and
-- when one is legal (the project's own).
use Rattle.std.specs.Prelude.{◌≡◌, ℕ, ◌+◌, ◌-◌, ℤ, not, ◌&&◌, ◌||◌, ◌==◌, List, Some, Bool}
use Rattle.std.specs.Prelude.{true, false, slice_get, if◌then◌else◌}
use Rattle.std.specs.List.{AllByRecursion, list_any}
use Rattle.class_model.specs.declared.code.Code.{Code}
use Rattle.class_model.specs.declared.code.Ins.{Ins}
use Rattle.class_model.specs.declared.op.Kind.{Kind}
use Rattle.class_model.specs.declared.op.Kind.TheVariants as kind
use Rattle.class_model.specs.declared.op.Op.{Op}
use Rattle.class_model.specs.declared.op.Op.TheVariants as op
use Rattle.code_edit.specs.declared.act.Act.{Act}
use Rattle.code_edit.specs.declared.act.Act.TheVariants as act
use Rattle.code_edit.specs.Flow.{is_target, of_ins}
use Rattle.code_edit.specs.Rewriting.{compacted, rewritten}

-- ---- instructions

-- the instruction pushes one constant or local variable, and does nothing else
abbrev pub is_push : Op → Bool
is_push op.PushNull = true
is_push (op.PushInt n) = true
is_push (op.PushLong n) = true
is_push (op.PushText units) = true
is_push (op.Load k slot) = true
is_push o = false

abbrev pub is_store : Op → Bool
is_store (op.Store k slot) = true
is_store o = false

abbrev pub is_inc : Op → Bool
is_inc (op.Inc slot z) = true
is_inc o = false

-- what takes a value of this kind from the stack (JVMS 6.5, pop and pop2)
abbrev pub pop_of : Kind → Op
pop_of kind.Long = op.Pop2
pop_of k = op.Pop

-- ---- what the acts do

-- an act cuts the index
abbrev pub cuts : ℕ → Act → Bool
cuts at (act.Cut place) = at == place
cuts at a = false

abbrev pub is_cut : List Act → ℕ → Bool
is_cut acts at = list_any (cuts at) acts

-- a store that is cut goes together with the push directly before it, where the store is no target
abbrev pub takes_push : List Act → Code → ℕ → Bool
takes_push acts code at =
    is_cut acts at
    && (of_ins is_store code at && (of_ins is_push code (at - 1) && not (is_target code at)))

-- the instruction goes: a push with the store behind it, that store, or an increment that is cut
abbrev pub goes : List Act → Code → ℕ → Bool
goes acts code at =
    takes_push acts code (at + 1)
    || (takes_push acts code at || (is_cut acts at && of_ins is_inc code at))

-- what any other store that is cut becomes
abbrev pub popped : Op → Op
popped (op.Store k slot) = pop_of k
popped o = o

-- the operation at an index after the acts; one that goes does nothing until it is left out
abbrev pub slotted : List Act → Code → ℕ → Op → Op
slotted acts code at o =
    if goes acts code at then op.Nop else if is_cut acts at then popped o else o

-- the code after the acts
abbrev pub slotted_code : List Act → Code → Code
slotted_code acts code =
    compacted (λ at. not (goes acts code at)) (rewritten (slotted acts code) code)

-- ---- which acts are legal

-- the operation loads the local variable
abbrev pub loads : ℕ → Op → Bool
loads slot (op.Load k place) = slot == place
loads slot o = false

abbrev pub is_loaded : Code → ℕ → Bool
is_loaded code slot = list_any (λ (i : Ins). loads slot i.op) code.ins

-- each increment of the local variable is cut
abbrev pub AreIncsCut : List Act → Code → ℕ → Type 0
AreIncsCut acts code slot =
    (at : ℕ) (i : Ins) (z : ℤ) → slice_get code.ins at ≡ Some i → i.op ≡ op.Inc slot z
    → is_cut acts at ≡ true

-- what may be cut: a store to a slot that no load names, with each increment of it; or an increment
-- of such a slot
abbrev pub IsCutOp : List Act → Code → Op → Type 0
IsCutOp acts code (op.Store k slot) = (is_loaded code slot ≡ false) × AreIncsCut acts code slot
IsCutOp acts code (op.Inc slot z) = is_loaded code slot ≡ false
IsCutOp acts code o = ⊥

-- a cut of such an instruction; acts before it that name it aside
abbrev pub IsLegalCut : List Act → Code → Act → Type 0
IsLegalCut acts code (act.Cut at) =
    (i : Ins) × (slice_get code.ins at ≡ Some i) × IsCutOp acts code i.op
IsLegalCut acts code a = ⊥

abbrev pub AreLegalCuts : List Act → Code → Type 0
AreLegalCuts acts code = AllByRecursion (IsLegalCut acts code) acts
