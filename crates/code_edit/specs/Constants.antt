-- Const decides branches on constants: what its acts make of a code, and when one is legal (the
-- project's own).
use Rattle.std.specs.Prelude.{◌≡◌, ◌≢◌, ◌⊎◌, ◌<◌, ◌≤◌, ℕ, ◌+◌, ◌-◌, ℤ, not, ◌&&◌, ◌||◌, ◌==◌}
use Rattle.std.specs.Prelude.{Bool, true, false, List, [], ◌∷◌, Option, Some, None, length, nat_le}
use Rattle.std.specs.Prelude.{slice_get, if◌then◌else◌}
use Rattle.std.specs.List.{All, AllByRecursion, Contains}
use Rattle.std.specs.Option.{unwrap_or}
use Rattle.class_model.specs.declared.code.Code.{Code}
use Rattle.class_model.specs.declared.code.Handler.{Handler}
use Rattle.class_model.specs.declared.code.Ins.{Ins}
use Rattle.class_model.specs.declared.op.Kind.TheVariants as kind
use Rattle.class_model.specs.declared.op.Op.{Op}
use Rattle.class_model.specs.declared.op.Op.TheVariants as op
use Rattle.code_edit.specs.declared.act.Act.{Act}
use Rattle.code_edit.specs.declared.act.Act.TheVariants as act
use Rattle.code_edit.specs.Deciding.{Count, NoOperand, TwoOperands, decided, operands}
use Rattle.code_edit.specs.Facts.{Facts, Yields, change_at, is_int}
use Rattle.code_edit.specs.Flow.{is_target, successors}
use Rattle.code_edit.specs.Rewriting.{compacted, rewritten}

-- ---- facts and folds of acts

-- the int that a slot holds at an index by the first act that names both
abbrev pub fact_at : List Act → ℕ → ℕ → Option ℤ
fact_at [] slot at = None
fact_at (act.Fact from to named value ∷ acts) slot at =
    if (slot == named) && (nat_le from at && nat_le at to)
    then Some value else fact_at acts slot at
fact_at (a ∷ acts) slot at = fact_at acts slot at

abbrev pub facts_of : List Act → ℕ → Facts
facts_of acts slot at z = is_int (fact_at acts slot at) z

-- where the branch or switch at an index leads by the first act that folds it
abbrev pub fold_to : List Act → ℕ → Option ℕ
fold_to [] at = None
fold_to (act.Fold place to ∷ acts) at = if at == place then Some to else fold_to acts at
fold_to (a ∷ acts) at = fold_to acts at

-- the int that an operation always pushes: a constant, or what a slot holds by the facts
abbrev pub const_of : List Act → ℕ → Op → Option ℤ
const_of acts at (op.PushInt value) = Some value
const_of acts at (op.Load kind.Int slot) = fact_at acts slot at
const_of acts at o = None

abbrev pub const_by : List Act → ℕ → Option Ins → Option ℤ
const_by acts at None = None
const_by acts at (Some i) = const_of acts at i.op

-- the int that the instruction at an index always pushes
abbrev pub const_at : List Act → Code → ℕ → Option ℤ
const_at acts code at = const_by acts at (slice_get code.ins at)

-- ---- what the acts do

abbrev pub count_by : Option ℕ → Option Ins → Count
count_by (Some to) (Some i) = operands i.op
count_by f o = NoOperand

abbrev pub count_of : Option Ins → Count
count_of None = NoOperand
count_of (Some i) = operands i.op

-- how many operands go with the branch or switch at an index: none where no act folds it
abbrev pub count : List Act → Code → ℕ → Count
count acts code at = count_by (fold_to acts at) (slice_get code.ins at)

abbrev pub is_fold : Count → Bool
is_fold NoOperand = false
is_fold c = true

abbrev pub is_two : Count → Bool
is_two TwoOperands = true
is_two c = false

-- the instruction is an operand of a branch or switch that is folded
abbrev pub is_operand : List Act → Code → ℕ → Bool
is_operand acts code at =
    is_fold (count acts code (at + 1)) || is_two (count acts code (at + 1 + 1))

-- what stands in place of a branch or switch that is folded: a goto, or nothing where it leads to
-- the next index
abbrev pub landed : ℕ → Op → Option ℕ → Op
landed at o None = o
landed at o (Some to) = if to == at + 1 then op.Nop else op.Goto to

abbrev pub new_op : Bool → Option ℕ → ℕ → Op → Op
new_op operand f at o = if operand then op.Nop else landed at o f

-- the operation at an index after the acts; one that goes does nothing until it is left out
abbrev pub folded : List Act → Code → ℕ → Op → Op
folded acts code at o = new_op (is_operand acts code at) (fold_to acts at) at o

abbrev pub is_next : ℕ → Option ℕ → Bool
is_next at (Some to) = to == at + 1
is_next at None = false

-- the instruction goes: as an operand, or as a branch to the next index
abbrev pub goes : List Act → Code → ℕ → Bool
goes acts code at = is_operand acts code at || is_next at (fold_to acts at)

-- how many ints the instruction at an index takes to choose where control goes
abbrev pub operands_at : Code → ℕ → Count
operands_at code at = count_of (slice_get code.ins at)

-- a fold of the instruction at a place to an index makes another one go: an operand, or the place
-- itself where it leads to the next index
abbrev pub takes_along : Code → ℕ → ℕ → ℕ → Bool
takes_along code place to at =
    (at == place && to == place + 1)
    || ((at + 1 == place && is_fold (operands_at code place))
    || (at + 1 + 1 == place && is_two (operands_at code place)))

-- the code after the acts
abbrev pub folded_code : List Act → Code → Code
folded_code acts code =
    compacted (λ at. not (goes acts code at)) (rewritten (folded acts code) code)

-- ---- which acts are legal

module _ (acts : List Act) (code : Code) where
  -- A fact may be at this index: it is neither the first one nor where a handler begins, and facts
  -- of the step support the fact at every instruction from which control may come.
  pub record IsPlace (slot at : ℕ) (value : ℤ) : Type 0 where
    pub below : at < length code.ins
    pub inside : at ≢ 0
    pub handlers : All (λ (h : Handler). h.entry ≢ at) code.handlers
    pub supported : (p : ℕ) → p < length code.ins → Contains (successors code p) at
        → Yields (facts_of acts slot) p value (change_at code slot p)

  -- a branch or switch on one known int, which is no target, leads there
  pub record OneFold (at to : ℕ) : Type 0 where
    pub ins : Ins
    pub here : slice_get code.ins at ≡ Some ins
    pub behind : 1 ≤ at
    pub value : ℤ
    pub is : const_at acts code (at - 1) ≡ Some value
    pub free : is_target code at ≡ false
    pub point : Option ℕ
    pub decides : decided ins.op (value ∷ []) ≡ Some point
    pub leads : unwrap_or point (at + 1) ≡ to

  -- a branch on two known ints leads there; neither it nor the second one is a target
  pub record TwoFold (at to : ℕ) : Type 0 where
    pub ins : Ins
    pub here : slice_get code.ins at ≡ Some ins
    pub behind : 2 ≤ at
    pub first : ℤ
    pub first_is : const_at acts code (at - 2) ≡ Some first
    pub second : ℤ
    pub second_is : const_at acts code (at - 1) ≡ Some second
    pub free : is_target code at ≡ false
    pub second_free : is_target code (at - 1) ≡ false
    pub point : Option ℕ
    pub decides : decided ins.op (second ∷ first ∷ []) ≡ Some point
    pub leads : unwrap_or point (at + 1) ≡ to

-- a fact that may be at each of its indices, or a fold to where the branch or switch leads; acts
-- before it that name the same place aside
abbrev pub IsLegalConst : List Act → Code → Act → Type 0
IsLegalConst acts code (act.Fact from to slot value) =
    (from ≤ to) × ((at : ℕ) → from ≤ at → at ≤ to → IsPlace acts code slot at value)
IsLegalConst acts code (act.Fold at to) = OneFold acts code at to ⊎ TwoFold acts code at to
IsLegalConst acts code a = ⊥

abbrev pub AreLegalConst : List Act → Code → Type 0
AreLegalConst acts code = AllByRecursion (IsLegalConst acts code) acts
