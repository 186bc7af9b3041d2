-- Which act of const is legal, as it is found (the project's own; only the code's contracts need
-- it).
use Rattle.std.specs.Prelude.{ℕ, zero, suc, ◌+◌, ◌-◌, ℤ, List, [], ◌∷◌, not, ◌&&◌, ◌||◌, ◌==◌, Bool}
use Rattle.std.specs.Prelude.{true, false, Option, Some, None, length, nat_le, nat_lt, slice_get}
use Rattle.std.specs.Prelude.{if◌then◌else◌}
use Rattle.std.specs.Int.{w32, int_wrapping_add}
use Rattle.std.specs.List.{list_all}
use Rattle.std.specs.Option.{option_and_then, unwrap_or}
use Rattle.std.specs.Ordering.{int_eq}
use Rattle.class_model.specs.declared.code.Code.{Code}
use Rattle.class_model.specs.declared.code.Ins.{Ins}
use Rattle.class_model.specs.declared.op.Kind.TheVariants as kind
use Rattle.class_model.specs.declared.op.Op.{Op}
use Rattle.class_model.specs.declared.op.Op.TheVariants as op
use Rattle.code_edit.specs.declared.act.Act.{Act}
use Rattle.code_edit.specs.declared.act.Act.TheVariants as act
use Rattle.code_edit.specs.declared.change.Change.{Change}
use Rattle.code_edit.specs.declared.change.Change.TheVariants.{Keeps, Becomes, Adds, Clobbers}
use Rattle.code_edit.specs.Constants.{is_fold, is_two}
use Rattle.code_edit.specs.Deciding.{Count, NoOperand, OneOperand, TwoOperands, decided, operands}
use Rattle.code_edit.specs.Facts.{change_by, int_pushed_by, is_int}
use Rattle.code_edit.specs.Flow.{targets}
use Rattle.const_tables.specs.declared.facts.Stretch.{Stretch}
use Rattle.const_tables.specs.FirstFacts.{int_at}
use Rattle.const_tables.specs.Folding.{fold_in}
use Rattle.const_tables.specs.Predecessors.{row}
use Rattle.const_tables.specs.Stretches.{first_in}
use Rattle.edit_tables.specs.Marks.{has, none, put}
use Rattle.edit_tables.specs.Places.{counts_from}
use Rattle.edit_tables.specs.Spread.{entered, spread}

-- ---- support

-- a sum that wraps in 32 bits
abbrev pub is_sum : Option ℤ → ℤ → ℤ → Bool
is_sum (Some int) by value = int_eq value (int_wrapping_add w32 int by)
is_sum None by value = false

-- after an instruction that does this to a local variable of which an int may be known, it holds the
-- value
abbrev pub yields : Option ℤ → ℤ → Change → Bool
yields known value Keeps = is_int known value
yields known value (Becomes stored) = int_eq value stored
yields known value (Adds by) = is_sum known by value
yields known value Clobbers = false

-- the int that the instruction directly before an index pushes, where the index isn't marked
abbrev pub pushed_in : Code → List Bool → ℕ → Option ℤ
pushed_in code targets at =
    if (at == 0) || has targets at then None else int_pushed_by (slice_get code.ins (at - 1))

-- what the instruction at an index does to the int in a slot
abbrev pub change_in : Code → List Bool → ℕ → ℕ → Change
change_in code targets slot at = change_by (slice_get code.ins at) (pushed_in code targets at) slot

abbrev pub is_number : Option ℕ → ℕ → Bool
is_number None k = false
is_number (Some m) k = m == k

-- it is this index
abbrev pub is_place : Option ℕ → ℕ → Bool
is_place None to = false
is_place (Some t) to = t == to

-- ---- the last index

-- the targets of the instruction at an index after the folds, where it lives
abbrev pub targets_folded : Option ℕ → Op → List ℕ
targets_folded None o = targets o
targets_folded (Some to) o = to ∷ []

abbrev pub targets_after : List (Option ℕ) → ℕ → Ins → List ℕ
targets_after folds at i = targets_folded (fold_in folds at) i.op

-- the indices to which what lives still leads after the folds
abbrev pub still_aimed : List (Option ℕ) → List Bool → Code → List Bool
still_aimed folds lives code =
    entered (counts_from 0 lives) code.handlers
    (spread (targets_after folds) lives 0 code.ins (none (length code.ins)))

-- something leads to the index, and nothing lives from there on
abbrev pub is_lost : ℕ → List Bool → ℕ → Bool
is_lost end aimed at = nat_le end at && has aimed at

-- none of the indices that a fold takes along is so
abbrev pub keeps_last : ℕ → List Bool → Count → ℕ → ℕ → Bool
keeps_last end aimed operands at to =
    not ((to == at + 1 && is_lost end aimed at)
    || ((is_fold operands && is_lost end aimed (at - 1))
    || (is_two operands && is_lost end aimed (at - 2))))

-- ---- acts

-- a number, or the other one where that is smaller
abbrev pub up_to : ℕ → ℕ → ℕ
up_to n m = if nat_lt n m then n else m

-- the number behind it, unless the other one is reached
abbrev pub next_up_to : ℕ → ℕ → ℕ
next_up_to n m = if nat_lt n m then n + 1 else n

-- what folds name
abbrev pub with_folded : Act → List Bool → List Bool
with_folded (act.Fold at to) marks = put at marks
with_folded a marks = marks

abbrev pub all_folded : List Act → List Bool → List Bool
all_folded [] marks = marks
all_folded (a ∷ acts) marks = all_folded acts (with_folded a marks)

-- the int that an operation always pushes, by stretches of the facts of acts
abbrev pub const_op : List Stretch → List Act → ℕ → Op → Option ℤ
const_op facts acts at (op.PushInt value) = Some value
const_op facts acts at (op.Load kind.Int slot) = int_at facts acts slot at
const_op facts acts at o = None

abbrev pub const_ins : List Stretch → List Act → ℕ → Option Ins → Option ℤ
const_ins facts acts at None = None
const_ins facts acts at (Some i) = const_op facts acts at i.op

-- A code, acts on it, stretches of their facts, and the marks of the targets.
module _ (code : Code) (acts : List Act) (facts : List Stretch) (marks : List Bool) where
  -- the slot holds the value behind an index
  abbrev pub supports : ℕ → ℤ → ℕ → Bool
  supports slot value at = yields (int_at facts acts slot at) value (change_in code marks slot at)

  -- the int that the instruction at an index always pushes
  abbrev pub const_in : ℕ → Option ℤ
  const_in at = const_ins facts acts at (slice_get code.ins at)

  -- where a branch or switch on one known int leads, if it is no target
  abbrev pub one_leads : ℕ → Op → Option ℕ
  one_leads at o =
      if nat_lt at 1 || has marks at then None
      else option_and_then (λ z. option_and_then (λ p. Some (unwrap_or p (at + 1)))
      (decided o (z ∷ []))) (const_in (at - 1))

  -- where a branch on two leads, if neither it nor the second one is a target
  abbrev pub two_lead : ℕ → Op → Option ℕ
  two_lead at o =
      if nat_lt at 2 || (has marks at || has marks (at - 1)) then None
      else option_and_then (λ a. option_and_then (λ b. option_and_then
      (λ p. Some (unwrap_or p (at + 1))) (decided o (b ∷ a ∷ []))) (const_in (at - 1)))
      (const_in (at - 2))

  abbrev pub leads_by : Count → ℕ → Op → Option ℕ
  leads_by OneOperand at o = one_leads at o
  leads_by TwoOperands at o = two_lead at o
  leads_by NoOperand at o = None

  -- Of each index the predecessors, and whether a handler begins there.
  module _ (lists : List (List ℕ)) (entries : List Bool) where
    -- a fact may be at the index, and the act of this number is the first that names it
    abbrev pub may_stand : ℕ → ℕ → ℤ → ℕ → Bool
    may_stand k slot value at =
        nat_lt at (length code.ins)
        && (not (at == 0)
        && (not (has entries at)
        && (is_number (first_in None facts slot at) k
        && list_all (supports slot value) (row lists at))))

    -- and at so many indices from one on
    abbrev pub may_stand_on : ℕ → ℕ → ℤ → ℕ → ℕ → Bool
    may_stand_on k slot value at zero = true
    may_stand_on k slot value at (suc n) =
        may_stand k slot value at && may_stand_on k slot value (suc at) n

  -- One more than the last index that lives after the folds, and the indices to which something
  -- leads then.
  module _ (end : ℕ) (aimed : List Bool) where
    abbrev pub may_fold : ℕ → ℕ → Option Ins → Bool
    may_fold at to None = false
    may_fold at to (Some i) =
        is_place (leads_by (operands i.op) at i.op) to
        && keeps_last end aimed (operands i.op) at to

  -- An act is legal behind others, which are acts of the step: a fact may stand at each of its indices, and no other names one;
  -- a branch or switch leads there, and no other fold names it.
  abbrev pub may_decide : List (List ℕ) → List Bool → ℕ → List Bool → List Act → Act → Bool
  may_decide lists entries end aimed before (act.Fact from to slot value) =
      nat_le from to
      && may_stand_on lists entries (up_to (length before) (length acts)) slot value from
      (to + 1 - from)
  may_decide lists entries end aimed before (act.Fold at to) =
      may_fold end aimed at to (slice_get code.ins at)
      && not (has (all_folded before (none (length code.ins))) at)
  may_decide lists entries end aimed before a = false
