-- The acts that const gives a code: the facts of the slots that its folds load, told by the largest
-- sets, and the folds (the project's own).
use Rattle.std.specs.Prelude.{◌≡◌, ◌≢◌, ◌⊎◌, ◌↔◌, ◌<◌, ℕ, zero, suc, ◌+◌, ◌-◌, ◌*◌, ℤ, Bool, true}
use Rattle.std.specs.Prelude.{false, ◌||◌}
use Rattle.std.specs.Prelude.{List, [], ◌∷◌, ◌++◌, Option, Some, None, AllPairs, length, nat_lt}
use Rattle.std.specs.Prelude.{slice_get, if◌then◌else◌}
use Rattle.std.specs.List.{Contains, flat_map}
use Rattle.std.specs.Option.{option_and_then, unwrap_or}
use Rattle.std.specs.Ordering.{int_eq}
use Rattle.class_model.specs.declared.code.Code.{Code}
use Rattle.class_model.specs.declared.code.Ins.{Ins}
use Rattle.class_model.specs.declared.op.Kind.TheVariants as kind
use Rattle.class_model.specs.declared.op.Op.{Op}
use Rattle.class_model.specs.declared.op.Op.TheVariants as op
use Rattle.code_edit.specs.declared.act.Act.{Act}
use Rattle.code_edit.specs.declared.act.Act.TheVariants as act
use Rattle.code_edit.specs.Deciding.{Count, NoOperand, OneOperand, TwoOperands, decided, operands}
use Rattle.code_edit.specs.Facts.{IsLargest, int_in}
use Rattle.code_edit.specs.Flow.{is_target}

-- ---- runs of facts

-- no run, or one that began at an index with an int
pub data Run : Type 0 where
  Shut : Run
  Open : ℕ → ℤ → Run

-- one fact for each maximal run of one int, the first item's index being i
abbrev pub runs : ℕ → ℕ → Run → List (Option ℤ) → List Act
runs slot i Shut [] = []
runs slot i (Open from v) [] = act.Fact from (i - 1) slot v ∷ []
runs slot i Shut (None ∷ known) = runs slot (i + 1) Shut known
runs slot i Shut (Some w ∷ known) = runs slot (i + 1) (Open i w) known
runs slot i (Open from v) (None ∷ known) =
    act.Fact from (i - 1) slot v ∷ runs slot (i + 1) Shut known
runs slot i (Open from v) (Some w ∷ known) =
    if int_eq v w
    then runs slot (i + 1) (Open from v) known
    else act.Fact from (i - 1) slot v ∷ runs slot (i + 1) (Open i w) known

-- ---- slots from which operands are loaded

-- the instruction loads an int from the slot
abbrev pub IsLoad : Code → ℕ → ℕ → Type 0
IsLoad code slot at =
    (i : Ins) × (slice_get code.ins at ≡ Some i) × (i.op ≡ op.Load kind.Int slot)

-- one of the instructions directly before loads an operand of this one from the slot
abbrev pub TakesFrom : Code → ℕ → Ins → ℕ → Type 0
TakesFrom code at i slot =
    IsLoad code slot (at - 1) ⊎ ((operands i.op ≡ TwoOperands) × IsLoad code slot (at - 2))

-- an int branch or switch takes an operand from the slot
abbrev pub IsAsked : Code → ℕ → Type 0
IsAsked code slot = (at : ℕ) × (i : Ins) × (slice_get code.ins at ≡ Some i)
    × (operands i.op ≢ NoOperand) × TakesFrom code at i slot

-- ---- folds

-- What each slot holds, told by a list with an item for each instruction.
module _ (known : ℕ → List (Option ℤ)) (code : Code) where
  -- the int that an operation always pushes
  abbrev pub known_of : ℕ → Op → Option ℤ
  known_of at (op.PushInt value) = Some value
  known_of at (op.Load kind.Int slot) = int_in (known slot) at
  known_of at o = None

  abbrev pub known_by : ℕ → Option Ins → Option ℤ
  known_by at None = None
  known_by at (Some i) = known_of at i.op

  -- the int that the instruction at an index always pushes
  abbrev pub known_at : ℕ → Option ℤ
  known_at at = known_by at (slice_get code.ins at)

  -- where a branch or switch on one int leads, if that is known and it is no target
  abbrev pub one_at : ℕ → Op → Option ℕ
  one_at at o =
      if nat_lt at 1 || is_target code at then None
      else option_and_then (λ z. option_and_then (λ p. Some (unwrap_or p (at + 1)))
      (decided o (z ∷ []))) (known_at (at - 1))

  -- where a branch on two leads, if both are known and neither it nor the second one is a target
  abbrev pub two_at : ℕ → Op → Option ℕ
  two_at at o =
      if nat_lt at 2 || (is_target code at || is_target code (at - 1)) then None
      else option_and_then (λ a. option_and_then (λ b. option_and_then
      (λ p. Some (unwrap_or p (at + 1))) (decided o (b ∷ a ∷ []))) (known_at (at - 1)))
      (known_at (at - 2))

  abbrev pub target_by : Count → ℕ → Op → Option ℕ
  target_by OneOperand at o = one_at at o
  target_by TwoOperands at o = two_at at o
  target_by NoOperand at o = None

  abbrev pub target_of : ℕ → Option Ins → Option ℕ
  target_of at None = None
  target_of at (Some i) = target_by (operands i.op) at i.op

  -- where the branch or switch at an index leads, if it is folded
  abbrev pub fold_target : ℕ → Option ℕ
  fold_target at = target_of at (slice_get code.ins at)

  abbrev pub fold_act : ℕ → Option ℕ → List Act
  fold_act at None = []
  fold_act at (Some to) = act.Fold at to ∷ []

  -- the folds below an index, ascending
  abbrev pub folds_below : ℕ → List Act
  folds_below zero = []
  folds_below (suc n) = folds_below n ++ fold_act n (fold_target n)

  -- one that is folded takes an operand from the slot
  abbrev pub IsTaken : ℕ → Type 0
  IsTaken slot = (at : ℕ) × (to : ℕ) × (i : Ins) × (slice_get code.ins at ≡ Some i)
      × (fold_target at ≡ Some to) × TakesFrom code at i slot

-- ---- the acts

-- an ascending list of the slots that have a property
pub record AreSlots (Has : ℕ → Type 0) (slots : List ℕ) : Type 0 where
  pub ascending : AllPairs (λ one other. one < other) slots
  pub are : (slot : ℕ) → Contains slots slot ↔ Has slot

-- the facts of the taken slots, by slot and then index, and then the folds by index
pub record AreConstActs (code : Code) (acts : List Act) : Type 0 where
  pub known : ℕ → List (Option ℤ)
  pub largest : (slot : ℕ) → IsAsked code slot → IsLargest code slot (known slot)
  pub taken : List ℕ
  pub taken_are : AreSlots (IsTaken known code) taken
  pub is : acts ≡ flat_map (λ slot. runs slot 0 Shut (known slot)) taken
      ++ folds_below known code (length code.ins)

-- where so many slots are asked in a code of so many instructions, const gives no act
abbrev pub is_beyond : ℕ → ℕ → Bool
is_beyond asked count = nat_lt 1048576 (asked * count)

abbrev pub ByBound : Bool → Code → List Act → Type 0
ByBound true code acts = acts ≡ []
ByBound false code acts = AreConstActs code acts

-- the acts that const gives a code
pub record IsConstEdits (code : Code) (acts : List Act) : Type 0 where
  pub asked : List ℕ
  pub asked_are : AreSlots (IsAsked code) asked
  pub is : ByBound (is_beyond (length asked) (length code.ins)) code acts
