-- Which int a local variable holds before an instruction, as far as stored constants tell: facts,
-- how one is supported, and the largest set of them (the project's own).
use Rattle.std.specs.Prelude.{◌≡◌, ◌<◌, ◌≤◌, ℕ, ◌+◌, ◌-◌, ℤ, Bool, false, IsTrue, ◌||◌, ◌==◌}
use Rattle.std.specs.Prelude.{List, length, Option, Some, None, slice_get, slice_index_or}
use Rattle.std.specs.Prelude.{if◌then◌else◌}
use Rattle.std.specs.Int.{w32, int_wrapping_add}
use Rattle.std.specs.List.{All, Contains}
use Rattle.std.specs.Ordering.{int_eq}
use Rattle.class_model.specs.declared.code.Code.{Code}
use Rattle.class_model.specs.declared.code.Handler.{Handler}
use Rattle.class_model.specs.declared.code.Ins.{Ins}
use Rattle.class_model.specs.declared.op.Kind.TheVariants as kind
use Rattle.class_model.specs.declared.op.Op.{Op}
use Rattle.class_model.specs.declared.op.Op.TheVariants as op
use Rattle.code_edit.specs.declared.change.Change.{Change}
use Rattle.code_edit.specs.declared.change.Change.TheVariants.{Keeps, Becomes, Adds, Clobbers}
use Rattle.code_edit.specs.Flow.{is_target, successors}

-- ---- what an instruction does to a local variable

-- the int that an instruction pushes
abbrev pub int_pushed : Op → Option ℤ
int_pushed (op.PushInt value) = Some value
int_pushed o = None

abbrev pub int_pushed_by : Option Ins → Option ℤ
int_pushed_by None = None
int_pushed_by (Some i) = int_pushed i.op

-- the int that the instruction directly before an index pushes, where the index is no target
abbrev pub pushed_before : Code → ℕ → Option ℤ
pushed_before code at =
    if (at == 0) || is_target code at then None else int_pushed_by (slice_get code.ins (at - 1))

-- a store of an int, of the one that was pushed directly before or of some other
abbrev pub stored : Option ℤ → Change
stored (Some value) = Becomes value
stored None = Clobbers

-- What an operation does to the int in a slot. A long takes its slot and the next one (JVMS 2.6.1).
abbrev pub change_of : Op → Option ℤ → ℕ → Change
change_of (op.Store kind.Int to) pushed slot = if to == slot then stored pushed else Keeps
change_of (op.Store kind.Long to) pushed slot =
    if (to == slot) || (to + 1 == slot) then Clobbers else Keeps
change_of (op.Store kind.Ref to) pushed slot = if to == slot then Clobbers else Keeps
change_of (op.Inc to by) pushed slot = if to == slot then Adds by else Keeps
change_of o pushed slot = Keeps

abbrev pub change_by : Option Ins → Option ℤ → ℕ → Change
change_by None pushed slot = Keeps
change_by (Some i) pushed slot = change_of i.op pushed slot

-- what the instruction at an index does to the int in a slot
abbrev pub change_at : Code → ℕ → ℕ → Change
change_at code slot at = change_by (slice_get code.ins at) (pushed_before code at) slot

-- ---- facts

-- a set of facts of one slot, as a test of an index and an int: before the instruction the slot
-- holds the int
abbrev pub Facts : Type 0
Facts = ℕ → ℤ → Bool

-- after the instruction p, which does this to the slot, it holds c; the sum wraps in 32 bits
abbrev pub Yields : Facts → ℕ → ℤ → Change → Type 0
Yields facts p c Keeps = IsTrue (facts p c)
Yields facts p c (Becomes value) = c ≡ value
Yields facts p c (Adds by) = (d : ℤ) × IsTrue (facts p d) × (c ≡ int_wrapping_add w32 d by)
Yields facts p c Clobbers = ⊥

-- A set is supported: its facts are at indices of the code, none at the first one and none where a
-- handler begins, and each holds after every instruction from which control may come.
pub record IsSupported (code : Code) (slot : ℕ) (facts : Facts) : Type 0 where
  pub within : (at : ℕ) (c : ℤ) → IsTrue (facts at c) → at < length code.ins
  pub first : (c : ℤ) → IsTrue (facts 0 c) → ⊥
  pub handlers : All (λ (h : Handler). (c : ℤ) → IsTrue (facts h.entry c) → ⊥) code.handlers
  pub flows : (p at : ℕ) (c : ℤ) → p < length code.ins → Contains (successors code p) at
      → IsTrue (facts at c) → Yields facts p c (change_at code slot p)

-- ---- the largest set

-- it is this int
abbrev pub is_int : Option ℤ → ℤ → Bool
is_int (Some value) z = int_eq value z
is_int None z = false

-- the int that a list has at an index, if it has one
abbrev pub int_in : List (Option ℤ) → ℕ → Option ℤ
int_in known at = slice_index_or known at None

-- the facts that a list tells: at most one at an index
abbrev pub told : List (Option ℤ) → Facts
told known at z = is_int (int_in known at) z

-- the list, an item for each instruction, tells a supported set that holds every supported set
pub record IsLargest (code : Code) (slot : ℕ) (known : List (Option ℤ)) : Type 0 where
  pub count : length known ≡ length code.ins
  pub supported : IsSupported code slot (told known)
  pub largest : (others : Facts) → IsSupported code slot others → (at : ℕ) (c : ℤ)
      → IsTrue (others at c) → int_in known at ≡ Some c

-- ---- codes without such a list

-- a set of indices that holds the first one, the successors of each that it holds, and where a
-- handler begins that covers one
pub record HoldsReached (code : Code) (set : ℕ → Bool) : Type 0 where
  pub first : IsTrue (set 0)
  pub next : (p at : ℕ) → p < length code.ins → IsTrue (set p) → Contains (successors code p) at
      → IsTrue (set at)
  pub handlers : All (λ (h : Handler). (p : ℕ) → IsTrue (set p) → h.from ≤ p → p < h.to
      → IsTrue (set h.entry)) code.handlers

-- control may come to each index: every such set holds it, so that reach leaves the code alone
abbrev pub IsAllReached : Code → Type 0
IsAllReached code = (at : ℕ) → at < length code.ins → (set : ℕ → Bool) → HoldsReached code set
    → IsTrue (set at)
