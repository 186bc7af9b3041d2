-- Reach leaves out what control never reaches: what its acts make of a code, and when one is legal
-- (the project's own).
use Rattle.std.specs.Prelude.{◌≡◌, ◌≤◌, ◌<◌, ℕ, not, ◌&&◌, List, Some, Bool, true, false, nat_le}
use Rattle.std.specs.Prelude.{length, slice_get}
use Rattle.std.specs.List.{AllByRecursion, list_any}
use Rattle.class_model.specs.declared.code.Code.{Code}
use Rattle.class_model.specs.declared.code.Handler.{Handler}
use Rattle.class_model.specs.declared.code.Ins.{Ins}
use Rattle.code_edit.specs.declared.act.Act.{Act}
use Rattle.code_edit.specs.declared.act.Act.TheVariants as act
use Rattle.code_edit.specs.Flow.{covers, successors_of}
use Rattle.code_edit.specs.Rewriting.{compacted}

-- ---- what the acts do

-- an act drops the index; a range has both its ends
abbrev pub drops : ℕ → Act → Bool
drops at (act.Drop from to) = nat_le from at && nat_le at to
drops at a = false

-- no act drops it
abbrev pub is_left : List Act → ℕ → Bool
is_left acts at = not (list_any (drops at) acts)

-- the code after the acts
abbrev pub left_code : List Act → Code → Code
left_code acts code = compacted (is_left acts) code

-- ---- which acts are legal

-- Control needs the index: it is the first one, a successor of one that all acts of the step leave,
-- or the entry of a handler that covers such a one.
pub data IsNeeded (acts : List Act) (code : Code) (at : ℕ) : Type 0 where
  first : at ≡ 0 → IsNeeded acts code at
  led_to : (from k : ℕ) (i : Ins) → is_left acts from ≡ true → slice_get code.ins from ≡ Some i
      → slice_get (successors_of (length code.ins) from i.op) k ≡ Some at → IsNeeded acts code at
  entered : (k from : ℕ) (h : Handler) → slice_get code.handlers k ≡ Some h → from < length code.ins
      → is_left acts from ≡ true → covers h from ≡ true → at ≡ h.entry → IsNeeded acts code at

-- a drop of indices of the code, of which control needs none; acts before it that name one of them
-- aside
abbrev pub IsLegalDrop : List Act → Code → Act → Type 0
IsLegalDrop acts code (act.Drop from to) =
    (from ≤ to) × (to < length code.ins)
    × ((at : ℕ) → from ≤ at → at ≤ to → IsNeeded acts code at → ⊥)
IsLegalDrop acts code a = ⊥

abbrev pub AreLegalDrops : List Act → Code → Type 0
AreLegalDrops acts code = AllByRecursion (IsLegalDrop acts code) acts
