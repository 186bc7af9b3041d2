-- When the acts of a step are legal, and which one is the first that isn't (the project's own).
use Rattle.std.specs.Prelude.{◌≡◌, ◌<◌, ◌≤◌, ℕ, ◌+◌, ◌&&◌, ◌||◌, ◌==◌, List, [], ◌∷◌, Some}
use Rattle.std.specs.Prelude.{Bool, true, false, length, nat_le, slice_get}
use Rattle.std.specs.List.{AllByRecursion}
use Rattle.class_model.specs.declared.code.Code.{Code}
use Rattle.class_model.specs.declared.code.Handler.{Handler}
use Rattle.class_model.specs.declared.code.Ins.{Ins}
use Rattle.code_edit.specs.declared.act.Act.{Act}
use Rattle.code_edit.specs.declared.act.Act.TheVariants as act
use Rattle.code_edit.specs.declared.act.Pass.{Pass}
use Rattle.code_edit.specs.declared.act.Pass.TheVariants.{Reach, Const, Slots, Jumps}
use Rattle.code_edit.specs.declared.act.PassEdits.{PassEdits}
use Rattle.code_edit.specs.Applied.{applied, in_place, lives_of}
use Rattle.code_edit.specs.Constants.{IsLegalConst, takes_along}
use Rattle.code_edit.specs.Flow.{covers, targets}
use Rattle.code_edit.specs.Jumps.{IsLegalJump}
use Rattle.code_edit.specs.Reach.{IsLegalDrop}
use Rattle.code_edit.specs.Slots.{IsLegalCut}

-- an act is right for the code among all acts of its step, of this pass; acts that name its place
-- aside
abbrev pub IsRightAct : Pass → List Act → Code → Act → Type 0
IsRightAct Reach acts code a = IsLegalDrop acts code a
IsRightAct Slots acts code a = IsLegalCut acts code a
IsRightAct Jumps acts code a = IsLegalJump acts code a
IsRightAct Const acts code a = IsLegalConst acts code a

-- each act of a step is so: what the laws ask
abbrev pub AreRightActs : Pass → List Act → Code → Type 0
AreRightActs pass acts code = AllByRecursion (IsRightAct pass acts code) acts

-- two acts of one kind name one place: drops an index, facts an index and a slot, an aim a target of
-- an index, any other the index itself
abbrev pub share_place : Act → Act → Bool
share_place (act.Drop from to) (act.Drop start end) = nat_le from end && nat_le start to
share_place (act.Fact from to slot value) (act.Fact start end named other) =
    slot == named && (nat_le from end && nat_le start to)
share_place (act.Fold at to) (act.Fold place other) = at == place
share_place (act.Cut at) (act.Cut place) = at == place
share_place (act.Aim at which to) (act.Aim place number other) = at == place && which == number
share_place (act.Skip at) (act.Skip place) = at == place
share_place a b = false

-- ---- the last index

-- after the acts, which are all those of the step, nothing lives at the index or behind it
abbrev pub IsPastLast : Pass → List Act → Code → ℕ → Type 0
IsPastLast pass acts code at =
    (k : ℕ) → at ≤ k → k < length code.ins → lives_of pass acts code k ≡ false

-- after the acts a branch or switch that lives leads to the index, or a handler that covers
-- something that lives begins there
pub data IsStillAimedAt (pass : Pass) (acts : List Act) (code : Code) (at : ℕ) : Type 0 where
  branch : (from which : ℕ) (i : Ins) → lives_of pass acts code from ≡ true
      → slice_get (in_place pass acts code).ins from ≡ Some i
      → slice_get (targets i.op) which ≡ Some at → IsStillAimedAt pass acts code at
  entry : (k from : ℕ) (h : Handler) → slice_get code.handlers k ≡ Some h → from < length code.ins
      → lives_of pass acts code from ≡ true → covers h from ≡ true → at ≡ h.entry
      → IsStillAimedAt pass acts code at

-- the act makes the index go: a fold takes its operands along, a cut may take the push before its
-- store
abbrev pub is_dropped_by : Code → ℕ → Act → Bool
is_dropped_by code at (act.Drop from to) = nat_le from at && nat_le at to
is_dropped_by code at (act.Fold place to) = takes_along code place to at
is_dropped_by code at (act.Cut place) = at == place || at + 1 == place
is_dropped_by code at (act.Skip place) = at == place
is_dropped_by code at a = false

-- Nothing is still aimed at an index that the act drops and behind which nothing lives. Right acts
-- never leave such an index in a sound code; where some act isn't right, this says which one is
-- told.
abbrev pub KeepsLast : Pass → List Act → Code → Act → Type 0
KeepsLast pass acts code a =
    (at : ℕ) → is_dropped_by code at a ≡ true → lives_of pass acts code at ≡ false
    → IsStillAimedAt pass acts code at → IsPastLast pass acts code at → ⊥

-- ---- legal acts

-- the act of this number is legal: it is right, no act before it names its place, and it moves
-- nothing that is still aimed at past the last index
abbrev pub IsLegalAt : Pass → List Act → Code → ℕ → Act → Type 0
IsLegalAt pass acts code k a =
    IsRightAct pass acts code a
    × ((before : ℕ) (b : Act) → before < k → slice_get acts before ≡ Some b
    → share_place b a ≡ false)
    × KeepsLast pass acts code a

-- all acts of a step are legal
abbrev pub AreLegal : Pass → List Act → Code → Type 0
AreLegal pass acts code = (k : ℕ) (a : Act) → slice_get acts k ≡ Some a
    → IsLegalAt pass acts code k a

-- the act of this number is the first that isn't legal
abbrev pub IsFirstFault : Pass → List Act → Code → ℕ → Type 0
IsFirstFault pass acts code k =
    ((before : ℕ) (b : Act) → before < k → slice_get acts before ≡ Some b
    → IsLegalAt pass acts code before b)
    × (a : Act) × (slice_get acts k ≡ Some a) × (IsLegalAt pass acts code k a → ⊥)

-- the acts of each step are right for the code that the steps before it left
abbrev pub AreRightSteps : List PassEdits → Code → Type 0
AreRightSteps [] code = Unit {0}
AreRightSteps (s ∷ steps) code =
    AreRightActs s.pass s.acts code × AreRightSteps steps (applied s.pass s.acts code)
