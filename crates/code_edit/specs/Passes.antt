-- Which acts each pass finds on a code (the project's own).
use Rattle.std.specs.Prelude.{◌≡◌, ◌<◌, ℕ, suc, ◌+◌, ◌-◌, ◌==◌, not, List, [], ◌∷◌, ◌++◌, Option, Some}
use Rattle.std.specs.Prelude.{None, Bool, true, false, length, slice_get, slice_index_or}
use Rattle.std.specs.Prelude.{if◌then◌else◌}
use Rattle.std.specs.Option.{unwrap_or}
use Rattle.class_model.specs.declared.code.Code.{Code}
use Rattle.class_model.specs.declared.code.Handler.{Handler}
use Rattle.class_model.specs.declared.code.Ins.{Ins}
use Rattle.class_model.specs.declared.op.Op.{Op}
use Rattle.class_model.specs.declared.op.Op.TheVariants as op
use Rattle.code_edit.specs.declared.act.Act.{Act}
use Rattle.code_edit.specs.declared.act.Act.TheVariants as act
use Rattle.code_edit.specs.declared.act.Pass.{Pass}
use Rattle.code_edit.specs.declared.act.Pass.TheVariants.{Reach, Const, Slots, Jumps}
use Rattle.code_edit.specs.ConstEdits.{IsConstEdits}
use Rattle.code_edit.specs.Flow.{covers, of_ins, successors_of, targets}
use Rattle.code_edit.specs.Jumps.{LeadsTo, is_goto, skip_target}
use Rattle.code_edit.specs.Slots.{is_loaded}

-- ---- reach

-- Control reaches the index: it is the first one, a successor of one that control reaches, or the
-- entry of a handler that covers such a one (JVMS 2.10, 2.11.7). This is the least such set.
pub data IsReached (code : Code) : ℕ → Type 0 where
  first : {at : ℕ} → at ≡ 0 → IsReached code at
  led_to : {at : ℕ} (from k : ℕ) (i : Ins) → IsReached code from
      → slice_get code.ins from ≡ Some i
      → slice_get (successors_of (length code.ins) from i.op) k ≡ Some at → IsReached code at
  entered : {at : ℕ} (from k : ℕ) (h : Handler) → IsReached code from → from < length code.ins
      → slice_get code.handlers k ≡ Some h → covers h from ≡ true → at ≡ h.entry
      → IsReached code at

-- the marks are those of the indices that control reaches
pub record TellsReached (code : Code) (marks : List Bool) : Type 0 where
  pub long : length marks ≡ length code.ins
  pub only : (at : ℕ) → slice_index_or marks at false ≡ true → IsReached code at
  pub all : (at : ℕ) → at < length code.ins → IsReached code at
      → slice_index_or marks at false ≡ true

-- a drop of the indices up to an index, from the one where a run began, if one did
abbrev pub run_up_to : ℕ → Option ℕ → List Act
run_up_to at None = []
run_up_to at (Some from) = act.Drop from (at - 1) ∷ []

-- a drop of each maximal run of indices without a mark, in their order; the first index is at, and
-- before it a run may have begun
abbrev pub runs : ℕ → Option ℕ → List Bool → List Act
runs at began [] = run_up_to at began
runs at began (true ∷ marks) = run_up_to at began ++ runs (suc at) None marks
runs at began (false ∷ marks) = runs (suc at) (Some (unwrap_or began at)) marks

-- the acts of reach: a drop of each maximal run of indices that control doesn't reach
abbrev pub IsReachEdits : Code → List Act → Type 0
IsReachEdits code acts =
    (marks : List Bool) × TellsReached code marks × (acts ≡ runs 0 None marks)

-- ---- slots

-- the operation stores or adds to a local variable that no load of the code names
abbrev pub is_unused : Code → Op → Bool
is_unused code (op.Store kind slot) = not (is_loaded code slot)
is_unused code (op.Inc slot by) = not (is_loaded code slot)
is_unused code o = false

-- a cut of each such instruction, in their order, the first one's index being at
abbrev pub cuts_from : Code → ℕ → List Ins → List Act
cuts_from code at [] = []
cuts_from code at (i ∷ ins) =
    if is_unused code i.op then act.Cut at ∷ cuts_from code (suc at) ins
    else cuts_from code (suc at) ins

-- the acts of slots
abbrev pub slots_edits : Code → List Act
slots_edits code = cuts_from code 0 code.ins

-- ---- jumps

-- gotos lead there, and it holds none
abbrev pub IsEnd : Code → ℕ → ℕ → Type 0
IsEnd code from to = LeadsTo code from to × (of_ins is_goto code to ≡ false)

-- the chain of gotos from an index has this end, or none where it runs into a circle
abbrev pub EndIs : Code → ℕ → Option ℕ → Type 0
EndIs code from None = (to : ℕ) → IsEnd code from to → ⊥
EndIs code from (Some to) = IsEnd code from to

-- the ends of all chains
abbrev pub TellsEnds : Code → (ℕ → Option ℕ) → Type 0
TellsEnds code ends = (from : ℕ) → from < length code.ins → EndIs code from (ends from)

module _ (ends : ℕ → Option ℕ) where
  -- where a target leads after the pass: to the end of its chain, where it has one
  abbrev pub end_of : ℕ → ℕ
  end_of to = unwrap_or (ends to) to

  -- an aim of each target that isn't the end of its chain, the first one having the number which
  abbrev pub aims_on : ℕ → ℕ → List ℕ → List Act
  aims_on at which [] = []
  aims_on at which (to ∷ tos) =
      if end_of to == to then aims_on at (suc which) tos
      else act.Aim at which (end_of to) ∷ aims_on at (suc which) tos

  abbrev pub aims_from : ℕ → List Ins → List Act
  aims_from at [] = []
  aims_from at (i ∷ ins) = aims_on at 0 (targets i.op) ++ aims_from (suc at) ins

  -- a branch that may be skipped then leads to the next index
  abbrev pub leads_next : ℕ → Option ℕ → Bool
  leads_next at None = false
  leads_next at (Some to) = end_of to == at + 1

  -- a skip of each such branch, in their order, the first one's index being at
  abbrev pub skips_from : ℕ → List Ins → List Act
  skips_from at [] = []
  skips_from at (i ∷ ins) =
      if leads_next at (skip_target i.op) then act.Skip at ∷ skips_from (suc at) ins
      else skips_from (suc at) ins

-- the acts of jumps: first the aims, then the skips
abbrev pub IsJumpsEdits : Code → List Act → Type 0
IsJumpsEdits code acts =
    (ends : ℕ → Option ℕ) × TellsEnds code ends
    × (acts ≡ aims_from ends 0 code.ins ++ skips_from ends 0 code.ins)

-- ---- all

-- the acts of a pass on a code
abbrev pub IsFound : Pass → Code → List Act → Type 0
IsFound Reach code acts = IsReachEdits code acts
IsFound Const code acts = IsConstEdits code acts
IsFound Slots code acts = acts ≡ slots_edits code
IsFound Jumps code acts = IsJumpsEdits code acts
