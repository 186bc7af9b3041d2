-- A code after the acts of one step, and of several (the project's own).
use Rattle.std.specs.Prelude.{ℕ, not, List, [], ◌∷◌, Bool}
use Rattle.class_model.specs.declared.code.Code.{Code}
use Rattle.code_edit.specs.declared.act.Act.{Act}
use Rattle.code_edit.specs.declared.act.Pass.{Pass}
use Rattle.code_edit.specs.declared.act.Pass.TheVariants.{Reach, Const, Slots, Jumps}
use Rattle.code_edit.specs.declared.act.PassEdits.{PassEdits}
use Rattle.code_edit.specs.Constants as constants
use Rattle.code_edit.specs.Constants.{folded, folded_code}
use Rattle.code_edit.specs.Jumps.{jumped, jumped_code, stays}
use Rattle.code_edit.specs.Reach.{is_left, left_code}
use Rattle.code_edit.specs.Rewriting.{rewritten}
use Rattle.code_edit.specs.Slots.{goes, slotted, slotted_code}

-- which indices the acts of a pass leave
abbrev pub lives_of : Pass → List Act → Code → ℕ → Bool
lives_of Reach acts code at = is_left acts at
lives_of Slots acts code at = not (goes acts code at)
lives_of Jumps acts code at = stays acts code at
lives_of Const acts code at = not (constants.goes acts code at)

-- the code after the acts, each instruction still at its index
abbrev pub in_place : Pass → List Act → Code → Code
in_place Reach acts code = code
in_place Slots acts code = rewritten (slotted acts code) code
in_place Jumps acts code = rewritten (jumped acts) code
in_place Const acts code = rewritten (folded acts code) code

-- the code after the acts of a pass, without frames
abbrev pub applied : Pass → List Act → Code → Code
applied Reach acts code = left_code acts code
applied Slots acts code = slotted_code acts code
applied Jumps acts code = jumped_code acts code
applied Const acts code = folded_code acts code

-- the code after the steps, one after another
abbrev pub edited : List PassEdits → Code → Code
edited [] code = code
edited (s ∷ steps) code = edited steps (applied s.pass s.acts code)
