-- Right acts of a pass leave a sound code sound, and so do steps of them.
use Rattle.std.proofs.Common.{List, [], ◌∷◌}
use Rattle.class_model.specs.declared.code.Code.{Code}
use Rattle.code_edit.specs.declared.act.Act.{Act}
use Rattle.code_edit.specs.declared.act.Pass.{Pass}
use Rattle.code_edit.specs.declared.act.Pass.TheVariants.{Reach, Const, Slots, Jumps}
use Rattle.code_edit.specs.declared.act.PassEdits.{PassEdits}
use Rattle.code_edit.specs.Applied.{applied, edited}
use Rattle.code_edit.specs.Legal.{AreRightActs, AreRightSteps}
use Rattle.code_edit.specs.Reach.{is_left}
use Rattle.code_edit.specs.SoundCode.{IsSound}
use Rattle.edit_premises.proofs.AppliedSound.{closed_leaves, jumps_sound, slots_sound}
use Rattle.edit_premises.proofs.FoldsSound.{folds_sound}
use Rattle.edit_premises.proofs.Reaching.{closed}
use Rattle.edit_premises.proofs.StaysSound.{compacted_sound}

pub applied_sound : (p : Pass) (acts : List Act) (code : Code) → AreRightActs p acts code
    → IsSound code → IsSound (applied p acts code)
applied_sound Reach acts code legal sound =
    compacted_sound (is_left acts) code
    (closed_leaves (is_left acts) code (closed acts code legal) sound) sound
applied_sound Const acts code legal sound = folds_sound acts code legal sound
applied_sound Slots acts code legal sound = slots_sound acts code sound
applied_sound Jumps acts code legal sound = jumps_sound acts code sound legal

pub edited_sound : (steps : List PassEdits) (code : Code) → AreRightSteps steps code → IsSound code
    → IsSound (edited steps code)
edited_sound [] code legal sound = sound
edited_sound (s ∷ steps) code legal sound =
    edited_sound steps (applied s.pass s.acts code) legal.1
    (applied_sound s.pass s.acts code legal.0 sound)
