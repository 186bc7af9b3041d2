-- What steps make of a code, as it is found (only the proofs of bodies need it).
use Rattle.std.specs.Prelude.{◌≡◌, List, Option, Some, None}
use Rattle.class_model.specs.declared.code.Code.{Code}
use Rattle.code_edit.specs.Applied.{applied, edited}
use Rattle.code_edit.specs.Legal.{AreLegal}
use Rattle.code_edit.specs.SoundCode.{IsSound}
use Rattle.code_edit.specs.declared.act.PassEdits.{PassEdits}
use Rattle.pair_edits.specs.Edits.{AreLegalSteps}
use Rattle.pair_edits.specs.declared.after.Edited.{Edited}
use Rattle.pair_edits.specs.declared.after.Edited.TheVariants as found

-- the code after one step, or none where an act isn't legal
abbrev pub IsStepped : Code → PassEdits → Option Code → Type 0
IsStepped code step None = AreLegal step.pass step.acts code → ⊥
IsStepped code step (Some after) =
    AreLegal step.pass step.acts code × (after ≡ applied step.pass step.acts code) × IsSound after

-- the code after all steps, or the own one where there is none, or an act isn't legal
abbrev pub IsEdited : Code → List PassEdits → Edited → Type 0
IsEdited code steps found.Own = AreLegalSteps steps code × (edited steps code ≡ code)
IsEdited code steps (found.After after) = AreLegalSteps steps code × (after ≡ edited steps code)
IsEdited code steps found.Illegal = AreLegalSteps steps code → ⊥
