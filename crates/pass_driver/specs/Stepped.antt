-- The code of a method after the steps of the passes, with its frames (the project's own).
use Rattle.std.specs.Prelude.{◌≡◌, Bool, true, false, List, [], ◌∷◌, if◌then◌else◌}
use Rattle.std.specs.List.{list_any}
use Rattle.class_model.specs.declared.code.Code.{Code}
use Rattle.code_edit.specs.declared.act.Act.{Act}
use Rattle.code_edit.specs.declared.act.Pass.{Pass}
use Rattle.code_edit.specs.declared.act.PassEdits.{PassEdits}
use Rattle.code_edit.specs.Acts.{step_passes}
use Rattle.code_edit.specs.Passes.{IsFound}
use Rattle.frame_rebuild.specs.Rebuilt.{rebuilt}

abbrev pub is_some_act : List Act → Bool
is_some_act [] = false
is_some_act (a ∷ acts) = true

-- the code after a step: with its frames after the acts, or as it is where there is none
abbrev pub step_after : PassEdits → Code → Code
step_after s code = if is_some_act s.acts then rebuilt s.pass s.acts code else code

-- and after steps, one after another
abbrev pub stepped : List PassEdits → Code → Code
stepped [] code = code
stepped (s ∷ steps) code = stepped steps (step_after s code)

-- a step of each of these passes, with the acts that the pass finds on what the steps before left
abbrev pub AreFound : List Pass → List PassEdits → Code → Type 0
AreFound [] [] code = Unit {0}
AreFound (p ∷ passes) (s ∷ steps) code =
    (s.pass ≡ p) × IsFound p code s.acts × AreFound passes steps (step_after s code)
AreFound passes steps code = ⊥

-- some step has an act
abbrev pub has_act : List PassEdits → Bool
has_act steps = list_any (λ (s : PassEdits). is_some_act s.acts) steps

-- the six steps of a code, as the passes give them
abbrev pub AreSteps : List PassEdits → Code → Type 0
AreSteps steps code = AreFound step_passes steps code
