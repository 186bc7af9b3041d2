-- A step leaves a sound code sound, and each code at a spot is sound.
use Rattle.std.proofs.Common.{Bool, true, false, cond, List}
use Rattle.jv_base.proofs.Lists.{all_from}
use Rattle.class_model.specs.declared.class.Class.{Class}
use Rattle.class_model.specs.declared.class.Method.{Method}
use Rattle.class_model.specs.declared.code.Code.{Code}
use Rattle.code_edit.specs.declared.act.Act.{Act}
use Rattle.code_edit.specs.declared.act.Pass.{Pass}
use Rattle.code_edit.specs.declared.act.PassEdits.{PassEdits}
use Rattle.code_edit.specs.Legal.{AreRightActs, IsRightAct}
use Rattle.code_edit.specs.Passes.{IsFound}
use Rattle.code_edit.specs.SoundCode.{IsSound}
use Rattle.edit_laws.proofs.FoundLegal.{found_legal}
use Rattle.edit_premises.proofs.EditedSound.{applied_sound}
use Rattle.flow_laws.proofs.LastGoes.{typed_sound}
use Rattle.frame_rebuild.specs.Rebuilt.{rebuilt}
use Rattle.image_laws.specs.TakenSet.TakenSet.{IsTaken}
use Rattle.pass_driver.specs.Optimised.{IsAt}
use Rattle.pass_driver.specs.Stepped.{is_some_act, step_after}
use Rattle.pass_driver.specs.declared.spots.Spot.{Spot}
use Rattle.type_verifier.specs.Verified.{AreTyped}

-- what a pass finds on a sound code is right
pub found_right : (p : Pass) (acts : List Act) (code : Code) → IsFound p code acts → IsSound code
    → AreRightActs p acts code
found_right p acts code found sound =
    all_from (IsRightAct p acts code) acts (λ k a at. (found_legal p acts code found sound k a at).0)

pub step_sound : (s : PassEdits) (code : Code) → IsFound s.pass code s.acts → IsSound code
    → IsSound (step_after s code)
step_sound s code found sound = by (is_some_act s.acts)
  where
    by : (b : Bool) → IsSound (cond b (rebuilt s.pass s.acts code) code)
    by true =
        let k = applied_sound s.pass s.acts code (found_right s.pass s.acts code found sound) sound in
        record { some = k.some; jump = k.jump; handlers = k.handlers; last = k.last }
    by false = sound

pub spot_sound : (classes : List Class) → IsTaken classes → AreTyped classes → (s : Spot) (c : Class) (m : Method)
    (code : Code) → IsAt classes s c m code → IsSound code
spot_sound classes taken typed s c m code at =
    typed_sound classes s.class c s.method m code (taken.formed s.class c at.in_set) at.in_set at.in_class at.has typed
