-- What becomes of the code of a method (the project's own).
use Rattle.std.specs.Prelude.{◌≡◌, ℕ, true, false, List, Some, slice_get}
use Rattle.class_model.specs.declared.class.Class.{Class}
use Rattle.class_model.specs.declared.class.Method.{Method}
use Rattle.class_model.specs.declared.code.Code.{Code}
use Rattle.code_edit.specs.declared.act.PassEdits.{PassEdits}
use Rattle.pass_driver.specs.Stepped.{AreSteps, has_act, stepped}
use Rattle.pass_driver.specs.declared.judging.Outcome.{Outcome}
use Rattle.pass_driver.specs.declared.judging.Outcome.TheVariants.{Own, Edited, Fallback}
use Rattle.type_verifier.specs.Verified.{IsTypedAt}
use Rattle.type_verifier.specs.WithCode.{set_with_code}

-- the method of this class and number is typed with this code (JVMS 4.10.1)
abbrev pub IsTypedWith : List Class → ℕ → ℕ → Code → Type 0
IsTypedWith classes own number code = IsTypedAt (set_with_code classes own number code) own number

-- what becomes of the code of the method of this class and number: its own where no step has an act; the one after the
-- steps, where it is typed; else its own again
abbrev pub IsOutcome : List Class → ℕ → ℕ → Code → Outcome → Type 0
IsOutcome classes own number code Own =
    (steps : List PassEdits) × AreSteps steps code × (has_act steps ≡ false)
IsOutcome classes own number code (Edited after edits) =
    AreSteps edits.steps code × (has_act edits.steps ≡ true) × (after ≡ stepped edits.steps code)
    × IsTypedWith classes own number after
IsOutcome classes own number code Fallback =
    (steps : List PassEdits) × AreSteps steps code × (has_act steps ≡ true)
    × (IsTypedWith classes own number (stepped steps code) → ⊥)
