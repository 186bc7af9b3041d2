-- What the six steps leave of a code, with frames, is what the acts of the witness leave, without: and these are legal.
use Rattle.std.proofs.Common.{◌≡◌, Bool, true, false, cond, List, [], ◌∷◌, map, refl, sym, ap, subst, ◌∙◌}
use Rattle.class_model.specs.declared.code.Code.{Code}
use Rattle.class_model.specs.declared.frame.FrameAt.{FrameAt}
use Rattle.code_edit.specs.Acts.{step_passes}
use Rattle.code_edit.specs.Applied.{applied, edited}
use Rattle.code_edit.specs.Legal.{AreLegal, AreRightActs}
use Rattle.code_edit.specs.Passes.{IsFound}
use Rattle.code_edit.specs.SoundCode.{IsSound}
use Rattle.code_edit.specs.declared.act.Act.{Act}
use Rattle.code_edit.specs.declared.act.Pass.{Pass}
use Rattle.code_edit.specs.declared.act.Pass.TheVariants.{Reach, Const, Slots, Jumps}
use Rattle.code_edit.specs.declared.act.PassEdits.{PassEdits}
use Rattle.edit_premises.proofs.EditedSound.{applied_sound}
use Rattle.frame_rebuild.specs.Rebuilt.{rebuilt}
use Rattle.pair_edits.specs.Edits.{AreLegalSteps}
use Rattle.pass_driver.specs.Stepped.{AreFound, AreSteps, is_some_act, step_after, stepped}
use Rattle.pair_laws.proofs.OptimisedPairs.IdleSteps.{idle_stays}
use Rattle.pair_laws.proofs.OptimisedPairs.LegalActs.{framed, legal_right, legal_there}

-- what a pass finds on a sound code is legal
abbrev pub FindsLegal : Type 0
FindsLegal = (p : Pass) (acts : List Act) (code : Code) → IsFound p code acts → IsSound code → AreLegal p acts code

-- ---- one step

applied_bare : (p : Pass) (acts : List Act) (code : Code) (frames : List FrameAt)
    → applied p acts (framed code frames) ≡ framed (rebuilt p acts code) []
applied_bare Reach acts code frames = refl
applied_bare Const acts code frames = refl
applied_bare Slots acts code frames = refl
applied_bare Jumps acts code frames = refl

applied_own : (p : Pass) (acts : List Act) (code : Code) (frames : List FrameAt)
    → applied p acts (framed code frames) ≡ applied p acts code
applied_own Reach acts code frames = refl
applied_own Const acts code frames = refl
applied_own Slots acts code frames = refl
applied_own Jumps acts code frames = refl

step_bare : (p : Pass) (acts : List Act) (code : Code) (frames : List FrameAt) → IsSound code
    → applied p acts (framed code frames) ≡ framed (cond (is_some_act acts) (rebuilt p acts code) code) []
step_bare p [] code frames sound = applied_own p [] code frames ∙ idle_stays p code sound
step_bare p (a ∷ acts) code frames sound = applied_bare p (a ∷ acts) code frames

pub step_sound : (s : PassEdits) (code : Code) → AreRightActs s.pass s.acts code → IsSound code
    → IsSound (step_after s code)
step_sound s code right sound = by (is_some_act s.acts)
  where
    by : (b : Bool) → IsSound (cond b (rebuilt s.pass s.acts code) code)
    by true =
        let after = applied_sound s.pass s.acts code right sound in
        record { some = after.some; jump = after.jump; handlers = after.handlers; last = after.last }
    by false = sound

-- ---- all of them

module _ (legal : FindsLegal) where
  pub step_legal : (p : Pass) (s : PassEdits) (code : Code) → s.pass ≡ p → IsFound p code s.acts → IsSound code
      → AreLegal s.pass s.acts code
  step_legal p s code is found sound =
      subst (λ (q : Pass). AreLegal q s.acts code) (sym is) (legal p s.acts code found sound)

  next_sound : (p : Pass) (s : PassEdits) (code : Code) → s.pass ≡ p → IsFound p code s.acts → IsSound code
      → IsSound (step_after s code)
  next_sound p s code is found sound =
      step_sound s code (legal_right s.pass s.acts code (step_legal p s code is found sound)) sound

  legal_from : (passes : List Pass) (steps : List PassEdits) (code : Code) (frames : List FrameAt)
      → AreFound passes steps code → IsSound code → AreLegalSteps steps (framed code frames)
  legal_from [] [] code frames found sound = tt
  legal_from [] (s ∷ steps) code frames found sound = absurd found
  legal_from (p ∷ passes) [] code frames found sound = absurd found
  legal_from (p ∷ passes) (s ∷ steps) code frames found sound = (
    legal_there code frames s.pass s.acts (step_legal p s code found.0 found.1 sound),
    subst (AreLegalSteps steps) (sym (step_bare s.pass s.acts code frames sound))
        (legal_from passes steps (step_after s code) [] found.2 (next_sound p s code found.0 found.1 sound)),
  )

  edited_from : (passes : List Pass) (steps : List PassEdits) (code : Code) (frames : List FrameAt)
      → AreFound passes steps code → IsSound code
      → (others : List FrameAt) × (edited steps (framed code frames) ≡ framed (stepped steps code) others)
  edited_from [] [] code frames found sound = (frames, refl)
  edited_from [] (s ∷ steps) code frames found sound = absurd found
  edited_from (p ∷ passes) [] code frames found sound = absurd found
  edited_from (p ∷ passes) (s ∷ steps) code frames found sound =
      let rest = edited_from passes steps (step_after s code) [] found.2
      (next_sound p s code found.0 found.1 sound) in
      (rest.0, ap (edited steps) (step_bare s.pass s.acts code frames sound) ∙ rest.1)

  -- the acts of the steps are legal, each on what the steps before leave without frames
  pub steps_legal : (steps : List PassEdits) (code : Code) → AreSteps steps code → IsSound code
      → AreLegalSteps steps code
  steps_legal steps code found sound = legal_from step_passes steps code code.frames found sound

  -- and what they leave differs from what the steps leave in frames alone
  pub edited_is : (steps : List PassEdits) (code : Code) → AreSteps steps code → IsSound code
      → (others : List FrameAt) × (edited steps code ≡ framed (stepped steps code) others)
  edited_is steps code found sound = edited_from step_passes steps code code.frames found sound

-- the passes of the steps are the six
pub passes_are : (passes : List Pass) (steps : List PassEdits) (code : Code) → AreFound passes steps code
    → map (λ (s : PassEdits). s.pass) steps ≡ passes
passes_are [] [] code found = refl
passes_are [] (s ∷ steps) code found = absurd found
passes_are (p ∷ passes) [] code found = absurd found
passes_are (p ∷ passes) (s ∷ steps) code found =
    λ i. found.0 i ∷ passes_are passes steps (step_after s code) found.2 i
