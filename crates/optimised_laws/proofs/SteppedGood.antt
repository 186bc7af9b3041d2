-- A code after steps that the passes found follows the format and names nothing more.
use Rattle.std.proofs.Common.{Bool, true, false, cond, List, [], ◌∷◌, sym, subst}
use Rattle.class_model.specs.WellFormed.{IsGoodCode}
use Rattle.class_model.specs.declared.code.Code.{Code}
use Rattle.code_edit.specs.declared.act.Pass.{Pass}
use Rattle.code_edit.specs.declared.act.PassEdits.{PassEdits}
use Rattle.code_edit.specs.Legal.{AreRightActs}
use Rattle.code_edit.specs.Passes.{IsFound}
use Rattle.code_edit.specs.SoundCode.{IsSound}
use Rattle.edit_premises.proofs.EditedSound.{applied_sound}
use Rattle.frame_rebuild.specs.Rebuilt.{rebuilt}
use Rattle.pass_driver.specs.Stepped.{AreFound, is_some_act, step_after, stepped}
use Rattle.optimised_laws.proofs.NamingLess.{then_less}
use Rattle.rebuild_laws.proofs.Kept.{rebuilt_follows}
use Rattle.rebuild_laws.proofs.Naming.{rebuilt_less}
use Rattle.swap_laws.specs.Swapped.{NamesLess}

-- a sound code that follows the format, and names nothing but what another one names
pub record IsFit (own code : Code) : Type 0 where
  pub less : NamesLess own code
  pub good : IsGoodCode code
  pub sound : IsSound code

module _ (own : Code) where
  step_fit : (s : PassEdits) (code : Code) → AreRightActs s.pass s.acts code → IsFit own code
      → IsFit own (step_after s code)
  step_fit s code right h = by (is_some_act s.acts)
    where
      by : (b : Bool) → IsFit own (cond b (rebuilt s.pass s.acts code) code)
      by true =
          let sound = applied_sound s.pass s.acts code right h.sound in
          record {
            less = then_less own code h.less (rebuilt s.pass s.acts code) (rebuilt_less s.pass s.acts code);
            good = rebuilt_follows s.pass s.acts code right h.sound h.good;
            sound = record { some = sound.some; jump = sound.jump; handlers = sound.handlers; last = sound.last };
          }
      by false = h

  pub stepped_fit : ((p : Pass) (s : PassEdits) (code : Code) → IsFound p code s.acts → IsSound code
      → AreRightActs p s.acts code) → (passes : List Pass) (steps : List PassEdits) (code : Code)
      → AreFound passes steps code → IsFit own code → IsFit own (stepped steps code)
  stepped_fit legal [] [] code found h = h
  stepped_fit legal [] (s ∷ steps) code found h = absurd found
  stepped_fit legal (p ∷ passes) [] code found h = absurd found
  stepped_fit legal (p ∷ passes) (s ∷ steps) code found h =
      stepped_fit legal passes steps (step_after s code) found.2
      (step_fit s code
      (subst (λ (q : Pass). AreRightActs q s.acts code) (sym found.0) (legal p s code found.1 h.sound)) h)
