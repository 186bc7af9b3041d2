-- What steps make of a code, step by step.
use Rattle.std.proofs.Common.{◌≡◌, ◌+◌, ℕ, List, [], ◌∷◌, drop, slice_get, Some, None, sym, ap, subst, ◌∙◌}
use Rattle.class_model.specs.declared.code.Code.{Code}
use Rattle.code_edit.specs.Applied.{applied, edited}
use Rattle.code_edit.specs.Legal.{AreLegal, IsFirstFault}
use Rattle.code_edit.specs.SoundCode.{IsSound}
use Rattle.code_edit.specs.declared.act.Act.{Act}
use Rattle.code_edit.specs.declared.act.Pass.{Pass}
use Rattle.code_edit.specs.declared.act.PassEdits.{PassEdits}
use Rattle.pair_clauses.proofs.Zipped.{drop_none, drop_some}
use Rattle.pair_edits.specs.Edits.{AreLegalSteps}

-- acts of which one is told aren't legal
pub told_illegal : (p : Pass) (acts : List Act) (code : Code) (k : ℕ) → IsFirstFault p acts code k → AreLegal p acts code
    → ⊥
told_illegal p acts code k fault legal = fault.3 (legal k fault.1 fault.2)

-- the steps from here on make of this code what all make of the first one
pub record IsSoFar (steps : List PassEdits) (code : Code) (i : ℕ) (now : Code) : Type 0 where
  pub sound : IsSound now
  pub legal : AreLegalSteps (drop i steps) now → AreLegalSteps steps code
  pub back : AreLegalSteps steps code → AreLegalSteps (drop i steps) now
  pub same : edited (drop i steps) now ≡ edited steps code

module _ (steps : List PassEdits) (code : Code) (i : ℕ) (now : Code) (far : IsSoFar steps code i now) where
  -- one step more
  pub one_step : (s : PassEdits) (after : Code) → slice_get steps i ≡ Some s → AreLegal s.pass s.acts now
      → after ≡ applied s.pass s.acts now → IsSound after → IsSoFar steps code (i + 1) after
  one_step s after at legal is sound =
      let left : drop i steps ≡ s ∷ drop (i + 1) steps = drop_some steps i s at in
      record {
        sound = sound;
        legal = λ h. far.legal (subst (λ (l : List PassEdits). AreLegalSteps l now) (sym left)
            (legal, subst (AreLegalSteps (drop (i + 1) steps)) is h));
        back = λ h. subst (AreLegalSteps (drop (i + 1) steps)) (sym is)
            (subst (λ (l : List PassEdits). AreLegalSteps l now) left (far.back h)).1;
        same = ap (edited (drop (i + 1) steps)) is ∙ ap (λ (l : List PassEdits). edited l now) (sym left) ∙ far.same;
      }

  -- a step that isn't legal
  pub no_step : (s : PassEdits) → slice_get steps i ≡ Some s → (AreLegal s.pass s.acts now → ⊥)
      → AreLegalSteps steps code → ⊥
  no_step s at illegal h =
      illegal (subst (λ (l : List PassEdits). AreLegalSteps l now) (drop_some steps i s at) (far.back h)).0

  -- all steps
  pub all_steps : slice_get steps i ≡ None → AreLegalSteps steps code × (now ≡ edited steps code)
  all_steps end =
      let none : drop i steps ≡ [] = drop_none steps i end in (
        far.legal (subst (λ (l : List PassEdits). AreLegalSteps l now) (sym none) tt),
        sym (ap (λ (l : List PassEdits). edited l now) none) ∙ far.same,
      )
