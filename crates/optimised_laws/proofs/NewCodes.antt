-- The new codes of a set: each is that of a method, after the steps of the passes, and typed in its place.
use Rattle.std.proofs.Common.{◌≡◌, ℕ, List, [], ◌∷◌, Some, slice_get, sym, subst}
use Rattle.std.specs.List.{AllByRecursion}
use Rattle.jv_base.proofs.Lists.{all_append}
use Rattle.class_model.specs.declared.class.Class.{Class}
use Rattle.class_model.specs.declared.class.Method.{Method}
use Rattle.class_model.specs.declared.code.Code.{Code}
use Rattle.code_edit.specs.declared.act.PassEdits.{PassEdits}
use Rattle.pass_driver.specs.Optimised.{AreDone, IsAt, code_for}
use Rattle.pass_driver.specs.Outcomes.{IsOutcome, IsTypedWith}
use Rattle.pass_driver.specs.Stepped.{AreSteps, stepped}
use Rattle.pass_driver.specs.declared.judging.Outcome.{Outcome}
use Rattle.pass_driver.specs.declared.judging.Outcome.TheVariants.{Own, Edited, Fallback}
use Rattle.pass_driver.specs.declared.optimising.NewCode.{NewCode}
use Rattle.pass_driver.specs.declared.spots.Spot.{Spot}
use Rattle.witness_file.specs.declared.witness.MethodWitness.{MethodWitness}

pub record IsNew (classes : List Class) (x : NewCode) : Type 0 where
  pub of : Class
  pub method : Method
  pub own : Code
  pub class_at : slice_get classes x.class ≡ Some of
  pub method_at : slice_get of.methods x.method ≡ Some method
  pub has : method.code ≡ Some own
  pub steps : List PassEdits
  pub found : AreSteps steps own
  pub is : x.code ≡ stepped steps own
  pub typed : IsTypedWith classes x.class x.method x.code

module _ (classes : List Class) where
  new_one : (s : Spot) (c : Class) (m : Method) (code : Code) → IsAt classes s c m code → (o : Outcome)
      → IsOutcome classes s.class s.method code o → AllByRecursion (IsNew classes) (code_for s o)
  new_one s c m code at Own h = tt
  new_one s c m code at (Edited after edits) h = (
    record {
      of = c;
      method = m;
      own = code;
      class_at = at.in_set;
      method_at = at.in_class;
      has = at.has;
      steps = edits.steps;
      found = h.0;
      is = h.2;
      typed = h.3;
    },
    tt,
  )
  new_one s c m code at Fallback h = tt

  pub all_new : (spots : List Spot) (codes : List NewCode) (entries : List MethodWitness) (fallbacks : ℕ)
      → AreDone classes spots codes entries fallbacks → AllByRecursion (IsNew classes) codes
  all_new [] codes entries fallbacks h = subst (AllByRecursion (IsNew classes)) (sym h.0) tt
  all_new (s ∷ spots) codes entries fallbacks h =
      subst (AllByRecursion (IsNew classes)) (sym h.9)
      (all_append (IsNew classes) (code_for s h.4) h.6 (new_one s h.0 h.1 h.2 h.3 h.4 h.5)
      (all_new spots h.6 h.7 h.8 h.12))
