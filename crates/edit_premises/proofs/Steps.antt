-- Legal steps are changes one after another.
use Rattle.std.proofs.Common.{ℕ, ◌+◌, List, [], ◌∷◌, Option, Some, ◌≡◌, inl, inr, refl, sym}
use Rattle.std.proofs.Common.{ap, ◌∙◌, subst, arith}
use Rattle.std.specs.Prelude.{length, map}
use Rattle.class_model.specs.declared.code.Code.{Code}
use Rattle.code_edit.specs.declared.act.Act.{Act}
use Rattle.code_edit.specs.declared.act.Pass.{Pass}
use Rattle.code_edit.specs.declared.act.Pass.TheVariants.{Reach, Const, Slots, Jumps}
use Rattle.code_edit.specs.declared.act.PassEdits.{PassEdits}
use Rattle.jvm_model.specs.Program.{View}
use Rattle.jvm_model.specs.Same.{Same, own_names}
use Rattle.jvm_model.specs.Value.{Key}
use Rattle.edit_premises.specs.Changes.{Becomes, Changed, Together, cuts, decides, goes_on}
use Rattle.edit_premises.specs.Changes.{leaves_out}
use Rattle.code_edit.specs.Constants.{folded}
use Rattle.code_edit.specs.Rewriting.{rewritten}
use Rattle.code_edit.specs.Jumps.{jumped}
use Rattle.code_edit.specs.Slots.{slotted}
use Rattle.edit_premises.specs.Steps.{IsAfter, IsEdited}
use Rattle.edit_premises.proofs.Changes.{becomes_more, becomes_same, changed_premise, stays_so}
use Rattle.edit_premises.proofs.Folds.{acts_fold, acts_leave_out}
use Rattle.edit_premises.proofs.Jumping.{jumps_leave_out, jumps_retarget}
use Rattle.edit_premises.proofs.Reaching.{drops_leave_out}
use Rattle.edit_premises.proofs.Slotting.{slots_cut, slots_leave_out}
use Rattle.code_edit.specs.Legal.{AreRightActs, AreRightSteps}
use Rattle.code_edit.specs.Applied.{applied, edited}

two : (a b c : Code) → Changed a b → Changed b c → Becomes Changed 2 (Some a) (Some c)
two a b c h k = (Some b, inr (a, b, refl, refl, h), (Some c, inr (b, c, refl, refl, k), refl))

pub step_becomes : (p : Pass) (acts : List Act) (code : Code) → AreRightActs p acts code
    → Becomes Changed 2 (Some code) (Some (applied p acts code))
step_becomes Reach acts code h = (
  Some (applied Reach acts code),
  inr (code, applied Reach acts code, refl, refl, leaves_out (drops_leave_out acts code h)),
  stays_so Changed 1 _,
)
step_becomes Slots acts code h =
    two code (rewritten (slotted acts code) code) _ (cuts (slots_cut acts code h))
    (leaves_out (slots_leave_out acts code h))
step_becomes Jumps acts code h =
    two code (rewritten (jumped acts) code) _ (goes_on (jumps_retarget acts code h))
    (leaves_out (jumps_leave_out acts code h))
step_becomes Const acts code h =
    two code (rewritten (folded acts code) code) _ (decides (acts_fold acts code h))
    (leaves_out (acts_leave_out acts code h))

abbrev changes : List PassEdits → ℕ
changes [] = 0
changes (s ∷ steps) = 2 + changes steps

steps_become : (steps : List PassEdits) (code : Code) → AreRightSteps steps code
    → Becomes Changed (changes steps) (Some code) (Some (edited steps code))
steps_become [] code h = refl
steps_become (s ∷ steps) code h =
    becomes_more Changed 2 (changes steps) _ _ _ (step_becomes s.pass s.acts code h.0)
    (steps_become steps (applied s.pass s.acts code) h.1)

changes_are : (steps : List PassEdits)
    → changes steps ≡ length (map (λ (s : PassEdits). s.pass) steps) + length
    (map (λ (s : PassEdits). s.pass) steps)
changes_are [] = refl
changes_are (s ∷ steps) = omega (arith, changes_are steps)

edited_becomes : (a b : Option Code) → IsEdited a b → Becomes Changed 12 a b
edited_becomes a b (inl e) = subst (Becomes Changed 12 a) (sym e) (stays_so Changed 12 a)
edited_becomes a b (inr h) =
    let n : changes h.1 ≡ 12 = changes_are h.1
    ∙ ap (λ (ps : List Pass). length ps + length ps) h.3 in
    subst (λ x. Becomes Changed 12 x b) (sym h.2) (subst (Becomes Changed 12 (Some h.0)) (sym h.5)
    (subst (λ q. Becomes Changed q (Some h.0) (Some (edited h.1 h.0))) n
    (steps_become h.1 h.0 h.4)))

-- codes that the passes edited do the same
pub edited_same : (v w : View) → w.shape ≡ v.shape → ((m : Key) → IsEdited (v.code m) (w.code m))
    → (entries : List Key)
    → Same v w own_names entries
edited_same v w shape codes =
    becomes_same Changed Together changed_premise 12 v w shape
    (λ m. edited_becomes (v.code m) (w.code m) (codes m))

after_becomes : (p : Pass) (a b : Option Code) → IsAfter p a b → Becomes Changed 2 a b
after_becomes p a b (inl e) = subst (Becomes Changed 2 a) (sym e) (stays_so Changed 2 a)
after_becomes p a b (inr h) =
    subst (λ x. Becomes Changed 2 x b) (sym h.2)
    (subst (Becomes Changed 2 (Some h.0)) (sym h.4) (step_becomes p h.1 h.0 h.3))

pub step_same : (p : Pass) (v w : View) → w.shape ≡ v.shape
    → ((m : Key) → IsAfter p (v.code m) (w.code m)) → (entries : List Key)
    → Same v w own_names entries
step_same p v w shape codes =
    becomes_same Changed Together changed_premise 2 v w shape
    (λ m. after_becomes p (v.code m) (w.code m) (codes m))
