-- What const finds is legal.
use Rattle.std.proofs.Common.{ℕ, ◌+◌, ◌≤◌, ◌<◌, List, Some, Bool, true, false, ◌≡◌, sym, ◌∙◌, subst}
use Rattle.std.proofs.Common.{arith}
use Rattle.std.specs.Prelude.{length, slice_get}
use Rattle.jv_base.proofs.Lists.{all_at, found_at}
use Rattle.class_model.specs.declared.code.Code.{Code}
use Rattle.class_model.specs.declared.code.Handler.{Handler}
use Rattle.code_edit.specs.declared.act.Act.{Act}
use Rattle.code_edit.specs.declared.act.Pass.TheVariants as pass
use Rattle.code_edit.specs.Constants.{AreLegalConst, IsLegalConst, folded}
use Rattle.code_edit.specs.ConstEdits.{IsConstEdits}
use Rattle.code_edit.specs.Flow.{targets}
use Rattle.code_edit.specs.Legal.{AreLegal, IsStillAimedAt, KeepsLast, branch, entry}
use Rattle.code_edit.specs.Rewriting.{rewritten}
use Rattle.code_edit.specs.SoundCode.{IsPlaced, IsSound}
use Rattle.const_laws.proofs.Once.{own_acts_once}
use Rattle.const_laws.proofs.Own.{own_acts_legal}
use Rattle.edit_premises.proofs.AppliedSound.{last_index, long}
use Rattle.edit_premises.proofs.FoldsSound.{in_place_long, in_place_sound, last_stays}

module _ (code : Code) (acts : List Act) (sound : IsSound code) (right : AreLegalConst acts code)
  where
    -- what something leads to is an index of the code
    aimed_below : (at : ℕ) → IsStillAimedAt pass.Const acts code at → at < length code.ins
    aimed_below at (branch from which i l e t) =
        subst (λ n. at < n) (in_place_long acts code right sound)
        (all_at (λ k. k < length (rewritten (folded acts code) code).ins) (targets i.op) which at
        ((in_place_sound acts code right sound).jump from i e) t)
    aimed_below at (entry k from h e lt l c same) =
        subst (λ n. n < length code.ins) (sym same)
        (all_at (IsPlaced (length code.ins)) code.handlers k h sound.handlers e).2

    -- the last instruction stays, and nothing stands behind it
    keeps_last : (a : Act) → KeepsLast pass.Const acts code a
    keeps_last a at dropped gone aimed past =
        let m = last_index (length code.ins) sound.some in
        let i = found_at code.ins m.0 (omega (arith, m.1)) in
        let below = aimed_below at aimed in
        let lives = last_stays acts code right sound m.0 i.0 i.1 m.1 in
        let no : true ≡ false =
        sym lives ∙ past m.0 (omega (arith, m.1, below)) (omega (arith, m.1)) in cc

pub const_legal : (code : Code) (acts : List Act) → IsSound code → IsConstEdits code acts
    → AreLegal pass.Const acts code
const_legal code acts sound own k a e =
    let right = own_acts_legal code acts own in (
      all_at (IsLegalConst acts code) acts k a right e,
      λ before b lt f. own_acts_once code acts own before k b a lt f e,
      keeps_last code acts sound right a,
    )
