-- A code that follows the format and ends in an instruction which doesn't go on is sound.
use Rattle.std.proofs.Common.{ℕ, ◌+◌, ◌-◌, ◌<◌, Some, true, false}
use Rattle.std.proofs.Common.{◌≡◌, sym, ap, ◌∙◌, arith}
use Rattle.std.specs.Prelude.{length, slice_get}
use Rattle.std.specs.List.{AllByRecursion}
use Rattle.std.specs.Option.{option_map_or}
use Rattle.jv_base.proofs.Lists.{all_at, all_mapped, all_weaker}
use Rattle.class_model.specs.WellFormed.{IsGoodCode, IsGoodHandler, IsGoodOp}
use Rattle.class_model.specs.declared.code.Code.{Code}
use Rattle.class_model.specs.declared.code.Ins.{Ins}
use Rattle.class_model.specs.declared.op.Case.{Case}
use Rattle.class_model.specs.declared.op.Op.{Op}
use Rattle.class_model.specs.declared.op.Op.TheVariants as op
use Rattle.code_edit.specs.Flow.{goes_elsewhere, of_ins, targets}
use Rattle.code_edit.specs.SoundCode.{IsPlaced, IsSound}

within : (n : ℕ) (o : Op) → IsGoodOp n o → AllByRecursion (λ t. t < n) (targets o)
within n (op.IfZero c to) good = (good, tt)
within n (op.IfCmp c to) good = (good, tt)
within n (op.IfRef eq to) good = (good, tt)
within n (op.IfNull null to) good = (good, tt)
within n (op.Goto to) good = (good, tt)
within n (op.TableSwitch low other cases) good = (good.other_target, good.targets)
within n (op.LookupSwitch other cases) good =
    (good.other_target, all_mapped (λ t. t < n) (λ (c : Case). c.to) cases good.targets)
within n o good = tt

-- the last instruction, where it is told that it doesn't go on
last_of : (code : Code) → of_ins goes_elsewhere code (length code.ins - 1) ≡ true → (at : ℕ)
    (i : Ins) → slice_get code.ins at ≡ Some i → at + 1 ≡ length code.ins
    → goes_elsewhere i.op ≡ true
last_of code ends at i e end =
    let last : length code.ins - 1 ≡ at = omega (arith, end) in
    sym (ap (λ o. option_map_or (λ (i : Ins). goes_elsewhere i.op) o false)
    (ap (slice_get code.ins) last ∙ e)) ∙ ends

pub good_sound : (code : Code) → IsGoodCode code
    → of_ins goes_elsewhere code (length code.ins - 1) ≡ true → IsSound code
good_sound code good ends = record {
  some = good.some;
  jump = λ at i e.
      within (length code.ins) i.op
      (all_at (λ (x : Ins). IsGoodOp (length code.ins) x.op) code.ins at i good.instructions e);
  handlers =
      all_weaker (IsGoodHandler (length code.ins)) (IsPlaced (length code.ins))
      (λ h g. (g.range, g.to, g.entry)) code.handlers good.handlers;
  last = last_of code ends;
}
