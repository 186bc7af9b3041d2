-- A code that is typed ends in an instruction which doesn't go on; so it is sound where it follows the format.
use Rattle.std.proofs.Common.{◌≡◌, ◌<◌, ℕ, zero, suc, ◌+◌, ◌-◌, Bool, true, false, List, [], ◌∷◌, length, Option, Some, None}
use Rattle.std.proofs.Common.{slice_get, refl, sym, ap, subst, ◌∙◌, arith}
use Rattle.std.specs.Prelude.{IfSome, if◌then◌else◌}
use Rattle.std.specs.Option.{option_map_or}
use Rattle.jv_base.proofs.Lists.{all_at, found_at}
use Rattle.class_model.specs.Flags.{is_interface}
use Rattle.class_model.specs.WellFormed.{IsGoodCode, IsGoodMethod, IsWellFormed}
use Rattle.class_model.specs.declared.class.Class.{Class}
use Rattle.class_model.specs.declared.class.Method.{Method}
use Rattle.class_model.specs.declared.code.Code.{Code}
use Rattle.class_model.specs.declared.code.Ins.{Ins}
use Rattle.class_model.specs.declared.op.Op.{Op}
use Rattle.class_model.specs.declared.op.Op.TheVariants as op
use Rattle.type_verifier.specs.Environment as env
use Rattle.type_verifier.specs.Environment.{Environment}
use Rattle.type_verifier.specs.Typed.{AreInstructionsTyped, Typed}
use Rattle.type_verifier.specs.Verified.{AreTyped, environment}
use Rattle.type_verifier.specs.Walk.{flow_after}
use Rattle.type_verifier.specs.declared.frame.TypeFrame.{TypeFrame}
use Rattle.code_edit.specs.Flow.{goes_elsewhere, of_ins}
use Rattle.code_edit.specs.SoundCode.{IsSound}
use Rattle.edit_premises.proofs.GoodSound.{good_sound}
use Rattle.flow_laws.specs.Laws.{TypedCodesAreSound}

-- both say so of the same instructions
both : (o : Op) → env.goes_elsewhere o ≡ goes_elsewhere o
both (op.Goto to) = refl
both (op.TableSwitch low other cases) = refl
both (op.LookupSwitch other cases) = refl
both (op.Return kind) = refl
both op.Throw = refl
both o = refl

-- nothing flows on behind it
ends : (o : Op) (f : TypeFrame) → None ≡ flow_after o f → env.goes_elsewhere o ≡ true
ends o f h = by (env.goes_elsewhere o) h
  where
    by : (b : Bool) → None ≡ (if b then None else Some f) → b ≡ true
    by true h = refl
    by false h = absurd cc

module _ (e : Environment) where
  last_goes : (at : ℕ) (flow : Option TypeFrame) (ins : List Ins) (fs : List TypeFrame)
      → AreInstructionsTyped e at flow ins fs None → (k : ℕ) (i : Ins) → slice_get ins k ≡ Some i → k + 1 ≡ length ins
      → env.goes_elsewhere i.op ≡ true
  last_goes at flow [] fs h k i is end = absurd cc
  last_goes at flow (j ∷ ins) [] h k i is end = absurd h
  last_goes at flow (j ∷ []) (f ∷ []) h zero i is end =
      let same : j ≡ i = cc in
      subst (λ (x : Ins). env.goes_elsewhere x.op ≡ true) same (ends j.op h.1 h.5)
  last_goes at flow (j ∷ []) (f ∷ (g ∷ fs)) h zero i is end = absurd h.5
  last_goes at flow (j ∷ []) (f ∷ fs) h (suc k) i is end = absurd cc
  last_goes at flow (j ∷ (j2 ∷ ins)) (f ∷ fs) h zero i is end = absurd (omega (arith, end))
  last_goes at flow (j ∷ (j2 ∷ ins)) (f ∷ fs) h (suc k) i is end =
      last_goes (at + 1) (flow_after j.op h.1) (j2 ∷ ins) fs h.5 k i is (omega (arith, end))

pub typed_sound : TypedCodesAreSound
typed_sound classes n c k m code formed at in_methods has typed =
    let good = all_at (IsGoodMethod (is_interface c.flags.0)) c.methods k m formed.methods in_methods in
    let follows : IsGoodCode code = subst (λ o. IfSome o IsGoodCode) has good.code in
    let t = typed n k c at m in_methods code has in
    let some = follows.some in
    let low : length code.ins - 1 < length code.ins = omega (arith, some) in
    let last = found_at code.ins (length code.ins - 1) low in
    let end : length code.ins - 1 + 1 ≡ length code.ins = omega (arith, some) in
    let goes = sym (both last.0.op)
    ∙ last_goes (environment classes n c k m code) 0 _ code.ins t.0 t.1 (length code.ins - 1) last.0 last.1 end in
    good_sound code follows
    (ap (λ o. option_map_or (λ (i : Ins). goes_elsewhere i.op) o false) last.1 ∙ goes)
