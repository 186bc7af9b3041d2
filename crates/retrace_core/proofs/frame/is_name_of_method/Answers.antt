-- Answers of `is_name_of_method`: what its calls ask for, and what it promises.
use Rattle.std.proofs.Common.{◌≡◌, true, false, refl, ap, ◌∙◌, inl, inr}
use Rattle.std.specs.Str.{is_utf8}
use Rattle.std.proofs.lemmas.Bool.{cases_Bool}
use Rattle.std.proofs.lemmas.Str.{IsUtf8-from_is_utf8, is_utf8-from_IsUtf8}
use Rattle.jv_base.specs.Names.{is_method_name}
use Rattle.retrace_core.proofs.frame.is_name_of_method.Goals as goal

pub returns-in-Ok : goal.returns-in-Ok
returns-in-Ok c =
    let good : is_utf8 c.args.bytes.now ≡ true = is_utf8-from_IsUtf8 c.args.bytes.now c.in-Ok.ensures.cases.1 in
    c.is_method_name.ensures ∙ ap is_method_name c.in-Ok.ensures.cases.0 ∙ rw good refl

pub returns-in-Err : goal.returns-in-Err
returns-in-Err c =
    let bytes = c.args.bytes.now in
    let other : is_utf8 bytes ≡ false = elim (cases_Bool (is_utf8 bytes)) [
      | inl good ↦ absurd (c.in-Err.ensures.cases.0 (IsUtf8-from_is_utf8 bytes good))
      | inr wrong ↦ wrong
    ] in rw other refl
