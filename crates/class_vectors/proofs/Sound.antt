-- The code of a method of a class that was read follows the format, and is sound where its last instruction doesn't go on.
use Rattle.std.proofs.Common.{ℕ, ◌-◌, Some, true, ◌≡◌, subst}
use Rattle.std.specs.Prelude.{IfSome, length, slice_get}
use Rattle.jv_base.proofs.Lists.{all_at}
use Rattle.class_model.specs.Flags.{is_interface}
use Rattle.class_model.specs.WellFormed.{IsGoodCode, IsGoodMethod, IsWellFormed}
use Rattle.class_model.specs.declared.class.Class.{Class}
use Rattle.class_model.specs.declared.class.Method.{Method}
use Rattle.class_model.specs.declared.code.Code.{Code}
use Rattle.code_edit.specs.Flow.{goes_elsewhere, of_ins}
use Rattle.code_edit.specs.SoundCode.{IsSound}
use Rattle.edit_premises.proofs.GoodSound.{good_sound}

pub code_is_good : (class : Class) (index : ℕ) (m : Method) (code : Code) → IsWellFormed class
    → slice_get class.methods index ≡ Some m → m.code ≡ Some code → IsGoodCode code
code_is_good class index m code good at is =
    let method =
    all_at (IsGoodMethod (is_interface class.flags.0)) class.methods index m good.methods at in
    subst (λ o. IfSome o IsGoodCode) is method.code

pub code_is_sound : (class : Class) (index : ℕ) (m : Method) (code : Code) → IsWellFormed class
    → slice_get class.methods index ≡ Some m → m.code ≡ Some code
    → of_ins goes_elsewhere code (length code.ins - 1) ≡ true → IsSound code
code_is_sound class index m code good at is ends = good_sound code (code_is_good class index m code good at is) ends
