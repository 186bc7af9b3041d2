-- Lists of aims.
use Rattle.std.proofs.Common.{ℕ, suc, ◌≤◌, List, [], ◌∷◌, ◌++◌, Option, Bool, true}
use Rattle.std.proofs.Common.{false, ◌≡◌, refl}
use Rattle.std.specs.Prelude.{length, ◌==◌, if◌then◌else◌}
use Rattle.class_model.specs.declared.code.Code.{Code}
use Rattle.code_edit.specs.declared.act.Act.{Act}
use Rattle.code_edit.specs.declared.act.Act.TheVariants as act
use Rattle.code_edit.specs.Passes.{IsJumpsEdits, aims_from, aims_on, end_of, skips_from}
use Rattle.code_edit.specs.SoundCode.{IsSound}
use Rattle.edit_passes.specs.Chains.{IsTable, ends_in}
use Rattle.edit_passes.proofs.Walking.{ends_told}

-- the first target, and then the others
pub aims_next : (ends : ℕ → Option ℕ) (at which to : ℕ) (tos : List ℕ)
    → aims_on ends at which (to ∷ tos)
    ≡ aims_on ends at which (to ∷ []) ++ aims_on ends at (suc which) tos
aims_next ends at which to tos = by (end_of ends to == to)
  where
    by : (b : Bool)
        → (if b then aims_on ends at (suc which) tos
        else act.Aim at which (end_of ends to) ∷ aims_on ends at (suc which) tos)
        ≡ (if b then [] else act.Aim at which (end_of ends to) ∷ [])
        ++ aims_on ends at (suc which) tos
    by true = refl
    by false = refl

pub jumps_are : (code : Code) (table : List ℕ) (n : ℕ) (acts : List Act) → IsSound code
    → length code.ins ≤ n → IsTable code n table
    → acts ≡ aims_from (ends_in table code) 0 code.ins ++ skips_from (ends_in table code) 0 code.ins
    → IsJumpsEdits code acts
jumps_are code table n acts sound le is e = (ends_in table code, ends_told code table n le is, e)
