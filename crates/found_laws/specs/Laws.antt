-- How many lists of acts a pass finds, as statements on all codes (the project's own).
use Rattle.std.specs.Prelude.{◌≡◌, List}
use Rattle.class_model.specs.declared.code.Code.{Code}
use Rattle.code_edit.specs.declared.act.Act.{Act}
use Rattle.code_edit.specs.declared.act.Pass.{Pass}
use Rattle.code_edit.specs.declared.act.Pass.TheVariants.{Const}
use Rattle.code_edit.specs.Facts.{IsAllReached}
use Rattle.code_edit.specs.Passes.{IsFound}
use Rattle.code_edit.specs.SoundCode.{IsSound}

-- what a pass finds on a sound code is one list
abbrev pub FoundActsAreOne : Type 0
FoundActsAreOne = (p : Pass) (code : Code) (acts others : List Act) → IsSound code
    → IsFound p code acts → IsFound p code others → acts ≡ others

-- on each sound code a pass finds acts, const where control may come to each index
abbrev pub FoundActsAreSome : Type 0
FoundActsAreSome = (p : Pass) (code : Code) → IsSound code → (p ≡ Const → IsAllReached code)
    → (acts : List Act) × IsFound p code acts
