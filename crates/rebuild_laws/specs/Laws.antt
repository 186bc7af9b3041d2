-- What holds of codes after a step with their frames, as statements on all codes (the project's own).
use Rattle.std.specs.Prelude.{List}
use Rattle.class_model.specs.WellFormed.{IsGoodCode}
use Rattle.class_model.specs.declared.code.Code.{Code}
use Rattle.code_edit.specs.Legal.{AreRightActs}
use Rattle.code_edit.specs.SoundCode.{IsSound}
use Rattle.code_edit.specs.declared.act.Act.{Act}
use Rattle.code_edit.specs.declared.act.Pass.{Pass}
use Rattle.frame_rebuild.specs.Rebuilt.{rebuilt}
use Rattle.swap_laws.specs.Swapped.{NamesLess}

-- a sound code that follows the format does so after right acts: frames ascend, stand at instructions, take no more
-- room, and name a new by its number (JVMS 4.7.4)
abbrev pub RebuiltCodesFollowFormat : Type 0
RebuiltCodesFollowFormat = (p : Pass) (acts : List Act) (code : Code) → AreRightActs p acts code → IsSound code
    → IsGoodCode code → IsGoodCode (rebuilt p acts code)

-- a code names nothing after acts but what it named, be they right or not
abbrev pub RebuiltCodesNameLess : Type 0
RebuiltCodesNameLess = (p : Pass) (acts : List Act) (code : Code) → NamesLess code (rebuilt p acts code)
