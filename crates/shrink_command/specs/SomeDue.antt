-- Something is always due of told files: a plan, or a refusal (the project's own: each command has an answer).
use Rattle.std.specs.Prelude.{◌≡◌, ℕ, List, Some, Result}
use Rattle.std.specs.FinMap.{get}
use Rattle.tree_io.specs.Files.{Files}
use Rattle.class_laws.specs.ReadingLaws.{AreBytes}
use Rattle.command_frame.specs.declared.command.Plan.{Plan}
use Rattle.command_frame.specs.declared.refusal.Refusal.{Refusal}
use Rattle.shrink_command.specs.Due.{IsDue}
use Rattle.shrink_command.specs.declared.command.ShrinkFiles.{ShrinkFiles}

-- what told files hold are bytes, as it is of each file of a device (the project's own: told files may hold any
-- numbers)
abbrev pub HoldBytes : Files → Type 0
HoldBytes files = (path bytes : List ℕ) → get files path ≡ Some bytes → AreBytes bytes

-- something is due of such files, for each command
abbrev pub IsSomeDue : Type 0
IsSomeDue = (files : Files) (named : ShrinkFiles) → HoldBytes files
    → (due : Result Plan Refusal) × IsDue named files due
