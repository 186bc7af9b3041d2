-- One thing at most is due of told files: one plan, or one refusal (the project's own: the answer is the only one).
use Rattle.std.specs.Prelude.{◌≡◌, Result}
use Rattle.tree_io.specs.Files.{Files}
use Rattle.command_frame.specs.declared.command.Plan.{Plan}
use Rattle.command_frame.specs.declared.refusal.Refusal.{Refusal}
use Rattle.shrink_command.specs.Due.{IsDue}
use Rattle.shrink_command.specs.declared.command.ShrinkFiles.{ShrinkFiles}

-- what is due twice, of the same files and for the same command, is the same
abbrev pub IsOneDue : Type 0
IsOneDue = (files : Files) (named : ShrinkFiles) (one other : Result Plan Refusal) → IsDue named files one
    → IsDue named files other → one ≡ other
