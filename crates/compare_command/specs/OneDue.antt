-- One thing at most is due of told files: that the output has shown what the input has, or one refusal (the project's
-- own: the answer is the only one).
use Rattle.std.specs.Prelude.{◌≡◌, Result}
use Rattle.tree_io.specs.Files.{Files}
use Rattle.command_frame.specs.declared.command.Plan.{Plan}
use Rattle.command_frame.specs.declared.refusal.Refusal.{Refusal}
use Rattle.compare_command.specs.Due.{IsDue}
use Rattle.compare_command.specs.declared.command.CompareFiles.{CompareFiles}

-- what is due twice, of the same files and for the same words, is the same
abbrev pub IsOneDue : Type 0
IsOneDue = (files : Files) (named : CompareFiles) (one other : Result Plan Refusal) → IsDue named files one
    → IsDue named files other → one ≡ other
