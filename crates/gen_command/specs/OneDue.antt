-- Exactly one thing is due of told files: the plan, or one refusal (the project's own: the answer is the only one).
use Rattle.std.specs.Prelude.{◌≡◌, Result}
use Rattle.tree_io.specs.Files.{Files}
use Rattle.command_frame.specs.declared.command.Plan.{Plan}
use Rattle.command_frame.specs.declared.refusal.Refusal.{Refusal}
use Rattle.gen_command.specs.Due.{IsDue}
use Rattle.gen_command.specs.declared.command.GenFiles.{GenFiles}

-- what is due twice, of the same files and for the same set and directory, is the same
abbrev pub IsOneDue : Type 0
IsOneDue = (files : Files) (named : GenFiles) (one other : Result Plan Refusal) → IsDue named files one
    → IsDue named files other → one ≡ other

-- something is due of any files
abbrev pub IsSomeDue : Type 0
IsSomeDue = (files : Files) (named : GenFiles) → (due : Result Plan Refusal) × IsDue named files due
