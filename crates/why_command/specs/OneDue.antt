-- One thing at most is due of told files: one text, or one refusal (the project's own: the answer is the only one).
use Rattle.std.specs.Prelude.{◌≡◌, Result}
use Rattle.tree_io.specs.Files.{Files}
use Rattle.command_frame.specs.declared.command.Plan.{Plan}
use Rattle.command_frame.specs.declared.refusal.Refusal.{Refusal}
use Rattle.why_command.specs.Due.{IsDue}
use Rattle.why_command.specs.declared.command.WhyFiles.{WhyFiles}

-- what is due twice, of the same files and for the same words, is the same
abbrev pub IsOneDue : Type 0
IsOneDue = (files : Files) (named : WhyFiles) (one other : Result Plan Refusal) → IsDue named files one
    → IsDue named files other → one ≡ other
