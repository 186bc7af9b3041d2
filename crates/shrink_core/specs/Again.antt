-- What `check` is due to say of what `shrink` was due to write (the project's own: what the commands promise together).
use Rattle.std.specs.Prelude.{◌⊎◌, ℕ, List, Ok, Err}
use Rattle.tree_io.specs.Files.{Files}
use Rattle.class_files.specs.Output.{put_all}
use Rattle.command_frame.specs.Refusal.{passed}
use Rattle.command_frame.specs.declared.command.Plan.{Plan}
use Rattle.command_frame.specs.declared.refusal.Quantity.{Quantity}
use Rattle.check_command.specs.Due as check
use Rattle.check_command.specs.Due.{ok_plan}
use Rattle.shrink_command.specs.Due as shrink

-- where `shrink` is due to write a plan, `check` by the same config and witness is due to say `ok` of the files after it,
-- unless these pass a limit on what is read
abbrev pub PlanIsChecked : Type 0
PlanIsChecked = (files : Files) (config witness : List ℕ) (plan : Plan)
    → shrink.IsDue (record { config = config; witness = witness }) files (Ok plan)
    → check.IsDue (record { config = config; witness = witness }) (put_all files plan.files) (Ok ok_plan)
    ⊎ ((q : Quantity) × check.IsDue (record { config = config; witness = witness }) (put_all files plan.files)
    (Err (passed q)))
