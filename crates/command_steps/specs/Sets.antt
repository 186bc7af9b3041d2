-- The class files of a directory and the set that they are (the project's own: what commands look at).
use Rattle.std.specs.Prelude.{◌≡◌, ◌≤◌, ℕ, map, List, Result, Ok, Err}
use Rattle.tree_io.specs.Below.{IsAscending}
use Rattle.tree_io.specs.Files.{Files}
use Rattle.tree_io.specs.declared.file_at.FileAt.{FileAt}
use Rattle.class_files.specs.Input.{input_due, path_in, total}
use Rattle.class_files.specs.declared.input.InputFault.{InputFault}
use Rattle.class_files.specs.declared.input.InputFault.TheVariants as input
use Rattle.class_model.specs.declared.class.Class.{Class}
use Rattle.set_read.specs.Accepted.{IsAccepted, IsFault}
use Rattle.set_read.specs.declared.fault.SetFault.{SetFault}
use Rattle.set_read.specs.declared.fault.SetFault.TheVariants as set
use Rattle.command_frame.specs.Refusal.{absent, passed}
use Rattle.command_frame.specs.declared.refusal.Quantity.TheVariants as quantity
use Rattle.command_frame.specs.declared.refusal.Refusal.{Refusal}
use Rattle.command_frame.specs.declared.stop.Stop.{Stop}
use Rattle.command_frame.specs.declared.stop.Stop.TheVariants.{Refused, Device, OutOfMemory}
use Rattle.command_steps.specs.Refusals.{format_refused, profile_refused}

-- ---- class files

-- why a command stops where class files aren't given; of told files each that is listed is there
abbrev pub input_stop : InputFault → Stop
input_stop input.TooManyFiles = Refused (passed quantity.Files)
input_stop input.TooManyClasses = Refused (passed quantity.Classes)
input_stop input.TooLong = Refused (passed quantity.Input)
input_stop (input.Absent path) = Refused (absent path)
input_stop input.Failed = Device
input_stop input.OutOfMemory = OutOfMemory

-- the class files below a directory, within the limits on them, or the first limit that they pass
abbrev pub IsDirectory : Files → List ℕ → Result (List FileAt) Refusal → Type 0
IsDirectory files directory (Ok inputs) = input_due files directory ≡ Ok inputs
IsDirectory files directory (Err refusal) =
    (fault : InputFault) × (input_due files directory ≡ Err fault) × (input_stop fault ≡ Refused refusal)

-- files as they are read below a directory: their paths ascend, and together they have at most 64 MiB
pub record AreClassFiles (files : List FileAt) : Type 0 where
  pub ascending : IsAscending (map (λ (f : FileAt). f.path) files)
  pub short : total files ≤ 67108864

-- ---- sets of classes

-- how class files below a directory are refused as a set
abbrev pub set_refused : List ℕ → SetFault → Refusal
set_refused directory (set.Format below fault) = format_refused (path_in directory below) fault
set_refused directory (set.Rule fault) = profile_refused fault

-- class files below a directory are taken as a set of these classes; or one is no class file, or a class breaks a rule
abbrev pub IsSet : List ℕ → List FileAt → Result (List Class) Refusal → Type 0
IsSet directory inputs (Ok classes) = IsAccepted inputs classes
IsSet directory inputs (Err refusal) =
    (fault : SetFault) × IsFault inputs fault × (refusal ≡ set_refused directory fault)
