-- The class files below a directory of told files, within limits on their number and length: parts that only the proofs
-- of bodies need (the project's own: steps of a call).
use Rattle.std.specs.Prelude.{ℕ, nat_lt, List, length}
use Rattle.std.specs.Prelude.{Result, Ok, Err, if◌then◌else◌}
use Rattle.std.specs.FinMap.{keys}
use Rattle.tree_io.specs.Below.{paths_below}
use Rattle.tree_io.specs.Files.{Files}
use Rattle.tree_io.specs.declared.file_at.FileAt.{FileAt}
use Rattle.class_files.specs.declared.input.InputFault.{InputFault}
use Rattle.class_files.specs.declared.input.InputFault.TheVariants.{TooManyFiles, TooManyClasses, TooLong}
use Rattle.class_files.specs.Input.{class_paths, file_in}

-- ---- the steps (only the proof of read_files needs it)

-- the paths of the class files, or the first limit on numbers that they pass
abbrev pub paths_due : Files → List ℕ → Result (List (List ℕ)) InputFault
paths_due files directory =
    if nat_lt 65536 (length (paths_below directory (keys files))) then Err TooManyFiles
    else if nat_lt 20000 (length (class_paths files directory)) then Err TooManyClasses
    else Ok (class_paths files directory)

-- a told file of at most max bytes
abbrev pub file_due : Files → List ℕ → List ℕ → ℕ → Result FileAt InputFault
file_due files directory path max =
    if nat_lt max (length (file_in files directory path).bytes) then Err TooLong else Ok (file_in files directory path)
