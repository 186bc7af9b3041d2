-- The class files below a directory of told files, within limits on their number and length
-- (the project's own: limits on what is read).
use Rattle.std.specs.Prelude.{◌≡◌, ℕ, nat_eq, nat_lt, Bool, List, [], ◌∷◌, ◌++◌, length, map, codes, Option, Some, None}
use Rattle.std.specs.Prelude.{IsSome, Result, Ok, Err, if◌then◌else◌}
use Rattle.std.specs.FinMap.{get, keys}
use Rattle.std.specs.List.{AllByRecursion, ends_with, filter, sum_by}
use Rattle.std.specs.Option.{option_map_or}
use Rattle.tree_io.specs.Below.{front_of, paths_below}
use Rattle.tree_io.specs.Files.{Files}
use Rattle.tree_io.specs.declared.file_at.FileAt.{FileAt}
use Rattle.class_files.specs.declared.input.InputFault.{InputFault}
use Rattle.class_files.specs.declared.input.InputFault.TheVariants.{TooManyFiles, TooManyClasses, TooLong, Absent}
use Rattle.class_files.specs.declared.input.InputFault.TheVariants.{Failed, OutOfMemory}

-- the path of a class file ends so
abbrev pub is_class_path : List ℕ → Bool
is_class_path path = ends_with nat_eq path (codes ".class")

-- the paths of the class files below a directory, without the directory, in ascending order
abbrev pub class_paths : Files → List ℕ → List (List ℕ)
class_paths files directory = filter is_class_path (paths_below directory (keys files))

-- the path of a file below a directory
abbrev pub path_in : List ℕ → List ℕ → List ℕ
path_in directory path = front_of directory ++ path

-- the told file at a path below the directory
abbrev pub file_in : Files → List ℕ → List ℕ → FileAt
file_in files directory path = record {
  path = path;
  bytes = option_map_or (λ bytes. bytes)
      (get files (path_in directory path)) [];
}

-- the told files at paths below the directory
abbrev pub files_in : Files → List ℕ → List (List ℕ) → List FileAt
files_in files directory paths = map (file_in files directory) paths

-- how many bytes files have together
abbrev pub total : List FileAt → ℕ
total files = sum_by (λ (f : FileAt). length f.bytes) files

-- at most 64 MiB of files
abbrev pub limited : List FileAt → Result (List FileAt) InputFault
limited files = if nat_lt 67108864 (total files) then Err TooLong else Ok files

-- the class files below a directory, or the first limit that they pass
abbrev pub input_due : Files → List ℕ → Result (List FileAt) InputFault
input_due files directory =
    if nat_lt 65536 (length (paths_below directory (keys files))) then Err TooManyFiles
    else if nat_lt 20000 (length (class_paths files directory)) then Err TooManyClasses
    else limited (files_in files directory (class_paths files directory))

-- a class file stands below the directory
abbrev pub IsThere : Files → List ℕ → List ℕ → Type 0
IsThere files directory path = IsSome (get files (path_in directory path))

abbrev pub AreThere : Files → List ℕ → List (List ℕ) → Type 0
AreThere files directory paths = AllByRecursion (IsThere files directory) paths

-- the paths at which a reading found no file; where memory was wanting none is told (the project's own: a file that was
-- listed may be gone when it is read)
abbrev pub missed : {A : Type 0} → Result A InputFault → Option (List (List ℕ))
missed (Ok x) = Some []
missed (Err (Absent path)) = Some (path ∷ [])
missed (Err OutOfMemory) = None
missed (Err TooManyFiles) = Some []
missed (Err TooManyClasses) = Some []
missed (Err TooLong) = Some []
missed (Err Failed) = Some []

-- the answer is the one that is due, unless the device failed or memory was wanting
abbrev pub FindsDue : {A : Type 0} → Result A InputFault → Result A InputFault → Type 0
FindsDue (Ok x) due = due ≡ Ok x
FindsDue (Err Failed) due = Unit {0}
FindsDue (Err OutOfMemory) due = Unit {0}
FindsDue (Err TooManyFiles) due = due ≡ Err TooManyFiles
FindsDue (Err TooManyClasses) due = due ≡ Err TooManyClasses
FindsDue (Err TooLong) due = due ≡ Err TooLong
FindsDue (Err (Absent path)) due = due ≡ Err (Absent path)
