-- What the calls of a tree are to answer where its files are told (the project's own: what is promised of files).
use Rattle.std.specs.Prelude.{◌≡◌, ℕ, List, length, Option, Some, None, Result, Ok, Err, nat_le, if◌then◌else◌}
use Rattle.std.specs.FinMap.{keys}
use Rattle.tree_io.specs.Below.{paths_below}
use Rattle.tree_io.specs.Files.{Files}
use Rattle.tree_io.specs.declared.faults.ListFault.{ListFault}
use Rattle.tree_io.specs.declared.faults.ListFault.TheVariants as listed
use Rattle.tree_io.specs.declared.faults.ReadFault.{ReadFault}
use Rattle.tree_io.specs.declared.faults.ReadFault.TheVariants as read

-- at most so many paths
abbrev pub limited : ℕ → List (List ℕ) → Result (List (List ℕ)) ListFault
limited max paths = if nat_le (length paths) max then Ok paths else Err listed.TooMany

-- the paths of the files below a directory, at most max
abbrev pub due_list : Files → List ℕ → ℕ → Result (List (List ℕ)) ListFault
due_list files dir max = limited max (paths_below dir (keys files))

-- the bytes of a file, if there is one, at most max
abbrev pub due_read : Option (List ℕ) → ℕ → Result (List ℕ) ReadFault
due_read None max = Err read.Absent
due_read (Some bytes) max = if nat_le (length bytes) max then Ok bytes else Err read.TooLong

-- the answer is the one that is due, unless the device failed or memory was wanting
abbrev pub Lists : Result (List (List ℕ)) ListFault → Result (List (List ℕ)) ListFault → Type 0
Lists (Ok paths) due = due ≡ Ok paths
Lists (Err listed.TooMany) due = due ≡ Err listed.TooMany
Lists (Err listed.Failed) due = Unit {0}
Lists (Err listed.OutOfMemory) due = Unit {0}

-- the answer is the one that is due, unless the device failed or memory was wanting
abbrev pub ReadsFile : Result (List ℕ) ReadFault → Result (List ℕ) ReadFault → Type 0
ReadsFile (Ok bytes) due = due ≡ Ok bytes
ReadsFile (Err read.Absent) due = due ≡ Err read.Absent
ReadsFile (Err read.TooLong) due = due ≡ Err read.TooLong
ReadsFile (Err read.Failed) due = Unit {0}
ReadsFile (Err read.OutOfMemory) due = Unit {0}
