-- Files below a directory, and the same by their paths there (the project's own).
use Rattle.std.specs.Prelude.{◌≡◌, ℕ, List, ◌++◌, None}
use Rattle.std.specs.List.{AllZip}
use Rattle.tree_io.specs.Below.{front_of, rest_after}
use Rattle.tree_io.specs.declared.file_at.FileAt.{FileAt}

-- a file below a directory, and the same by its path there
abbrev pub IsBelow : List ℕ → FileAt → FileAt → Type 0
IsBelow directory file there = (file.path ≡ front_of directory ++ there.path) × (there.bytes ≡ file.bytes)

-- so it is of each, in order
abbrev pub AreBelow : List ℕ → List FileAt → List FileAt → Type 0
AreBelow directory files there = AllZip (IsBelow directory) files there

-- a file that doesn't lie below a directory
abbrev pub IsElsewhere : List ℕ → FileAt → Type 0
IsElsewhere directory file = rest_after (front_of directory) file.path ≡ None
