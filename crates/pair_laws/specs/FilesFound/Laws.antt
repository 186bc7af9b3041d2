-- What is found below a directory of told files that were put (the project's own).
use Rattle.std.specs.Prelude.{◌≡◌, ◌≤◌, ℕ, true, List, [], ◌++◌, map, Ok}
use Rattle.std.specs.FinMap.{keys}
use Rattle.std.specs.List.{AllByRecursion}
use Rattle.tree_io.specs.Below.{IsAscending, paths_below}
use Rattle.tree_io.specs.Files.{Files}
use Rattle.tree_io.specs.declared.file_at.FileAt.{FileAt}
use Rattle.class_files.specs.Input.{input_due, is_class_path, total}
use Rattle.class_files.specs.Output.{put_all}
use Rattle.pair_laws.specs.FilesFound.Below.{AreBelow, IsElsewhere}

-- where no file lies below a directory, and class files are put there in the order of their paths, and then others
-- elsewhere, the class files that are found there are these, unless they pass a limit
abbrev pub PutAreFound : Type 0
PutAreFound = (old : Files) (directory : List ℕ) (files others there found : List FileAt)
    → paths_below directory (keys old) ≡ [] → AreBelow directory files there
    → IsAscending (map (λ (f : FileAt). f.path) there)
    → AllByRecursion (λ (f : FileAt). is_class_path f.path ≡ true) there
    → AllByRecursion (IsElsewhere directory) others
    → input_due (put_all old (files ++ others)) directory ≡ Ok found → found ≡ there

-- the class files that are found below a directory come in the order of their paths, and have at most 64 MiB together
abbrev pub FoundAscend : Type 0
FoundAscend = (files : Files) (directory : List ℕ) (found : List FileAt) → input_due files directory ≡ Ok found
    → IsAscending (map (λ (f : FileAt). f.path) found) × (total found ≤ 67108864)
