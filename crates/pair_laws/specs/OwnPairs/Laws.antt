-- What is written of a set, with the codes that the passes leave, is a pair with it that the check takes, as statements
-- on all files, sets, marks and rules (the project's own).
use Rattle.std.specs.Prelude.{◌≡◌, Bool, List, [], ◌++◌, Option, Ok}
use Rattle.std.specs.FinMap.{keys}
use Rattle.std.specs.List.{AllByRecursion}
use Rattle.tree_io.specs.Below.{paths_below}
use Rattle.tree_io.specs.Files.{Files}
use Rattle.tree_io.specs.declared.file_at.FileAt.{FileAt}
use Rattle.class_files.specs.Input.{input_due}
use Rattle.class_files.specs.Output.{put_all}
use Rattle.pair_laws.specs.FilesFound.Below.{AreBelow, IsElsewhere}
use Rattle.class_model.specs.declared.class.Class.{Class}
use Rattle.keep_rules.specs.declared.rules.Rules.{Rules}
use Rattle.mapping_file.specs.declared.mapping.Mapping.{Mapping}
use Rattle.pass_driver.specs.Optimised.{with_codes}
use Rattle.pass_driver.specs.declared.optimising.Optimised.{Optimised}
use Rattle.set_read.specs.Accepted.{IsAccepted}
use Rattle.set_shrink.specs.ShrunkSet.{IsShrunk, left_of}
use Rattle.set_shrink.specs.declared.shrunk.ShrunkSet.{ShrunkSet}
use Rattle.pair_checker.specs.PairOk.{PairOk}
use Rattle.pair_laws.specs.OwnPairs.Paired.{ArePaired}
use Rattle.pair_laws.specs.OwnPairs.Written.{AreWritten}

-- the files are taken as the set of what is left (JVMS 4.1, 4.10, 4.10.1, 5.3.5, 5.4.3 to 5.4.5)
abbrev pub OwnIsAccepted : Type 0
OwnIsAccepted = (files : List FileAt) (classes : List Class) (marks : List Bool) (rules : Rules)
    (old : Option Mapping) (o : Optimised) (set : ShrunkSet) (written : List FileAt)
    → AreWritten files classes marks rules old o set written
    → IsAccepted written (left_of (with_codes o.codes classes) marks rules old)

-- and with the mapping and the witness they are a pair, of which this set is the output
abbrev pub OwnPairs : Type 0
OwnPairs = (files : List FileAt) (classes : List Class) (marks : List Bool) (rules : Rules)
    (old : Option Mapping) (o : Optimised) (set : ShrunkSet) (written : List FileAt)
    → AreWritten files classes marks rules old o set written
    → (pair : PairOk classes written set.mapping rules o.witness)
    × (pair.output ≡ left_of (with_codes o.codes classes) marks rules old)

-- so the set of the files does what the input does, from each entry, and each of its methods is typed
abbrev pub OwnFilesArePaired : Type 0
OwnFilesArePaired = (files : List FileAt) (classes : List Class) (marks : List Bool) (rules : Rules)
    (old : Option Mapping) (o : Optimised) (set : ShrunkSet) (written : List FileAt)
    → AreWritten files classes marks rules old o set written
    → ArePaired classes rules set.mapping o.witness set.files

-- ---- the files

-- each file that is written lies below the output directory
abbrev pub OwnFilesAreBelow : Type 0
OwnFilesAreBelow = (classes : List Class) (marks : List Bool) (rules : Rules) (old : Option Mapping) (set : ShrunkSet)
    → IsShrunk classes marks rules old set → (written : List FileAt) × AreBelow rules.out_dir set.files written

-- where no file lay there, and others are put elsewhere, they are the class files that are found there, unless these
-- pass a limit (the project's own: how files are found)
abbrev pub OwnFilesAreFound : Type 0
OwnFilesAreFound = (files : List FileAt) (classes : List Class) (marks : List Bool) (rules : Rules)
    (old : Option Mapping) (o : Optimised) (set : ShrunkSet) (written : List FileAt)
    → AreWritten files classes marks rules old o set written
    → (there : Files) (others : List FileAt) → paths_below rules.out_dir (keys there) ≡ []
    → AllByRecursion (IsElsewhere rules.out_dir) others
    → (found : List FileAt) → input_due (put_all there (set.files ++ others)) rules.out_dir ≡ Ok found → found ≡ written
