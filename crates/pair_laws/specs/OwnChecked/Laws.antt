-- What is written of a set is found again and is a pair with it, as statements on all files, sets, marks and rules (the
-- project's own).
use Rattle.std.specs.Prelude.{◌≡◌, ℕ, Bool, false, List, [], ◌++◌, Option, Ok}
use Rattle.std.specs.FinMap.{keys}
use Rattle.std.specs.List.{AllByRecursion}
use Rattle.tree_io.specs.Below.{paths_below}
use Rattle.tree_io.specs.Files.{Files}
use Rattle.tree_io.specs.declared.file_at.FileAt.{FileAt}
use Rattle.class_files.specs.Input.{input_due}
use Rattle.class_files.specs.Output.{put_all}
use Rattle.class_model.specs.declared.class.Class.{Class}
use Rattle.keep_rules.specs.Paths.{meets_config, paths_meet}
use Rattle.keep_rules.specs.declared.rules.Rules.{Rules}
use Rattle.mapping_file.specs.declared.mapping.Mapping.{Mapping}
use Rattle.pass_driver.specs.declared.optimising.Optimised.{Optimised}
use Rattle.set_shrink.specs.Texts.{texts_due}
use Rattle.set_shrink.specs.declared.shrunk.ShrunkSet.{ShrunkSet}
use Rattle.pair_laws.specs.FilesFound.Below.{IsElsewhere}
use Rattle.pair_laws.specs.OwnPairs.Written.{AreWritten}
use Rattle.pair_laws.specs.OwnChecked.Again.{IsFoundAgain}

-- files that are put elsewhere change nothing below a directory
abbrev pub ElsewhereChangesNothing : Type 0
ElsewhereChangesNothing = (old : Files) (directory : List ℕ) (others : List FileAt)
    → AllByRecursion (IsElsewhere directory) others
    → input_due (put_all old others) directory ≡ input_due old directory

-- what is written of a set where no file lay below the output directory, with its texts behind it, is found again by
-- the config, where no paths meet, nor any the config
abbrev pub OwnFilesAreFoundAgain : Type 0
OwnFilesAreFoundAgain = (files : List FileAt) (classes : List Class) (marks : List Bool) (rules : Rules)
    (old : Option Mapping) (o : Optimised) (set : ShrunkSet) (written : List FileAt)
    → AreWritten files classes marks rules old o set written → (there : Files) (config witness : List ℕ) (texts : List FileAt) → paths_below rules.out_dir (keys there) ≡ []
    → paths_meet rules witness ≡ false → meets_config config rules witness ≡ false
    → texts_due set.mapping o.witness classes marks rules witness ≡ Ok texts
    → IsFoundAgain there (put_all there (set.files ++ texts)) config witness rules set.mapping o.witness written
