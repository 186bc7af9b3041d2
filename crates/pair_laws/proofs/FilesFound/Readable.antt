-- The class files below a directory of told files are such as a set is read from.
use Rattle.std.proofs.Common.{◌≡◌, ℕ, List, Ok, arith}
use Rattle.tree_io.specs.Files.{Files}
use Rattle.tree_io.specs.declared.file_at.FileAt.{FileAt}
use Rattle.class_files.specs.Input.{input_due}
use Rattle.pair_laws.proofs.FilesFound.Found.{ascend_found}
use Rattle.removal_laws.specs.AcceptedSets.Laws.{AreReadable}

pub readable : (files : Files) (directory : List ℕ) (found : List FileAt) → input_due files directory ≡ Ok found
    → AreReadable found
readable files directory found h =
    let are = ascend_found files directory found h in
    record { ascending = are.0; short = omega (arith, are.1) }
