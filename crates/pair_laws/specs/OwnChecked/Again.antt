-- What `check` finds where files were written of a set (the project's own: the same config is checked that was shrunk
-- by).
use Rattle.std.specs.Prelude.{◌≡◌, ◌⊎◌, ◌≤◌, ℕ, List, length, Some, Ok, Err}
use Rattle.std.specs.FinMap.{get}
use Rattle.tree_io.specs.Files.{Files}
use Rattle.tree_io.specs.declared.file_at.FileAt.{FileAt}
use Rattle.class_files.specs.Input.{input_due}
use Rattle.class_files.specs.declared.input.InputFault.TheVariants.{TooManyFiles, TooManyClasses, TooLong}
use Rattle.keep_rules.specs.declared.rules.Rules.{Rules}
use Rattle.mapping_file.specs.MapReading.{read_mapping}
use Rattle.mapping_file.specs.declared.mapping.Mapping.{Mapping}
use Rattle.witness_file.specs.WitnessReading.{read_witness}
use Rattle.witness_file.specs.declared.witness.Witness.{Witness}

-- a told file of at most 64 MiB has these bytes
pub record HasText (files : Files) (path bytes : List ℕ) : Type 0 where
  pub there : get files path ≡ Some bytes
  pub short : length bytes ≤ 67108864

-- a told file that is no longer than this is read as the mapping
abbrev pub HasMapping : Files → List ℕ → Mapping → Type 0
HasMapping files path mapping = (bytes : List ℕ) × HasText files path bytes × (read_mapping bytes ≡ Ok mapping)

-- or as the witness
abbrev pub HasWitness : Files → List ℕ → Witness → Type 0
HasWitness files path witness = (bytes : List ℕ) × HasText files path bytes × (read_witness bytes ≡ Ok witness)

-- the class files below a directory pass a limit on their number or length
pub data PassesInputLimit (files : Files) (directory : List ℕ) : Type 0 where
  by_files : input_due files directory ≡ Err TooManyFiles → PassesInputLimit files directory
  by_classes : input_due files directory ≡ Err TooManyClasses → PassesInputLimit files directory
  by_length : input_due files directory ≡ Err TooLong → PassesInputLimit files directory

-- the config stands as before, and so do the class files of the input; the mapping and the witness are read as they
-- were written; and below the output directory stand the class files that were written, unless these pass a limit
pub record IsFoundAgain (old new : Files) (config witness : List ℕ) (rules : Rules) (mapping : Mapping)
    (edits : Witness) (written : List FileAt) : Type 0 where
  pub config_stays : get new config ≡ get old config
  pub mapping_is : HasMapping new rules.mapping mapping
  pub witness_is : HasWitness new witness edits
  pub input_stays : input_due new rules.in_dir ≡ input_due old rules.in_dir
  pub output_is : (input_due new rules.out_dir ≡ Ok written) ⊎ PassesInputLimit new rules.out_dir
