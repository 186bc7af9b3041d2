-- Class files below a directory are a pair with a set (the project's own: what somebody can rely on who reads them
-- again).
use Rattle.std.specs.Prelude.{◌≡◌, List, Ok}
use Rattle.tree_io.specs.declared.file_at.FileAt.{FileAt}
use Rattle.pair_laws.specs.FilesFound.Below.{AreBelow}
use Rattle.class_model.specs.declared.class.Class.{Class}
use Rattle.keep_rules.specs.declared.rules.Rules.{Rules}
use Rattle.mapping_file.specs.MapReading.{read_mapping}
use Rattle.mapping_file.specs.Mappings.{mapping_text}
use Rattle.mapping_file.specs.declared.mapping.Mapping.{Mapping}
use Rattle.witness_file.specs.WitnessReading.{read_witness}
use Rattle.witness_file.specs.Witnesses.{witness_text}
use Rattle.witness_file.specs.declared.witness.Witness.{Witness}
use Rattle.jvm_model.specs.Same.{Same}
use Rattle.jvm_model.specs.Value.{Key}
use Rattle.set_view.specs.ViewOf.{view_of}
use Rattle.type_sound.specs.Laws.{DoesWhole}
use Rattle.type_verifier.specs.Verified.{AreTyped}
use Rattle.pair_checker.specs.PairOk.{PairOk}
use Rattle.pair_laws.specs.PairSame.Entries.{AreEntries}
use Rattle.pair_laws.specs.PairSame.Laws.{pair_names}
use Rattle.pair_laws.specs.PairSame.OneToOne.{AreOneToOne}

-- told by their paths below the output directory, the files are taken as a set, and no clause of a pair holds of it, of
-- the input, the mapping, the rules and the witness; the texts of the mapping and of the witness are read back as they
-- are. So this set does what the input does, from each entry, names read through the mapping, which
-- are one to one, and neither goes wrong where the entry is given what it may be given; and each of its methods is typed
pub record ArePaired (input : List Class) (rules : Rules) (mapping : Mapping) (witness : Witness)
    (class_files : List FileAt) : Type 0 where
  pub written : List FileAt
  pub below : AreBelow rules.out_dir class_files written
  pub pair : PairOk input written mapping rules witness
  pub mapping_read : read_mapping (mapping_text mapping) ≡ Ok mapping
  pub witness_read : read_witness (witness_text witness) ≡ Ok witness
  pub names : AreOneToOne input (pair_names input mapping)
  pub same : (entries : List Key) → AreEntries input rules entries
      → Same (view_of input) (view_of pair.output) (pair_names input mapping) entries
  pub whole : (entries : List Key) → AreEntries input rules entries
      → DoesWhole input (view_of pair.output) (pair_names input mapping) entries
  pub typed : AreTyped pair.output
