-- The mapping of what is kept and the witness have texts that are read back, as statements on all classes, names, marks
-- and rules (the project's own).
use Rattle.std.specs.Prelude.{◌≡◌, Bool, List, map, Option, Ok}
use Rattle.std.specs.List.{AllByRecursion}
use Rattle.tree_io.specs.declared.file_at.FileAt.{FileAt}
use Rattle.class_model.specs.declared.class.Class.{Class}
use Rattle.class_laws.specs.SpellingLaws.{IsWritable}
use Rattle.class_rename.specs.Names.{Names}
use Rattle.class_rename.specs.Renamed.{renamed}
use Rattle.keep_rules.specs.declared.rules.Rules.{Rules}
use Rattle.mapping_file.specs.MapReading.{read_mapping}
use Rattle.mapping_file.specs.Mappings.{IsMapping, mapping_text}
use Rattle.mapping_file.specs.declared.mapping.Mapping.{Mapping}
use Rattle.pass_driver.specs.declared.optimising.Optimised.{Optimised}
use Rattle.rename_map.specs.MappingOf.{mapping_of}
use Rattle.set_shrink.specs.Order.{AreApart}
use Rattle.set_shrink.specs.declared.shrunk.ShrunkSet.{ShrunkSet}
use Rattle.witness_file.specs.WitnessReading.{read_witness}
use Rattle.witness_file.specs.Witnesses.{IsWitness, witness_text}
use Rattle.pair_laws.specs.OwnPairs.Written.{AreWritten}

-- the mapping of classes that can be written, under names under which they can be written and no two of which are one,
-- has a text (ProGuard manual, "ReTrace", the mapping file)
abbrev pub WritableHaveMapping : Type 0
WritableHaveMapping = (names : Names) (lines : Bool) (classes : List Class) → AllByRecursion IsWritable classes
    → AllByRecursion IsWritable (map (renamed names) classes) → AreApart classes → AreApart (map (renamed names) classes)
    → IsMapping (mapping_of names lines classes)

-- so it is of the mapping that is written of a set
abbrev pub OwnIsMapping : Type 0
OwnIsMapping = (files : List FileAt) (classes : List Class) (marks : List Bool) (rules : Rules)
    (old : Option Mapping) (o : Optimised) (set : ShrunkSet) (written : List FileAt)
    → AreWritten files classes marks rules old o set written → IsMapping set.mapping

-- and its text is read as that mapping (ProGuard manual, "ReTrace")
abbrev pub OwnMappingIsRead : Type 0
OwnMappingIsRead = (files : List FileAt) (classes : List Class) (marks : List Bool) (rules : Rules)
    (old : Option Mapping) (o : Optimised) (set : ShrunkSet) (written : List FileAt)
    → AreWritten files classes marks rules old o set written
    → read_mapping (mapping_text set.mapping) ≡ Ok set.mapping

-- so is that of the witness
abbrev pub OwnWitnessIsRead : Type 0
OwnWitnessIsRead = (files : List FileAt) (classes : List Class) (marks : List Bool) (rules : Rules)
    (old : Option Mapping) (o : Optimised) (set : ShrunkSet) (written : List FileAt)
    → AreWritten files classes marks rules old o set written
    → IsWitness o.witness × (read_witness (witness_text o.witness) ≡ Ok o.witness)
