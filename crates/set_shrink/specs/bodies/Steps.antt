-- What the steps give on the way to what is written of a set (only the proof of shrink_classes needs it).
use Rattle.std.specs.Prelude.{◌≡◌, ℕ, List, Result, Ok, Err, map}
use Rattle.std.specs.List.{AllZip}
use Rattle.jv_base.specs.declared.outcome.Or.{Or}
use Rattle.jv_base.specs.declared.outcome.Or.TheVariants.{Fault, OutOfMemory}
use Rattle.tree_io.specs.declared.file_at.FileAt.{FileAt}
use Rattle.class_model.specs.WriteLimits.{class_written}
use Rattle.class_model.specs.declared.class.Class.{Class}
use Rattle.class_model.specs.declared.limit.WriteLimit.{WriteLimit}
use Rattle.keep_rules.specs.declared.rules.Rules.{Rules}
use Rattle.attribute_filter.specs.Filtered.{filtered}
use Rattle.attribute_filter.specs.KeptAttributes.{filter_of}
use Rattle.class_rename.specs.Names.{Names}
use Rattle.class_rename.specs.Renamed.{renamed}
use Rattle.rename_map.specs.MappingOf.{mapping_of}
use Rattle.set_shrink.specs.Order.{in_order}
use Rattle.set_shrink.specs.ShrunkSet.{AreFilesOf, IsFileOf, PassLimit}
use Rattle.set_shrink.specs.declared.renaming.NamedFiles.{NamedFiles}

-- the files of classes
abbrev pub Writes : Result (List FileAt) (Or WriteLimit) → List Class → List ℕ → Type 0
Writes (Ok files) classes directory = AreFilesOf directory classes files
Writes (Err (Fault limit)) classes directory = PassLimit classes limit
Writes (Err OutOfMemory) classes directory = Unit {0}

-- the file of a class
abbrev pub WritesOne : Result FileAt (Or WriteLimit) → Class → List ℕ → Type 0
WritesOne (Ok f) class directory = IsFileOf directory class f
WritesOne (Err (Fault limit)) class directory = class_written class ≡ Err limit
WritesOne (Err OutOfMemory) class directory = Unit {0}

-- for each class its file
abbrev pub AreEachWritten : List ℕ → List Class → List (Result FileAt (Or WriteLimit)) → Type 0
AreEachWritten directory classes all = AllZip (λ c file. WritesOne file c directory) classes all

-- the files of classes under new names, in the order of their paths, and the mapping; or the first limit that one
-- passes
abbrev pub WritesNamed : Result NamedFiles (Or WriteLimit) → Names → List Class → Rules → Type 0
WritesNamed (Ok written) names kept rules =
    AreFilesOf rules.out_dir (map (filtered (filter_of rules)) (in_order (map (renamed names) kept))) written.files
    × (written.mapping ≡ mapping_of names (filter_of rules).line_numbers kept)
WritesNamed (Err (Fault limit)) names kept rules =
    PassLimit (map (filtered (filter_of rules)) (in_order (map (renamed names) kept))) limit
WritesNamed (Err OutOfMemory) names kept rules = Unit {0}
