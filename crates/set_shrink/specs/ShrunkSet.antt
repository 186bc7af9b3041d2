-- What is written of a set of classes (ProGuard manual, "Usage": shrinking removes what isn't kept, obfuscation renames
-- what is).
use Rattle.std.specs.Prelude.{◌≡◌, ℕ, Bool, List, ◌∷◌, ◌++◌, length, map, codes, Option, Result, Ok, Err}
use Rattle.std.specs.List.{AllByRecursion, AllZip, sum_by}
use Rattle.jv_base.specs.declared.outcome.Or.{Or}
use Rattle.jv_base.specs.declared.outcome.Or.TheVariants.{Fault, OutOfMemory}
use Rattle.tree_io.specs.declared.file_at.FileAt.{FileAt}
use Rattle.class_model.specs.WriteLimits.{class_written}
use Rattle.class_model.specs.declared.class.Class.{Class}
use Rattle.class_model.specs.declared.limit.WriteLimit.{WriteLimit}
use Rattle.keep_rules.specs.declared.rules.Rules.{Rules}
use Rattle.member_shrink.specs.Shrunk.{shrunk}
use Rattle.attribute_filter.specs.Filtered.{filtered}
use Rattle.attribute_filter.specs.KeptAttributes.{filter_of}
use Rattle.class_rename.specs.Names.{Names}
use Rattle.class_rename.specs.Renamed.{renamed}
use Rattle.mapping_file.specs.declared.mapping.Mapping.{Mapping}
use Rattle.rename_map.specs.MappingOf.{mapping_of}
use Rattle.rename_map.specs.Names.{names_of}
use Rattle.set_shrink.specs.Order.{in_order}
use Rattle.set_shrink.specs.declared.counts.Counts.{Counts}
use Rattle.set_shrink.specs.declared.shrunk.ShrunkSet.{ShrunkSet}

-- ---- what is kept

-- the new names of what is marked, of which an earlier mapping may give some (ProGuard manual, "Usage": obfuscation,
-- "-applymapping")
abbrev pub new_names : List Class → List Bool → Rules → Option Mapping → Names
new_names classes marks rules old = names_of classes (shrunk classes marks) rules old

-- the marked classes with their marked members under their new names (ProGuard manual, "Usage": obfuscation)
abbrev pub renamed_of : List Class → List Bool → Rules → Option Mapping → List Class
renamed_of classes marks rules old = map (renamed (new_names classes marks rules old)) (shrunk classes marks)

-- these in the order of their files, each with those optional attributes that the rules keep (ProGuard manual,
-- "-keepattributes"; the order is the project's own)
abbrev pub left_of : List Class → List Bool → Rules → Option Mapping → List Class
left_of classes marks rules old = map (filtered (filter_of rules)) (in_order (renamed_of classes marks rules old))

-- ---- files

-- the file of a class below a directory (JLS 7.2.1)
abbrev pub path_of : List ℕ → Class → List ℕ
path_of directory c = directory ++ codes "/" ++ c.name ++ codes ".class"

-- it has the canonical spelling of the class (JVMS 4)
abbrev pub IsFileOf : List ℕ → Class → FileAt → Type 0
IsFileOf directory c f = (f.path ≡ path_of directory c) × (class_written c ≡ Ok f.bytes)

-- the files of classes, in their order (JVMS 4)
abbrev pub AreFilesOf : List ℕ → List Class → List FileAt → Type 0
AreFilesOf directory classes files = AllZip (IsFileOf directory) classes files

-- no limit of the format is passed (JVMS 4.11)
abbrev pub Fits : Class → Type 0
Fits c = (bytes : List ℕ) × (class_written c ≡ Ok bytes)

-- the first class that passes one passes this limit first (JVMS 4.11)
pub record PassLimit (classes : List Class) (limit : WriteLimit) : Type 0 where
  pub before : List Class
  pub class : Class
  pub after : List Class
  pub split : classes ≡ before ++ class ∷ after
  pub fit : AllByRecursion Fits before
  pub passes : class_written class ≡ Err limit

-- ---- counts (the project's own: the summary tells them)

-- how many classes, fields and methods there are
abbrev pub counts_of : List Class → Counts
counts_of classes = record {
  classes = length classes;
  fields = sum_by (λ (c : Class). length c.fields) classes;
  methods = sum_by (λ (c : Class). length c.methods) classes;
}

-- ---- the whole (the project's own: what the command promises)

-- the files of what is marked, below the output directory, the mapping, where lines are told if they are kept, and the
-- counts of all and of what is marked
pub record IsShrunk (classes : List Class) (marks : List Bool) (rules : Rules) (old : Option Mapping) (set : ShrunkSet)
    : Type 0 where
  pub files : AreFilesOf rules.out_dir (left_of classes marks rules old) set.files
  pub mapping : set.mapping
      ≡ mapping_of (new_names classes marks rules old) (filter_of rules).line_numbers (shrunk classes marks)
  pub read : set.read ≡ counts_of classes
  pub left : set.kept ≡ counts_of (shrunk classes marks)

-- a class that is marked passes a limit
abbrev pub PassesLimit : List Class → List Bool → Rules → Option Mapping → WriteLimit → Type 0
PassesLimit classes marks rules old limit = PassLimit (left_of classes marks rules old) limit

-- what is written of a set, or the first limit that it passes; want of memory is free
abbrev pub Shrinks : Result ShrunkSet (Or WriteLimit) → List Class → List Bool → Rules → Option Mapping → Type 0
Shrinks (Ok set) classes marks rules old = IsShrunk classes marks rules old set
Shrinks (Err (Fault limit)) classes marks rules old = PassesLimit classes marks rules old limit
Shrinks (Err OutOfMemory) classes marks rules old = Unit {0}
