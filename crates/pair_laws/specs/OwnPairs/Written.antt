-- The files that are written of a set, as they are read again below the output directory (the project's own).
use Rattle.std.specs.Prelude.{◌≡◌, Bool, List, length, Option, IfSome}
use Rattle.std.specs.Str.{IsUtf8}
use Rattle.tree_io.specs.declared.file_at.FileAt.{FileAt}
use Rattle.mark_core.specs.Marks.{Closed, set_of}
use Rattle.class_model.specs.declared.class.Class.{Class}
use Rattle.class_pool.specs.Count.{item_count}
use Rattle.keep_rules.specs.declared.rules.Rules.{Rules}
use Rattle.mapping_file.specs.Mappings.{IsMapping}
use Rattle.mapping_file.specs.declared.mapping.Mapping.{Mapping}
use Rattle.pass_driver.specs.Optimised.{IsOptimisedIf, with_codes}
use Rattle.pass_driver.specs.declared.optimising.Optimised.{Optimised}
use Rattle.rule_system.specs.Required.{required}
use Rattle.set_read.specs.Accepted.{IsAccepted}
use Rattle.removal_laws.specs.AcceptedSets.Laws.{AreReadable}
use Rattle.pair_laws.specs.FilesFound.Below.{AreBelow}
use Rattle.set_shrink.specs.ShrunkSet.{IsShrunk}
use Rattle.set_shrink.specs.declared.shrunk.ShrunkSet.{ShrunkSet}

-- files are taken as a set, marks are closed for what its rules require, codes are what becomes of what is kept by these
-- rules, and files below the output directory are those that are written of the set with these codes by these marks and an
-- earlier mapping that has a text, or none; a name that source files get is a text
pub record AreWritten (files : List FileAt) (classes : List Class) (marks : List Bool) (rules : Rules)
    (old : Option Mapping) (o : Optimised) (set : ShrunkSet) (written : List FileAt) : Type 0 where
  pub readable : AreReadable files
  pub accepted : IsAccepted files classes
  pub closed : Closed (required classes rules) (set_of marks)
  pub count : length marks ≡ item_count classes
  pub source_name : IfSome rules.source_name IsUtf8
  pub optimised : IsOptimisedIf rules.optimise marks classes o
  pub shrunk : IsShrunk (with_codes o.codes classes) marks rules old set
  pub earlier : IfSome old IsMapping
  pub below : AreBelow rules.out_dir set.files written
