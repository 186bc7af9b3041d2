-- What is kept of a set can be written under its new names, and all of it is, and so it is of the set with the codes
-- that the passes leave, as statements on all sets, rules and marks (the project's own).
use Rattle.std.specs.Prelude.{◌≡◌, Bool, List, IsPermutation, Ok, Option, IfSome}
use Rattle.std.specs.List.{AllByRecursion}
use Rattle.mark_core.specs.Marks.{Closed, set_of}
use Rattle.class_model.specs.declared.class.Class.{Class}
use Rattle.class_laws.specs.SpellingLaws.{IsWritable}
use Rattle.class_pool.specs.Count.{item_count}
use Rattle.class_pool.specs.Faults.{Ascends, Builds}
use Rattle.class_pool.specs.declared.fault.NamedClass.{NamedClass}
use Rattle.keep_rules.specs.declared.rules.Rules.{Rules}
use Rattle.mapping_file.specs.Mappings.{IsMapping}
use Rattle.mapping_file.specs.declared.mapping.Mapping.{Mapping}
use Rattle.fresh_names.specs.declared.taken.TakenNames.{TakenNames}
use Rattle.link_check.specs.Profile.{links_checked}
use Rattle.type_verifier.specs.Verified.{AreTyped}
use Rattle.image_laws.specs.TakenSet.TakenSet.{IsTaken}
use Rattle.pass_driver.specs.Optimised.{IsOptimisedIf, with_codes}
use Rattle.pass_driver.specs.declared.optimising.Optimised.{Optimised}
use Rattle.rename_map.specs.Names.{AreFixed}
use Rattle.rule_system.specs.Required.{required}
use Rattle.set_shrink.specs.Order.{in_order}
use Rattle.set_shrink.specs.ShrunkSet.{renamed_of}

-- the set was built of files whose paths ascend, and breaks no rule for links (JVMS 5.3.5, 5.4.3 to 5.4.5)
pub record IsLinked (classes : List Class) : Type 0 where
  pub files : List NamedClass
  pub ascend : Ascends files
  pub built : Builds (Ok classes) files
  pub linked : links_checked classes ≡ Ok tt

-- where each class of such a set can be written, so can what is kept of it by closed marks, under its new names, of
-- which an earlier mapping that has a text may give some
abbrev pub KeptAreWritable : Type 0
KeptAreWritable = (classes : List Class) (rules : Rules) (old : Option Mapping) (marks : List Bool)
    → IfSome old IsMapping → IsLinked classes
    → Closed (required classes rules) (set_of marks) → AllByRecursion IsWritable classes
    → AllByRecursion IsWritable (renamed_of classes marks rules old)

-- each class that is kept of such a set, whatever is marked, stands once in the order of the files
abbrev pub KeptAreAllWritten : Type 0
KeptAreAllWritten = (classes : List Class) (rules : Rules) (old : Option Mapping) (marks : List Bool)
    → IsLinked classes
    → IsPermutation (renamed_of classes marks rules old) (in_order (renamed_of classes marks rules old))

-- ---- with other codes

-- what is kept of a set with the codes that become of it can be written under its new names; the set has as many items,
-- and the names that stay are the same
pub record KeepsWritable (classes : List Class) (rules : Rules) (old : Option Mapping) (marks : List Bool)
    (o : Optimised) : Type 0 where
  pub writable : AllByRecursion IsWritable (renamed_of (with_codes o.codes classes) marks rules old)
  pub count : item_count (with_codes o.codes classes) ≡ item_count classes
  pub fixed : (taken : Option TakenNames) → AreFixed rules classes taken
      → AreFixed rules (with_codes o.codes classes) taken

-- so it is of a set that is taken and typed, and of which each class can be written, by closed marks
abbrev pub OptimisedKeepsWritable : Type 0
OptimisedKeepsWritable = (classes : List Class) (rules : Rules) (old : Option Mapping) (marks : List Bool)
    (o : Optimised) → IfSome old IsMapping → IsTaken classes → AreTyped classes → Closed (required classes rules) (set_of marks) → AllByRecursion IsWritable classes
    → IsOptimisedIf rules.optimise marks classes o → KeepsWritable classes rules old marks o
