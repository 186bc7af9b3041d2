-- What is known of a set that is kept.
use Rattle.std.proofs.Common.{◌≡◌, ℕ, Bool, List, Option, length, Ok, subst, ◌∙◌, arith}
use Rattle.std.specs.List.{AllByRecursion}
use Rattle.std.specs.Prelude.{IfSome}
use Rattle.tree_io.specs.Files.{Files}
use Rattle.tree_io.specs.declared.file_at.FileAt.{FileAt}
use Rattle.class_files.specs.Input.{input_due}
use Rattle.mark_core.specs.Marks.{Closed, Marks, set_of}
use Rattle.mark_core.specs.declared.system.System.{System}
use Rattle.class_model.specs.declared.class.Class.{Class}
use Rattle.class_pool.specs.Count.{item_count}
use Rattle.keep_rules.specs.declared.rules.Rules.{Rules}
use Rattle.class_laws.specs.SpellingLaws.{IsWritable}
use Rattle.pair_laws.specs.NamedForm.Laws.{KeepsWritable, OptimisedKeepsWritable}
use Rattle.mapping_file.specs.declared.mapping.Mapping.{Mapping}
use Rattle.mapping_file.specs.Mappings.{IsMapping}
use Rattle.pass_driver.specs.Optimised.{IsOptimisedIf}
use Rattle.pass_driver.specs.declared.optimising.Optimised.{Optimised}
use Rattle.pair_laws.proofs.FilesFound.Found.{ascend_found}
use Rattle.removal_laws.proofs.AcceptedSets.Taken.{are_taken}
use Rattle.removal_laws.specs.AcceptedSets.Laws.{AreReadable}
use Rattle.rule_system.specs.Required.{required}
use Rattle.rule_system.proofs.SystemDue.{due_is}
use Rattle.set_read.specs.Accepted.{IsAccepted}
use Rattle.command_steps.proofs.Systems.{system_told}
use Rattle.command_steps.specs.Sets.{AreClassFiles}
use Rattle.command_steps.specs.System.{IsSystem}
use Rattle.shrink_command.specs.Due.{IsKept}
use Rattle.shrink_command.specs.bodies.Given.{IsGiven}
use Rattle.shrink_command.proofs.SomeSystem.{due_counted}

-- what the least set of a system has is kept
pub kept_by : (rules : Rules) (classes : List Class) (sys : System) (marks : List Bool)
    → IsSystem rules classes (Ok sys) → Marks sys marks → IsKept rules classes marks
kept_by rules classes sys marks told least =
    let is = system_told rules classes sys told in
    record { sys = sys; due = is.due; some = is.some; least = least }

-- what is kept is closed for the system of requirements
pub kept_closed : (rules : Rules) (classes : List Class) (marks : List Bool) → IsKept rules classes marks
    → Closed (required classes rules) (set_of marks)
kept_closed rules classes marks kept =
    subst (λ (sys : System). Closed sys (set_of marks)) (due_is classes rules kept.sys kept.due) kept.least.closed

-- each item is kept or isn't
pub kept_count : (rules : Rules) (classes : List Class) (marks : List Bool) → IsKept rules classes marks
    → length marks ≡ item_count classes
kept_count rules classes marks kept = kept.least.count ∙ due_counted classes rules kept.sys kept.due

-- files that are read below a directory are such as a set is read of
pub readable : (files : List FileAt) → AreClassFiles files → AreReadable files
readable files h = let short = h.short in record { ascending = h.ascending; short = omega (arith, short) }

-- a set that they are taken as, of which each class can be written
pub given_set : (files : List FileAt) (classes : List Class) → AreClassFiles files → IsAccepted files classes
    → AllByRecursion IsWritable classes → IsGiven classes
given_set files classes are taken writable = record {
  taken = are_taken files classes (readable files are) taken;
  typed = taken.typed;
  writable = writable;
}

-- so are those of told files
pub found_readable : (files : Files) (directory : List ℕ) (inputs : List FileAt)
    → input_due files directory ≡ Ok inputs → AreReadable inputs
found_readable files directory inputs given =
    let found = ascend_found files directory inputs given in
    record { ascending = found.0; short = omega (arith, found.1) }

-- ---- with the codes that become of what is kept

pub codes_so : OptimisedKeepsWritable → (classes : List Class) (rules : Rules) (old : Option Mapping) (marks : List Bool) (o : Optimised)
    → IsGiven classes → IfSome old IsMapping → IsKept rules classes marks → IsOptimisedIf rules.optimise marks classes o
    → KeepsWritable classes rules old marks o
codes_so law classes rules old marks o given names kept optimised =
    law classes rules old marks o names given.taken given.typed (kept_closed rules classes marks kept) given.writable optimised
