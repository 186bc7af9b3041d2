-- What `shrink CONFIG OUTWIT` is to write and to say of told files, or why it is refused (the project's own: what the
-- command promises).
use Rattle.std.specs.Prelude.{◌≡◌, ℕ, Bool, false, List, [], ◌++◌, length, Option, Result, Ok, Err}
use Rattle.std.specs.FinMap.{keys}
use Rattle.tree_io.specs.Below.{paths_below}
use Rattle.tree_io.specs.Files.{Files}
use Rattle.tree_io.specs.declared.file_at.FileAt.{FileAt}
use Rattle.class_model.specs.declared.class.Class.{Class}
use Rattle.class_model.specs.declared.limit.WriteLimit.{WriteLimit}
use Rattle.class_model.specs.declared.limit.WriteLimit.TheVariants as limit
use Rattle.keep_rules.specs.declared.rules.Rules.{Rules}
use Rattle.list_texts.specs.declared.limit.TooLong.{TooLong as LongText}
use Rattle.mapping_file.specs.declared.mapping.Mapping.{Mapping}
use Rattle.mark_core.specs.Marks.{Marks}
use Rattle.mark_core.specs.declared.system.System.{System}
use Rattle.pass_driver.specs.Optimised.{IsOptimisedIf, with_codes}
use Rattle.pass_driver.specs.declared.optimising.Optimised.{Optimised}
use Rattle.report_text.specs.Kinds.{limit_name}
use Rattle.rule_system.specs.Required.{system_due}
use Rattle.set_shrink.specs.ShrunkSet.{IsShrunk, PassesLimit}
use Rattle.set_shrink.specs.Texts.{texts_due}
use Rattle.set_shrink.specs.declared.shrunk.ShrunkSet.{ShrunkSet}
use Rattle.witness_file.specs.declared.witness.Witness.{Witness}
use Rattle.command_frame.specs.Refusal.{limit_refused, passed}
use Rattle.command_frame.specs.Steps.{Then}
use Rattle.command_frame.specs.declared.command.Plan.{Plan}
use Rattle.command_frame.specs.declared.refusal.Quantity.TheVariants as quantity
use Rattle.command_frame.specs.declared.refusal.Reason.TheVariants.{NotEmpty}
use Rattle.command_frame.specs.declared.refusal.Refusal.{Refusal}
use Rattle.command_steps.specs.Config.{IsConfigApart}
use Rattle.command_steps.specs.Sets.{IsDirectory, IsSet}
use Rattle.command_steps.specs.System.{IsSystem, keeps_nothing}
use Rattle.command_steps.specs.Texts.{IsEarlier}
use Rattle.shrink_command.specs.Summary.{summary_text}
use Rattle.shrink_command.specs.declared.command.ShrinkFiles.{ShrinkFiles}

-- ---- the output directory

-- no told file lies below the directory
abbrev pub IsEmpty : Files → List ℕ → Type 0
IsEmpty files directory = paths_below directory (keys files) ≡ []

-- a file lies below the directory to which classes are to be written
abbrev pub not_empty : List ℕ → Refusal
not_empty directory = record { reason = NotEmpty; told = directory }

abbrev pub IsEmptied : Files → List ℕ → Result (Unit {0}) Refusal → Type 0
IsEmptied files directory (Ok done) = IsEmpty files directory
IsEmptied files directory (Err refusal) = (refusal ≡ not_empty directory) × (IsEmpty files directory → ⊥)

-- ---- what is kept

-- the least set that has all that a system of requirements asks for, as a truth value for each item; there always is one
abbrev pub AreMarks : System → Result (List Bool) Refusal → Type 0
AreMarks sys (Ok marks) = Marks sys marks
AreMarks sys (Err refusal) = ⊥

-- these items are kept: the least set that has all that the system of requirements asks for, which passes no limit and
-- keeps something
pub record IsKept (rules : Rules) (classes : List Class) (marks : List Bool) : Type 0 where
  pub sys : System
  pub due : system_due classes rules ≡ Ok sys
  pub some : keeps_nothing rules sys ≡ false
  pub least : Marks sys marks

-- ---- what is written

-- the greatest number that the format has room for (JVMS 4.7, 4.11, 6.5)
abbrev pub most_written : WriteLimit → ℕ
most_written (limit.PoolFull count) = 65535
most_written (limit.TextTooLong length) = 65535
most_written (limit.CodeTooLong length) = 65535
most_written (limit.BranchTooFar index distance) = 32767
most_written (limit.AttributeFull count) = 65535
most_written (limit.AttributeTooLong length) = 4294967295

-- a class that is kept passes a limit of the format
abbrev pub limit_told : WriteLimit → Refusal
limit_told passes = limit_refused (limit_name passes) (most_written passes)

-- the class files of what is kept, or the first limit of the format that one passes
abbrev pub IsWritten : Rules → Option Mapping → List Class → List Bool → Result ShrunkSet Refusal → Type 0
IsWritten rules old classes marks (Ok shrunk) = IsShrunk classes marks rules old shrunk
IsWritten rules old classes marks (Err refusal) =
    (passes : WriteLimit) × PassesLimit classes marks rules old passes × (refusal ≡ limit_told passes)

-- the texts behind them, or that one is longer than 64 MiB
abbrev pub or_long : Result (List FileAt) LongText → Result (List FileAt) Refusal
or_long (Ok texts) = Ok texts
or_long (Err long) = Err (passed quantity.Text)

-- what becomes of the codes of what is kept, where the rules want it; there always is something (ProGuard manual,
-- "-dontoptimize")
abbrev pub AreOptimised : Rules → List Class → List Bool → Result Optimised Refusal → Type 0
AreOptimised rules classes marks (Ok o) = IsOptimisedIf rules.optimise marks classes o
AreOptimised rules classes marks (Err refusal) = ⊥

-- the class files, behind them the texts; and the summary
abbrev pub plan_for : ShrunkSet → Witness → ℕ → List FileAt → Plan
plan_for shrunk edits fallback texts = record {
  files = shrunk.files ++ texts;
  text = summary_text shrunk.read shrunk.kept (length edits.methods) fallback;
}

abbrev pub IsPlan : ShrunkSet → Witness → ℕ → List FileAt → Result Plan Refusal → Type 0
IsPlan shrunk edits fallback texts due = due ≡ Ok (plan_for shrunk edits fallback texts)

-- class files and what their texts are
abbrev pub Joins : ShrunkSet → Witness → ℕ → Result (List FileAt) LongText → Result Plan Refusal → Type 0
Joins shrunk edits fallback told = Then (λ due. due ≡ or_long told) (IsPlan shrunk edits fallback)

-- the class files of what is kept, with the codes that become of its methods; behind them the mapping, the list of what
-- the rules keep and the list of what is dropped, where these are asked for, and the witness at its path
abbrev pub FollowsCodes : Rules → Option Mapping → List ℕ → List Class → List Bool → Optimised → Result Plan Refusal → Type 0
FollowsCodes rules old witness classes marks o = Then (IsWritten rules old (with_codes o.codes classes) marks)
    (λ shrunk. Joins shrunk o.witness o.fallback (texts_due shrunk.mapping o.witness classes marks rules witness))

-- what is kept is optimised and written
abbrev pub FollowsMarks : Rules → Option Mapping → List ℕ → List Class → List Bool → Result Plan Refusal → Type 0
FollowsMarks rules old witness classes marks =
    Then (AreOptimised rules classes marks) (FollowsCodes rules old witness classes marks)

-- what is kept of the classes by the rules, and what is written of it
abbrev pub FollowsSystem : Rules → Option Mapping → List ℕ → List Class → System → Result Plan Refusal → Type 0
FollowsSystem rules old witness classes sys = Then (AreMarks sys) (FollowsMarks rules old witness classes)

abbrev pub IsPlanned : Rules → Option Mapping → List ℕ → List Class → Result Plan Refusal → Type 0
IsPlanned rules old witness classes = Then (IsSystem rules classes) (FollowsSystem rules old witness classes)

-- ---- the whole

-- the class files below the input directory, as a set
abbrev pub FollowsInput : Rules → Option Mapping → List ℕ → List FileAt → Result Plan Refusal → Type 0
FollowsInput rules old witness inputs = Then (IsSet rules.in_dir inputs) (IsPlanned rules old witness)

-- the input directory, behind the output directory
abbrev pub FollowsOutput : Files → List ℕ → Rules → Option Mapping → Result Plan Refusal → Type 0
FollowsOutput files witness rules old = Then (IsDirectory files rules.in_dir) (FollowsInput rules old witness)

-- both directories, behind the earlier mapping
abbrev pub FollowsEarlier : Files → List ℕ → Rules → Option Mapping → Result Plan Refusal → Type 0
FollowsEarlier files witness rules old =
    Then (IsEmptied files rules.out_dir) (λ done. FollowsOutput files witness rules old)

-- the earlier mapping, if one is applied, behind the config
abbrev pub FollowsRules : Files → List ℕ → Rules → Result Plan Refusal → Type 0
FollowsRules files witness rules = Then (IsEarlier files rules.apply) (FollowsEarlier files witness rules)

-- what `shrink CONFIG OUTWIT` is to write and to say, or the first refusal
abbrev pub IsDue : ShrinkFiles → Files → Result Plan Refusal → Type 0
IsDue named files = Then (IsConfigApart files named.config named.witness) (FollowsRules files named.witness)
