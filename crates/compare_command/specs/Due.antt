-- What `compare CONFIG ENTRY STEPS WORD..` is to say of told files, or why it is refused (the project's own: what the
-- command promises).
use Rattle.std.specs.Prelude.{◌≡◌, ℕ, List, [], Bool, true, false, Option, Result, Ok, Err, codes}
use Rattle.std.specs.Option.{option_map}
use Rattle.tree_io.specs.Files.{Files}
use Rattle.class_model.specs.declared.class.Class.{Class}
use Rattle.class_run.specs.Ended.{ended_after}
use Rattle.class_run.specs.declared.ended.Ended.{Ended}
use Rattle.keep_rules.specs.declared.rules.Rules.{Rules}
use Rattle.mapping_file.specs.declared.mapping.Mapping.{Mapping}
use Rattle.command_frame.specs.Steps.{IsFile, Then}
use Rattle.command_frame.specs.declared.command.Plan.{Plan}
use Rattle.command_frame.specs.declared.refusal.Quantity.TheVariants as quantity
use Rattle.command_frame.specs.declared.refusal.Reason.TheVariants as reason
use Rattle.command_frame.specs.declared.refusal.Refusal.{Refusal}
use Rattle.command_steps.specs.Config.{IsConfigured}
use Rattle.command_steps.specs.Sets.{IsDirectory, IsSet}
use Rattle.command_steps.specs.Texts.{IsMapping}
use Rattle.run_command.specs.Due.{IsStart, no_entry}
use Rattle.run_command.specs.declared.entries.Start.{Start}
use Rattle.compare_command.specs.Alike.{IsAnyAlike}
use Rattle.compare_command.specs.NewEntry.{new_entry}
use Rattle.compare_command.specs.Seeds.{is_seed}
use Rattle.compare_command.specs.declared.command.CompareFiles.{CompareFiles}

-- ---- what is read

-- the mapping in a told file
abbrev pub IsMappingAt : Files → List ℕ → Result Mapping Refusal → Type 0
IsMappingAt files path = Then (IsFile files quantity.Mapping path) IsMapping

-- the set of classes of a directory
abbrev pub IsSetAt : Files → List ℕ → Result (List Class) Refusal → Type 0
IsSetAt files directory = Then (IsDirectory files directory) (IsSet directory)

-- ---- what the runs begin with

-- a start with a method that rules keep in any case; with another one the entry is refused
abbrev pub or_no_seed : List ℕ → Start → Bool → Result Start Refusal
or_no_seed entry start true = Ok start
or_no_seed entry start false = Err (no_entry entry)

abbrev pub IsSeed : Rules → List Class → List ℕ → Start → Result Start Refusal → Type 0
IsSeed rules input entry start due = due ≡ or_no_seed entry start (is_seed rules input start.entry.key)

-- what a run of an entry of the input begins with, which rules keep in any case, or why there is none
abbrev pub IsSeedStart : Rules → List Class → CompareFiles → Result Start Refusal → Type 0
IsSeedStart rules input named =
    Then (IsStart input named.entry named.words) (IsSeed rules input named.entry)

-- ---- what is said of both runs

-- what the input has come to after so many steps
abbrev pub input_ended : List Class → Start → ℕ → Ended
input_ended input start steps = ended_after input start.entry.key start.args steps

-- what the output has after as many, from the same method through the mapping, with the same arguments
abbrev pub output_ended : Mapping → List Class → Start → ℕ → Option Ended
output_ended mapping output start steps =
    option_map (λ key. ended_after output key start.args steps) (new_entry mapping output start.entry)

-- no file is written, and this is said
abbrev pub same_plan : Plan
same_plan = record { files = []; text = codes "same\n" }

-- the output differs; nothing more is told
abbrev pub differs_refused : Refusal
differs_refused = record { reason = reason.Differs; told = [] }

-- the output has shown what the input has, or it hasn't
pub data IsCompared (mapping : Mapping) (input output : List Class) (steps : ℕ) (start : Start)
    (due : Result Plan Refusal) : Type 0 where
  alike : IsAnyAlike mapping (input_ended input start steps) (output_ended mapping output start steps)
      → due ≡ Ok same_plan → IsCompared mapping input output steps start due
  differs : (IsAnyAlike mapping (input_ended input start steps) (output_ended mapping output start steps) → ⊥)
      → due ≡ Err differs_refused → IsCompared mapping input output steps start due

-- ---- the whole

-- both sets of classes
abbrev pub FollowsOutput : CompareFiles → Rules → Mapping → List Class → List Class → Result Plan Refusal → Type 0
FollowsOutput named rules mapping input output =
    Then (IsSeedStart rules input named) (IsCompared mapping input output named.steps)

-- the output directory, behind the input
abbrev pub FollowsInput : CompareFiles → Rules → Mapping → Files → List Class → Result Plan Refusal → Type 0
FollowsInput named rules mapping files input =
    Then (IsSetAt files rules.out_dir) (FollowsOutput named rules mapping input)

-- both directories, behind the mapping
abbrev pub FollowsMapping : CompareFiles → Rules → Files → Mapping → Result Plan Refusal → Type 0
FollowsMapping named rules files mapping =
    Then (IsSetAt files rules.in_dir) (FollowsInput named rules mapping files)

-- the mapping, behind the config
abbrev pub FollowsRules : CompareFiles → Files → Rules → Result Plan Refusal → Type 0
FollowsRules named files rules = Then (IsMappingAt files rules.mapping) (FollowsMapping named rules files)

-- what the command is to say: that the output has shown what the input has, or the first refusal; no file is a witness
abbrev pub IsDue : CompareFiles → Files → Result Plan Refusal → Type 0
IsDue named files = Then (IsConfigured files named.config []) (FollowsRules named files)
