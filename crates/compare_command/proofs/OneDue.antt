-- One thing at most is due of told files.
use Rattle.std.proofs.Common.{ℕ, List, [], sym, ◌∙◌}
use Rattle.std.specs.FinMap.{get}
use Rattle.tree_io.specs.Files.{Files}
use Rattle.class_model.specs.declared.class.Class.{Class}
use Rattle.keep_rules.specs.declared.rules.Rules.{Rules}
use Rattle.mapping_file.specs.MapReading.{read_mapping}
use Rattle.mapping_file.specs.declared.mapping.Mapping.{Mapping}
use Rattle.command_frame.proofs.OneStep.{IsOne, one_value, then_one}
use Rattle.command_frame.specs.Steps.{IsFile, bytes_in}
use Rattle.command_frame.specs.declared.refusal.Quantity.TheVariants as quantity
use Rattle.command_steps.proofs.OneStep.{one_configured, one_directory, one_taken}
use Rattle.command_steps.specs.Config.{IsConfigured}
use Rattle.command_steps.specs.Sets.{IsDirectory, IsSet}
use Rattle.command_steps.specs.Texts.{IsMapping, or_bad_mapping}
use Rattle.run_command.specs.Due.{IsStart, or_no_entry, start_in}
use Rattle.run_command.specs.declared.entries.Start.{Start}
use Rattle.compare_command.specs.Due.{FollowsInput, FollowsMapping, FollowsOutput, FollowsRules, IsCompared, IsMappingAt}
use Rattle.compare_command.specs.Due.{IsSeed, IsSeedStart, IsSetAt, alike, differs, or_no_seed}
use Rattle.compare_command.specs.OneDue.{IsOneDue}
use Rattle.compare_command.specs.Seeds.{is_seed}
use Rattle.compare_command.specs.declared.command.CompareFiles.{CompareFiles}

-- ---- what is read

one_mapping : (files : Files) (path : List ℕ) → IsOne (IsMappingAt files path)
one_mapping files path =
    then_one (IsFile files quantity.Mapping path) IsMapping (one_value (bytes_in quantity.Mapping path (get files path)))
    (λ map. one_value (or_bad_mapping (read_mapping map)))

one_set : (files : Files) (directory : List ℕ) → IsOne (IsSetAt files directory)
one_set files directory =
    then_one (IsDirectory files directory) (IsSet directory) (one_directory files directory)
    (λ inputs. one_taken directory inputs)

-- ---- what is said of it

one_start : (rules : Rules) (input : List Class) (named : CompareFiles) → IsOne (IsSeedStart rules input named)
one_start rules input named =
    then_one (IsStart input named.entry named.words) (IsSeed rules input named.entry)
    (one_value (or_no_entry named.entry (start_in input named.entry named.words)))
    (λ start. one_value (or_no_seed named.entry start (is_seed rules input start.entry.key)))

one_compared : (mapping : Mapping) (input output : List Class) (steps : ℕ) (start : Start)
    → IsOne (IsCompared mapping input output steps start)
one_compared mapping input output steps start one other (alike h is) (alike k so) = is ∙ sym so
one_compared mapping input output steps start one other (alike h is) (differs k so) = absurd (k h)
one_compared mapping input output steps start one other (differs h is) (alike k so) = absurd (h k)
one_compared mapping input output steps start one other (differs h is) (differs k so) = is ∙ sym so

-- ---- the whole

one_output : (named : CompareFiles) (rules : Rules) (mapping : Mapping) (input output : List Class)
    → IsOne (FollowsOutput named rules mapping input output)
one_output named rules mapping input output =
    then_one (IsSeedStart rules input named) (IsCompared mapping input output named.steps)
    (one_start rules input named) (λ start. one_compared mapping input output named.steps start)

one_input : (named : CompareFiles) (rules : Rules) (mapping : Mapping) (files : Files) (input : List Class)
    → IsOne (FollowsInput named rules mapping files input)
one_input named rules mapping files input =
    then_one (IsSetAt files rules.out_dir) (FollowsOutput named rules mapping input) (one_set files rules.out_dir)
    (λ output. one_output named rules mapping input output)

one_by_mapping : (named : CompareFiles) (rules : Rules) (files : Files) (mapping : Mapping)
    → IsOne (FollowsMapping named rules files mapping)
one_by_mapping named rules files mapping =
    then_one (IsSetAt files rules.in_dir) (FollowsInput named rules mapping files) (one_set files rules.in_dir)
    (λ input. one_input named rules mapping files input)

one_by_rules : (named : CompareFiles) (files : Files) (rules : Rules) → IsOne (FollowsRules named files rules)
one_by_rules named files rules =
    then_one (IsMappingAt files rules.mapping) (FollowsMapping named rules files) (one_mapping files rules.mapping)
    (λ mapping. one_by_mapping named rules files mapping)

pub one_due : IsOneDue
one_due files named =
    then_one (IsConfigured files named.config []) (FollowsRules named files) (one_configured files named.config [])
    (λ rules. one_by_rules named files rules)
