-- One thing at most is due of told files: that the pair is one, or one refusal.
use Rattle.std.proofs.Common.{ℕ, List, Result, Ok, Err, sym, ap, ◌∙◌}
use Rattle.std.specs.FinMap.{get}
use Rattle.tree_io.specs.Files.{Files}
use Rattle.tree_io.specs.declared.file_at.FileAt.{FileAt}
use Rattle.class_model.specs.declared.class.Class.{Class}
use Rattle.keep_rules.specs.declared.rules.Rules.{Rules}
use Rattle.mapping_file.specs.MapReading.{read_mapping}
use Rattle.mapping_file.specs.declared.mapping.Mapping.{Mapping}
use Rattle.rule_system.specs.Required.{system_due}
use Rattle.witness_file.specs.WitnessReading.{read_witness}
use Rattle.pair_checker.specs.OneAnswer.{IsOneNo, NotBoth}
use Rattle.pair_checker.specs.declared.answer.No.{No as Answer}
use Rattle.command_frame.proofs.OneStep.{IsOne, one_value, then_one}
use Rattle.command_frame.specs.Steps.{IsFile, bytes_in}
use Rattle.command_frame.specs.declared.command.Plan.{Plan}
use Rattle.command_frame.specs.declared.refusal.Quantity.TheVariants as quantity
use Rattle.command_frame.specs.declared.refusal.Refusal.{Refusal}
use Rattle.command_steps.proofs.OneStep.{one_configured, one_directory, one_taken}
use Rattle.command_steps.specs.Config.{IsConfigured}
use Rattle.command_steps.specs.Sets.{IsDirectory, IsSet}
use Rattle.command_steps.specs.System.{IsSystem, or_many}
use Rattle.command_steps.specs.Texts.{IsMapping, IsWitness, or_bad_mapping, or_bad_witness}
use Rattle.check_command.specs.Due.{AreDirectories, AreTexts, FollowsInput, FollowsMapping, FollowsRules, FollowsSet}
use Rattle.check_command.specs.Due.{FollowsTexts, IsJudged, IsPair, IsTexts, belongs, differs, no_refused}
use Rattle.check_command.specs.OneDue.{IsOneDue}
use Rattle.check_command.specs.declared.finding.Directories.{Directories}
use Rattle.check_command.specs.declared.finding.Texts.{Texts}

-- ---- what is read

one_texts_in : (map wit : List ℕ) → IsOne (AreTexts map wit)
one_texts_in map wit =
    then_one (IsMapping map) _ (one_value (or_bad_mapping (read_mapping map)))
    (λ mapping. then_one (IsWitness wit) _ (one_value (or_bad_witness (read_witness wit)))
    (λ witness. one_value (Ok (record { mapping = mapping; witness = witness }))))

one_texts : (files : Files) (mapping witness : List ℕ) → IsOne (IsTexts files mapping witness)
one_texts files mapping witness =
    then_one (IsFile files quantity.Mapping mapping) (FollowsMapping files witness)
    (one_value (bytes_in quantity.Mapping mapping (get files mapping)))
    (λ map. then_one (IsFile files quantity.Witness witness) (AreTexts map)
    (one_value (bytes_in quantity.Witness witness (get files witness))) (λ wit. one_texts_in map wit))

one_directories : (files : Files) (from to : List ℕ) → IsOne (AreDirectories files from to)
one_directories files from to =
    then_one (IsDirectory files from) (FollowsInput files to) (one_directory files from)
    (λ input. then_one (IsDirectory files to) _ (one_directory files to)
    (λ output. one_value (Ok (record { input = input; output = output }))))

-- ---- what is said of it

module _ (either : NotBoth) (one_no : IsOneNo) where
  one_pair : (rules : Rules) (texts : Texts) (output : List FileAt) (classes : List Class)
      → IsOne (IsPair rules texts output classes)
  one_pair rules texts output classes one other (belongs pair is) (belongs same so) = is ∙ sym so
  one_pair rules texts output classes one other (belongs pair is) (differs answer is_no so) =
      absurd (either classes output texts.mapping rules texts.witness answer pair is_no)
  one_pair rules texts output classes one other (differs answer is_no is) (belongs pair so) =
      absurd (either classes output texts.mapping rules texts.witness answer pair is_no)
  one_pair rules texts output classes one other (differs answer is_no is) (differs same also so) =
      let told : Answer → Result Plan Refusal = λ a. Err (no_refused a) in
      is ∙ (ap told (one_no classes output texts.mapping rules texts.witness answer same is_no also) ∙ sym so)

  one_judged : (rules : Rules) (texts : Texts) (directories : Directories)
      → IsOne (IsJudged rules texts directories)
  one_judged rules texts directories =
      then_one (IsSet rules.in_dir directories.input) (FollowsSet rules texts directories.output)
      (one_taken rules.in_dir directories.input)
      (λ classes. then_one (IsSystem rules classes) _ (one_value (or_many rules (system_due classes rules)))
      (λ sys. one_pair rules texts directories.output classes))

  -- ---- the law

  pub one_due : IsOneDue
  one_due files named one other h k =
      then_one (IsConfigured files named.config named.witness) (FollowsRules files named.witness)
      (one_configured files named.config named.witness)
      (λ rules. then_one (IsTexts files rules.mapping named.witness) (FollowsTexts files rules)
      (one_texts files rules.mapping named.witness)
      (λ texts. then_one (AreDirectories files rules.in_dir rules.out_dir) (IsJudged rules texts)
      (one_directories files rules.in_dir rules.out_dir)
      (λ directories. one_judged rules texts directories)))
      one other h k
