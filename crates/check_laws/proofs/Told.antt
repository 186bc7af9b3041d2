-- Something is due of `check`, of any told files of bytes.
use Rattle.std.proofs.Common.{◌≡◌, ℕ, nat_lt, List, length, Result, Ok, Err, refl, subst, ⊎_elim}
use Rattle.std.specs.FinMap.{get, keys}
use Rattle.std.specs.List.{AllByRecursion}
use Rattle.tree_io.specs.Below.{paths_below}
use Rattle.tree_io.specs.Files.{Files}
use Rattle.tree_io.specs.declared.file_at.FileAt.{FileAt}
use Rattle.class_files.specs.Input.{class_paths, files_in, input_due, total}
use Rattle.class_laws.specs.ReadingLaws.{AreBytes}
use Rattle.keep_rules.specs.declared.rules.Rules.{Rules}
use Rattle.mapping_file.specs.MapReading.{read_mapping}
use Rattle.mapping_file.specs.declared.mapping.Mapping.{Mapping}
use Rattle.witness_file.specs.WitnessReading.{read_witness}
use Rattle.witness_file.specs.declared.witness.Witness.{Witness}
use Rattle.check_command.proofs.Found.{AreGiven, given}
use Rattle.check_command.specs.Due.{AreDirectories, AreTexts, FollowsInput, FollowsMapping, FollowsRules, FollowsSet}
use Rattle.check_command.specs.Due.{FollowsTexts, IsJudged, IsPair, IsTexts, belongs, differs, no_refused, ok_plan}
use Rattle.check_command.specs.declared.finding.Directories.{Directories}
use Rattle.check_command.specs.declared.finding.Texts.{Texts}
use Rattle.command_frame.proofs.OneStep.{IsSome, some_value, then_some}
use Rattle.command_frame.specs.Steps.{IsFile, Then, bytes_in}
use Rattle.command_frame.specs.declared.refusal.Quantity.TheVariants as quantity
use Rattle.command_frame.specs.declared.refusal.Refusal.{Refusal}
use Rattle.command_steps.specs.Config.{IsConfigured}
use Rattle.command_steps.specs.Sets.{IsDirectory, IsSet}
use Rattle.command_steps.specs.System.{IsSystem, or_many}
use Rattle.command_steps.specs.Texts.{IsMapping, IsWitness, or_bad_mapping, or_bad_witness}
use Rattle.check_laws.proofs.Answer.{some_answer}
use Rattle.rule_system.specs.Required.{system_due}
use Rattle.shrink_command.proofs.SomeDue.{bytes_of, input_is, some_configured, some_directory, some_set}
use Rattle.shrink_command.specs.SomeDue.{HoldBytes}
use Rattle.check_laws.specs.Laws.{IsSomeCheck}

-- ---- the mapping and the witness

abbrev both_texts : Mapping → Witness → Result Texts Refusal
both_texts mapping witness = Ok (record { mapping = mapping; witness = witness })

texts_by : (map wit : List ℕ) → IsSome (AreTexts map wit)
texts_by map wit =
    then_some (IsMapping map) (λ mapping. Then (IsWitness wit)
    (λ witness due. due ≡ both_texts mapping witness))
    (some_value (or_bad_mapping (read_mapping map)))
    (λ mapping told. then_some (IsWitness wit)
    (λ witness due. due ≡ both_texts mapping witness)
    (some_value (or_bad_witness (read_witness wit)))
    (λ witness has. some_value (both_texts mapping witness)))

some_texts : (files : Files) (mapping witness : List ℕ) → IsSome (IsTexts files mapping witness)
some_texts files mapping witness =
    then_some (IsFile files quantity.Mapping mapping) (FollowsMapping files witness)
    (some_value (bytes_in quantity.Mapping mapping (get files mapping)))
    (λ map told. then_some (IsFile files quantity.Witness witness) (AreTexts map)
    (some_value (bytes_in quantity.Witness witness (get files witness))) (λ wit has. texts_by map wit))

-- ---- the directories

abbrev both_found : List FileAt → List FileAt → Result Directories Refusal
both_found input output = Ok (record { input = input; output = output })

some_directories : (files : Files) (from to : List ℕ) → IsSome (AreDirectories files from to)
some_directories files from to =
    then_some (IsDirectory files from) (FollowsInput files to) (some_directory files from)
    (λ input told. then_some (IsDirectory files to)
    (λ output due. due ≡ both_found input output) (some_directory files to)
    (λ output has. some_value (both_found input output)))

-- ---- the pair

-- what is read of told files of bytes are bytes
are_bytes : (files : Files) (directory : List ℕ) (inputs : List FileAt) → HoldBytes files
    → input_due files directory ≡ Ok inputs → AllByRecursion (λ (f : FileAt). AreBytes f.bytes) inputs
are_bytes files directory inputs hold due =
    let all : List FileAt = files_in files directory (class_paths files directory) in
    let are : all ≡ inputs =
    input_is all (nat_lt 65536 (length (paths_below directory (keys files))))
    (nat_lt 20000 (length (class_paths files directory))) (nat_lt 67108864 (total all)) inputs due in
    subst (AllByRecursion (λ (f : FileAt). AreBytes f.bytes)) are
    (bytes_of files directory hold (class_paths files directory))

some_judged : (files : Files) (rules : Rules) (texts : Texts) (directories : Directories) → HoldBytes files
    → AreGiven files rules.in_dir rules.out_dir directories → IsSome (IsJudged rules texts directories)
some_judged files rules texts directories hold both =
    then_some (IsSet rules.in_dir directories.input) (FollowsSet rules texts directories.output)
    (some_set files rules.in_dir directories.input hold both.input)
    (λ classes accepted. then_some (IsSystem rules classes) (λ sys. IsPair rules texts directories.output classes)
    (some_value (or_many rules (system_due classes rules)))
    (λ sys told.
    ⊎_elim (λ pair. (Ok ok_plan, belongs pair refl)) (λ why. (Err (no_refused why.0), differs why.0 why.1 refl))
    (some_answer directories.input classes directories.output texts.mapping rules texts.witness accepted
    (are_bytes files rules.out_dir directories.output hold both.output))))

-- ---- the whole

pub some_check : IsSomeCheck
some_check files named hold =
    then_some (IsConfigured files named.config named.witness) (FollowsRules files named.witness)
    (some_configured files named.config named.witness)
    (λ rules has. then_some (IsTexts files rules.mapping named.witness) (FollowsTexts files rules)
    (some_texts files rules.mapping named.witness)
    (λ texts told. then_some (AreDirectories files rules.in_dir rules.out_dir) (IsJudged rules texts)
    (some_directories files rules.in_dir rules.out_dir)
    (λ directories found. some_judged files rules texts directories hold
    (given files rules.in_dir rules.out_dir directories found))))
