-- Something is always due of told files: a plan, or a refusal.
use Rattle.std.proofs.Common.{◌≡◌, ◌⊎◌, inl, inr, ℕ, Bool, true, false, cond, nat_lt, List, [], ◌∷◌, length}
use Rattle.std.proofs.Common.{Option, Some, None, Result, Ok, Err, refl, sym, subst, ◌∙◌, arith}
use Rattle.std.specs.FinMap.{get, keys}
use Rattle.std.specs.List.{AllByRecursion}
use Rattle.std.specs.Option.{option_map_or}
use Rattle.jv_base.proofs.Results.{same_ok}
use Rattle.tree_io.specs.Below.{paths_below}
use Rattle.tree_io.specs.Files.{Files}
use Rattle.tree_io.specs.declared.file_at.FileAt.{FileAt}
use Rattle.class_files.specs.Input.{class_paths, files_in, input_due, path_in, total}
use Rattle.class_files.specs.declared.input.InputFault.{InputFault}
use Rattle.class_files.specs.declared.input.InputFault.TheVariants.{TooLong, TooManyClasses, TooManyFiles}
use Rattle.class_model.specs.declared.class.Class.{Class}
use Rattle.class_laws.specs.ReadingLaws.{AreBytes}
use Rattle.set_read.specs.Accepted.{IsAccepted, IsFault}
use Rattle.set_read.specs.declared.fault.SetFault.{SetFault}
use Rattle.keep_rules.specs.declared.fault.RuleFault.{RuleFault}
use Rattle.keep_rules.specs.declared.rules.Rules.{Rules}
use Rattle.command_frame.proofs.OneStep.{IsSome, no_err, some_value, then_some}
use Rattle.command_frame.specs.Refusal.{passed}
use Rattle.command_frame.specs.Steps.{IsFile, bytes_in}
use Rattle.command_frame.specs.declared.refusal.Quantity.TheVariants as quantity
use Rattle.command_frame.specs.declared.refusal.Refusal.{Refusal}
use Rattle.command_steps.proofs.OneConfig.{config_found}
use Rattle.command_steps.specs.Config.{IsConfigApart, IsConfigured, IsRules, config_read, rules_apart}
use Rattle.command_steps.specs.Refusals.{rules_refused}
use Rattle.command_steps.specs.Sets.{IsDirectory, IsSet, set_refused}
use Rattle.command_steps.specs.Texts.{AreEarlier, IsEarlier, IsMapping, or_bad_mapping}
use Rattle.mapping_file.specs.MapReading.{read_mapping}
use Rattle.shrink_command.specs.Due.{FollowsEarlier, FollowsInput, FollowsOutput, FollowsRules, IsEmptied, IsEmpty, IsPlanned, not_empty}
use Rattle.shrink_command.specs.SomeDue.{HoldBytes, IsSomeDue}
use Rattle.removal_laws.proofs.AcceptedSets.Taken.{are_taken}
use Rattle.shrink_command.proofs.Planned.{found_readable}
use Rattle.shrink_command.proofs.SomePlan.{some_planned}
use Rattle.shrink_command.proofs.SomeSet.{set_or}

-- ---- the config

rules_by : (bytes witness : List ℕ) (read : Result Rules RuleFault) → config_read bytes witness ≡ read
    → IsSome (IsRules bytes witness)
rules_by bytes witness (Ok rules) read = (Ok rules, config_found bytes witness rules read)
rules_by bytes witness (Err fault) read = (Err (rules_refused fault), (fault, read, refl))

pub some_configured : (files : Files) (config witness : List ℕ) → IsSome (IsConfigured files config witness)
some_configured files config witness =
    then_some (IsFile files quantity.Config config) (λ bytes. IsRules bytes witness)
    (some_value (bytes_in quantity.Config config (get files config)))
    (λ bytes told. rules_by bytes witness (config_read bytes witness) refl)

some_config_apart : (files : Files) (config witness : List ℕ) → IsSome (IsConfigApart files config witness)
some_config_apart files config witness =
    then_some (IsConfigured files config witness) (λ rules due. due ≡ rules_apart config witness rules)
    (some_configured files config witness) (λ rules told. some_value (rules_apart config witness rules))

-- ---- the earlier mapping

some_earlier : (files : Files) (path : Option (List ℕ)) → IsSome (IsEarlier files path)
some_earlier files None = some_value (Ok None)
some_earlier files (Some path) =
    then_some (IsFile files quantity.Mapping path) AreEarlier
    (some_value (bytes_in quantity.Mapping path (get files path)))
    (λ bytes told. then_some (IsMapping bytes) (λ mapping due. due ≡ Ok (Some mapping))
    (some_value (or_bad_mapping (read_mapping bytes))) (λ mapping is. some_value (Ok (Some mapping))))

-- ---- the output directory

emptied_by : (files : Files) (directory : List ℕ) (paths : List (List ℕ)) → paths_below directory (keys files) ≡ paths
    → IsSome (IsEmptied files directory)
emptied_by files directory [] e = (Ok tt, e)
emptied_by files directory (p ∷ paths) e =
    (Err (not_empty directory), (refl, λ empty. (let f : p ∷ paths ≡ [] = sym e ∙ empty in absurd cc)))

-- ---- the input directory

limit_by : (files : Files) (directory : List ℕ) (many more long : Bool) (inputs : List FileAt)
    → input_due files directory
    ≡ cond many (Err TooManyFiles) (cond more (Err TooManyClasses) (cond long (Err TooLong) (Ok inputs)))
    → IsSome (IsDirectory files directory)
limit_by files directory true more long inputs e = (Err (passed quantity.Files), (TooManyFiles, e, refl))
limit_by files directory false true long inputs e = (Err (passed quantity.Classes), (TooManyClasses, e, refl))
limit_by files directory false false true inputs e = (Err (passed quantity.Input), (TooLong, e, refl))
limit_by files directory false false false inputs e = (Ok inputs, e)

pub some_directory : (files : Files) (directory : List ℕ) → IsSome (IsDirectory files directory)
some_directory files directory =
    limit_by files directory (nat_lt 65536 (length (paths_below directory (keys files))))
    (nat_lt 20000 (length (class_paths files directory)))
    (nat_lt 67108864 (total (files_in files directory (class_paths files directory))))
    (files_in files directory (class_paths files directory)) refl

-- ---- the set

bytes_told : (files : Files) (path : List ℕ) → HoldBytes files → (o : Option (List ℕ)) → get files path ≡ o
    → AreBytes (option_map_or (λ bytes. bytes) o [])
bytes_told files path hold (Some bytes) there = hold path bytes there
bytes_told files path hold None absent = λ i. omega arith

pub bytes_of : (files : Files) (directory : List ℕ) → HoldBytes files → (paths : List (List ℕ))
    → AllByRecursion (λ (f : FileAt). AreBytes f.bytes) (files_in files directory paths)
bytes_of files directory hold [] = tt
bytes_of files directory hold (p ∷ paths) = (
  bytes_told files (path_in directory p) hold
      (get files (path_in directory p)) refl,
  bytes_of files directory hold paths,
)

-- what files are read below a directory are its class files
pub input_is : (all : List FileAt) (many more long : Bool) (inputs : List FileAt)
    → (let R : Result (List FileAt) InputFault =
    cond many (Err TooManyFiles) (cond more (Err TooManyClasses) (cond long (Err TooLong) (Ok all))) in R) ≡ Ok inputs
    → all ≡ inputs
input_is all true more long inputs h = absurd cc
input_is all false true long inputs h = absurd cc
input_is all false false true inputs h = absurd cc
input_is all false false false inputs h = same_ok all inputs h

set_by : (directory : List ℕ) (inputs : List FileAt)
    → ((classes : List Class) × IsAccepted inputs classes) ⊎ ((fault : SetFault) × IsFault inputs fault)
    → IsSome (IsSet directory inputs)
set_by directory inputs (inl (classes, accepted)) = (Ok classes, accepted)
set_by directory inputs (inr (fault, is)) = (Err (set_refused directory fault), (fault, is, refl))

pub some_set : (files : Files) (directory : List ℕ) (inputs : List FileAt) → HoldBytes files
    → IsDirectory files directory (Ok inputs) → IsSome (IsSet directory inputs)
some_set files directory inputs hold due =
    let all : List FileAt = files_in files directory (class_paths files directory) in
    let are : all ≡ inputs =
    input_is all (nat_lt 65536 (length (paths_below directory (keys files))))
    (nat_lt 20000 (length (class_paths files directory))) (nat_lt 67108864 (total all)) inputs due in
    set_by directory inputs
    (set_or inputs (subst (AllByRecursion (λ (f : FileAt). AreBytes f.bytes)) are
    (bytes_of files directory hold (class_paths files directory))))

-- ---- the whole

pub some_due : IsSomeDue
some_due files named hold =
    then_some (IsConfigApart files named.config named.witness) (FollowsRules files named.witness)
    (some_config_apart files named.config named.witness)
    (λ rules has. then_some (IsEarlier files rules.apply) (FollowsEarlier files named.witness rules)
    (some_earlier files rules.apply)
    (λ old read. then_some (IsEmptied files rules.out_dir) (λ done. FollowsOutput files named.witness rules old)
    (emptied_by files rules.out_dir (paths_below rules.out_dir (keys files)) refl)
    (λ done empty. then_some (IsDirectory files rules.in_dir) (FollowsInput rules old named.witness)
    (some_directory files rules.in_dir)
    (λ inputs given. then_some (IsSet rules.in_dir inputs) (IsPlanned rules old named.witness)
    (some_set files rules.in_dir inputs hold given)
    (λ classes accepted. some_planned rules old classes named.witness
    (are_taken inputs classes (found_readable files rules.in_dir inputs given) accepted) accepted.typed)))))
