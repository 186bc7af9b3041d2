-- What `check CONFIG WITNESS` is to say of told files, or why it is refused (the project's own: what the command
-- promises).
use Rattle.std.specs.Prelude.{◌≡◌, ℕ, List, [], ◌++◌, Result, Ok, Err, codes}
use Rattle.tree_io.specs.Files.{Files}
use Rattle.tree_io.specs.declared.file_at.FileAt.{FileAt}
use Rattle.class_model.specs.declared.class.Class.{Class}
use Rattle.keep_rules.specs.declared.rules.Rules.{Rules}
use Rattle.pair_checker.specs.Clauses.{clause_name}
use Rattle.pair_checker.specs.PairOk.{IsNo, PairOk}
use Rattle.pair_checker.specs.declared.answer.No.{No as Answer}
use Rattle.command_frame.specs.Steps.{IsFile, Then}
use Rattle.command_frame.specs.declared.command.Plan.{Plan}
use Rattle.command_frame.specs.declared.refusal.Quantity.TheVariants as quantity
use Rattle.command_frame.specs.declared.refusal.Reason.TheVariants.{No}
use Rattle.command_frame.specs.declared.refusal.Refusal.{Refusal}
use Rattle.command_steps.specs.Config.{IsConfigured}
use Rattle.command_steps.specs.Refusals.{named_or_dash}
use Rattle.command_steps.specs.Sets.{IsDirectory, IsSet}
use Rattle.command_steps.specs.System.{IsSystem}
use Rattle.command_steps.specs.Texts.{IsMapping, IsWitness}
use Rattle.check_command.specs.declared.command.CheckFiles.{CheckFiles}
use Rattle.check_command.specs.declared.finding.Directories.{Directories}
use Rattle.check_command.specs.declared.finding.Texts.{Texts}

-- ---- what is read

-- both texts
abbrev pub AreTexts : List ℕ → List ℕ → Result Texts Refusal → Type 0
AreTexts map wit = Then (IsMapping map) (λ mapping. Then (IsWitness wit)
    (λ witness due. due ≡ Ok (record { mapping = mapping; witness = witness })))

-- those of told files, of which the mapping is there
abbrev pub FollowsMapping : Files → List ℕ → List ℕ → Result Texts Refusal → Type 0
FollowsMapping files witness map = Then (IsFile files quantity.Witness witness) (AreTexts map)

-- the mapping and the witness of told files, which are looked at before either text is
abbrev pub IsTexts : Files → List ℕ → List ℕ → Result Texts Refusal → Type 0
IsTexts files mapping witness = Then (IsFile files quantity.Mapping mapping) (FollowsMapping files witness)

-- the class files below the output directory, behind those below the input directory
abbrev pub FollowsInput : Files → List ℕ → List FileAt → Result Directories Refusal → Type 0
FollowsInput files to input =
    Then (IsDirectory files to) (λ output due. due ≡ Ok (record { input = input; output = output }))

-- both
abbrev pub AreDirectories : Files → List ℕ → List ℕ → Result Directories Refusal → Type 0
AreDirectories files from to = Then (IsDirectory files from) (FollowsInput files to)

-- the rules of the config, both texts and the class files of both directories are these
pub record IsFound (named : CheckFiles) (files : Files) (rules : Rules) (texts : Texts) (directories : Directories)
    : Type 0 where
  pub configured : IsConfigured files named.config named.witness (Ok rules)
  pub told : IsTexts files rules.mapping named.witness (Ok texts)
  pub given : AreDirectories files rules.in_dir rules.out_dir (Ok directories)

-- ---- what is said of it

-- no file is written, and this is said
abbrev pub ok_plan : Plan
ok_plan = record { files = []; text = codes "ok\n" }

-- a pair that doesn't belong together: the first clause that holds, with its class and its member
abbrev pub no_refused : Answer → Refusal
no_refused answer = record {
  reason = No;
  told = clause_name answer.clause ++ (codes " " ++ (named_or_dash answer.class ++ (codes " "
      ++ named_or_dash answer.member)));
}

-- the output belongs to the input, or the first clause holds that says that it doesn't
pub data IsPair (rules : Rules) (texts : Texts) (output : List FileAt) (classes : List Class)
    (due : Result Plan Refusal) : Type 0 where
  belongs : PairOk classes output texts.mapping rules texts.witness → due ≡ Ok ok_plan
      → IsPair rules texts output classes due
  differs : (answer : Answer) → IsNo classes output texts.mapping rules texts.witness answer
      → due ≡ Err (no_refused answer) → IsPair rules texts output classes due

-- an input that is a set, of which the rules keep something, within the limits of what is counted
abbrev pub FollowsSet : Rules → Texts → List FileAt → List Class → Result Plan Refusal → Type 0
FollowsSet rules texts output classes =
    Then (IsSystem rules classes) (λ sys. IsPair rules texts output classes)

-- what is said of the class files of both directories
abbrev pub IsJudged : Rules → Texts → Directories → Result Plan Refusal → Type 0
IsJudged rules texts directories =
    Then (IsSet rules.in_dir directories.input) (FollowsSet rules texts directories.output)

-- ---- the whole

-- the class files of both directories, behind the mapping and the witness
abbrev pub FollowsTexts : Files → Rules → Texts → Result Plan Refusal → Type 0
FollowsTexts files rules texts =
    Then (AreDirectories files rules.in_dir rules.out_dir) (IsJudged rules texts)

-- the mapping and the witness, behind the config
abbrev pub FollowsRules : Files → List ℕ → Rules → Result Plan Refusal → Type 0
FollowsRules files witness rules = Then (IsTexts files rules.mapping witness) (FollowsTexts files rules)

-- what `check CONFIG WITNESS` is to say: that the pair is one, or the first refusal
abbrev pub IsDue : CheckFiles → Files → Result Plan Refusal → Type 0
IsDue named files = Then (IsConfigured files named.config named.witness) (FollowsRules files named.witness)
