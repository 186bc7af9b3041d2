-- What stands in told files of which it is due to say `ok`.
use Rattle.std.proofs.Common.{◌≡◌, ℕ, List, Ok, sym, subst}
use Rattle.jv_base.proofs.Results.{same_ok}
use Rattle.tree_io.specs.Files.{Files}
use Rattle.tree_io.specs.declared.file_at.FileAt.{FileAt}
use Rattle.class_files.specs.Input.{input_due}
use Rattle.class_model.specs.declared.class.Class.{Class}
use Rattle.keep_rules.specs.declared.rules.Rules.{Rules}
use Rattle.set_read.specs.Accepted.{IsAccepted}
use Rattle.pair_checker.specs.PairOk.{PairOk}
use Rattle.command_frame.proofs.OneStep.{both_gave, no_err}
use Rattle.command_frame.specs.declared.command.Plan.{Plan}
use Rattle.command_steps.specs.Config.{IsConfigured}
use Rattle.command_steps.specs.Sets.{IsDirectory, IsSet}
use Rattle.command_steps.specs.System.{IsSystem}
use Rattle.check_command.specs.Due.{AreDirectories, FollowsInput, FollowsRules, FollowsSet, FollowsTexts, IsDue, IsFound}
use Rattle.check_command.specs.Due.{IsJudged, IsPair, IsTexts, belongs, differs, no_refused}
use Rattle.check_command.specs.declared.command.CheckFiles.{CheckFiles}
use Rattle.check_command.specs.declared.finding.Directories.{Directories}
use Rattle.check_command.specs.declared.finding.Texts.{Texts}

-- what was found, and that it is a pair
pub record IsOkPair (named : CheckFiles) (files : Files) : Type 0 where
  pub rules : Rules
  pub texts : Texts
  pub directories : Directories
  pub found : IsFound named files rules texts directories
  pub input : input_due files rules.in_dir ≡ Ok directories.input
  pub output : input_due files rules.out_dir ≡ Ok directories.output
  pub classes : List Class
  pub accepted : IsAccepted directories.input classes
  pub pair : PairOk classes directories.output texts.mapping rules texts.witness

pair_of : (rules : Rules) (texts : Texts) (output : List FileAt) (classes : List Class) (plan : Plan)
    → IsPair rules texts output classes (Ok plan) → PairOk classes output texts.mapping rules texts.witness
pair_of rules texts output classes plan (belongs pair is) = pair
pair_of rules texts output classes plan (differs answer is_no is) = absurd (no_err plan (no_refused answer) is)

-- both directories
pub record AreGiven (files : Files) (from to : List ℕ) (directories : Directories) : Type 0 where
  pub input : input_due files from ≡ Ok directories.input
  pub output : input_due files to ≡ Ok directories.output

pub given : (files : Files) (from to : List ℕ) (directories : Directories)
    → AreDirectories files from to (Ok directories) → AreGiven files from to directories
given files from to directories due =
    let i = both_gave (IsDirectory files from) (FollowsInput files to) directories due in
    let o = both_gave (IsDirectory files to)
    (λ output due. due ≡ Ok (record { input = i.0; output = output })) directories i.2 in
    subst (AreGiven files from to) (sym (same_ok directories (record { input = i.0; output = o.0 }) o.2))
    (record { input = i.1; output = o.1 })

pub ok_found : (named : CheckFiles) (files : Files) (plan : Plan) → IsDue named files (Ok plan)
    → IsOkPair named files
ok_found named files plan due =
    let a = both_gave (IsConfigured files named.config named.witness) (FollowsRules files named.witness) plan due in
    let rules = a.0 in
    let b = both_gave (IsTexts files rules.mapping named.witness) (FollowsTexts files rules) plan a.2 in
    let texts = b.0 in
    let d = both_gave (AreDirectories files rules.in_dir rules.out_dir) (IsJudged rules texts) plan b.2 in
    let directories = d.0 in
    let e = both_gave (IsSet rules.in_dir directories.input) (FollowsSet rules texts directories.output) plan d.2 in
    let f = both_gave (IsSystem rules e.0) (λ sys. IsPair rules texts directories.output e.0) plan e.2 in
    let both = given files rules.in_dir rules.out_dir directories d.1 in
    record {
      rules = rules;
      texts = texts;
      directories = directories;
      found = record { configured = a.1; told = b.1; given = d.1 };
      input = both.input;
      output = both.output;
      classes = e.0;
      accepted = e.1;
      pair = pair_of rules texts directories.output e.0 plan f.2;
    }
