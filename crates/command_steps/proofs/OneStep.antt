-- Of what is looked at one thing at most is due.
use Rattle.std.proofs.Common.{◌≡◌, ℕ, List, Result, Ok, Err, refl, sym, ap, ◌∙◌}
use Rattle.std.specs.FinMap.{get}
use Rattle.jv_base.proofs.Results.{same_fault, same_ok}
use Rattle.tree_io.specs.Files.{Files}
use Rattle.tree_io.specs.declared.file_at.FileAt.{FileAt}
use Rattle.class_files.specs.Input.{input_due}
use Rattle.class_files.specs.declared.input.InputFault.{InputFault}
use Rattle.class_model.specs.declared.class.Class.{Class}
use Rattle.set_read.proofs.OneSet.{not_both, one_fault, one_set}
use Rattle.keep_rules.specs.declared.fault.RuleFault.{RuleFault}
use Rattle.keep_rules.specs.declared.rules.Rules.{Rules}
use Rattle.command_frame.proofs.OneStep.{IsOne, no_err, one_value, then_one}
use Rattle.command_frame.specs.Steps.{IsFile, bytes_in}
use Rattle.command_frame.specs.declared.refusal.Quantity.TheVariants as quantity
use Rattle.command_frame.specs.declared.refusal.Refusal.{Refusal}
use Rattle.command_frame.specs.declared.stop.Stop.{Stop}
use Rattle.command_frame.specs.declared.stop.Stop.TheVariants.{Refused}
use Rattle.command_steps.specs.Config.{IsConfigApart, IsConfigured, IsRules, config_read, rules_apart}
use Rattle.command_steps.specs.Refusals.{rules_refused}
use Rattle.command_steps.specs.Sets.{IsDirectory, IsSet, input_stop, set_refused}
use Rattle.command_steps.proofs.OneConfig.{config_only, one_config}

-- ---- the config

one_rules : (bytes witness : List ℕ) → IsOne (IsRules bytes witness)
one_rules bytes witness (Ok rules) (Ok other) h k = ap Ok (one_config bytes witness rules other h k)
one_rules bytes witness (Ok rules) (Err refusal) h k =
    absurd (no_err rules k.0 (sym (config_only bytes witness rules h) ∙ k.1))
one_rules bytes witness (Err refusal) (Ok rules) h k =
    absurd (no_err rules h.0 (sym (config_only bytes witness rules k) ∙ h.1))
one_rules bytes witness (Err refusal) (Err other) h k =
    ap Err (h.2 ∙ (ap rules_refused (same_fault h.0 k.0 (sym h.1 ∙ k.1)) ∙ sym k.2))

pub one_configured : (files : Files) (config witness : List ℕ) → IsOne (IsConfigured files config witness)
one_configured files config witness =
    then_one (IsFile files quantity.Config config) (λ bytes. IsRules bytes witness)
    (one_value (bytes_in quantity.Config config (get files config))) (λ bytes. one_rules bytes witness)

pub one_config_apart : (files : Files) (config witness : List ℕ) → IsOne (IsConfigApart files config witness)
one_config_apart files config witness =
    then_one (IsConfigured files config witness) (λ rules due. due ≡ rules_apart config witness rules)
    (one_configured files config witness) (λ rules. one_value (rules_apart config witness rules))

-- ---- class files

same_refusal : (one other : Refusal) → Refused one ≡ Refused other → one ≡ other
same_refusal one other h = cc

pub one_directory : (files : Files) (directory : List ℕ) → IsOne (IsDirectory files directory)
one_directory files directory (Ok inputs) (Ok other) h k = ap Ok (same_ok inputs other (sym h ∙ k))
one_directory files directory (Ok inputs) (Err refusal) h k = absurd (no_err inputs k.0 (sym h ∙ k.1))
one_directory files directory (Err refusal) (Ok inputs) h k = absurd (no_err inputs h.0 (sym k ∙ h.1))
one_directory files directory (Err refusal) (Err other) h k =
    ap Err (same_refusal refusal other
    (sym h.2 ∙ (ap input_stop (same_fault h.0 k.0 (sym h.1 ∙ k.1)) ∙ k.2)))

pub one_taken : (directory : List ℕ) (inputs : List FileAt) → IsOne (IsSet directory inputs)
one_taken directory inputs (Ok classes) (Ok other) h k = ap Ok (one_set inputs classes other h k)
one_taken directory inputs (Ok classes) (Err refusal) h k = absurd (not_both inputs classes k.0 h k.1)
one_taken directory inputs (Err refusal) (Ok classes) h k = absurd (not_both inputs classes h.0 k h.1)
one_taken directory inputs (Err refusal) (Err other) h k =
    ap Err (h.2 ∙ (ap (set_refused directory) (one_fault inputs h.0 k.0 h.1 k.1) ∙ sym k.2))
