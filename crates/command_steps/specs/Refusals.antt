-- How what was read is refused (the project's own: what commands say).
use Rattle.std.specs.Prelude.{ℕ, List, ◌++◌, Option, Some, None, codes}
use Rattle.std.specs.Fmt.{decimal}
use Rattle.format_reading.specs.declared.fault.FormatFault.{FormatFault}
use Rattle.report_text.specs.Kinds.{format_name}
use Rattle.keep_rules.specs.KindNames.{rule_name, rule_option}
use Rattle.keep_rules.specs.declared.fault.RuleFault.{RuleFault}
use Rattle.set_read.specs.Accepted as set
use Rattle.set_read.specs.declared.fault.RuleFault.{RuleFault as SetRuleFault}
use Rattle.command_frame.specs.declared.refusal.Reason.TheVariants.{Format, Profile, Rules}
use Rattle.command_frame.specs.declared.refusal.Refusal.{Refusal}

-- a kind, with its option behind it
abbrev pub with_option : List ℕ → Option (List ℕ) → List ℕ
with_option name None = name
with_option name (Some option) = name ++ (codes " " ++ option)

-- a config is at fault: its line, and the kind with its option
abbrev pub rules_refused : RuleFault → Refusal
rules_refused fault = record {
  reason = Rules;
  told = decimal fault.line ++ (codes " " ++ with_option (rule_name fault.kind) (rule_option fault.kind));
}

-- a file that is no class file
abbrev pub format_refused : List ℕ → FormatFault → Refusal
format_refused path fault = record {
  reason = Format;
  told = path ++ (codes " " ++ (decimal fault.offset ++ (codes " " ++ format_name fault.kind)));
}

-- the text of a class or a member, `-` where there is none
abbrev pub named_or_dash : Option (List ℕ) → List ℕ
named_or_dash None = codes "-"
named_or_dash (Some name) = name

-- a class that breaks a rule
abbrev pub profile_refused : SetRuleFault → Refusal
profile_refused fault = record {
  reason = Profile;
  told = fault.class ++ (codes " " ++ (named_or_dash fault.member ++ (codes " " ++ set.rule_name fault.kind)));
}
