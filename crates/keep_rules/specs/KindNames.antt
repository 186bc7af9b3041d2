-- The names of what is wrong with a config, and the options that they tell (the project's own: what the commands say).
use Rattle.std.specs.Prelude.{ℕ, List, Option, Some, None, codes}
use Rattle.keep_rules.specs.declared.fault.RuleKind.{RuleKind}
use Rattle.keep_rules.specs.declared.fault.RuleKind.TheVariants as kind

-- the name of a kind
abbrev pub rule_name : RuleKind → List ℕ
rule_name kind.UnknownOption = codes "UnknownOption"
rule_name kind.BadClassSpec = codes "BadClassSpec"
rule_name kind.BadMemberSpec = codes "BadMemberSpec"
rule_name (kind.BadValue option) = codes "BadValue"
rule_name kind.MissingName = codes "MissingName"
rule_name (kind.MissingOption option) = codes "MissingOption"
rule_name (kind.Repeated option) = codes "Repeated"
rule_name kind.SamePath = codes "SamePath"
rule_name (kind.LeftOut option) = codes "LeftOut"
rule_name kind.NothingKept = codes "NothingKept"
rule_name kind.NotUtf8 = codes "NotUtf8"
rule_name kind.QuoteOpen = codes "QuoteOpen"

-- the option that a kind has
abbrev pub rule_option : RuleKind → Option (List ℕ)
rule_option (kind.BadValue option) = Some option
rule_option (kind.MissingOption option) = Some option
rule_option (kind.Repeated option) = Some option
rule_option (kind.LeftOut option) = Some option
rule_option _ = None
