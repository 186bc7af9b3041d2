-- What has to be kept of a set by the rules of a config, within the limits of the numbers that are counted.
use Rattle.std.specs.Prelude.{List, Result, codes}
use Rattle.mark_core.specs.declared.system.System.{System}
use Rattle.class_model.specs.declared.class.Class.{Class}
use Rattle.attribute_filter.specs.KeptAttributes.{is_kept}
use Rattle.keep_rules.specs.declared.rules.Rules.{Rules}
use Rattle.keep_match.specs.Asked.{members_asked}
use Rattle.keep_match.specs.Seeds.{seeds_of}
use Rattle.require_sys.specs.Limits.{limited}
use Rattle.require_sys.specs.Requires.{requires}
use Rattle.require_sys.specs.declared.kept.KeptByRules.{KeptByRules}
use Rattle.require_sys.specs.declared.limits.TooMany.{TooMany}

-- what rules ask of a set (ProGuard manual, "Keep Options", "-dontshrink", "-keepattributes")
abbrev pub kept_by_rules : List Class → Rules → KeptByRules
kept_by_rules classes rules = record {
  shrink = rules.shrink;
  seeds = seeds_of rules classes;
  members = members_asked rules classes;
  exceptions = is_kept rules (codes "Exceptions");
}

-- what has to be kept of a set by rules (the project's own)
abbrev pub required : List Class → Rules → System
required classes rules = requires classes (kept_by_rules classes rules)

-- the system of a set and of rules within the limits (the project's own)
unfoldable pub system_due : List Class → Rules → Result System TooMany
system_due classes rules = limited (required classes rules)
