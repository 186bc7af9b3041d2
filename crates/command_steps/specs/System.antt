-- What has to be kept of a set, where the rules keep something (the project's own: what commands look at).
use Rattle.std.specs.Prelude.{◌≡◌, ℕ, Bool, true, false, ◌&&◌, ◌==◌, List, length, Result, Ok, Err}
use Rattle.class_model.specs.declared.class.Class.{Class}
use Rattle.keep_rules.specs.declared.fault.RuleFault.{RuleFault}
use Rattle.keep_rules.specs.declared.fault.RuleKind.TheVariants as kind
use Rattle.keep_rules.specs.declared.rules.Rules.{Rules}
use Rattle.mark_core.specs.declared.system.System.{System}
use Rattle.require_sys.specs.Limits.{counted_limit, counted_name}
use Rattle.rule_system.specs.Required.{system_due}
use Rattle.require_sys.specs.declared.limits.TooMany.{TooMany}
use Rattle.command_frame.specs.Refusal.{limit_refused}
use Rattle.command_frame.specs.declared.refusal.Refusal.{Refusal}
use Rattle.command_steps.specs.Refusals.{rules_refused}

-- what isn't kept goes, and no rule keeps anything
abbrev pub keeps_nothing : Rules → System → Bool
keeps_nothing rules sys = rules.shrink && (length sys.seeds == 0)

-- nothing is kept, which is a fault of the config as a whole
abbrev pub nothing_kept : RuleFault
nothing_kept = record { line = 0; kind = kind.NothingKept }

-- a system that keeps nothing is refused
abbrev pub or_nothing : Bool → System → Result System Refusal
or_nothing true sys = Err (rules_refused nothing_kept)
or_nothing false sys = Ok sys

-- a system that passes a limit is refused
abbrev pub or_many : Rules → Result System TooMany → Result System Refusal
or_many rules (Ok sys) = or_nothing (keeps_nothing rules sys) sys
or_many rules (Err many) = Err (limit_refused (counted_name many.what) (counted_limit many.what))

-- the system of requirements of classes by rules, which keep something
abbrev pub IsSystem : Rules → List Class → Result System Refusal → Type 0
IsSystem rules classes due = due ≡ or_many rules (system_due classes rules)
