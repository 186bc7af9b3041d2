-- What has to be kept of a set.
use Rattle.std.proofs.Common.{◌≡◌, Bool, true, false, List, Result, Ok, Err, refl, sym, ap, subst, ◌∙◌}
use Rattle.jv_base.proofs.Results.{same_ok}
use Rattle.class_model.specs.declared.class.Class.{Class}
use Rattle.keep_rules.specs.declared.rules.Rules.{Rules}
use Rattle.mark_core.specs.declared.system.System.{System}
use Rattle.require_sys.specs.Limits.{counted_limit, counted_name}
use Rattle.rule_system.specs.Required.{system_due}
use Rattle.require_sys.specs.declared.limits.TooMany.{TooMany}
use Rattle.command_frame.proofs.OneStep.{no_err}
use Rattle.command_frame.specs.Refusal.{limit_refused}
use Rattle.command_frame.specs.declared.refusal.Refusal.{Refusal}
use Rattle.command_steps.specs.Refusals.{rules_refused}
use Rattle.command_steps.specs.System.{IsSystem, keeps_nothing, nothing_kept, or_many, or_nothing}

module _ (rules : Rules) (classes : List Class) where
  -- a system that is due is told, where it keeps something or nothing
  pub told : (sys : System) (nothing : Bool) → system_due classes rules ≡ Ok sys → keeps_nothing rules sys ≡ nothing
      → IsSystem rules classes (or_nothing nothing sys)
  told sys nothing due is = ap (λ (b : Bool). or_nothing b sys) (sym is) ∙ ap (or_many rules) (sym due)

  pub many_told : (many : TooMany) → system_due classes rules ≡ Err many
      → IsSystem rules classes (Err (limit_refused (counted_name many.what) (counted_limit many.what)))
  many_told many due = ap (or_many rules) (sym due)

-- what is known of a system that is told
pub record IsTold (rules : Rules) (r : Result System TooMany) (sys : System) : Type 0 where
  pub due : r ≡ Ok sys
  pub some : keeps_nothing rules sys ≡ false

told_some : (rules : Rules) (s sys : System) (nothing : Bool) → keeps_nothing rules s ≡ nothing
    → (let R : Result System Refusal = Ok sys in R) ≡ or_nothing nothing s → IsTold rules (Ok s) sys
told_some rules s sys true is h = absurd (no_err sys (rules_refused nothing_kept) h)
told_some rules s sys false is h =
    let same : sys ≡ s = same_ok sys s h in
    subst (IsTold rules (Ok s)) (sym same) (record { due = refl; some = is })

told_by : (rules : Rules) (r : Result System TooMany) (sys : System)
    → (let R : Result System Refusal = Ok sys in R) ≡ or_many rules r → IsTold rules r sys
told_by rules (Ok s) sys h = told_some rules s sys (keeps_nothing rules s) refl h
told_by rules (Err many) sys h = absurd (no_err sys (limit_refused (counted_name many.what) (counted_limit many.what)) h)

pub system_told : (rules : Rules) (classes : List Class) (sys : System) → IsSystem rules classes (Ok sys)
    → IsTold rules (system_due classes rules) sys
system_told rules classes sys h = told_by rules (system_due classes rules) sys h
