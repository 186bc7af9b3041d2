-- The system of a set of classes that passes no limit is valid.
use Rattle.std.proofs.Common.{◌≡◌, List, Ok, sym, ap, subst}
use Rattle.mark_core.specs.Valid.{Valid}
use Rattle.mark_core.specs.declared.system.System.{System}
use Rattle.class_model.specs.declared.class.Class.{Class}
use Rattle.class_pool.specs.Count.{item_count}
use Rattle.keep_rules.specs.declared.rules.Rules.{Rules}
use Rattle.rule_system.specs.Required.{system_due}
use Rattle.rule_system.proofs.AskedThere.{required_valid}
use Rattle.rule_system.proofs.SystemDue.{due_is}

pub due_valid : (classes : List Class) (rules : Rules) (sys : System) → system_due classes rules ≡ Ok sys → Valid sys
due_valid classes rules sys h = subst Valid (sym (due_is classes rules sys h)) (required_valid classes rules)

-- it has an item for each class and each member
pub due_counted : (classes : List Class) (rules : Rules) (sys : System) → system_due classes rules ≡ Ok sys
    → sys.n ≡ item_count classes
due_counted classes rules sys h = ap (λ (s : System). s.n) (due_is classes rules sys h)
