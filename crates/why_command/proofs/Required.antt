-- What has to be kept of a set is the system of its requirements, and has an item for each text.
use Rattle.std.proofs.Common.{◌≡◌, List, length, Ok, sym, ap, ◌∙◌}
use Rattle.mark_core.specs.declared.system.System.{System}
use Rattle.class_model.specs.declared.class.Class.{Class}
use Rattle.keep_rules.specs.declared.rules.Rules.{Rules}
use Rattle.list_texts.specs.ItemTexts.{item_texts}
use Rattle.list_texts.proofs.Listing.{all_counted}
use Rattle.rule_system.specs.Required.{required}
use Rattle.rule_system.proofs.SystemDue.{due_is}
use Rattle.command_steps.specs.System.{IsSystem}
use Rattle.command_steps.proofs.Systems.{system_told}

pub system_is : (rules : Rules) (classes : List Class) (sys : System) → IsSystem rules classes (Ok sys)
    → sys ≡ required classes rules
system_is rules classes sys h = due_is classes rules sys (system_told rules classes sys h).due

-- each item has a text
pub each_text : (rules : Rules) (classes : List Class) (sys : System) → IsSystem rules classes (Ok sys)
    → length (item_texts classes) ≡ sys.n
each_text rules classes sys h =
    all_counted classes ∙ sym (ap (λ (s : System). s.n) (system_is rules classes sys h))
