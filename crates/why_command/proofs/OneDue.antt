-- One thing at most is due of told files: one text, or one refusal.
use Rattle.std.proofs.Common.{ℕ, List, [], Ok, Err, ap}
use Rattle.std.specs.List.{position}
use Rattle.jv_base.specs.Names.{is_text}
use Rattle.mark_core.specs.declared.system.System.{System}
use Rattle.why_kept.specs.Levels.{level_of}
use Rattle.class_model.specs.declared.class.Class.{Class}
use Rattle.keep_rules.specs.declared.rules.Rules.{Rules}
use Rattle.list_texts.specs.ItemTexts.{item_texts}
use Rattle.rule_system.specs.Required.{system_due}
use Rattle.command_frame.proofs.OneStep.{IsOne, one_value, then_one}
use Rattle.command_steps.proofs.OneStep.{one_configured, one_directory, one_taken}
use Rattle.command_steps.specs.Config.{IsConfigured}
use Rattle.command_steps.specs.Sets.{IsDirectory, IsSet}
use Rattle.command_steps.specs.System.{IsSystem, or_many}
use Rattle.why_command.specs.Due.{FollowsInput, FollowsReasons, FollowsRules, FollowsSet, FollowsSystem, GivesReasons}
use Rattle.why_command.specs.Due.{IsExplained, IsNumbered, or_no_item, says}
use Rattle.why_command.specs.OneDue.{IsOneDue}
use Rattle.why_command.specs.Telling.{IsTold, or_long, why_text}
use Rattle.why_command.proofs.OneReasons.{one_reasons}

one_given : (sys : System) (id : ℕ) → IsOne (GivesReasons sys id)
one_given sys id (Ok one) (Ok other) h k = ap Ok (one_reasons sys id one other h k)
one_given sys id (Ok one) (Err refusal) h k = absurd k
one_given sys id (Err refusal) other h k = absurd h

one_explained : (texts : List (List ℕ)) (sys : System) (id : ℕ) → IsOne (IsExplained texts sys id)
one_explained texts sys id =
    then_one (GivesReasons sys id) (FollowsReasons texts sys id) (one_given sys id)
    (λ reasons. then_one (IsTold texts (level_of sys reasons.levels id) reasons.steps) _
    (one_value (or_long (why_text texts (level_of sys reasons.levels id) reasons.steps)))
    (λ text. one_value (Ok (says text))))

one_answered : (rules : Rules) (item : List ℕ) (classes : List Class) → IsOne (FollowsSet rules item classes)
one_answered rules item classes =
    then_one (IsSystem rules classes) (FollowsSystem (item_texts classes) item)
    (one_value (or_many rules (system_due classes rules)))
    (λ sys. then_one (IsNumbered (item_texts classes) item) (IsExplained (item_texts classes) sys)
    (one_value (or_no_item item (position (λ text. is_text text item) (item_texts classes))))
    (λ id. one_explained (item_texts classes) sys id))

pub one_due : IsOneDue
one_due files named one other h k =
    then_one (IsConfigured files named.config []) (FollowsRules files named.item)
    (one_configured files named.config [])
    (λ rules. then_one (IsDirectory files rules.in_dir) (FollowsInput rules named.item)
    (one_directory files rules.in_dir)
    (λ inputs. then_one (IsSet rules.in_dir inputs) (FollowsSet rules named.item) (one_taken rules.in_dir inputs)
    (λ classes. one_answered rules named.item classes)))
    one other h k
