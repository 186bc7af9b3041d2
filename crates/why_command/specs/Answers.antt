-- What a text tells that is due (the project's own: what the command promises).
use Rattle.std.specs.Prelude.{◌≡◌, ◌≤◌, ℕ, List, [], Some, Ok, slice_get, codes}
use Rattle.tree_io.specs.Files.{Files}
use Rattle.tree_io.specs.declared.file_at.FileAt.{FileAt}
use Rattle.class_files.specs.Input.{input_due}
use Rattle.mark_core.specs.declared.system.System.{System}
use Rattle.why_kept.specs.Derivations.{IsDerivation, IsDerivedAt, Tree, depth_of, item_of}
use Rattle.why_kept.specs.Levels.{level_of}
use Rattle.why_kept.specs.declared.reasons.Reasons.{Reasons}
use Rattle.class_model.specs.declared.class.Class.{Class}
use Rattle.keep_rules.specs.declared.rules.Rules.{Rules}
use Rattle.list_texts.specs.ItemTexts.{item_texts}
use Rattle.set_read.specs.Accepted.{IsAccepted}
use Rattle.rule_system.specs.Required.{required}
use Rattle.command_frame.specs.declared.command.Plan.{Plan}
use Rattle.command_steps.specs.Config.{IsConfigured}
use Rattle.why_command.specs.Due.{AreReasons, IsDue}
use Rattle.why_command.specs.Telling.{derivation_text, why_text}
use Rattle.why_command.specs.declared.command.WhyFiles.{WhyFiles}

-- the item has no derivation, and this is said; or the steps are told of one that is as deep as is said, and none is less
-- deep
pub data Tells (texts : List (List ℕ)) (sys : System) (id : ℕ) (reasons : Reasons) (text : List ℕ) : Type 0 where
  not_kept : text ≡ codes "none\n" → ((tree : Tree) → IsDerivation sys tree → item_of tree ≡ id → ⊥)
      → Tells texts sys id reasons text
  kept : (depth : ℕ) → text ≡ derivation_text texts depth reasons.steps → IsDerivedAt sys id depth
      → ((tree : Tree) → IsDerivation sys tree → item_of tree ≡ id → depth ≤ depth_of tree)
      → Tells texts sys id reasons text

-- the config, the class files and the set of classes that they are; the item is spelled so as in a list of seeds; and
-- the text is that of the answer of `why` for what the rules require of the classes
pub record IsAnswer (named : WhyFiles) (files : Files) (plan : Plan) : Type 0 where
  pub rules : Rules
  pub inputs : List FileAt
  pub classes : List Class
  pub configured : IsConfigured files named.config [] (Ok rules)
  pub given : input_due files rules.in_dir ≡ Ok inputs
  pub taken : IsAccepted inputs classes
  pub id : ℕ
  pub spelled : slice_get (item_texts classes) id ≡ Some named.item
  pub reasons : Reasons
  pub are : AreReasons (required classes rules) id reasons
  pub wrote : plan.files ≡ []
  pub text : plan.text ≡ why_text (item_texts classes) (level_of (required classes rules) reasons.levels id) reasons.steps
  pub tells : Tells (item_texts classes) (required classes rules) id reasons plan.text

-- so it is of each plan that is due for told files
abbrev pub AnswersTellWhy : Type 0
AnswersTellWhy = (files : Files) (named : WhyFiles) (plan : Plan) → IsDue named files (Ok plan)
    → IsAnswer named files plan
