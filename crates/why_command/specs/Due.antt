-- What `why CONFIG ITEM` is to say of told files, or why it is refused (the project's own: what the command promises).
use Rattle.std.specs.Prelude.{◌≡◌, ℕ, List, [], Option, Some, None, Result, Ok, Err}
use Rattle.std.specs.List.{position}
use Rattle.jv_base.specs.Names.{is_text}
use Rattle.tree_io.specs.Files.{Files}
use Rattle.tree_io.specs.declared.file_at.FileAt.{FileAt}
use Rattle.mark_core.specs.declared.system.System.{System}
use Rattle.why_kept.specs.Levels.{AreLeast, IsCertified, level_of}
use Rattle.why_kept.specs.Steps.{AreSteps}
use Rattle.why_kept.specs.declared.reasons.Reasons.{Reasons}
use Rattle.class_model.specs.declared.class.Class.{Class}
use Rattle.keep_rules.specs.declared.rules.Rules.{Rules}
use Rattle.list_texts.specs.ItemTexts.{item_texts}
use Rattle.command_frame.specs.Steps.{Then}
use Rattle.command_frame.specs.declared.command.Plan.{Plan}
use Rattle.command_frame.specs.declared.refusal.Reason.TheVariants as reason
use Rattle.command_frame.specs.declared.refusal.Refusal.{Refusal}
use Rattle.command_steps.specs.Config.{IsConfigured}
use Rattle.command_steps.specs.Sets.{IsDirectory, IsSet}
use Rattle.command_steps.specs.System.{IsSystem}
use Rattle.why_command.specs.Telling.{IsTold}
use Rattle.why_command.specs.declared.command.WhyFiles.{WhyFiles}

-- ---- the item

-- no item is spelled so
abbrev pub no_item : List ℕ → Refusal
no_item item = record { reason = reason.Item; told = item }

abbrev pub or_no_item : List ℕ → Option ℕ → Result ℕ Refusal
or_no_item item (Some number) = Ok number
or_no_item item None = Err (no_item item)

-- the number of the item that is spelled so, of the texts of all items
abbrev pub IsNumbered : List (List ℕ) → List ℕ → Result ℕ Refusal → Type 0
IsNumbered texts item due = due ≡ or_no_item item (position (λ text. is_text text item) texts)

-- ---- why it is kept

-- the least depths of derivations, and the steps of one that derives the item, which `why` of why_kept answers
pub record AreReasons (sys : System) (id : ℕ) (reasons : Reasons) : Type 0 where
  pub certified : IsCertified sys reasons.levels
  pub least : AreLeast sys reasons.levels
  pub steps : AreSteps sys reasons.levels id reasons.steps

-- there always are such
abbrev pub GivesReasons : System → ℕ → Result Reasons Refusal → Type 0
GivesReasons sys id (Ok reasons) = AreReasons sys id reasons
GivesReasons sys id (Err refusal) = ⊥

-- ---- what is said of it

-- no file is written, and this is said
abbrev pub says : List ℕ → Plan
says text = record { files = []; text = text }

-- the text of reasons
abbrev pub FollowsReasons : List (List ℕ) → System → ℕ → Reasons → Result Plan Refusal → Type 0
FollowsReasons texts sys id reasons =
    Then (IsTold texts (level_of sys reasons.levels id) reasons.steps) (λ text due. due ≡ Ok (says text))

-- why the item with a number is kept
abbrev pub IsExplained : List (List ℕ) → System → ℕ → Result Plan Refusal → Type 0
IsExplained texts sys id = Then (GivesReasons sys id) (FollowsReasons texts sys id)

-- why the item is kept that is spelled so
abbrev pub FollowsSystem : List (List ℕ) → List ℕ → System → Result Plan Refusal → Type 0
FollowsSystem texts item sys = Then (IsNumbered texts item) (IsExplained texts sys)

-- ---- the whole

-- an input that is a set, of which the rules keep something, within the limits of what is counted; items are spelled as
-- in a list of seeds (ProGuard manual, "-printseeds")
abbrev pub FollowsSet : Rules → List ℕ → List Class → Result Plan Refusal → Type 0
FollowsSet rules item classes = Then (IsSystem rules classes) (FollowsSystem (item_texts classes) item)

-- the class files below the input directory, as a set
abbrev pub FollowsInput : Rules → List ℕ → List FileAt → Result Plan Refusal → Type 0
FollowsInput rules item inputs = Then (IsSet rules.in_dir inputs) (FollowsSet rules item)

-- the input directory, behind the config
abbrev pub FollowsRules : Files → List ℕ → Rules → Result Plan Refusal → Type 0
FollowsRules files item rules = Then (IsDirectory files rules.in_dir) (FollowsInput rules item)

-- what `why CONFIG ITEM` is to say, or the first refusal; no file is a witness
abbrev pub IsDue : WhyFiles → Files → Result Plan Refusal → Type 0
IsDue named files = Then (IsConfigured files named.config []) (FollowsRules files named.item)
