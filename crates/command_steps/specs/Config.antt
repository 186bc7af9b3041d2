-- The rules that the bytes of a config give, or the first fault (ProGuard manual, "Usage").
use Rattle.std.specs.Prelude.{◌≡◌, ℕ, List, map, Result, Ok, Err, if◌then◌else◌}
use Rattle.std.specs.Str.{IsUtf8}
use Rattle.tree_io.specs.Files.{Files}
use Rattle.conf_words.specs.Pieces.{HasWords}
use Rattle.conf_words.specs.Reading.{words_of_bytes}
use Rattle.conf_words.specs.declared.splitting.Word.{Word}
use Rattle.conf_words.specs.declared.splitting.WordFault.{WordFault}
use Rattle.conf_words.specs.declared.splitting.WordFault.TheVariants as word
use Rattle.keep_rules.specs.Grammar as grammar
use Rattle.keep_rules.specs.Laws.{text_of}
use Rattle.keep_rules.specs.Paths.{meets_config}
use Rattle.keep_rules.specs.Reading.{rules_read}
use Rattle.keep_rules.specs.declared.fault.RuleFault.{RuleFault}
use Rattle.keep_rules.specs.declared.fault.RuleKind.TheVariants.{NotUtf8, QuoteOpen, SamePath}
use Rattle.keep_rules.specs.declared.rules.Rules.{Rules}
use Rattle.command_frame.specs.Steps.{IsFile, Then}
use Rattle.command_frame.specs.declared.refusal.Quantity.TheVariants as quantity
use Rattle.command_frame.specs.declared.refusal.Refusal.{Refusal}
use Rattle.command_steps.specs.Refusals.{rules_refused}

-- ---- what a config is

-- the bytes, in UTF-8, have words that stand for the rules, where the witness goes to this file (ProGuard manual,
-- "Usage")
pub record IsConfig (bytes witness : List ℕ) (rules : Rules) : Type 0 where
  pub words : List Word
  pub encoded : IsUtf8 bytes
  pub split : HasWords bytes words
  pub stand : grammar.IsConfig (map text_of words) witness rules

-- ---- how it is read (the project's own: which fault is told)

-- the fault of bytes that have no words: where they aren't UTF-8 no line is told
abbrev pub of_words : WordFault → RuleFault
of_words (word.NotUtf8 offset) = record { line = 0; kind = NotUtf8 }
of_words (word.QuoteOpen line) = record { line = line; kind = QuoteOpen }

-- what words stand for, if there are words
abbrev pub rules_of : Result (List Word) WordFault → List ℕ → Result Rules RuleFault
rules_of (Ok words) witness = rules_read words witness
rules_of (Err fault) witness = Err (of_words fault)

-- the rules that bytes give, where the witness goes to this file, or the first fault
abbrev pub config_read : List ℕ → List ℕ → Result Rules RuleFault
config_read bytes witness = rules_of (words_of_bytes bytes) witness

-- ---- the step of a command

-- the bytes are one of these rules, or have a first fault
abbrev pub IsRules : List ℕ → List ℕ → Result Rules Refusal → Type 0
IsRules bytes witness (Ok rules) = IsConfig bytes witness rules
IsRules bytes witness (Err refusal) =
    (fault : RuleFault) × (config_read bytes witness ≡ Err fault) × (refusal ≡ rules_refused fault)

-- so it is of the told file at a path
abbrev pub IsConfigured : Files → List ℕ → List ℕ → Result Rules Refusal → Type 0
IsConfigured files config witness =
    Then (IsFile files quantity.Config config) (λ bytes. IsRules bytes witness)

-- ---- a config that stands apart from what is written

-- a run would write over its config, or below it
abbrev pub same_path : RuleFault
same_path = record { line = 0; kind = SamePath }

-- rules whose files and output directory don't meet their config
abbrev pub rules_apart : List ℕ → List ℕ → Rules → Result Rules Refusal
rules_apart config witness rules =
    if meets_config config rules witness then Err (rules_refused same_path) else Ok rules

-- the rules of the told config at a path, which nothing that is written meets
abbrev pub IsConfigApart : Files → List ℕ → List ℕ → Result Rules Refusal → Type 0
IsConfigApart files config witness =
    Then (IsConfigured files config witness) (λ rules due. due ≡ rules_apart config witness rules)
