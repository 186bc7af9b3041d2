-- What is read of a config is what its text stands for, and a text is one config at most (the project's own: laws of
-- the definitions).
use Rattle.std.specs.Prelude.{◌≡◌, ◌↔◌, ℕ, List, Ok}
use Rattle.keep_rules.specs.declared.rules.Rules.{Rules}
use Rattle.command_steps.specs.Config.{IsConfig, config_read}

-- rules are read exactly where the bytes are such a config
abbrev pub ReadsItsConfig : Type 0
ReadsItsConfig = (bytes witness : List ℕ) (rules : Rules)
    → (config_read bytes witness ≡ Ok rules) ↔ IsConfig bytes witness rules

-- two configs that bytes are, are the same
abbrev pub IsOneConfig : Type 0
IsOneConfig = (bytes witness : List ℕ) (rules other : Rules) → IsConfig bytes witness rules
    → IsConfig bytes witness other → rules ≡ other
