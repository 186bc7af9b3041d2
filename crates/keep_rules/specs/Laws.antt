-- What is read of a config is what its words stand for (the project's own: laws of the definitions).
use Rattle.std.specs.Prelude.{◌≡◌, ◌↔◌, ℕ, List, map, Ok}
use Rattle.conf_words.specs.declared.splitting.Word.{Word}
use Rattle.keep_rules.specs.declared.rules.Rules.{Rules}
use Rattle.keep_rules.specs.Grammar.{IsConfig}
use Rattle.keep_rules.specs.Reading.{rules_read}

-- the text of a word
abbrev pub text_of : Word → List ℕ
text_of word = word.text

-- rules are read exactly where the words stand for them, so words are one config at most
abbrev pub ReadsItsRules : Type 0
ReadsItsRules = (words : List Word) (witness : List ℕ) (rules : Rules)
    → (rules_read words witness ≡ Ok rules) ↔ IsConfig (map text_of words) witness rules
