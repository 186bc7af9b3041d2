-- What is read of a config is what its text stands for, and a text is one config at most.
use Rattle.std.proofs.Common.{◌≡◌, ℕ, Bool, true, false, cond, List, Result, Ok, Err, refl, ap, ◌∙◌}
use Rattle.std.specs.Str.{IsUtf8, is_utf8}
use Rattle.std.specs.Str.Lossy.{utf8_valid_len}
use Rattle.std.proofs.lemmas.Str.{IsUtf8-from_is_utf8, is_utf8-from_IsUtf8}
use Rattle.conf_words.specs.Reading.{words_at, words_of_bytes}
use Rattle.conf_words.specs.declared.splitting.Word.{Word}
use Rattle.conf_words.specs.declared.splitting.WordFault.{WordFault}
use Rattle.conf_words.specs.declared.splitting.WordFault.TheVariants.{NotUtf8}
use Rattle.conf_words.proofs.Parsed.{words_law}
use Rattle.keep_rules.specs.declared.fault.RuleFault.{RuleFault}
use Rattle.keep_rules.specs.declared.rules.Rules.{Rules}
use Rattle.keep_rules.proofs.Gathering.{law}
use Rattle.command_steps.specs.Config.{IsConfig, config_read, rules_of}
use Rattle.command_steps.specs.OneConfig.{IsOneConfig, ReadsItsConfig}

-- ---- what is read is so

found_in : (bytes witness : List ℕ) (rules : Rules) → IsUtf8 bytes → (r : Result (List Word) WordFault)
    → words_at 0 1 bytes ≡ r → rules_of r witness ≡ Ok rules → IsConfig bytes witness rules
found_in bytes witness rules utf8 (Ok words) split read = record {
  words = words;
  encoded = utf8;
  split = (words_law bytes words).0 split;
  stand = (law words witness rules).0 read;
}
found_in bytes witness rules utf8 (Err fault) split read = absurd cc

found_by : (bytes witness : List ℕ) (rules : Rules) → (b : Bool) → is_utf8 bytes ≡ b
    → rules_of (cond b (words_at 0 1 bytes) (Err (NotUtf8 (utf8_valid_len bytes)))) witness ≡ Ok rules
    → IsConfig bytes witness rules
found_by bytes witness rules true utf8 read =
    found_in bytes witness rules (IsUtf8-from_is_utf8 bytes utf8) (words_at 0 1 bytes) refl read
found_by bytes witness rules false utf8 read = absurd cc

pub config_found : (bytes witness : List ℕ) (rules : Rules) → config_read bytes witness ≡ Ok rules
    → IsConfig bytes witness rules
config_found bytes witness rules read = found_by bytes witness rules (is_utf8 bytes) refl read

-- ---- what is so is read

words_read : (bytes : List ℕ) (words : List Word) → IsUtf8 bytes → words_at 0 1 bytes ≡ Ok words
    → words_of_bytes bytes ≡ Ok words
words_read bytes words utf8 split = rw (is_utf8-from_IsUtf8 bytes utf8) split

pub config_only : (bytes witness : List ℕ) (rules : Rules) → IsConfig bytes witness rules
    → config_read bytes witness ≡ Ok rules
config_only bytes witness rules is =
    ap (λ (r : Result (List Word) WordFault). rules_of r witness)
    (words_read bytes is.words is.encoded ((words_law bytes is.words).1 is.split))
    ∙ (law is.words witness rules).1 is.stand

pub reads : ReadsItsConfig
reads bytes witness rules = (config_found bytes witness rules, config_only bytes witness rules)

same_rules : (r : Result Rules RuleFault) (rules other : Rules) → r ≡ Ok rules → r ≡ Ok other → rules ≡ other
same_rules r rules other h k = cc

pub one_config : IsOneConfig
one_config bytes witness rules other h k =
    same_rules (config_read bytes witness) rules other (config_only bytes witness rules h)
    (config_only bytes witness other k)
