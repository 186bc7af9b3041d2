-- Reading a config, with the first fault (ProGuard manual, "Usage"; the order of faults is the project's own).
use Rattle.std.specs.Prelude.{◌≡◌, ℕ, Bool, true, false, if◌then◌else◌, List, [], ◌∷◌, ◌++◌, codes}
use Rattle.std.specs.Prelude.{Option, Some, None, is_some, Result, Ok, Err}
use Rattle.jv_base.specs.Outcome.{◌>>=◌}
use Rattle.path_text.specs.Path.{directory_in, file_in}
use Rattle.conf_words.specs.declared.splitting.Word.{Word}
use Rattle.keep_rules.specs.declared.fault.RuleFault.{RuleFault}
use Rattle.keep_rules.specs.declared.fault.RuleKind.{RuleKind}
use Rattle.keep_rules.specs.declared.fault.RuleKind.TheVariants.{BadValue, MissingName, Repeated, UnknownOption}
use Rattle.keep_rules.specs.declared.fault.RuleKind.TheVariants.{LeftOut}
use Rattle.keep_rules.specs.declared.fault.RuleKind.TheVariants.{MissingOption, SamePath}
use Rattle.keep_rules.specs.declared.rules.Filter.{Filter}
use Rattle.keep_rules.specs.declared.rules.KeepKind.{KeepKind}
use Rattle.keep_rules.specs.declared.rules.Rules.{Rules}
use Rattle.jv_base.specs.declared.outcome.Or.{Or}
use Rattle.jv_base.specs.declared.outcome.Or.TheVariants.{Fault, OutOfMemory}
use Rattle.keep_rules.specs.declared.options.Step.{Step}
use Rattle.keep_rules.specs.declared.options.Step.TheVariants.{Shrink, Optimise, Obfuscate}
use Rattle.keep_rules.specs.declared.options.Setting.{Setting}
use Rattle.keep_rules.specs.declared.options.Setting.TheVariants as setting
use Rattle.keep_rules.specs.declared.draft.Draft.{Draft}
use Rattle.keep_rules.specs.declared.values.Value.{Value}
use Rattle.keep_rules.specs.declared.values.Value.TheVariants.{Directory, File, AnyWord}
use Rattle.keep_rules.specs.Texts.{is_option}
use Rattle.keep_rules.specs.Options.{setting_of}
use Rattle.keep_rules.specs.Reader.{fault, Reader, give, item, if_end, whole, none_left}
use Rattle.keep_rules.specs.Texts.{Attributes}
use Rattle.keep_rules.specs.Filtering.{filters}
use Rattle.keep_rules.specs.Paths.{paths_meet}
use Rattle.keep_rules.specs.Specifications.{keep}

-- ---- the values of options

-- a value of an option
abbrev pub valued : List ℕ → Option (List ℕ) → Result (List ℕ) RuleKind
valued option (Some value) = Ok value
valued option None = Err (BadValue option)

-- the value that a word is: a directory, without the `/` at its end, or a file, or any word
abbrev pub value_in : Value → List ℕ → Option (List ℕ)
value_in Directory word = directory_in word
value_in File word = file_in word
value_in AnyWord word = Some word

-- a word as a value of an option
abbrev pub value_meant : List ℕ → Value → List ℕ → Result (List ℕ) RuleKind
value_meant option value word = valued option (value_in value word)

-- the filter that takes every name
abbrev pub every : Filter
every = record { negated = false; pattern = codes "*" }

-- a filter of attributes, or none for all
unfoldable pub attributes : List ℕ → Reader (List Filter)
attributes option = if_end (give (every ∷ [])) (filters (Attributes option))

-- the value of an option that may stand once
unfoldable pub once : Value → Option (List ℕ) → Word → List Word → Result (List ℕ) RuleFault
once value slot option values =
    if is_some slot then Err (fault option.line (Repeated option.text))
    else whole (item MissingName (value_meant option.text value)) option values

-- ---- what an option adds to what was read

-- a step that isn't done
abbrev pub left_off : Step → Draft → Draft
left_off Shrink d = record d { shrink = false }
left_off Optimise d = record d { optimise = false }
left_off Obfuscate d = record d { obfuscate = false }

-- an option that leaves a step out, which has no value
unfoldable pub without : Step → Draft → List Word → Result Draft RuleFault
without step d values = none_left {A = Unit {0}} tt values >>= λ _. Ok (left_off step d)

-- more filters of attributes
unfoldable pub with_attributes : Draft → Word → List Word → Result Draft RuleFault
with_attributes d option values =
    whole (attributes option.text) option values >>= λ filters. Ok (record d { attrs = d.attrs ++ filters })

-- one more keep option
unfoldable pub with_keep : KeepKind → Bool → Draft → Word → List Word → Result Draft RuleFault
with_keep kind shrinking d option values =
    whole (keep kind shrinking option.text) option values >>= λ k. Ok (record d { keeps = d.keeps ++ k ∷ [] })

-- what an option sets
unfoldable pub set : Setting → Draft → Word → List Word → Result Draft RuleFault
set setting.InDir d option values = once Directory d.in_dir option values >>= λ v. Ok (record d { in_dir = Some v })
set setting.OutDir d option values = once Directory d.out_dir option values >>= λ v. Ok (record d { out_dir = Some v })
set setting.Mapping d option values = once File d.mapping option values >>= λ v. Ok (record d { mapping = Some v })
set setting.Seeds d option values = once File d.seeds option values >>= λ v. Ok (record d { seeds = Some v })
set setting.Usage d option values = once File d.usage option values >>= λ v. Ok (record d { usage = Some v })
set setting.Apply d option values = once File d.apply option values >>= λ v. Ok (record d { apply = Some v })
set setting.SourceName d option values =
    once AnyWord d.source_name option values >>= λ v. Ok (record d { source_name = Some v })
set (setting.Off step) d option values = without step d values
set setting.Attributes d option values = with_attributes d option values
set (setting.Keep kind shrinking) d option values = with_keep kind shrinking d option values
set setting.Ignored d option values = Ok d
set setting.LeftOut d option values = Err (fault option.line (LeftOut option.text))

-- what a call that sets options answered is what is due, and the draft is the one that is due; want of memory is free
abbrev pub Sets : Result (Unit {0}) (Or RuleFault) → Draft → Result Draft RuleFault → Type 0
Sets (Ok _) new due = due ≡ Ok new
Sets (Err (Fault f)) new due = due ≡ Err f
Sets (Err OutOfMemory) new due = Unit {0}

-- an option that is known, or not
abbrev pub set_known : Option Setting → Draft → Word → List Word → Result Draft RuleFault
set_known (Some s) d option values = set s d option values
set_known None d option values = Err (fault option.line UnknownOption)

-- an option and its values
unfoldable pub option_read : Draft → Word → List Word → Result Draft RuleFault
option_read d option values = set_known (setting_of option.text) d option values

-- ---- the options of a config

-- an option, and the words behind it up to the next that begins with `-`, which are its values
pub record Section : Type 0 where
  pub option : Word
  pub values : List Word

-- words up to the first option, and the options behind them
pub record Sections : Type 0 where
  pub front : List Word
  pub sections : List Section

-- the word is an option
abbrev pub word_is_option : Word → Bool
word_is_option word = is_option word.text

-- words are none, or begin with an option (only the proof of reading options needs it)
abbrev pub begins_so : List Word → Bool
begins_so [] = true
begins_so (word ∷ words) = word_is_option word

-- a word before others
abbrev pub word_before : Word → Bool → Sections → Sections
word_before word true s = record { front = []; sections = record { option = word; values = s.front } ∷ s.sections }
word_before word false s = record { front = word ∷ s.front; sections = s.sections }

-- the sections of words
unfoldable pub sections_of : List Word → Sections
sections_of [] = record { front = []; sections = [] }
sections_of (word ∷ words) = word_before word (is_option word.text) (sections_of words)

-- options, one behind the other
unfoldable pub options_read : Draft → List Section → Result Draft RuleFault
options_read d [] = Ok d
options_read d (s ∷ sections) = option_read d s.option s.values >>= λ more. options_read more sections

-- ---- the config as a whole

-- nothing is read
abbrev pub blank : Draft
blank = record {
  in_dir = None;
  out_dir = None;
  mapping = None;
  seeds = None;
  usage = None;
  apply = None;
  source_name = None;
  shrink = true;
  optimise = true;
  obfuscate = true;
  attrs = [];
  keeps = [];
}

-- a value that has to be there
abbrev pub needed : List ℕ → Option (List ℕ) → Result (List ℕ) RuleFault
needed option (Some value) = Ok value
needed option None = Err (fault 0 (MissingOption option))

-- the rules, by the three values that have to be there
abbrev pub rules_of : Draft → List ℕ → List ℕ → List ℕ → Rules
rules_of d in_dir out_dir mapping = record {
  in_dir = in_dir;
  out_dir = out_dir;
  mapping = mapping;
  seeds = d.seeds;
  usage = d.usage;
  apply = d.apply;
  shrink = d.shrink;
  optimise = d.optimise;
  obfuscate = d.obfuscate;
  attrs = d.attrs;
  source_name = d.source_name;
  keeps = d.keeps;
}

-- rules whose paths don't meet
abbrev pub apart : List ℕ → Rules → Result Rules RuleFault
apart witness rules = if paths_meet rules witness then Err (fault 0 SamePath) else Ok rules

-- the rules, if each option is there that has to be
unfoldable pub whole_rules : Draft → Result Rules RuleFault
whole_rules d = do
  in_dir ← needed (codes "-injars") d.in_dir
  out_dir ← needed (codes "-outjars") d.out_dir
  mapping ← needed (codes "-printmapping") d.mapping
  Ok (rules_of d in_dir out_dir mapping)

-- what was read, as rules
unfoldable pub finished : List ℕ → Draft → Result Rules RuleFault
finished witness d = do
  rules ← whole_rules d
  apart witness rules

-- the rules that words stand for, where the witness goes to this file
unfoldable pub rules_read : List Word → List ℕ → Result Rules RuleFault
rules_read words witness = do
  _ ← none_left {A = Unit {0}} tt (sections_of words).front
  d ← options_read blank (sections_of words).sections
  finished witness d
