-- Reading flags, and lists with commas between two (ProGuard manual, "Filters", "Class Specifications").
use Rattle.std.specs.Prelude.{ℕ, Bool, if◌then◌else◌, List, [], ◌∷◌, codes, Result, Ok, Err}
use Rattle.jv_base.specs.Names.{is_text}
use Rattle.conf_words.specs.declared.splitting.Word.{Word}
use Rattle.keep_rules.specs.declared.fault.RuleFault.{RuleFault}
use Rattle.keep_rules.specs.declared.fault.RuleKind.{RuleKind}
use Rattle.keep_rules.specs.declared.fault.RuleKind.TheVariants.{MissingName}
use Rattle.keep_rules.specs.declared.rules.Filter.{Filter}
use Rattle.keep_rules.specs.declared.texts.Part.{Part}
use Rattle.keep_rules.specs.declared.filtering.Filtered.{Filtered as Seen}
use Rattle.keep_rules.specs.declared.filtering.Filtered.TheVariants as seen
use Rattle.keep_rules.specs.Texts.{filter_of, is_flag, Filtered, Classes, Attributes, is_filter, bad_filter}
use Rattle.keep_rules.specs.Reader.{Ahead, ahead, fault, Reader, bind, give, item, put_before}

-- the flags with which words begin
abbrev pub flags_of : Part → ℕ → List Word → Result (List Filter × Ahead) RuleFault
flags_of part line [] = Ok ([], ahead line [])
flags_of part line (word ∷ words) =
    if is_flag part word.text then put_before (filter_of word.text) (flags_of part word.line words)
    else Ok ([], ahead line (word ∷ words))

-- flags, as many as there are
unfoldable pub flags : Part → Reader (List Filter)
flags part p = flags_of part p.line p.words

-- a comma
abbrev pub is_comma : List ℕ → Bool
is_comma word = is_text word (codes ",")

-- the list with which words begin: words joined by commas
abbrev pub list_of : {A : Type 0} → RuleKind → (List ℕ → Result A RuleKind) → ℕ → List Word
    → Result (List A × Ahead) RuleFault
list_of missing meaning line [] = Err (fault line missing)
list_of missing meaning line (word ∷ []) = bind (item missing meaning) (λ x. give (x ∷ [])) (ahead line (word ∷ []))
list_of missing meaning line (word ∷ comma ∷ words) =
    bind (item missing meaning)
    (λ x _. if is_comma comma.text then put_before x (list_of missing meaning comma.line words)
    else Ok (x ∷ [], ahead word.line (comma ∷ words)))
    (ahead line (word ∷ comma ∷ words))

-- one word or more, joined by commas
unfoldable pub list : {A : Type 0} → RuleKind → (List ℕ → Result A RuleKind) → Reader (List A)
list missing meaning p = list_of missing meaning p.line p.words

-- one pattern of a filter
abbrev pub filter_in : Filtered → List ℕ → Result Filter RuleKind
filter_in filtered word = if is_filter filtered word then Ok (filter_of word) else Err (bad_filter filtered word)

-- what is filtered, as the code has it
abbrev pub filtered_by : Seen → Filtered
filtered_by seen.Classes = Classes
filtered_by (seen.Attributes option) = Attributes option.now

-- a filter: patterns, each perhaps behind `!`, joined by commas
unfoldable pub filters : Filtered → Reader (List Filter)
filters filtered = list MissingName (filter_in filtered)
