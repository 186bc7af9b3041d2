-- The words of a config by what they may be: patterns, filters, flags, modifiers (ProGuard manual, "Usage", "Filters",
-- "Class Specifications", "Keep Option Modifiers").
use Rattle.std.specs.Prelude.{ℕ, Bool, false, not, ◌&&◌, ◌||◌, ◌==◌, if◌then◌else◌, List, [], ◌∷◌}
use Rattle.std.specs.Prelude.{length, codes, Result, Ok, Err}
use Rattle.std.specs.List.{list_any}
use Rattle.jv_base.specs.Names.{is_text}
use Rattle.keep_rules.specs.declared.rules.Filter.{Filter}
use Rattle.keep_rules.specs.declared.texts.Part.{Part}
use Rattle.keep_rules.specs.declared.texts.Part.TheVariants.{Class, Member}
use Rattle.keep_rules.specs.declared.fault.RuleKind.{RuleKind}
use Rattle.keep_rules.specs.declared.fault.RuleKind.TheVariants.{BadClassSpec, BadMemberSpec, BadValue, LeftOut}
use Rattle.keep_rules.specs.declared.fault.RuleKind.TheVariants.{MissingName}

-- a text begins with this byte
abbrev pub begins_with : ℕ → List ℕ → Bool
begins_with byte [] = false
begins_with byte (b ∷ text) = b == byte

-- an option begins with `-` (ProGuard manual, "Usage")
abbrev pub is_option : List ℕ → Bool
is_option word = begins_with 45 word

-- a word that begins with `@` names a file of options or an annotation (ProGuard manual, "Usage", "Class
-- Specifications")
abbrev pub begins_at : List ℕ → Bool
begins_at word = begins_with 64 word

-- one of `( ) , ; { }`
abbrev pub is_mark : List ℕ → Bool
is_mark word = is_text word (codes "(") || is_text word (codes ")") || is_text word (codes ",")
    || is_text word (codes ";") || is_text word (codes "{") || is_text word (codes "}")

-- any other word that isn't empty is a pattern (the project's own: a pattern that no name can match is none the less
-- one)
abbrev pub is_pattern : List ℕ → Bool
is_pattern word = not (length word == 0) && not (is_mark word)

-- a word without the `!` at its front
abbrev pub without_not : List ℕ → List ℕ
without_not [] = []
without_not (b ∷ word) = if b == 33 then word else b ∷ word

-- a pattern or a flag, perhaps behind `!` (ProGuard manual, "Filters", "Class Specifications")
abbrev pub filter_of : List ℕ → Filter
filter_of word = record { negated = begins_with 33 word; pattern = without_not word }

-- a flag that a class may have (ProGuard manual, "Class Specifications")
unfoldable pub is_class_flag : List ℕ → Bool
is_class_flag word = is_text word (codes "public") || is_text word (codes "final") || is_text word (codes "abstract")
    || is_text word (codes "synthetic")

-- a flag that a member alone may have (ProGuard manual, "Class Specifications")
unfoldable pub is_own_flag : List ℕ → Bool
is_own_flag word = is_text word (codes "private") || is_text word (codes "protected") || is_text word (codes "static")
    || is_text word (codes "volatile") || is_text word (codes "transient") || is_text word (codes "synchronized")
    || is_text word (codes "native") || is_text word (codes "strictfp") || is_text word (codes "bridge")
    || is_text word (codes "varargs")

-- a flag of a class, or of a member
abbrev pub is_flag_of : Part → List ℕ → Bool
is_flag_of Class word = is_class_flag word
is_flag_of Member word = is_class_flag word || is_own_flag word

-- the word is such a flag, perhaps behind `!`
abbrev pub is_flag : Part → List ℕ → Bool
is_flag part word = is_flag_of part (without_not word)

-- what a class specification is of (ProGuard manual, "Class Specifications"; no enum is taken so far)
unfoldable pub is_class_kind : List ℕ → Bool
is_class_kind word = is_text word (codes "class") || is_text word (codes "interface")
    || is_text word (codes "!interface") || is_text word (codes "enum")

-- the words before what stands above a class
abbrev pub names_above : List ℕ → Bool
names_above word = is_text word (codes "extends") || is_text word (codes "implements")

-- what stands for members without a type (ProGuard manual, "Class Specifications")
abbrev pub is_any_member : List ℕ → Bool
is_any_member word = is_text word (codes "*") || is_text word (codes "<fields>") || is_text word (codes "<methods>")

-- the last part of a name, behind its last dot
unfoldable pub last_part : List ℕ → List ℕ
last_part [] = []
last_part (b ∷ name) = if list_any (λ c. c == 46) (b ∷ name) then last_part name else b ∷ name

-- the word is a name of a class, as it is written, or its last part
abbrev pub is_name : List ℕ → Filter → Bool
is_name word name = is_text word name.pattern || is_text word (last_part name.pattern)

-- a constructor's name is `<init>`, or one of the class (ProGuard manual, "Class Specifications")
abbrev pub is_constructor : List Filter → List ℕ → Bool
is_constructor names word = is_text word (codes "<init>") || list_any (is_name word) names

-- ---- what a word is where a part of a specification is expected, or what is wrong with it

-- what is wrong where a part of a specification is missing: a class specification ends before its class name
abbrev pub missing_in : Part → RuleKind
missing_in Class = MissingName
missing_in Member = BadMemberSpec

-- what is wrong where another word stands
abbrev pub bad_in : Part → RuleKind
bad_in Class = BadClassSpec
bad_in Member = BadMemberSpec

-- what is wrong with a word that is none of those that may stand somewhere
abbrev pub wrong : RuleKind → List ℕ → RuleKind
wrong bad word = if begins_at word then LeftOut word else bad

-- a word that passes the test
abbrev pub passing : (List ℕ → Bool) → RuleKind → List ℕ → Result (List ℕ) RuleKind
passing test bad word = if test word then Ok word else Err (wrong bad word)

-- a pattern of a specification
abbrev pub is_part : List ℕ → Bool
is_part word = is_pattern word && not (begins_at word)

-- what is filtered: class names, or the attributes of an option
pub data Filtered : Type 0 where
  Classes : Filtered
  Attributes : List ℕ → Filtered

-- a word is one pattern of such a filter, perhaps behind `!`
abbrev pub is_filter : Filtered → List ℕ → Bool
is_filter Classes word = is_pattern (without_not word) && not (begins_at word)
is_filter (Attributes option) word = is_pattern (without_not word)

-- what is wrong with another word
abbrev pub bad_filter : Filtered → List ℕ → RuleKind
bad_filter Classes word = wrong BadClassSpec word
bad_filter (Attributes option) word = BadValue option
