-- Filters (ProGuard manual, "Filters").
use Rattle.std.specs.Prelude.{ℕ, Bool, false, not, ◌&&◌, ◌||◌, List, [], ◌∷◌, codes, if◌then◌else◌}
use Rattle.std.specs.List.{list_all, list_any}
use Rattle.jv_base.specs.Names.{is_text}
use Rattle.keep_rules.specs.declared.rules.Filter.{Filter}
use Rattle.keep_match.specs.Wildcards.{wild}

-- the first pattern that matches decides, and rejects where it stands behind a `!`; where none matches, a name is
-- accepted exactly where the last one does (ProGuard manual, "Filters"; the rule for no match is the project's own)
unfoldable pub accepts : (List ℕ → Bool) → List Filter → Bool
accepts matches [] = false
accepts matches (f ∷ []) = if matches f.pattern then not f.negated else f.negated
accepts matches (f ∷ (g ∷ fs)) = if matches f.pattern then not f.negated else accepts matches (g ∷ fs)

-- a filter of names of attributes accepts a name (ProGuard manual, "-keepattributes")
abbrev pub accepts_attribute : List Filter → List ℕ → Bool
accepts_attribute filters name = accepts (λ pattern. wild pattern name) filters

-- ---- flags

-- a word for access (JVMS 4.5, 4.6)
abbrev pub is_access_word : List ℕ → Bool
is_access_word word = is_text word (codes "public") || is_text word (codes "protected")
    || is_text word (codes "private")

-- a flag for access that is asked for (ProGuard manual, "Class Specifications")
abbrev pub asks_access : Filter → Bool
asks_access f = not f.negated && is_access_word f.pattern

-- what stands behind a `!` doesn't hold; what stands without one holds, unless it is for access
-- (ProGuard manual, "Class Specifications")
abbrev pub is_flag_met : (List ℕ → Bool) → Filter → Bool
is_flag_met holds f = if f.negated then not (holds f.pattern) else is_access_word f.pattern || holds f.pattern

-- each flag is met, and of those for access that are asked for one holds (ProGuard manual, "Class Specifications")
unfoldable pub flags_met : (List ℕ → Bool) → List Filter → Bool
flags_met holds flags = list_all (is_flag_met holds) flags
    && (not (list_any asks_access flags) || list_any (λ f. asks_access f && holds f.pattern) flags)
