-- Which optional attributes a config keeps (ProGuard manual, "-keepattributes", "-dontobfuscate",
-- "-renamesourcefileattribute").
use Rattle.std.specs.Prelude.{ℕ, Bool, not, ◌||◌, List, codes}
use Rattle.keep_rules.specs.declared.rules.Rules.{Rules}
use Rattle.keep_match.specs.Filters.{accepts_attribute}
use Rattle.attribute_filter.specs.declared.filter.AttributeFilter.{AttributeFilter}

-- an attribute of this name is kept where a filter accepts the name; and each one is where nothing is obfuscated, since
-- it is obfuscation that takes attributes away (ProGuard manual, "-keepattributes", "-dontobfuscate")
abbrev pub is_kept : Rules → List ℕ → Bool
is_kept rules name = not rules.obfuscate || accepts_attribute rules.attrs name

-- the same of each optional attribute that is told apart (JVMS 4.7), with the name that all source files get, where one
-- is given (ProGuard manual, "-renamesourcefileattribute")
abbrev pub filter_of : Rules → AttributeFilter
filter_of rules = record {
  exceptions = is_kept rules (codes "Exceptions");
  line_numbers = is_kept rules (codes "LineNumberTable");
  source_file = is_kept rules (codes "SourceFile");
  synthetic = is_kept rules (codes "Synthetic");
  deprecated = is_kept rules (codes "Deprecated");
  source_name = rules.source_name;
}
