-- Which words say what: the options of a config, class specifications and member specifications (ProGuard manual,
-- "Usage", "Filters", "Class Specifications", "Keep Options", "Keep Option Modifiers").
use Rattle.std.specs.Prelude.{◌≡◌, ◌⊎◌, ℕ, ◌<◌, Bool, true, false, not, List, [], ◌∷◌, ◌++◌, length, map, codes, IsTrue}
use Rattle.std.specs.Prelude.{Option, Some, None, option_to_list}
use Rattle.std.specs.List.{list_all, list_any, flat_map, filter_map, AllZip}
use Rattle.path_text.specs.Path.{is_path, directory_in}
use Rattle.keep_rules.specs.declared.rules.Filter.{Filter}
use Rattle.keep_rules.specs.declared.rules.MemberSpec.{MemberSpec}
use Rattle.keep_rules.specs.declared.rules.ClassSpec.{ClassSpec}
use Rattle.keep_rules.specs.declared.rules.Keep.{Keep}
use Rattle.keep_rules.specs.declared.rules.KeepKind.{KeepKind}
use Rattle.keep_rules.specs.declared.rules.KeepKind.TheVariants.{Keep as Classes, Members, WithMembers}
use Rattle.keep_rules.specs.declared.rules.Rules.{Rules}
use Rattle.keep_rules.specs.declared.keeping.Modifiers.{Modifiers}
use Rattle.keep_rules.specs.declared.texts.Part.{Part}
use Rattle.keep_rules.specs.declared.texts.Part.TheVariants.{Class, Member}
use Rattle.keep_rules.specs.Texts.{Filtered, Attributes, is_filter, filter_of, is_flag, is_part, is_option}
use Rattle.keep_rules.specs.Texts.{is_class_kind}
use Rattle.keep_rules.specs.Texts.{names_above, is_any_member, is_constructor}
use Rattle.keep_rules.specs.Texts as texts
use Rattle.keep_rules.specs.Options.{is_ignored}
use Rattle.keep_rules.specs.Specifications.{without_parameters, or_constructor, unmodified, with_modifier, keep_of}
use Rattle.keep_rules.specs.Paths.{paths_meet}
use Rattle.keep_rules.specs.Reading.{every}

-- ---- lists

-- lists of words, one behind the other
abbrev pub in_order : List (List (List ℕ)) → List (List ℕ)
in_order parts = flat_map (λ part. part) parts

-- with a comma between two
abbrev pub joined : List (List ℕ) → List (List ℕ)
joined [] = []
joined (word ∷ []) = word ∷ []
joined (word ∷ next ∷ words) = word ∷ codes "," ∷ joined (next ∷ words)

-- flags, each perhaps behind `!`
pub record AreFlags (part : Part) (words : List (List ℕ)) (flags : List Filter) : Type 0 where
  pub each : IsTrue (list_all (is_flag part) words)
  pub are : flags ≡ map filter_of words

-- a filter: one pattern or more, each perhaps behind `!`, with commas between
pub record AreFilters (filtered : Filtered) (words : List (List ℕ)) (filters : List Filter) : Type 0 where
  pub patterns : List (List ℕ)
  pub spelled : words ≡ joined patterns
  pub some : 0 < length patterns
  pub each : IsTrue (list_all (is_filter filtered) patterns)
  pub are : filters ≡ map filter_of patterns

-- ---- members

-- the parameters' types, in parentheses
pub record AreArguments (words : List (List ℕ)) (types : List (List ℕ)) : Type 0 where
  pub spelled : words ≡ codes "(" ∷ (joined types ++ codes ")" ∷ [])
  pub each : IsTrue (list_all is_part types)

-- perhaps parameters
abbrev pub AnyArguments : List (List ℕ) → Option (List (List ℕ)) → Type 0
AnyArguments words None = words ≡ []
AnyArguments words (Some types) = AreArguments words types

-- the word is no flag
abbrev pub IsNoFlag : List ℕ → Type 0
IsNoFlag word = is_flag Member word ≡ false

-- `*`, `<fields>` or `<methods>`
pub record AnyMember (words : List (List ℕ)) (ty : Option (List ℕ)) (name : List ℕ) (args : Option (List (List ℕ)))
    : Type 0
  where
    pub spelled : words ≡ name ∷ []
    pub known : IsTrue (is_any_member name)
    pub no_type : ty ≡ None
    pub no_arguments : args ≡ None

-- `<init>(types)`, or the class name as it is written or its last part in place of `<init>`
pub record Constructor (names : List Filter) (words : List (List ℕ)) (ty : Option (List ℕ)) (name : List ℕ)
    (args : Option (List (List ℕ))) : Type 0 where
  pub first : List ℕ
  pub parameters : List (List ℕ)
  pub types : List (List ℕ)
  pub spelled : words ≡ first ∷ parameters
  pub known : IsTrue (is_constructor names first)
  pub pattern : IsTrue (is_part first)
  pub no_flag : IsNoFlag first
  pub of_types : AreArguments parameters types
  pub no_type : ty ≡ None
  pub named : name ≡ codes "<init>"
  pub takes : args ≡ Some types

-- `type name`, or `type name(types)`
pub record Typed (words : List (List ℕ)) (ty : Option (List ℕ)) (name : List ℕ) (args : Option (List (List ℕ)))
    : Type 0 where
  pub first : List ℕ
  pub parameters : List (List ℕ)
  pub spelled : words ≡ first ∷ name ∷ parameters
  pub type_pattern : IsTrue (is_part first)
  pub name_pattern : IsTrue (is_part name)
  pub no_flag : IsNoFlag first
  pub of_type : ty ≡ Some first
  pub of_types : AnyArguments parameters args

-- one of the forms of a member
abbrev pub IsForm : List Filter → List (List ℕ) → Option (List ℕ) → List ℕ → Option (List (List ℕ)) → Type 0
IsForm names words ty name args = AnyMember words ty name args ⊎ Constructor names words ty name args
    ⊎ Typed words ty name args

-- flags, a form, and `;`
pub record IsMember (names : List Filter) (words : List (List ℕ)) (m : MemberSpec) : Type 0 where
  pub flags : List (List ℕ)
  pub form : List (List ℕ)
  pub spelled : words ≡ flags ++ (form ++ codes ";" ∷ [])
  pub flagged : AreFlags Member flags m.flags
  pub formed : IsForm names form m.ty m.name m.args

-- members, one behind the other
pub record AreMembers (names : List Filter) (words : List (List ℕ)) (members : List MemberSpec) : Type 0 where
  pub parts : List (List (List ℕ))
  pub spelled : words ≡ in_order parts
  pub each : AllZip (IsMember names) parts members

-- members in braces; without any, the constructor without parameters is meant (the project's own)
pub record InBraces (names : List Filter) (words : List (List ℕ)) (members : List MemberSpec) : Type 0 where
  pub inside : List (List ℕ)
  pub given : List MemberSpec
  pub spelled : words ≡ codes "{" ∷ (inside ++ codes "}" ∷ [])
  pub of_members : AreMembers names inside given
  pub are : members ≡ or_constructor given

-- members in braces, or no braces
abbrev pub IsBody : List Filter → List (List ℕ) → List MemberSpec → Type 0
IsBody names words members = ((words ≡ []) × (members ≡ without_parameters ∷ [])) ⊎ InBraces names words members

-- ---- classes

-- `extends` or `implements`, and one class name
pub record NamesAbove (words : List (List ℕ)) (name : List ℕ) : Type 0 where
  pub word : List ℕ
  pub spelled : words ≡ word ∷ name ∷ []
  pub known : IsTrue (names_above word)
  pub pattern : IsTrue (is_part name)

-- perhaps a class name above
abbrev pub AnyAbove : List (List ℕ) → Option (List ℕ) → Type 0
AnyAbove words None = words ≡ []
AnyAbove words (Some name) = NamesAbove words name

-- flags, `class` or another kind, a filter of class names, perhaps a class above, and perhaps members
pub record IsClassSpec (words : List (List ℕ)) (spec : ClassSpec) : Type 0 where
  pub flags : List (List ℕ)
  pub names : List (List ℕ)
  pub above : List (List ℕ)
  pub body : List (List ℕ)
  pub spelled : words ≡ flags ++ spec.kind ∷ (names ++ (above ++ body))
  pub flagged : AreFlags Class flags spec.flags
  pub of_kind : IsTrue (is_class_kind spec.kind)
  pub named : AreFilters texts.Classes names spec.names
  pub below : AnyAbove above spec.above
  pub having : IsBody spec.names body spec.members

-- ---- keep options

-- each behind a comma
abbrev pub behind_commas : List (List ℕ) → List (List ℕ)
behind_commas words = flat_map (λ word. codes "," ∷ word ∷ []) words

-- modifiers add to one another
abbrev pub Modify : Modifiers → List (List ℕ) → Modifiers → Type 0
Modify m [] all = m ≡ all
Modify m (word ∷ words) all = (more : Modifiers) × (with_modifier m word ≡ Some more) × Modify more words all

-- modifiers and a class specification
pub record IsKeep (kind : KeepKind) (shrinking : Bool) (words : List (List ℕ)) (keep : Keep) : Type 0 where
  pub modifiers : List (List ℕ)
  pub class : List (List ℕ)
  pub modified : Modifiers
  pub spec : ClassSpec
  pub spelled : words ≡ behind_commas modifiers ++ class
  pub modify : Modify (unmodified shrinking) modifiers modified
  pub of_class : IsClassSpec class spec
  pub is : keep ≡ keep_of kind modified spec

-- ---- options

-- what an option says
pub data Saying : Type 0 where
  in_dir : List ℕ → Saying
  out_dir : List ℕ → Saying
  mapping : List ℕ → Saying
  seeds : List ℕ → Saying
  usage : List ℕ → Saying
  apply : List ℕ → Saying
  source_name : List ℕ → Saying
  no_shrink : Saying
  no_optimise : Saying
  no_obfuscate : Saying
  attributes : List Filter → Saying
  keeps : Keep → Saying
  nothing : Saying

-- an option of one value
abbrev pub IsValue : List ℕ → List (List ℕ) → List ℕ → Type 0
IsValue option words value = words ≡ option ∷ value ∷ []

-- an option and a directory, which may have a `/` at its end
abbrev pub IsDirectory : List ℕ → List (List ℕ) → List ℕ → Type 0
IsDirectory option words directory = (value : List ℕ) × IsValue option words value
    × (directory_in value ≡ Some directory)

-- an option and a file
abbrev pub IsFile : List ℕ → List (List ℕ) → List ℕ → Type 0
IsFile option words file = IsValue option words file × IsTrue (is_path file)

-- `-keepattributes`, alone for all, or with a filter
abbrev pub IsAttributes : List (List ℕ) → List Filter → Type 0
IsAttributes words filters = ((words ≡ codes "-keepattributes" ∷ []) × (filters ≡ every ∷ []))
    ⊎ ((values : List (List ℕ)) × (words ≡ codes "-keepattributes" ∷ values)
    × AreFilters (Attributes (codes "-keepattributes")) values filters)

-- a keep option by its name
abbrev pub IsKeepOption : List ℕ → KeepKind → Bool → List (List ℕ) → Keep → Type 0
IsKeepOption option kind shrinking words keep =
    (values : List (List ℕ)) × (words ≡ option ∷ values) × IsKeep kind shrinking values keep

-- one of the keep options; those whose names end with `names` have allowshrinking
abbrev pub SaysKeep : List (List ℕ) → Keep → Type 0
SaysKeep words k = IsKeepOption (codes "-keep") Classes false words k
    ⊎ IsKeepOption (codes "-keepclassmembers") Members false words k
    ⊎ IsKeepOption (codes "-keepclasseswithmembers") WithMembers false words k
    ⊎ IsKeepOption (codes "-keepnames") Classes true words k
    ⊎ IsKeepOption (codes "-keepclassmembernames") Members true words k
    ⊎ IsKeepOption (codes "-keepclasseswithmembernames") WithMembers true words k

-- an option that changes nothing, with any values
abbrev pub IsInert : List (List ℕ) → Type 0
IsInert words = (option : List ℕ) × (values : List (List ℕ)) × (words ≡ option ∷ values) × IsTrue (is_ignored option)

-- the words of an option say this
abbrev pub Says : List (List ℕ) → Saying → Type 0
Says words (in_dir directory) = IsDirectory (codes "-injars") words directory
Says words (out_dir directory) = IsDirectory (codes "-outjars") words directory
Says words (mapping file) = IsFile (codes "-printmapping") words file
Says words (seeds file) = IsFile (codes "-printseeds") words file
Says words (usage file) = IsFile (codes "-printusage") words file
Says words (apply file) = IsFile (codes "-applymapping") words file
Says words (source_name name) = IsValue (codes "-renamesourcefileattribute") words name
Says words no_shrink = words ≡ codes "-dontshrink" ∷ []
Says words no_optimise = words ≡ codes "-dontoptimize" ∷ []
Says words no_obfuscate = words ≡ codes "-dontobfuscate" ∷ []
Says words (attributes filters) = IsAttributes words filters
Says words (keeps k) = SaysKeep words k
Says words nothing = IsInert words

-- an option is a word that begins with `-`, and its values don't (the project's own: in the manual a value may)
abbrev pub IsSection : List (List ℕ) → Type 0
IsSection [] = ⊥
IsSection (option ∷ values) = IsTrue (is_option option) × IsTrue (list_all (λ value. not (is_option value)) values)

-- ---- the config

-- the values of the sayings of one kind, in their order
abbrev pub in_dirs : Saying → Option (List ℕ)
in_dirs (in_dir directory) = Some directory
in_dirs _ = None

abbrev pub out_dirs : Saying → Option (List ℕ)
out_dirs (out_dir directory) = Some directory
out_dirs _ = None

abbrev pub mappings : Saying → Option (List ℕ)
mappings (mapping file) = Some file
mappings _ = None

abbrev pub seed_files : Saying → Option (List ℕ)
seed_files (seeds file) = Some file
seed_files _ = None

abbrev pub usage_files : Saying → Option (List ℕ)
usage_files (usage file) = Some file
usage_files _ = None

abbrev pub apply_files : Saying → Option (List ℕ)
apply_files (apply file) = Some file
apply_files _ = None

abbrev pub source_names : Saying → Option (List ℕ)
source_names (source_name name) = Some name
source_names _ = None

abbrev pub filters_of : Saying → List Filter
filters_of (attributes filters) = filters
filters_of _ = []

abbrev pub keeps_of : Saying → Option Keep
keeps_of (keeps k) = Some k
keeps_of _ = None

abbrev pub stops_shrinking : Saying → Bool
stops_shrinking no_shrink = true
stops_shrinking _ = false

abbrev pub stops_optimising : Saying → Bool
stops_optimising no_optimise = true
stops_optimising _ = false

abbrev pub stops_obfuscating : Saying → Bool
stops_obfuscating no_obfuscate = true
stops_obfuscating _ = false

-- the words of a config, whose witness goes to this file, stand for the rules
pub record IsConfig (words : List (List ℕ)) (witness : List ℕ) (rules : Rules) : Type 0 where
  pub sections : List (List (List ℕ))
  pub sayings : List Saying
  pub spelled : words ≡ in_order sections
  pub options : AllZip (λ section saying. IsSection section × Says section saying) sections sayings
  pub one_input : filter_map in_dirs sayings ≡ rules.in_dir ∷ []
  pub one_output : filter_map out_dirs sayings ≡ rules.out_dir ∷ []
  pub one_mapping : filter_map mappings sayings ≡ rules.mapping ∷ []
  pub one_seeds : filter_map seed_files sayings ≡ option_to_list rules.seeds
  pub one_usage : filter_map usage_files sayings ≡ option_to_list rules.usage
  pub one_apply : filter_map apply_files sayings ≡ option_to_list rules.apply
  pub one_source : filter_map source_names sayings ≡ option_to_list rules.source_name
  pub shrinks : rules.shrink ≡ not (list_any stops_shrinking sayings)
  pub optimises : rules.optimise ≡ not (list_any stops_optimising sayings)
  pub obfuscates : rules.obfuscate ≡ not (list_any stops_obfuscating sayings)
  pub filters : rules.attrs ≡ flat_map filters_of sayings
  pub keeping : rules.keeps ≡ filter_map keeps_of sayings
  pub apart : paths_meet rules witness ≡ false
