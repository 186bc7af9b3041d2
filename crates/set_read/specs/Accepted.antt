-- Which class files are taken as a set, and why others aren't (the project's own: which files the command takes).
use Rattle.std.specs.Prelude.{◌≡◌, ◌⊎◌, ℕ, List, ◌∷◌, ◌++◌, slice_get, Option, Some, None, Result, Ok, Err, ◌+◌, length}
use Rattle.std.specs.Prelude.{codes}
use Rattle.std.specs.List.{AllByRecursion, AllZip}
use Rattle.jv_base.specs.External.{dotted}
use Rattle.jv_base.specs.declared.outcome.Or.{Or}
use Rattle.jv_base.specs.declared.outcome.Or.TheVariants as or
use Rattle.tree_io.specs.declared.file_at.FileAt.{FileAt}
use Rattle.format_reading.specs.declared.fault.FormatFault.{FormatFault}
use Rattle.class_model.specs.ClassFile.{File}
use Rattle.class_model.specs.ReadingClass.{class_read}
use Rattle.class_model.specs.declared.class.Class.{Class}
use Rattle.class_pool.specs.Faults.{Builds, classes_of, first_faults}
use Rattle.class_pool.specs.KindNames.{pool_name}
use Rattle.class_pool.specs.Supertypes.{NoCycle}
use Rattle.class_pool.specs.declared.fault.NamedClass.{NamedClass}
use Rattle.class_pool.specs.declared.fault.PoolFault.{PoolFault}
use Rattle.link_check.specs.KindNames.{profile_name}
use Rattle.link_check.specs.Profile.{links_checked}
use Rattle.link_check.specs.declared.fault.ProfileFault.{ProfileFault}
use Rattle.report_text.specs.Spelled.{class_text, member_texts}
use Rattle.type_verifier.specs.KindNames.{type_name}
use Rattle.type_verifier.specs.Verified.{AreTyped, IsSetFault}
use Rattle.type_verifier.specs.declared.fault.TypeFault.{TypeFault}
use Rattle.set_read.specs.declared.fault.RuleFault.{RuleFault}
use Rattle.set_read.specs.declared.fault.RuleKind.{RuleKind}
use Rattle.set_read.specs.declared.fault.RuleKind.TheVariants as rule
use Rattle.set_read.specs.declared.fault.SetFault.{SetFault}
use Rattle.set_read.specs.declared.fault.SetFault.TheVariants.{Format, Rule}

-- ---- files

-- the bytes of a file spell the class, which keeps the path (JVMS 4)
abbrev pub Spells : FileAt → NamedClass → Type 0
Spells f named = (named.path ≡ f.path) × File f.bytes named.class

-- so it is of each file, in order
abbrev pub AreRead : List FileAt → List NamedClass → Type 0
AreRead files named = AllZip Spells files named

-- the bytes of a file spell some class (JVMS 4.1)
abbrev pub IsClassFile : FileAt → Type 0
IsClassFile f = (class : Class) × File f.bytes class

-- the first file whose bytes spell none has this path, and reading it from left to right ends with this fault
pub record IsUnread (files : List FileAt) (path : List ℕ) (fault : FormatFault) : Type 0 where
  pub before : List FileAt
  pub file : FileAt
  pub after : List FileAt
  pub split : files ≡ before ++ file ∷ after
  pub readable : AllByRecursion IsClassFile before
  pub unread : class_read file.bytes ≡ Err fault
  pub named : path ≡ file.path

-- ---- sets

-- the classes of the files: together they are a set (JVMS 4.1, 5.3.5), it breaks no rule (JVMS 4.10, 5.4.3 to 5.4.5),
-- and each method is typed (JVMS 4.10.1)
pub record IsAccepted (files : List FileAt) (classes : List Class) : Type 0 where
  pub named : List NamedClass
  pub read : AreRead files named
  pub are : classes ≡ classes_of named
  pub first : first_faults named ≡ Ok tt
  pub acyclic : NoCycle classes
  pub linked : links_checked classes ≡ Ok tt
  pub typed : AreTyped classes

-- ---- why others aren't taken

-- the name of the rule that is broken
abbrev pub rule_name : RuleKind → List ℕ
rule_name (rule.Pool kind) = pool_name kind
rule_name (rule.Profile kind) = profile_name kind
rule_name (rule.Type kind) = codes "Type " ++ type_name kind

-- classes that are no set: the class at fault, with its external name
abbrev pub named_pool_fault : PoolFault → RuleFault
named_pool_fault f = record { class = dotted f.class; member = None; kind = rule.Pool f.kind }

-- the text of the member with a number, or none for none
abbrev pub NamesMember : Class → Option ℕ → Option (List ℕ) → Type 0
NamesMember c None None = Unit {0}
NamesMember c (Some n) (Some text) = slice_get (member_texts c) n ≡ Some text
NamesMember c _ _ = ⊥

-- a set that breaks a rule: the class at fault and its member, by their texts
pub record NamesPlace (classes : List Class) (fault : ProfileFault) (told : RuleFault) : Type 0 where
  pub class : Class
  pub there : slice_get classes fault.class ≡ Some class
  pub name : told.class ≡ class_text class
  pub member : NamesMember class fault.member told.member
  pub kind : told.kind ≡ rule.Profile fault.kind

-- a code that isn't typed: the class and the method, by their texts (methods are numbered behind the fields)
pub record NamesMethod (classes : List Class) (fault : TypeFault) (told : RuleFault) : Type 0 where
  pub class : Class
  pub there : slice_get classes fault.class ≡ Some class
  pub name : told.class ≡ class_text class
  pub member : NamesMember class (Some (length class.fields + fault.method)) told.member
  pub kind : told.kind ≡ rule.Type fault.kind

-- the rule that a class of a set breaks: one for classes and references, or, where none is broken, a code isn't typed
abbrev pub BreaksClassRule : List Class → RuleFault → Type 0
BreaksClassRule classes told =
    ((fault : ProfileFault) × (links_checked classes ≡ Err fault) × NamesPlace classes fault told)
    ⊎ ((fault : TypeFault) × (links_checked classes ≡ Ok tt) × IsSetFault classes fault
    × NamesMethod classes fault told)

-- the rule that classes break: one of sets, or, where they are a set, one of those for its classes
abbrev pub BreaksRule : List NamedClass → RuleFault → Type 0
BreaksRule named told =
    ((fault : PoolFault) × Builds (Err (or.Fault fault)) named × (told ≡ named_pool_fault fault))
    ⊎ (Builds (Ok (classes_of named)) named × BreaksClassRule (classes_of named) told)

-- why files aren't taken
abbrev pub IsFault : List FileAt → SetFault → Type 0
IsFault files (Format path fault) = IsUnread files path fault
IsFault files (Rule told) = (named : List NamedClass) × AreRead files named × BreaksRule named told

-- the set of files, or why they are none
abbrev pub ReadsClasses : Result (List Class) (Or SetFault) → List FileAt → Type 0
ReadsClasses (Ok classes) files = IsAccepted files classes
ReadsClasses (Err (or.Fault fault)) files = IsFault files fault
ReadsClasses (Err or.OutOfMemory) files = Unit {0}
