-- Reading class specifications and member specifications (ProGuard manual, "Class Specifications").
use Rattle.std.specs.Prelude.{ℕ, zero, suc, Bool, true, false, ◌&&◌, if◌then◌else◌, List, [], ◌∷◌, length, codes}
use Rattle.std.specs.Prelude.{Option, Some, None, Result, Ok, Err}
use Rattle.jv_base.specs.Names.{is_text}
use Rattle.conf_words.specs.declared.splitting.Word.{Word}
use Rattle.keep_rules.specs.declared.fault.RuleFault.{RuleFault}
use Rattle.keep_rules.specs.declared.fault.RuleKind.{RuleKind}
use Rattle.keep_rules.specs.declared.fault.RuleKind.TheVariants.{BadMemberSpec, BadValue, MissingName}
use Rattle.keep_rules.specs.declared.rules.Filter.{Filter}
use Rattle.keep_rules.specs.declared.rules.MemberSpec.{MemberSpec}
use Rattle.keep_rules.specs.declared.rules.ClassSpec.{ClassSpec}
use Rattle.keep_rules.specs.declared.rules.Keep.{Keep}
use Rattle.keep_rules.specs.declared.rules.KeepKind.{KeepKind}
use Rattle.keep_rules.specs.declared.keeping.Modifiers.{Modifiers}
use Rattle.keep_rules.specs.declared.specifications.Form.{Form as Seen}
use Rattle.keep_rules.specs.declared.texts.Part.TheVariants.{Class, Member}
use Rattle.keep_rules.specs.Texts.{is_class_kind, names_above, is_any_member, is_constructor, is_part, passing}
use Rattle.keep_rules.specs.Reader.{Ahead, ahead, fault, Reader, bind, give, item, expected, mark, if_next, if_ahead}
use Rattle.keep_rules.specs.Reader.{if_end, ◌>>=◌}
use Rattle.keep_rules.specs.Texts.{Classes}
use Rattle.keep_rules.specs.Filtering.{flags, list, is_comma, filters}

-- ---- members

-- a member specification without its flags: the type, the name and the parameters' types
abbrev pub Form : Type 0
Form = Option (List ℕ) × List ℕ × Option (List (List ℕ))

-- the same, as the code has it
abbrev pub form_seen : Seen → Form
form_seen form = (form.ty, form.name, form.args)

-- a name or a type
abbrev pub member_pattern : Reader (List ℕ)
member_pattern = expected Member is_part

-- types, joined by commas
unfoldable pub types : Reader (List (List ℕ))
types = list BadMemberSpec (passing is_part BadMemberSpec)

-- types, and the closing parenthesis
unfoldable pub closed_types : Reader (List (List ℕ))
closed_types = do
  types ← types
  _ ← mark Member (codes ")")
  give types

-- what stands behind an opening parenthesis
unfoldable pub arguments : Reader (List (List ℕ))
arguments = if_next (λ word. is_text word (codes ")")) (give []) closed_types

-- the parameters' types, if there are parentheses
unfoldable pub any_arguments : Reader (Option (List (List ℕ)))
any_arguments =
    if_next (λ word. is_text word (codes "(")) (bind arguments (λ types. give (Some types))) (give None)

-- a constructor's parameters, behind the opening parenthesis
unfoldable pub constructor : Reader Form
constructor = do
  args ← arguments
  give (None, codes "<init>", Some args)

-- a name behind a type, and perhaps parameters
unfoldable pub typed : List ℕ → Reader Form
typed ty = do
  name ← member_pattern
  args ← any_arguments
  give (Some ty, name, args)

-- what a member specification is that begins with a word: any members, a constructor, or a member with a type
unfoldable pub form_of : List Filter → List ℕ → Reader Form
form_of names first =
    if_ahead (λ word. is_any_member first && is_text word (codes ";")) (give (None, first, None))
    (if_next (λ word. is_constructor names first && is_text word (codes "(")) constructor (typed first))

-- a member specification with its `;`
unfoldable pub member : List Filter → Reader MemberSpec
member names = do
  flags ← flags Member
  first ← member_pattern
  form ← form_of names first
  _ ← mark Member (codes ";")
  give (record { flags = flags; ty = form.0; name = form.1; args = form.2 })

-- member specifications up to the closing brace; the count bounds the words
unfoldable pub members_in : ℕ → List Filter → Reader (List MemberSpec)
members_in zero names p = Err (fault p.line BadMemberSpec)
members_in (suc n) names p = if_next (λ word. is_text word (codes "}")) (give [])
    (bind (member names) (λ first. bind (members_in n names) (λ others. give (first ∷ others)))) p

-- member specifications up to the closing brace
unfoldable pub members : List Filter → Reader (List MemberSpec)
members names p = members_in (length p.words) names p

-- ---- classes

-- the constructor without parameters
abbrev pub without_parameters : MemberSpec
without_parameters = record { flags = []; ty = None; name = codes "<init>"; args = Some [] }

-- the members of a specification; where none is written, there is the constructor without parameters (the project's
-- own)
abbrev pub or_constructor : List MemberSpec → List MemberSpec
or_constructor [] = without_parameters ∷ []
or_constructor (m ∷ members) = m ∷ members

-- the members in braces
unfoldable pub in_braces : List Filter → Reader (List MemberSpec)
in_braces names = do
  _ ← mark Class (codes "{")
  members ← members names
  give (or_constructor members)

-- the members in braces, if there are braces; nothing else may stand there
unfoldable pub body : List Filter → Reader (List MemberSpec)
body names = if_end (give (without_parameters ∷ [])) (in_braces names)

-- the name behind `extends` or `implements`
unfoldable pub name_above : Reader (Option (List ℕ))
name_above = do
  name ← expected Class is_part
  give (Some name)

-- the name of a class above, if there is one
unfoldable pub above : Reader (Option (List ℕ))
above = if_next names_above name_above (give None)

-- a class specification
unfoldable pub class_spec : Reader ClassSpec
class_spec = do
  flags ← flags Class
  kind ← expected Class is_class_kind
  names ← filters Classes
  above ← above
  members ← body names
  give (record { flags = flags; kind = kind; names = names; above = above; members = members })

-- ---- keep options

-- no modifier; an option whose name ends with `names` has allowshrinking (ProGuard manual, "Keep Options")
abbrev pub unmodified : Bool → Modifiers
unmodified shrinking = record { descriptor_classes = false; allow_shrinking = shrinking; allow_obfuscation = false }

-- what a modifier adds (ProGuard manual, "Keep Option Modifiers"; allowoptimization changes nothing, since the passes
-- change code alone)
unfoldable pub with_modifier : Modifiers → List ℕ → Option Modifiers
with_modifier m word =
    if is_text word (codes "includedescriptorclasses") then Some (record m { descriptor_classes = true })
    else if is_text word (codes "allowshrinking") then Some (record m { allow_shrinking = true })
    else if is_text word (codes "allowoptimization") then Some m
    else if is_text word (codes "allowobfuscation") then Some (record m { allow_obfuscation = true })
    else None

-- a modifier, or a value that the option may not have
abbrev pub modifier_in : List ℕ → Option Modifiers → Result Modifiers RuleKind
modifier_in option (Some m) = Ok m
modifier_in option None = Err (BadValue option)

-- a word as a modifier of an option, beside those that were read
abbrev pub modifier_of : List ℕ → Modifiers → List ℕ → Result Modifiers RuleKind
modifier_of option m word = modifier_in option (with_modifier m word)

-- the modifiers with which words begin, each behind a comma, beside those that were read
abbrev pub modifiers_of : List ℕ → Modifiers → ℕ → List Word → Result (Modifiers × Ahead) RuleFault
modifiers_of option m line [] = Ok (m, ahead line [])
modifiers_of option m line (comma ∷ []) =
    if is_comma comma.text then Err (fault comma.line MissingName) else Ok (m, ahead line (comma ∷ []))
modifiers_of option m line (comma ∷ word ∷ words) =
    if is_comma comma.text
    then bind (item MissingName (modifier_of option m))
    (λ more _. modifiers_of option more word.line words) (ahead comma.line (word ∷ words))
    else Ok (m, ahead line (comma ∷ word ∷ words))

-- modifiers, each behind a comma, as many as there are
unfoldable pub modifiers : List ℕ → Modifiers → Reader Modifiers
modifiers option m p = modifiers_of option m p.line p.words

-- what a keep option says
abbrev pub keep_of : KeepKind → Modifiers → ClassSpec → Keep
keep_of kind m spec = record {
  kind = kind;
  descriptor_classes = m.descriptor_classes;
  allow_shrinking = m.allow_shrinking;
  allow_obfuscation = m.allow_obfuscation;
  spec = spec;
}

-- a keep option behind its name
unfoldable pub keep : KeepKind → Bool → List ℕ → Reader Keep
keep kind shrinking option = do
  modifiers ← modifiers option (unmodified shrinking)
  spec ← class_spec
  give (keep_of kind modifiers spec)
