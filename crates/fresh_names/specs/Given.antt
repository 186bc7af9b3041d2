-- New names of what is kept, given in the order of first occurrence (ProGuard manual, "Usage": obfuscation; the order
-- is the project's own).
use Rattle.std.specs.Prelude.{ℕ, ◌-◌, ◌==◌, ◌||◌, not, List, [], ◌∷◌, ◌++◌, length, map, take, Option, Some, None}
use Rattle.std.specs.Prelude.{if◌then◌else◌}
use Rattle.std.specs.List.{filter, flat_map, fold, suffix_len}
use Rattle.std.specs.Map.{keys_of, lookup}
use Rattle.jv_base.specs.Names.{is_text}
use Rattle.jv_base.specs.Types.{method_text}
use Rattle.class_model.specs.declared.class.Class.{Class}
use Rattle.class_model.specs.declared.class.Field.{Field}
use Rattle.class_model.specs.declared.class.Method.{Method}
use Rattle.class_rename.specs.Names.{MethodName, Names, Tables, is_same_method, new_name}
use Rattle.fresh_names.specs.Fresh.{given, is_taken}
use Rattle.fresh_names.specs.Reserved.{reserved}
use Rattle.fresh_names.specs.declared.taken.Named.TheVariants as named
use Rattle.fresh_names.specs.declared.taken.TakenNames.{TakenNames}

-- the front of a class name: its package with the `/` behind it, or nothing (JVMS 4.2.1)
abbrev pub front_of : List ℕ → List ℕ
front_of name = take (length name - suffix_len (λ b. not (b == 47)) name) name

-- the front of a member's name: nothing (JVMS 4.2.2)
abbrev pub no_front : List ℕ → List ℕ
no_front name = []

-- each name once, where it stands first (the project's own)
unfoldable pub once : List (List ℕ) → List (List ℕ)
once [] = []
once (x ∷ xs) = x ∷ filter (λ y. not (is_text x y)) (once xs)

-- the names that get new ones: those that aren't taken, each where it stands first (the project's own)
abbrev pub olds : List (List ℕ) → List (List ℕ) → List (List ℕ)
olds taken names = once (filter (λ a. not (is_taken taken a)) names)

-- ---- the names of one group: classes of a package, fields, or methods of a descriptor

-- old names, each with its new one
abbrev pub NameTable : Type 0
NameTable = List (List ℕ × List ℕ)

-- the new names of a table
abbrev pub news_of : NameTable → List (List ℕ)
news_of table = map (λ (e : List ℕ × List ℕ). e.1) table

-- of names that stay, and of what an earlier mapping gives (ProGuard manual, "-applymapping")
module _ (old : List ℕ → Option (List ℕ)) (stays : List (List ℕ)) where
  -- a name gets what the earlier mapping gives it, where that doesn't stay and wasn't given before
  abbrev pub with_new : NameTable → List ℕ → Option (List ℕ) → NameTable
  with_new table name None = table
  with_new table name (Some new) =
      if is_taken stays new || is_taken (news_of table) new then table else table ++ (name, new) ∷ []

  -- one name more: it may stay, or have a new one
  abbrev pub taking : NameTable → List ℕ → NameTable
  taking table name =
      if is_taken stays name || is_taken (keys_of table) name then table else with_new table name (old name)

  -- what names get from the earlier mapping, in their order
  abbrev pub applied : List (List ℕ) → NameTable
  applied names = fold taking [] names

  -- the others get fresh names behind a front, in their order; what stays and what was given is skipped (the project's
  -- own)
  abbrev pub table_given : List ℕ → List (List ℕ) → NameTable
  table_given front names = applied names
      ++ given front (stays ++ news_of (applied names)) 0 (olds (stays ++ keys_of (applied names)) names)

  -- a name's new one
  abbrev pub given_name : List ℕ → List (List ℕ) → List ℕ → List ℕ
  given_name front names a = new_name (table_given front names) a

-- ---- what is named

-- the names of classes (JVMS 4.1)
abbrev pub class_names : List Class → List (List ℕ)
class_names classes = map (λ (c : Class). c.name) classes

-- the names of their fields (JVMS 4.5)
abbrev pub field_names : List Class → List (List ℕ)
field_names classes = flat_map (λ (c : Class). map (λ (f : Field). f.name) c.fields) classes

-- the names and descriptors of their methods (JVMS 4.6)
abbrev pub method_names : List Class → List MethodName
method_names classes = flat_map (λ (c : Class). map (λ (m : Method). (m.name, method_text m.ty)) c.methods) classes

-- those of a package, by its front (JVMS 4.2.1)
abbrev pub in_package : List ℕ → List (List ℕ) → List (List ℕ)
in_package front names = filter (λ a. is_text front (front_of a)) names

-- those of a descriptor (JVMS 4.3.3)
abbrev pub of_type : List ℕ → List MethodName → List (List ℕ)
of_type descriptor methods =
    map (λ (m : MethodName). m.0) (filter (λ (m : MethodName). is_text descriptor m.1) methods)

-- ---- new names

-- a name, where it is one of a package
abbrev pub if_in_package : List ℕ → Option (List ℕ) → Option (List ℕ)
if_in_package front None = None
if_in_package front (Some new) = if is_text front (front_of new) then Some new else None

-- the new name of a class: those of one package get theirs by themselves (the project's own: packages stay)
abbrev pub class_given : NameTable → List (List ℕ) → List (List ℕ) → List ℕ → List ℕ
class_given old stays names a =
    given_name (λ b. if_in_package (front_of a) (lookup (is_text b) old)) stays (front_of a)
    (in_package (front_of a) names) a

-- the new name of the fields of a name
abbrev pub field_given : NameTable → List (List ℕ) → List (List ℕ) → List ℕ → List ℕ
field_given old stays names a = given_name (λ b. lookup (is_text b) old) stays [] names a

-- the names that stay of methods with a descriptor: those of fixed ones, and those that are reserved for each descriptor
abbrev pub stays_for : List MethodName → List ℕ → List (List ℕ)
stays_for fixed descriptor = of_type descriptor fixed ++ reserved named.Method

-- the new name of the methods of a name and a descriptor: those of one descriptor get theirs by themselves
abbrev pub method_given : List (MethodName × List ℕ) → List MethodName → List MethodName → List ℕ → List ℕ → List ℕ
method_given old fixed methods name descriptor =
    given_name (λ b. lookup (is_same_method (b, descriptor)) old) (stays_for fixed descriptor) []
    (of_type descriptor methods) name

-- the new names of what is kept, of which an earlier mapping may give some (ProGuard manual, "Usage": obfuscation,
-- "-applymapping"; that methods of two descriptors may share a name is the project's own)
abbrev pub names_given : TakenNames → Tables → List Class → Names
names_given taken old kept = record {
  class = class_given old.classes taken.classes (class_names kept);
  field = field_given old.fields taken.fields (field_names kept);
  method = method_given old.methods taken.methods (method_names kept);
}
