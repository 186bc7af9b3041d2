-- Members as they are found, with what links ask of them (JVMS 4.5, 4.6, 4.2.1, 5.3). Of a member that isn't there
-- nothing that is said matters.
use Rattle.std.specs.Prelude.{◌<◌, ℕ, ◌+◌, ◌==◌, Bool, true, false, not, ◌&&◌, List, [], ◌++◌, length, map, Option}
use Rattle.std.specs.Prelude.{slice_get, if◌then◌else◌, IsTrue}
use Rattle.std.specs.List.{before_last, filter_map}
use Rattle.std.specs.Option.{option_map, option_map_or}
use Rattle.jv_base.specs.Names.{is_text}
use Rattle.jv_base.specs.Types.{field_text, method_text}
use Rattle.class_model.specs.Flags.{acc_public, acc_private, acc_protected, acc_static, acc_final, acc_abstract, has}
use Rattle.class_model.specs.Flags.{is_init, is_static}
use Rattle.class_model.specs.declared.class.Class.{Class}
use Rattle.class_model.specs.declared.class.Field.{Field}
use Rattle.class_model.specs.declared.class.Method.{Method}
use Rattle.lib_table.specs.Library.{LibraryMember}
use Rattle.lib_table.specs.Lookups as table
use Rattle.lib_table.specs.declared.class.LibKind.{LibKind}
use Rattle.lib_table.specs.declared.member.Role.{Role}
use Rattle.lib_table.specs.declared.member.Role.TheVariants.{Callable}
use Rattle.class_pool.specs.declared.id.ClassId.{ClassId}
use Rattle.class_pool.specs.declared.id.ClassId.TheVariants.{Prog, Lib}
use Rattle.class_pool.specs.declared.id.MemberAt.{MemberAt}
use Rattle.class_pool.specs.Hierarchy.{IsClass, is_interface_kind}
use Rattle.class_pool.specs.Members.{declared_at}
use Rattle.class_pool.specs.Walk.{same_class}

-- two members are one (the project's own: a member is its class and number)
abbrev pub same_member : MemberAt → MemberAt → Bool
same_member a b = same_class a.class b.class && a.index == b.index

-- the name and the descriptor of a member (JVMS 4.4.6)
abbrev pub NameAndType : Type 0
NameAndType = List ℕ × List ℕ

-- the member of this name and descriptor that a class declares (JVMS 4.5, 4.6)
abbrev pub declared_in : List Class → NameAndType → ClassId → Option MemberAt
declared_in classes named c = option_map (λ n. record { class = c; index = n }) (declared_at classes c named.0 named.1)

-- those that these classes declare (JVMS 4.5, 4.6)
abbrev pub declared_by : List Class → NameAndType → List ClassId → List MemberAt
declared_by classes named cs = filter_map (declared_in classes named) cs

-- ---- what is told of a member

-- name, descriptor and flags of a member, and whether it is a method (JVMS 4.5, 4.6)
pub record MemberRow : Type 0 where
  pub named : NameAndType
  pub flags : ℕ
  pub is_method : Bool

-- what is told of a field (JVMS 4.5)
abbrev pub field_row : Field → MemberRow
field_row f = record { named = (f.name, field_text f.ty); flags = f.flags.0; is_method = false }

-- what is told of a method (JVMS 4.6)
abbrev pub method_row : Method → MemberRow
method_row m = record { named = (m.name, method_text m.ty); flags = m.flags.0; is_method = true }

-- a member of the library is public and not final; a method of an interface is abstract
-- (the project's own: what the table of the library says)
abbrev pub library_row : LibKind → LibraryMember → MemberRow
library_row kind m = record {
  named = (m.name, m.descriptor);
  flags = acc_public + (if m.is_static then acc_static else 0) +
      (if m.is_method && is_interface_kind kind then acc_abstract else 0);
  is_method = m.is_method;
}

-- the members of a class in the order of their numbers: fields first, then methods
-- (JVMS 4.5, 4.6; their order is the project's own)
abbrev pub rows_in : List Class → ClassId → List MemberRow
rows_in classes (Prog n) = option_map_or (λ c. map field_row c.fields ++ map method_row c.methods)
    (slice_get classes n) []
rows_in classes (Lib id) = map (library_row (table.class_at id).kind) (table.class_at id).members

-- what is told of a member, if it is there (JVMS 4.5, 4.6)
abbrev pub row_at : List Class → MemberAt → Option MemberRow
row_at classes m = slice_get (rows_in classes m.class) m.index

-- it is a method and not a field (JVMS 4.6)
abbrev pub is_method_at : List Class → MemberAt → Bool
is_method_at classes m = option_map_or (λ row. row.is_method) (row_at classes m) false

abbrev pub IsMethod : List Class → MemberAt → Type 0
IsMethod classes m = IsTrue (is_method_at classes m)

-- the name and the descriptor of a member (JVMS 4.4.6)
abbrev pub named_at : List Class → MemberAt → NameAndType
named_at classes m = option_map_or (λ row. row.named) (row_at classes m) ([], [])

-- the member is there (the project's own: a member is its class and number)
abbrev pub IsMember : List Class → MemberAt → Type 0
IsMember classes m = IsClass classes m.class × m.index < length (rows_in classes m.class)

-- it has all of these flags (JVMS 4.5, 4.6)
abbrev pub has_flag : List Class → ℕ → MemberAt → Bool
has_flag classes flag m = option_map_or (λ row. has flag row.flags) (row_at classes m) false

-- declared public (JVMS 4.5, 4.6)
abbrev pub is_public_member : List Class → MemberAt → Bool
is_public_member classes m = has_flag classes acc_public m

-- declared private (JVMS 4.5, 4.6)
abbrev pub is_private_member : List Class → MemberAt → Bool
is_private_member classes m = has_flag classes acc_private m

-- declared protected (JVMS 4.5, 4.6)
abbrev pub is_protected_member : List Class → MemberAt → Bool
is_protected_member classes m = has_flag classes acc_protected m

-- declared static (JVMS 4.5, 4.6)
abbrev pub is_static_member : List Class → MemberAt → Bool
is_static_member classes m = has_flag classes acc_static m

-- declared final (JVMS 4.5, 4.6)
abbrev pub is_final_member : List Class → MemberAt → Bool
is_final_member classes m = has_flag classes acc_final m

-- declared abstract (JVMS 4.6)
abbrev pub is_abstract_member : List Class → MemberAt → Bool
is_abstract_member classes m = has_flag classes acc_abstract m

-- a method that is neither static nor an instance initialisation method (JVMS 2.9)
abbrev pub is_instance_row : MemberRow → Bool
is_instance_row row = row.is_method && not (is_static row.flags) && not (is_init row.named.0)

-- the member is such a method (JVMS 2.9, 4.6)
abbrev pub is_instance_method : List Class → MemberAt → Bool
is_instance_method classes m = option_map_or is_instance_row (row_at classes m) false

-- how a program may use a member; one of its own it may name (the project's own: what of the library may be used)
abbrev pub role_at : MemberAt → Role
role_at m = role_in m.class m.index where
  role_in : ClassId → ℕ → Role
  role_in (Prog n) index = Callable
  role_in (Lib id) index = option_map_or (λ row. row.role) (slice_get (table.class_at id).members index) Callable

-- ---- packages

-- the name of a class (JVMS 4.2.1)
abbrev pub name_of : List Class → ClassId → List ℕ
name_of classes (Prog n) = option_map_or (λ c. c.name) (slice_get classes n) []
name_of classes (Lib id) = (table.class_at id).name

-- the name without its last part: the package, without characters where it has no name (JVMS 4.2.1)
abbrev pub package_of : List ℕ → List ℕ
package_of name = before_last (λ b. b == 47) name

-- two classes are of one run-time package; program classes have one loader, and none is in a package of the library
-- (JVMS 5.3)
abbrev pub same_package : List Class → ClassId → ClassId → Bool
same_package classes a b = is_text (package_of (name_of classes a)) (package_of (name_of classes b))
