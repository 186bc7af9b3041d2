-- What the calls answer, by the table (the project's own: what is asked of the library). A class is told by its number
-- in the table, a member by its number in its class.
use Rattle.std.specs.Prelude.{ℕ, Bool, false, ◌&&◌, List, [], Option, Some, None, slice_index_or, codes, map}
use Rattle.std.specs.Bool.{beq}
use Rattle.std.specs.List.{position, find, filter, filter_map, enumerate_from, list_any}
use Rattle.std.specs.Option.{option_map, option_and_then}
use Rattle.jv_base.specs.Names.{is_text}
use Rattle.lib_table.specs.declared.class.LibKind.TheVariants.{Open}
use Rattle.lib_table.specs.declared.member.LibMember.{LibMember}
use Rattle.lib_table.specs.Library.{LibraryMember, LibraryClass, class, library}

-- the number of the class with a name (JVMS 4.2.1)
abbrev pub class_named : List ℕ → Option ℕ
class_named name = position (λ c. is_text c.name name) library

-- the class with a number; past the last one it doesn't matter
abbrev pub class_at : ℕ → LibraryClass
class_at id = slice_index_or library id (class [] Open None [] [])

-- its direct superclass (JVMS 4.1)
abbrev pub super_of : ℕ → Option ℕ
super_of id = option_and_then class_named (class_at id).super_name

-- its direct superinterfaces (JVMS 4.1)
abbrev pub interfaces_of : ℕ → List ℕ
interfaces_of id = filter_map class_named (class_at id).interfaces

-- the member has this name and this descriptor (JVMS 4.5, 4.6)
abbrev pub is_member : List ℕ → List ℕ → LibraryMember → Bool
is_member name descriptor m = is_text m.name name && is_text m.descriptor descriptor

-- what a call tells of a member with its number
abbrev pub member_told : ℕ × LibraryMember → LibMember
member_told (at, m) = record {
  role = m.role;
  is_method = m.is_method;
  is_static = m.is_static;
  is_init = is_text m.name
      (codes "<init>");
  at = at;
}

-- the member with this name and this descriptor (JVMS 4.5, 4.6)
abbrev pub member_named : List LibraryMember → List ℕ → List ℕ → Option LibMember
member_named ms name descriptor = option_map member_told
    (find (λ p. is_member name descriptor p.1) (enumerate_from 0 ms))

-- the methods, constructors among them, in their order
abbrev pub methods_told : List LibraryMember → List LibMember
methods_told ms = map member_told (filter (λ p. p.1.is_method) (enumerate_from 0 ms))

-- there is such a method
abbrev pub is_method : List ℕ → List ℕ → Option LibraryMember → Bool
is_method name descriptor None = false
is_method name descriptor (Some m) = m.is_method && is_member name descriptor m

-- there are two methods, of one name and one descriptor
abbrev pub are_same_methods : Option LibraryMember → Option LibraryMember → Bool
are_same_methods None _ = false
are_same_methods (Some m) other = m.is_method && is_method m.name m.descriptor other

-- some class has such a member
abbrev pub is_named : List ℕ → Bool → Bool
is_named name method = list_any (λ c. list_any (λ m. beq m.is_method method && is_text m.name name) c.members) library
