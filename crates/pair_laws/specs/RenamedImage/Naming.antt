-- What names and what is there under new names, as tests on the classes (the project's own).
use Rattle.std.specs.Prelude.{◌&&◌, ◌||◌, Bool, true, List, ◌++◌, map, Option, Some, None, codes, slice_get, is_some}
use Rattle.std.specs.Prelude.{if◌then◌else◌}
use Rattle.std.specs.List.{list_any}
use Rattle.jv_base.specs.Names.{is_text}
use Rattle.lib_table.specs.Library.{LibraryClass, library}
use Rattle.class_model.specs.declared.class.Class.{Class}
use Rattle.class_pool.specs.Found.{MemberRow, NameAndType, field_row, library_row, method_row, row_at}
use Rattle.class_pool.specs.declared.id.ClassId.{ClassId}
use Rattle.class_pool.specs.declared.id.ClassId.TheVariants.{Prog, Lib}
use Rattle.class_pool.specs.declared.id.MemberAt.{MemberAt}
use Rattle.class_rename.specs.Names.{Names}
use Rattle.pair_laws.specs.RenamedImage.Renaming.{renamed_named}

-- what is told of the members of a class, fields first (JVMS 4.5, 4.6)
abbrev pub rows_of : Class → List MemberRow
rows_of c = map field_row c.fields ++ map method_row c.methods

-- what is told of those of a class of the library
abbrev pub library_rows_of : LibraryClass → List MemberRow
library_rows_of c = map (library_row c.kind) c.members

-- a member has this name and descriptor (JVMS 4.5, 4.6)
abbrev pub is_row : NameAndType → MemberRow → Bool
is_row named row = is_text row.named.0 named.0 && is_text row.named.1 named.1

-- some class declares a member of this name and descriptor, or each may: a class initialisation method (JVMS 2.9)
abbrev pub is_declared : List Class → NameAndType → Bool
is_declared classes named = (is_text named.0 (codes "<clinit>") && is_text named.1 (codes "()V"))
    || (list_any (λ (c : Class). list_any (is_row named) (rows_of c)) classes
    || list_any (λ (c : LibraryClass). list_any (is_row named) (library_rows_of c)) library)

-- the new name and descriptor of what is declared
abbrev pub new_named : Names → List Class → NameAndType → Option NameAndType
new_named names classes named = if is_declared classes named then Some (renamed_named names named) else None

-- a class of the set is there; what is of the library stays in any case
abbrev pub is_class_there : List Class → ClassId → Bool
is_class_there classes (Prog n) = is_some (slice_get classes n)
is_class_there classes (Lib id) = true

-- a member of such a class is there
abbrev pub is_member_there : List Class → MemberAt → Bool
is_member_there classes m = is_some (row_at classes m)
