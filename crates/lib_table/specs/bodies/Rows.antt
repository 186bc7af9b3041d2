-- What the rows of the code's table tell (only the proofs of the calls need it).
use Rattle.std.specs.Prelude.{ℕ, List, Option, Some, None, map}
use Rattle.std.specs.Borrow.{Bor}
use Rattle.lib_table.specs.declared.table.ClassRow.{ClassRow}
use Rattle.lib_table.specs.declared.table.MemberRow.{MemberRow}
use Rattle.lib_table.specs.Library.{LibraryMember, LibraryClass}

-- the member that a row tells (only the proofs of the calls need it)
abbrev pub told_member : MemberRow → LibraryMember
told_member row =
    record {
      name = row.name.now;
      descriptor = row.descriptor.now;
      is_method = row.is_method;
      is_static = row.is_static;
      role = row.role;
    }

-- the name, where there is one (only the proofs of the calls need it)
abbrev pub told_name : Option (Bor (List ℕ)) → Option (List ℕ)
told_name None = None
told_name (Some name) = Some name.now

-- the class that a row tells (only the proofs of the calls need it)
abbrev pub told_class : ClassRow → LibraryClass
told_class row =
    record {
      name = row.name.now;
      kind = row.kind;
      super_name = told_name row.super_name;
      interfaces = map (λ name. name.now) row.interfaces.now;
      members = map told_member row.members.now;
    }
