-- A row of the code's table, as an entry of the machine's (Java SE 8 API).
use Rattle.jvm_model.specs.LibraryRows.{Entry, entry}
use Rattle.run_library.specs.Rows.{method_of}
use Rattle.run_library.specs.declared.table.Method.{Method}

-- the entry
abbrev pub entry_of : Method → Entry
entry_of m = entry m.name.now m.descriptor.now (method_of m.row)
