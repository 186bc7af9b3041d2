use Rattle.std.proofs.Common.{◌≡◌, [], drop, map}
use Rattle.std.specs.List.{find}
use Rattle.jvm_model.specs.LibraryRows.{is_entry}
use Rattle.run_library.specs.bodies.Tables.{entry_of}
use Rattle.run_library.proofs.table.row_among.Given as goal

abbrev pub invariant-loop-method : goal.invariant-loop-method
invariant-loop-method l =
    find (is_entry (record { class = []; name = l.name; descriptor = l.descriptor })) (map entry_of l.methods)
    ≡ find (is_entry (record { class = []; name = l.name; descriptor = l.descriptor }))
    (map entry_of (drop l.method-index l.methods))
