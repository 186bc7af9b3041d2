use Rattle.std.proofs.Common.{◌≡◌, ◌++◌, drop, None}
use Rattle.std.specs.List.{flat_map}
use Rattle.class_model.specs.LineNumbers.{line_number}
use Rattle.class_model.specs.CanonicalClass.{line_rows_from}
use Rattle.class_write.proofs.code.put_line_rows.Given as goal

abbrev pub invariant-loop-number : goal.invariant-loop-number
invariant-loop-number l =
    l.out.items ++ flat_map line_number (line_rows_from l.before l.places l.number (drop l.number l.ins))
    ≡ l.initial.out.items ++ flat_map line_number (line_rows_from None l.places 0 l.ins)
