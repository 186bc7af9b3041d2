use Rattle.std.proofs.Common.{◌≡◌, drop}
use Rattle.std.specs.List.{list_any}
use Rattle.class_model.specs.ClassFile.{is_left_out_entry}
use Rattle.class_read.proofs.parts.has_left_out_entry.Given as goal

abbrev pub invariant-loop-entry : goal.invariant-loop-entry
invariant-loop-entry l = list_any is_left_out_entry (drop l.entry-index l.entries)
    ≡ list_any is_left_out_entry l.entries
