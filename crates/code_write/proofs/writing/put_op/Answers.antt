-- Answers of `put_op`: what its calls ask for, and what it promises.
use Rattle.std.proofs.Common.{◌∙◌}
use Rattle.std.specs.Prelude.{slice_index}
use Rattle.code_write.proofs.Lengths.{few_cases}
use Rattle.code_write.proofs.writing.put_op.Goals as goal

pub put_lookup_switch-requires-clause-count : goal.put_lookup_switch-requires-clause-count
put_lookup_switch-requires-clause-count c =
    let s = c.in-LookupSwitch in
    rw (c.as_slice-in-LookupSwitch.ensures ∙ c.deref-in-LookupSwitch.ensures)
    (few_cases c.args.table.now (slice_index c.args.places.now) c.args.at s.other s.cases
    (rw s.is at c.requires.size))
