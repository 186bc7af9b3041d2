-- Answers of `op_size`: what its calls ask for, and what it promises.
use Rattle.std.proofs.Common.{sym, ◌∙◌}
use Rattle.code_write.proofs.Lengths.{table_size, lookup_size}
use Rattle.code_write.proofs.sizes.op_size.Goals as goal

pub returns-in-TableSwitch : goal.returns-in-TableSwitch
returns-in-TableSwitch c =
    let s = c.in-TableSwitch in
    rw (s.is, c.as_slice.ensures ∙ c.deref-in-TableSwitch.ensures, c.padding.ensures.value)
    (sym (table_size c.args.table.now c.args.at s.low s.other s.cases))

pub returns-in-LookupSwitch : goal.returns-in-LookupSwitch
returns-in-LookupSwitch c =
    let s = c.in-LookupSwitch in
    rw (
      s.is,
      c.as_slice-in-LookupSwitch.ensures
          ∙ c.deref-in-LookupSwitch.ensures,
      c.padding-in-LookupSwitch.ensures.value,
    )
    (sym (lookup_size c.args.table.now c.args.at s.other s.cases))
