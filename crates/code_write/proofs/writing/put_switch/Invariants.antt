use Rattle.std.proofs.Common.{◌≡◌, ◌++◌, replicate}
use Rattle.code_write.proofs.writing.put_switch.Given as goal

abbrev pub invariant-loop : goal.invariant-loop
invariant-loop l = l.out.items ≡ l.initial.out.items ++ replicate l.counter 0
