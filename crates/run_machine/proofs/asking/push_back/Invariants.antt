use Rattle.std.proofs.Common.{◌≡◌, ◌++◌, reverse, take}
use Rattle.run_machine.proofs.asking.push_back.Given as goal

abbrev pub invariant-loop-operand : goal.invariant-loop-operand
invariant-loop-operand l = l.stack ≡ reverse (take l.operand-index l.operands) ++ l.fn.stack
