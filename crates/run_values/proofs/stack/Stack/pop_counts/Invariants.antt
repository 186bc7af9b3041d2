use Rattle.std.proofs.Common.{◌≡◌, ◌-◌, [], reverse}
use Rattle.jvm_model.specs.Stack.{counts_above}
use Rattle.run_values.proofs.stack.Stack.pop_counts.Given as goal

abbrev pub invariant-loop : goal.invariant-loop
invariant-loop l =
    counts_above (l.count - l.counter) (reverse l.taken.items) l.self ≡ counts_above l.count [] l.fn.self
