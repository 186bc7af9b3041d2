use Rattle.std.proofs.Common.{◌≡◌, ◌++◌, take}
use Rattle.std.specs.List.{flat_map}
use Rattle.witness_file.specs.Witnesses.{ended_line, method_lines}
use Rattle.witness_file.proofs.writing.push_methods.Given as goal

abbrev pub invariant-loop-method : goal.invariant-loop-method
invariant-loop-method l = l.out.items ≡ l.initial.out.items ++ flat_map (λ m. flat_map ended_line (method_lines m))
    (take l.method-index l.methods)
