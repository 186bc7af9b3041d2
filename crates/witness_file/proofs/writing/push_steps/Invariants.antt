use Rattle.std.proofs.Common.{◌≡◌, ◌+◌, ◌++◌, take}
use Rattle.std.specs.List.{flat_map}
use Rattle.witness_file.specs.Witnesses.{ended_line, steps_lines}
use Rattle.witness_file.proofs.writing.push_steps.Given as goal

abbrev pub invariant-loop-step : goal.invariant-loop-step
invariant-loop-step l = record {
  numbered : l.number ≡ 1 + l.step-index;
  written : l.out.items ≡ l.initial.out.items ++ flat_map ended_line (steps_lines 1 (take l.step-index l.steps));
}
