use Rattle.std.proofs.Common.{◌≡◌, ◌≤◌, ◌++◌, length, take}
use Rattle.std.specs.Prelude.{string_bytes}
use Rattle.std.specs.List.{flat_map}
use Rattle.why_command.specs.Telling.{depth_line, step_line}
use Rattle.why_command.proofs.telling.derivation_text.Given as goal

abbrev pub invariant-loop-step : goal.invariant-loop-step
invariant-loop-step l = record {
  text : string_bytes l.text ≡ depth_line l.depth ++ flat_map (step_line l.texts) (take l.step-index l.steps);
  short : length (string_bytes l.text) ≤ 67108864;
}
