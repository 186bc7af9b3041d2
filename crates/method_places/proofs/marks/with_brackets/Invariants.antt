use Rattle.std.proofs.Common.{◌≡◌, replicate}
use Rattle.method_places.specs.bodies.Marks.{with_text}
use Rattle.method_places.proofs.marks.with_brackets.Given as goal

abbrev pub invariant-loop : goal.invariant-loop
invariant-loop l = l.longer ≡ with_text l.mark (replicate l.counter 91)
