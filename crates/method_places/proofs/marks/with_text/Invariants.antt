use Rattle.std.proofs.Common.{◌≡◌, drop}
use Rattle.method_places.specs.bodies.Marks.{with_text}
use Rattle.method_places.proofs.marks.with_text.Given as goal

abbrev pub invariant-loop-byte : goal.invariant-loop-byte
invariant-loop-byte l = with_text l.longer (drop l.byte-index l.text) ≡ with_text l.mark l.text
