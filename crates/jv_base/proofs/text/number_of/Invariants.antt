use Rattle.std.proofs.Common.{◌≡◌, drop}
use Rattle.std.specs.List.{fold}
use Rattle.jv_base.specs.Tail.{with_byte}
use Rattle.jv_base.proofs.text.number_of.Given as goal

abbrev pub invariant-loop-byte : goal.invariant-loop-byte
invariant-loop-byte l = fold with_byte l.number (drop l.byte-index l.bytes) ≡ fold with_byte 0 l.bytes
