use Rattle.std.proofs.Common.{◌≡◌, drop, false}
use Rattle.jv_base.specs.Names.{parts_whole}
use Rattle.jv_base.proofs.names.has_whole_parts.Given as goal

abbrev pub invariant-loop-byte : goal.invariant-loop-byte
invariant-loop-byte l = parts_whole l.in_part (drop l.byte-index l.bytes) ≡ parts_whole false l.bytes
