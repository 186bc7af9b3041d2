use Rattle.std.proofs.Common.{◌≡◌, ◌++◌, length, drop, Ok}
use Rattle.class_model.specs.CanonicalCode.{places_from, code_bytes}
use Rattle.class_model.specs.WriteLimits.{branches_fit}
use Rattle.code_write.proofs.Ends.{bytes_from}
use Rattle.code_write.proofs.encoding.code_bytes.Given as goal

abbrev pub invariant-loop-instruction : goal.invariant-loop-instruction
invariant-loop-instruction l =
    (l.bytes.items ++ bytes_from l.table l.places (length l.bytes.items) (drop l.instruction-index l.ins)
    ≡ code_bytes l.table l.places l.ins)
    × (drop l.instruction-index l.places ≡ places_from l.table (length l.bytes.items) (drop l.instruction-index l.ins))
    × (branches_fit l.places l.instruction-index (drop l.instruction-index l.ins) ≡ Ok tt)
