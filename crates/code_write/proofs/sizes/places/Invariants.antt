use Rattle.std.proofs.Common.{◌≡◌, ◌^◌, ◌<◌, ◌++◌, drop}
use Rattle.class_model.specs.CanonicalCode.{places_from, places}
use Rattle.code_write.proofs.Ends.{end_from}
use Rattle.code_write.proofs.sizes.places.Given as goal

abbrev pub invariant-loop-instruction : goal.invariant-loop-instruction
invariant-loop-instruction l = (end_from l.table l.at (drop l.instruction-index l.ins) ≡ end_from l.table 0 l.ins)
    × (l.at < 2 ^ 16 → l.places ++ places_from l.table l.at (drop l.instruction-index l.ins) ≡ places l.table l.ins)
