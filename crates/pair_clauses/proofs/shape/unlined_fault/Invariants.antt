use Rattle.std.proofs.Common.{◌≡◌, List, drop, map}
use Rattle.mapping_file.specs.declared.mapping.MapClass.{MapClass}
use Rattle.pair_clauses.specs.Finding.{first_place}
use Rattle.pair_clauses.specs.Shape.{unlined_fault}
use Rattle.pair_clauses.specs.bodies.Seen.{HasNames}
use Rattle.pair_clauses.proofs.shape.unlined_fault.Given as goal

abbrev pub invariant-loop-number : goal.invariant-loop-number
invariant-loop-number l = (lines : List MapClass) → HasNames l.seen (map (λ (m : MapClass). m.new) lines)
    → first_place (unlined_fault lines) (drop l.number l.output) ≡ first_place (unlined_fault lines) l.output
