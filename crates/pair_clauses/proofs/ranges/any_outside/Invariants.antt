use Rattle.std.proofs.Common.{◌≡◌, drop}
use Rattle.std.specs.List.{list_any}
use Rattle.class_model.specs.declared.code.Ins.{Ins}
use Rattle.pair_clauses.specs.bodies.Ranges.{is_line_outside}
use Rattle.pair_clauses.proofs.ranges.any_outside.Given as goal

abbrev pub invariant-loop-instruction : goal.invariant-loop-instruction
invariant-loop-instruction l =
    list_any (λ (i : Ins). is_line_outside l.range i.line) (drop l.instruction-index l.instructions)
    ≡ list_any (λ (i : Ins). is_line_outside l.range i.line) l.instructions
