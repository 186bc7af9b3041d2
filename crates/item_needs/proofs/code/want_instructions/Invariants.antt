use Rattle.std.proofs.Common.{take}
use Rattle.std.specs.List.{flat_map}
use Rattle.class_model.specs.declared.code.Ins.{Ins}
use Rattle.require_sys.specs.Requires.{op_wants}
use Rattle.item_numbers.specs.bodies.Wanting.{HasSame, wanting}
use Rattle.item_needs.proofs.code.want_instructions.Given as goal

abbrev pub invariant-loop-instruction : goal.invariant-loop-instruction
invariant-loop-instruction l = HasSame l.wants (wanting l.fn.wants
    (flat_map (λ (i : Ins). op_wants l.fn.wants.classes l.number i.op) (take l.instruction-index l.ins)))
