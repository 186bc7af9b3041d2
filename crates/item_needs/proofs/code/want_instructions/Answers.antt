-- Answers of `want_instructions`: what its calls ask for, and what it promises.
use Rattle.class_model.specs.declared.code.Ins.{Ins}
use Rattle.require_sys.specs.Requires.{op_wants}
use Rattle.item_numbers.proofs.Gathering.{nothing}
use Rattle.item_needs.proofs.SharedFrames.{same_is}
use Rattle.item_needs.proofs.Stamping.{more_same}
use Rattle.item_needs.proofs.code.want_instructions.Goals as goal

pub loop-instruction-init : goal.loop-instruction-init
loop-instruction-init c = same_is _ _ (nothing _)

pub loop-instruction-preserved : goal.loop-instruction-preserved
loop-instruction-preserved c =
    more_same (λ cs (i : Ins). op_wants cs c.args.number i.op) c.args.ins.now c.loop-instruction.instruction-index
    c.instruction-item.result _ c.loop-instruction.wants _
    c.loop-instruction-test.true c.instruction-item.is c.loop-instruction.invariant c.in_ok-want_op.ensures
