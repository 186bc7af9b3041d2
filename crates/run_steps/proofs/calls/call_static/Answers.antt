-- Answers of `call_static`: what its calls ask for, and what it promises.
use Rattle.std.proofs.Common.{rules}
use Rattle.jvm_model.specs.Types.{argument_kinds}
use Rattle.run_steps.proofs.Taken.{operands_taken}
use Rattle.run_steps.proofs.calls.call_static.Goals as goal

pub returns-in-Some : goal.returns-in-Some
returns-in-Some g c = (
  search rules,
  (
    search rules,
    search rules,
    operands_taken c.args.method.now (argument_kinds c.args.method.now.ty) c.args.body.now.stack c.in-Some.arguments
        c.take_operands.new.stack (rw c.in-Some.is at c.in_ok-arguments.ensures),
  ),
)
