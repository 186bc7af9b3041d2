-- Answers of `are_assignable_in`: what its calls ask for, and what it promises.
use Rattle.type_verifier.specs.Assignable.{is_assignable}
use Rattle.type_verifier.proofs.Handled.{else_begun}
use Rattle.type_verifier.proofs.handlers.are_assignable_in.Goals as goal

pub loop-index-init : goal.loop-index-init
loop-index-init c = (
  c.requires.known.ordered,
  else_begun (is_assignable c.args.set.now) c.args.changed c.args.from.now c.args.to.now c.requires.known,
)
