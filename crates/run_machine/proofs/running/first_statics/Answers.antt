-- Answers of `first_statics`: what its calls ask for, and what it promises.
use Rattle.std.proofs.Common.{refl}
use Rattle.run_machine.proofs.running.first_statics.Goals as goal

pub returns : goal.returns
returns c = rw (
  c.in_ok-set.ensures,
  c.new-statics.ensures,
  c.new.ensures,
  c.in_ok-class.ensures,
  c.in_ok-name.ensures,
  c.in_ok-descriptor.ensures,
  c.reference.ensures,
) refl
