-- Answers of `place_interface`: what its calls ask for, and what it promises.
use Rattle.std.proofs.Common.{sym, subst}
use Rattle.gen_classes.specs.Laws.{CanBeWritten}
use Rattle.gen_classes.proofs.files.place_interface.Goals as goal

pub place-requires : goal.place-requires
place-requires c = subst CanBeWritten (sym c.in_ok-class.ensures) c.generated_can_be_written.ensures.0
