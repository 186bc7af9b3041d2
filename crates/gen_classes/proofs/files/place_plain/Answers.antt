-- Answers of `place_plain`: what its calls ask for, and what it promises.
use Rattle.std.proofs.Common.{sym, subst}
use Rattle.gen_classes.specs.Laws.{CanBeWritten}
use Rattle.gen_classes.proofs.files.place_plain.Goals as goal

pub place-requires : goal.place-requires
place-requires c =
    subst CanBeWritten (sym c.in_ok-class.ensures)
    (c.generated_can_be_written.ensures.1 c.args.n c.args.number c.requires.few c.requires.below).1
