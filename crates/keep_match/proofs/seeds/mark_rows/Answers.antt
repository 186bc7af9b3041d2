-- Answers of `mark_rows`: what its calls ask for, and what it promises.
use Rattle.std.proofs.Common.{sym}
use Rattle.keep_match.proofs.MarkLaw.{off_marked}
use Rattle.keep_match.proofs.seeds.mark_rows.Goals as goal

pub returns-then-not-keeps_classes : goal.returns-then-not-keeps_classes
returns-then-not-keeps_classes c =
    off_marked c.args.set.now c.args.keep.now c.args.rows.now.items (sym c.if-not-keeps_classes.ensures)
