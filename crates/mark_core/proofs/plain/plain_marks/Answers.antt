-- Answers of `plain_marks`: what its calls ask for, and what it promises.
use Rattle.std.proofs.Common.{subst, sym}
use Rattle.mark_core.specs.Marks.{Marks}
use Rattle.mark_core.proofs.Opening.{marks_at_end}
use Rattle.mark_core.proofs.plain.plain_marks.Goals as goal

pub returns : goal.returns
returns c =
    subst (Marks c.args.sys.now) (sym c.from_vec.ensures)
    (marks_at_end c.args.sys.now c.take_all.new.work c.in_ok-take_all.ensures.open c.in_ok-take_all.ensures.empty)
